-- A line that is given of the bytes held.
use Rattle.std.proofs.Common.{◌≡◌, ℕ, ◌+◌, ◌<◌, ◌≤◌, List, [], ◌∷◌, ◌++◌, length, take, drop, ap, sym, ◌∙◌, arith, subst, Fits, w64, length-append, length-drop}
use Rattle.std.proofs.lemmas.List.{drop-drop, length-take}
use Rattle.envy_io.specs.declared.lines.Front.TheVariants.{Line}
use Rattle.envy_io.specs.Lines.{NoNewline, newline}
use Rattle.envy_io.specs.Taking.{IsOpen}
use Rattle.envy_io.specs.Asking.{BeginsWith}

pub line-fits : (line held : List ℕ) (n : ℕ) → line ≡ [] → n ≤ 120 → (128 < 9223372036854775808) × (length line + length (take n held) ≤ 120)
line-fits line held n empty short = (omega arith, omega (arith, ap length empty, short, length-take n held))

pub line-small : (n : ℕ) → n ≤ 120 → Fits w64 (n + 1)
line-small n short = omega (arith, short)

pub line-inside : (held buffer : List ℕ) (given n : ℕ) → drop given buffer ≡ held → BeginsWith held (Line n) → given + (n + 1) ≤ length buffer
line-inside held buffer given n is begins =
    omega (arith, ap length is, length-drop given buffer, ap length begins.2, length-append (take n held) (newline ∷ drop (n + 1) held), length-take n held, length-drop (n + 1) held)

pub line-first : (items line shown held buffer : List ℕ) (given n : ℕ) → items ≡ line ++ take n shown → line ≡ [] → shown ≡ held → drop given buffer ≡ held → BeginsWith held (Line n)
    → NoNewline items × (length items ≤ 120) × (held ≡ items ++ newline ∷ drop (given + (n + 1)) buffer)
line-first items line shown held buffer given n put empty same is begins =
    let first : items ≡ take n held = put ∙ (ap (λ (l : List ℕ). l ++ take n shown) empty ∙ ap (take n) same) in
    let behind : drop (n + 1) held ≡ drop (given + (n + 1)) buffer = ap (drop (n + 1)) (sym is) ∙ drop-drop (n + 1) given buffer in (
      subst NoNewline (sym first) begins.1,
      omega (arith, ap length first, length-take n held, begins.0),
      begins.2 ∙ (ap (λ (l : List ℕ). l ++ newline ∷ drop (n + 1) held) (sym first) ∙ ap (λ (l : List ℕ). items ++ newline ∷ l) behind),
    )

pub open-fits : (line shown held : List ℕ) → line ≡ [] → shown ≡ held → IsOpen held → (128 < 9223372036854775808) × (length line + length shown ≤ 120)
open-fits line shown held empty same is = (omega arith, omega (arith, ap length empty, ap length same, is.short))

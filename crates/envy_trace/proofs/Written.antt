-- A written line is a spelling of the line.
use Rattle.std.proofs.Common.{◌≡◌, ◌≢◌, ℕ, ◌+◌, ◌-◌, ◌*◌, ◌^◌, ◌<◌, ◌≤◌, Bool, true, false, cond, ◌==◌, nat_lt, List, [], ◌∷◌, ◌++◌, length, take, drop, get_or, map, filter, codes, decimal, Option, Some, refl, sym, ap, ◌∙◌, subst, arith, append-nil, length-append, length-drop, get_or-drop}
use Rattle.std.specs.List.{All, AllZip, AllByRecursion, flat_map, ends_with, list_all}
use Rattle.std.proofs.lemmas.Bool.{cond-true, lt-ltb, ltb-true}
use Rattle.std.proofs.lemmas.Bool.Decides.{nat_tests}
use Rattle.std.proofs.lemmas.Fmt.{decimal_is_IsNumeral, decimal_nonempty, length-decimal-le}
use Rattle.std.proofs.lemmas.List.{get_or_default}
use Rattle.std.proofs.lemmas.List.Elements.{All-nil, All-cons, All-append, All-weaker}
use Rattle.std.proofs.lemmas.List.Splits.{slice_split_none, slice_split_at}
use Rattle.std.proofs.lemmas.Slice.Eq.{bytes_eq-Decides}
use Rattle.std.proofs.lemmas.Str.Parse.{digit_at}
use Rattle.envy_trace.specs.declared.line.Line.{Line}
use Rattle.envy_trace.specs.declared.line.Line.TheVariants.{Empty, Load, Look, Store, Begin, Put, Commit, Abort, Tick, Power, Cut, Bad, Stat}
use Rattle.envy_trace.specs.Grammar.{is_blank, pieces, without_return, fields_of}
use Rattle.envy_trace.proofs.Numerals.{both}
use Rattle.envy_trace.specs.Spelling.{parts, IsLine, IsNumeralOf, written, written_parts, line_bytes, Spells, Reads}
use Rattle.envy_trace.proofs.Pieces.{is_full}

-- a field as it is written: not empty, of bytes above the space
pub record IsField (w : List ℕ) : Type 0 where
  pub some : 0 < length w
  pub bytes : All (λ b. 32 < b) w

above : (b : ℕ) → 32 < b → is_blank b ≡ false
above b h = grind (arith, nat_tests)

no_blanks : (w : List ℕ) → IsField w → All (λ b. is_blank b ≡ false) w
no_blanks w is = All-weaker (λ b. 32 < b) (λ b. is_blank b ≡ false) above w is.bytes

piece_alone : (w : List ℕ) → IsField w → pieces w ≡ w ∷ []
piece_alone w is =
    ap (λ ps. filter is_full ps) (slice_split_none is_blank w (no_blanks w is)) ∙ cond-true _ _ _ (lt-ltb 0 (length w) is.some)

piece_first : (w rest : List ℕ) → IsField w → pieces (w ++ 32 ∷ rest) ≡ w ∷ pieces rest
piece_first w rest is =
    ap (λ ps. filter is_full ps) (slice_split_at is_blank w 32 rest (no_blanks w is) refl) ∙ cond-true _ _ _ (lt-ltb 0 (length w) is.some)

decimal_field : (n : ℕ) → n < 2 ^ 64 → IsField (decimal n)
decimal_field n fits =
    record {
      some = decimal_nonempty n fits;
      bytes = λ k d lt.
          let digit = digit_at (decimal n) k (decimal_is_IsNumeral n fits).0.1 lt in
          omega (arith, digit.0, get_or_default (decimal n) k d 0 lt);
    }

pieces_written : (ns : List ℕ) → AllByRecursion (λ n. n < 2 ^ 64) ns → (w : List ℕ) → IsField w → pieces (written w ns) ≡ w ∷ map decimal ns
pieces_written [] all w is = ap pieces (append-nil w) ∙ piece_alone w is
pieces_written (n ∷ ns) all w is = piece_first w (written (decimal n) ns) is ∙ ap (λ ps. w ∷ ps) (pieces_written ns all.1 (decimal n) (decimal_field n all.0))

-- nothing written is below a space
printed : (ns : List ℕ) → AllByRecursion (λ n. n < 2 ^ 64) ns → (w : List ℕ) → IsField w → All (λ b. 32 ≤ b) (written w ns)
printed ns all w is = All-append (λ b. 32 ≤ b) w (flat_map (λ n. 32 ∷ decimal n) ns) (at_least w is) (numbers ns all)
  where
    at_least : (v : List ℕ) → IsField v → All (λ b. 32 ≤ b) v
    at_least v f = All-weaker (λ b. 32 < b) (λ b. 32 ≤ b) (λ b h. omega arith) v f.bytes

    numbers : (ns : List ℕ) → AllByRecursion (λ n. n < 2 ^ 64) ns → All (λ b. 32 ≤ b) (flat_map (λ n. 32 ∷ decimal n) ns)
    numbers [] all = All-nil (λ b. 32 ≤ b)
    numbers (n ∷ ns) all =
        All-append (λ b. 32 ≤ b) (32 ∷ decimal n) (flat_map (λ n. 32 ∷ decimal n) ns)
        (All-cons (λ b. 32 ≤ b) 32 (decimal n) (omega arith) (at_least (decimal n) (decimal_field n all.0)))
        (numbers ns all.1)

no_return : (bs : List ℕ) → All (λ b. 32 ≤ b) bs → without_return bs ≡ bs
no_return bs all = go (ends_with ◌==◌ bs (codes "\r")) refl
  where
    go : (v : Bool) → ends_with ◌==◌ bs (codes "\r") ≡ v → cond v (take (length bs - 1) bs) bs ≡ bs
    go true e =
        let last = sym ((bytes_eq-Decides (codes "\r") (drop (length bs - 1) bs)).0 e) in
        let long = ap length last in
        let byte = ap (λ xs. get_or xs 0 0) last in
        absurd (omega (arith, length-drop (length bs - 1) bs, long, byte, get_or-drop (length bs - 1) bs 0 0, all (length bs - 1 + 0) 0))
    go false e = refl

few_bytes : (ns : List ℕ) → AllByRecursion (λ n. n < 2 ^ 64) ns → length (flat_map (λ n. 32 ∷ decimal n) ns) ≤ 21 * length ns
few_bytes [] all = omega arith
few_bytes (n ∷ ns) all =
    let more = few_bytes ns all.1 in
    let digits = length-decimal-le 20 n (omega arith) (omega (arith, all.0)) all.0 in
    omega (arith, length-append (32 ∷ decimal n) (flat_map (λ n. 32 ∷ decimal n) ns))

numerals : (ns : List ℕ) → AllByRecursion (λ n. n < 2 ^ 64) ns → AllZip IsNumeralOf (map decimal ns) ns
numerals [] all = tt
numerals (n ∷ ns) all = (decimal_is_IsNumeral n all.0, numerals ns all.1)

-- the parts of a line, as they are written
pub record HasForm (p : List ℕ × List ℕ) : Type 0 where
  pub word : IsField p.0
  pub short : length p.0 ≤ 6
  pub numbers : AllByRecursion (λ n. n < 2 ^ 64) p.1
  pub few : length p.1 ≤ 3

plain : (w : List ℕ) → list_all (nat_lt 32) w ≡ true → All (λ b. 32 < b) w
plain [] e = All-nil (λ b. 32 < b)
plain (b ∷ w) e = let h = both (nat_lt 32 b) (list_all (nat_lt 32) w) e in All-cons (λ b. 32 < b) b w (ltb-true 32 b h.0) (plain w h.1)

pub form : (w : List ℕ) (ns : List ℕ) → 0 < length w → list_all (nat_lt 32) w ≡ true → length w ≤ 6 → AllByRecursion (λ n. n < 2 ^ 64) ns → length ns ≤ 3 → HasForm (w, ns)
form w ns some e short numbers few = record { word = record { some = some; bytes = plain w e }; short = short; numbers = numbers; few = few }

-- what is written of parts spells them
pub spells_written : (p : List ℕ × List ℕ) → HasForm p → (length (written p.0 p.1) ≤ 120) × Spells (fields_of (written p.0 p.1)) (Some p) × All (λ b. 32 ≤ b) (written p.0 p.1)
spells_written p f =
    let bytes = printed p.1 f.numbers p.0 f.word in
    let same = ap pieces (no_return (written p.0 p.1) bytes) ∙ pieces_written p.1 f.numbers p.0 f.word in (
      omega (arith, length-append p.0 (flat_map (λ n. 32 ∷ decimal n) p.1), few_bytes p.1 f.numbers, f.short, f.few),
      (map decimal p.1, same, numerals p.1 f.numbers),
      bytes,
    )

-- what holds of a written line
pub record Prints (line : Line) (bytes : List ℕ) : Type 0 where
  pub reads : Reads bytes line
  pub above : All (λ b. 32 ≤ b) bytes

prints_parts : (line : Line) (w ns : List ℕ) → parts line ≡ Some (w, ns) → HasForm (w, ns) → IsLine line → Prints line (line_bytes line)
unfolding line_bytes
prints_parts line w ns e f is =
    let h = spells_written (w, ns) f in
    let fields = subst (λ (p : Option (List ℕ × List ℕ)). Spells (fields_of (written w ns)) p) (sym e) h.1 in
    subst (λ (p : Option (List ℕ × List ℕ)). Prints line (written_parts p)) (sym e)
    (record { reads = record { short = h.0; fields = fields; ranges = is }; above = h.2 })

pub prints : (line : Line) → IsLine line → Prints line (line_bytes line)
unfolding line_bytes
prints Empty is = record { reads = record { short = omega arith; fields = refl; ranges = tt }; above = All-nil (λ b. 32 ≤ b) }
prints (Load a) is = prints_parts (Load a) (codes "load") (a ∷ []) refl (form (codes "load") (a ∷ []) (omega arith) refl (omega arith) (omega arith, tt) (omega arith)) is
prints (Look a) is = prints_parts (Look a) (codes "look") (a ∷ []) refl (form (codes "look") (a ∷ []) (omega arith) refl (omega arith) (omega arith, tt) (omega arith)) is
prints (Store a w) is = prints_parts (Store a w) (codes "store") (a ∷ w ∷ []) refl (form (codes "store") (a ∷ w ∷ []) (omega arith) refl (omega arith) (omega arith, (omega arith, tt)) (omega arith)) is
prints Begin is = prints_parts Begin (codes "begin") [] refl (form (codes "begin") [] (omega arith) refl (omega arith) tt (omega arith)) is
prints (Put t a w) is = prints_parts (Put t a w) (codes "put") (t ∷ a ∷ w ∷ []) refl (form (codes "put") (t ∷ a ∷ w ∷ []) (omega arith) refl (omega arith) (omega arith, (omega arith, (omega arith, tt))) (omega arith)) is
prints (Commit t) is = prints_parts (Commit t) (codes "commit") (t ∷ []) refl (form (codes "commit") (t ∷ []) (omega arith) refl (omega arith) (omega arith, tt) (omega arith)) is
prints (Abort t) is = prints_parts (Abort t) (codes "abort") (t ∷ []) refl (form (codes "abort") (t ∷ []) (omega arith) refl (omega arith) (omega arith, tt) (omega arith)) is
prints Tick is = prints_parts Tick (codes "tick") [] refl (form (codes "tick") [] (omega arith) refl (omega arith) tt (omega arith)) is
prints Power is = prints_parts Power (codes "power") [] refl (form (codes "power") [] (omega arith) refl (omega arith) tt (omega arith)) is
prints (Cut k g) is = prints_parts (Cut k g) (codes "cut") (k ∷ g ∷ []) refl (form (codes "cut") (k ∷ g ∷ []) (omega arith) refl (omega arith) (omega arith, (omega arith, tt)) (omega arith)) is
prints (Bad k g) is = prints_parts (Bad k g) (codes "bad") (k ∷ g ∷ []) refl (form (codes "bad") (k ∷ g ∷ []) (omega arith) refl (omega arith) (omega arith, (omega arith, tt)) (omega arith)) is
prints Stat is = prints_parts Stat (codes "stat") [] refl (form (codes "stat") [] (omega arith) refl (omega arith) tt (omega arith)) is

-- no newline stands in a written line
pub one_line : (bytes : List ℕ) → All (λ b. 32 ≤ b) bytes → All (λ b. b ≢ 10) bytes
one_line bytes above = All-weaker (λ b. 32 ≤ b) (λ b. b ≢ 10) (λ b h. omega arith) bytes above

-- A view of a range keeps the law of any memory of words.
use Rattle.std.specs.Prelude.{◌≡◌, ℕ, ◌+◌, ◌≤◌, List, ◌++◌, length, drop}
use Rattle.std.proofs.Common.{ap, sym, ◌∙◌, arith}
use Rattle.std.proofs.lemmas.List.{length-drop, length-take-le}
use Rattle.envy_array.specs.Words.{Sheet, IsSheet}
use Rattle.envy_range.specs.Ranges.{inside, outside, within}

-- there are as many words in a range as it says
pub inside-long : (first count : ℕ) (ws : List ℕ) → first + count ≤ length ws → length (inside first count ws) ≡ count
unfolding inside
inside-long first count ws fits = length-take-le count (drop first ws) (omega (arith, fits, length-drop first ws))

pub lawful_view : (first count : ℕ) (s : Sheet) → first + count ≤ length s.words → IsSheet s → IsSheet (within first count s)
lawful_view first count s fits law =
    let size = inside-long first count s.words fits in
    record {
      long = inside-long first count s.kept (omega (arith, fits, law.long)) ∙ sym size;
      few = omega (arith, size, fits, law.few);
      shut = λ shut. ap (inside first count) (law.shut shut);
      off = law.off;
      shut_beside = λ shut. ap (λ (ws : List ℕ). outside first count ws ++ s.beside) (law.shut shut) ∙ ap (λ (ws : List ℕ). outside first count s.kept ++ ws) (law.shut_beside shut);
    }

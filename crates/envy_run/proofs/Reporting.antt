-- A report that is written line by line.
use Rattle.std.proofs.Common.{ℕ, ◌+◌, List, ◌++◌, length, take, Option, Ok, Err, sym, ap, ◌∙◌, arith, length-append}
use Rattle.std.specs.Prelude.{Result}
use Rattle.std.proofs.Math.Seq.{take-append-add}
use Rattle.std.proofs.lemmas.List.{take-append-le}
use Rattle.envy_io.proofs.Pieces.{AfterPiece-append}
use Rattle.envy_io.proofs.WritesLemmas.{with_end-with_end}
use Rattle.envy_io.specs.declared.source.Failed.{Failed}
use Rattle.envy_io.specs.Streams.{Drain, WritesAll, with_end}
use Rattle.envy_serve.proofs.Advancing.{rises-told}

-- two pieces, the first of them whole
pub then-more : (a b : List ℕ) (old mid new : Drain) (result : Result Unit Failed) → WritesAll old a (Ok tt) mid → WritesAll mid b result new → WritesAll old (a ++ b) result new
then-more a b old mid new (Ok done) (whole, faults, after) (more, rest, then_after) = (
  more ∙ ap (λ (w : Option (List ℕ)). with_end w b) whole ∙ with_end-with_end old.written a b,
  omega arith,
  AfterPiece-append a b old mid new after then_after,
)
then-more a b old mid new (Err failed) (whole, faults, after) (n, few, front, rises) = (
  length a + n,
  let long = length-append a b in omega arith,
  front ∙ ap (λ (w : Option (List ℕ)). with_end w (take n b)) whole ∙ with_end-with_end old.written a (take n b) ∙ ap (with_end old.written) (sym (take-append-add a b n)),
  rises-told old mid new faults rises,
)

-- the first piece failed
pub then-none : (a b : List ℕ) (old new : Drain) (failed : Failed) → WritesAll old a (Err failed) new → WritesAll old (a ++ b) (Err failed) new
then-none a b old new failed (n, few, front, rises) = (
  n,
  let long = length-append a b in omega arith,
  front ∙ ap (with_end old.written) (sym (take-append-le n a b (omega arith))),
  rises,
)

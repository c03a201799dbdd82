-- A piece that is written in several parts.
use Rattle.std.proofs.Common.{◌≡◌, ℕ, ◌<◌, ◌≤◌, List, [], ◌∷◌, ◌++◌, length, take, drop, Option, Some, None, refl, Bool, false, ◌==◌, ap, sym, ◌∙◌, arith, length-append, Ok, Err}
use Rattle.std.proofs.lemmas.Bool.{false≢true}
use Rattle.std.proofs.lemmas.List.{append_assoc, append-nil, take-append-drop, length-take, take_at}
use Rattle.envy_io.proofs.Counts.{Rises-after}
use Rattle.envy_io.specs.declared.source.Failed.{Failed}
use Rattle.envy_io.specs.Streams.{Drain, Writes, WritesAll, AfterPiece, with_end}

pub with_end-with_end : (written : Option (List ℕ)) (a b : List ℕ) → with_end (with_end written a) b ≡ with_end written (a ++ b)
with_end-with_end None a b = refl
with_end-with_end (Some bytes) a b = ap Some (append_assoc bytes a b)

pub with_end-nil : (written : Option (List ℕ)) → with_end written [] ≡ written
with_end-nil None = refl
with_end-nil (Some bytes) = ap Some (append-nil bytes)

-- what `is_empty` answered of what is left to write
pub not_empty : (rest : List ℕ) (b : Bool) → b ≡ (length rest == 0) → b ≡ false → 0 < length rest
not_empty [] b is more = absurd (false≢true (sym more ∙ is))
not_empty (x ∷ rest) b is more = omega arith

-- `done` was written of the piece, and the rest wasn't
pub record Written (old : Drain) (piece rest : List ℕ) (new : Drain) : Type 0 where
  pub done : List ℕ
  pub split : piece ≡ done ++ rest
  pub written : new.written ≡ with_end old.written done
  pub faults : old.faults ≤ new.faults
  pub after : AfterPiece done old new

-- a piece that isn't empty leaves the sink unflushed, whatever was written before
AfterPiece-some : (old new : Drain) (done piece : List ℕ) → 0 < length piece → new.flushed ≡ false → AfterPiece (done ++ piece) old new
AfterPiece-some old new [] [] some is = absurd (omega arith)
AfterPiece-some old new [] (b ∷ bytes) some is = is
AfterPiece-some old new (b ∷ done) piece some is = is

-- one piece more is written
pub Written-more : (old mid new : Drain) (piece rest : List ℕ) (n : ℕ) → Written old piece rest mid → Writes mid rest (Ok n) new → Written old piece (drop n rest) new
Written-more old mid new piece rest n w (some, fits, written, flushed, faults) =
    let long : 0 < length (take n rest) = omega (arith, length-take n rest) in
    record {
      done = w.done ++ take n rest;
      split = w.split ∙ (ap (λ (bytes : List ℕ). w.done ++ bytes) (sym (take-append-drop n rest)) ∙ sym (append_assoc w.done (take n rest) (drop n rest)));
      written = written ∙ (ap (λ (x : Option (List ℕ)). with_end x (take n rest)) w.written ∙ with_end-with_end old.written w.done (take n rest));
      faults = omega (arith, w.faults);
      after = AfterPiece-some old new w.done (take n rest) long flushed;
    }

-- a sink that fails in between
pub Written-failed : (old mid new : Drain) (piece rest : List ℕ) (failed : Failed) → Written old piece rest mid → 0 < length rest → Writes mid rest (Err failed) new → WritesAll old piece (Err failed) new
Written-failed old mid new piece rest failed w some (same, rises) =
    let front : take (length w.done) piece ≡ w.done = ap (take (length w.done)) w.split ∙ take_at w.done rest (length w.done) refl in (
      length w.done,
      omega (arith, ap length w.split, length-append w.done rest),
      same ∙ (w.written ∙ ap (with_end old.written) (sym front)),
      Rises-after old.faults mid.faults new.faults w.faults rises,
    )

-- where something is left to write, the piece isn't empty
pub Written-some : {P : Type 0} (old : Drain) (piece rest : List ℕ) (new : Drain) → Written old piece rest new → 0 < length rest → piece ≡ [] → P
Written-some old piece rest new w some empty = absurd (omega (arith, ap length w.split, ap length empty, length-append w.done rest))

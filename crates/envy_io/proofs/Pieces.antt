-- A text that is written piece by piece.
use Rattle.std.proofs.Common.{◌≡◌, ℕ, ◌+◌, ◌≤◌, List, [], ◌∷◌, ◌++◌, length, take, sym, ap, subst, ◌∙◌, refl, arith, length-append, Ok, Err}
use Rattle.std.specs.Prelude.{Option, Result}
use Rattle.std.proofs.Math.Seq.{take-append-add}
use Rattle.std.proofs.lemmas.List.{append_assoc, append-nil, take-append-le}
use Rattle.envy_io.proofs.Counts.{Rises-after}
use Rattle.envy_io.proofs.WritesLemmas.{Written, with_end-with_end, with_end-nil}
use Rattle.envy_io.specs.declared.source.Failed.{Failed}
use Rattle.envy_io.specs.Streams.{Drain, WritesAll, AfterPiece, with_end}

-- nothing is written yet
pub Written-nothing : (drain : Drain) (whole : List ℕ) → Written drain whole whole drain
Written-nothing drain whole = record { done = []; split = refl; written = sym (with_end-nil drain.written); faults = omega arith; after = refl }

-- two pieces one after the other leave the sink as one piece does
pub AfterPiece-append : (a b : List ℕ) (old mid new : Drain) → AfterPiece a old mid → AfterPiece b mid new → AfterPiece (a ++ b) old new
AfterPiece-append [] b old mid new same after = subst (λ (s : Drain). AfterPiece b s new) same after
AfterPiece-append (x ∷ a) [] old mid new unflushed same = ap (λ (s : Drain). s.flushed) same ∙ unflushed
AfterPiece-append (x ∷ a) (y ∷ b) old mid new unflushed after = after

-- the next piece of what is left
pub Written-piece : (old mid new : Drain) (whole left piece rest : List ℕ) (done : Unit) → left ≡ piece ++ rest
    → Written old whole left mid → WritesAll mid piece (Ok done) new → Written old whole rest new
Written-piece old mid new whole left piece rest done split w (written, faults, after) =
    record {
      done = w.done ++ piece;
      split = w.split ∙ (ap (λ (bytes : List ℕ). w.done ++ bytes) split ∙ sym (append_assoc w.done piece rest));
      written = written ∙ (ap (λ (bytes : Option (List ℕ)). with_end bytes piece) w.written ∙ with_end-with_end old.written w.done piece);
      faults = omega (arith, w.faults);
      after = AfterPiece-append w.done piece old mid new w.after after;
    }

-- nothing is left
pub Written-all : (old new : Drain) (whole left : List ℕ) (done : Unit) → left ≡ [] → Written old whole left new → WritesAll old whole (Ok done) new
Written-all old new whole left done none w =
    let is : w.done ≡ whole = sym (w.split ∙ (ap (λ (bytes : List ℕ). w.done ++ bytes) none ∙ append-nil w.done)) in
    subst (λ (bytes : List ℕ). WritesAll old bytes (Ok done) new) is (w.written, w.faults, w.after)

-- a failure within the next piece is a failure within the whole
pub Written-front : (old mid new : Drain) (whole left piece rest : List ℕ) (failed : Failed) → left ≡ piece ++ rest
    → Written old whole left mid → WritesAll mid piece (Err failed) new → WritesAll old whole (Err failed) new
Written-front old mid new whole left piece rest failed split w (n, within, written, rises) =
    let is : whole ≡ w.done ++ (piece ++ rest) = w.split ∙ ap (λ (bytes : List ℕ). w.done ++ bytes) split in
    let fits : n ≤ length piece = omega arith in
    let front : take (length w.done + n) whole ≡ w.done ++ take n piece =
    ap (take (length w.done + n)) is
    ∙ (take-append-add w.done (piece ++ rest) n ∙ ap (λ (bytes : List ℕ). w.done ++ bytes) (take-append-le n piece rest fits)) in (
      length w.done + n,
      omega (arith, ap length is, length-append w.done (piece ++ rest), length-append piece rest),
      written ∙ (ap (λ (bytes : Option (List ℕ)). with_end bytes (take n piece)) w.written ∙ (with_end-with_end old.written w.done (take n piece) ∙ ap (with_end old.written) (sym front))),
      Rises-after old.faults mid.faults new.faults w.faults rises,
    )

-- the last piece is written, or a front of it
pub writes-last : (old mid new : Drain) (whole left piece : List ℕ) (result : Result Unit Failed) → left ≡ piece
    → Written old whole left mid → WritesAll mid piece result new → WritesAll old whole result new
writes-last old mid new whole left piece (Ok done) is w writes =
    Written-all old new whole [] done refl (Written-piece old mid new whole left piece [] done (is ∙ sym (append-nil piece)) w writes)
writes-last old mid new whole left piece (Err failed) is w writes =
    Written-front old mid new whole left piece [] failed (is ∙ sym (append-nil piece)) w writes

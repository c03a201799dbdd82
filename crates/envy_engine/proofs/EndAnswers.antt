-- What the end of a transaction leaves where power fails.
use Rattle.std.proofs.Common.{◌≡◌, ◌⊎◌, inl, inr, ℕ, ◌<◌, ◌≤◌, false, None, Some, Result, Ok, Err, IsErrAnd, length, ap, arith}
use Rattle.std.specs.Prelude.{MatchResult}
use Rattle.envy_base.specs.declared.board.Off.{Off}
use Rattle.envy_map.specs.Fields.{Chart}
use Rattle.envy_soundness.specs.Same.{Same, Stays, Framed, SameWords, SameDurable, Commits}
use Rattle.envy_soundness.proofs.Composition.{SameDurable-same, Commits-after}
use Rattle.envy_txn.specs.Owners.{Ownership}
use Rattle.envy_engine.specs.Agreement.{Fits, Steady}
use Rattle.envy_engine.specs.Putting.{KeepsOwners}
use Rattle.envy_engine.specs.declared.parts.Parts.{Parts}
use Rattle.envy_engine.proofs.AgreeLemmas.{Fits-moved, sizes_of}
use Rattle.envy_reloc.proofs.Exits.{unpowered}

-- owners and parts are of no board that has power
pub KeepsOwners-lost : (new : Chart) (was now : Ownership) → new.on ≡ false → now ≡ was → KeepsOwners new was now
KeepsOwners-lost new was now off is = record { limit = ap (λ (o : Ownership). o.limit) is; agree = λ on. unpowered new.on off on }

pub Steady-lost : (old new : Chart) (x y : Parts) → new.shape ≡ old.shape → new.on ≡ false → Fits old.shape x → y.space.shape ≡ x.space.shape → y.frames.count ≡ x.frames.count → length y.cache.entries ≡ length x.cache.entries → y.chooser ≡ x.chooser → y.stages ≡ x.stages → Steady new y
Steady-lost old new x y shape off fits space frames cache chooser stages = record {
  fits = Fits-moved old.shape new.shape x y shape fits space frames cache (ap sizes_of chooser) stages;
  agrees = λ on. unpowered new.on off on;
}

-- a commit that power cut: it is done or not
pub commits-cut : (t : ℕ) (old new : Chart) (r : Result Unit Off) (Q : Off → Type 0) → Same 0 0 old new ⊎ Commits 0 0 t old new → IsErrAnd r Q → MatchResult r (λ _. Commits 0 0 t old new) (λ _. SameDurable 0 0 old new ⊎ Commits 0 0 t old new)
commits-cut t old new (Ok done) Q either is = absurd is
commits-cut t old new (Err off) Q (inl same) is = inl (SameDurable-same 0 0 old new same)
commits-cut t old new (Err off) Q (inr done) is = inr done

-- it was done before
pub commits-then : (t : ℕ) (old mid new : Chart) (r : Result Unit Off) → Commits 0 0 t old mid → SameWords 0 0 mid new → MatchResult r (λ _. Commits 0 0 t old new) (λ _. SameDurable 0 0 old new ⊎ Commits 0 0 t old new)
commits-then t old mid new (Ok done) commits same = Commits-after 0 0 0 0 t old mid new commits same
commits-then t old mid new (Err off) commits same = inr (Commits-after 0 0 0 0 t old mid new commits same)

pub commits-shape : (t : ℕ) (old new : Chart) → Same 0 0 old new ⊎ Commits 0 0 t old new → new.shape ≡ old.shape
commits-shape t old new (inl same) = Framed.shape (Stays.framed (Same.stays same))
commits-shape t old new (inr done) = Commits.shape done

-- a slot that was found, and the end of the look at all
pub none-some : {P : Type 0} (t : ℕ) → None ≡ Some t → P
none-some t is = absurd (let no : None ≡ Some t = is in cc)

pub within-end : (u t : ℕ) → u < 64 → 64 ≤ t → u < t
within-end u t low end = omega arith

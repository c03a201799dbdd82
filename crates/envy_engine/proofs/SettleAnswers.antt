-- What two settles leave, one after another, and what parts that are read anew say.
use Rattle.std.proofs.Common.{◌≡◌, ◌∙◌, ◌⊎◌, ℕ, ◌<◌, [], None, Some, refl, sym, ap, subst}
use Rattle.envy_base.specs.Shape.{version_of}
use Rattle.envy_base.specs.declared.fields.Job.TheVariants.{Idle, Erase}
use Rattle.envy_base.specs.declared.shape.Shape.{Shape}
use Rattle.envy_map.specs.Fields.{Fields, Chart, undo, slot}
use Rattle.envy_soundness.specs.Same.{Same, SameDurable}
use Rattle.envy_soundness.proofs.Formed.{slots-all}
use Rattle.envy_soundness.proofs.Composition.{SameDurable-same, SameDurable-trans}
use Rattle.envy_reloc.specs.Plan.{Plan}
use Rattle.envy_reloc.specs.Settling.{KeepsOthers, Settles as SettlesJob}
use Rattle.envy_table.specs.Hits.{Empties}
use Rattle.envy_txn.specs.Ending.{Settles as SettlesOwners}
use Rattle.envy_engine.specs.Restarts.{IsSettled, IsRestarted, SameCounts}
use Rattle.envy_engine.specs.declared.parts.Parts.{Parts}

pub durable-both : (old mid new : Chart) → SameDurable 0 0 old mid → Same 0 0 mid new → SameDurable 0 0 old new
durable-both old mid new first same = SameDurable-trans 0 0 0 0 old mid new first (SameDurable-same 0 0 mid new same)

pub settled-both : (old mid new : Chart) → old.fields.version ≡ version_of old.shape → SettlesOwners old mid → KeepsOthers mid.fields new.fields → new.shape ≡ old.shape → (new.fields.job ≡ Some Idle) ⊎ (new.fields.job ≡ Some Erase) → IsSettled new
settled-both old mid new version owners others shape job = record {
  undos = λ p lt. ap (λ (f : Fields). undo f p) others ∙ owners.undos p (subst (λ (sh : Shape). p < sh.pages) shape lt);
  slots = λ t lt. ap (λ (f : Fields). slot f t) others ∙ owners.slots t (subst (λ (n : ℕ). t < n) (slots-all old.shape old.fields.version version) lt);
  job = job;
}

pub restarted-both : (old mid new : Chart) → SettlesOwners old mid → SettlesJob mid.shape mid.fields.job mid.fields new.fields → new.flash ≡ mid.flash → IsRestarted old new
restarted-both old mid new owners job flash = record { undone = mid; undoes = owners; settles = job; flash = flash ∙ ap (λ (c : Chart). c.flash) owners.rest }

-- counts stay where the cache is emptied and the plan dropped
pub counts-anew : (x y : Parts) (plan : Plan) → Empties x.cache y.cache → plan ≡ record x.reloc { moves = []; aside = None; mark = 0; since = 0 } → y.reloc ≡ record plan { since = 0 } → y.flushes ≡ x.flushes → y.swaps ≡ x.swaps → SameCounts x y
counts-anew x y plan empties dropped anew flushes swaps = record {
  hits = empties.hits;
  misses = empties.misses;
  flushes = flushes;
  copied = ap (λ (t : Plan). t.copied) anew ∙ ap (λ (t : Plan). t.copied) dropped;
  moved = ap (λ (t : Plan). t.moved) anew ∙ ap (λ (t : Plan). t.moved) dropped;
  erased = ap (λ (t : Plan). t.erased) anew ∙ ap (λ (t : Plan). t.erased) dropped;
  swaps = swaps;
}

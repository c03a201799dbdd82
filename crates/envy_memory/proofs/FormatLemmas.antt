-- What a board stands for that was just formatted.
use Rattle.std.proofs.Common.{◌≡◌, inl, inr, ◌*◌, Option, Some, refl, sym, ◌∙◌, ap, subst}
use Rattle.std.specs.Prelude.{replicate}
use Rattle.envy_array.specs.Array.{Saved, owns, zeros}
use Rattle.envy_array.proofs.Keeping.{IsArray-zeros}
use Rattle.envy_array.proofs.Owning.{owner-nobody}
use Rattle.envy_array.proofs.Undoing.{undo_all-closed}
use Rattle.envy_base.specs.Shape.{version_of}
use Rattle.envy_base.specs.State.{State}
use Rattle.envy_base.specs.declared.shape.Shape.{Shape}
use Rattle.envy_map.specs.Fields.{Chart, chart}
use Rattle.envy_soundness.specs.Formatting.{IsEmpty, IsBetween as OfLayout}
use Rattle.envy_soundness.specs.Sound.{slot_named}
use Rattle.envy_meaning.specs.Stands.{Holds, slot_word}
use Rattle.envy_memory.proofs.Slots.{slot-low}
use Rattle.envy_engine.specs.Restarts.{IsSettled}
use Rattle.envy_memory.specs.Formats.{IsBetween}
use Rattle.envy_memory.proofs.AttachLemmas.{closed}

-- the board is empty in its own version
pub empty-own : (sh : Shape) (c : Chart) → c.shape ≡ sh → IsEmpty (version_of sh) c → IsEmpty (version_of c.shape) c
empty-own sh c shape e = subst (λ (x : Shape). IsEmpty (version_of x) c) (sym shape) e

pub Holds-empty : (c : Chart) → IsEmpty (version_of c.shape) c → Holds c (zeros c.shape.pages c.shape.shadows)
Holds-empty c e = record {
  magic = e.magic;
  version = e.version_is;
  sound = e.sound;
  array = IsArray-zeros c.shape.pages c.shape.shadows;
  shadows = refl;
  live = e.live_zeros;
  durable = e.durable_zeros ∙ sym (undo_all-closed 64 (replicate (32 * c.shape.pages) 0));
  slots = λ t lt. e.slots t (slot-low c.shape (version_of c.shape) t refl lt) ∙ ap (λ (s : Option Saved). Some (slot_word s)) (sym (closed t));
  owners = λ p lt. ap slot_named (e.undos p lt) ∙ sym (owner-nobody (zeros c.shape.pages c.shape.shadows) p (λ t. ap (owns p) (closed t)));
}

pub between : (old new : State) → new.shape ≡ old.shape → OfLayout (version_of old.shape) old new → IsBetween old new
between old new shape (inl unmarked) = inl unmarked
between old new shape (inr (inl same)) = inr (inl same)
between old new shape (inr (inr empty)) = inr (inr (Holds-empty (chart new) (empty-own old.shape (chart new) shape empty)))

pub settled : (c : Chart) → IsEmpty (version_of c.shape) c → IsSettled c
settled c e = record { undos = e.undos; slots = λ t lt. e.slots t (slot-low c.shape (version_of c.shape) t refl lt); job = inl e.job }

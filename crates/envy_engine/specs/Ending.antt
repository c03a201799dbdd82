-- The end of a transaction.
use Rattle.std.specs.Prelude.{◌≡◌, ℕ, ◌<◌, not, IsTrue, Some}
use Rattle.std.specs.List.{filter}
use Rattle.envy_base.specs.Shape.{version_of}
use Rattle.envy_base.specs.declared.fields.Slot.TheVariants.{Active, Committed}
use Rattle.envy_map.specs.Fields.{Chart, slot, undo}
use Rattle.envy_map.specs.Writes.{with_slot}
use Rattle.envy_soundness.specs.Sound.{IsSound}
use Rattle.envy_meaning.specs.Transactions.{Closes, TakesBack}
use Rattle.envy_txn.specs.Owners.{Ownership, AreOwned, names_slot, others_of}
use Rattle.envy_engine.specs.Agreement.{Agrees, Fits}
use Rattle.envy_engine.specs.Storing.{Rows}
use Rattle.envy_engine.specs.declared.parts.Parts.{Parts}

-- the slot has committed and its pages are still named; parts and owners agree with the board as if it were active
pub record IsReleasing (t : ℕ) (c : Chart) (x : Parts) (o : Ownership) : Type 0 where
  pub on : IsTrue c.on
  pub sound : IsSound c
  pub version : c.fields.version ≡ version_of c.shape
  pub low : t < 64
  pub committed : slot c.fields t ≡ Some Committed
  pub fits : Fits c.shape x
  pub agrees : Agrees c.shape (with_slot t (Some Active) c.fields) c.flash x
  pub owned : AreOwned (with_slot t (Some Active) c.fields).slots c.fields.undos o.pairs

-- slot t is closed and owns no page any more
pub record EndsSlot (t : ℕ) (old : Chart) (was : Ownership) (new : Chart) (now : Ownership) : Type 0 where
  pub closes : Closes t old new
  pub rows : Rows old new
  pub pairs : now ≡ record was { pairs = others_of t was.pairs }

-- and its words are back, and its frames are free
pub record TakesSlot (t : ℕ) (old : Chart) (was : Parts) (had : Ownership) (new : Chart) (now : Parts) (has : Ownership) : Type 0 where
  pub takes : TakesBack t old new
  pub ends : EndsSlot t old had new has
  pub held : now.frames.held ≡ filter (λ h. not (names_slot t (undo old.fields h.page))) was.frames.held

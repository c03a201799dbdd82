-- What an owner's calls need, and what they leave of pages, owners and parts.
use Rattle.std.specs.Prelude.{◌≡◌, ℕ, not, List, [], ◌∷◌, ◌++◌, Some}
use Rattle.std.specs.List.{filter}
use Rattle.envy_base.specs.declared.fields.Undo.{Undo}
use Rattle.envy_map.specs.Fields.{Chart, with_fields, undo}
use Rattle.envy_map.specs.Writes.{with_undo}
use Rattle.envy_soundness.specs.May.{MayUndo, IsUnused}
use Rattle.envy_soundness.specs.Naming.{AreParted}
use Rattle.envy_soundness.specs.Sound.{IsSound, slot_named}
use Rattle.envy_frames.specs.Agreement.{AreHeld}
use Rattle.envy_frames.specs.declared.held.Held.{Held}
use Rattle.envy_space.specs.Pool.{Pool, PoolAgrees}
use Rattle.envy_table.specs.Agreement.{AreCurrent}
use Rattle.envy_table.specs.Entries.{Entry}
use Rattle.envy_txn.specs.Ending.{Releases, Restores}
use Rattle.envy_txn.specs.Owners.{Ownership, AreOwned, names_slot, others_of}
use Rattle.envy_txn.specs.declared.pair.Pair.{Pair}

-- the owners are the map's, and the undo may give page p to a transaction
pub record MayOwn (c : Chart) (pairs : List Pair) (p : ℕ) (u : Undo) : Type 0 where
  pub sound : IsSound c
  pub agrees : AreOwned c.fields.slots c.fields.undos pairs
  pub may : MayUndo c.shape c.fields c.flash p u

-- page p came to be owned, the newest of all
pub record Owns (p : ℕ) (u : Undo) (old : Chart) (owned : Ownership) (new : Chart) (then_owned : Ownership) : Type 0 where
  pub fields : new ≡ with_fields old (with_undo p (Some u) old.fields)
  pub newest : (t : ℕ) → slot_named (Some u) ≡ Some t → then_owned ≡ record owned { pairs = owned.pairs ++ (record { page = p; slot = t }) ∷ [] }

-- owners and rows are the map's
pub record OwnersAgree (c : Chart) (pairs : List Pair) (x : Pool) : Type 0 where
  pub owned : AreOwned c.fields.slots c.fields.undos pairs
  pub pool : PoolAgrees c.shape c.fields x
  pub parted : AreParted c.fields.slots c.fields.undos c.fields.places

-- and so are frames and the cache
pub record TurnsAgree (c : Chart) (pairs : List Pair) (pool : Pool) (frames : List Held) (entries : List Entry) : Type 0 where
  pub owners : OwnersAgree c pairs pool
  pub held : AreHeld c.shape c.fields.places frames
  pub current : AreCurrent c.shape.pages c.fields.places entries

-- no undo names the slot, and it owns nothing
pub record ReleasesAll (t : ℕ) (old : Chart) (owned : Ownership) (new : Chart) (then_owned : Ownership) : Type 0 where
  pub releases : Releases t old new
  pub unused : IsUnused new.fields t
  pub pairs : then_owned ≡ record owned { pairs = others_of t owned.pairs }

-- the pages of the slot are back, it owns nothing, and the frames of other pages alone are held
pub record RestoresAll (t : ℕ) (old : Chart) (owned : Ownership) (frames : List Held) (new : Chart) (then_owned : Ownership) (then_frames : List Held) : Type 0 where
  pub restores : Restores t old new
  pub unused : IsUnused new.fields t
  pub pairs : then_owned ≡ record owned { pairs = others_of t owned.pairs }
  pub left : then_frames ≡ filter (λ h. not (names_slot t (undo old.fields h.page))) frames

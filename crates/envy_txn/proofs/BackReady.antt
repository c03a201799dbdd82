-- What holds between the pages of an open slot that go back, after one did.
use Rattle.std.proofs.Common.{◌≡◌, ℕ, List, set, Some, sym, subst}
use Rattle.std.specs.Prelude.{IsTrue}
use Rattle.envy_base.specs.declared.fields.Place.{Place}
use Rattle.envy_base.specs.declared.fields.Undo.{Undo}
use Rattle.envy_base.specs.declared.fields.Undo.TheVariants.{Clear}
use Rattle.envy_map.specs.Fields.{Chart, with_fields}
use Rattle.envy_map.specs.Writes.{with_place, with_undo}
use Rattle.envy_soundness.specs.Sound.{IsSound}
use Rattle.envy_frames.specs.declared.held.Held.{Held}
use Rattle.envy_space.specs.Pool.{Pool}
use Rattle.envy_table.specs.Agreement.{AreCurrent}
use Rattle.envy_table.specs.Entries.{Entry}
use Rattle.envy_txn.specs.Turns.{Restoring, left_pool, left_held}
use Rattle.envy_txn.proofs.BackLemmas.{Backs, pool-left, parted-back}
use Rattle.envy_txn.proofs.HeldLemmas.{held-left}

pub Restoring-after : (c new : Chart) (p t : ℕ) (u : Undo) (now back : Place) (pool then_pool : Pool) (held then_held : List Held) (entries then_entries : List Entry) → Backs c p t u now back → Restoring c pool held entries t
    → IsTrue new.on → IsSound new → new ≡ with_fields c (with_undo p (Some Clear) (with_place p (Some back) c.fields)) → then_pool ≡ left_pool now pool → then_held ≡ left_held now held → AreCurrent c.shape.pages (set c.fields.places p (Some back)) then_entries
    → Restoring new then_pool then_held then_entries t
Restoring-after c new p t u now back pool then_pool held then_held entries then_entries b r on sound is pool_is held_is current =
    let made : Restoring (with_fields c (with_undo p (Some Clear) (with_place p (Some back) c.fields))) then_pool then_held then_entries t = record {
      on = subst (λ (z : Chart). IsTrue z.on) is on;
      sound = subst (λ (z : Chart). IsSound z) is sound;
      active = r.active;
      agrees = rw pool_is (pool-left c p t u now back pool b r.parted r.agrees);
      are_held = rw held_is (held-left c p t u now back held b r.are_held);
      current = current;
      parted = parted-back c p t u now back b r.parted;
    } in
    subst (λ (z : Chart). Restoring z then_pool then_held then_entries t) (sym is) made

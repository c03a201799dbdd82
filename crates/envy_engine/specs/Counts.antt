-- What a memory counts of its flash work.
use Rattle.std.specs.Prelude.{◌≡◌, ℕ, ◌+◌, ◌-◌, ◌^◌, ◌<◌, ◌≤◌, IsTrue, sum, slice_index}
use Rattle.envy_base.specs.Counting.{Tally}
use Rattle.envy_map.specs.Fields.{Chart}
use Rattle.envy_engine.specs.declared.parts.Parts.{Parts}

-- The counts a, b and c together rose as much as e did. Silent where one of them stopped at the top.
pub record Tally3 (a b c e a2 b2 c2 e2 : ℕ) : Type 0 where
  pub first : a ≤ a2
  pub second : b ≤ b2
  pub third : c ≤ c2
  pub fourth : e ≤ e2
  pub same : a2 < 2 ^ 64 - 1 → b2 < 2 ^ 64 - 1 → c2 < 2 ^ 64 - 1 → e2 < 2 ^ 64 - 1 → a2 + b2 + c2 + e ≡ a + b + c + e2

-- Flushes, copies and moves count the programs that began, and the erases those that began.
pub record Tallies (old : Chart) (was : Parts) (new : Chart) (now : Parts) : Type 0 where
  pub programs : Tally3 was.flushes was.reloc.copied was.reloc.moved old.begun now.flushes now.reloc.copied now.reloc.moved new.begun
  pub erases : Tally (sum old.erases) was.reloc.erased (sum new.erases) now.reloc.erased

-- While power stays on no wear word rises by more than the erases since the last swap do. Silent where these stopped
-- at the top.
pub record Wearing (old : Chart) (was : Parts) (new : Chart) (now : Parts) : Type 0 where
  pub on : IsTrue new.on → IsTrue old.on
  pub most : IsTrue new.on → now.reloc.since < 2 ^ 64 - 1 → (s : ℕ) → slice_index new.fields.wears s + was.reloc.since ≤ slice_index old.fields.wears s + now.reloc.since

-- and so do the erases since the last swap, where none begins
pub record Counting (old : Chart) (was : Parts) (new : Chart) (now : Parts) : Type 0 where
  pub tallies : Tallies old was new now
  pub since : Tally (sum old.erases) was.reloc.since (sum new.erases) now.reloc.since
  pub swaps : now.swaps ≡ was.swaps
  pub wearing : Wearing old was new now

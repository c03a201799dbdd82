use Rattle.std.proofs.Common.{◌≡◌, ℕ, ◌+◌, ◌-◌, ◌/◌, ◌<◌, length, slice_index}
use Rattle.envy_soundness.specs.Words.{live}
use Rattle.envy_memory.specs.LoadRuns.{Crosses}
use Rattle.envy_memory.proofs.memory.Memory.load_pages.Given as goal

abbrev pub invariant-loop-page : goal.invariant-loop-page
invariant-loop-page g l = record {
  read : (i : ℕ) → i < length l.into → (l.a + i) / 32 < l.page → slice_index l.into i ≡ slice_index (live l.initial.self.chart) (l.a + i);
  visits : Crosses (l.page - l.a / 32) (l.a / 32) l.initial.self.parts.cache l.self.parts.cache;
  kept : l.self ≡ record l.initial.self { parts = record l.initial.self.parts { cache = l.self.parts.cache } };
}

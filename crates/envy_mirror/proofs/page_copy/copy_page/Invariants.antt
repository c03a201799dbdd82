use Rattle.std.proofs.Common.{◌≡◌, ◌≢◌, ℕ, ◌+◌, ◌*◌, ◌/◌, ◌<◌}
use Rattle.std.specs.Prelude.{slice_index}
use Rattle.envy_soundness.specs.Words.{live, durable}
use Rattle.envy_mirror.specs.Asking.{Reckons}
use Rattle.envy_mirror.specs.Pair.{IsClosed}
use Rattle.envy_mirror.proofs.page_copy.copy_page.Given as goal

abbrev pub invariant-loop-i : goal.invariant-loop-i
invariant-loop-i g l = record {
  closed : IsClosed l.to.chart;
  reckons : Reckons l.fn.to l.to;
  page : (a : ℕ) → a / 32 ≡ l.page → a < 32 * l.page + l.i → slice_index (live l.to.chart) a ≡ slice_index (durable l.from.chart) a;
  others : (a : ℕ) → a / 32 ≢ l.page → slice_index (live l.to.chart) a ≡ slice_index (live l.fn.to.chart) a;
}

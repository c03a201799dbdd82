use Rattle.std.proofs.Common.{◌≡◌, ℕ, ◌<◌, length, get_or}
use Rattle.envy_space.specs.Winners.{flag}
use Rattle.envy_space.proofs.flags.Flags.fill.Given as goal

abbrev pub invariant-loop-place : goal.invariant-loop-place
invariant-loop-place l = (length l.self ≡ length l.initial.self) × ((k : ℕ) → k < l.place → get_or l.self k 0 ≡ flag l.rows)

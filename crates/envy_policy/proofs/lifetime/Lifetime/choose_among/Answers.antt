use Rattle.std.proofs.Common.{◌<◌, ℕ, inl, inr, refl, arith, slice_index}
use Rattle.envy_policy.specs.Lifetime.{IsGreatest}
use Rattle.envy_policy.proofs.Choosing.{rows-below}
use Rattle.envy_policy.proofs.Weighing.{nothing-full, lowest-from-first}
use Rattle.envy_policy.proofs.lifetime.Lifetime.choose_among.Goals as goal

pub returns-in-Some-clause-choice : goal.returns-in-Some-clause-choice
returns-in-Some-clause-choice g c = inl c.in-Some.ensures.position

pub returns-in-Some-clause-within : goal.returns-in-Some-clause-within
returns-in-Some-clause-within g c = (rw c.requires.rows.free c.in-Some.ensures.below, c.in-Some.ensures.room.0)

pub returns-in-Some-victim-clause-choice : goal.returns-in-Some-victim-clause-choice
returns-in-Some-victim-clause-choice g c = (c.in_default.ensures.position, c.in-Some-victim.ensures, refl)

pub returns-in-Some-victim-clause-within : goal.returns-in-Some-victim-clause-within
returns-in-Some-victim-clause-within g c =
    let dead = (IsGreatest.holds c.in-Some-victim.ensures).0 in
    (rows-below (g.R.Rows.counts c.args.rows.now).dead _ c.in-Some-victim.position refl dead, dead, refl)

pub unreachable-unreachable : goal.unreachable-unreachable
unreachable-unreachable g c = nothing-full (g.R.Rows.counts c.args.rows.now) c.requires.some.0 c.requires.some.1 (c.in-None.ensures c.requires.some.0 (omega arith)) c.in_default-victim.ensures

pub returns-clause-choice : goal.returns-clause-choice
returns-clause-choice g c = inr (c.in_default.ensures.position, c.in_default-victim.ensures, lowest-from-first (λ (k : ℕ). 0 < slice_index (g.R.Rows.counts c.args.rows.now).free k) c.in-Some-first_free.position c.in-Some-first_free.ensures)

pub returns-clause-within : goal.returns-clause-within
returns-clause-within g c =
    let free = c.in-Some-first_free.ensures.holds.1 in
    (rows-below (g.R.Rows.counts c.args.rows.now).free _ c.in-Some-first_free.position refl free, free)

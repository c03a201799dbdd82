-- A board of which nothing fails that wasn't planned.
use Rattle.std.specs.Prelude.{◌≡◌, IsTrue}
use Rattle.std.specs.Option.{ForSome}
use Rattle.envy_base.specs.State.{State}
use Rattle.envy_bench.specs.Power.{Power}

-- power is on and never failed, no operation went wrong, and no plan stands
pub record IsQuiet (s : State) (p : Power) : Type 0 where
  pub on : IsTrue s.on
  pub cuts : s.cuts ≡ 0
  pub bads : s.bads ≡ 0
  pub no_cut : ForSome p.cut_plan (λ plan. ⊥)
  pub no_bad : ForSome p.bad_plan (λ plan. ⊥)

-- so it is while no failure was planned and no power cut by hand
abbrev pub IsCalm : State → Power → Type 0
IsCalm s p = s.plans ≡ 0 → s.pulled ≡ 0 → IsQuiet s p

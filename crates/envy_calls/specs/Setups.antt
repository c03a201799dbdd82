-- The setup that numbers give.
use Rattle.std.specs.Prelude.{ℕ, ◌==◌, Option, None, Some, if◌then◌else◌}
use Rattle.envy_base.specs.declared.shape.Shape.{Shape}
use Rattle.envy_policy.specs.declared.setup.Policy.{Policy}
use Rattle.envy_policy.specs.declared.setup.Policy.TheVariants.{Greedy, Fifo, Locality, Hybrid, Lifetime}
use Rattle.envy_policy.specs.declared.setup.Setup.{Setup}
use Rattle.envy_calls.specs.declared.setup.EnvySetup.{EnvySetup}

-- the policy of a number; a hybrid one has partitions of so many positions
abbrev pub policy_of : ℕ → ℕ → Option Policy
policy_of n part =
    if n == 0 then Some Greedy
    else (if n == 1 then Some Fifo
    else (if n == 2 then Some Locality
    else (if n == 3 then Some (Hybrid part)
    else (if n == 4 then Some Lifetime else None))))

abbrev pub shape_given : EnvySetup → Shape
shape_given s = record {
  segments = s.segments;
  rows = s.rows;
  pages = s.pages;
  shadows = s.shadows;
  frames = s.frames;
  entries = s.entries;
  reserves = s.reserves;
  sums = s.sums;
}

abbrev pub with_policy : EnvySetup → Option Policy → Option Setup
with_policy s None = None
with_policy s (Some policy) = Some (record { shape = shape_given s; policy = policy; limit = s.limit; mark = s.mark })

-- `None` where no policy has the number
abbrev pub setup_of : EnvySetup → Option Setup
setup_of s = with_policy s (policy_of s.policy s.part)

-- The rules of a setup.
use Rattle.std.specs.Prelude.{ℕ, ◌-◌, ◌≤◌, ◌==◌, ◌||◌, nat_lt, min, Bool, false, Result, Ok, Err, if◌then◌else◌}
use Rattle.envy_base.specs.declared.shape.ShapeFault.{ShapeFault}
use Rattle.envy_base.specs.declared.shape.ShapeFault.TheVariants.{Segments, Reserves, Sums, Rows, Pages, Frames, Entries, Share, Total}
use Rattle.envy_base.specs.Shape.{IsShape, checked_within as shape_within, all_positions_of, positions_of}
use Rattle.envy_base.specs.declared.shape.TheConstants.{MOST_ROWS}
use Rattle.envy_policy.specs.declared.setup.Policy.{Policy}
use Rattle.envy_policy.specs.declared.setup.Policy.TheVariants.{Greedy, Fifo, Locality, Hybrid, Lifetime}
use Rattle.envy_policy.specs.declared.setup.Setup.{Setup}
use Rattle.envy_policy.specs.declared.setup.SetupFault.{SetupFault}
use Rattle.envy_policy.specs.declared.setup.Victims.{Victims}
use Rattle.envy_policy.specs.declared.setup.Victims.TheVariants.{MostDead, InTurn}
use Rattle.envy_policy.specs.declared.setup.SetupFault.TheVariants.{Shape as OfShape, Part, Limit, Mark}

-- how many consecutive positions, of n, make a partition
abbrev pub run_of : Policy → ℕ → ℕ
run_of Greedy n = n
run_of Fifo n = n
run_of Locality n = 1
run_of (Hybrid part) n = min part n
run_of Lifetime n = n

-- which position of a partition is cleaned
abbrev pub victims_of : Policy → Victims
victims_of Greedy = MostDead
victims_of Fifo = InTurn
victims_of Locality = InTurn
victims_of (Hybrid part) = InTurn
victims_of Lifetime = MostDead

-- hybrid partitions of no position, or of more than there are
abbrev pub fails_part : Policy → ℕ → Bool
fails_part Greedy n = false
fails_part Fifo n = false
fails_part Locality n = false
fails_part (Hybrid part) n = part == 0 || nat_lt n part
fails_part Lifetime n = false

-- the shape's fault, or else what the other rules say
abbrev pub shape_first : Result Unit ShapeFault → Result Unit SetupFault → Result Unit SetupFault
shape_first (Err fault) others = Err (OfShape fault)
shape_first (Ok done) others = others

-- the first rule that fails, of a board of so many rows at most: those of the shape, and then part, limit and mark
unfoldable pub checked_within : ℕ → Setup → Result Unit SetupFault
checked_within most setup = shape_first (shape_within most setup.shape)
    (if fails_part setup.policy (all_positions_of setup.shape) then Err Part
    else (if setup.limit == 0 then Err Limit
    else (if setup.mark == 0 || nat_lt setup.shape.frames setup.mark then Err Mark
    else Ok tt)))

abbrev pub checked : Setup → Result Unit SetupFault
checked setup = checked_within MOST_ROWS setup

-- a rule's number in the order of asking
abbrev pub shape_rule : ShapeFault → ℕ
shape_rule Segments = 1
shape_rule Rows = 2
shape_rule Pages = 3
shape_rule Frames = 4
shape_rule Entries = 5
shape_rule Share = 6
shape_rule Total = 7
shape_rule Reserves = 18
shape_rule Sums = 19

abbrev pub rule_of : SetupFault → ℕ
rule_of (OfShape fault) = shape_rule fault
rule_of Part = 8
rule_of Limit = 9
rule_of Mark = 10

-- the sizes of a setup that checks
pub record IsSetup (setup : Setup) : Type 0 where
  pub shape : IsShape setup.shape
  pub part : 1 ≤ run_of setup.policy (positions_of setup.shape)
  pub few_part : run_of setup.policy (positions_of setup.shape) ≤ positions_of setup.shape
  pub limit : 1 ≤ setup.limit
  pub mark : 1 ≤ setup.mark
  pub few_mark : setup.mark ≤ setup.shape.frames

-- Marks, and whose answer is the pair's.
use Rattle.std.proofs.Common.{◌≡◌, true, Option, None, Some, refl, ap}
use Rattle.std.specs.Prelude.{IsTrue}
use Rattle.envy_array.specs.Step.{Command}
use Rattle.envy_mirror.specs.Asking.{Asked, left_by, is_moving, has_said, has_failed, spoiled_if}
use Rattle.envy_mirror.specs.Pair.{Side, is_good, is_good_by, IsSide}
use Rattle.envy_mirror.specs.Replies.{Reply, Off, Bad, Said}
use Rattle.envy_mirror.specs.Reviving.{cut_side, cut_side_by}
use Rattle.envy_mirror.specs.declared.standing.Standing.{Standing}
use Rattle.envy_mirror.specs.declared.standing.Standing.TheVariants.{Good, Behind, Gone}
use Rattle.envy_mirror.proofs.Holding.{side-asked}

-- a side whose flash failed is Good still
pub side-failed : (command : Command) (own : Option Reply) (old mid : Side) → Asked command own old mid → IsTrue (has_failed own) → IsSide mid × IsTrue (is_good mid)
side-failed command None old mid asked failed = cc
side-failed command (Some Off) old mid asked failed = cc
side-failed command (Some Bad) old mid asked failed = (side-asked command Bad old mid asked, ap is_good_by asked.2)
side-failed command (Some (Said answer)) old mid asked failed = cc

cut-by : (g : Standing) (s : Side) → is_good_by g ≡ true → cut_side_by g s ≡ spoiled_if true s
cut-by Good s good = refl
cut-by Behind s good = cc
cut-by Gone s good = cc

-- a side that was good and is left behind is spoiled
pub cut-good : (s : Side) → is_good s ≡ true → cut_side s ≡ spoiled_if true s
cut-good s good = cut-by s.standing s good

-- and so is one that failed while the other moved on
pub left-cut : (command : Command) (other own : Option Reply) (s : Side) → has_failed own ≡ true → has_said other ≡ true → is_moving command ≡ true → is_good s ≡ true → cut_side s ≡ left_by command other own s
left-cut command other own s failed said moving good = rw (failed, said, moving) (cut-good s good)

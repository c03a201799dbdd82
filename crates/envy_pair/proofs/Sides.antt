-- Facts of one side of a pair.
use Rattle.std.proofs.Common.{◌≡◌, Bool, true, false, List, Option, None, sym, ◌∙◌}
use Rattle.std.specs.Prelude.{IsTrue, ◌||◌}
use Rattle.envy_array.specs.Array.{Array}
use Rattle.envy_array.specs.Step.{Command}
use Rattle.envy_meaning.specs.Stands.{Stands}
use Rattle.envy_map.specs.Fields.{Chart}
use Rattle.envy_mirror.specs.Asking.{Reaches}
use Rattle.envy_mirror.specs.Mirroring.{AgreesBy}
use Rattle.envy_mirror.specs.Pair.{Side, is_good, is_good_by}
use Rattle.envy_mirror.specs.Replies.{Reply as PairReply}
use Rattle.envy_mirror.specs.declared.standing.Standing.{Standing}
use Rattle.envy_mirror.specs.declared.standing.Standing.TheVariants.{Good, Behind, Gone}

-- a Good side's board stands for the array
pub stands-good : (g : Standing) (c : Chart) (stale : List Bool) (m : Array) → IsTrue (is_good_by g) → AgreesBy g c stale m → Stands c m
stands-good Good c stale m so agrees = agrees
stands-good Behind c stale m so agrees = cc
stands-good Gone c stale m so agrees = cc

pub neither : (a b : Bool) → a ≡ false → b ≡ false → IsTrue (a || b) → ⊥
neither true b e f so = cc
neither false b e f so = let clash : false ≡ true = sym f ∙ so in cc

-- a side that wasn't asked
pub reach-none : (command : Command) (other : Option PairReply) (old new : Side) → Reaches command other None old new → (is_good old ≡ false) × (new ≡ old)
reach-none command other old new (mid, (bad, stays), is) = (bad, is ∙ stays)

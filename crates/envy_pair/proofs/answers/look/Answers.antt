use Rattle.std.proofs.Common.{refl}
use Rattle.std.specs.Prelude.{Ok, Err}
use Rattle.envy_memory.specs.declared.faults.LoadFault.TheVariants.{Range}
use Rattle.envy_pair.specs.Serving.{no_past}
use Rattle.envy_pair.proofs.Lines.{look-lit}
use Rattle.envy_pair.proofs.answers.look.Goals as goal

pub returns-in-Ok : goal.returns-in-Ok
returns-in-Ok g c = record { result = Ok c.in-Ok.word; shows = refl; finds = c.in-Ok.ensures.finds; stays = refl }

pub returns-in-Err-Range : goal.returns-in-Err-Range
returns-in-Err-Range g c = let e = rw c.in-Err-Range.field-0-is at c.in-Err-Range.ensures in record { result = Err Range; shows = refl; finds = e.finds; stays = refl }

pub unreachable-requires : goal.unreachable-requires
unreachable-requires g c =
    let e = rw c.in-Err-Off.field-0-is at c.in-Err-Off.ensures in
    look-lit (record { array = c.requires.0; first = no_past; second = no_past }) c.args.address c.args.mirror.now c.requires.1 e.finds

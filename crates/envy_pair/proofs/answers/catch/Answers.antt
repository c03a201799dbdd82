use Rattle.std.proofs.Common.{refl}
use Rattle.std.specs.Prelude.{Ok, Err}
use Rattle.envy_mirror.specs.declared.catch_up.Caught.TheVariants.{Whole, Waiting, Woken, Copied, Joined}
use Rattle.envy_mirror.specs.declared.catch_up.CatchFault.TheVariants.{Dead, Slipped, Bad}
use Rattle.envy_pair.proofs.Following.{never-off}
use Rattle.envy_pair.proofs.answers.catch.Goals as goal

pub returns-in-Ok-Whole : goal.returns-in-Ok-Whole
returns-in-Ok-Whole g c side = let e = rw c.in-Ok-Whole.field-0-is at c.in-Ok-Whole.ensures in (Ok Whole, refl, e.catches, e.mirrors, refl)

pub returns-in-Ok-Waiting : goal.returns-in-Ok-Waiting
returns-in-Ok-Waiting g c side = let e = rw c.in-Ok-Waiting.field-0-is at c.in-Ok-Waiting.ensures in (Ok (Waiting c.in-Ok-Waiting.slot), refl, e.catches, e.mirrors, refl)

pub returns-in-Ok-Woken : goal.returns-in-Ok-Woken
returns-in-Ok-Woken g c side = let e = rw c.in-Ok-Woken.field-0-is at c.in-Ok-Woken.ensures in (Ok Woken, refl, e.catches, e.mirrors, refl)

pub returns-in-Ok-Copied : goal.returns-in-Ok-Copied
returns-in-Ok-Copied g c side = let e = rw c.in-Ok-Copied.field-0-is at c.in-Ok-Copied.ensures in (Ok (Copied c.in-Ok-Copied.page), refl, e.catches, e.mirrors, refl)

pub returns-in-Ok-Joined : goal.returns-in-Ok-Joined
returns-in-Ok-Joined g c side = let e = rw c.in-Ok-Joined.field-0-is at c.in-Ok-Joined.ensures in (Ok Joined, refl, e.catches, e.mirrors, refl)

pub returns-in-Err-Dead : goal.returns-in-Err-Dead
returns-in-Err-Dead g c side = let e = rw c.in-Err-Dead.field-0-is at c.in-Err-Dead.ensures in (Err Dead, refl, e.catches, e.mirrors, refl)

pub returns-in-Err-Slipped : goal.returns-in-Err-Slipped
returns-in-Err-Slipped g c side = let e = rw c.in-Err-Slipped.field-0-is at c.in-Err-Slipped.ensures in (Err Slipped, refl, e.catches, e.mirrors, refl)

pub returns-in-Err-Bad : goal.returns-in-Err-Bad
returns-in-Err-Bad g c side = let e = rw c.in-Err-Bad.field-0-is at c.in-Err-Bad.ensures in (Err Bad, refl, e.catches, e.mirrors, refl)

pub unreachable-requires : goal.unreachable-requires
unreachable-requires g c = let e = rw c.in-Err-Off.field-0-is at c.in-Err-Off.ensures in never-off c.requires.0 c.args.mirror.now c.catch_up.new.self c.requires.1 e.catches

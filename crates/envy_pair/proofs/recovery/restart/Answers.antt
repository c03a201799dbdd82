use Rattle.std.proofs.Common.{refl}
use Rattle.envy_pair.proofs.Returning.{still-first, still-dark, still-again, lives-again, for-good, back-after}
use Rattle.envy_pair.proofs.recovery.restart.Goals as goal

pub loop-init : goal.loop-init
loop-init g c = still-first c.args.mirror.now c.requires

pub revive-requires : goal.revive-requires
revive-requires g c = still-dark c.args.mirror.now c.loop.mirror c.requires c.loop.invariant

pub returns-in-Ok : goal.returns-in-Ok
returns-in-Ok g c = back-after c.args.mirror.now c.loop.mirror c.revive.new.self c.loop.invariant c.in-Ok.ensures.revives (c.in-Ok.ensures.mirrors refl)

pub returns-in-Err-Dead : goal.returns-in-Err-Dead
returns-in-Err-Dead g c =
    let e = rw c.in-Err-Dead.field-0-is at c.in-Err-Dead.ensures in
    for-good c.args.mirror.now c.loop.mirror c.revive.new.self c.loop.invariant e.revives

pub loop-preserved : goal.loop-preserved
loop-preserved g c =
    let e = rw c.in-Err-Off.field-0-is at c.in-Err-Off.ensures in
    still-again c.args.mirror.now c.loop.mirror c.revive.new.self c.loop.invariant e.revives

pub loop-smaller : goal.loop-smaller
loop-smaller g c =
    let e = rw c.in-Err-Off.field-0-is at c.in-Err-Off.ensures in
    lives-again c.args.mirror.now c.loop.mirror c.revive.new.self c.loop.invariant e.revives

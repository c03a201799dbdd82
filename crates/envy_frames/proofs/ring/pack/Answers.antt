use Rattle.std.proofs.Common.{◌<◌, length, arith, ◌∙◌}
use Rattle.envy_frames.specs.Entries.{is_kept}
use Rattle.envy_frames.proofs.Live.{first-turned}
use Rattle.envy_frames.proofs.Rotation.{turned_if, length-turned}
use Rattle.envy_frames.proofs.ring.pack.Goals as goal

pub rotate-requires : goal.rotate-requires
rotate-requires c = record {
  fits = let fits = c.requires.stamped.fits in let short = length-turned (is_kept c.args.stamps.now c.args.frame) _ _ c.loop-turn._turn (omega arith) c.loop-turn.invariant.items in omega arith;
  below = first-turned (λ e. e.held.frame < length c.args.stamps.now) (is_kept c.args.stamps.now c.args.frame) _ _ c.loop-turn._turn c.requires.stamped.below c.loop-turn.invariant.items;
}

pub loop-turn-preserved : goal.loop-turn-preserved
loop-turn-preserved c = record {
  items = turned_if (is_kept c.args.stamps.now c.args.frame) _ _ _ c.loop-turn._turn (omega arith) c.loop-turn.invariant.items c.rotate.ensures.items;
  capacity = c.rotate.ensures.capacity ∙ c.loop-turn.invariant.capacity;
  fits = omega arith;
}

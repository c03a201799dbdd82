use Rattle.std.proofs.Common.{◌≡◌, ◌≢◌, ◌⊎◌, inl, inr, arith}
use Rattle.envy_btree.proofs.Passing.{long-of, parts-between, parts-here}
use Rattle.envy_btree.proofs.part.place_below.Goals.{else-place-gt0-via-then-place-gt0+else-place-key, else-place-gt0-via-else-place-gt0}
use Rattle.envy_btree.proofs.part.place_below.Goals as goal

pub returns-then-place-key-clause-pairs : goal.returns-then-place-key-clause-pairs
returns-then-place-key-clause-pairs g c low high es r keys =
    parts-here _ _ _ c.args.key _ _ c.in_ok-place.place.index _ _ low high es r keys (long-of _ c.args.leaf.spot.piece _ es c.requires.within c.requires.few keys) c.in_ok-place.ensures.place c.if-place-gt0.true c.if-place-key.true

pub returns-clause-pairs : goal.returns-clause-pairs
returns-clause-pairs g c low high es r keys =
    let other : (c.in_ok-place.place.index ≡ 0) ⊎ (c.in_ok-place.place.low ≢ c.args.key) = elim c.else-place-gt0.branch [
      | else-place-gt0-via-then-place-gt0+else-place-key w ↦ inr w.if-place-key.false
      | else-place-gt0-via-else-place-gt0 w ↦ inl (omega (arith, w.if-place-gt0.false))
    ] in
    parts-between _ _ _ c.args.key _ _ c.in_ok-place.place.index _ _ low high es r keys (long-of _ c.args.leaf.spot.piece _ es c.requires.within c.requires.few keys) c.in_ok-place.ensures.place other

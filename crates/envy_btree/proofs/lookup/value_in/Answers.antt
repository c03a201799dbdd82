use Rattle.std.proofs.Common.{◌≡◌, ◌≢◌, ◌⊎◌, ◌+◌, ◌-◌, ◌∙◌, Some, ap, sym, inl, inr, get_or}
use Rattle.envy_heap.specs.Pieces.{at}
use Rattle.envy_btree.proofs.Passing.{leaf-found, leaf-missing}
use Rattle.envy_btree.proofs.lookup.value_in.Goals.{then-place-eq0-via-then-place-eq0, then-place-eq0-via-else-place-eq0+then-place-key}
use Rattle.envy_btree.proofs.lookup.value_in.Goals as goal

pub returns-then-place-eq0-clause-gets : goal.returns-then-place-eq0-clause-gets
returns-then-place-eq0-clause-gets g c es x =
    let other : (c.in_ok-place.place.index ≡ 0) ⊎ (c.in_ok-place.place.low ≢ c.args.key) = elim c.then-place-eq0.branch [
      | then-place-eq0-via-then-place-eq0 w ↦ inl w.if-place-eq0.true
      | then-place-eq0-via-else-place-eq0+then-place-key w ↦ inr w.if-place-key.true
    ] in
    sym (leaf-missing _ es _ _ _ _ c.args.key c.in_ok-place.place.index _ _ x c.requires.above c.requires.below c.in_ok-place.ensures.place other)

pub returns-clause-gets : goal.returns-clause-gets
returns-clause-gets g c es x =
    let same = c.place_of.ensures.looks.same (c.in_ok-place.ensures.power c.requires.on) in
    ap (λ v. Some v) (c.in_ok-value.ensures.answer.1 ∙ ap (λ w. get_or w (at c.args.leaf.spot.piece 32 + (c.in_ok-place.place.index - 1)) 0) same.0)
    ∙ sym (leaf-found _ es _ _ _ _ c.args.key c.in_ok-place.place.index _ _ x c.requires.above c.requires.below c.in_ok-place.ensures.place c.if-place-eq0.false c.if-place-key.false)

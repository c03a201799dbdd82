use Rattle.std.proofs.Common.{◌≡◌, ◌∙◌, ℕ, List, length, drop, arith, ap}
use Rattle.std.specs.List.{range_with_len}
use Rattle.std.proofs.lemmas.List.{take_at}
use Rattle.std.proofs.lemmas.List.FromFn.{length-range_with_len}
use Rattle.envy_space.proofs.OrderLemmas.{ArePlaces-range}
use Rattle.envy_space.proofs.order.Order.clear.Goals as goal

pub number-requires : goal.number-requires
number-requires c = omega (arith, ap length c.deref_mut.ensures.value)

pub number-requires-2 : goal.number-requires-2
number-requires-2 c = omega (arith, ap length c.deref_mut-2.ensures.value)

pub invariant_of-self : goal.invariant_of-self
invariant_of-self c =
    let n = length c.self.inside.segments.items in
    let first : c.number.new.items ≡ range_with_len 0 n = c.number.ensures ∙ ap (λ (xs : List ℕ). range_with_len 0 (length xs)) c.deref_mut.ensures.value in
    let second : c.number-2.new.items ≡ range_with_len 0 n = c.number-2.ensures ∙ ap (range_with_len 0) (ap length c.deref_mut-2.ensures.value ∙ c.self.invariant.long) in
    let long = length-range_with_len 0 n in
    let all = take_at c.number.new.items (drop (length c.number.new.items) c.self.inside.segments.items) c.self.inside.segments.len (omega arith) in
    let all_places = take_at c.number-2.new.items (drop (length c.number-2.new.items) c.self.inside.places.items) c.self.inside.places.len (omega arith) in
    rw (all, all_places, first, second) (ArePlaces-range n c.self.invariant.few)

use Rattle.std.proofs.Common.{◌≡◌, ◌∙◌, ℕ, ◌^◌, ◌<◌, length, drop, arith, ap, subst, sym}
use Rattle.std.specs.List.{range_with_len}
use Rattle.std.proofs.lemmas.List.{take_at}
use Rattle.std.proofs.lemmas.List.FromFn.{length-range_with_len}
use Rattle.envy_space.proofs.OrderLemmas.{ArePlaces-range}
use Rattle.envy_space.proofs.order.Order.new.Goals as goal

pub invariant_of-result : goal.invariant_of-result
invariant_of-result c =
    let n = c.args.count in
    let first : c.number.new.items ≡ range_with_len 0 n = c.number.ensures ∙ ap (range_with_len 0) (c.deref_mut.ensures.len ∙ c.in_ok-segments.ensures.len) in
    let second : c.number-2.new.items ≡ range_with_len 0 n = c.number-2.ensures ∙ ap (range_with_len 0) (c.deref_mut-2.ensures.len ∙ c.in_ok-places.ensures.len) in
    let long = length-range_with_len 0 n in
    let segments_len = c.in_ok-segments.ensures.len in
    let places_len = c.in_ok-places.ensures.len in
    let all = take_at c.number.new.items (drop (length c.number.new.items) c.in_ok-segments.segments.items) c.in_ok-segments.segments.len (ap length first ∙ long ∙ sym segments_len) in
    let all_places = take_at c.number-2.new.items (drop (length c.number-2.new.items) c.in_ok-places.places.items) c.in_ok-places.places.len (ap length second ∙ long ∙ sym places_len) in
    rw (all, all_places, first, second) (ArePlaces-range n (omega arith))

pub returns : goal.returns
returns c =
    let first : c.number.new.items ≡ range_with_len 0 c.args.count = c.number.ensures ∙ ap (range_with_len 0) (c.deref_mut.ensures.len ∙ c.in_ok-segments.ensures.len) in
    let all = take_at c.number.new.items (drop (length c.number.new.items) c.in_ok-segments.segments.items) c.in_ok-segments.segments.len (ap length first ∙ length-range_with_len 0 c.args.count ∙ sym c.in_ok-segments.ensures.len) in
    all ∙ first

pub number-requires : goal.number-requires
number-requires c = subst (λ (n : ℕ). n < 2 ^ 32) (sym (c.deref_mut.ensures.len ∙ c.in_ok-segments.ensures.len)) c.ranges.count.fits

pub number-requires-2 : goal.number-requires-2
number-requires-2 c = subst (λ (n : ℕ). n < 2 ^ 32) (sym (c.deref_mut-2.ensures.len ∙ c.in_ok-places.ensures.len)) c.ranges.count.fits

use Rattle.std.proofs.Common.{◌∙◌, ℕ, ◌+◌, ◌*◌, Some, get_or, sym, subst, arith}
use Rattle.std.specs.Int.{bit_at}
use Rattle.envy_space.specs.Bits.{bit_of}
use Rattle.envy_space.specs.Winners.{IsLowest}
use Rattle.envy_space.proofs.SpaceLemmas.{read-at}
use Rattle.envy_space.proofs.BitLemmas.{seen, seen-long, some-top, Lowest-same, Lowest-none, IsLowest-cut, IsLowest-words}
use Rattle.envy_space.proofs.flags.Flags.lowest_behind.Goals as goal

pub lowest_from-requires : goal.lowest_from-requires
lowest_from-requires c =
    let s = c.self.inside in
    let i = c.self.invariant in
    let long = seen-long s.places s.words.items c.args.self.now c.self.view_is in
    let few = i.few in
    let words = i.long in
    let same = seen s.places s.top s.words.items c.args.self.now i c.self.view_is in
    let past = c.if-word-end.false in
    omega arith

pub lowest_of-requires : goal.lowest_of-requires
lowest_of-requires c =
    let s = c.self.inside in
    let i = c.self.invariant in
    let long = seen-long s.places s.words.items c.args.self.now c.self.view_is in
    let few = i.few in
    let words = i.long in
    let same = seen s.places s.top s.words.items c.args.self.now i c.self.view_is in
    let next = c.in-Some.ensures.below in
    let read = read-at s.words.items c.in-Some.next c.index.result.now (omega arith) c.index.ensures in
    let some = some-top s.places s.top s.words.items i c.in-Some.next next c.in-Some.ensures.some in
    omega arith

pub returns-then-place-end : goal.returns-then-place-end
returns-then-place-end c =
    let s = c.self.inside in
    let i = c.self.invariant in
    let long = seen-long s.places s.words.items c.args.self.now c.self.view_is in
    let few = i.few in
    let words = i.long in
    let same = seen s.places s.top s.words.items c.args.self.now i c.self.view_is in
    let next = c.in-Some.ensures.below in
    let read = read-at s.words.items c.in-Some.next c.index.result.now (omega arith) c.index.ensures in
    Lowest-same (bit_of s.words.items) (λ (k : ℕ). get_or c.args.self.now k 0) (64 * c.args.word) c.args.end (Some (64 * c.in-Some.next + c.lowest_of.result)) same
    (IsLowest-cut (bit_of s.words.items) (64 * c.args.word) (64 * c.in-Some.next + 64) c.args.end (64 * c.in-Some.next + c.lowest_of.result)
    (IsLowest-words s.places s.top s.words.items i c.args.word c.in-Some.next c.lowest_of.result c.in-Some.ensures (subst (λ (m : ℕ). IsLowest (bit_at m) 0 64 c.lowest_of.result) read c.lowest_of.ensures))
    c.if-place-end.true)

pub returns-else-place-end : goal.returns-else-place-end
returns-else-place-end c =
    let s = c.self.inside in
    let i = c.self.invariant in
    let long = seen-long s.places s.words.items c.args.self.now c.self.view_is in
    let few = i.few in
    let words = i.long in
    let same = seen s.places s.top s.words.items c.args.self.now i c.self.view_is in
    let next = c.in-Some.ensures.below in
    let read = read-at s.words.items c.in-Some.next c.index.result.now (omega arith) c.index.ensures in
    let lowest = IsLowest-words s.places s.top s.words.items i c.args.word c.in-Some.next c.lowest_of.result c.in-Some.ensures (subst (λ (m : ℕ). IsLowest (bit_at m) 0 64 c.lowest_of.result) read c.lowest_of.ensures) in
    let past = c.if-place-end.false in
    λ j low high. sym (same j) ∙ lowest.none j low (omega arith)

pub returns-in-None : goal.returns-in-None
returns-in-None c =
    let s = c.self.inside in
    let i = c.self.invariant in
    let long = seen-long s.places s.words.items c.args.self.now c.self.view_is in
    let few = i.few in
    let words = i.long in
    let same = seen s.places s.top s.words.items c.args.self.now i c.self.view_is in
    λ j low high. sym (same j) ∙ Lowest-none s.places s.top s.words.items i c.args.word c.args.end (omega arith) c.in-None.ensures j low high

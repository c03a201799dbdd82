use Rattle.std.proofs.Common.{◌≡◌, ◌∙◌, ℕ, ◌+◌, ◌-◌, ◌*◌, Some, get_or, sym, subst, arith}
use Rattle.std.specs.Int.{bit_at}
use Rattle.envy_space.specs.Bits.{bit_of}
use Rattle.envy_space.specs.Winners.{IsHighest}
use Rattle.envy_space.proofs.SpaceLemmas.{read-at}
use Rattle.envy_space.proofs.BitLemmas.{seen, seen-long, some-top, Highest-same, Highest-none, IsHighest-cut, IsHighest-words}
use Rattle.envy_space.proofs.flags.Flags.highest_before.Goals as goal

pub highest_of-requires : goal.highest_of-requires
highest_of-requires c =
    let s = c.self.inside in
    let i = c.self.invariant in
    let long = seen-long s.places s.words.items c.args.self.now c.self.view_is in
    let few = i.few in
    let words = i.long in
    let same = seen s.places s.top s.words.items c.args.self.now i c.self.view_is in
    let next = c.in-Some.ensures.below in
    let low = c.requires in
    let read = read-at s.words.items c.in-Some.next c.index.result.now (omega arith) c.index.ensures in
    let some = some-top s.places s.top s.words.items i c.in-Some.next (omega arith) c.in-Some.ensures.some in
    omega arith

pub returns-then-place-first : goal.returns-then-place-first
returns-then-place-first c =
    let s = c.self.inside in
    let i = c.self.invariant in
    let long = seen-long s.places s.words.items c.args.self.now c.self.view_is in
    let few = i.few in
    let words = i.long in
    let same = seen s.places s.top s.words.items c.args.self.now i c.self.view_is in
    let next = c.in-Some.ensures.below in
    let past = c.if-word-first.false in
    let one : c.args.word - 1 + 1 ≡ c.args.word = omega arith in
    let read = read-at s.words.items c.in-Some.next c.index.result.now (omega arith) c.index.ensures in
    Highest-same (bit_of s.words.items) (λ (k : ℕ). get_or c.args.self.now k 0) c.args.first (64 * c.args.word) (Some (64 * c.in-Some.next + c.highest_of.result)) same
    (IsHighest-cut (bit_of s.words.items) 0 c.args.first (64 * c.args.word) (64 * c.in-Some.next + c.highest_of.result)
    (IsHighest-words s.places s.top s.words.items i c.args.word c.in-Some.next c.highest_of.result (omega arith) (subst (λ (w : ℕ). IsHighest (bit_at s.top) 0 w c.in-Some.next) one c.in-Some.ensures) (subst (λ (m : ℕ). IsHighest (bit_at m) 0 64 c.highest_of.result) read c.highest_of.ensures))
    c.if-place-first.true)

pub returns-else-place-first : goal.returns-else-place-first
returns-else-place-first c =
    let s = c.self.inside in
    let i = c.self.invariant in
    let long = seen-long s.places s.words.items c.args.self.now c.self.view_is in
    let few = i.few in
    let words = i.long in
    let same = seen s.places s.top s.words.items c.args.self.now i c.self.view_is in
    let next = c.in-Some.ensures.below in
    let past = c.if-word-first.false in
    let one : c.args.word - 1 + 1 ≡ c.args.word = omega arith in
    let read = read-at s.words.items c.in-Some.next c.index.result.now (omega arith) c.index.ensures in
    let highest = IsHighest-words s.places s.top s.words.items i c.args.word c.in-Some.next c.highest_of.result (omega arith) (subst (λ (w : ℕ). IsHighest (bit_at s.top) 0 w c.in-Some.next) one c.in-Some.ensures) (subst (λ (m : ℕ). IsHighest (bit_at m) 0 64 c.highest_of.result) read c.highest_of.ensures) in
    let before = c.if-place-first.false in
    λ j low high. sym (same j) ∙ highest.none j (omega arith) high

pub returns-in-None : goal.returns-in-None
returns-in-None c =
    let s = c.self.inside in
    let i = c.self.invariant in
    let long = seen-long s.places s.words.items c.args.self.now c.self.view_is in
    let few = i.few in
    let words = i.long in
    let same = seen s.places s.top s.words.items c.args.self.now i c.self.view_is in
    let past = c.if-word-first.false in
    λ j low high. sym (same j) ∙ Highest-none s.places s.top s.words.items i c.args.word (omega arith) (λ b lt. c.in-None.ensures b (omega arith) (omega arith)) j high

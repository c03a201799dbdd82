use Rattle.std.proofs.Common.{◌∙◌, ℕ, ◌+◌, ◌*◌, ◌/◌, ◌%◌, Some, get_or, sym, ap, subst, arith}
use Rattle.std.specs.Int.{bit_at}
use Rattle.envy_space.specs.Bits.{bit_of}
use Rattle.envy_space.specs.Winners.{IsLowest}
use Rattle.envy_space.proofs.SpaceLemmas.{read-at}
use Rattle.envy_space.proofs.BitLemmas.{seen, seen-long, Lowest-same, IsLowest-cut, IsLowest-word, Lowest-next}
use Rattle.envy_space.proofs.flags.Flags.lowest.Goals as goal

pub index-requires : goal.index-requires
index-requires c =
    let s = c.self.inside in
    let i = c.self.invariant in
    let long = seen-long s.places s.words.items c.args.self.now c.self.view_is in
    let few = i.few in
    let words = i.long in
    let same = seen s.places s.top s.words.items c.args.self.now i c.self.view_is in
    let apart = c.if-first-end.false in
    omega arith

pub lowest_behind-requires-clause-word : goal.lowest_behind-requires-clause-word
lowest_behind-requires-clause-word c =
    let s = c.self.inside in
    let i = c.self.invariant in
    let long = seen-long s.places s.words.items c.args.self.now c.self.view_is in
    let few = i.few in
    let words = i.long in
    let same = seen s.places s.top s.words.items c.args.self.now i c.self.view_is in
    let apart = c.if-first-end.false in
    omega arith

pub returns-in-Some : goal.returns-in-Some
returns-in-Some c =
    let s = c.self.inside in
    let i = c.self.invariant in
    let long = seen-long s.places s.words.items c.args.self.now c.self.view_is in
    let few = i.few in
    let words = i.long in
    let same = seen s.places s.top s.words.items c.args.self.now i c.self.view_is in
    let apart = c.if-first-end.false in
    let read = read-at s.words.items (c.args.first / 64) c.index.result.now (omega arith) c.index.ensures in
    Lowest-same (bit_of s.words.items) (λ (k : ℕ). get_or c.args.self.now k 0) c.args.first c.args.end (Some (64 * (c.args.first / 64) + c.in-Some.bit)) same
    (IsLowest-cut (bit_of s.words.items) c.args.first (64 * (c.args.first / 64) + 64) c.args.end (64 * (c.args.first / 64) + c.in-Some.bit)
    (IsLowest-word s.words.items c.args.first c.in-Some.bit (subst (λ (m : ℕ). IsLowest (bit_at m) (c.args.first % 64) 64 c.in-Some.bit) read c.in-Some.ensures))
    c.if-word-bit.true)

pub returns-in-Some-2 : goal.returns-in-Some-2
returns-in-Some-2 c =
    let s = c.self.inside in
    let i = c.self.invariant in
    let long = seen-long s.places s.words.items c.args.self.now c.self.view_is in
    let few = i.few in
    let words = i.long in
    let same = seen s.places s.top s.words.items c.args.self.now i c.self.view_is in
    let apart = c.if-first-end.false in
    let read = read-at s.words.items (c.args.first / 64) c.index.result.now (omega arith) c.index.ensures in
    let lowest = IsLowest-word s.words.items c.args.first c.in-Some.bit (subst (λ (m : ℕ). IsLowest (bit_at m) (c.args.first % 64) 64 c.in-Some.bit) read c.in-Some.ensures) in
    let past = c.if-word-bit.false in
    λ j low high. sym (same j) ∙ lowest.none j low (omega arith)

pub returns-in-None : goal.returns-in-None
returns-in-None c =
    let s = c.self.inside in
    let i = c.self.invariant in
    let long = seen-long s.places s.words.items c.args.self.now c.self.view_is in
    let few = i.few in
    let words = i.long in
    let same = seen s.places s.top s.words.items c.args.self.now i c.self.view_is in
    let apart = c.if-first-end.false in
    let read = read-at s.words.items (c.args.first / 64) c.index.result.now (omega arith) c.index.ensures in
    Lowest-same (bit_of s.words.items) (λ (k : ℕ). get_or c.args.self.now k 0) c.args.first c.args.end c.lowest_behind.result same
    (Lowest-next s.words.items c.args.first c.args.end c.lowest_behind.result (λ j low high. ap (λ (m : ℕ). bit_at m j) (sym read) ∙ c.in-None.ensures j low high)
    (Lowest-same (λ (k : ℕ). get_or c.args.self.now k 0) (bit_of s.words.items) (64 * (c.args.first / 64 + 1)) c.args.end c.lowest_behind.result (λ k. sym (same k)) c.lowest_behind.ensures))

use Rattle.std.proofs.Common.{◌∙◌, ℕ, ◌-◌, ◌/◌, ◌%◌, List, get_or, set, ap, subst, arith}
use Rattle.envy_space.specs.Bits.{IsTurned, AreBits}
use Rattle.envy_space.proofs.SpaceLemmas.{read-at}
use Rattle.envy_space.proofs.BitLemmas.{seen-long, AreBits-turned, bits-turned}
use Rattle.envy_space.proofs.flags.Flags.turn.Goals as goal

pub index-requires : goal.index-requires
index-requires c =
    let long = seen-long c.self.inside.places c.self.inside.words.items c.args.self.now c.self.view_is in
    let few = c.self.invariant.few in
    let words = c.self.invariant.long in
    omega arith

pub index_mut-requires : goal.index_mut-requires
index_mut-requires c =
    let long = seen-long c.self.inside.places c.self.inside.words.items c.args.self.now c.self.view_is in
    let few = c.self.invariant.few in
    let words = c.self.invariant.long in
    omega arith

pub with_bit-self-inside-requires-clause-place : goal.with_bit-self-inside-requires-clause-place
with_bit-self-inside-requires-clause-place c =
    let long = seen-long c.self.inside.places c.self.inside.words.items c.args.self.now c.self.view_is in
    let few = c.self.invariant.few in
    omega arith

pub invariant_of-self : goal.invariant_of-self
invariant_of-self c =
    let s = c.self.inside in
    let i = c.self.invariant in
    let long = seen-long s.places s.words.items c.args.self.now c.self.view_is in
    let few = i.few in
    let words = i.long in
    let read = read-at s.words.items (c.args.place / 64) c.index.result.now (omega arith) c.index.ensures in
    let turned : IsTurned (get_or s.words.items (c.args.place / 64) 0) (c.args.place % 64) c.turned-bits.result = subst (λ (m : ℕ). IsTurned m (c.args.place % 64) c.turned-bits.result) read c.turned-bits.ensures in
    AreBits-turned s.places s.top s.words.items c.args.place c.turned-bits.result c.with_bit-self-inside.result i (omega arith) c.turned-bits.type_inv turned (c.with_bit-self-inside.ensures.here ∙ omega arith) c.with_bit-self-inside.ensures.others

pub returns : goal.returns
returns c =
    let s = c.self.inside in
    let i = c.self.invariant in
    let long = seen-long s.places s.words.items c.args.self.now c.self.view_is in
    let few = i.few in
    let words = i.long in
    let read = read-at s.words.items (c.args.place / 64) c.index.result.now (omega arith) c.index.ensures in
    let turned : IsTurned (get_or s.words.items (c.args.place / 64) 0) (c.args.place % 64) c.turned-bits.result = subst (λ (m : ℕ). IsTurned m (c.args.place % 64) c.turned-bits.result) read c.turned-bits.ensures in
    let now : AreBits s.places c.with_bit-self-inside.result (set s.words.items (c.args.place / 64) c.turned-bits.result) =
    AreBits-turned s.places s.top s.words.items c.args.place c.turned-bits.result c.with_bit-self-inside.result i (omega arith) c.turned-bits.type_inv turned (c.with_bit-self-inside.ensures.here ∙ omega arith) c.with_bit-self-inside.ensures.others in
    bits-turned s.places s.top s.words.items c.args.place c.turned-bits.result c.with_bit-self-inside.result i now (omega arith) turned
    ∙ ap (λ (xs : List ℕ). set xs c.args.place (1 - get_or xs c.args.place 0)) c.self.view_is

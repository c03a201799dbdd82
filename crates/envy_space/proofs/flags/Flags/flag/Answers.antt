use Rattle.std.proofs.Common.{◌∙◌, ℕ, ◌/◌, ◌%◌, ap, arith}
use Rattle.std.specs.Int.{bit_at}
use Rattle.envy_space.proofs.SpaceLemmas.{read-at}
use Rattle.envy_space.proofs.BitLemmas.{seen, seen-long}
use Rattle.envy_space.proofs.flags.Flags.flag.Goals as goal

pub index-requires : goal.index-requires
index-requires c =
    let long = seen-long c.self.inside.places c.self.inside.words.items c.args.self.now c.self.view_is in
    let few = c.self.invariant.few in
    let words = c.self.invariant.long in
    omega arith

pub returns-clause-value : goal.returns-clause-value
returns-clause-value c =
    let s = c.self.inside in
    let long = seen-long s.places s.words.items c.args.self.now c.self.view_is in
    let few = c.self.invariant.few in
    let words = c.self.invariant.long in
    c.bit.ensures.value ∙ ap (λ (m : ℕ). bit_at m (c.args.place % 64)) (read-at s.words.items (c.args.place / 64) c.index.result.now (omega arith) c.index.ensures)
    ∙ seen s.places s.top s.words.items c.args.self.now c.self.invariant c.self.view_is c.args.place

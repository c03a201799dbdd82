use Rattle.std.proofs.Common.{◌∙◌, ℕ, ◌+◌, ◌-◌, ◌*◌, ◌/◌, ◌%◌, Some, get_or, sym, ap, subst, arith}
use Rattle.std.specs.Int.{bit_at}
use Rattle.envy_space.specs.Bits.{bit_of}
use Rattle.envy_space.specs.Winners.{IsHighest}
use Rattle.envy_space.proofs.SpaceLemmas.{read-at}
use Rattle.envy_space.proofs.BitLemmas.{seen, seen-long, Highest-same, IsHighest-cut, IsHighest-word, Highest-next}
use Rattle.envy_space.proofs.flags.Flags.highest.Goals as goal

pub index-requires : goal.index-requires
index-requires c =
    let s = c.self.inside in
    let i = c.self.invariant in
    let long = seen-long s.places s.words.items c.args.self.now c.self.view_is in
    let few = i.few in
    let words = i.long in
    let same = seen s.places s.top s.words.items c.args.self.now i c.self.view_is in
    let apart = c.if-first-end.false in
    omega arith

pub highest_before-requires : goal.highest_before-requires
highest_before-requires c =
    let s = c.self.inside in
    let i = c.self.invariant in
    let long = seen-long s.places s.words.items c.args.self.now c.self.view_is in
    let few = i.few in
    let words = i.long in
    let same = seen s.places s.top s.words.items c.args.self.now i c.self.view_is in
    let apart = c.if-first-end.false in
    record { word = omega arith }

pub returns-in-Some : goal.returns-in-Some
returns-in-Some c =
    let s = c.self.inside in
    let i = c.self.invariant in
    let long = seen-long s.places s.words.items c.args.self.now c.self.view_is in
    let few = i.few in
    let words = i.long in
    let same = seen s.places s.top s.words.items c.args.self.now i c.self.view_is in
    let apart = c.if-first-end.false in
    let read = read-at s.words.items ((c.args.end - 1) / 64) c.index.result.now (omega arith) c.index.ensures in
    Highest-same (bit_of s.words.items) (λ (k : ℕ). get_or c.args.self.now k 0) c.args.first c.args.end (Some (64 * ((c.args.end - 1) / 64) + c.in-Some.bit)) same
    (IsHighest-cut (bit_of s.words.items) (64 * ((c.args.end - 1) / 64)) c.args.first c.args.end (64 * ((c.args.end - 1) / 64) + c.in-Some.bit)
    (IsHighest-word s.words.items c.args.end c.in-Some.bit (omega arith) (subst (λ (m : ℕ). IsHighest (bit_at m) 0 ((c.args.end - 1) % 64 + 1) c.in-Some.bit) read c.in-Some.ensures))
    c.if-word-bit.true)

pub returns-in-Some-2 : goal.returns-in-Some-2
returns-in-Some-2 c =
    let s = c.self.inside in
    let i = c.self.invariant in
    let long = seen-long s.places s.words.items c.args.self.now c.self.view_is in
    let few = i.few in
    let words = i.long in
    let same = seen s.places s.top s.words.items c.args.self.now i c.self.view_is in
    let apart = c.if-first-end.false in
    let read = read-at s.words.items ((c.args.end - 1) / 64) c.index.result.now (omega arith) c.index.ensures in
    let highest = IsHighest-word s.words.items c.args.end c.in-Some.bit (omega arith) (subst (λ (m : ℕ). IsHighest (bit_at m) 0 ((c.args.end - 1) % 64 + 1) c.in-Some.bit) read c.in-Some.ensures) in
    let past = c.if-word-bit.false in
    λ j low high. sym (same j) ∙ highest.none j (omega arith) high

pub returns-in-None : goal.returns-in-None
returns-in-None c =
    let s = c.self.inside in
    let i = c.self.invariant in
    let long = seen-long s.places s.words.items c.args.self.now c.self.view_is in
    let few = i.few in
    let words = i.long in
    let same = seen s.places s.top s.words.items c.args.self.now i c.self.view_is in
    let apart = c.if-first-end.false in
    let read = read-at s.words.items ((c.args.end - 1) / 64) c.index.result.now (omega arith) c.index.ensures in
    Highest-same (bit_of s.words.items) (λ (k : ℕ). get_or c.args.self.now k 0) c.args.first c.args.end c.highest_before.result same
    (Highest-next s.words.items c.args.first c.args.end c.highest_before.result (omega arith) (λ j low high. ap (λ (m : ℕ). bit_at m j) (sym read) ∙ c.in-None.ensures j low high)
    (Highest-same (λ (k : ℕ). get_or c.args.self.now k 0) (bit_of s.words.items) c.args.first (64 * ((c.args.end - 1) / 64)) c.highest_before.result (λ k. sym (same k)) c.highest_before.ensures))

use Rattle.std.proofs.Common.{◌≡◌, ℕ, ◌+◌, ◌^◌, List, [], ◌∷◌, ◌++◌, map, sym, ap, subst, ◌∙◌, arith, bit_xor}
use Rattle.std.proofs.lemmas.Nat.{one_shl}
use Rattle.envy_sum.specs.Lanes.{after_zeros, IsLane}
use Rattle.envy_sum.proofs.Tables.{lane_first, lane_doubled, zeros_of_word}
use Rattle.envy_sum.proofs.lanes.lane.Goals as goal

pub loop-bit-init : goal.loop-bit-init
loop-bit-init c =
    let one : c.push.new.self.items ≡ 0 ∷ [] = c.in_ok-push.ensures.items ∙ ap (λ (xs : List ℕ). xs ++ (0 ∷ [])) c.in_ok-entries.ensures.items in
    let P : List ℕ → Type 0 = λ xs. IsLane 0 c.args.bits xs in
    subst P (sym one) (lane_first c.args.bits)

pub loop-bit-preserved : goal.loop-bit-preserved
loop-bit-preserved c =
    let xs = c.loop-bit.entries.items in
    let turned : c.after_bits.result ≡ after_zeros c.args.bits (2 ^ c.loop-bit.bit) =
    c.after_bits.ensures ∙ zeros_of_word c.args.bits _ ∙ ap (after_zeros c.args.bits) (one_shl c.loop-bit.bit 32 (omega arith)) in
    let grown : c.in_ok-entries-2.entries.items ≡ xs ++ map (λ x. bit_xor x (after_zeros c.args.bits (2 ^ c.loop-bit.bit))) xs =
    c.in_ok-entries-2.ensures ∙ ap (λ t. xs ++ map (λ x. bit_xor x t) xs) turned in
    let P : List ℕ → Type 0 = λ ys. IsLane (c.loop-bit.bit + 1) c.args.bits ys in
    subst P (sym grown) (lane_doubled c.loop-bit.bit c.args.bits xs c.loop-bit.invariant)

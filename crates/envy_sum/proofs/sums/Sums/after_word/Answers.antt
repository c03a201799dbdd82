use Rattle.std.proofs.Common.{◌≡◌, ℕ, ◌/◌, ◌%◌, ◌^◌, ◌<◌, List, length, get_or, ap, ap₂, ◌∙◌, arith, bit_xor}
use Rattle.std.specs.Int.Bits.{xor_lt}
use Rattle.std.proofs.lemmas.Nat.{shr_below}
use Rattle.std.proofs.lemmas.Grind.{get_or_default_zero}
use Rattle.std.specs.Int.{bit_at}
use Rattle.envy_sum.specs.Register.{register_after}
use Rattle.envy_sum.proofs.Tables.{lanes_take_in}
use Rattle.envy_sum.proofs.sums.Sums.after_word.Goals as goal

pub index-requires-6 : goal.index-requires-6
index-requires-6 c =
    let small : bit_xor c.from.result c.args.word < 2 ^ 64 = xor_lt 64 c.from.result c.args.word (omega arith) c.ranges.word.fits in
    omega (arith, shr_below (bit_xor c.from.result c.args.word) 12 52 small, c.args.self.now.lane_52.long)

-- what was read at an index of a lane
read : (xs : List ℕ) (i n v : ℕ) → length xs ≡ n → i < n → v ≡ get_or xs i v → v ≡ get_or xs i 0
read xs i n v long low is = is ∙ get_or_default_zero xs i v (omega arith)

pub returns : goal.returns
returns c =
    let s = c.args.self.now in
    let x = bit_xor c.from.result c.args.word in
    let small : x < 2 ^ 64 = xor_lt 64 c.from.result c.args.word (omega arith) c.ranges.word.fits in
    let r0 = read s.at_0.items (x % 256) (2 ^ 8) _ s.lane_0.long (omega arith) c.index.ensures in
    let r8 = read s.at_8.items (x / 2 ^ 8 % 256) (2 ^ 8) _ s.lane_8.long (omega arith) c.index-2.ensures in
    let r16 = read s.at_16.items (x / 2 ^ 16 % 4096) (2 ^ 12) _ s.lane_16.long (omega arith) c.index-3.ensures in
    let r28 = read s.at_28.items (x / 2 ^ 28 % 4096) (2 ^ 12) _ s.lane_28.long (omega arith) c.index-4.ensures in
    let r40 = read s.at_40.items (x / 2 ^ 40 % 4096) (2 ^ 12) _ s.lane_40.long (omega arith) c.index-5.ensures in
    let r52 = read s.at_52.items (x / 2 ^ 52) (2 ^ 12) _ s.lane_52.long (shr_below x 12 52 small) c.index-6.ensures in
    let words = lanes_take_in s.at_0.items s.at_8.items s.at_16.items s.at_28.items s.at_40.items s.at_52.items s.lane_0 s.lane_8 s.lane_16 s.lane_28 s.lane_40 s.lane_52 in
    ap₂ bit_xor r0 (ap₂ bit_xor r8 (ap₂ bit_xor r16 (ap₂ bit_xor r28 (ap₂ bit_xor r40 r52))))
    ∙ words c.from.result c.args.word (omega arith) c.ranges.word.fits
    ∙ ap (λ r. register_after r (bit_at c.args.word) 64) c.from.ensures

use Rattle.std.proofs.Common.{◌≡◌, ℕ, ◌+◌, ◌*◌, ◌/◌, ◌<◌, ◌∙◌, List, [], length, get_or, take, drop, ap, arith}
use Rattle.envy_journal.specs.Reading.{zeros}
use Rattle.envy_journal.proofs.Counting.{zeros_few}
use Rattle.envy_journal.proofs.Pieces.{zeros_piece, zeros_cut, zeros_cut_few}
use Rattle.envy_journal.proofs.counted.zeros.Goals as goal

pub loop-piece-init : goal.loop-piece-init
unfolding zeros
loop-piece-init c = c.from-count.ensures ∙ c.zeros_of_few.ensures ∙ ap zeros c.as_chunks.ensures.back ∙ omega arith

-- one piece more
more : (c : goal.After-from-count-in-loop-piece) → c.loop-piece.count + c.from-count-in-loop-piece.result
    ≡ zeros (drop (length c.args.bytes.now / 128 * 128) c.args.bytes.now) + zeros (take ((c.loop-piece.piece-index + 1) * 128) c.args.bytes.now)
more c =
    let bytes = c.args.bytes.now in
    let i = c.loop-piece.piece-index in
    let found : i < length bytes / 128 = omega (arith, c.loop-piece-test.true, c.as_chunks.ensures.front_len) in
    let next = zeros_piece (length bytes / 128) i bytes [] found in
    let counted = c.zeros_of_few-in-loop-piece.ensures ∙ ap (λ (l : List (List ℕ)). zeros (get_or l i [])) c.as_chunks.ensures.front in
    omega (arith, c.from-count-in-loop-piece.ensures, counted, next, c.loop-piece.invariant)

pub overflow_add-count : goal.overflow_add-count
overflow_add-count c = omega (arith, more c, zeros_cut_few ((c.loop-piece.piece-index + 1) * 128) (length c.args.bytes.now / 128 * 128) c.args.bytes.now (omega (arith, c.loop-piece-test.true, c.as_chunks.ensures.front_len)))

pub loop-piece-preserved : goal.loop-piece-preserved
loop-piece-preserved c = more c

pub returns : goal.returns
returns c =
    let bytes = c.args.bytes.now in
    let whole : c.loop-piece.piece-index ≡ length bytes / 128 = omega (arith, c.loop-piece-test.false, c.loop-piece.auto.piece-index-end, c.as_chunks.ensures.front_len) in
    let value = c.loop-piece.invariant ∙ ap (λ (k : ℕ). zeros (drop (length bytes / 128 * 128) bytes) + zeros (take (k * 128) bytes)) whole ∙ zeros_cut (length bytes / 128 * 128) bytes in
    record { value = value; few = omega (arith, value, zeros_few bytes) }

-- How many turns and replies pass a test.
use Rattle.std.proofs.Common.{◌+◌, ◌≤◌, Bool, true, false, List, [], ◌∷◌, length, arith}
use Rattle.envy_serve.specs.Turns.{Turn, count_lines, count_of, one_if}

-- there are no more such lines than lines
pub count-lines : {Line Reply : Type 0} (test : Line → Bool) (turns : List (Turn Line Reply)) → count_lines test turns ≤ length turns
count-lines test [] = omega arith
count-lines test (turn ∷ earlier) = let rest = count-lines test earlier in at (test turn.line) rest
  where
    at : (t : Bool) → count_lines test earlier ≤ length earlier → count_lines test earlier + one_if t ≤ length (turn ∷ earlier)
    at true le = omega arith
    at false le = omega arith

pub count-of : {Reply : Type 0} (test : Reply → Bool) (replies : List Reply) → count_of test replies ≤ length replies
count-of test [] = omega arith
count-of test (reply ∷ replies) = at (test reply) (count-of test replies)
  where
    at : (t : Bool) → count_of test replies ≤ length replies → one_if t + count_of test replies ≤ length (reply ∷ replies)
    at true le = omega arith
    at false le = omega arith

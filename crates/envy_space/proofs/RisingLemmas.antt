-- Rows of a segment are claimed in rising order.
use Rattle.std.proofs.Common.{◌≡◌, ℕ, ◌+◌, ◌*◌, ◌<◌, ◌≤◌, List, [], ◌∷◌, ◌++◌, ap, arith}
use Rattle.std.specs.Prelude.{slice_index}
use Rattle.envy_base.specs.declared.shape.Shape.{Shape}
use Rattle.envy_map.specs.Fields.{Chart}
use Rattle.envy_space.specs.Rising.{Call, Claims, Erases, Leaves, Breaks, Linked, KeepsRows}

-- a row that is claimed behind calls that keep the segment's rows is at the fill of before or above it
above : (s low r : ℕ) (calls : List Call) (old new : Chart) → KeepsRows calls → low ≤ slice_index old.fields.fills s → Linked s (calls ++ (Claims r ∷ [])) old new → s * old.shape.rows + low ≤ r
above s low r [] old new keeps le (next, made, end) = let at : r ≡ s * old.shape.rows + slice_index old.fields.fills s = made.0 in omega arith
above s low r (Claims q ∷ calls) old new keeps le (next, made, rest) =
    let more : low ≤ slice_index next.fields.fills s = rw made.1 (omega arith) in
    let same : s * next.shape.rows ≡ s * old.shape.rows = ap (λ (sh : Shape). s * sh.rows) made.2 in
    let later : s * next.shape.rows + low ≤ r = above s low r calls next new keeps more rest in
    omega arith
above s low r (Leaves ∷ calls) old new keeps le (next, made, rest) =
    let more : low ≤ slice_index next.fields.fills s = rw made.0 le in
    let same : s * next.shape.rows ≡ s * old.shape.rows = ap (λ (sh : Shape). s * sh.rows) made.1 in
    let later : s * next.shape.rows + low ≤ r = above s low r calls next new keeps more rest in
    omega arith
above s low r (Breaks ∷ calls) old new keeps le (next, made, rest) =
    let grown = made.0 in
    let more : low ≤ slice_index next.fields.fills s = omega arith in
    let same : s * next.shape.rows ≡ s * old.shape.rows = ap (λ (sh : Shape). s * sh.rows) made.1 in
    let later : s * next.shape.rows + low ≤ r = above s low r calls next new keeps more rest in
    omega arith
above s low r (Erases ∷ calls) old new keeps le linked = absurd keeps

pub rising : (s q r : ℕ) (calls : List Call) (old new : Chart) → KeepsRows calls → Linked s (Claims q ∷ calls ++ (Claims r ∷ [])) old new → q < r
rising s q r calls old new keeps (next, made, rest) =
    let at : q ≡ s * old.shape.rows + slice_index old.fields.fills s = made.0 in
    let same : s * next.shape.rows ≡ s * old.shape.rows = ap (λ (sh : Shape). s * sh.rows) made.2 in
    let later : s * next.shape.rows + (slice_index old.fields.fills s + 1) ≤ r = above s (slice_index old.fields.fills s + 1) r calls next new keeps (rw made.1 (omega arith)) rest in
    omega arith

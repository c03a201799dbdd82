-- When no swap is due, by what is known of the wear words.
use Rattle.std.proofs.Common.{◌≡◌, ℕ, ◌-◌, ◌<◌, ◌≤◌, get_or, arith}
use Rattle.envy_map.specs.Fields.{Chart}
use Rattle.envy_soundness.specs.Sound.{IsSound, Sound}
use Rattle.envy_wear.specs.declared.swap.Swap.{Swap}
use Rattle.envy_wear.specs.Swaps.{IsDue, IsQuiet, IsMostWorn, IsLeastWorn, wear_at}
use Rattle.envy_base.specs.Shape.{positions_of}

-- too few erases have begun
pub due-early : (c : Chart) (limit since : ℕ) → since < limit → (s : Swap) → IsDue c.shape c.fields limit since s → ⊥
due-early c limit since few s due = let enough = due.enough in omega arith

-- wear words are near each other still
pub due-quiet : (c : Chart) (limit since quiet : ℕ) → IsSound c → IsQuiet c.shape c.fields limit since quiet → since < quiet → (s : Swap) → IsDue c.shape c.fields limit since s → ⊥
due-quiet c limit since quiet sound is few s due =
    let n = Sound.numbers sound in
    let near = is.near few (get_or c.fields.positions s.worn 0) (get_or c.fields.positions s.young 0) (n.positions_fit s.worn (omega (arith, IsMostWorn.below due.worn))) (n.positions_fit s.young (omega (arith, IsLeastWorn.below due.young))) in
    let apart = due.apart in
    omega arith

-- nothing is known before 0 erases
pub quiet-none : (c : Chart) (limit since : ℕ) → IsQuiet c.shape c.fields limit since 0
quiet-none c limit since = record { few = omega arith; near = λ no a b in_a in_b. absurd (omega arith) }

-- the extremes are no further apart than the limit, or they are, and are the swap
pub most-same : (n : ℕ) (wear : ℕ → ℕ) (k j : ℕ) → IsMostWorn n wear k → IsMostWorn n wear j → wear k ≡ wear j
most-same n wear k j a b = let up = IsMostWorn.most a j (IsMostWorn.below b) in let down = IsMostWorn.most b k (IsMostWorn.below a) in omega arith

pub least-same : (n : ℕ) (wear : ℕ → ℕ) (k j : ℕ) → IsLeastWorn n wear k → IsLeastWorn n wear j → wear k ≡ wear j
least-same n wear k j a b = let up = IsLeastWorn.least a j (IsLeastWorn.below b) in let down = IsLeastWorn.least b k (IsLeastWorn.below a) in omega arith

pub due-near : (c : Chart) (limit since most least k j : ℕ) → IsMostWorn (positions_of c.shape) (wear_at c.fields) k → most ≡ wear_at c.fields k → IsLeastWorn (positions_of c.shape) (wear_at c.fields) j → least ≡ wear_at c.fields j → most - least ≤ limit → (s : Swap) → IsDue c.shape c.fields limit since s → ⊥
due-near c limit since most least k j a is_most b is_least near s due =
    let same = most-same (positions_of c.shape) (wear_at c.fields) k s.worn a due.worn in
    let young = least-same (positions_of c.shape) (wear_at c.fields) j s.young b due.young in
    let apart = due.apart in
    omega arith

pub due-far : (c : Chart) (limit since most least k j : ℕ) → IsMostWorn (positions_of c.shape) (wear_at c.fields) k → most ≡ wear_at c.fields k → IsLeastWorn (positions_of c.shape) (wear_at c.fields) j → least ≡ wear_at c.fields j → limit < most - least → limit ≤ since → IsDue c.shape c.fields limit since (record { worn = k; young = j })
due-far c limit since most least k j a is_most b is_least far enough = record { worn = a; young = b; apart = omega arith; enough = enough }

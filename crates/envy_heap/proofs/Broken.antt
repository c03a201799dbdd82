-- Words that break one rule of a heap.
use Rattle.std.proofs.Common.{◌≡◌, ℕ, ◌≤◌, List, [], ◌∷◌, replicate, get_or, refl, sym, subst, arith}
use Rattle.envy_heap.specs.Pieces.{IsHeap, Chain, head, times}
use Rattle.envy_heap.specs.Examples.{nine, with_first}
use Rattle.envy_heap.proofs.Heaps.{Chain-one}

-- more pieces handed out than there are
pub too-many : (free : List ℕ) → IsHeap (nine (0 ∷ 0 ∷ 10 ∷ [])) free → ⊥
too-many free h = let few : 10 ≤ 9 = h.used in omega arith

-- an array that is too short
pub too-short : (free : List ℕ) → IsHeap (replicate 639 0) free → ⊥
too-short free h = let long : 640 ≤ 639 = h.size in omega arith

round : (free : List ℕ) → Chain (with_first (0 ∷ 1 ∷ 1 ∷ 0 ∷ []) 1) 1 free → ⊥
round [] c = let e : 1 ≡ 0 = c in omega arith
round (p ∷ ps) c =
    let e : 0 ≡ p = omega (arith, c.0) in
    round ps (subst (λ q. Chain (with_first (0 ∷ 1 ∷ 1 ∷ 0 ∷ []) 1) (get_or (with_first (0 ∷ 1 ∷ 1 ∷ 0 ∷ []) 1) (head q) 0) ps) (sym e) c.1)

-- a list of free pieces that runs in a circle
pub circle : (free : List ℕ) → IsHeap (with_first (0 ∷ 1 ∷ 1 ∷ 0 ∷ []) 1) free → ⊥
circle free h = round free h.chain

-- a free piece that was never handed out
pub never-out : (free : List ℕ) → IsHeap (nine (0 ∷ 1 ∷ 0 ∷ [])) free → ⊥
never-out free h =
    let e : 0 ∷ [] ≡ free = Chain-one (nine (0 ∷ 1 ∷ 0 ∷ [])) 1 (0 ∷ []) free (refl, refl) h.chain in
    let few : 1 ≤ 0 = subst (λ x. times x 0 ≤ 0) (sym e) (h.once 0) in
    omega arith

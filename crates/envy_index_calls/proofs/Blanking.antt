-- Words of which the first four are 0 stand for a map of no pairs, whatever the others are.
use Rattle.std.proofs.Common.{◌≡◌, ◌≢◌, ℕ, zero, suc, ◌+◌, ◌<◌, ◌≤◌, ◌⊎◌, List, [], length, get_or, set, refl, ◌∙◌, ap, arith, inl, inr}
use Rattle.std.proofs.lemmas.Bool.{cases_eq}
use Rattle.std.proofs.lemmas.Grind.{get_or-set_at}
use Rattle.std.proofs.lemmas.List.{length-set, get_or-set_other}
use Rattle.envy_heap.specs.Pieces.{handed}
use Rattle.envy_heap.proofs.Heaps.{one-ge}
use Rattle.envy_btree.specs.Index.{IsIndex}
use Rattle.envy_index_calls.specs.Indexed.{blanked_to, blanked}
use Rattle.envy_index_calls.specs.Ranged.{marked}
use Rattle.envy_index_calls.specs.declared.creation.TheConstants.{MAP_MARK}

-- one word more is blank
pub blanked-more : (n : ℕ) (ws : List ℕ) → blanked_to (n + 1) ws ≡ set (blanked_to n ws) n 0
blanked-more n ws = let e : n + 1 ≡ suc n = omega arith in ap (λ (k : ℕ). blanked_to k ws) e

pub long-blanked : (n : ℕ) (ws : List ℕ) → length (blanked_to n ws) ≡ length ws
long-blanked zero ws = refl
long-blanked (suc n) ws = length-set (blanked_to n ws) n 0 ∙ long-blanked n ws

-- the first words are 0
zero-blanked : (n a : ℕ) (ws : List ℕ) → a < n → n ≤ length ws → get_or (blanked_to n ws) a 0 ≡ 0
zero-blanked zero a ws lt le = absurd (omega (arith, lt))
zero-blanked (suc n) a ws lt le = at (cases_eq a n) (zero-blanked n a ws)
  where
    at : (a ≡ n) ⊎ (a ≡ n → ⊥) → (a < n → n ≤ length ws → get_or (blanked_to n ws) a 0 ≡ 0) → get_or (blanked_to (suc n) ws) a 0 ≡ 0
    at (inl e) less = get_or-set_at (blanked_to n ws) n a 0 0 e (omega (arith, long-blanked n ws, le))
    at (inr ne) less = get_or-set_other (blanked_to n ws) n a 0 0 ne ∙ less (omega (arith, lt, ne)) (omega (arith, le))

handed-none : (ws : List ℕ) (p : ℕ) → get_or ws 2 0 ≡ 0 → handed ws [] p ≡ 0
handed-none ws p none = omega (arith, none, one-ge p (get_or ws 2 0) (omega (arith, none)))

-- words that begin with four zeros hold the empty map
front-index : (ws : List ℕ) → 640 ≤ length ws → ((a : ℕ) → a < 4 → get_or ws a 0 ≡ 0) → IsIndex ws []
front-index ws size zeros =
    let used = zeros 2 (omega arith) in
    record {
      planted = record {
        free = [];
        heap = record {
          size = size;
          used = omega (arith, used);
          chain = zeros 1 (omega arith);
          once = λ q. omega arith;
        };
        tree = inl (zeros 0 (omega arith), refl, λ q. handed-none ws q used);
      };
      count = zeros 3 (omega arith);
      few = omega arith;
    }

-- so a blank array does
pub blanked-index : (ws : List ℕ) → 640 ≤ length ws → IsIndex (blanked ws) []
blanked-index ws size = front-index (blanked ws) (omega (arith, size, long-blanked 4 ws)) (λ a lt. zero-blanked 4 a ws lt (omega (arith, size)))

-- and one that is marked
pub marked-index : (ws : List ℕ) → 640 ≤ length ws → IsIndex (marked ws) []
marked-index ws size =
    front-index (marked ws) (omega (arith, size, long-blanked 4 ws, length-set (blanked ws) 4 MAP_MARK))
    (λ a lt. get_or-set_other (blanked ws) 4 a MAP_MARK 0 (let ne : a ≢ 4 = omega (arith, lt) in ne) ∙ zero-blanked 4 a ws lt (omega (arith, size)))

-- which has no root
pub marked-root : (ws : List ℕ) → 640 ≤ length ws → get_or (marked ws) 0 0 ≡ 0
marked-root ws size = get_or-set_other (blanked ws) 4 0 MAP_MARK 0 (omega arith) ∙ zero-blanked 4 0 ws (omega arith) (omega (arith, size))

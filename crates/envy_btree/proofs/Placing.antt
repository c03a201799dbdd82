-- Words of a run that were read, and the place of a key among words that rise.
use Rattle.std.proofs.Common.{◌≡◌, ℕ, ◌+◌, ◌-◌, ◌<◌, ◌≤◌, List, length, drop, get_or, refl, ◌∙◌, ap, ap₂, sym, arith}
use Rattle.std.proofs.lemmas.List.{get_or-drop, get_or-take, length-drop, length-take}
use Rattle.envy_array.specs.Words.{IsPlace, run_at}
use Rattle.envy_btree.specs.Looking.{pair_at}
use Rattle.envy_btree.specs.Nodes.{Ranks}
use Rattle.envy_btree.specs.Tree.{window}
use Rattle.envy_btree.specs.Spots.{Climbs}
use Rattle.envy_heap.specs.Pieces.{at}

-- a word of a run that was read
pub read-at : (ws run : List ℕ) (a n i : ℕ) → run ≡ run_at ws a n → i < n → get_or run i 0 ≡ get_or ws (a + i) 0
read-at ws run a n i is lt = ap (λ (xs : List ℕ). get_or xs i 0) is ∙ get_or-take n (drop a ws) i 0 lt ∙ get_or-drop a ws i 0

-- of words that rise, those before the place are at most the key
pub place-ranked : (ws : List ℕ) (a n key low top index new_low new_top : ℕ) → a + n ≤ length ws → Climbs ws a n → IsPlace ws a n key low top index new_low new_top → Ranks key (window ws a n) index
place-ranked ws a n key low top index new_low new_top within c p = record {
  within = omega (arith, long, p.within);
  below = λ j lt. omega (arith, seen j (omega (arith, lt, p.within)), before j lt);
  above = λ lt. omega (arith, seen index (omega (arith, long, lt)), p.below, p.ceiling (omega (arith, long, lt)));
}
  where
    long : length (window ws a n) ≡ n
    long = let t = length-take n (drop a ws) in let d = length-drop a ws in omega arith

    seen : (i : ℕ) → i < n → get_or (window ws a n) i 0 ≡ get_or ws (a + i) 0
    seen i lt = read-at ws (window ws a n) a n i refl lt

    -- the last of them is the one before the place
    before : (j : ℕ) → j < index → get_or ws (a + j) 0 ≤ key
    before j lt =
        let last : get_or ws (a + (index - 1)) 0 ≤ key = omega (arith, p.above, p.bottom (index - 1) (omega (arith, lt))) in
        omega (arith, last, c.rise j (index - 1) (omega (arith, lt)) (omega (arith, lt, p.within)))

-- of so many words
pub run-as : (ws now run : List ℕ) (a n : ℕ) → now ≡ ws → length run ≡ n → run ≡ run_at now a (length run) → run ≡ run_at ws a n
run-as ws now run a n same long is = is ∙ ap₂ (λ xs k. run_at xs a k) same long

-- pair i of a leaf whose keys and values were read
pub pair-of : (ws keys values : List ℕ) (p n i : ℕ) → keys ≡ run_at ws (at p 1) n → values ≡ run_at ws (at p 32) n → i < n → (get_or keys i 0, get_or values i 0) ≡ pair_at ws p i
pair-of ws keys values p n i front back lt = ap₂ (λ k v. (k, v)) (read-at ws keys (at p 1) n i front lt) (read-at ws values (at p 32) n i back lt)

-- What the first word and the keys of a node say.
use Rattle.std.proofs.Common.{◌≡◌, ◌≢◌, ◌⊎◌, ℕ, zero, suc, ◌+◌, ◌-◌, ◌*◌, ◌/◌, ◌%◌, ◌<◌, ◌≤◌, Bool, List, [], length, get_or, refl, sym, subst, ◌∙◌, inl, inr, ltb, arith}
use Rattle.std.proofs.lemmas.Bool.{cases_lt, cond-false, cond-true}
use Rattle.envy_heap.specs.Pieces.{IsHeap, handed, head, one, times}
use Rattle.envy_heap.proofs.Heaps.{one-le, one-lt}
use Rattle.envy_btree.specs.Rules.{key_at, key_count, kind_at}
use Rattle.envy_btree.proofs.Maps.{ltb-ge, ltb-lt}
use Rattle.envy_tree_check.specs.Bounds.{floor_at, high_at, low_at}
use Rattle.envy_tree_check.specs.Faults.{Sickens, Spoils, Strays, fewest_keys}
use Rattle.envy_tree_check.specs.Grown.{AreMarked}
use Rattle.envy_tree_check.specs.declared.fault.MapFault.TheVariants.{Few, Freed, Head, Keys, Level}

pub head-sick : (ws free : List ℕ) (root : Bool) (low high levels p word : ℕ) → word ≡ get_or ws (head p) 0 → 64 ≤ word → Sickens ws free root low high levels p Head
head-sick ws free root low high levels p word is many = record { way = []; node = p; leads = refl; breaks = omega arith }

pub level-sick : (ws free : List ℕ) (root : Bool) (low high levels p word kind : ℕ) → word ≡ get_or ws (head p) 0 → kind ≡ one (ltb 0 levels) → word % 2 ≢ kind → Sickens ws free root low high levels p Level
level-sick ws free root low high levels p word kind is k other = record {
  way = [];
  node = p;
  left = levels;
  leads = refl;
  deep = omega arith;
  kind = λ e. other (subst (λ x. x % 2 ≡ kind) (sym is) (e ∙ sym k));
}

pub few-sick : (ws free : List ℕ) (root : Bool) (low high levels p word count kind least : ℕ) → word ≡ get_or ws (head p) 0 → word % 2 ≡ kind → kind ≡ one (ltb 0 levels) → count ≡ word / 2 → least ≡ fewest_keys root (one (ltb 0 levels)) → count < least → Sickens ws free root low high levels p Few
few-sick ws free root low high levels p word count kind least is odd k half l lt =
    let at : kind_at ws p ≡ one (ltb 0 levels) = subst (λ x. x % 2 ≡ one (ltb 0 levels)) is (odd ∙ k) in
    let fewer : key_count ws p < fewest_keys root (one (ltb 0 levels)) = subst (λ x. x / 2 < fewest_keys root (one (ltb 0 levels))) is (subst (λ x. x < fewest_keys root (one (ltb 0 levels))) half (subst (λ x. count < x) l lt)) in
    record { way = []; node = p; leads = refl; breaks = subst (λ x. key_count ws p < fewest_keys root x) (sym at) fewer }

pub freed-sick : (ws free marks : List ℕ) (root : Bool) (low high levels p word : ℕ) → AreMarked ws free marks → get_or marks word 0 ≡ p + 1 → Sickens ws free root low high levels p Freed
freed-sick ws free marks root low high levels p word m e = record { way = []; node = p; leads = refl; breaks = m.freed word p e }

-- the first word of a node that is none of these
pub head-said : (levels word count kind : ℕ) → word % 2 ≡ kind → kind ≡ one (ltb 0 levels) → count ≡ word / 2 → word ≡ 2 * count + one (ltb 0 levels)
head-said levels word count kind odd k half = omega arith

-- a key that is out of order
pub keys-sick : (ws free : List ℕ) (root : Bool) (low high levels p i key floor : ℕ) → i < key_count ws p → key ≡ key_at ws p i → floor ≡ floor_at ws low p i → (key < floor) ⊎ (high ≤ key) → Sickens ws free root low high levels p Keys
keys-sick ws free root low high levels p i key floor lt is f out = record {
  way = [];
  node = p;
  leads = refl;
  breaks = (i, lt, subst (λ x. (x < floor_at ws low p i) ⊎ (high ≤ x)) is (subst (λ x. (key < x) ⊎ (high ≤ key)) f out));
}

-- A node that isn't free is handed out
pub handed-out : (ws free marks : List ℕ) (p : ℕ) → IsHeap ws free → AreMarked ws free marks → p < get_or ws 2 0 → get_or ws (head p) 0 < 64 → get_or marks (get_or ws (head p) 0) 0 ≢ p + 1 → handed ws free p ≡ 1
handed-out ws free marks p heap m lt few unmarked = omega (arith, one-lt p (get_or ws 2 0) lt, none)
  where
    none : times free p ≡ 0
    none = elim (cases_lt 0 (times free p)) [
      | inl some ↦ absurd (unmarked (m.all p some few))
      | inr le ↦ omega (arith, le)
    ]

-- Keys that are in order so far

pub count-said : (ws : List ℕ) (p count levels : ℕ) → get_or ws (head p) 0 ≡ 2 * count + one (ltb 0 levels) → key_count ws p ≡ count
count-said ws p count levels word = omega (arith, word, one-le (ltb 0 levels))

pub floor-first : (ws : List ℕ) (low p count levels : ℕ) → get_or ws (head p) 0 ≡ 2 * count + one (ltb 0 levels) → low + one (ltb 0 levels) ≡ floor_at ws low p 0
floor-first ws low p count levels word = omega (arith, word, one-le (ltb 0 levels))

pub floor-next : (ws : List ℕ) (low p i key : ℕ) → key ≡ key_at ws p i → key + 1 ≡ floor_at ws low p (i + 1)
floor-next ws low p i key is = subst (λ x. key + 1 ≡ floor_at ws low p x) (let e : suc i ≡ i + 1 = omega arith in e) (omega (arith, is))

pub order-more : (ws : List ℕ) (low high p i key floor : ℕ) → ((k : ℕ) → k < i → (floor_at ws low p k ≤ key_at ws p k) × (key_at ws p k < high)) → key ≡ key_at ws p i → floor ≡ floor_at ws low p i → floor ≤ key → key < high → (k : ℕ) → k < i + 1 → (floor_at ws low p k ≤ key_at ws p k) × (key_at ws p k < high)
order-more ws low high p i key floor before is f above below k lt = elim (cases_lt k i) [
  | inl less ↦ before k less
  | inr ge ↦
      let e : i ≡ k = omega arith in
      let here : (floor_at ws low p i ≤ key_at ws p i) × (key_at ws p i < high) = (subst (λ x. floor_at ws low p i ≤ x) is (subst (λ x. x ≤ key) f above), subst (λ x. x < high) is below) in
      subst (λ x. (floor_at ws low p x ≤ key_at ws p x) × (key_at ws p x < high)) e here
]

-- The bounds of a child

pub low-first : (ws : List ℕ) (low p j : ℕ) → j ≡ 0 → low ≡ low_at ws low p j
low-first ws low p j none = subst (λ x. low ≡ low_at ws low p x) (sym none) refl

pub low-said : (ws : List ℕ) (low p j key : ℕ) → j ≢ 0 → key ≡ key_at ws p (j - 1) → key ≡ low_at ws low p j
low-said ws low p j key some is = subst (λ x. key ≡ low_at ws low p x) (let e : suc (j - 1) ≡ j = omega arith in e) is

pub high-last : (ws : List ℕ) (high p j count : ℕ) → key_count ws p ≡ count → j ≡ count → high ≡ high_at ws high p j
high-last ws high p j count keys last = sym (cond-false (ltb j (key_count ws p)) (key_at ws p j) high (ltb-ge j (key_count ws p) (omega (arith, keys))))

pub high-said : (ws : List ℕ) (high p j count key : ℕ) → key_count ws p ≡ count → j ≤ count → j ≢ count → key ≡ key_at ws p j → 1 ≤ key_at ws p j → key - 1 + 1 ≡ high_at ws high p j
high-said ws high p j count key keys le ne is some =
    let lt : j < key_count ws p = omega (arith, keys) in
    let e : key - 1 + 1 ≡ key_at ws p j = omega (arith, is, some) in
    e ∙ sym (cond-true (ltb j (key_count ws p)) (key_at ws p j) high (ltb-lt j (key_count ws p) lt))

-- A node that was seen, and its children, are a tree.
use Rattle.std.proofs.Common.{◌≡◌, ◌≢◌, ◌⊎◌, ℕ, zero, suc, ◌+◌, ◌-◌, ◌*◌, ◌/◌, ◌%◌, ◌<◌, ◌≤◌, Bool, true, false, IsTrue, List, [], length, get_or, refl, ap, sym, subst, ◌∙◌, inl, inr, ltb, arith}
use Rattle.std.proofs.lemmas.Bool.{cases_lt}
use Rattle.envy_heap.specs.Pieces.{IsHeap, at, handed, head, one}
use Rattle.envy_heap.proofs.Heaps.{one-ge, one-lt}
use Rattle.envy_btree.specs.Rules.{key_at, key_count, kind_at, slot_at}
use Rattle.envy_tree_check.specs.Bounds.{floor_at, high_at, low_at}
use Rattle.envy_tree_check.specs.Faults.{fewest_keys}
use Rattle.envy_tree_check.specs.Grown.{AreMarked, Grows}
use Rattle.envy_tree_check.proofs.Faulting.{IsChild}
use Rattle.envy_tree_check.proofs.Growing.{InOrder, IsHead, inner-grows, leaf-grows}
use Rattle.envy_tree_check.proofs.Noding.{handed-out}

pub record IsNoted (ws marks : List ℕ) (root : Bool) (levels p n : ℕ) : Type 0 where
  pub within : at p 63 < length ws
  pub word : get_or ws (head p) 0 ≡ 2 * n + one (ltb 0 levels)
  pub few : n ≤ 31
  pub least : fewest_keys root (one (ltb 0 levels)) ≤ n
  pub unmarked : get_or marks (get_or ws (head p) 0) 0 ≢ p + 1
  pub below : p < get_or ws 2 0

pub count-noted : (ws marks : List ℕ) (root : Bool) (levels p n : ℕ) → IsNoted ws marks root levels p n → key_count ws p ≡ n
count-noted ws marks root levels p n s = elim (cases_lt 0 levels) [
  | inl lt ↦ omega (arith, s.word, one-lt 0 levels lt)
  | inr ge ↦ omega (arith, s.word, one-ge 0 levels ge)
]

pub odd-noted : (ws marks : List ℕ) (root : Bool) (levels p n : ℕ) → IsNoted ws marks root levels p n → 1 ≤ levels → kind_at ws p ≡ 1
odd-noted ws marks root levels p n s lt = omega (arith, s.word, one-lt 0 levels lt)

head-noted : (ws free marks : List ℕ) (root : Bool) (levels p n kind : ℕ) → IsHeap ws free → AreMarked ws free marks → IsNoted ws marks root levels p n → one (ltb 0 levels) ≡ kind → kind ≤ 1 → IsHead ws free root p n kind
head-noted ws free marks root levels p n kind heap m s is le = record {
  within = s.within;
  word = omega (arith, s.word, is);
  few = s.few;
  least = subst (λ x. fewest_keys root x ≤ n) is s.least;
  out = handed-out ws free marks p heap m s.below (omega (arith, s.word, is, s.few)) s.unmarked;
}

bounds : (ws : List ℕ) (root : Bool) (low high p n : ℕ) → (IsTrue root → low ≡ 0) → fewest_keys root 0 ≤ n → InOrder ws low high p n → low ≤ high
bounds ws true low high p n first least o = omega (arith, first refl)
bounds ws false low high p n first least o = omega (arith, (o.order 0 (omega arith)).0, (o.order 0 (omega arith)).1)

pub leaf-noted : (ws free marks : List ℕ) (root : Bool) (low high levels p n : ℕ) → IsHeap ws free → AreMarked ws free marks → IsNoted ws marks root levels p n → levels ≡ 0 → (IsTrue root → low ≡ 0) → InOrder ws low high p n → Grows ws free root low high levels p
leaf-noted ws free marks root low high levels p n heap m s none first o =
    let even : one (ltb 0 levels) ≡ 0 = one-ge 0 levels (omega arith) in
    let h = head-noted ws free marks root levels p n 0 heap m s even (omega arith) in
    subst (λ x. Grows ws free root low high x p) (sym none) (leaf-grows ws free root low high p n h o (bounds ws root low high p n first h.least o))

pub inner-noted : (ws free marks : List ℕ) (root : Bool) (low high levels p n : ℕ) → IsHeap ws free → AreMarked ws free marks → IsNoted ws marks root levels p n → 1 ≤ levels → InOrder ws low high p n → ((j : ℕ) → j < n + 1 → Grows ws free false (low_at ws low p j) (high_at ws high p j) (levels - 1) (slot_at ws p j)) → Grows ws free root low high levels p
inner-noted ws free marks root low high levels p n heap m s some o each =
    let odd : one (ltb 0 levels) ≡ 1 = one-lt 0 levels some in
    let h = head-noted ws free marks root levels p n 1 heap m s odd (omega arith) in
    let e : suc (levels - 1) ≡ levels = omega arith in
    subst (λ x. Grows ws free root low high x p) e (inner-grows ws free root low high (levels - 1) p n h o (λ j le. each j (omega arith)))

-- every key of an inner node is above 0
pub above-noted : (ws marks : List ℕ) (root : Bool) (low high levels p n : ℕ) → IsNoted ws marks root levels p n → 1 ≤ levels → InOrder ws low high p n → (i : ℕ) → i < n → 1 ≤ key_at ws p i
above-noted ws marks root low high levels p n s some o zero lt = omega (arith, (o.order 0 lt).0, odd-noted ws marks root levels p n s some)
above-noted ws marks root low high levels p n s some o (suc i) lt = let a : key_at ws p i + 1 ≤ key_at ws p (suc i) = (o.order (suc i) lt).0 in omega (arith, a)

-- a child that grows
pub child-grows : (ws free : List ℕ) (low high levels p j : ℕ) (root : Bool) (child_low child_high child_levels child : ℕ) → IsChild ws low high levels p j root child_low child_high child_levels child → Grows ws free root child_low child_high child_levels child → Grows ws free false (low_at ws low p j) (high_at ws high p j) (levels - 1) (slot_at ws p j)
child-grows ws free low high levels p j root child_low child_high child_levels child c g =
    let a : Grows ws free false child_low child_high child_levels child = subst (λ x. Grows ws free x child_low child_high child_levels child) c.no_root g in
    let b : Grows ws free false (low_at ws low p j) child_high child_levels child = subst (λ x. Grows ws free false x child_high child_levels child) c.low_is a in
    let d : Grows ws free false (low_at ws low p j) (high_at ws high p j) child_levels child = subst (λ x. Grows ws free false (low_at ws low p j) x child_levels child) c.high_is b in
    let e : child_levels ≡ levels - 1 = omega (arith, c.under) in
    let f : Grows ws free false (low_at ws low p j) (high_at ws high p j) (levels - 1) child = subst (λ x. Grows ws free false (low_at ws low p j) (high_at ws high p j) x child) e d in
    subst (λ x. Grows ws free false (low_at ws low p j) (high_at ws high p j) (levels - 1) x) c.place f

-- one child more
pub grown-more : (ws free : List ℕ) (low high levels p j : ℕ) (root : Bool) (child_low child_high child_levels child : ℕ) → ((i : ℕ) → i < j → Grows ws free false (low_at ws low p i) (high_at ws high p i) (levels - 1) (slot_at ws p i)) → IsChild ws low high levels p j root child_low child_high child_levels child → Grows ws free root child_low child_high child_levels child → (i : ℕ) → i < j + 1 → Grows ws free false (low_at ws low p i) (high_at ws high p i) (levels - 1) (slot_at ws p i)
grown-more ws free low high levels p j root child_low child_high child_levels child before c g i lt = elim (cases_lt i j) [
  | inl less ↦ before i less
  | inr ge ↦ subst (λ x. Grows ws free false (low_at ws low p x) (high_at ws high p x) (levels - 1) (slot_at ws p x)) (let e : j ≡ i = omega arith in e) (child-grows ws free low high levels p j root child_low child_high child_levels child c g)
]

-- A node of a winner tree is written as the better of its two.
use Rattle.std.proofs.Common.{◌≡◌, ◌≢◌, ◌⊎◌, inl, inr, ℕ, ◌+◌, ◌-◌, ◌*◌, ◌/◌, ◌<◌, ◌≤◌, List, length, set, get_or-set_same, get_or-set_other, refl, sym, ◌∙◌, ap, subst, arith}
use Rattle.std.specs.Prelude.{map, nat_lt}
use Rattle.std.proofs.lemmas.Bool.{cases_eq, cases_lt, cases_cond, cond_below, cond_above}
use Rattle.std.proofs.lemmas.List.{length-set, drop-set-lt}
use Rattle.envy_space.specs.declared.nodes.Entry.{Entry}
use Rattle.envy_space.specs.Winners.{AreNodes, HasRisen, IsRight, IsTree, better, node, nobody, scores_of}

-- a node below the places has another entry
pub AreNodes-set : (n i : ℕ) (nodes : List Entry) (e : Entry) → AreNodes n nodes → i < n → AreNodes n (set nodes i e)
AreNodes-set n i nodes e are low = record {
  some = are.some;
  few = are.few;
  long = length-set nodes i e ∙ are.long;
  places = λ k lt. ap (λ (x : Entry). x.place) (get_or-set_other nodes i (n + k) e nobody (λ same. absurd (omega arith))) ∙ are.places k lt;
}

pub scores-below : (n i : ℕ) (nodes : List Entry) (e : Entry) → i < n → scores_of n (set nodes i e) ≡ scores_of n nodes
scores-below n i nodes e low = ap (map (λ (x : Entry). x.score)) (drop-set-lt n nodes i e low)

-- the node that is written, and one that doesn't stand over it
IsRight-here : (nodes : List Entry) (i : ℕ) (e : Entry) → 1 ≤ i → i < length nodes → e ≡ better (node nodes (2 * i)) (node nodes (2 * i + 1)) → IsRight (set nodes i e) i
IsRight-here nodes i e some lt is =
    get_or-set_same nodes i e nobody lt ∙ is
    ∙ ap (λ (x : Entry). better x (node nodes (2 * i + 1))) (sym (get_or-set_other nodes i (2 * i) e nobody (λ same. absurd (omega arith))))
    ∙ ap (better (node (set nodes i e) (2 * i))) (sym (get_or-set_other nodes i (2 * i + 1) e nobody (λ same. absurd (omega arith))))

IsRight-other : (nodes : List Entry) (i j : ℕ) (e : Entry) → j ≢ i → j ≢ i / 2 → IsRight nodes j → IsRight (set nodes i e) j
IsRight-other nodes i j e apart above right =
    get_or-set_other nodes i j e nobody apart ∙ right
    ∙ ap (λ (x : Entry). better x (node nodes (2 * j + 1))) (sym (get_or-set_other nodes i (2 * j) e nobody (λ same. above (omega arith))))
    ∙ ap (better (node (set nodes i e) (2 * j))) (sym (get_or-set_other nodes i (2 * j + 1) e nobody (λ same. above (omega arith))))

-- each node but the one above is right after the write
pub right-mended : (n i : ℕ) (nodes : List Entry) (e : Entry) → AreNodes n nodes → 1 ≤ i → i < n → e ≡ better (node nodes (2 * i)) (node nodes (2 * i + 1)) → ((j : ℕ) → 1 ≤ j → j < n → j ≢ i → IsRight nodes j)
    → (j : ℕ) → 1 ≤ j → j < n → j ≢ i / 2 → IsRight (set nodes i e) j
right-mended n i nodes e are some low is others j one lt above = at (cases_eq j i)
  where
    at : (j ≡ i) ⊎ (j ≢ i) → IsRight (set nodes i e) j
    at (inl same) = let long = are.long in subst (λ (k : ℕ). IsRight (set nodes i e) k) (sym same) (IsRight-here nodes i e some (omega arith) is)
    at (inr apart) = IsRight-other nodes i j e apart above (others j one lt apart)

-- each node from the written one on, where those behind it are right
right-on : (n i : ℕ) (nodes : List Entry) (e : Entry) → AreNodes n nodes → 1 ≤ i → i < n → e ≡ better (node nodes (2 * i)) (node nodes (2 * i + 1)) → ((j : ℕ) → i + 1 ≤ j → j < n → IsRight nodes j)
    → (j : ℕ) → i ≤ j → j < n → IsRight (set nodes i e) j
right-on n i nodes e are some low is behind j one lt = at (cases_eq j i)
  where
    at : (j ≡ i) ⊎ (j ≢ i) → IsRight (set nodes i e) j
    at (inl same) = let long = are.long in subst (λ (k : ℕ). IsRight (set nodes i e) k) (sym same) (IsRight-here nodes i e some (omega arith) is)
    at (inr apart) = IsRight-other nodes i j e apart (λ same. absurd (omega arith)) (behind j (omega arith) lt)

-- the last node is right as it is
pub IsTree-stays : (n i : ℕ) (nodes : List Entry) → AreNodes n nodes → ((j : ℕ) → 1 ≤ j → j < n → j ≢ i → IsRight nodes j) → IsRight nodes i → IsTree n nodes
IsTree-stays n i nodes are others here = record { are = are; right = λ j one lt. at j one lt (cases_eq j i) }
  where
    at : (j : ℕ) → 1 ≤ j → j < n → (j ≡ i) ⊎ (j ≢ i) → IsRight nodes j
    at j one lt (inl same) = subst (λ (k : ℕ). IsRight nodes k) (sym same) here
    at j one lt (inr apart) = others j one lt apart

-- no node is above the first
pub IsTree-top : (n at : ℕ) (nodes : List Entry) → at ≤ 1 → AreNodes n nodes → ((j : ℕ) → 1 ≤ j → j < n → j ≢ at / 2 → IsRight nodes j) → IsTree n nodes
IsTree-top n at nodes top are others = record { are = are; right = λ j one lt. others j one lt (λ same. absurd (omega arith)) }

-- the better of two has as high a score as each
left-under : (a b : Entry) → a.score ≤ (better a b).score
left-under a b = at (cases_lt a.score b.score)
  where
    at : (a.score < b.score) ⊎ (b.score ≤ a.score) → a.score ≤ (better a b).score
    at (inl less) = let is = ap (λ (x : Entry). x.score) (cond_below a.score b.score b a less) in omega arith
    at (inr more) = let is = ap (λ (x : Entry). x.score) (cond_above a.score b.score b a a more refl) in omega arith

right-under : (a b : Entry) → b.score ≤ (better a b).score
right-under a b = at (cases_lt a.score b.score)
  where
    at : (a.score < b.score) ⊎ (b.score ≤ a.score) → b.score ≤ (better a b).score
    at (inl less) = let is = ap (λ (x : Entry). x.score) (cond_below a.score b.score b a less) in omega arith
    at (inr more) = let is = ap (λ (x : Entry). x.score) (cond_above a.score b.score b a a more refl) in omega arith

-- a node has as high a score as each of its two, and is the other one where one has a lower score
node-under : (nodes : List Entry) (q b : ℕ) → IsRight nodes q → b / 2 ≡ q → (node nodes b).score ≤ (node nodes q).score
node-under nodes q b right half = at (cases_eq b (2 * q))
  where
    top : (node nodes q).score ≡ (better (node nodes (2 * q)) (node nodes (2 * q + 1))).score
    top = ap (λ (x : Entry). x.score) right

    at : (b ≡ 2 * q) ⊎ (b ≢ 2 * q) → (node nodes b).score ≤ (node nodes q).score
    at (inl even) = let is = ap (λ (k : ℕ). (node nodes k).score) even in let le = left-under (node nodes (2 * q)) (node nodes (2 * q + 1)) in let high = top in omega arith
    at (inr odd) =
        let next : b ≡ 2 * q + 1 = omega arith in
        let is = ap (λ (k : ℕ). (node nodes k).score) next in
        let le = right-under (node nodes (2 * q)) (node nodes (2 * q + 1)) in
        let high = top in
        omega arith

node-beside : (nodes : List Entry) (q k b : ℕ) → IsRight nodes q → k / 2 ≡ q → b / 2 ≡ q → b ≢ k → (node nodes k).score < (node nodes q).score → node nodes q ≡ node nodes b
node-beside nodes q k b right half level apart lower = at (cases_cond (nat_lt (node nodes (2 * q)).score (node nodes (2 * q + 1)).score) (node nodes (2 * q + 1)) (node nodes (2 * q)) (node nodes q) right) (cases_eq b (2 * q))
  where
    off : (j : ℕ) → node nodes q ≡ node nodes j → k ≢ j
    off j is same = let high = ap (λ (x : Entry). x.score) is in let low = ap (λ (i : ℕ). (node nodes i).score) same in absurd (omega arith)

    at : (node nodes q ≡ node nodes (2 * q + 1)) ⊎ (node nodes q ≡ node nodes (2 * q)) → (b ≡ 2 * q) ⊎ (b ≢ 2 * q) → node nodes q ≡ node nodes b
    at (inl is) (inl even) = absurd (off (2 * q + 1) is (omega arith))
    at (inl is) (inr odd) = is ∙ ap (node nodes) (omega arith)
    at (inr is) (inl even) = is ∙ ap (node nodes) (sym even)
    at (inr is) (inr odd) = absurd (off (2 * q) is (omega arith))

-- a node that has risen, and is lower than the one above it still, leaves that one right
right-beside : (nodes : List Entry) (k : ℕ) → HasRisen nodes k → (node nodes k).score < (node nodes (k / 2)).score → IsRight nodes (k / 2)
right-beside nodes k risen lower = at (cases_eq k (2 * (k / 2)))
  where
    at : (k ≡ 2 * (k / 2)) ⊎ (k ≢ 2 * (k / 2)) → IsRight nodes (k / 2)
    at (inl even) =
        let is = risen.beside (2 * (k / 2) + 1) (omega arith) (λ same. absurd (omega arith)) lower in
        let here = ap (λ (i : ℕ). (node nodes i).score) even in
        let there = ap (λ (x : Entry). x.score) is in
        is ∙ cond_below (node nodes (2 * (k / 2))).score (node nodes (2 * (k / 2) + 1)).score (node nodes (2 * (k / 2) + 1)) (node nodes (2 * (k / 2))) (omega arith)
    at (inr apart) =
        let odd : k ≡ 2 * (k / 2) + 1 = omega arith in
        let is = risen.beside (2 * (k / 2)) (omega arith) (λ same. absurd (omega arith)) lower in
        let here = ap (λ (i : ℕ). (node nodes i).score) odd in
        let there = ap (λ (x : Entry). x.score) is in
        is ∙ cond_above (node nodes (2 * (k / 2))).score (node nodes (2 * (k / 2) + 1)).score (node nodes (2 * (k / 2) + 1)) (node nodes (2 * (k / 2))) (node nodes (2 * (k / 2))) (omega arith) refl

-- the node that is written has risen then
HasRisen-set : (n k : ℕ) (nodes : List Entry) (e : Entry) → AreNodes n nodes → 2 ≤ k → k < n → (node nodes k).score ≤ e.score → IsRight nodes (k / 2) → HasRisen (set nodes k e) k
HasRisen-set n k nodes e are two low risen right = record {
  least = λ b level apart.
      let other = ap (λ (x : Entry). x.score) (get_or-set_other nodes k b e nobody apart) in
      let above = ap (λ (x : Entry). x.score) top in
      let under = node-under nodes (k / 2) b right level in
      omega arith;
  beside = λ b level apart lower.
      let long = are.long in
      let here = ap (λ (x : Entry). x.score) (get_or-set_same nodes k e nobody (omega arith)) in
      let above = ap (λ (x : Entry). x.score) top in
      top ∙ node-beside nodes (k / 2) k b right refl level apart (omega arith) ∙ sym (get_or-set_other nodes k b e nobody apart);
}
  where
    top : node (set nodes k e) (k / 2) ≡ node nodes (k / 2)
    top = get_or-set_other nodes k (k / 2) e nobody (λ same. absurd (omega arith))

lower-read : (a b x y : Entry) → a ≡ x → b ≡ y → a.score < b.score → x.score < y.score
lower-read a b x y is so lt = subst (λ (e : Entry). x.score < e.score) so (subst (λ (e : Entry). e.score < b.score) is lt)

-- the same where the two were read
pub IsTree-beside : (n k : ℕ) (nodes : List Entry) (a b : Entry) → AreNodes n nodes → ((j : ℕ) → 1 ≤ j → j < n → j ≢ k / 2 → IsRight nodes j) → HasRisen nodes k → a ≡ node nodes k → b ≡ node nodes (k / 2) → a.score < b.score → IsTree n nodes
IsTree-beside n k nodes a b are others risen is so lt = IsTree-stays n (k / 2) nodes are others (right-beside nodes k risen (lower-read a b (node nodes k) (node nodes (k / 2)) is so lt))

-- half of a node but the first is below the places
pub half-some : (k : ℕ) → 2 ≤ k → 1 ≤ k / 2
half-some k two = omega arith

pub half-below : (k n : ℕ) → k < 2 * n → k / 2 < n
half-below k n lt = omega arith

pub half-twice : (k n : ℕ) → 2 ≤ k → k < 2 * n → k / 2 < 2 * n
half-twice k n two lt = omega arith

pub risen-above : (n k : ℕ) (nodes : List Entry) (e : Entry) → AreNodes n nodes → k < 2 * n → ((j : ℕ) → 1 ≤ j → j < n → j ≢ k / 2 → IsRight nodes j) → (node nodes (k / 2)).score ≤ e.score → 2 ≤ k / 2 → HasRisen (set nodes (k / 2) e) (k / 2)
risen-above n k nodes e are lt others risen two = HasRisen-set n (k / 2) nodes e are two (omega arith) risen (others (k / 2 / 2) (omega arith) (omega arith) (λ same. absurd (omega arith)))

-- the node before one that isn't the first
pub before-some : (i : ℕ) → 1 < i → 1 ≤ i - 1
before-some i some = omega arith

pub before-low : (i n : ℕ) → 1 < i → i ≤ n → i - 1 < n
before-low i n some le = omega arith

pub before-fits : (i n : ℕ) → i ≤ n → i - 1 ≤ n
before-fits i n le = omega arith

pub right-before : (n i : ℕ) (nodes : List Entry) (e : Entry) → AreNodes n nodes → 1 < i → i ≤ n → e ≡ better (node nodes (2 * (i - 1))) (node nodes (2 * (i - 1) + 1)) → ((j : ℕ) → i ≤ j → j < n → IsRight nodes j)
    → (j : ℕ) → i - 1 ≤ j → j < n → IsRight (set nodes (i - 1) e) j
right-before n i nodes e are some le is behind = right-on n (i - 1) nodes e are (before-some i some) (before-low i n some le) is (λ j on lt. behind j (omega arith) lt)

pub IsTree-all : (n i : ℕ) (nodes : List Entry) → i ≤ 1 → AreNodes n nodes → ((j : ℕ) → i ≤ j → j < n → IsRight nodes j) → IsTree n nodes
IsTree-all n i nodes top are on = record { are = are; right = λ j one lt. on j (omega arith) lt }

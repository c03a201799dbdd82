-- Words that a fault has a cause in stand for no map.
use Rattle.std.proofs.Common.{◌≡◌, ◌≢◌, ◌⊎◌, ℕ, zero, suc, ◌+◌, ◌*◌, ◌/◌, ◌%◌, ◌^◌, ◌<◌, ◌≤◌, Bool, true, false, List, [], ◌∷◌, length, get_or, refl, ap, sym, subst, ◌∙◌, inl, inr, ltb, arith}
use Rattle.std.proofs.lemmas.Bool.{cases_lt}
use Rattle.envy_heap.specs.Pieces.{IsHeap, head, handed, one, times}
use Rattle.envy_heap.proofs.Heaps.{Chain-one, lt-one, one-le}
use Rattle.envy_btree.specs.Tree.{Tree, pairs_of, piece_of}
use Rattle.envy_btree.specs.Nodes.{kind_of}
use Rattle.envy_btree.specs.Index.{IsIndex, IsPlanted, IsTree, Rooted, Stands}
use Rattle.envy_btree.specs.Rules.{key_at, key_count, kind_at, Leads, ObeysRules, pairs_under}
use Rattle.envy_btree.proofs.Counting.{depth-few}
use Rattle.envy_btree.proofs.Descent.{bare}
use Rattle.envy_btree.proofs.Ruling.{index-obeys}
use Rattle.envy_btree.proofs.Walking.{child-stands, inner-at, leaf-at}
use Rattle.envy_btree.proofs.Trees.{high_of, low_of}
use Rattle.envy_tree_check.specs.Bounds.{floor_at, high_by, is_root, low_by}
use Rattle.envy_tree_check.specs.Faults.{Ails, Breaks, Causes, HasIll, HasLost, HasNoList, IsDeep, IsUneven, Spoils, fewest_keys}
use Rattle.envy_tree_check.specs.declared.fault.MapFault.{MapFault}
use Rattle.envy_tree_check.specs.declared.fault.MapFault.TheVariants.{Off, Short, Used, Many, FreeList, Deep, Node, Head, Level, Few, Keys, Freed, Lost, Count}
use Rattle.envy_tree_check.proofs.Bounding.{below-stood, floor-stood, kind-stood, stood}
use Rattle.envy_tree_check.proofs.Counted.{pairs-same}

-- A map whose root is named has a tree

pub record Rootedly (ws free : List ℕ) (root : ℕ) (es : List (ℕ × ℕ)) : Type 0 where
  pub depth : ℕ
  pub tree : Tree depth
  pub is : piece_of depth tree ≡ root
  pub whole : IsTree ws free depth tree
  pub pairs : es ≡ pairs_of depth tree

pub rooted-of : (ws free : List ℕ) (root : ℕ) (es : List (ℕ × ℕ)) → IsPlanted ws es → IsHeap ws free → get_or ws 0 0 ≡ root + 1 → Rootedly ws free root es
rooted-of ws free root es i heap named = go i.tree
  where
    go : Rooted ws i.free es → Rootedly ws free root es
    go (inl none) = absurd (omega (arith, none.0))
    go (inr (d, t, tree, e)) =
        let same : i.free ≡ free = Chain-one ws (get_or ws 1 0) i.free free i.heap.chain heap.chain in
        record { depth = d; tree = t; is = omega (arith, tree.root); whole = subst (λ x. IsTree ws x d t) same tree; pairs = e }

few-kinds : (ws : List ℕ) (p : ℕ) → kind_at ws p ≤ 1
few-kinds ws p = omega arith

-- a node breaks no rule
obeying : (ws free : List ℕ) (root : ℕ) (es : List (ℕ × ℕ)) (fault : MapFault) → IsIndex ws es → IsHeap ws free → get_or ws 0 0 ≡ root + 1 → Spoils ws free true 0 (2 ^ 64) root fault → ⊥
obeying ws free root es fault i heap named s =
    let rules = index-obeys ws free root es i heap named in
    let r = rooted-of ws free root es i.planted heap named in
    let leads : Leads ws (piece_of r.depth r.tree) s.way s.node = subst (λ x. Leads ws x s.way s.node) (sym r.is) s.leads in
    let a = stood ws free true 0 (2 ^ 64) r.depth r.tree s.way s.node r.whole.stands leads in
    let low : low_by ws 0 (piece_of r.depth r.tree) s.way ≡ low_by ws 0 root s.way = ap (λ x. low_by ws 0 x s.way) r.is in
    let high : high_by ws (2 ^ 64) (piece_of r.depth r.tree) s.way ≡ high_by ws (2 ^ 64) root s.way = ap (λ x. high_by ws (2 ^ 64) x s.way) r.is in
    let floor : (k : ℕ) → k < key_count ws s.node → floor_at ws (low_by ws 0 root s.way) s.node k ≤ key_at ws s.node k = λ k lt. subst (λ x. floor_at ws x s.node k ≤ key_at ws s.node k) low (subst (λ x. floor_at ws (low_by ws 0 (piece_of r.depth r.tree) s.way) x k ≤ key_at ws x k) a.is (floor-stood ws free (is_root true s.way) (low_by ws 0 (piece_of r.depth r.tree) s.way) (high_by ws (2 ^ 64) (piece_of r.depth r.tree) s.way) a.depth a.tree k a.stands (subst (λ x. k < key_count ws x) (sym a.is) lt))) in
    let below : (k : ℕ) → k < key_count ws s.node → key_at ws s.node k < high_by ws (2 ^ 64) root s.way = λ k lt. subst (λ x. key_at ws s.node k < x) high (subst (λ x. key_at ws x k < high_by ws (2 ^ 64) (piece_of r.depth r.tree) s.way) a.is (below-stood ws free (is_root true s.way) (low_by ws 0 (piece_of r.depth r.tree) s.way) (high_by ws (2 ^ 64) (piece_of r.depth r.tree) s.way) a.depth a.tree k a.stands (subst (λ x. k < key_count ws x) (sym a.is) lt))) in
    refuted fault s.way s.node (low_by ws 0 root s.way) (high_by ws (2 ^ 64) root s.way) s.leads (rules.named s.way s.node s.leads) (rules.most s.way s.node s.leads) rules floor below s.breaks
  where
    least : (way : List ℕ) (q : ℕ) → Leads ws root way q → ObeysRules ws free root es → fewest_keys (is_root true way) (kind_at ws q) ≤ key_count ws q
    least [] q w rules = elim (cases_lt 0 (kind_at ws root)) [
      | inl some ↦ subst (λ x. kind_at ws x ≤ key_count ws x) w (omega (arith, few-kinds ws root, rules.root_least (omega (arith, few-kinds ws root))))
      | inr none ↦ subst (λ x. kind_at ws x ≤ key_count ws x) w (omega (arith, none))
    ]
    least (j ∷ js) q w rules = rules.least j js q w

    refuted : (fault : MapFault) (way : List ℕ) (q low high : ℕ) → Leads ws root way q → handed ws free q ≡ 1 → key_count ws q ≤ 31 → ObeysRules ws free root es → ((k : ℕ) → k < key_count ws q → floor_at ws low q k ≤ key_at ws q k) → ((k : ℕ) → k < key_count ws q → key_at ws q k < high) → Breaks ws free (is_root true way) low high q fault → ⊥
    refuted Node way q low high w out few rules floor below b = absurd (omega (arith, b, lt-one q (get_or ws 2 0) (omega (arith, out))))
    refuted Head way q low high w out few rules floor below b = absurd (omega (arith, few, b))
    refuted Few way q low high w out few rules floor below b = absurd (omega (arith, least way q w rules, b))
    refuted Freed way q low high w out few rules floor below b = absurd (omega (arith, out, b, one-le (ltb q (get_or ws 2 0))))
    refuted Keys way q low high w out few rules floor below b = elim b.2 [
      | inl less ↦ absurd (omega (arith, floor b.0 b.1, less))
      | inr more ↦ absurd (omega (arith, below b.0 b.1, more))
    ]
    refuted Off way q low high w out few rules floor below b = b
    refuted Short way q low high w out few rules floor below b = b
    refuted Used way q low high w out few rules floor below b = b
    refuted Many way q low high w out few rules floor below b = b
    refuted FreeList way q low high w out few rules floor below b = b
    refuted Deep way q low high w out few rules floor below b = b
    refuted Level way q low high w out few rules floor below b = b
    refuted Lost way q low high w out few rules floor below b = b
    refuted Count way q low high w out few rules floor below b = b

-- no way leads down further than a tree is deep
no-deeper : (ws free : List ℕ) (root : ℕ) (es : List (ℕ × ℕ)) → length ws ≤ 536870912 → IsIndex ws es → IsHeap ws free → get_or ws 0 0 ≡ root + 1 → IsDeep ws root → ⊥
no-deeper ws free root es small i heap named s =
    let r = rooted-of ws free root es i.planted heap named in
    let leads : Leads ws (piece_of r.depth r.tree) s.way s.node = subst (λ x. Leads ws x s.way s.node) (sym r.is) s.leads in
    let a = stood ws free true 0 (2 ^ 64) r.depth r.tree s.way s.node r.whole.stands leads in
    absurd (omega (arith, a.deep, s.long, depth-few ws free r.depth r.tree heap r.whole.stands.sized r.whole.all small))

-- nodes that are equally deep are of one kind
no-uneven : (ws free : List ℕ) (root : ℕ) (es : List (ℕ × ℕ)) → IsIndex ws es → IsHeap ws free → get_or ws 0 0 ≡ root + 1 → IsUneven ws root → ⊥
no-uneven ws free root es i heap named s =
    let r = rooted-of ws free root es i.planted heap named in
    let at_root : (way : List ℕ) (q : ℕ) → Leads ws root way q → Leads ws (piece_of r.depth r.tree) way q = λ way q w. subst (λ x. Leads ws x way q) (sym r.is) w in
    let a = stood ws free true 0 (2 ^ 64) r.depth r.tree s.way s.node r.whole.stands (at_root s.way s.node s.leads) in
    let b = stood ws free true 0 (2 ^ 64) r.depth r.tree s.other_way s.other r.whole.stands (at_root s.other_way s.other s.other_leads) in
    let same : a.depth ≡ b.depth = omega (arith, a.deep, b.deep, s.deep) in
    let ka : kind_at ws s.node ≡ kind_of a.depth = ap (kind_at ws) (sym a.is) ∙ kind-stood ws free _ _ _ a.depth a.tree a.stands in
    let kb : kind_at ws s.other ≡ kind_of b.depth = ap (kind_at ws) (sym b.is) ∙ kind-stood ws free _ _ _ b.depth b.tree b.stands in
    s.kinds (ka ∙ ap kind_of same ∙ sym kb)

no-ill : (ws : List ℕ) (es : List (ℕ × ℕ)) (fault : MapFault) → length ws ≤ 536870912 → fault ≢ Off → (h : HasIll ws fault) → IsIndex ws es → ⊥
no-ill ws es fault small other h i = go fault h.ails other
  where
    go : (fault : MapFault) → Ails ws h.free h.root fault → fault ≢ Off → ⊥
    go Off a ne = ne refl
    go Deep a ne = no-deeper ws h.free h.root es small i h.heap h.named a
    go Level a ne = no-uneven ws h.free h.root es i h.heap h.named a
    go Short a ne = obeying ws h.free h.root es Short i h.heap h.named a
    go Used a ne = obeying ws h.free h.root es Used i h.heap h.named a
    go Many a ne = obeying ws h.free h.root es Many i h.heap h.named a
    go FreeList a ne = obeying ws h.free h.root es FreeList i h.heap h.named a
    go Node a ne = obeying ws h.free h.root es Node i h.heap h.named a
    go Head a ne = obeying ws h.free h.root es Head i h.heap h.named a
    go Few a ne = obeying ws h.free h.root es Few i h.heap h.named a
    go Keys a ne = obeying ws h.free h.root es Keys i h.heap h.named a
    go Freed a ne = obeying ws h.free h.root es Freed i h.heap h.named a
    go Lost a ne = obeying ws h.free h.root es Lost i h.heap h.named a
    go Count a ne = obeying ws h.free h.root es Count i h.heap h.named a

no-lost : (ws : List ℕ) (es : List (ℕ × ℕ)) → HasLost ws → IsIndex ws es → ⊥
no-lost ws es h i = go i.planted.tree
  where
    same : i.planted.free ≡ h.free
    same = Chain-one ws (get_or ws 1 0) i.planted.free h.free i.planted.heap.chain h.heap.chain

    go : Rooted ws i.planted.free es → ⊥
    go (inl none) = absurd (omega (arith, h.out, subst (λ x. handed ws x h.piece ≡ 0) same (none.2 h.piece)))
    go (inr (d, t, tree, e)) =
        let root : ℕ = piece_of d t in
        let rules = index-obeys ws h.free root es i h.heap tree.root in
        let w = rules.all h.piece h.out in
        h.no_node root w.0 tree.root w.1

-- Words that two maps are planted in, are of one map's length

leftmost : (ws free : List ℕ) (root : Bool) (low high d : ℕ) (t : Tree d) → Stands ws free root low high d t → (way : List ℕ) × (q : ℕ) × Leads ws (piece_of d t) way q × (kind_at ws q ≡ 0) × (length way ≡ d)
leftmost ws free root low high zero t s = ([], t.piece, refl, (leaf-at ws t s.holds).kind, refl)
leftmost ws free root low high (suc d) t s =
    let n = inner-at ws low high d t s.holds s.ordered in
    let r = leftmost ws free false (low_of low t.keys 0) (high_of high t.keys 0) d (get_or t.kids 0 (bare d)) (child-stands ws free root low high d t 0 s (omega arith)) in
    (0 ∷ r.0, r.1, (n.kind, omega arith, subst (λ x. Leads ws x r.0 r.1) (sym (n.kids 0 (omega arith))) r.2), r.3, omega (arith, r.4))

planted-long : (ws : List ℕ) (es fs : List (ℕ × ℕ)) → IsPlanted ws es → IsIndex ws fs → get_or ws 3 0 ≡ length es
planted-long ws es fs p i = go p.tree
  where
    go : Rooted ws p.free es → get_or ws 3 0 ≡ length es
    go (inl none) = elim i.planted.tree [
      | inl nothing ↦ i.count ∙ ap length nothing.1 ∙ sym (ap length none.1)
      | inr some ↦ absurd (omega (arith, none.0, some.2.root))
    ]
    go (inr (d, t, tree, e)) =
        let w = leftmost ws p.free true 0 (2 ^ 64) d t tree.stands in
        let rules = index-obeys ws p.free (piece_of d t) fs i p.heap tree.root in
        rules.count w.0 w.1 w.2 w.3 ∙ ap (λ x. pairs_under x ws (piece_of d t)) w.4 ∙ pairs-same ws 0 (2 ^ 64) d t tree.stands.holds tree.stands.ordered ∙ sym (ap length e)

pub no-map : (ws : List ℕ) (es : List (ℕ × ℕ)) (fault : MapFault) → length ws ≤ 536870912 → Causes ws fault → fault ≢ Off → IsIndex ws es → ⊥
no-map ws es Off small c ne i = ne refl
no-map ws es Short small c ne i = absurd (omega (arith, c, i.planted.heap.size))
no-map ws es Used small c ne i = absurd (omega (arith, c, i.planted.heap.used))
no-map ws es Many small c ne i = absurd (omega (arith, c, i.count, i.few))
no-map ws es FreeList small c ne i = c.none i.planted.free i.planted.heap
no-map ws es Lost small c ne i = no-lost ws es c i
no-map ws es Count small c ne i = c.2 (planted-long ws c.0 es c.1 i)
no-map ws es Deep small c ne i = no-ill ws es Deep small ne c i
no-map ws es Node small c ne i = no-ill ws es Node small ne c i
no-map ws es Head small c ne i = no-ill ws es Head small ne c i
no-map ws es Level small c ne i = no-ill ws es Level small ne c i
no-map ws es Few small c ne i = no-ill ws es Few small ne c i
no-map ws es Keys small c ne i = no-ill ws es Keys small ne c i
no-map ws es Freed small c ne i = no-ill ws es Freed small ne c i

-- The bounds of a node's keys, by the way to it.
use Rattle.std.proofs.Common.{◌≡◌, ℕ, zero, suc, ◌+◌, ◌<◌, ◌≤◌, Bool, true, false, List, [], ◌∷◌, length, get_or, refl, ap, sym, subst, ◌∙◌, inl, inr, ltb, arith}
use Rattle.std.proofs.lemmas.Bool.{cases_lt, cond-true, cond-false}
use Rattle.std.proofs.lemmas.List.{get_or-map, get_or_past}
use Rattle.std.proofs.lemmas.List.Elements.{All-get_or}
use Rattle.envy_btree.specs.Tree.{Tree, Ordered, keys_of, piece_of}
use Rattle.envy_btree.specs.Nodes.{kind_of}
use Rattle.envy_btree.specs.Index.{Stands}
use Rattle.envy_btree.specs.Rules.{key_count, kind_at, key_at, slot_at, Leads}
use Rattle.envy_btree.proofs.Descent.{bare}
use Rattle.envy_btree.proofs.Maps.{ltb-lt, ltb-ge}
use Rattle.envy_btree.proofs.Merging.{get_or-any}
use Rattle.envy_btree.proofs.Trees.{Rising-within, high_of, low-next, low_of}
use Rattle.envy_btree.proofs.Walking.{Fans-key, Fans-keys, Rising-keys, child-stands, inner-at, leaf-at}
use Rattle.envy_tree_check.specs.Bounds.{floor_at, high_at, high_by, is_root, low_at, low_by}

-- the bounds of a child by the list of keys, and by the words

pub low-same : (low : ℕ) (ws ks : List ℕ) (p j : ℕ) → ((i : ℕ) → i < length ks → key_at ws p i ≡ get_or ks i 0) → j ≤ length ks → low_of low ks j ≡ low_at ws low p j
low-same low ws ks p zero same le = refl
low-same low ws ks p (suc j) same le = low-next low ks j (omega arith) ∙ sym (same j (omega arith))

pub high-same : (high : ℕ) (ws ks : List ℕ) (p j : ℕ) → ((i : ℕ) → i < length ks → key_at ws p i ≡ get_or ks i 0) → key_count ws p ≡ length ks → high_of high ks j ≡ high_at ws high p j
high-same high ws ks p j same count = elim (cases_lt j (length ks)) [
  | inl lt ↦ get_or-any ks j high 0 lt ∙ sym (same j lt) ∙ sym (cond-true (ltb j (key_count ws p)) (key_at ws p j) high (ltb-lt j (key_count ws p) (omega arith)))
  | inr ge ↦ get_or_past ks j high ge ∙ sym (cond-false (ltb j (key_count ws p)) (key_at ws p j) high (ltb-ge j (key_count ws p) (omega arith)))
]

-- What a way leads to

pub record Stood (ws free : List ℕ) (root : Bool) (low high d : ℕ) (t : Tree d) (js : List ℕ) (q : ℕ) : Type 0 where
  pub depth : ℕ
  pub tree : Tree depth
  pub is : piece_of depth tree ≡ q
  pub stands : Stands ws free (is_root root js) (low_by ws low (piece_of d t) js) (high_by ws high (piece_of d t) js) depth tree
  pub deep : d ≡ depth + length js

never-root : (js : List ℕ) → is_root false js ≡ false
never-root [] = refl
never-root (j ∷ js) = refl

pub stood : (ws free : List ℕ) (root : Bool) (low high d : ℕ) (t : Tree d) (js : List ℕ) (q : ℕ) → Stands ws free root low high d t → Leads ws (piece_of d t) js q → Stood ws free root low high d t js q
stood ws free root low high d t [] q s e = record { depth = d; tree = t; is = e; stands = s; deep = omega arith }
stood ws free root low high zero t (j ∷ js) q s w = absurd (omega (arith, (leaf-at ws t s.holds).kind, w.0))
stood ws free root low high (suc d) t (j ∷ js) q s w =
    let n = inner-at ws low high d t s.holds s.ordered in
    let le : j ≤ length t.keys = omega (arith, w.1, n.count) in
    let c = get_or t.kids j (bare d) in
    let a : low_of low t.keys j ≡ low_at ws low t.piece j = low-same low ws t.keys t.piece j n.keys le in
    let b : high_of high t.keys j ≡ high_at ws high t.piece j = high-same high ws t.keys t.piece j n.keys n.count in
    let k : Stands ws free false (low_at ws low t.piece j) (high_at ws high t.piece j) d c = subst (λ x. Stands ws free false x (high_at ws high t.piece j) d c) a (subst (λ x. Stands ws free false (low_of low t.keys j) x d c) b (child-stands ws free root low high d t j s le)) in
    let r = stood ws free false (low_at ws low t.piece j) (high_at ws high t.piece j) d c js q k (subst (λ x. Leads ws x js q) (n.kids j le) w.2) in
    let here : Stands ws free (is_root false js) (low_by ws (low_at ws low t.piece j) (slot_at ws t.piece j) js) (high_by ws (high_at ws high t.piece j) (slot_at ws t.piece j) js) r.depth r.tree = subst (λ x. Stands ws free (is_root false js) (low_by ws (low_at ws low t.piece j) x js) (high_by ws (high_at ws high t.piece j) x js) r.depth r.tree) (sym (n.kids j le)) r.stands in
    record {
      depth = r.depth;
      tree = r.tree;
      is = r.is;
      stands = subst (λ x. Stands ws free x (low_by ws low t.piece (j ∷ js)) (high_by ws high t.piece (j ∷ js)) r.depth r.tree) (never-root js) here;
      deep = omega (arith, r.deep);
    }

pub kind-stood : (ws free : List ℕ) (root : Bool) (low high d : ℕ) (t : Tree d) → Stands ws free root low high d t → kind_at ws (piece_of d t) ≡ kind_of d
kind-stood ws free root low high zero t s = (leaf-at ws t s.holds).kind
kind-stood ws free root low high (suc d) t s = (inner-at ws low high d t s.holds s.ordered).kind

-- The keys of a node of a tree are in order

leaf-floor : (ws free : List ℕ) (root : Bool) (low high : ℕ) (t : Tree zero) (i : ℕ) → Stands ws free root low high zero t → i < key_count ws t.piece → floor_at ws low t.piece i ≤ key_at ws t.piece i
leaf-floor ws free root low high t zero s lt =
    let n = leaf-at ws t s.holds in
    let some : 0 < length t.pairs = omega (arith, n.count) in
    let w = All-get_or (λ (e : ℕ × ℕ). (low ≤ e.0) × (e.0 < high)) t.pairs 0 (0, 0) some (Rising-within low high t.pairs s.ordered) in
    let m = get_or-map (λ (e : ℕ × ℕ). e.0) t.pairs 0 (0, 0) 0 some in
    omega (arith, w.0, m, n.keys 0 some, n.kind)
leaf-floor ws free root low high t (suc i) s lt =
    let n = leaf-at ws t s.holds in
    let some : suc i < length t.pairs = omega (arith, n.count) in
    omega (arith, Rising-keys low high t.pairs i s.ordered some, n.keys i (omega arith), n.keys (suc i) some)

inner-floor : (ws free : List ℕ) (root : Bool) (low high d : ℕ) (t : Tree (suc d)) (i : ℕ) → Stands ws free root low high (suc d) t → i < key_count ws t.piece → floor_at ws low t.piece i ≤ key_at ws t.piece i
inner-floor ws free root low high d t zero s lt =
    let n = inner-at ws low high d t s.holds s.ordered in
    let some : 0 < length t.keys = omega (arith, n.count) in
    omega (arith, (Fans-key (Ordered d) low high t.keys t.kids 0 s.ordered some).0, n.keys 0 some, n.kind)
inner-floor ws free root low high d t (suc i) s lt =
    let n = inner-at ws low high d t s.holds s.ordered in
    let some : suc i < length t.keys = omega (arith, n.count) in
    omega (arith, Fans-keys (Ordered d) low high t.keys t.kids i s.ordered some, n.keys i (omega arith), n.keys (suc i) some)

pub floor-stood : (ws free : List ℕ) (root : Bool) (low high d : ℕ) (t : Tree d) (i : ℕ) → Stands ws free root low high d t → i < key_count ws (piece_of d t) → floor_at ws low (piece_of d t) i ≤ key_at ws (piece_of d t) i
floor-stood ws free root low high zero t i s lt = leaf-floor ws free root low high t i s lt
floor-stood ws free root low high (suc d) t i s lt = inner-floor ws free root low high d t i s lt

pub below-stood : (ws free : List ℕ) (root : Bool) (low high d : ℕ) (t : Tree d) (i : ℕ) → Stands ws free root low high d t → i < key_count ws (piece_of d t) → key_at ws (piece_of d t) i < high
below-stood ws free root low high zero t i s lt =
    let n = leaf-at ws t s.holds in
    let some : i < length t.pairs = omega (arith, n.count) in
    let w = All-get_or (λ (e : ℕ × ℕ). (low ≤ e.0) × (e.0 < high)) t.pairs i (0, 0) some (Rising-within low high t.pairs s.ordered) in
    let m = get_or-map (λ (e : ℕ × ℕ). e.0) t.pairs i (0, 0) 0 some in
    let k = n.keys i some in
    omega (arith, w.1)
below-stood ws free root low high (suc d) t i s lt =
    let n = inner-at ws low high d t s.holds s.ordered in
    let some : i < length t.keys = omega (arith, n.count) in
    omega (arith, (Fans-key (Ordered d) low high t.keys t.kids i s.ordered some).1, n.keys i some)

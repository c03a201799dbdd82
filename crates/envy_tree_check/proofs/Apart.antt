-- Two nodes of a tree whose keys are in order stand in two pieces.
use Rattle.std.proofs.Common.{◌≡◌, ◌≢◌, ◌⊎◌, ℕ, zero, suc, ◌+◌, ◌<◌, ◌≤◌, Bool, true, false, List, [], ◌∷◌, length, get_or, refl, ap, sym, subst, ◌∙◌, inl, inr, eqb, arith}
use Rattle.std.specs.List.{All, sum_by}
use Rattle.std.proofs.lemmas.Bool.{cases_eq, cases_lt}
use Rattle.std.proofs.lemmas.List.{get_or-map}
use Rattle.std.proofs.lemmas.List.Elements.{All-get_or, All-head, All-tail}
use Rattle.std.proofs.lemmas.List.Sums.{sum_by-cons}
use Rattle.envy_heap.specs.Pieces.{one}
use Rattle.envy_heap.proofs.Heaps.{one-apart, one-le, one-same}
use Rattle.envy_btree.specs.Tree.{Tree, Fans, Holds, Ordered, Sized, keys_of, piece_of, uses}
use Rattle.envy_btree.specs.Rules.{key_at, kind_at}
use Rattle.envy_btree.proofs.Trees.{Rising-within}
use Rattle.envy_btree.proofs.Walking.{Fans-key, inner-at, leaf-at}

-- Each piece is used at most once, and the first key of one that is lies within bounds, above the lower one if it is
-- an inner node.
record Apart (ws : List ℕ) (low high : ℕ) (used : ℕ → ℕ) : Type 0 where
  once : (q : ℕ) → used q ≤ 1
  above : (q : ℕ) → 1 ≤ used q → low ≤ key_at ws q 0
  below : (q : ℕ) → 1 ≤ used q → key_at ws q 0 < high
  strict : (q : ℕ) → 1 ≤ used q → kind_at ws q ≡ 1 → low < key_at ws q 0

is-node : (q p : ℕ) → 1 ≤ one (eqb q p) → q ≡ p
is-node q p some = elim (cases_eq q p) [ inl e ↦ e | inr ne ↦ absurd (omega (arith, one-apart q p ne)) ]

-- and the children of a node, whose first key is that of none that is an inner node
record Fanned (ws : List ℕ) (low high : ℕ) (ks : List ℕ) (used : ℕ → ℕ) : Type 0 where
  apart : Apart ws low high used
  other : (q : ℕ) → 0 < length ks → kind_at ws q ≡ 1 → key_at ws q 0 ≡ get_or ks 0 0 → used q ≡ 0

fan-apart : (ws : List ℕ) (d : ℕ) → ((low high : ℕ) (t : Tree d) → Holds ws d t → Ordered d low high t → Sized false d t → Apart ws low high (uses d t)) → (low high : ℕ) (ks : List ℕ) (cs : List (Tree d)) → Fans (Ordered d) low high ks cs → All (Holds ws d) cs → All (Sized false d) cs → Fanned ws low high ks (λ q. sum_by (λ c. uses d c q) cs)
fan-apart ws d each low high [] [] f h s = absurd f
fan-apart ws d each low high [] (c ∷ []) f h s =
    let a = each low high c (All-head (Holds ws d) c [] h) f (All-head (Sized false d) c [] s) in
    let one_of : (q : ℕ) → sum_by (λ x. uses d x q) (c ∷ []) ≡ uses d c q = λ q. omega (arith, sum_by-cons (λ x. uses d x q) c []) in
    record {
      apart = record {
        once = λ q. omega (arith, one_of q, a.once q);
        above = λ q some. a.above q (omega (arith, one_of q));
        below = λ q some. a.below q (omega (arith, one_of q));
        strict = λ q some kind. a.strict q (omega (arith, one_of q)) kind;
      };
      other = λ q some kind e. absurd (omega arith);
    }
fan-apart ws d each low high [] (c ∷ e ∷ cs) f h s = absurd f
fan-apart ws d each low high (k ∷ ks) [] f h s = absurd f
fan-apart ws d each low high (k ∷ ks) (c ∷ cs) f h s =
    let a = each low k c (All-head (Holds ws d) c cs h) f.2 (All-head (Sized false d) c cs s) in
    let r = fan-apart ws d each k high ks cs f.3 (All-tail (Holds ws d) c cs h) (All-tail (Sized false d) c cs s) in
    let b = r.apart in
    let two : (q : ℕ) → sum_by (λ x. uses d x q) (c ∷ cs) ≡ uses d c q + sum_by (λ x. uses d x q) cs = λ q. sum_by-cons (λ x. uses d x q) c cs in
    record {
      apart = record {
        once = λ q. elim (cases_lt 0 (uses d c q)) [
          | inr none ↦ omega (arith, two q, b.once q)
          | inl here ↦ elim (cases_lt 0 (sum_by (λ x. uses d x q) cs)) [
            | inr nowhere ↦ omega (arith, two q, a.once q)
            | inl there ↦ absurd (omega (arith, a.below q here, b.above q there))
          ]
        ];
        above = λ q some. elim (cases_lt 0 (uses d c q)) [
          | inl here ↦ a.above q here
          | inr none ↦ omega (arith, f.0, b.above q (omega (arith, two q)))
        ];
        below = λ q some. elim (cases_lt 0 (uses d c q)) [
          | inl here ↦ omega (arith, f.1, a.below q here)
          | inr none ↦ b.below q (omega (arith, two q))
        ];
        strict = λ q some kind. elim (cases_lt 0 (uses d c q)) [
          | inl here ↦ a.strict q here kind
          | inr none ↦ omega (arith, f.0, b.above q (omega (arith, two q)))
        ];
      };
      other = λ q some kind e. elim (cases_lt 0 (uses d c q)) [
        | inl here ↦ absurd (omega (arith, a.below q here, e))
        | inr none ↦ elim (cases_lt 0 (sum_by (λ x. uses d x q) cs)) [
          | inr nowhere ↦ omega (arith, two q)
          | inl there ↦ absurd (omega (arith, b.strict q there kind, e))
        ]
      ];
    }

-- a node and its children
node-apart : (ws : List ℕ) (d : ℕ) → ((low high : ℕ) (t : Tree d) → Holds ws d t → Ordered d low high t → Sized false d t → Apart ws low high (uses d t)) → (low high : ℕ) (t : Tree (suc d)) → Holds ws (suc d) t → Ordered (suc d) low high t → All (Sized false d) t.kids → 0 < length t.keys → Apart ws low high (uses (suc d) t)
node-apart ws d each low high t h o s some =
    let n = inner-at ws low high d t h o in
    let r = fan-apart ws d each low high t.keys t.kids o h.1 s in
    let a = r.apart in
    let w = Fans-key (Ordered d) low high t.keys t.kids 0 o some in
    let k : key_at ws t.piece 0 ≡ get_or t.keys 0 0 = n.keys 0 some in
    let kids : ℕ → ℕ = λ q. sum_by (λ c. uses d c q) t.kids in
    let alone : kids t.piece ≡ 0 = r.other t.piece some n.kind k in
    let at_node : (q : ℕ) → q ≡ t.piece → (low < key_at ws q 0) × (key_at ws q 0 < high) = λ q e. subst (λ x. (low < key_at ws x 0) × (key_at ws x 0 < high)) (sym e) (let l : low < key_at ws t.piece 0 = omega (arith, w.0, k) in let u : key_at ws t.piece 0 < high = omega (arith, w.1, k) in (l, u)) in
    record {
      once = λ q. elim (cases_eq q t.piece) [
        | inl e ↦ let none : kids q ≡ 0 = ap kids e ∙ alone in omega (arith, none, one-le (eqb q t.piece))
        | inr ne ↦ omega (arith, a.once q, one-apart q t.piece ne)
      ];
      above = λ q more. elim (cases_eq q t.piece) [
        | inl e ↦ omega (arith, (at_node q e).0)
        | inr ne ↦ a.above q (omega (arith, more, one-apart q t.piece ne))
      ];
      below = λ q more. elim (cases_eq q t.piece) [
        | inl e ↦ (at_node q e).1
        | inr ne ↦ a.below q (omega (arith, more, one-apart q t.piece ne))
      ];
      strict = λ q more kind. elim (cases_eq q t.piece) [
        | inl e ↦ (at_node q e).0
        | inr ne ↦ a.strict q (omega (arith, more, one-apart q t.piece ne)) kind
      ];
    }

tree-apart : (ws : List ℕ) (d low high : ℕ) (t : Tree d) → Holds ws d t → Ordered d low high t → Sized false d t → Apart ws low high (uses d t)
tree-apart ws zero low high t h o s =
    let n = leaf-at ws t h in
    let some : 0 < length t.pairs = omega (arith, s.0) in
    let w = All-get_or (λ (e : ℕ × ℕ). (low ≤ e.0) × (e.0 < high)) t.pairs 0 (0, 0) some (Rising-within low high t.pairs o) in
    let m = get_or-map (λ (e : ℕ × ℕ). e.0) t.pairs 0 (0, 0) 0 some in
    let k = n.keys 0 some in
    let l : low ≤ key_at ws t.piece 0 = omega (arith, w.0) in
    let u : key_at ws t.piece 0 < high = omega (arith, w.1) in
    record {
      once = λ q. one-le (eqb q t.piece);
      above = λ q more. subst (λ x. low ≤ key_at ws x 0) (sym (is-node q t.piece more)) l;
      below = λ q more. subst (λ x. key_at ws x 0 < high) (sym (is-node q t.piece more)) u;
      strict = λ q more kind. absurd (let e : kind_at ws q ≡ 0 = ap (kind_at ws) (is-node q t.piece more) ∙ n.kind in omega arith);
    }
tree-apart ws (suc d) low high t h o s =
    let n = inner-at ws low high d t h o in
    node-apart ws d (λ l u c hc oc sc. tree-apart ws d l u c hc oc sc) low high t h o s.2 (omega (arith, n.long, s.0))

pub uses-once : (ws : List ℕ) (root : Bool) (low high d : ℕ) (t : Tree d) (q : ℕ) → Holds ws d t → Ordered d low high t → Sized root d t → uses d t q ≤ 1
uses-once ws root low high zero t q h o s = one-le (eqb q t.piece)
uses-once ws false low high (suc d) t q h o s = (tree-apart ws (suc d) low high t h o s).once q
uses-once ws true low high (suc d) t q h o s =
    let n = inner-at ws low high d t h o in
    (node-apart ws d (λ l u c hc oc sc. tree-apart ws d l u c hc oc sc) low high t h o s.2 (omega (arith, n.long, s.0))).once q

-- Two neighbours as one tree: what a removal makes of them, and parts again where it is too large.
use Rattle.std.proofs.Common.{◌≡◌, ℕ, zero, suc, ◌+◌, ◌<◌, ◌≤◌, true, false, cond, List, [], ◌∷◌, ◌++◌, length, get_or, refl, sym, eqb, arith}
use Rattle.std.proofs.lemmas.List.{length-append, map-append}
use Rattle.std.proofs.lemmas.List.Concat.{flat_map-append}
use Rattle.std.proofs.lemmas.List.Sums.{sum_by-append}
use Rattle.std.proofs.lemmas.List.Elements.{All-append}
use Rattle.envy_heap.specs.Pieces.{one}
use Rattle.envy_btree.specs.Pairs.{without}
use Rattle.envy_btree.specs.Tree.{Tree, Fans, Rising, Ordered, Sized, Holds, uses, piece_of, pairs_of}
use Rattle.envy_btree.specs.Nodes.{is_inner, keys_in, slots_in, width, Loose, KidsSized}
use Rattle.envy_btree.specs.Changes.{joined_keys}
use Rattle.envy_btree.proofs.Trees.{Fans-join, Rising-join, Rising-wider, low_of, high_of}

-- the two as one, in the first one's piece
pub joined : (d : ℕ) → ℕ → Tree d → Tree d → Tree d
joined zero m a b = record { piece = a.piece; pairs = a.pairs ++ b.pairs }
joined (suc d) m a b = record { piece = a.piece; keys = a.keys ++ m ∷ b.keys; kids = a.kids ++ b.kids }

pub joined-ordered : (d low m high : ℕ) (a b : Tree d) → low < m → m < high → Ordered d low m a → Ordered d m high b → Ordered d low high (joined d m a b)
unfolding joined
joined-ordered zero low m high a b l h o p = Rising-join low m high a.pairs b.pairs o p (omega arith)
joined-ordered (suc d) low m high a b l h o p = Fans-join (Ordered d) low high m a.keys b.keys a.kids b.kids l h o p

pub joined-pairs : (d m : ℕ) (a b : Tree d) → pairs_of d (joined d m a b) ≡ pairs_of d a ++ pairs_of d b
unfolding joined
joined-pairs zero m a b = refl
joined-pairs (suc d) m a b = flat_map-append (pairs_of d) a.kids b.kids

-- the second one's piece is the one that is given back
pub joined-uses : (d m q : ℕ) (a b : Tree d) → uses d (joined d m a b) q + one (eqb q (piece_of d b)) ≡ uses d a q + uses d b q
unfolding joined
joined-uses zero m q a b = refl
joined-uses (suc d) m q a b = omega (arith, sum_by-append (λ c. uses d c q) a.kids b.kids)

pub joined-width : (d m : ℕ) (a b : Tree d) → width d (joined d m a b) ≡ width d a + width d b
unfolding joined
joined-width zero m a b = length-append a.pairs b.pairs
joined-width (suc d) m a b = length-append a.kids b.kids

-- a key less
pub Rising-without : (low high key : ℕ) (es : List (ℕ × ℕ)) → Rising low high es → Rising low high (without key es)
Rising-without low high key [] r = r
Rising-without low high key (e ∷ es) r = elim (eqb e.0 key) as (λ x. Rising low high (cond x es (e ∷ without key es))) [
  | true ↦ Rising-wider low (e.0 + 1) high es (omega (arith, r.0)) r.2
  | false ↦ (r.0, r.1, Rising-without (e.0 + 1) high key es r.2)
]

pub without-long : (key : ℕ) (es : List (ℕ × ℕ)) → length es ≤ length (without key es) + 1
without-long key [] = omega arith
without-long key (e ∷ es) = elim (eqb e.0 key) as (λ x. suc (length es) ≤ length (cond x es (e ∷ without key es)) + 1) [
  | true ↦ omega arith
  | false ↦ (let h = without-long key es in omega arith)
]

pub joined-piece : (d m : ℕ) (a b : Tree d) → piece_of d (joined d m a b) ≡ piece_of d a
unfolding joined
joined-piece zero m a b = refl
joined-piece (suc d) m a b = refl

pub joined-keys : (d m : ℕ) (a b : Tree d) → joined_keys (is_inner d) (keys_in d a) m (keys_in d b) ≡ keys_in d (joined d m a b)
unfolding joined
joined-keys zero m a b = sym (map-append (λ (e : ℕ × ℕ). e.0) a.pairs b.pairs)
joined-keys (suc d) m a b = refl

pub joined-slots : (d m : ℕ) (a b : Tree d) → slots_in d a ++ slots_in d b ≡ slots_in d (joined d m a b)
unfolding joined
joined-slots zero m a b = sym (map-append (λ (e : ℕ × ℕ). e.1) a.pairs b.pairs)
joined-slots (suc d) m a b = sym (map-append (piece_of d) a.kids b.kids)

pub joined-loose : (ws : List ℕ) (d m : ℕ) (a b : Tree d) → Loose ws d a → Loose ws d b → Loose ws d (joined d m a b)
unfolding joined
joined-loose ws zero m a b x y = tt
joined-loose ws (suc d) m a b x y = All-append (Holds ws d) a.kids b.kids x y

pub joined-sized : (d m : ℕ) (a b : Tree d) → KidsSized d a → KidsSized d b → KidsSized d (joined d m a b)
unfolding joined
joined-sized zero m a b x y = tt
joined-sized (suc d) m a b x y = All-append (Sized false d) a.kids b.kids x y

-- keys on both sides of the one between
pub Fans-gap : {C : Type 0} (P : ℕ → ℕ → C → Type 0) (low high : ℕ) (ks : List ℕ) (cs : List C) (i : ℕ) → i < length ks → Fans P low high ks cs → (low_of low ks i < get_or ks i 0) × (get_or ks i 0 < high_of high ks (suc i))
Fans-gap P low high [] cs i lt f = absurd (omega arith)
Fans-gap P low high (k ∷ ks) [] i lt f = absurd f
Fans-gap P low high (k ∷ []) (c ∷ cs) zero lt f = (f.0, f.1)
Fans-gap P low high (k ∷ l ∷ ks) (c ∷ []) zero lt f = absurd f.3
Fans-gap P low high (k ∷ l ∷ ks) (c ∷ e ∷ cs) zero lt f = (f.0, f.3.0)
Fans-gap P low high (k ∷ ks) (c ∷ cs) (suc i) lt f = Fans-gap P k high ks cs i (omega arith) f.3

pub without-short : (key : ℕ) (es : List (ℕ × ℕ)) → length (without key es) ≤ length es
without-short key [] = omega arith
without-short key (e ∷ es) = elim (eqb e.0 key) as (λ x. length (cond x es (e ∷ without key es)) ≤ suc (length es)) [
  | true ↦ omega arith
  | false ↦ (let h = without-short key es in omega arith)
]

-- What is read of a node where it stands.
use Rattle.std.proofs.Common.{◌≡◌, ℕ, zero, suc, ◌+◌, ◌/◌, ◌%◌, ◌==◌, ◌<◌, ◌≤◌, Bool, List, [], ◌∷◌, length, map, drop, get_or, refl, sym, subst, arith}
use Rattle.std.proofs.lemmas.List.{length-map, get_or-map, length-take}
use Rattle.std.proofs.lemmas.List.Elements.{All-get_or}
use Rattle.envy_heap.specs.Pieces.{head, at}
use Rattle.envy_btree.specs.Tree.{Tree, Fans, Rising, Ordered, Shows, piece_of, keys_of, values_of}
use Rattle.envy_btree.specs.Nodes.{IsRead}
use Rattle.envy_btree.specs.Index.{Stands}
use Rattle.envy_btree.specs.Changes.{Rests}
use Rattle.envy_btree.specs.Spots.{Climbs, IsSpot, keys_at, slots_at}
use Rattle.envy_btree.proofs.Trees.{Rising-within}
use Rattle.envy_btree.proofs.Writing.{window-at}
use Rattle.envy_btree.proofs.Descent.{read-shows}
use Rattle.envy_btree.proofs.Gaps.{window-get}

-- keys rise
rising-climbs : (low high : ℕ) (es : List (ℕ × ℕ)) (i j : ℕ) → Rising low high es → i ≤ j → j < length es → get_or (keys_of es) i 0 ≤ get_or (keys_of es) j 0
rising-climbs low high [] i j r le lt = absurd (omega arith)
rising-climbs low high (e ∷ es) zero zero r le lt = omega arith
rising-climbs low high (e ∷ es) zero (suc j) r le lt =
    let w = All-get_or (λ (x : ℕ × ℕ). (e.0 + 1 ≤ x.0) × (x.0 < high)) es j (0, 0) (omega arith) (Rising-within (e.0 + 1) high es r.2) in
    let m = get_or-map (λ (x : ℕ × ℕ). x.0) es j (0, 0) 0 (omega arith) in
    omega (arith, w.0, m)
rising-climbs low high (e ∷ es) (suc i) zero r le lt = absurd (omega arith)
rising-climbs low high (e ∷ es) (suc i) (suc j) r le lt = rising-climbs (e.0 + 1) high es i j r.2 (omega arith) (omega arith)

fans-above : {C : Type 0} (P : ℕ → ℕ → C → Type 0) (low high : ℕ) (ks : List ℕ) (cs : List C) (j : ℕ) → Fans P low high ks cs → j < length ks → low < get_or ks j 0
fans-above P low high [] cs j f lt = absurd (omega arith)
fans-above P low high (k ∷ ks) [] j f lt = absurd f
fans-above P low high (k ∷ ks) (c ∷ cs) zero f lt = f.0
fans-above P low high (k ∷ ks) (c ∷ cs) (suc j) f lt = omega (arith, f.0, fans-above P k high ks cs j f.3 (omega arith))

fans-climbs : {C : Type 0} (P : ℕ → ℕ → C → Type 0) (low high : ℕ) (ks : List ℕ) (cs : List C) (i j : ℕ) → Fans P low high ks cs → i ≤ j → j < length ks → get_or ks i 0 ≤ get_or ks j 0
fans-climbs P low high [] cs i j f le lt = absurd (omega arith)
fans-climbs P low high (k ∷ ks) [] i j f le lt = absurd f
fans-climbs P low high (k ∷ ks) (c ∷ cs) zero zero f le lt = omega arith
fans-climbs P low high (k ∷ ks) (c ∷ cs) zero (suc j) f le lt = omega (arith, fans-above P k high ks cs j f.3 (omega arith))
fans-climbs P low high (k ∷ ks) (c ∷ cs) (suc i) zero f le lt = absurd (omega arith)
fans-climbs P low high (k ∷ ks) (c ∷ cs) (suc i) (suc j) f le lt = fans-climbs P k high ks cs i j f.3 (omega arith) (omega arith)

shown-climbs : (ws : List ℕ) (p kind : ℕ) (keys slots : List ℕ) → Shows ws p kind keys slots → kind ≤ 1 → ((i j : ℕ) → i ≤ j → j < length keys → get_or keys i 0 ≤ get_or keys j 0) → Climbs ws (at p 1) (get_or ws (head p) 0 / 2)
shown-climbs ws p kind keys slots s le rise = record {
  rise = λ i j ij jn.
      let lt : j < length keys = omega (arith, s.count) in
      let a = window-at ws (at p 1) (length keys) i keys s.front (omega arith) in
      let b = window-at ws (at p 1) (length keys) j keys s.front lt in
      omega (arith, rise i j ij lt);
}

climbs-of : (ws free : List ℕ) (root : Bool) (low high d : ℕ) (t : Tree d) → Stands ws free root low high d t → Climbs ws (at (piece_of d t) 1) (get_or ws (head (piece_of d t)) 0 / 2)
climbs-of ws free root low high zero t s =
    shown-climbs ws t.piece 0 (keys_of t.pairs) (values_of t.pairs) s.holds (omega arith) (λ i j le lt. rising-climbs low high t.pairs i j s.ordered le (omega (arith, length-map t.pairs (λ (e : ℕ × ℕ). e.0))))
climbs-of ws free root low high (suc d) t s =
    shown-climbs ws t.piece 1 t.keys (map (piece_of d) t.kids) s.holds.0 (omega arith) (λ i j le lt. fans-climbs (Ordered d) low high t.keys t.kids i j s.ordered le lt)

pub Rests-climbs : (ws : List ℕ) (p level : ℕ) → Rests ws p level → Climbs ws (at p 1) (get_or ws (head p) 0 / 2)
Rests-climbs ws p level r = subst (λ x. Climbs ws (at x 1) (get_or ws (head x) 0 / 2)) r.is (climbs-of ws r.free r.root r.low r.high r.depth r.tree r.stands)

pub spot-read : (ws : List ℕ) (p key n i : ℕ) (inner : Bool) → IsSpot ws p key inner n i → IsRead ws p inner (keys_at ws p) (slots_at ws p)
spot-read ws p key n i inner s = record { kind = s.kind; front = refl; back = refl }

-- a value or a child is one word
pub slot-at : (ws : List ℕ) (p i : ℕ) → i < length (slots_at ws p) → get_or ws (at p 32 + i) 0 ≡ get_or (slots_at ws p) i 0
slot-at ws p i lt =
    let m : ℕ = get_or ws (head p) 0 / 2 + get_or ws (head p) 0 % 2 in
    sym (window-get ws (at p 32) m i (omega (arith, length-take m (drop (at p 32) ws))))

pub key-at : (ws : List ℕ) (p i : ℕ) → i < length (keys_at ws p) → get_or ws (at p 1 + i) 0 ≡ get_or (keys_at ws p) i 0
key-at ws p i lt = sym (window-get ws (at p 1) (get_or ws (head p) 0 / 2) i (omega (arith, length-take (get_or ws (head p) 0 / 2) (drop (at p 1) ws))))

pub shows-at : (ws : List ℕ) (p kind : ℕ) (keys slots : List ℕ) → Shows ws p kind keys slots → kind ≤ 1 → length slots ≡ length keys + kind → (keys_at ws p ≡ keys) × (slots_at ws p ≡ slots)
shows-at ws p kind keys slots s le long =
    let e = read-shows ws p kind keys slots (keys_at ws p) (slots_at ws p) (get_or ws (head p) 0 % 2 == 1) s le long (record { kind = refl; front = refl; back = refl }) in
    (e.0, e.1)

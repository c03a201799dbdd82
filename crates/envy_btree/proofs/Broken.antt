-- Words that break one rule of the tree.
use Rattle.std.proofs.Common.{◌≡◌, ℕ, ◌+◌, ◌<◌, ◌≤◌, List, [], ◌∷◌, length, get_or, refl, sym, subst, arith, lit≤, lit<}
use Rattle.envy_heap.specs.Pieces.{handed}
use Rattle.envy_heap.proofs.Heaps.{Chain-one}
use Rattle.envy_btree.specs.Index.{IsIndex}
use Rattle.envy_btree.specs.Examples.{one_leaf, two_levels, named_twice, uneven, idle_piece, free_root as freed, too_many, crowded, one_child, crossed, three_levels}
use Rattle.envy_btree.specs.Rules.{ObeysRules, Leads}
use Rattle.envy_btree.proofs.Ruling.{index-obeys}

rules : (ws : List ℕ) (root : ℕ) (es : List (ℕ × ℕ)) → get_or ws 0 0 ≡ root + 1 → (i : IsIndex ws es) → ObeysRules ws i.planted.free root es
rules ws root es named i = index-obeys ws i.planted.free root es i i.planted.heap named

apart : (a b : ℕ) → b < a → b ≡ a → ⊥
apart a b lt e = omega arith

other-way : ◌≡◌ {A = List ℕ} (0 ∷ []) (1 ∷ []) → ⊥
other-way e = let never : ⊥ = cc in never

pub leaf-of-14 : (es : List (ℕ × ℕ)) → IsIndex (two_levels 14 14) es → ⊥
leaf-of-14 es i =
    let r = rules (two_levels 14 14) 2 es refl i in
    let few : 15 ≤ 14 = r.least 0 [] 0 (refl, lit≤ tt, refl) in
    omega arith

pub key-too-small : (es : List (ℕ × ℕ)) → IsIndex (two_levels 15 14) es → ⊥
key-too-small es i =
    let r = rules (two_levels 15 14) 2 es refl i in
    let same : 14 < 14 = r.above [] [] 2 0 0 14 refl (refl, lit≤ tt, refl) (lit< tt) (lit< tt) in
    omega arith

pub key-too-large : (es : List (ℕ × ℕ)) → IsIndex (two_levels 15 16) es → ⊥
key-too-large es i =
    let r = rules (two_levels 15 16) 2 es refl i in
    let more : 16 ≤ 15 = r.at_most [] [] 2 1 0 0 refl (refl, lit≤ tt, refl) (lit< tt) in
    omega arith

pub falling : (es : List (ℕ × ℕ)) → IsIndex (one_leaf 2 (6 ∷ 5 ∷ []) (60 ∷ 50 ∷ [])) es → ⊥
falling es i =
    let r = rules (one_leaf 2 (6 ∷ 5 ∷ []) (60 ∷ 50 ∷ [])) 0 es refl i in
    let less : 6 < 5 = r.rising [] 0 0 refl (lit< tt) in
    omega arith

pub miscounted : (es : List (ℕ × ℕ)) → IsIndex (one_leaf 2 (5 ∷ []) (50 ∷ [])) es → ⊥
miscounted es i =
    let r = rules (one_leaf 2 (5 ∷ []) (50 ∷ [])) 0 es refl i in
    apart 2 1 (lit< tt) (sym (r.count [] 0 refl refl))

pub twice : (es : List (ℕ × ℕ)) → IsIndex named_twice es → ⊥
twice es i =
    let r = rules named_twice 2 es refl i in
    other-way (r.once (0 ∷ []) (1 ∷ []) 1 (refl, lit≤ tt, refl) (refl, lit≤ tt, refl))

pub deeper : (es : List (ℕ × ℕ)) → IsIndex uneven es → ⊥
deeper es i =
    let r = rules uneven 2 es refl i in
    apart 2 1 (lit< tt) (r.deep (0 ∷ []) (1 ∷ 0 ∷ []) 0 3 (refl, lit≤ tt, refl) (refl, lit≤ tt, (refl, lit≤ tt, refl)) refl refl)

pub idle : (es : List (ℕ × ℕ)) → IsIndex idle_piece es → ⊥
idle es i =
    let r = rules idle_piece 0 es refl i in
    let f : [] ≡ i.planted.free = Chain-one idle_piece 0 [] i.planted.free refl i.planted.heap.chain in
    let w = r.all 1 (subst (λ x. handed idle_piece x 1 ≡ 1) f refl) in
    alone w.0 w.1
  where
    alone : (js : List ℕ) → Leads idle_piece 0 js 1 → ⊥
    alone [] w = apart 1 0 (lit< tt) w
    alone (j ∷ js) w = apart 1 0 (lit< tt) w.0

pub free-root : (es : List (ℕ × ℕ)) → IsIndex freed es → ⊥
free-root es i =
    let r = rules freed 0 es refl i in
    let f : 0 ∷ [] ≡ i.planted.free = Chain-one freed 1 (0 ∷ []) i.planted.free (refl, refl) i.planted.heap.chain in
    let out : handed freed (0 ∷ []) 0 ≡ 1 = subst (λ x. handed freed x 0 ≡ 1) (sym f) (r.named [] 0 refl) in
    apart 1 0 (lit< tt) out

pub full-by-one : (es : List (ℕ × ℕ)) → IsIndex too_many es → ⊥
full-by-one es i =
    let few : length es ≤ 14 = i.few in
    let count : 15 ≡ length es = i.count in
    omega arith

pub leaf-of-32 : (es : List (ℕ × ℕ)) → IsIndex crowded es → ⊥
leaf-of-32 es i =
    let r = rules crowded 0 es refl i in
    let few : 32 ≤ 31 = r.most [] 0 refl in
    omega arith

pub one-child : (es : List (ℕ × ℕ)) → IsIndex one_child es → ⊥
one-child es i =
    let r = rules one_child 1 es refl i in
    let some : 1 ≤ 0 = r.root_least refl in
    omega arith

pub keys-crossed : (es : List (ℕ × ℕ)) → IsIndex crossed es → ⊥
keys-crossed es i =
    let r = rules crossed 3 es refl i in
    let less : 30 < 15 = r.rising [] 3 0 refl (lit< tt) in
    omega arith

pub inner-of-15 : (es : List (ℕ × ℕ)) → IsIndex (three_levels 15) es → ⊥
inner-of-15 es i =
    let r = rules (three_levels 15) 32 es refl i in
    let few : 15 ≤ 14 = r.least 0 [] 30 (refl, lit≤ tt, refl) in
    omega arith

-- Look-ups and changes of a list of pairs in parts.
use Rattle.std.proofs.Common.{◌≡◌, ℕ, ◌<◌, ◌≤◌, true, false, cond, List, [], ◌∷◌, ◌++◌, Some, None, refl, ap, ◌∙◌, eqb, ltb, arith}
use Rattle.std.proofs.lemmas.List.Elements.{All-head, All-tail}
use Rattle.std.proofs.lemmas.Bool.Decides.{nat_tests}
use Rattle.envy_btree.specs.Pairs.{assoc, with_pair, without, Below, Above}

pub eqb-lt : (a b : ℕ) → a < b → eqb a b ≡ false
eqb-lt a b h = grind (arith, nat_tests)

pub eqb-gt : (a b : ℕ) → b < a → eqb a b ≡ false
eqb-gt a b h = grind (arith, nat_tests)

pub eqb-same : (a : ℕ) → eqb a a ≡ true
eqb-same a = grind (arith, nat_tests)

pub ltb-lt : (a b : ℕ) → a < b → ltb a b ≡ true
ltb-lt a b h = grind (arith, nat_tests)

pub ltb-ge : (a b : ℕ) → b ≤ a → ltb a b ≡ false
ltb-ge a b h = grind (arith, nat_tests)

pub assoc-below : (key : ℕ) (es fs : List (ℕ × ℕ)) → Below key es → assoc key (es ++ fs) ≡ assoc key fs
assoc-below key [] fs b = refl
assoc-below key (e ∷ es) fs b = rw (eqb-lt e.0 key (All-head (λ (x : ℕ × ℕ). x.0 < key) e es b)) (assoc-below key es fs (All-tail (λ (x : ℕ × ℕ). x.0 < key) e es b))

pub assoc-none : (key : ℕ) (fs : List (ℕ × ℕ)) → Above key fs → assoc key fs ≡ None
assoc-none key [] b = refl
assoc-none key (e ∷ es) b = rw (eqb-gt e.0 key (All-head (λ (x : ℕ × ℕ). key < x.0) e es b)) (assoc-none key es (All-tail (λ (x : ℕ × ℕ). key < x.0) e es b))

pub assoc-above : (key : ℕ) (es fs : List (ℕ × ℕ)) → Above key fs → assoc key (es ++ fs) ≡ assoc key es
assoc-above key [] fs b = assoc-none key fs b
assoc-above key (e ∷ es) fs b = elim (eqb e.0 key) as (λ x. cond x (Some e.1) (assoc key (es ++ fs)) ≡ cond x (Some e.1) (assoc key es)) [ true ↦ refl | false ↦ assoc-above key es fs b ]

pub with_pair-below : (key value : ℕ) (es fs : List (ℕ × ℕ)) → Below key es → with_pair key value (es ++ fs) ≡ es ++ with_pair key value fs
with_pair-below key value [] fs b = refl
with_pair-below key value (e ∷ es) fs b = rw (ltb-lt e.0 key (All-head (λ (x : ℕ × ℕ). x.0 < key) e es b)) (ap (λ x. e ∷ x) (with_pair-below key value es fs (All-tail (λ (x : ℕ × ℕ). x.0 < key) e es b)))

pub with_pair-first : (key value : ℕ) (fs : List (ℕ × ℕ)) → Above key fs → with_pair key value fs ≡ (key, value) ∷ fs
with_pair-first key value [] b = refl
with_pair-first key value (e ∷ es) b =
    let lt : key < e.0 = All-head (λ (x : ℕ × ℕ). key < x.0) e es b in
    rw (ltb-ge e.0 key (omega arith), eqb-gt e.0 key lt) refl

pub with_pair-above : (key value : ℕ) (es fs : List (ℕ × ℕ)) → Above key fs → with_pair key value (es ++ fs) ≡ with_pair key value es ++ fs
with_pair-above key value [] fs b = with_pair-first key value fs b
with_pair-above key value (e ∷ es) fs b =
    elim (ltb e.0 key) as (λ x. cond x (e ∷ with_pair key value (es ++ fs)) (cond (eqb e.0 key) ((key, value) ∷ (es ++ fs)) ((key, value) ∷ e ∷ (es ++ fs))) ≡ cond x (e ∷ with_pair key value es) (cond (eqb e.0 key) ((key, value) ∷ es) ((key, value) ∷ e ∷ es)) ++ fs) [
      | true ↦ ap (λ x. e ∷ x) (with_pair-above key value es fs b)
      | false ↦ elim (eqb e.0 key) as (λ x. cond x ((key, value) ∷ (es ++ fs)) ((key, value) ∷ e ∷ (es ++ fs)) ≡ cond x ((key, value) ∷ es) ((key, value) ∷ e ∷ es) ++ fs) [ true ↦ refl | false ↦ refl ]
    ]

-- the key's pair stands between pairs of smaller and of greater keys
pub assoc-here : (key value : ℕ) (es fs : List (ℕ × ℕ)) → Below key es → assoc key (es ++ (key, value) ∷ fs) ≡ Some value
assoc-here key value es fs b = assoc-below key es ((key, value) ∷ fs) b ∙ rw (eqb-same key) refl

pub with_pair-here : (key value old : ℕ) (es fs : List (ℕ × ℕ)) → Below key es → with_pair key value (es ++ (key, old) ∷ fs) ≡ es ++ (key, value) ∷ fs
with_pair-here key value old es fs b = with_pair-below key value es ((key, old) ∷ fs) b ∙ ap (λ x. es ++ x) (rw (ltb-ge key key (omega arith), eqb-same key) refl)

pub with_pair-new : (key value : ℕ) (es fs : List (ℕ × ℕ)) → Below key es → Above key fs → with_pair key value (es ++ fs) ≡ es ++ (key, value) ∷ fs
with_pair-new key value es fs b a = with_pair-below key value es fs b ∙ ap (λ x. es ++ x) (with_pair-first key value fs a)

pub without-below : (key : ℕ) (es fs : List (ℕ × ℕ)) → Below key es → without key (es ++ fs) ≡ es ++ without key fs
without-below key [] fs b = refl
without-below key (e ∷ es) fs b = rw (eqb-lt e.0 key (All-head (λ (x : ℕ × ℕ). x.0 < key) e es b)) (ap (λ x. e ∷ x) (without-below key es fs (All-tail (λ (x : ℕ × ℕ). x.0 < key) e es b)))

pub without-none : (key : ℕ) (fs : List (ℕ × ℕ)) → Above key fs → without key fs ≡ fs
without-none key [] b = refl
without-none key (e ∷ es) b = rw (eqb-gt e.0 key (All-head (λ (x : ℕ × ℕ). key < x.0) e es b)) (ap (λ x. e ∷ x) (without-none key es (All-tail (λ (x : ℕ × ℕ). key < x.0) e es b)))

pub without-above : (key : ℕ) (es fs : List (ℕ × ℕ)) → Above key fs → without key (es ++ fs) ≡ without key es ++ fs
without-above key [] fs b = without-none key fs b
without-above key (e ∷ es) fs b = elim (eqb e.0 key) as (λ x. cond x (es ++ fs) (e ∷ without key (es ++ fs)) ≡ cond x es (e ∷ without key es) ++ fs) [ true ↦ refl | false ↦ ap (λ x. e ∷ x) (without-above key es fs b) ]

-- Heats count flushes until they are halved.
use Rattle.std.proofs.Common.{◌≡◌, ℕ, ◌+◌, ◌/◌, ◌<◌, ◌==◌, false, cond, List, [], ◌∷◌, length, map, fold, count_by, slice_index, get_or, set, inl, inr, refl, sym, ap, subst, ◌∙◌, arith}
use Rattle.std.proofs.lemmas.Bool.Decides.{nat_tests}
use Rattle.std.proofs.lemmas.Bool.{cases_eq, eq-eqb, ne_eqb}
use Rattle.std.proofs.lemmas.List.{get_or-set_same, get_or-set_other, get_or-map, length-set}
use Rattle.std.proofs.lemmas.List.Sums.{sum_by-cons}
use Rattle.envy_policy.specs.History.{History, partition_of, flushed, warmed}

-- one flush more, before the 1,024th
flushed-warm : (h : History) (p : ℕ) → h.flushes + 1 < 1024 → flushed h p ≡ warmed h p
flushed-warm h p few = grind (arith, nat_tests)

-- the 1,024th
flushed-half : (h : History) (p : ℕ) → h.flushes + 1 ≡ 1024 → (flushed h p).heats ≡ map (λ x. x / 2) (warmed h p).heats
flushed-half h p last = grind (arith, nat_tests)

-- where it falls and elsewhere
raised : (xs : List ℕ) (k g : ℕ) → g < length xs → get_or (set xs k (get_or xs k 0 + 1)) g 0 ≡ get_or xs g 0 + cond (k == g) 1 0
raised xs k g in_count = elim (cases_eq k g) [
  | inl same ↦ subst (λ (j : ℕ). get_or (set xs j (get_or xs j 0 + 1)) g 0 ≡ get_or xs g 0 + cond (j == g) 1 0) (sym same) (get_or-set_same xs g (get_or xs g 0 + 1) 0 in_count ∙ ap (λ b. get_or xs g 0 + cond b 1 0) (sym (eq-eqb g g refl)))
  | inr other ↦ let no : (k == g) ≡ false = ne_eqb k g other in rw (no, get_or-set_other xs k g (get_or xs k 0 + 1) 0 (λ e. other (sym e))) (omega arith)
]

counts-cons : (h : History) (p : ℕ) (ps : List ℕ) (g : ℕ) → count_by (λ q. partition_of h q == g) (p ∷ ps) ≡ cond (partition_of h p == g) 1 0 + count_by (λ q. partition_of h q == g) ps
counts-cons h p ps g = sum_by-cons (λ (q : ℕ). cond (partition_of h q == g) 1 0) p ps

warm-in : (h : History) (p g : ℕ) → g < length h.heats → g < length (warmed h p).heats
warm-in h p g in_count = omega (arith, length-set h.heats (partition_of h p) (slice_index h.heats (partition_of h p) + 1))

-- between two halvings a heat rises by the flushes into its partition
pub counts : (h : History) (ps : List ℕ) (g : ℕ) → g < length h.heats → h.flushes + length ps < 1024 → slice_index (fold flushed h ps).heats g ≡ slice_index h.heats g + count_by (λ p. partition_of h p == g) ps
counts h [] g in_count few = omega arith
counts h (p ∷ ps) g in_count few =
    let warm = flushed-warm h p (omega arith) in
    let here = raised h.heats (partition_of h p) g in_count in
    let rest = counts (warmed h p) ps g (warm-in h p g in_count) (omega arith) in
    let more = counts-cons h p ps g in
    subst (λ (k : History). slice_index (fold flushed k ps).heats g ≡ slice_index h.heats g + count_by (λ q. partition_of h q == g) (p ∷ ps)) (sym warm) (omega (arith, rest, here, more))

-- and at one it is halved
pub halves : (h : History) (ps : List ℕ) (g : ℕ) → g < length h.heats → h.flushes < 1024 → h.flushes + length ps ≡ 1024 → slice_index (fold flushed h ps).heats g ≡ (slice_index h.heats g + count_by (λ p. partition_of h p == g) ps) / 2
halves h [] g in_count few all = absurd (omega arith)
halves h (p ∷ []) g in_count few all =
    let here = raised h.heats (partition_of h p) g in_count in
    let half = ap (λ (xs : List ℕ). slice_index xs g) (flushed-half h p (omega arith)) ∙ get_or-map (λ x. x / 2) (warmed h p).heats g 0 0 (warm-in h p g in_count) in
    let more = counts-cons h p [] g in
    half ∙ ap (λ (x : ℕ). x / 2) (omega (arith, here, more))
halves h (p ∷ q ∷ ps) g in_count few all =
    let warm = flushed-warm h p (omega arith) in
    let here = raised h.heats (partition_of h p) g in_count in
    let rest = halves (warmed h p) (q ∷ ps) g (warm-in h p g in_count) (omega arith) (omega arith) in
    let more = counts-cons h p (q ∷ ps) g in
    subst (λ (k : History). slice_index (fold flushed k (q ∷ ps)).heats g ≡ (slice_index h.heats g + count_by (λ r. partition_of h r == g) (p ∷ q ∷ ps)) / 2) (sym warm) (rest ∙ ap (λ (x : ℕ). x / 2) (omega (arith, here, more)))

-- What taking a piece and giving one back make of a heap.
use Rattle.std.proofs.Common.{◌≡◌, ◌≢◌, ℕ, ◌+◌, ◌-◌, ◌<◌, ◌≤◌, Bool, true, false, List, [], ◌∷◌, length, get_or, set, refl, ap, sym, subst, ◌∙◌, inl, inr, eqb, ltb, arith, replicate}
use Rattle.std.proofs.lemmas.List.{get_or-set_same, get_or-set_other, length-set, get_or-replicate, get_or_past, length-replicate}
use Rattle.std.proofs.lemmas.List.Sums.{sum_by-cons}
use Rattle.std.proofs.lemmas.Bool.{cases_eq, cases_lt}
use Rattle.std.proofs.lemmas.Bool.Decides.{nat_tests}
use Rattle.envy_heap.specs.Pieces.{pieces, head, at, one, times, Chain, IsHeap, handed, Takes, IsExhausted, Freed, spare}

pub one-le : (b : Bool) → one b ≤ 1
one-le true = omega arith
one-le false = omega arith

pub one-same : (p : ℕ) → one (eqb p p) ≡ 1
one-same p = grind (arith, nat_tests)

pub one-apart : (p q : ℕ) → p ≢ q → one (eqb p q) ≡ 0
one-apart p q ne = grind (arith, nat_tests)

pub one-lt : (p u : ℕ) → p < u → one (ltb p u) ≡ 1
one-lt p u h = grind (arith, nat_tests)

pub one-ge : (p u : ℕ) → u ≤ p → one (ltb p u) ≡ 0
one-ge p u h = grind (arith, nat_tests)

pub lt-one : (p u : ℕ) → 1 ≤ one (ltb p u) → p < u
lt-one p u h = elim (cases_lt p u) [ inl lt ↦ lt | inr le ↦ absurd (omega (arith, one-ge p u le)) ]

pub times-cons : (q : ℕ) (ps : List ℕ) (p : ℕ) → times (q ∷ ps) p ≡ one (eqb p q) + times ps p
times-cons q ps p = sum_by-cons (λ x. one (eqb p x)) q ps

-- the chain reads nothing but the first words of its pieces
pub Chain-same : (old new : List ℕ) (link : ℕ) (ps : List ℕ) → ((p : ℕ) → 1 ≤ times ps p → get_or new (head p) 0 ≡ get_or old (head p) 0) → Chain old link ps → Chain new link ps
Chain-same old new link [] same c = c
Chain-same old new link (p ∷ ps) same c =
    let here : get_or new (head p) 0 ≡ get_or old (head p) 0 = same p (omega (arith, times-cons p ps p, one-same p)) in
    (c.0, subst (λ x. Chain new x ps) (sym here) (Chain-same old new (get_or old (head p) 0) ps (λ q h. same q (omega (arith, times-cons p ps q))) c.1))

-- a piece that is free or handed out lies within the words
pub within : (ws free : List ℕ) (p : ℕ) → IsHeap ws free → p < get_or ws 2 0 → (at p 63 < length ws) × (p < pieces ws)
within ws free p h lt = (omega (arith, h.used, h.size), omega (arith, h.used))

-- a free piece has been handed out before
pub free-below : (ws free : List ℕ) (p : ℕ) → IsHeap ws free → 1 ≤ times free p → p < get_or ws 2 0
free-below ws free p h some = lt-one p (get_or ws 2 0) (omega (arith, h.once p))

-- the first free piece
pub first-free : (ws free : List ℕ) → IsHeap ws free → 0 < get_or ws 1 0 → (rest : List ℕ) × (free ≡ ((get_or ws 1 0 - 1) ∷ rest)) × Chain ws (get_or ws (head (get_or ws 1 0 - 1)) 0) rest
first-free ws [] h lt = absurd (omega (arith, h.chain))
first-free ws (p ∷ ps) h lt =
    let e : p ≡ get_or ws 1 0 - 1 = omega (arith, h.chain.0) in
    (ps, ap (λ x. x ∷ ps) e, subst (λ x. Chain ws (get_or ws (head x) 0) ps) e h.chain.1)

-- the first free piece is within the array
pub link-within : (ws free : List ℕ) → IsHeap ws free → 0 < get_or ws 1 0 → (at (get_or ws 1 0 - 1) 63 < length ws) × (get_or ws 1 0 - 1 < pieces ws)
link-within ws free h lt =
    let f = first-free ws free h lt in
    let p : ℕ = get_or ws 1 0 - 1 in
    let some : 1 ≤ times free p = subst (λ x. 1 ≤ times x p) (sym f.1) (omega (arith, times-cons p f.0 p, one-same p)) in
    within ws free p h (free-below ws free p h some)

taken : (ws : List ℕ) (p : ℕ) (rest : List ℕ) (next : ℕ) → IsHeap ws (p ∷ rest) → next ≡ get_or ws (head p) 0 → Takes p ws (set ws 1 next) (p ∷ rest) rest
taken ws p rest next h e =
    let used : get_or (set ws 1 next) 2 0 ≡ get_or ws 2 0 = get_or-set_other ws 1 2 next 0 (omega arith) in
    let long : length (set ws 1 next) ≡ length ws = length-set ws 1 next in
    let here : get_or (set ws 1 next) 1 0 ≡ next = get_or-set_same ws 1 next 0 (omega (arith, h.size)) in
    let below : p < get_or ws 2 0 = free-below ws (p ∷ rest) p h (omega (arith, times-cons p rest p, one-same p)) in
    record {
      heap = record {
        size = omega (arith, h.size);
        used = omega (arith, h.used);
        chain = subst (λ x. Chain (set ws 1 next) x rest) (sym (here ∙ e)) (Chain-same ws (set ws 1 next) (get_or ws (head p) 0) rest (λ q _. get_or-set_other ws 1 (head q) next 0 (let ne : head q ≢ 1 = omega arith in ne)) h.chain.1);
        once = λ q. subst (λ u. times rest q ≤ one (ltb q u)) (sym used) (omega (arith, h.once q, times-cons p rest q));
      };
      below = omega (arith, h.used);
      was = omega (arith, h.once p, times-cons p rest p, one-same p, one-le (ltb p (get_or ws 2 0)));
      now = λ q. subst (λ u. one (ltb q u) - times rest q ≡ (one (ltb q (get_or ws 2 0)) - times (p ∷ rest) q) + one (eqb q p)) (sym used) (omega (arith, h.once q, times-cons p rest q));
      spares = omega (arith, long, used);
      touches = record { long = long; others = λ a n1 n2 n3. get_or-set_other ws 1 a next 0 n1 };
    }

-- taking the first free piece
pub Takes-first : (ws free : List ℕ) (p next : ℕ) → IsHeap ws free → 0 < get_or ws 1 0 → p ≡ get_or ws 1 0 - 1 → next ≡ get_or ws (head p) 0 → (rest : List ℕ) × Takes p ws (set ws 1 next) free rest
Takes-first ws free p next h lt is e =
    let f = first-free ws free h lt in
    let whole : free ≡ p ∷ f.0 = f.1 ∙ ap (λ x. x ∷ f.0) (sym is) in
    (f.0, subst (λ x. Takes p ws (set ws 1 next) x f.0) (sym whole) (taken ws p f.0 next (subst (λ x. IsHeap ws x) whole h) e))

none-free : (ws free : List ℕ) → IsHeap ws free → get_or ws 1 0 ≡ 0 → free ≡ []
none-free ws [] h e = refl
none-free ws (p ∷ ps) h e = absurd (omega (arith, h.chain.0))

grown : (ws : List ℕ) (p : ℕ) → IsHeap ws [] → get_or ws 1 0 ≡ 0 → p ≡ get_or ws 2 0 → p < pieces ws → Takes p ws (set ws 2 (p + 1)) [] []
grown ws p h e is lt =
    let used : get_or (set ws 2 (p + 1)) 2 0 ≡ p + 1 = get_or-set_same ws 2 (p + 1) 0 (omega (arith, h.size)) in
    let long : length (set ws 2 (p + 1)) ≡ length ws = length-set ws 2 (p + 1) in
    record {
      heap = record {
        size = omega (arith, h.size);
        used = omega arith;
        chain = get_or-set_other ws 2 1 (p + 1) 0 (omega arith) ∙ e;
        once = λ q. omega arith;
      };
      below = lt;
      was = omega (arith, one-ge p (get_or ws 2 0) (omega arith));
      now = λ q. subst (λ u. one (ltb q u) - 0 ≡ (one (ltb q (get_or ws 2 0)) - 0) + one (eqb q p)) (sym used) (subst (λ u. one (ltb q (p + 1)) - 0 ≡ (one (ltb q u) - 0) + one (eqb q p)) is (step p q));
      spares = omega (arith, long, used, h.used);
      touches = record { long = long; others = λ a n1 n2 n3. get_or-set_other ws 2 a (p + 1) 0 n2 };
    }
  where
    step : (p q : ℕ) → one (ltb q (p + 1)) - 0 ≡ (one (ltb q p) - 0) + one (eqb q p)
    step p q = grind (arith, nat_tests)

-- taking one that was never handed out
pub Takes-new : (ws free : List ℕ) (p : ℕ) → IsHeap ws free → get_or ws 1 0 ≡ 0 → p ≡ get_or ws 2 0 → p ≢ pieces ws → (rest : List ℕ) × Takes p ws (set ws 2 (p + 1)) free rest
Takes-new ws free p h e is ne =
    let whole : free ≡ [] = none-free ws free h e in
    let lt : p < pieces ws = omega (arith, h.used) in
    ([], subst (λ x. Takes p ws (set ws 2 (p + 1)) x []) (sym whole) (grown ws p (subst (λ x. IsHeap ws x) whole h) e is lt))

pub Exhausted : (ws free : List ℕ) → IsHeap ws free → get_or ws 1 0 ≡ 0 → get_or ws 2 0 ≡ pieces ws → IsExhausted ws free
Exhausted ws free h e all p lt =
    let none : times free p ≡ 0 = ap (λ x. times x p) (none-free ws free h e) in
    omega (arith, one-lt p (get_or ws 2 0) (omega arith))

-- giving a piece back
pub Freed-given : (ws free : List ℕ) (p link : ℕ) → IsHeap ws free → handed ws free p ≡ 1 → link ≡ get_or ws 1 0 → Freed p ws (set (set ws (head p) link) 1 (p + 1)) free
Freed-given ws free p link h out e =
    let new : List ℕ = set (set ws (head p) link) 1 (p + 1) in
    let below : p < get_or ws 2 0 = lt-one p (get_or ws 2 0) (omega arith) in
    let inside : at p 63 < length ws = (within ws free p h below).0 in
    let unfree : times free p ≡ 0 = omega (arith, one-le (ltb p (get_or ws 2 0))) in
    let mid_long : length (set ws (head p) link) ≡ length ws = length-set ws (head p) link in
    let long : length new ≡ length ws = length-set (set ws (head p) link) 1 (p + 1) ∙ mid_long in
    let other : (a : ℕ) → a ≢ 1 → a ≢ head p → get_or new a 0 ≡ get_or ws a 0 = λ a n1 n2. get_or-set_other (set ws (head p) link) 1 a (p + 1) 0 n1 ∙ get_or-set_other ws (head p) a link 0 n2 in
    let used : get_or new 2 0 ≡ get_or ws 2 0 = other 2 (omega arith) (omega arith) in
    let first : get_or new 1 0 ≡ p + 1 = get_or-set_same (set ws (head p) link) 1 (p + 1) 0 (omega (arith, h.size)) in
    let next : get_or new (head p) 0 ≡ link = get_or-set_other (set ws (head p) link) 1 (head p) (p + 1) 0 (let ne : head p ≢ 1 = omega arith in ne) ∙ get_or-set_same ws (head p) link 0 (omega arith) in
    record {
      heap = record {
        size = omega (arith, h.size);
        used = omega (arith, h.used);
        chain = (first, subst (λ x. Chain new x free) (sym (next ∙ e)) (Chain-same ws new (get_or ws 1 0) free (λ q some. other (head q) (omega arith) (apart q some)) h.chain));
        once = λ q. subst (λ u. times (p ∷ free) q ≤ one (ltb q u)) (sym used) (bound q);
      };
      spares = omega (arith, used, long, h.used);
      now = λ q. subst (λ u. (one (ltb q u) - times (p ∷ free) q) + one (eqb q p) ≡ one (ltb q (get_or ws 2 0)) - times free q) (sym used) (omega (arith, bound q, times-cons p free q));
      touches = record { long = long; others = λ a n1 n2 n3. other a n1 n3 };
    }
  where
    apart : (q : ℕ) → 1 ≤ times free q → head q ≢ head p
    apart q some same =
        let e : q ≡ p = omega arith in
        let zero : times free q ≡ 0 = subst (λ x. times free x ≡ 0) (sym e) (let z : times free p ≡ 0 = omega (arith, one-le (ltb p (get_or ws 2 0))) in z) in
        absurd (omega arith)

    bound : (q : ℕ) → times (p ∷ free) q ≤ one (ltb q (get_or ws 2 0))
    bound q = elim (cases_eq q p) [
      | inl e ↦ subst (λ x. times (p ∷ free) x ≤ one (ltb x (get_or ws 2 0))) (sym e) (omega (arith, times-cons p free p, one-same p, one-le (ltb p (get_or ws 2 0))))
      | inr ne ↦ omega (arith, times-cons p free q, one-apart q p ne, h.once q)
    ]

-- where all are handed out, none is spare
pub exhausted-spare : (ws free : List ℕ) → IsHeap ws free → IsExhausted ws free → spare ws free ≡ 0
exhausted-spare ws free h all = omega (arith, h.used, used-all ws free h all, free-none ws free h all)
  where
    used-all : (ws free : List ℕ) → IsHeap ws free → IsExhausted ws free → pieces ws ≤ get_or ws 2 0
    used-all ws free h all = elim (cases_lt (get_or ws 2 0) (pieces ws)) [
      | inl lt ↦ absurd (omega (arith, all (get_or ws 2 0) lt, one-ge (get_or ws 2 0) (get_or ws 2 0) (omega arith)))
      | inr ge ↦ ge
    ]

    free-none : (ws free : List ℕ) → IsHeap ws free → IsExhausted ws free → length free ≡ 0
    free-none ws [] h all = refl
    free-none ws (p ∷ ps) h all =
        let some : 1 ≤ times (p ∷ ps) p = omega (arith, times-cons p ps p, one-same p) in
        let lt : p < get_or ws 2 0 = free-below ws (p ∷ ps) p h some in
        absurd (omega (arith, all p (omega (arith, h.used)), one-le (ltb p (get_or ws 2 0))))

-- the words tell which pieces are free
pub Chain-one : (ws : List ℕ) (link : ℕ) (ps qs : List ℕ) → Chain ws link ps → Chain ws link qs → ps ≡ qs
Chain-one ws link [] [] c d = refl
Chain-one ws link [] (q ∷ qs) c d = absurd (omega (arith, c, d.0))
Chain-one ws link (p ∷ ps) [] c d = absurd (omega (arith, c.0, d))
Chain-one ws link (p ∷ ps) (q ∷ qs) c d =
    let e : q ≡ p = omega (arith, c.0, d.0) in
    let rest : ps ≡ qs = Chain-one ws (get_or ws (head p) 0) ps qs c.1 (subst (λ x. Chain ws (get_or ws (head x) 0) qs) e d.1) in
    ap (λ x. x ∷ ps) (sym e) ∙ ap (λ x. q ∷ x) rest

-- words that are all 0 are a heap, of which no piece is handed out
abbrev pub zeros : ℕ → List ℕ
zeros n = replicate n 0

pub zero-at : (n i : ℕ) → get_or (zeros n) i 0 ≡ 0
zero-at n i = elim (cases_lt i n) [
  | inl lt ↦ get_or-replicate n i 0 0 lt
  | inr ge ↦ get_or_past (zeros n) i 0 (omega (arith, length-replicate {A = ℕ} n 0))
]

pub IsHeap-zeros : (n : ℕ) → 640 ≤ n → IsHeap (zeros n) []
IsHeap-zeros n le = record {
  size = omega (arith, length-replicate {A = ℕ} n 0);
  used = omega (arith, zero-at n 2);
  chain = zero-at n 1;
  once = λ q. omega arith;
}

pub handed-zeros : (n p : ℕ) → handed (zeros n) [] p ≡ 0
handed-zeros n p = omega (arith, zero-at n 2, one-ge p (get_or (zeros n) 2 0) (omega (arith, zero-at n 2)))

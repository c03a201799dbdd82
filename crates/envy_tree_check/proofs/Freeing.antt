-- The free list as it is walked, and its marks.
use Rattle.std.proofs.Common.{◌≡◌, ◌≢◌, ◌⊎◌, ℕ, zero, suc, ◌+◌, ◌-◌, ◌<◌, ◌≤◌, Bool, true, false, List, [], ◌∷◌, ◌++◌, length, get_or, set, refl, ap, sym, subst, ◌∙◌, inl, inr, eqb, ltb, cond, arith}
use Rattle.std.proofs.lemmas.Bool.{cases_eq, cases_lt, cond-true, cond-false}
use Rattle.std.proofs.lemmas.List.{get_or-set_other, get_or-set_same, length-append, length-set}
use Rattle.std.proofs.lemmas.List.Sums.{sum_by-append}
use Rattle.envy_heap.specs.Pieces.{Chain, IsHeap, head, one, pieces, times}
use Rattle.envy_heap.proofs.Heaps.{Chain-one, free-below, one-apart, one-ge, one-lt, one-same, times-cons}
use Rattle.envy_btree.proofs.Counting.{handed-total}
use Rattle.envy_btree.proofs.Maps.{ltb-ge, ltb-lt}
use Rattle.envy_tree_check.specs.Faults.{HasNoList}
use Rattle.envy_tree_check.specs.Grown.{AreMarked, marked}

-- from one link these pieces lead to another
abbrev pub Ahead : List ℕ → ℕ → List ℕ → ℕ → Type 0
Ahead ws from [] link = from ≡ link
Ahead ws from (p ∷ ps) link = (from ≡ p + 1) × Ahead ws (get_or ws (head p) 0) ps link

pub ahead-chain : (ws : List ℕ) (from : ℕ) (ps : List ℕ) → Ahead ws from ps 0 → Chain ws from ps
ahead-chain ws from [] a = a
ahead-chain ws from (p ∷ ps) a = (a.0, ahead-chain ws (get_or ws (head p) 0) ps a.1)

pub ahead-more : (ws : List ℕ) (from : ℕ) (ps : List ℕ) (link p : ℕ) → Ahead ws from ps link → link ≡ p + 1 → Ahead ws from (ps ++ p ∷ []) (get_or ws (head p) 0)
ahead-more ws from [] link p a e = (a ∙ e, refl)
ahead-more ws from (q ∷ ps) link p a e = (a.0, ahead-more ws (get_or ws (head q) 0) ps link p a.1 e)

-- a chain goes on as it is walked
pub chain-split : (ws : List ℕ) (from : ℕ) (ps free : List ℕ) (link : ℕ) → Ahead ws from ps link → Chain ws from free → (rest : List ℕ) × Chain ws link rest × (free ≡ ps ++ rest)
chain-split ws from [] free link a c = (free, subst (λ x. Chain ws x free) a c, refl)
chain-split ws from (p ∷ ps) [] link a c = absurd (omega (arith, a.0, c))
chain-split ws from (p ∷ ps) (q ∷ qs) link a c =
    let e : q ≡ p = omega (arith, a.0, c.0) in
    let r = chain-split ws (get_or ws (head p) 0) ps qs link a.1 (subst (λ x. Chain ws (get_or ws (head x) 0) qs) e c.1) in
    (r.0, r.1, ap (λ x. x ∷ qs) e ∙ ap (λ x. p ∷ x) r.2)

pub times-append : (ps qs : List ℕ) (p : ℕ) → times (ps ++ qs) p ≡ times ps p + times qs p
times-append ps qs p = sum_by-append (λ q. one (eqb p q)) ps qs

-- No piece is twice in a chain

found : (ws : List ℕ) (link : ℕ) (ps : List ℕ) (p : ℕ) → Chain ws link ps → 1 ≤ times ps p → (rest : List ℕ) × Chain ws (get_or ws (head p) 0) rest × (length rest < length ps)
found ws link [] p c some = absurd (omega arith)
found ws link (q ∷ qs) p c some = go (cases_eq p q) (found ws (get_or ws (head q) 0) qs p c.1)
  where
    go : (p ≡ q) ⊎ (p ≢ q) → (1 ≤ times qs p → (rest : List ℕ) × Chain ws (get_or ws (head p) 0) rest × (length rest < length qs)) → (rest : List ℕ) × Chain ws (get_or ws (head p) 0) rest × (length rest < length (q ∷ qs))
    go (inl e) more = (qs, subst (λ x. Chain ws (get_or ws (head x) 0) qs) (sym e) c.1, omega arith)
    go (inr ne) more = let r = more (omega (arith, times-cons q qs p, one-apart p q ne)) in (r.0, r.1, omega (arith, r.2))

-- the first words of two of its pieces differ
apart-links : (ws : List ℕ) (link p q : ℕ) (ps : List ℕ) → Chain ws link (p ∷ ps) → 1 ≤ times ps q → get_or ws (head q) 0 ≢ get_or ws (head p) 0
apart-links ws link p q ps c some same =
    let r = found ws (get_or ws (head p) 0) ps q c.1 some in
    let e : r.0 ≡ ps = Chain-one ws (get_or ws (head p) 0) r.0 ps (subst (λ x. Chain ws x r.0) same r.1) c.1 in
    absurd (omega (arith, r.2, ap length e))

no-repeat : (ws : List ℕ) (link : ℕ) (ps : List ℕ) (p : ℕ) → Chain ws link ps → times ps p ≤ 1
no-repeat ws link [] p c = omega arith
no-repeat ws link (q ∷ qs) p c = go (cases_eq p q) (no-repeat ws (get_or ws (head q) 0) qs p c.1)
  where
    go : (p ≡ q) ⊎ (p ≢ q) → times qs p ≤ 1 → times (q ∷ qs) p ≤ 1
    go (inr ne) few = omega (arith, times-cons q qs p, one-apart p q ne)
    go (inl e) few = elim (cases_lt 0 (times qs p)) [
      | inl some ↦ absurd (apart-links ws link q p qs c some (ap (λ x. get_or ws (head x) 0) e))
      | inr none ↦ omega (arith, times-cons q qs p, subst (λ x. one (eqb p x) ≡ 1) e (one-same p))
    ]

pub heap-made : (ws ps : List ℕ) → 640 ≤ length ws → get_or ws 2 0 ≤ pieces ws → Chain ws (get_or ws 1 0) ps → ((q : ℕ) → 1 ≤ times ps q → q < get_or ws 2 0) → IsHeap ws ps
heap-made ws ps long used c below = record {
  size = long;
  used = used;
  chain = c;
  once = λ p. elim (cases_lt p (get_or ws 2 0)) [
    | inl lt ↦ omega (arith, no-repeat ws (get_or ws 1 0) ps p c, one-lt p (get_or ws 2 0) lt)
    | inr ge ↦ elim (cases_lt 0 (times ps p)) [ inl some ↦ absurd (omega (arith, below p some)) | inr none ↦ omega (arith, none) ]
  ];
}

pub free-few : (ws free : List ℕ) → IsHeap ws free → length free ≤ get_or ws 2 0
free-few ws free h = omega (arith, handed-total ws free h)

-- a link that no heap has
pub no-list-past : (ws ps free : List ℕ) (link : ℕ) → Ahead ws (get_or ws 1 0) ps link → get_or ws 2 0 < link → IsHeap ws free → ⊥
no-list-past ws ps free link a past h = go (chain-split ws (get_or ws 1 0) ps free link a h.chain)
  where
    go : (rest : List ℕ) × Chain ws link rest × (free ≡ ps ++ rest) → ⊥
    go ([], c, e) = absurd (omega (arith, c))
    go (p ∷ rest, c, e) =
        let some : 1 ≤ times free p = subst (λ x. 1 ≤ times x p) (sym e) (omega (arith, times-append ps (p ∷ rest) p, times-cons p rest p, one-same p)) in
        absurd (omega (arith, free-below ws free p h some, c.0))

-- a walk that is too long
pub no-list-long : (ws ps free : List ℕ) (link : ℕ) → Ahead ws (get_or ws 1 0) ps link → get_or ws 2 0 < length ps → IsHeap ws free → ⊥
no-list-long ws ps free link a long h =
    let r = chain-split ws (get_or ws 1 0) ps free link a h.chain in
    absurd (omega (arith, free-few ws free h, ap length r.2, length-append ps r.0))

-- The marks of a walk

abbrev pub marking : List ℕ → List ℕ → List ℕ → List ℕ
marking ws [] marks = marks
marking ws (p ∷ ps) marks = marking ws ps (marked (get_or ws (head p) 0) (p + 1) marks)

pub marking-more : (ws ps : List ℕ) (p : ℕ) (marks : List ℕ) → marking ws (ps ++ p ∷ []) marks ≡ marked (get_or ws (head p) 0) (p + 1) (marking ws ps marks)
marking-more ws [] p marks = refl
marking-more ws (q ∷ ps) p marks = marking-more ws ps p (marked (get_or ws (head q) 0) (q + 1) marks)

marked-few : (word mark : ℕ) (marks : List ℕ) → word < 64 → marked word mark marks ≡ set marks word mark
marked-few word mark marks lt = cond-true (ltb word 64) (set marks word mark) marks (ltb-lt word 64 lt)

marked-many : (word mark : ℕ) (marks : List ℕ) → 64 ≤ word → marked word mark marks ≡ marks
marked-many word mark marks ge = cond-false (ltb word 64) (set marks word mark) marks (ltb-ge word 64 ge)

pub marked-long : (word mark : ℕ) (marks : List ℕ) → length (marked word mark marks) ≡ length marks
marked-long word mark marks = elim (cases_lt word 64) [
  | inl lt ↦ ap length (marked-few word mark marks lt) ∙ length-set marks word mark
  | inr ge ↦ ap length (marked-many word mark marks ge)
]

pub marking-long : (ws ps marks : List ℕ) → length (marking ws ps marks) ≡ length marks
marking-long ws [] marks = refl
marking-long ws (p ∷ ps) marks = marking-long ws ps (marked (get_or ws (head p) 0) (p + 1) marks) ∙ marked-long (get_or ws (head p) 0) (p + 1) marks

marked-here : (word mark : ℕ) (marks : List ℕ) → length marks ≡ 64 → word < 64 → get_or (marked word mark marks) word 0 ≡ mark
marked-here word mark marks long lt = ap (λ x. get_or x word 0) (marked-few word mark marks lt) ∙ get_or-set_same marks word mark 0 (omega arith)

marked-there : (word mark i : ℕ) (marks : List ℕ) → i ≢ word → get_or (marked word mark marks) i 0 ≡ get_or marks i 0
marked-there word mark i marks ne = elim (cases_lt word 64) [
  | inl lt ↦ ap (λ x. get_or x i 0) (marked-few word mark marks lt) ∙ get_or-set_other marks word i mark 0 ne
  | inr ge ↦ ap (λ x. get_or x i 0) (marked-many word mark marks ge)
]

-- a place that no further piece has
untouched : (ws ps marks : List ℕ) (i : ℕ) → ((q : ℕ) → 1 ≤ times ps q → get_or ws (head q) 0 ≢ i) → get_or (marking ws ps marks) i 0 ≡ get_or marks i 0
untouched ws [] marks i other = refl
untouched ws (p ∷ ps) marks i other =
    untouched ws ps (marked (get_or ws (head p) 0) (p + 1) marks) i (λ q some. other q (omega (arith, times-cons p ps q)))
    ∙ marked-there (get_or ws (head p) 0) (p + 1) i marks (λ e. other p (omega (arith, times-cons p ps p, one-same p)) (sym e))

marks-all : (ws : List ℕ) (link : ℕ) (ps marks : List ℕ) (q : ℕ) → Chain ws link ps → length marks ≡ 64 → 1 ≤ times ps q → get_or ws (head q) 0 < 64 → get_or (marking ws ps marks) (get_or ws (head q) 0) 0 ≡ q + 1
marks-all ws link [] marks q c long some lt = absurd (omega arith)
marks-all ws link (p ∷ ps) marks q c long some lt =
    let next : List ℕ = marked (get_or ws (head p) 0) (p + 1) marks in
    go (cases_lt 0 (times ps q)) (λ more. marks-all ws (get_or ws (head p) 0) ps next q c.1 (marked-long (get_or ws (head p) 0) (p + 1) marks ∙ long) more lt)
  where
    here : q ≡ p → times ps q ≤ 0 → get_or (marking ws (p ∷ ps) marks) (get_or ws (head q) 0) 0 ≡ q + 1
    here e none =
        let word : ℕ = get_or ws (head p) 0 in
        let few : word < 64 = subst (λ x. get_or ws (head x) 0 < 64) e lt in
        let at_p : get_or (marking ws ps (marked word (p + 1) marks)) word 0 ≡ p + 1 = untouched ws ps (marked word (p + 1) marks) word (λ r more. apart-links ws link p r ps c more) ∙ marked-here word (p + 1) marks long few in
        subst (λ x. get_or (marking ws (p ∷ ps) marks) (get_or ws (head x) 0) 0 ≡ x + 1) (sym e) at_p

    go : (0 < times ps q) ⊎ (times ps q ≤ 0) → (1 ≤ times ps q → get_or (marking ws (p ∷ ps) marks) (get_or ws (head q) 0) 0 ≡ q + 1) → get_or (marking ws (p ∷ ps) marks) (get_or ws (head q) 0) 0 ≡ q + 1
    go (inl some') more = more some'
    go (inr none) more = elim (cases_eq q p) [
      | inl e ↦ here e none
      | inr ne ↦ absurd (omega (arith, times-cons p ps q, one-apart q p ne))
    ]

marks-free : (ws ps marks : List ℕ) (i q : ℕ) → length marks ≡ 64 → get_or (marking ws ps marks) i 0 ≡ q + 1 → (get_or marks i 0 ≡ q + 1) ⊎ (1 ≤ times ps q)
marks-free ws [] marks i q long e = inl e
marks-free ws (p ∷ ps) marks i q long e = go (marks-free ws ps (marked word (p + 1) marks) i q (marked-long word (p + 1) marks ∙ long) e)
  where
    word : ℕ
    word = get_or ws (head p) 0

    here : get_or (marked (get_or ws (head p) 0) (p + 1) marks) i 0 ≡ q + 1 → (get_or marks i 0 ≡ q + 1) ⊎ (1 ≤ times (p ∷ ps) q)
    here f = elim (cases_eq i (get_or ws (head p) 0)) [
      | inr ne ↦ inl (sym (marked-there (get_or ws (head p) 0) (p + 1) i marks ne) ∙ f)
      | inl same ↦ elim (cases_lt (get_or ws (head p) 0) 64) [
        | inr ge ↦ inl (sym (ap (λ x. get_or x i 0) (marked-many (get_or ws (head p) 0) (p + 1) marks ge)) ∙ f)
        | inl lt ↦
            let h : get_or (marked (get_or ws (head p) 0) (p + 1) marks) i 0 ≡ p + 1 = subst (λ x. get_or (marked (get_or ws (head p) 0) (p + 1) marks) x 0 ≡ p + 1) (sym same) (marked-here (get_or ws (head p) 0) (p + 1) marks long lt) in
            let is : q ≡ p = omega (arith, h, f) in
            inr (subst (λ x. 1 ≤ times (p ∷ ps) x) (sym is) (omega (arith, times-cons p ps p, one-same p)))
      ]
    ]

    go : (get_or (marked (get_or ws (head p) 0) (p + 1) marks) i 0 ≡ q + 1) ⊎ (1 ≤ times ps q) → (get_or marks i 0 ≡ q + 1) ⊎ (1 ≤ times (p ∷ ps) q)
    go (inl f) = here f
    go (inr some) = inr (omega (arith, times-cons p ps q))

pub are-marked : (ws : List ℕ) (link : ℕ) (ps marks : List ℕ) → Chain ws link ps → length marks ≡ 64 → ((i : ℕ) → get_or marks i 0 ≡ 0) → AreMarked ws ps (marking ws ps marks)
are-marked ws link ps marks c long blank = record {
  long = marking-long ws ps marks ∙ long;
  all = λ q some lt. marks-all ws link ps marks q c long some lt;
  freed = λ i q e. elim (marks-free ws ps marks i q long e) [ inl f ↦ absurd (omega (arith, blank i, f)) | inr some ↦ some ];
}

-- What a walk has seen.
pub record Walked (ws : List ℕ) (used : ℕ) (blank marks : List ℕ) (link count : ℕ) : Type 0 where
  pub seen : List ℕ
  pub ahead : Ahead ws (get_or ws 1 0) seen link
  pub long : length seen ≡ count
  pub below : (q : ℕ) → 1 ≤ times seen q → q < used
  pub made : marks ≡ marking ws seen blank

pub walked-none : (ws : List ℕ) (used : ℕ) (blank : List ℕ) (link : ℕ) → link ≡ get_or ws 1 0 → Walked ws used blank blank link 0
walked-none ws used blank link e = record { seen = []; ahead = sym e; long = refl; below = λ q some. absurd (omega arith); made = refl }

pub walked-more : (ws : List ℕ) (used : ℕ) (blank marks after : List ℕ) (link next count : ℕ) → Walked ws used blank marks link count → link ≢ 0 → link ≤ used → next ≡ get_or ws (head (link - 1)) 0 → after ≡ marked next link marks → Walked ws used blank after next (count + 1)
walked-more ws used blank marks after link next count w some few is is_made =
    let p : ℕ = link - 1 in
    let e : link ≡ p + 1 = omega arith in
    record {
      seen = w.seen ++ p ∷ [];
      ahead = subst (λ x. Ahead ws (get_or ws 1 0) (w.seen ++ p ∷ []) x) (sym is) (ahead-more ws (get_or ws 1 0) w.seen link p w.ahead e);
      long = omega (arith, length-append w.seen (p ∷ []), w.long);
      below = λ q more. elim (cases_lt 0 (times w.seen q)) [
        | inl old ↦ w.below q old
        | inr none ↦ elim (cases_eq q p) [
          | inl is' ↦ omega (arith, is')
          | inr ne ↦ absurd (omega (arith, times-append w.seen (p ∷ []) q, times-cons p [] q, one-apart q p ne))
        ]
      ];
      made = is_made ∙ ap (λ x. marked x link marks) is ∙ ap (λ x. marked (get_or ws (head p) 0) link x) w.made ∙ ap (λ x. marked (get_or ws (head p) 0) x (marking ws w.seen blank)) e ∙ sym (marking-more ws w.seen p blank);
    }

-- the walk ends: its pieces are the free ones
pub walked-all : (ws : List ℕ) (used : ℕ) (blank marks : List ℕ) (link count : ℕ) → Walked ws used blank marks link count → link ≡ 0 → 640 ≤ length ws → used ≡ get_or ws 2 0 → used ≤ pieces ws → length blank ≡ 64 → ((i : ℕ) → get_or blank i 0 ≡ 0) → (free : List ℕ) × IsHeap ws free × (length free ≡ count) × AreMarked ws free marks
walked-all ws used blank marks link count w e size is most long zeros =
    let c : Chain ws (get_or ws 1 0) w.seen = ahead-chain ws (get_or ws 1 0) w.seen (subst (λ x. Ahead ws (get_or ws 1 0) w.seen x) e w.ahead) in (
      w.seen,
      heap-made ws w.seen size (subst (λ x. x ≤ pieces ws) is most) c (λ q some. subst (λ x. q < x) is (w.below q some)),
      w.long,
      subst (λ x. AreMarked ws w.seen x) (sym w.made) (are-marked ws (get_or ws 1 0) w.seen blank c long zeros),
    )

-- A walk that no list of free pieces takes

pub walked-past : (ws : List ℕ) (used : ℕ) (blank marks : List ℕ) (link count : ℕ) → Walked ws used blank marks link count → used < link → 640 ≤ length ws → used ≡ get_or ws 2 0 → used ≤ pieces ws → HasNoList ws
walked-past ws used blank marks link count w past size is most = record {
  long = size;
  used = subst (λ x. x ≤ pieces ws) is most;
  none = λ free h. no-list-past ws w.seen free link w.ahead (subst (λ x. x < link) is past) h;
}

pub walked-long : (ws : List ℕ) (used : ℕ) (blank marks : List ℕ) (link count : ℕ) → Walked ws used blank marks link count → used < count → 640 ≤ length ws → used ≡ get_or ws 2 0 → used ≤ pieces ws → HasNoList ws
walked-long ws used blank marks link count w past size is most = record {
  long = size;
  used = subst (λ x. x ≤ pieces ws) is most;
  none = λ free h. no-list-long ws w.seen free link w.ahead (subst (λ x. x < length w.seen) is (subst (λ x. used < x) (sym w.long) past)) h;
}

-- More things than drawers: two lie in the same drawer.
use Rattle.std.proofs.Common.{◌≡◌, ◌≢◌, ◌⊎◌, ℕ, zero, suc, ◌-◌, ◌<◌, inl, inr, refl, sym, ◌∙◌, ap, arith}

-- two things lie in the same drawer
abbrev pub Shared : (ℕ → ℕ) → ℕ → Type 0
Shared drawer_of things = (one other : ℕ) × (one < other) × (other < things) × (drawer_of one ≡ drawer_of other)

same : (a b : ℕ) → (a ≡ b) ⊎ (a ≢ b)
same zero zero = inl refl
same zero (suc b) = inr (λ e. omega (arith, e))
same (suc a) zero = inr (λ e. omega (arith, e))
same (suc a) (suc b) = elim (same a b) [ inl e ↦ inl (ap suc e) | inr ne ↦ inr (λ e. ne (omega (arith, e))) ]

-- one of the first things lies in this drawer, or none does
among : (drawer_of : ℕ → ℕ) (drawer things : ℕ) → ((i : ℕ) × (i < things) × (drawer_of i ≡ drawer)) ⊎ ((i : ℕ) → i < things → drawer_of i ≢ drawer)
among drawer_of drawer zero = inr (λ i lt. absurd (omega (arith, lt)))
among drawer_of drawer (suc things) = elim (among drawer_of drawer things) [
  | inl found ↦ inl (found.0, (let lt = found.1 in omega arith), found.2)
  | inr none ↦ elim (same (drawer_of things) drawer) [
    | inl is ↦ inl (things, omega arith, is)
    | inr ne ↦ inr (λ i lt is. elim (same i things) [
      | inl last ↦ ne (ap drawer_of (sym last) ∙ is)
      | inr other ↦ none i (omega (arith, lt, other)) is
    ])
  ]
]

-- the number of a drawer once another one is gone
abbrev without : ℕ → ℕ → ℕ
without gone drawer = drawer - (1 - (1 - (drawer - gone)))

without-less : (gone drawer drawers : ℕ) → drawer ≢ gone → gone < suc drawers → drawer < suc drawers → without gone drawer < drawers
without-less gone drawer drawers ne in_all lt = omega (arith, ne, in_all, lt)

without-same : (gone a b : ℕ) → a ≢ gone → b ≢ gone → without gone a ≡ without gone b → a ≡ b
without-same gone a b p q e = omega (arith, p, q, e)

module _ (drawers things : ℕ) (drawer_of : ℕ → ℕ) (lie : (i : ℕ) → i < suc things → drawer_of i < suc drawers) where
  -- the last thing's drawer holds no other: without the two there are fewer of both
  alone : ((i : ℕ) → i < things → drawer_of i ≢ drawer_of things) → ((other : ℕ → ℕ) → ((i : ℕ) → i < things → other i < drawers) → Shared other things) → Shared drawer_of (suc things)
  alone none fewer =
      let last = lie things (omega arith) in
      let shared = fewer (λ i. without (drawer_of things) (drawer_of i)) (λ i lt. without-less (drawer_of things) (drawer_of i) drawers (none i lt) last (lie i (omega (arith, lt)))) in
      let before = shared.2 in
      let within = shared.3 in (
        shared.0,
        shared.1,
        before,
        omega (arith, within),
        without-same (drawer_of things) (drawer_of shared.0) (drawer_of shared.1) (none shared.0 (omega (arith, before, within))) (none shared.1 within) shared.4,
      )

pub two_share : (drawers things : ℕ) (drawer_of : ℕ → ℕ) → ((i : ℕ) → i < things → drawer_of i < drawers) → drawers < things → Shared drawer_of things
two_share drawers zero drawer_of lie more = absurd (omega (arith, more))
two_share zero (suc things) drawer_of lie more = absurd (let lt = lie 0 (omega arith) in omega (arith, lt))
two_share (suc drawers) (suc things) drawer_of lie more = elim (among drawer_of (drawer_of things) things) [
  | inl found ↦ (found.0, things, found.1, omega arith, found.2)
  | inr none ↦ alone drawers things drawer_of lie none (λ other least. two_share drawers things other least (omega (arith, more)))
]

-- Two choices for the same rows are one.
use Rattle.std.proofs.Common.{◌≡◌, ℕ, List, Option, None, Some, refl, sym, ap, ap₂, subst, slice_index, arith}
use Rattle.envy_policy.specs.declared.choice.Choice.{Choice}
use Rattle.envy_policy.specs.declared.choice.Choice.TheVariants.{Free, Clean}
use Rattle.envy_policy.specs.declared.setup.Victims.{Victims}
use Rattle.envy_policy.specs.declared.setup.Victims.TheVariants.{MostDead, InTurn}
use Rattle.envy_policy.specs.Setup.{victims_of}
use Rattle.envy_policy.specs.History.{History, partition_of}
use Rattle.envy_policy.specs.Choice.{IsLeast, IsMost, IsUsable, IsNeighbour, HasRows, IsVictim, IsAside, IsChoice, distance, steps}

-- there is one least
pub least-one : (P : ℕ → Type 0) (f : ℕ → ℕ) (x y : ℕ) → IsLeast P f x → IsLeast P f y → x ≡ y
least-one P f x y a b =
    let low = a.least y b.holds in
    let high = b.least x a.holds in
    let below = a.lowest y b.holds (omega arith) in
    let above = b.lowest x a.holds (omega arith) in
    omega arith

most-one : (P : ℕ → Type 0) (f : ℕ → ℕ) (x y : ℕ) → IsMost P f x → IsMost P f y → x ≡ y
most-one P f x y a b =
    let low = a.most y b.holds in
    let high = b.most x a.holds in
    let below = a.lowest y b.holds (omega arith) in
    let above = b.lowest x a.holds (omega arith) in
    omega arith

victim-one : (victims : Victims) (h : History) (dead : List ℕ) (g x y : ℕ) → IsVictim victims h dead g x → IsVictim victims h dead g y → x ≡ y
victim-one MostDead h dead g x y a b = most-one (HasRows h dead g) (slice_index dead) x y a b
victim-one InTurn h dead g x y a b = least-one (HasRows h dead g) (steps h g) x y a b

aside-one : (h : History) (g : ℕ) (a b : Option ℕ) → IsAside h g a → IsAside h g b → a ≡ b
aside-one h g None None a b = refl
aside-one h g None (Some y) a b = absurd (a b.0)
aside-one h g (Some x) None a b = absurd (b a.0)
aside-one h g (Some x) (Some y) a b = ap Some (least-one (IsNeighbour h g) (slice_index h.heats) x y a.1 b.1)

-- at most one choice meets the rules
pub choice-one : (h : History) (free dead : List ℕ) (home : ℕ) (a b : Choice) → IsChoice h free dead home a → IsChoice h free dead home b → a ≡ b
choice-one h free dead home (Free x) (Free y) a b =
    let g = least-one (IsUsable h free dead) (distance (partition_of h home)) (partition_of h x) (partition_of h y) a.0 b.0 in
    ap Free (least-one (HasRows h free (partition_of h x)) (λ k. k) x y a.1 (subst (λ (p : ℕ). IsLeast (HasRows h free p) (λ k. k) y) (sym g) b.1))
choice-one h free dead home (Free x) (Clean y aside) a b =
    let g = least-one (IsUsable h free dead) (distance (partition_of h home)) (partition_of h x) (partition_of h y) a.0 b.0 in
    absurd (b.1 x (g, a.1.holds.1))
choice-one h free dead home (Clean x aside) (Free y) a b =
    let g = least-one (IsUsable h free dead) (distance (partition_of h home)) (partition_of h x) (partition_of h y) a.0 b.0 in
    absurd (a.1 y (sym g, b.1.holds.1))
choice-one h free dead home (Clean x other) (Clean y another) a b =
    let g = least-one (IsUsable h free dead) (distance (partition_of h home)) (partition_of h x) (partition_of h y) a.0 b.0 in
    ap₂ Clean
    (victim-one (victims_of h.policy) h dead (partition_of h x) x y a.2 (subst (λ (p : ℕ). IsVictim (victims_of h.policy) h dead p y) (sym g) b.2))
    (aside-one h (partition_of h x) other another a.3 (subst (λ (p : ℕ). IsAside h p another) (sym g) b.3))

-- A choice is one of positions that there are, with rows.
use Rattle.std.proofs.Common.{◌≡◌, inl, inr, ℕ, ◌<◌, Bool, true, false, List, length, map, slice_index, Option, None, Some, refl, sym, subst, arith}
use Rattle.std.specs.Prelude.{◌==◌, ◌/◌, if◌then◌else◌}
use Rattle.std.proofs.Math.ListN.{length-set, length-map}
use Rattle.envy_policy.specs.declared.choice.Choice.{Choice}
use Rattle.envy_policy.specs.declared.choice.Choice.TheVariants.{Free, Clean}
use Rattle.envy_policy.specs.declared.setup.Victims.{Victims}
use Rattle.envy_policy.specs.declared.setup.Victims.TheVariants.{MostDead, InTurn}
use Rattle.envy_policy.specs.Setup.{victims_of}
use Rattle.envy_policy.specs.Choice.{IsChoice, IsWithin, IsLeast, IsMost, IsNearest, IsUsable, HasRows, IsVictim, IsAside}
use Rattle.envy_policy.specs.History.{History, SameSizes, warmed, flushed, claimed, cleaned, partition_of}
use Rattle.envy_policy.proofs.Choosing.{rows-below}

-- a victim has dead rows
pub victim-dead : (victims : Victims) (h : History) (dead : List ℕ) (g k : ℕ) → IsVictim victims h dead g k → 0 < slice_index dead k
victim-dead MostDead h dead g k is = let has = IsMost.holds is in has.1
victim-dead InTurn h dead g k is = let has = IsLeast.holds is in has.1

pub aside-below : (h : History) (g : ℕ) (aside : Option ℕ) → IsAside h g aside → (k : ℕ) → aside ≡ Some k → k < length h.heats
aside-below h g None is k e = cc
aside-below h g (Some other) is k e = let same : other ≡ k = cc in let near = IsLeast.holds is.1 in omega (arith, near.0)

-- and lies in its partition
victim-in : (victims : Victims) (h : History) (dead : List ℕ) (g k : ℕ) → IsVictim victims h dead g k → partition_of h k ≡ g
victim-in MostDead h dead g k is = (IsMost.holds is).0
victim-in InTurn h dead g k is = (IsLeast.holds is).0

-- a usable partition with no free row has a dead one
pub dead-left : (h : History) (free dead : List ℕ) (g : ℕ) → IsUsable h free dead g → ((k : ℕ) → HasRows h free g k → ⊥) → (k : ℕ) × HasRows h dead g k
dead-left h free dead g (k, inl has) none = absurd (none k has)
dead-left h free dead g (k, inr has) none = (k, has)

-- the lowest free row of the nearest partition is chosen,
pub chosen-free : (h : History) (free dead : List ℕ) (home g k : ℕ) → IsNearest h free dead home g → IsLeast (HasRows h free g) (λ x. x) k → IsChoice h free dead home (Free k)
chosen-free h free dead home g k near is =
    let own : g ≡ partition_of h k = sym is.holds.0 in
    (subst (λ (p : ℕ). IsNearest h free dead home p) own near, subst (λ (p : ℕ). IsLeast (HasRows h free p) (λ x. x) k) own is)

-- or else a victim
pub chosen-clean : (h : History) (free dead : List ℕ) (home g k : ℕ) (aside : Option ℕ) → IsNearest h free dead home g → ((x : ℕ) → HasRows h free g x → ⊥) → IsVictim (victims_of h.policy) h dead g k → IsAside h g aside → IsChoice h free dead home (Clean k aside)
chosen-clean h free dead home g k aside near none is beside =
    let own : partition_of h k ≡ g = victim-in (victims_of h.policy) h dead g k is in
    rw own (near, none, is, beside)

-- a choice names positions there are
pub within-choice : (h : History) (free dead : List ℕ) (home : ℕ) (choice : Choice) → length free ≡ h.positions → length dead ≡ h.positions → IsChoice h free dead home choice → IsWithin h free dead choice
within-choice h free dead home (Free k) long_free long_dead is =
    let has = IsLeast.holds is.1 in
    (rows-below free h.positions k long_free has.1, has.1)
within-choice h free dead home (Clean k aside) long_free long_dead is =
    let some = victim-dead (victims_of h.policy) h dead (partition_of h k) k is.2 in
    (rows-below dead h.positions k long_dead some, some, aside-below h (partition_of h k) aside is.3)

pub flushed-sizes : (h : History) (k : ℕ) → SameSizes h (flushed h k)
flushed-sizes h k = at ((warmed h k).flushes == 1024)
  where
    long : length (warmed h k).heats ≡ length h.heats
    long = simp length-set

    at : (b : Bool) → SameSizes h (if b then record (warmed h k) { heats = map (λ x. x / 2) (warmed h k).heats; flushes = 0 } else warmed h k)
    at true = record { policy = refl; pages = refl; positions = refl; heats = simp length-map long; turns = refl }
    at false = record { policy = refl; pages = refl; positions = refl; heats = long; turns = refl }

pub claimed-sizes : (h : History) (k page : ℕ) → SameSizes h (claimed h k page)
claimed-sizes h k page = let same = flushed-sizes h k in record { policy = same.policy; pages = same.pages; positions = same.positions; heats = same.heats; turns = same.turns }

pub cleaned-sizes : (h : History) (k : ℕ) → SameSizes h (cleaned h k)
cleaned-sizes h k = record { policy = refl; pages = refl; positions = refl; heats = refl; turns = simp length-set }

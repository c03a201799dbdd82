-- Under greedy all positions are one partition.
use Rattle.std.proofs.Common.{◌≡◌, ◌⊎◌, inl, inr, ℕ, ◌-◌, ◌/◌, ◌<◌, List, length, None, slice_index, refl, sym, ap, subst, arith}
use Rattle.std.proofs.Math.Nat.{div-eq_of_lt}
use Rattle.envy_policy.specs.declared.choice.Choice.TheVariants.{Free, Clean}
use Rattle.envy_policy.specs.declared.setup.Policy.{Policy}
use Rattle.envy_policy.specs.declared.setup.Policy.TheVariants.{Greedy}
use Rattle.envy_policy.specs.Setup.{run_of}
use Rattle.envy_policy.specs.History.{History, IsHistory, run, partition_of}
use Rattle.envy_policy.specs.Setup.{victims_of}
use Rattle.envy_policy.specs.Choice.{IsLeast, IsMost, IsNearest, HasRows, IsVictim, IsHot, IsChoice}
use Rattle.envy_policy.proofs.Choosing.{rows-below}

one-run : (h : History) → h.policy ≡ Greedy → run h ≡ h.positions
one-run h greedy = ap (λ (policy : Policy). run_of policy h.positions) greedy

first-partition : (h : History) (k : ℕ) → h.policy ≡ Greedy → k < h.positions → partition_of h k ≡ 0
first-partition h k greedy below = rw (one-run h greedy) (div-eq_of_lt below)

-- the one partition is the nearest, where it is usable
one-nearest : (h : History) (free dead : List ℕ) (home position : ℕ) → h.policy ≡ Greedy → home < h.positions → position < h.positions → (0 < slice_index free position) ⊎ (0 < slice_index dead position) → IsNearest h free dead home (partition_of h position)
one-nearest h free dead home position greedy home_below below has =
    let own = first-partition h home greedy home_below in
    let here = first-partition h position greedy below in
    record {
      holds = (position, elim has [ inl one ↦ inl (refl, one) | inr one ↦ inr (refl, one) ]);
      least = λ y usable. omega arith;
      lowest = λ y usable e. omega arith;
    }

-- a single partition chooses the lowest position with a free row
pub greedy-free : (h : History) (free dead : List ℕ) (home position : ℕ) → IsHistory h → h.policy ≡ Greedy → length free ≡ h.positions → home < h.positions → IsLeast (λ x. 0 < slice_index free x) (λ x. x) position → IsChoice h free dead home (Free position)
greedy-free h free dead home position whole greedy long home_below first = (
  one-nearest h free dead home position greedy home_below (rows-below free h.positions position long first.holds) (inl first.holds),
  record {
    holds = (refl, first.holds);
    least = λ y has. first.least y has.1;
    lowest = λ y has e. first.lowest y has.1 e;
  },
)

cool : (h : History) (g : ℕ) → IsHistory h → h.policy ≡ Greedy → IsHot h g → ⊥
cool h g whole greedy hot =
    let one : (h.positions - 1) / h.positions ≡ 0 = div-eq_of_lt (omega (arith, whole.part, whole.few_part)) in
    let count : (h.positions - 1) / run h ≡ (h.positions - 1) / h.positions = ap (λ (r : ℕ). (h.positions - 1) / r) (one-run h greedy) in
    absurd (omega (arith, whole.heats, hot.0))

-- and cleans the one with the most dead
pub greedy-clean : (h : History) (free dead : List ℕ) (home position : ℕ) → IsHistory h → h.policy ≡ Greedy → length dead ≡ h.positions → home < h.positions → ((x : ℕ) → slice_index free x ≡ 0) → IsMost (λ x. 0 < slice_index dead x) (slice_index dead) position → IsChoice h free dead home (Clean position None)
greedy-clean h free dead home position whole greedy long home_below none most =
    let victim : IsMost (HasRows h dead (partition_of h position)) (slice_index dead) position = record {
      holds = (refl, most.holds);
      most = λ y has. most.most y has.1;
      lowest = λ y has e. most.lowest y has.1 e;
    } in
    (one-nearest h free dead home position greedy home_below (rows-below dead h.positions position long most.holds) (inr most.holds), λ x has. absurd (let zero_x = none x in omega (arith, has.1)), subst (λ (policy : Policy). IsVictim (victims_of policy) h dead (partition_of h position) position) (sym greedy) victim, cool h (partition_of h position) whole greedy)

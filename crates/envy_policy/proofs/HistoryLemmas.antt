-- What a start, a flush and a halving keep of a history.
use Rattle.std.proofs.Common.{◌≡◌, ◌≢◌, inl, inr, Bool, true, false, ◌==◌, refl, ℕ, ◌+◌, ◌*◌, ◌/◌, ◌<◌, ◌≤◌, List, [], ◌∷◌, ◌++◌, length, map, take, drop, replicate, sum, slice_index, Option, ap, ◌∙◌, arith}
use Rattle.std.specs.List.{range_with_len}
use Rattle.std.specs.Prelude.{if◌then◌else◌}
use Rattle.std.proofs.lemmas.Bool.{cases_eq, eq-eqb, ne_eqb}
use Rattle.std.proofs.Math.ListN.{length-replicate, length-set, length-map}
use Rattle.std.proofs.Math.Seq.{take-append_seam}
use Rattle.std.proofs.lemmas.List.Folds.{sum_by-replicate}
use Rattle.std.proofs.lemmas.List.Sums.{sum_by-cons, sum_by-set}
use Rattle.std.proofs.lemmas.List.FromFn.{length-map-range_with_len, get_or-map-range_with_len}
use Rattle.envy_policy.specs.declared.setup.Policy.{Policy}
use Rattle.envy_policy.specs.Setup.{run_of}
use Rattle.envy_policy.specs.Heats.{Warmth, cold, noted, warmer}
use Rattle.envy_policy.specs.History.{History, IsHistory, AreLives, run, partition_of, warmed, flushed, started, lives_of, count_in, last_in}
use Rattle.envy_policy.specs.Notes.{Notes}
use Rattle.envy_policy.proofs.LivesLemmas.{AreLives-start}
use Rattle.envy_policy.proofs.Partitions.{run-is, begins, count-small, counted}

-- a slice that was written whole is what the list holds then
pub written : (xs ys : List ℕ) (n : ℕ) → n ≡ length xs → take n (xs ++ drop (length xs) ys) ≡ xs
written xs ys n e = rw e (take-append_seam xs (drop (length xs) ys))

-- halves add up to half at most
pub sum-halves : (xs : List ℕ) → 2 * sum (map (λ x. x / 2) xs) ≤ sum xs
sum-halves [] = omega arith
sum-halves (x ∷ xs) =
    let rest = sum-halves xs in
    let halves = sum_by-cons (λ (y : ℕ). y) (x / 2) (map (λ y. y / 2) xs) in
    let whole = sum_by-cons (λ (y : ℕ). y) x xs in
    omega arith

-- the last position of a partition is one of its own
pub last-within : (n run g : ℕ) → 1 ≤ run → 1 ≤ n → g < count_in n run → (last_in n run g / run ≡ g) × (last_in n run g < n)
last-within n run g some some_n in_count =
    let first = begins n run g some some_n in_count in
    (run-is run g (last_in n run g) some (omega arith) (omega arith), omega arith)

pub IsHistory-started : (policy : Policy) (pages n : ℕ) → 1 ≤ run_of policy n → run_of policy n ≤ n → n ≤ 4095 → IsHistory (started policy pages n)
IsHistory-started policy pages n some few_run few = record {
  part = some;
  few_part = few_run;
  few = few;
  heats = long;
  few_heats = omega (arith, long, small);
  turns = long_turns;
  within = λ g below. ap (λ x. x / run_of policy n) (turn g below) ∙ (last-within n (run_of policy n) g some some_n (omega (arith, long_turns, below))).0;
  inside = λ g below. omega (arith, turn g below, (last-within n (run_of policy n) g some some_n (omega (arith, long_turns, below))).1);
  flushes = omega arith;
  warmth = omega (arith, sum_by-replicate (λ (x : ℕ). x) (count_in n (run_of policy n)) 0);
  lives = AreLives-start policy pages n;
} where
  some_n : 1 ≤ n
  some_n = omega arith

  small : count_in n (run_of policy n) ≤ n
  small = count-small n (run_of policy n) some some_n

  long : length {A = ℕ} (replicate (count_in n (run_of policy n)) 0) ≡ count_in n (run_of policy n)
  long = length-replicate (count_in n (run_of policy n)) 0

  long_turns : length (started policy pages n).turns ≡ count_in n (run_of policy n)
  long_turns = length-map-range_with_len (last_in n (run_of policy n)) 0 (count_in n (run_of policy n))

  turn : (g : ℕ) → g < length (started policy pages n).turns → slice_index (started policy pages n).turns g ≡ last_in n (run_of policy n) g
  turn g below = get_or-map-range_with_len (last_in n (run_of policy n)) 0 (count_in n (run_of policy n)) g g 0 (omega (arith, long_turns, below)) (omega arith)

-- the fields of a chooser at its start
pub IsHistory-start : (policy : Policy) (pages n : ℕ) (w : Warmth) (turns : List ℕ) (lives : Option Notes) → 1 ≤ run_of policy n → run_of policy n ≤ n → n ≤ 4095 → w ≡ cold (count_in n (run_of policy n)) → turns ≡ map (last_in n (run_of policy n)) (range_with_len 0 (count_in n (run_of policy n))) → lives ≡ lives_of policy pages n → IsHistory (record { policy = policy; pages = pages; positions = n; heats = w.heats; turns = turns; flushes = w.flushes; lives = lives })
IsHistory-start policy pages n w turns lives some few_run few none start unnoted = rw (none, start, unnoted) (IsHistory-started policy pages n some few_run few)

-- the fields of a chooser after a halving
pub IsHistory-halved : (h : History) (k : ℕ) (heats : List ℕ) → IsHistory h → k < h.positions → heats ≡ map (λ x. x / 2) (warmed h k).heats → IsHistory (record h { heats = heats; flushes = 0 })
IsHistory-halved h k heats whole below halves = record {
  part = whole.part;
  few_part = whole.few_part;
  few = whole.few;
  heats = same_length ∙ whole.heats;
  few_heats = omega (arith, same_length, whole.few_heats);
  turns = whole.turns;
  within = whole.within;
  inside = whole.inside;
  flushes = omega arith;
  warmth =
      let in_count : partition_of h k < length h.heats = omega (arith, whole.heats, counted h.positions (run h) k whole.part below) in
      let warmer = sum_by-set (λ (x : ℕ). x) h.heats (partition_of h k) (slice_index h.heats (partition_of h k) + 1) 0 in_count in
      let half = sum-halves (warmed h k).heats in
      let is = ap sum halves in
      omega (arith, is, half, warmer, whole.warmth, whole.flushes);
  lives = whole.lives;
} where
  same_length : length heats ≡ length h.heats
  same_length = simp (length-map, length-set) at (ap length halves)

IsHistory-warmed : (h : History) (k : ℕ) → IsHistory h → k < h.positions → h.flushes + 1 ≢ 1024 → IsHistory (warmed h k)
IsHistory-warmed h k whole below before = record {
  part = whole.part;
  few_part = whole.few_part;
  few = whole.few;
  heats = length-set h.heats (partition_of h k) _ ∙ whole.heats;
  few_heats = omega (arith, length-set h.heats (partition_of h k) (slice_index h.heats (partition_of h k) + 1), whole.few_heats);
  turns = whole.turns;
  within = whole.within;
  inside = whole.inside;
  flushes = let few = whole.flushes in omega (arith, before);
  warmth =
      let in_count : partition_of h k < length h.heats = omega (arith, whole.heats, counted h.positions (run h) k whole.part below) in
      let warmer = sum_by-set (λ (x : ℕ). x) h.heats (partition_of h k) (slice_index h.heats (partition_of h k) + 1) 0 in_count in
      omega (arith, warmer, whole.warmth);
  lives = whole.lives;
}

-- the fields of a chooser after a flush
flushed-noted : (h : History) (k : ℕ) → record h { heats = (noted (record { heats = h.heats; flushes = h.flushes }) (partition_of h k)).heats; flushes = (noted (record { heats = h.heats; flushes = h.flushes }) (partition_of h k)).flushes } ≡ flushed h k
flushed-noted h k = at (h.flushes + 1 == 1024)
  where
    at : (b : Bool) → record h {
      heats = Warmth.heats (if b then record { heats = map (λ x. x / 2) (warmer h.heats (partition_of h k)); flushes = 0 } else record { heats = warmer h.heats (partition_of h k); flushes = h.flushes + 1 });
      flushes = Warmth.flushes (if b then record { heats = map (λ x. x / 2) (warmer h.heats (partition_of h k)); flushes = 0 } else record { heats = warmer h.heats (partition_of h k); flushes = h.flushes + 1 });
    } ≡ (if b then record (warmed h k) { heats = map (λ x. x / 2) (warmed h k).heats; flushes = 0 } else warmed h k)
    at true = refl
    at false = refl

-- a flush is noted at its partition
pub after-note : (h : History) (w : Warmth) (k g : ℕ) → w ≡ noted (record { heats = h.heats; flushes = h.flushes }) g → g ≡ partition_of h k → record h { heats = w.heats; flushes = w.flushes } ≡ flushed h k
after-note h w k g is own = ap (λ (v : Warmth). record h { heats = v.heats; flushes = v.flushes }) (is ∙ ap (noted (record { heats = h.heats; flushes = h.flushes })) own) ∙ flushed-noted h k

pub IsHistory-flushed : (h : History) (k : ℕ) → IsHistory h → k < h.positions → IsHistory (flushed h k)
IsHistory-flushed h k whole below = elim (cases_eq (h.flushes + 1) 1024) [
  | inl last ↦ rw (eq-eqb (h.flushes + 1) 1024 last) (IsHistory-halved h k (map (λ x. x / 2) (warmed h k).heats) whole below refl)
  | inr before ↦ rw (ne_eqb (h.flushes + 1) 1024 before) (IsHistory-warmed h k whole below before)
]

-- the fields of a chooser after lives were noted
pub IsHistory-lives : (h : History) (turns : List ℕ) (lives : Option Notes) → IsHistory (record h { turns = turns }) → AreLives h.policy h.pages h.positions lives → IsHistory (record h { turns = turns; lives = lives })
IsHistory-lives h turns lives whole are = record {
  part = whole.part;
  few_part = whole.few_part;
  few = whole.few;
  heats = whole.heats;
  few_heats = whole.few_heats;
  turns = whole.turns;
  within = whole.within;
  inside = whole.inside;
  flushes = whole.flushes;
  warmth = whole.warmth;
  lives = are;
}

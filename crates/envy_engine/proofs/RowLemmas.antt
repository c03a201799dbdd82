-- Where pages and free rows are.
use Rattle.std.proofs.Common.{◌≡◌, ◌≢◌, ◌⊎◌, inl, inr, ℕ, zero, suc, ◌+◌, ◌-◌, ◌/◌, ◌<◌, ◌≤◌, List, length, get_or, set, Option, None, Some, sym, ◌∙◌, ap, subst, arith, add-one}
use Rattle.std.specs.Prelude.{sum_by, ◌==◌, if◌then◌else◌, IfSome, MatchOption}
use Rattle.std.specs.List.{range_with_len}
use Rattle.std.proofs.lemmas.Bool.{cases_lt, cases_eq, eq-eqb, ne_eqb}
use Rattle.std.proofs.lemmas.List.{get_or_past, get_or-set_same, get_or-set_other}
use Rattle.std.proofs.lemmas.List.FromFn.{get_or-map-range_with_len, length-map-range_with_len}
use Rattle.envy_base.specs.Shape.{IsShape, positions_of}
use Rattle.envy_base.specs.declared.shape.Shape.{Shape}
use Rattle.envy_base.specs.declared.fields.Job.TheVariants.{Switch}
use Rattle.envy_base.specs.declared.fields.Place.{Place}
use Rattle.envy_base.specs.declared.fields.Place.TheVariants.{Row}
use Rattle.envy_map.specs.Fields.{Fields, place}
use Rattle.envy_soundness.specs.RowKinds.{free_in, dead_in}
use Rattle.envy_soundness.specs.Sound.{Sound, Names, Numbers, Homes, IsPlaced, IsSpare}
use Rattle.envy_soundness.specs.Words.{word_at, live_word}
use Rattle.envy_soundness.proofs.KeptCounts.{rows-left}
use Rattle.envy_soundness.proofs.References.{apart-spare}
use Rattle.envy_soundness.proofs.SpareLemmas.{one-spare}
use Rattle.envy_policy.specs.declared.choice.Choice.TheVariants.{Free, Clean}
use Rattle.envy_policy.specs.declared.setup.Victims.{Victims}
use Rattle.envy_policy.specs.declared.setup.Victims.TheVariants.{MostDead, InTurn}
use Rattle.envy_policy.specs.Setup.{victims_of}
use Rattle.envy_policy.specs.History.{History, partition_of}
use Rattle.envy_policy.specs.Choice.{IsChoice, IsLeast, IsMost, IsVictim}
use Rattle.envy_policy.specs.Lifetime.{IsGreatest, IsLifetimeChoice}
use Rattle.envy_policy.specs.Notes.{Notes}
use Rattle.envy_space.specs.Pool.{Pool, PoolAgrees, free_at, dead_at}
use Rattle.envy_space.proofs.SpaceLemmas.{sum_by-range_more}
use Rattle.envy_soundness.specs.RowKinds.{kept_in}
use Rattle.envy_soundness.proofs.KeptRows.{dead-row}
use Rattle.envy_victims.specs.Choosing.{ChoiceFor, counts_in, frees, deads}

-- the same positions of the same shape
pub placed-pool : (sh sh2 : Shape) (positions positions2 : List ℕ) (s : ℕ) → sh2 ≡ sh → positions2 ≡ positions → IsPlaced sh positions s → IsPlaced sh2 positions2 s
placed-pool sh sh2 positions positions2 s shape same placed = subst (λ (x : Shape). IsPlaced x positions2 s) (sym shape) (subst (λ (xs : List ℕ). IsPlaced sh xs s) (sym same) placed)

-- a kept row lies at a position, but where the job is switching to the spare
pub placed-row : (sh : Shape) (f : Fields) (flash : List (List ℕ)) (p q e : ℕ) → Sound sh f flash → place f p ≡ Some (Row q) → IsSpare sh f.positions e → q / sh.rows ≢ e → IsPlaced sh f.positions (q / sh.rows)
placed-row sh f flash p q e sound here spare other = at (Homes.kept (Sound.homes sound) p q (inl here))
  where
    at : IsPlaced sh f.positions (q / sh.rows) ⊎ ((v : ℕ) × (f.job ≡ Some (Switch v)) × IsPlaced sh f.positions v × IsSpare sh f.positions (q / sh.rows)) → IsPlaced sh f.positions (q / sh.rows)
    at (inl placed) = placed
    at (inr (v, switch, placed, own)) = absurd (other (one-spare sh f flash (q / sh.rows) e sound own spare))

pub switched-row : (sh : Shape) (f : Fields) (flash : List (List ℕ)) (p q : ℕ) → Sound sh f flash → place f p ≡ Some (Row q) → IsSpare sh f.positions (q / sh.rows) → (v : ℕ) × (f.job ≡ Some (Switch v)) × IsPlaced sh f.positions v
switched-row sh f flash p q sound here spare = at (Homes.kept (Sound.homes sound) p q (inl here))
  where
    at : IsPlaced sh f.positions (q / sh.rows) ⊎ ((v : ℕ) × (f.job ≡ Some (Switch v)) × IsPlaced sh f.positions v × IsSpare sh f.positions (q / sh.rows)) → (v : ℕ) × (f.job ≡ Some (Switch v)) × IsPlaced sh f.positions v
    at (inl placed) = absurd (apart-spare sh f.positions (q / sh.rows) placed spare)
    at (inr (v, switch, placed, own)) = (v, switch, placed)

-- the words of a page with one of them changed
pub page-changed : (f : Fields) (flash : List (List ℕ)) (p i w : ℕ) (x : Place) (ws : List ℕ) → place f p ≡ Some x → i < length ws → ((j : ℕ) → j < 32 → get_or ws j 0 ≡ word_at f.frames flash (Some x) j) → (j : ℕ) → j < 32 → get_or (set ws i w) j 0 ≡ (if j == i then w else live_word f flash p j)
page-changed f flash p i w x ws here room words j lt = at (cases_eq j i)
  where
    at : (j ≡ i) ⊎ (j ≡ i → ⊥) → get_or (set ws i w) j 0 ≡ (if j == i then w else live_word f flash p j)
    at (inl same) = rw (eq-eqb j i same) (ap (λ (n : ℕ). get_or (set ws i w) n 0) same ∙ get_or-set_same ws i w 0 room)
    at (inr other) = rw (ne_eqb j i other) (get_or-set_other ws i j w 0 other ∙ words j lt ∙ ap (λ (y : Option Place). word_at f.frames flash y j) (sym here))

-- one of the numbers of a sum is above 0
pub some-sum : (f : ℕ → ℕ) (n : ℕ) → 0 < sum_by f (range_with_len 0 n) → (k : ℕ) × (k < n) × (0 < f k)
some-sum f zero some = absurd (omega arith)
some-sum f (suc n) some = at (cases_lt 0 (f n)) (λ less. some-sum f n less)
  where
    more : sum_by f (range_with_len 0 (n + 1)) ≡ sum_by f (range_with_len 0 n) + f n
    more = sum_by-range_more f 0 n n (omega arith)

    at : (0 < f n) ⊎ (f n ≤ 0) → (0 < sum_by f (range_with_len 0 n) → (k : ℕ) × (k < n) × (0 < f k)) → (k : ℕ) × (k < suc n) × (0 < f k)
    at (inl here) rest = (n, omega arith, here)
    at (inr none) rest = let found = rest (let whole : 0 < sum_by f (range_with_len 0 (n + 1)) = subst (λ (k : ℕ). 0 < sum_by f (range_with_len 0 k)) (sym (add-one n)) some in omega (arith, whole, more)) in (found.0, (let lt = found.1 in omega arith), found.2)

-- some position has a free or a dead row
pub some-rows : (sh : Shape) (f : Fields) (flash : List (List ℕ)) (pool : Pool) → IsShape sh → Sound sh f flash → PoolAgrees sh f pool → (k : ℕ) × (k < positions_of pool.shape) × (0 < free_at pool k + dead_at pool k)
some-rows sh f flash pool shape sound agrees =
    let left = rows-left sh f.slots f.undos f.places f.wears f.fills f.positions f.backs f.origins f.frames f.version shape (Sound.slots sound) (Sound.rows sound) (Sound.numbers sound) in
    let least = shape.rows in
    let found = some-sum (λ k. free_in sh f.fills (get_or f.positions k 0) + dead_in sh f.slots f.undos f.places f.fills (get_or f.positions k 0)) (positions_of sh) (omega arith) in
    let k = found.0 in
    let lt = found.1 in
    let fits = Numbers.positions_fit (Sound.numbers sound) k (omega (arith, lt)) in
    let kept = agrees.kept (get_or f.positions k 0) fits in
    (k, rw agrees.shape lt, rw (agrees.fills, agrees.positions, agrees.shape, kept) found.2)

-- a choice of a free row is of one that there is
free-some : (lives : Option Notes) (h : History) (pool : Pool) (home page k : ℕ) → MatchOption lives (IsChoice h (frees pool) (deads pool) home (Free k)) (λ n. IsLifetimeChoice n (counts_in pool) page (Free k)) → 0 < get_or (frees pool) k 0
free-some None h pool home page k choice = (IsLeast.holds choice.1).1
free-some (Some n) h pool home page k (inl (inl own)) = own.1.0
free-some (Some n) h pool home page k (inl (inr fresh)) = (IsLeast.holds fresh.1).0
free-some (Some n) h pool home page k (inr last) = IsLeast.holds last.2

pub free-room : (h : History) (pool : Pool) (home page k : ℕ) → ChoiceFor h pool home page (Free k) → (k < positions_of pool.shape) × (get_or pool.fills (get_or pool.positions k 0) 0 < pool.shape.rows)
free-room h pool home page k choice = at (cases_lt k (positions_of pool.shape))
  where
    some : 0 < get_or (frees pool) k 0
    some = free-some h.lives h pool home page k choice

    at : (k < positions_of pool.shape) ⊎ (positions_of pool.shape ≤ k) → (k < positions_of pool.shape) × (get_or pool.fills (get_or pool.positions k 0) 0 < pool.shape.rows)
    at (inl lt) = let is = get_or-map-range_with_len (free_at pool) 0 (positions_of pool.shape) k k 0 lt (omega arith) in (lt, omega (arith, some))
    at (inr past) = absurd (let none : get_or (frees pool) k 0 ≡ 0 = get_or_past (frees pool) k 0 (rw length-map-range_with_len past) in omega (arith, some))

-- a position that is cleaned has dead rows
victim-some : (victims : Victims) (h : History) (pool : Pool) (k : ℕ) → IsVictim victims h (deads pool) (partition_of h k) k → 0 < get_or (deads pool) k 0
victim-some MostDead h pool k v = (IsMost.holds v).1
victim-some InTurn h pool k v = (IsLeast.holds v).1

dead-some : (lives : Option Notes) (h : History) (pool : Pool) (home page k : ℕ) (aside : Option ℕ) → MatchOption lives (IsChoice h (frees pool) (deads pool) home (Clean k aside)) (λ n. IsLifetimeChoice n (counts_in pool) page (Clean k aside)) → 0 < get_or (deads pool) k 0
dead-some None h pool home page k aside choice = victim-some (victims_of h.policy) h pool k choice.2
dead-some (Some n) h pool home page k aside choice = (IsGreatest.holds choice.1).0

pub clean-room : (h : History) (pool : Pool) (home page k : ℕ) (aside : Option ℕ) → ChoiceFor h pool home page (Clean k aside) → k < positions_of pool.shape
clean-room h pool home page k aside choice = at (cases_lt k (positions_of pool.shape))
  where
    at : (k < positions_of pool.shape) ⊎ (positions_of pool.shape ≤ k) → k < positions_of pool.shape
    at (inl lt) = lt
    at (inr past) = absurd (let none : get_or (deads pool) k 0 ≡ 0 = get_or_past (deads pool) k 0 (rw length-map-range_with_len past) in let more = dead-some h.lives h pool home page k aside choice in omega arith)

-- the partition beside is one that there is
aside-some : (lives : Option Notes) (h : History) (pool : Pool) (home page k : ℕ) (aside : Option ℕ) → MatchOption lives (IsChoice h (frees pool) (deads pool) home (Clean k aside)) (λ n. IsLifetimeChoice n (counts_in pool) page (Clean k aside)) → IfSome aside (λ g. g < length h.heats)
aside-some lives h pool home page k None choice = tt
aside-some None h pool home page k (Some g) choice = let near = IsLeast.holds choice.3.1 in near.0
aside-some (Some n) h pool home page k (Some g) choice = absurd (let no : Some g ≡ None = choice.2 in cc)

pub aside-in : (h : History) (pool : Pool) (home page k : ℕ) (aside : Option ℕ) → ChoiceFor h pool home page (Clean k aside) → IfSome aside (λ g. g < length h.heats)
aside-in h pool home page k aside choice = aside-some h.lives h pool home page k aside choice

-- a position that is cleaned has a dead row
pub dead-cleaned : (sh : Shape) (f : Fields) (flash : List (List ℕ)) (h : History) (pool : Pool) (home page k : ℕ) (aside : Option ℕ) → Sound sh f flash → PoolAgrees sh f pool → ChoiceFor h pool home page (Clean k aside) → (d : ℕ) × (d / sh.rows ≡ get_or f.positions k 0) × ((p : ℕ) → Names f p d → ⊥)
dead-cleaned sh f flash h pool home page k aside sound agrees choice =
    let low = clean-room h pool home page k aside choice in
    let is = get_or-map-range_with_len (dead_at pool) 0 (positions_of pool.shape) k k 0 low (omega arith) in
    let more = dead-some h.lives h pool home page k aside choice in
    let low2 : k < positions_of sh = subst (λ (z : Shape). k < positions_of z) agrees.shape low in
    let kept = agrees.kept (get_or f.positions k 0) (Numbers.positions_fit (Sound.numbers sound) k (omega (arith, low2))) in
    let dead : 0 < dead_at pool k = subst (λ (x : ℕ). 0 < x) is more in
    let there : 0 < get_or f.fills (get_or f.positions k 0) 0 - kept_in sh f.slots f.undos f.places (get_or f.positions k 0) = rw (← kept, ← agrees.fills, ← agrees.positions) dead in
    dead-row sh f flash (get_or f.positions k 0) sound (omega arith)

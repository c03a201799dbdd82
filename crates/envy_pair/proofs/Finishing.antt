-- What both boards say once a trace was done, from what the pair did since it began with no counts.
use Rattle.std.proofs.Common.{◌≡◌, ◌⊎◌, inl, inr, ℕ, ◌+◌, ◌-◌, ◌^◌, ◌<◌, ◌≤◌, Bool, false, List, [], ◌∷◌, length, sym, ap, subst, arith}
use Rattle.std.specs.Prelude.{IfSome, Option, None, Some}
use Rattle.std.proofs.lemmas.Bool.{cases_lt}
use Rattle.envy_array.specs.Array.{Array}
use Rattle.envy_array.specs.declared.counts.Counts.{Counts}
use Rattle.envy_engine.specs.Counts.{Tally3}
use Rattle.envy_soundness.specs.Sound.{IsSound}
use Rattle.envy_soundness.specs.Words.{durable}
use Rattle.envy_map.specs.Fields.{Chart}
use Rattle.envy_memory.proofs.Counted.{below-top}
use Rattle.envy_memory.specs.Formats.{no_counts}
use Rattle.envy_memory.specs.Picture.{Picture, counts_of}
use Rattle.envy_memory.specs.Rises.{RoseOver}
use Rattle.envy_pair.proofs.Sides.{stands-good}
use Rattle.envy_mirror.specs.Mirroring.{Mirrors, Agrees}
use Rattle.envy_mirror.specs.Pair.{Side, Pair, is_good_by, side_at}
use Rattle.envy_mirror.specs.Reviving.{which}
use Rattle.envy_mirror.specs.declared.standing.Standing.TheVariants.{Good}
use Rattle.envy_mirror.specs.declared.standing.Which.{Which}
use Rattle.envy_mirror.specs.declared.standing.Which.TheVariants.{First, Second}
use Rattle.envy_serve.proofs.Counts.{count-lines}
use Rattle.envy_serve.specs.Ends.{most_bytes}
use Rattle.envy_serve.specs.Turns.{count_lines, count_replies}
use Rattle.envy_pair.specs.Bills.{Toll, Charged, Bill}
use Rattle.envy_pair.specs.Ending.{Boards, board_at, Keeps, AddsUp, HasMirrored, HasFallen, PairLicences}
use Rattle.envy_pair.specs.MirrorRun.{MirrorTurn, is_power, is_plan, is_lost, is_fault, just_told}
use Rattle.envy_pair.specs.Serving.{Past, Serves, Start, side_of, state_of, sums_since, MirroredSince, FellSince}
use Rattle.envy_pair.specs.State.{begun}
use Rattle.envy_pair.proofs.Joining.{joined-good}
use Rattle.envy_pair.proofs.Keeping.{AreFirm, firm-run, firm-begun}

-- a memory that has counted nothing yet
pub record IsUnused (p : Picture) : Type 0 where
  pub pulled : p.chart.pulled ≡ 0
  pub plans : p.chart.plans ≡ 0
  pub begun : p.chart.begun ≡ 0
  pub counts : counts_of p.parts ≡ no_counts

pub record AreUnused (p : Pair) : Type 0 where
  pub first : IsUnused p.first.memory
  pub second : IsUnused p.second.memory

-- two counts that pay for n together
below-tops : (n i j a b : ℕ) → n < 2 ^ 64 - 1 → n ≤ i + j → (a < 2 ^ 64 - 1 → i ≤ a) → (b < 2 ^ 64 - 1 → j ≤ b) → n ≤ a + b
below-tops n i j a b low le first second = at (cases_lt a (2 ^ 64 - 1)) (cases_lt b (2 ^ 64 - 1))
  where
    at : (a < 2 ^ 64 - 1) ⊎ (2 ^ 64 - 1 ≤ a) → (b < 2 ^ 64 - 1) ⊎ (2 ^ 64 - 1 ≤ b) → n ≤ a + b
    at (inl lt) (inl less) = let x = first lt in let y = second less in omega arith
    at (inl lt) (inr top) = omega arith
    at (inr top) other = omega arith

-- falls are paid for by cuts
falls-paid : (toll : Toll) (falls lines : ℕ) (a b : Picture) → Charged toll a b → falls ≤ toll.pulls + toll.fails → falls ≤ lines → lines ≤ most_bytes → falls ≤ b.chart.cuts
falls-paid toll falls lines a b c le few bytes = below-top falls b.chart.cuts (omega arith) (λ lt. let rise = RoseOver.rise c.cuts lt in omega arith)

adds-up : (toll : Toll) (a b : Picture) → IsUnused a → Charged toll a b → AddsUp (counts_of b.parts) b.chart
adds-up toll a b u c =
    let flushes = ap (λ (n : Counts). n.flushes) u.counts in
    let copies = ap (λ (n : Counts). n.copies) u.counts in
    let moves = ap (λ (n : Counts). n.moves) u.counts in
    let none = u.begun in
    λ lf lc lm lb. let same = Tally3.same c.programs lf lc lm lb in omega arith

abbrev pub boards_of : Pair → Boards
boards_of p = record { first = p.first.memory.chart; second = p.second.memory.chart }

licences-by : (turns : List MirrorTurn) (f g : ℕ) (start p : Pair) → AreUnused start → length turns ≤ most_bytes → Bill (sums_since turns f g) start p → PairLicences turns (boards_of p)
licences-by turns f g start p u few b =
    let x = b.to_first in
    let y = b.to_second in
    let planned = count-lines is_plan turns in
    let few_pulls = b.few_pulls in
    let few_faults = b.few_faults in
    let few_losts = b.few_losts in
    let plans = b.plans in
    let pulled_first = IsUnused.pulled u.first in
    let pulled_second = IsUnused.pulled u.second in
    let plans_first = IsUnused.plans u.first in
    let plans_second = IsUnused.plans u.second in
    let rose_first = x.pulled (omega arith) in
    let rose_second = y.pulled (omega arith) in
    let planned_first = x.plans (omega arith) in
    let planned_second = y.plans (omega arith) in
    let pulls = b.pulls in
    let losts = b.losts in
    record {
      pulled = below-power (count_lines is_power turns) (b.first.pulls + b.second.pulls) p.first.memory.chart.pulled p.second.memory.chart.pulled b.first.bads b.second.bads p.first.memory.chart.bads p.second.memory.chart.bads (omega arith) (omega arith) (omega arith) (λ lt. let rise = RoseOver.rise x.bads lt in omega arith) (λ lt. let rise = RoseOver.rise y.bads lt in omega arith);
      plans = omega arith;
      losts = below-tops (count_replies is_lost turns + (p.first.memory.chart.pulled + p.second.memory.chart.pulled)) (b.first.pulls + b.first.fails) (b.second.pulls + b.second.fails) p.first.memory.chart.cuts p.second.memory.chart.cuts (omega arith) (omega arith) (λ lt. let rise = RoseOver.rise x.cuts lt in omega arith) (λ lt. let rise = RoseOver.rise y.cuts lt in omega arith);
      faults = below-tops (count_replies is_fault turns) b.first.bads b.second.bads p.first.memory.chart.bads p.second.memory.chart.bads (omega arith) b.faults (λ lt. let rise = RoseOver.rise x.bads lt in omega arith) (λ lt. let rise = RoseOver.rise y.bads lt in omega arith);
    }
  where
    below-power : (powers n i j toll_first toll_second c d : ℕ) → n ≤ most_bytes → i + j ≤ n → n ≤ powers + (toll_first + toll_second) → (c < 2 ^ 64 - 1 → toll_first ≤ c) → (d < 2 ^ 64 - 1 → toll_second ≤ d) → i + j ≤ powers + (c + d)
    below-power powers n i j toll_first toll_second c d low same le first second = at (cases_lt c (2 ^ 64 - 1)) (cases_lt d (2 ^ 64 - 1))
      where
        at : (c < 2 ^ 64 - 1) ⊎ (2 ^ 64 - 1 ≤ c) → (d < 2 ^ 64 - 1) ⊎ (2 ^ 64 - 1 ≤ d) → i + j ≤ powers + (c + d)
        at (inl lt) (inl less) = let p_first = first lt in let p_second = second less in omega arith
        at (inl lt) (inr top) = omega arith
        at (inr top) other = omega arith

-- what both boards license
pub licences-either : (start : Start) (p : Pair) (side : ℕ) (turns : List MirrorTurn) → AreUnused start.pair → length turns ≤ most_bytes → MirroredSince start p side turns ⊎ FellSince start p turns → PairLicences turns (boards_of p)
licences-either start p side turns u few (inl t) = licences-by turns (MirroredSince.known t).first.falls (MirroredSince.known t).second.falls start.pair p u few (MirroredSince.bill t)
licences-either start p side [] u few (inr never) = absurd never
licences-either start p side (turn ∷ earlier) u few (inr d) = licences-by (turn ∷ earlier) d.mid.first.falls d.mid.second.falls start.pair p u few d.bill

-- ---- the lines were done

keeps-good : (m : Array) (side : Side) (past : Past) (stale : List Bool) → Agrees side stale m → (past.falls ≡ 0 → side.standing ≡ Good) → past.falls ≤ side.memory.chart.cuts → Keeps m (side_of side past) side.memory.chart
keeps-good m side past stale agrees firm paid = record {
  good = λ up. stands-good side.standing side.memory.chart stale m up agrees;
  unfailed = λ none. stands-good side.standing side.memory.chart stale m (ap is_good_by (firm (omega arith))) agrees;
}

told-so : (o : Option Counts) (p : Picture) (now : Chart) → IfSome o (λ c. c ≡ counts_of p.parts) → AddsUp (counts_of p.parts) now → IfSome o (λ c. AddsUp c now)
told-so None p now last adds = tt
told-so (Some c) p now last adds = subst (λ (x : Counts). AddsUp x now) (sym last) adds

chosen-adds : (w : Which) (p : Pair) → AddsUp (counts_of p.first.memory.parts) p.first.memory.chart → AddsUp (counts_of p.second.memory.parts) p.second.memory.chart → AddsUp (counts_of (side_at w p).memory.parts) (board_at w (boards_of p))
chosen-adds First p first second = first
chosen-adds Second p first second = second

pub mirrored : (m : Array) (count : ℕ) (pair p : Pair) (side : ℕ) (turns : List MirrorTurn) → AreUnused pair → length turns ≤ most_bytes → MirroredSince (record { state = begun m count; pair = pair }) p side turns → HasMirrored m count (boards_of p) turns
mirrored m count pair p side turns u few t =
    let k = MirroredSince.known t in
    let b = MirroredSince.bill t in
    let h = Serves.mirrors (MirroredSince.serves t) in
    let firm = firm-run (begun m count) turns (state_of k p (which side)) (firm-begun m count) (MirroredSince.run t) in
    let few_first = b.few_first in
    let few_second = b.few_second in
    let paid_first = falls-paid b.first k.first.falls (length turns) pair.first.memory p.first.memory b.to_first b.first_falls few_first few in
    let paid_second = falls-paid b.second k.second.falls (length turns) pair.second.memory p.second.memory b.to_second b.second_falls few_second few in
    record {
      state = state_of k p (which side);
      run = MirroredSince.run t;
      some = Mirrors.some h;
      keeps_first = keeps-good k.array p.first k.first p.stale (Mirrors.first h) (AreFirm.first firm) paid_first;
      keeps_second = keeps-good k.array p.second k.second p.stale (Mirrors.second h) (AreFirm.second firm) paid_second;
      paid_first = record { falls = paid_first; dead = Serves.first (MirroredSince.serves t) };
      paid_second = record { falls = paid_second; dead = Serves.second (MirroredSince.serves t) };
      told = told-so (just_told turns) (side_at (which side) p).memory (board_at (which side) (boards_of p)) (MirroredSince.told t) (chosen-adds (which side) p (adds-up b.first pair.first.memory p.first.memory u.first b.to_first) (adds-up b.second pair.second.memory p.second.memory u.second b.to_second));
      joined = λ says.
          let good = joined-good (begun m count) turns (state_of k p (which side)) (MirroredSince.run t) says in
          (stands-good p.first.standing p.first.memory.chart p.stale k.array good.0 (Mirrors.first h), stands-good p.second.standing p.second.memory.chart p.stale k.array good.1 (Mirrors.second h));
    }

-- ---- power didn't return

at-which : (one : Which) (p : Pair) (P : Chart → Type 0) → P (side_at one p).memory.chart → P (board_at one (boards_of p))
at-which First p P so = so
at-which Second p P so = so

pub fallen : (m : Array) (count : ℕ) (pair p : Pair) (turns : List MirrorTurn) → length turns ≤ most_bytes → FellSince (record { state = begun m count; pair = pair }) p turns → HasFallen m count (boards_of p) turns
fallen m count pair p [] few never = absurd never
fallen m count pair p (turn ∷ earlier) few d =
    let b = d.bill in
    let board = d.board in
    record {
      before = d.before;
      run = d.run;
      replies = d.replies;
      mid = d.mid;
      fails = d.fails;
      off = at-which d.mid.last p (λ (c : Chart). c.on ≡ false) board.off;
      dead = at-which d.mid.last p (λ (c : Chart). c.lives ≡ 0) board.dead;
      sound = at-which d.mid.last p IsSound board.sound;
      words = at-which d.mid.last p (λ (c : Chart). durable c ≡ d.mid.array.words) board.words;
      paid_first = record { falls = falls-paid b.first d.mid.first.falls (length (turn ∷ earlier)) pair.first.memory p.first.memory b.to_first b.first_falls b.few_first few; dead = d.spent_first };
      paid_second = record { falls = falls-paid b.second d.mid.second.falls (length (turn ∷ earlier)) pair.second.memory p.second.memory b.to_second b.second_falls b.few_second few; dead = d.spent_second };
    }

-- shapes and lives given stay
pub bill-either : (start : Start) (p : Pair) (side : ℕ) (turns : List MirrorTurn) → MirroredSince start p side turns ⊎ FellSince start p turns → ((p.first.memory.chart.shape ≡ start.pair.first.memory.chart.shape) × (p.first.memory.chart.given ≡ start.pair.first.memory.chart.given)) × ((p.second.memory.chart.shape ≡ start.pair.second.memory.chart.shape) × (p.second.memory.chart.given ≡ start.pair.second.memory.chart.given))
bill-either start p side turns (inl t) = let b = MirroredSince.bill t in ((Charged.shape b.to_first, Charged.given b.to_first), (Charged.shape b.to_second, Charged.given b.to_second))
bill-either start p side [] (inr never) = absurd never
bill-either start p side (turn ∷ earlier) (inr d) = let b = d.bill in ((Charged.shape b.to_first, Charged.given b.to_first), (Charged.shape b.to_second, Charged.given b.to_second))

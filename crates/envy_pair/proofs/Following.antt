-- A step by which one side follows the other, seen without the boards.
use Rattle.std.proofs.Common.{◌≡◌, ◌≢◌, inl, inr, ℕ, ◌+◌, ◌-◌, ◌^◌, ◌<◌, ◌≤◌, Bool, true, false, List, [], ◌∷◌, Option, None, Some, refl, sym, ◌∙◌, ap, subst, arith}
use Rattle.std.specs.Prelude.{Result, Ok, Err}
use Rattle.envy_array.specs.Array.{Array, Saved, slot_of}
use Rattle.envy_base.specs.declared.fields.Slot.TheVariants.{Vacant, Active}
use Rattle.envy_meaning.specs.Stands.{Stands, Holds, slot_word}
use Rattle.envy_map.specs.Fields.{Chart, slot}
use Rattle.envy_pair.proofs.Sides.{stands-good, neither}
use Rattle.envy_mirror.specs.Catching.{Helps, Slips as SlipsBy, CatchesUp, CatchesBy as Catching, IsLowestOpen as LowestOpenSlot, NoneOpen as NoSlotOpen}
use Rattle.envy_mirror.specs.Mirroring.{Mirrors, Agrees}
use Rattle.envy_mirror.specs.Pair.{Side, Pair, is_good}
use Rattle.envy_mirror.specs.declared.catch_up.Caught.{Caught}
use Rattle.envy_mirror.specs.declared.catch_up.Caught.TheVariants.{Whole as CaughtWhole, Waiting as CaughtWaiting, Woken as CaughtWoken, Copied as CaughtCopied, Joined as CaughtJoined}
use Rattle.envy_mirror.specs.declared.catch_up.CatchFault.{CatchFault}
use Rattle.envy_mirror.specs.declared.catch_up.CatchFault.TheVariants.{Off as CatchOff, Dead as CatchDead, Slipped as CatchSlipped, Bad as CatchBad}
use Rattle.envy_mirror.specs.declared.standing.Standing.{Standing}
use Rattle.envy_mirror.specs.declared.standing.Standing.TheVariants.{Good, Behind, Gone}
use Rattle.envy_mirror.specs.declared.standing.Which.{Which}
use Rattle.envy_serve.specs.Turns.{count_of}
use Rattle.envy_trace.specs.declared.mirror_reply.MirrorReply.{MirrorReply}
use Rattle.envy_pair.specs.Bills.{Toll, Charged, Bill}
use Rattle.envy_pair.specs.Hearing.{caught}
use Rattle.envy_pair.specs.MirrorRun.{IsLowestOpen, NoneOpen, Follows, CatchesBy, is_lost, is_fault, told_in}
use Rattle.envy_pair.specs.Restarting.{no_toll}
use Rattle.envy_pair.specs.Serving.{Past, Known, side_of, state_of, IsSpent, Serves}
use Rattle.envy_pair.proofs.Charging.{one_fail, one_bad, Charged-same, Charged-reckons, Charged-failed, Charged-bad, Charged-woken, Charged-slipped}
use Rattle.envy_pair.proofs.Commanding.{past_if, stood_as, sums, spent-kept}

-- ---- the slots of the board are those of the array

closed-by : (saved : Option Saved) → (Some (slot_word saved) ≡ Some Active → ⊥) → saved ≡ None
closed-by None never = refl
closed-by (Some saved) never = absurd (never refl)

open-by : (saved : Option Saved) → Some (slot_word saved) ≡ Some Active → saved ≡ None → ⊥
open-by saved active none = let vacant : Some (slot_word saved) ≡ Some Vacant = ap (λ (o : Option Saved). Some (slot_word o)) none in let clash : Some Vacant ≡ Some Active = sym vacant ∙ active in cc

closed-slot : (c : Chart) (m : Array) (u : ℕ) → Stands c m → u < 64 → slot c.fields u ≢ Some Active → slot_of m u ≡ None
closed-slot c m u s lt shut = closed-by (slot_of m u) (λ active. shut (Holds.slots s.holds u lt ∙ active))

none-open : (c : Chart) (m : Array) → Stands c m → NoSlotOpen c → NoneOpen m
none-open c m s none = λ u lt. closed-slot c m u s lt (none u lt)

lowest-open : (c : Chart) (m : Array) (t : ℕ) → Stands c m → LowestOpenSlot c t → IsLowestOpen m t
lowest-open c m t s low =
    let within = low.within in
    record {
      within = low.within;
      open_one = λ none. open-by (slot_of m t) (sym (Holds.slots s.holds t low.within) ∙ low.open_one) none;
      below = λ u lt. closed-slot c m u s (omega arith) (low.below u lt);
    }

-- ---- one side follows the other

-- what is known of a side after the step
pub record Followed (m : Array) (reply : MirrorReply) (k : Past) (old : Side) (stale : List Bool) (new : Side) (left : List Bool) : Type 0 where
  pub past : Past
  pub follows : Follows m reply (side_of old k) stale (side_of new past) left
  pub toll : Toll
  pub charged : Charged toll old.memory new.memory
  pub pulls : toll.pulls ≡ 0
  pub plans : toll.plans ≡ 0
  pub falls : ℕ
  pub past_falls : past.falls ≡ k.falls + falls
  pub paid : falls ≤ toll.fails
  pub few_falls : falls ≤ 1
  pub faults : count_of is_fault (reply ∷ []) ≤ toll.bads
  pub few_faults : count_of is_fault (reply ∷ []) ≤ 1
  pub losts : count_of is_lost (reply ∷ []) ≡ 0
  pub quiet : told_in (reply ∷ []) ≡ None
  pub spent : IsSpent past new

abbrev pub dead_past : Past → Past
dead_past k = record { falls = k.falls; dead = true }

pub plus-none : (n : ℕ) → n ≡ n + 0
plus-none n = omega arith

same-spent : (k : Past) (old new : Side) → new ≡ old → IsSpent k old → IsSpent k new
same-spent k old new e spent = subst (λ (s : Side). IsSpent k s) (sym e) spent

-- a side with lives left wasn't found without
alive : (k : Past) (old : Side) → IsSpent k old → 0 < old.memory.chart.lives → k.dead ≡ false
alive k old spent some = at k.dead refl
  where
    at : (b : Bool) → k.dead ≡ b → k.dead ≡ false
    at true is = absurd (let none = spent is in omega arith)
    at false is = is

slipped : (m : Array) (from : Side) (k : Past) (g : Standing) (old : Side) (stale : List Bool) (new : Side) (left : List Bool) → old.standing ≡ g → Stands from.memory.chart m → IsSpent k old → new.standing ≡ Gone → SlipsBy g from.memory.chart stale old.memory new.memory → left ≡ stale → (old.memory.chart.cuts < 2 ^ 64 - 1 → old.memory.chart.cuts < new.memory.chart.cuts) → Followed m (caught (Err CatchSlipped)) k old stale new left
slipped m from k Good old stale new left is s spent stood never same rose = absurd never
slipped m from k Behind old stale new left is s spent stood (none, p, lowest, reckons) same rose = record {
  past = past_if true k;
  follows = (inr (p, record { behind = is; none_open = none-open from.memory.chart m s none; lowest = lowest }), ap (stood_as (past_if true k)) stood, same);
  toll = one_fail;
  charged = Charged-failed old.memory new.memory reckons rose;
  pulls = refl;
  plans = refl;
  falls = 1;
  past_falls = refl;
  paid = omega arith;
  few_falls = omega arith;
  faults = omega arith;
  few_faults = omega arith;
  losts = refl;
  quiet = refl;
  spent = spent-kept one_fail true k old new (Charged-failed old.memory new.memory reckons rose) spent;
}
slipped m from k Gone old stale new left is s spent stood wakes same rose = record {
  past = past_if true k;
  follows = (inl (is, alive k old spent wakes.lives), ap (stood_as (past_if true k)) stood, same);
  toll = one_fail;
  charged = Charged-slipped old.memory new.memory wakes rose;
  pulls = refl;
  plans = refl;
  falls = 1;
  past_falls = refl;
  paid = omega arith;
  few_falls = omega arith;
  faults = omega arith;
  few_faults = omega arith;
  losts = refl;
  quiet = refl;
  spent = spent-kept one_fail true k old new (Charged-slipped old.memory new.memory wakes rose) spent;
}

pub followed : (result : Result Caught CatchFault) (m : Array) (from : Side) (k : Past) (old : Side) (stale : List Bool) (new : Side) (left : List Bool) → Stands from.memory.chart m → IsSpent k old → Helps result from old stale new left → Followed m (caught result) k old stale new left
followed (Err CatchDead) m from k old stale new left s spent (is, lives, same, marks) = record {
  past = dead_past k;
  follows = (is, ap (λ (x : Side). side_of x (dead_past k)) same, marks);
  toll = no_toll;
  charged = Charged-same old.memory new.memory (ap (λ (x : Side). x.memory) same);
  pulls = refl;
  plans = refl;
  falls = 0;
  past_falls = plus-none k.falls;
  paid = omega arith;
  few_falls = omega arith;
  faults = omega arith;
  few_faults = omega arith;
  losts = refl;
  quiet = refl;
  spent = λ dead. ap (λ (x : Side). x.memory.chart.lives) same ∙ lives;
}
followed (Ok CaughtWoken) m from k old stale new left s spent (is, stood, wakes, marks) = record {
  past = k;
  follows = ((is, alive k old spent wakes.lives), ap (stood_as k) stood, marks);
  toll = no_toll;
  charged = Charged-woken old.memory new.memory wakes;
  pulls = refl;
  plans = refl;
  falls = 0;
  past_falls = plus-none k.falls;
  paid = omega arith;
  few_falls = omega arith;
  faults = omega arith;
  few_faults = omega arith;
  losts = refl;
  quiet = refl;
  spent = spent-kept no_toll false k old new (Charged-woken old.memory new.memory wakes) spent;
}
followed (Ok (CaughtWaiting t)) m from k old stale new left s spent (is, low, same, marks) = record {
  past = k;
  follows = (is, lowest-open from.memory.chart m t s low, (ap (λ (x : Side). side_of x k) same, marks));
  toll = no_toll;
  charged = Charged-same old.memory new.memory (ap (λ (x : Side). x.memory) same);
  pulls = refl;
  plans = refl;
  falls = 0;
  past_falls = plus-none k.falls;
  paid = omega arith;
  few_falls = omega arith;
  faults = omega arith;
  few_faults = omega arith;
  losts = refl;
  quiet = refl;
  spent = same-spent k old new same spent;
}
followed (Ok (CaughtCopied p)) m from k old stale new left s spent (is, none, low, stood, copies, reckons, marks) = record {
  past = k;
  follows = (record { behind = is; none_open = none-open from.memory.chart m s none; lowest = low }, ap (stood_as k) (stood ∙ sym is), marks);
  toll = no_toll;
  charged = Charged-reckons old.memory new.memory reckons;
  pulls = refl;
  plans = refl;
  falls = 0;
  past_falls = plus-none k.falls;
  paid = omega arith;
  few_falls = omega arith;
  faults = omega arith;
  few_faults = omega arith;
  losts = refl;
  quiet = refl;
  spent = spent-kept no_toll false k old new (Charged-reckons old.memory new.memory reckons) spent;
}
followed (Err CatchBad) m from k old stale new left s spent (is, none, p, low, stood, others, reckons, failed, marks) = record {
  past = k;
  follows = (p, record { behind = is; none_open = none-open from.memory.chart m s none; lowest = low }, (ap (stood_as k) (stood ∙ sym is), marks));
  toll = one_bad;
  charged = Charged-bad old.memory new.memory reckons failed;
  pulls = refl;
  plans = refl;
  falls = 0;
  past_falls = plus-none k.falls;
  paid = omega arith;
  few_falls = omega arith;
  faults = omega arith;
  few_faults = omega arith;
  losts = refl;
  quiet = refl;
  spent = spent-kept one_bad false k old new (Charged-bad old.memory new.memory reckons failed) spent;
}
followed (Err CatchSlipped) m from k old stale new left s spent (stood, slips, marks, rose) = slipped m from k old.standing old stale new left refl s spent stood slips marks rose
followed (Ok CaughtJoined) m from k old stale new left s spent (is, none, fresh, same, marks) = record {
  past = k;
  follows = (is, none-open from.memory.chart m s none, fresh, ap (λ (x : Side). side_of x k) same, marks);
  toll = no_toll;
  charged = Charged-same old.memory new.memory (ap (λ (x : Side). x.memory) same);
  pulls = refl;
  plans = refl;
  falls = 0;
  past_falls = plus-none k.falls;
  paid = omega arith;
  few_falls = omega arith;
  faults = omega arith;
  few_faults = omega arith;
  losts = refl;
  quiet = refl;
  spent = λ dead. ap (λ (x : Side). x.memory.chart.lives) same ∙ spent dead;
}
followed (Ok CaughtWhole) m from k old stale new left s spent never = absurd never
followed (Err CatchOff) m from k old stale new left s spent never = absurd never

-- ---- the pair

pub record CaughtUp (result : Result Caught CatchFault) (k : Known) (old new : Pair) (w : Which) : Type 0 where
  pub left : Known
  pub catches : CatchesBy (is_good old.first) (is_good old.second) (state_of k old w) (caught result) (state_of left new w)
  pub array : left.array ≡ k.array
  pub spent_first : IsSpent left.first new.first
  pub spent_second : IsSpent left.second new.second
  pub first_falls : ℕ
  pub second_falls : ℕ
  pub bill : Bill (sums (count_of is_lost (caught result ∷ [])) (count_of is_fault (caught result ∷ [])) first_falls second_falls) old new
  pub first : left.first.falls ≡ k.first.falls + first_falls
  pub second : left.second.falls ≡ k.second.falls + second_falls
  pub quiet : told_in (caught result ∷ []) ≡ None

good-stands : (s : Side) (stale : List Bool) (m : Array) → Agrees s stale m → is_good s ≡ true → Stands s.memory.chart m
good-stands s stale m agrees good = stands-good s.standing s.memory.chart stale m good agrees

pub caught-up : (result : Result Caught CatchFault) (k : Known) (old new : Pair) (w : Which) → Serves k old → CatchesUp result old new → CaughtUp result k old new w
caught-up result k old new w s catches = at (is_good old.first) (is_good old.second) refl refl catches
  where
    at : (b c : Bool) → is_good old.first ≡ b → is_good old.second ≡ c → Catching b c result old new → CaughtUp result k old new w
    at true true good_first good_second (is, same) = subst (λ (r : Result Caught CatchFault). CaughtUp r k old new w) (sym is) (record {
      left = k;
      catches = subst (λ (b : Bool). CatchesBy b (is_good old.second) (state_of k old w) (caught (Ok CaughtWhole)) (state_of k new w)) (sym good_first) (subst (λ (c : Bool). CatchesBy true c (state_of k old w) (caught (Ok CaughtWhole)) (state_of k new w)) (sym good_second) (refl, ap (λ (p : Pair). state_of k p w) same));
      array = refl;
      spent_first = same-spent k.first old.first new.first (ap (λ (p : Pair). p.first) same) s.first;
      spent_second = same-spent k.second old.second new.second (ap (λ (p : Pair). p.second) same) s.second;
      first_falls = 0;
      second_falls = 0;
      bill = record {
        first = no_toll;
        second = no_toll;
        to_first = Charged-same old.first.memory new.first.memory (ap (λ (p : Pair). p.first.memory) same);
        to_second = Charged-same old.second.memory new.second.memory (ap (λ (p : Pair). p.second.memory) same);
        pulls = omega arith;
        faults = omega arith;
        losts = omega arith;
        plans = refl;
        first_falls = omega arith;
        second_falls = omega arith;
        few_pulls = omega arith;
        few_faults = omega arith;
        few_losts = omega arith;
        few_first = omega arith;
        few_second = omega arith;
      };
      first = plus-none k.first.falls;
      second = plus-none k.second.falls;
      quiet = refl;
    })
    at true false good_first bad_second (helps, same) =
        let f = followed result k.array old.first k.second old.second old.stale new.second new.stale (good-stands old.first old.stale k.array (Mirrors.first s.mirrors) good_first) s.second helps in
        record {
          left = record { array = k.array; first = k.first; second = f.past };
          catches = subst (λ (b : Bool). CatchesBy b (is_good old.second) (state_of k old w) (caught result) (state_of (record { array = k.array; first = k.first; second = f.past }) new w)) (sym good_first) (subst (λ (c : Bool). CatchesBy true c (state_of k old w) (caught result) (state_of (record { array = k.array; first = k.first; second = f.past }) new w)) (sym bad_second) (f.follows, ap (λ (p : Pair). state_of (record { array = k.array; first = k.first; second = f.past }) p w) same));
          array = refl;
          spent_first = same-spent k.first old.first new.first (ap (λ (p : Pair). p.first) same) s.first;
          spent_second = f.spent;
          first_falls = 0;
          second_falls = f.falls;
          bill = record {
            first = no_toll;
            second = f.toll;
            to_first = Charged-same old.first.memory new.first.memory (ap (λ (p : Pair). p.first.memory) same);
            to_second = f.charged;
            pulls = let e = f.pulls in let g = f.faults in omega arith;
            faults = let g = f.faults in omega arith;
            losts = let e = f.losts in omega arith;
            plans = let e = f.plans in omega arith;
            first_falls = omega arith;
            second_falls = let e = f.paid in omega arith;
            few_pulls = let e = f.pulls in omega arith;
            few_faults = f.few_faults;
            few_losts = let e = f.losts in omega arith;
            few_first = omega arith;
            few_second = f.few_falls;
          };
          first = plus-none k.first.falls;
          second = f.past_falls;
          quiet = f.quiet;
        }
    at false true bad_first good_second (helps, same) =
        let f = followed result k.array old.second k.first old.first old.stale new.first new.stale (good-stands old.second old.stale k.array (Mirrors.second s.mirrors) good_second) s.first helps in
        record {
          left = record { array = k.array; first = f.past; second = k.second };
          catches = subst (λ (b : Bool). CatchesBy b (is_good old.second) (state_of k old w) (caught result) (state_of (record { array = k.array; first = f.past; second = k.second }) new w)) (sym bad_first) (subst (λ (c : Bool). CatchesBy false c (state_of k old w) (caught result) (state_of (record { array = k.array; first = f.past; second = k.second }) new w)) (sym good_second) (f.follows, ap (λ (p : Pair). state_of (record { array = k.array; first = f.past; second = k.second }) p w) same));
          array = refl;
          spent_first = f.spent;
          spent_second = same-spent k.second old.second new.second (ap (λ (p : Pair). p.second) same) s.second;
          first_falls = f.falls;
          second_falls = 0;
          bill = record {
            first = f.toll;
            second = no_toll;
            to_first = f.charged;
            to_second = Charged-same old.second.memory new.second.memory (ap (λ (p : Pair). p.second.memory) same);
            pulls = let e = f.pulls in let g = f.faults in omega arith;
            faults = let g = f.faults in omega arith;
            losts = let e = f.losts in omega arith;
            plans = let e = f.plans in omega arith;
            first_falls = let e = f.paid in omega arith;
            second_falls = omega arith;
            few_pulls = let e = f.pulls in omega arith;
            few_faults = f.few_faults;
            few_losts = let e = f.losts in omega arith;
            few_first = f.few_falls;
            few_second = omega arith;
          };
          first = f.past_falls;
          second = plus-none k.second.falls;
          quiet = f.quiet;
        }
    at false false bad_first bad_second (is, same) = absurd (neither (is_good old.first) (is_good old.second) bad_first bad_second (Mirrors.some s.mirrors))

-- a pair with a Good side never answers `Off`
pub never-off : (m : Array) (old new : Pair) → Mirrors old m → CatchesUp (Err CatchOff) old new → ⊥
never-off m old new h catches = at (is_good old.first) (is_good old.second) refl refl catches
  where
    at : (b c : Bool) → is_good old.first ≡ b → is_good old.second ≡ c → Catching b c (Err CatchOff) old new → ⊥
    at true true good_first good_second (is, same) = let never = is in cc
    at true false good_first bad_second (helps, same) = helps
    at false true bad_first good_second (helps, same) = helps
    at false false bad_first bad_second (is, same) = neither (is_good old.first) (is_good old.second) bad_first bad_second (Mirrors.some h)

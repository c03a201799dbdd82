-- A command that went to each Good side, seen without the boards.
use Rattle.std.proofs.Common.{◌≡◌, inl, inr, ℕ, ◌+◌, ◌≤◌, Bool, true, false, [], ◌∷◌, Option, None, Some, refl, sym, ◌∙◌, ap, subst, arith}
use Rattle.std.specs.Prelude.{IsTrue, ◌&&◌}
use Rattle.envy_array.specs.Step.{Command, Answer}
use Rattle.envy_array.specs.Step.{Word as IsWord, Done as IsDone, Started as IsStarted, Range as IsRange, Held as IsHeld, Closed as IsClosed, Full as IsFull, Busy as IsBusy}
use Rattle.envy_mirror.specs.Asking.{Reaches, heard, has_said, is_moving, spoiled_if, cut_by_hand}
use Rattle.envy_mirror.specs.Pair.{Side, Pair, is_good, is_good_by}
use Rattle.envy_mirror.specs.Replies.{Reply as PairReply, Off, Bad as WasBad, Said}
use Rattle.envy_mirror.specs.declared.standing.Standing.{Standing}
use Rattle.envy_mirror.specs.declared.standing.Standing.TheVariants.{Good, Behind, Gone}
use Rattle.envy_serve.specs.Turns.{one_if, count_of}
use Rattle.envy_trace.specs.declared.mirror_reply.MirrorReply.TheVariants.{Array as Plain}
use Rattle.envy_pair.specs.Bills.{Toll, Charged, Sums, Bill}
use Rattle.envy_serve.specs.Answering.{said}
use Rattle.envy_pair.specs.MirrorRun.{is_lost, is_fault, told_in}
use Rattle.envy_pair.specs.Restarting.{no_toll}
use Rattle.envy_pair.specs.Serving.{Past, side_of, IsSpent}
use Rattle.envy_pair.specs.State.{SideState, MayFall}
use Rattle.envy_pair.proofs.Charging.{one_fail, one_bad, one_pull, Charged-trans, Charged-same, Charged-reckons, Charged-failed, Charged-bad, Charged-pulled}

-- ---- one side

-- whether a side whose flash failed is cut, by the command and by what the other replied
abbrev pub is_cut : Command → Option PairReply → Bool
is_cut command other = has_said other && is_moving command

-- whether a side went Gone, by what the other and it replied
abbrev pub fell : Command → Option PairReply → Option PairReply → Bool
fell command other None = false
fell command other (Some Off) = true
fell command other (Some WasBad) = is_cut command other
fell command other (Some (Said answer)) = false

abbrev pub bad_toll : Bool → Toll
bad_toll true = record { pulls = 1; plans = 0; fails = 0; bads = 1 }
bad_toll false = one_bad

abbrev pub reach_toll : Command → Option PairReply → Option PairReply → Toll
reach_toll command other None = no_toll
reach_toll command other (Some Off) = one_fail
reach_toll command other (Some WasBad) = bad_toll (is_cut command other)
reach_toll command other (Some (Said answer)) = no_toll

-- it went Gone once more, or not
abbrev pub past_if : Bool → Past → Past
past_if true k = record { falls = k.falls + 1; dead = k.dead }
past_if false k = k

pub falls-if : (b : Bool) (k : Past) → (past_if b k).falls ≡ k.falls + one_if b
falls-if true k = refl
falls-if false k = omega arith

pub standing-good : (g : Standing) → IsTrue (is_good_by g) → g ≡ Good
standing-good Good so = refl
standing-good Behind so = cc
standing-good Gone so = cc

-- a side with this standing
abbrev pub stood_as : Past → Standing → SideState
stood_as k g = record { standing = g; falls = k.falls; dead = k.dead }

pub fall-stays : (k : Past) (old new : Side) → IsTrue (is_good old) → new.standing ≡ Good → MayFall (side_of old k) (side_of new k)
fall-stays k old new good stood = inl (ap (stood_as k) (stood ∙ sym (standing-good old.standing good)))

pub fall-gone : (k : Past) (old new : Side) → IsTrue (is_good old) → new.standing ≡ Gone → MayFall (side_of old k) (side_of new (past_if true k))
fall-gone k old new good stood = inr (good, ap (stood_as (past_if true k)) stood)

pub record Reached (toll : Toll) (b : Bool) (k : Past) (old new : Side) : Type 0 where
  pub charged : Charged toll old.memory new.memory
  pub falls : MayFall (side_of old k) (side_of new (past_if b k))

pub reached : (command : Command) (other own : Option PairReply) (k : Past) (old new : Side) → (IsTrue (is_good old) → IsTrue old.memory.chart.on) → Reaches command other own old new → Reached (reach_toll command other own) (fell command other own) k old new
reached command other None k old new on (mid, (bad, same), is) =
    let e : new ≡ old = is ∙ same in
    record { charged = Charged-same old.memory new.memory (ap (λ (s : Side). s.memory) e); falls = inl (ap (λ (s : Side). side_of s k) e) }
reached command other (Some Off) k old new on (mid, (good, asks, stood), is) =
    subst (λ (s : Side). Reached one_fail true k old s) (sym is)
    (record { charged = Charged-failed old.memory mid.memory asks.reckons (asks.cut (on good) (asks.off.0 refl)); falls = fall-gone k old mid good stood })
reached command other (Some WasBad) k old new on (mid, (good, asks, stood), is) = at (is_cut command other) is
  where
    bad : Charged one_bad old.memory mid.memory
    bad = Charged-bad old.memory mid.memory asks.reckons (asks.bad refl)

    at : (said_so : Bool) → new ≡ spoiled_if said_so mid → Reached (bad_toll said_so) said_so k old new
    at true same =
        let spoiled : Side = record { memory = cut_by_hand mid.memory; standing = Gone } in
        subst (λ (s : Side). Reached (bad_toll true) true k old s) (sym same)
        (record { charged = Charged-trans one_bad one_pull old.memory mid.memory (cut_by_hand mid.memory) bad (Charged-pulled mid.memory); falls = fall-gone k old spoiled good refl })
    at false same = subst (λ (s : Side). Reached one_bad false k old s) (sym same) (record { charged = bad; falls = fall-stays k old mid good stood })
reached command other (Some (Said answer)) k old new on (mid, (good, asks, stood), is) =
    subst (λ (s : Side). Reached no_toll false k old s) (sym is)
    (record { charged = Charged-reckons old.memory mid.memory asks.reckons; falls = fall-stays k old mid good stood })

-- a side that was found without lives has none still
pub spent-kept : (toll : Toll) (b : Bool) (k : Past) (old new : Side) → Charged toll old.memory new.memory → IsSpent k old → IsSpent (past_if b k) new
spent-kept toll true k old new c spent = λ dead. let none = spent dead in let le = c.lives in omega arith
spent-kept toll false k old new c spent = λ dead. let none = spent dead in let le = c.lives in omega arith

-- ---- what both sides pay

-- a side is cut only where its flash failed, and goes Gone only where its power fails or is cut
pub record Pays (b : Bool) (toll : Toll) : Type 0 where
  pub pulls : toll.pulls ≤ toll.bads
  pub plans : toll.plans ≡ 0
  pub falls : one_if b ≤ toll.pulls + toll.fails

pub pays : (command : Command) (other own : Option PairReply) → Pays (fell command other own) (reach_toll command other own)
pays command other None = record { pulls = omega arith; plans = refl; falls = omega arith }
pays command other (Some Off) = record { pulls = omega arith; plans = refl; falls = omega arith }
pays command other (Some WasBad) = at (is_cut command other)
  where
    at : (b : Bool) → Pays b (bad_toll b)
    at true = record { pulls = omega arith; plans = refl; falls = omega arith }
    at false = record { pulls = omega arith; plans = refl; falls = omega arith }
pays command other (Some (Said answer)) = record { pulls = omega arith; plans = refl; falls = omega arith }

-- what both sides are cut by hand, and fail
abbrev pub both_pulls : Command → Option PairReply → Option PairReply → ℕ
both_pulls command one two = (reach_toll command two one).pulls + (reach_toll command one two).pulls

abbrev pub both_bads : Command → Option PairReply → Option PairReply → ℕ
both_bads command one two = (reach_toll command two one).bads + (reach_toll command one two).bads

abbrev pub both_fails : Command → Option PairReply → Option PairReply → ℕ
both_fails command one two = (reach_toll command two one).fails + (reach_toll command one two).fails

-- where the pair says that flash failed, it did on a side that wasn't cut for it
pub bad-paid : (command : Command) (one two : Option PairReply) → WasBad ≡ heard one two → both_pulls command one two + 1 ≤ both_bads command one two
bad-paid command None None e = cc
bad-paid command None (Some Off) e = cc
bad-paid command None (Some WasBad) e = omega arith
bad-paid command None (Some (Said b)) e = cc
bad-paid command (Some Off) None e = cc
bad-paid command (Some WasBad) None e = omega arith
bad-paid command (Some (Said a)) None e = cc
bad-paid command (Some (Said a)) (Some two) e = cc
bad-paid command (Some WasBad) (Some Off) e = omega arith
bad-paid command (Some WasBad) (Some WasBad) e = omega arith
bad-paid command (Some WasBad) (Some (Said b)) e = cc
bad-paid command (Some Off) (Some Off) e = cc
bad-paid command (Some Off) (Some WasBad) e = omega arith
bad-paid command (Some Off) (Some (Said b)) e = cc

-- where it says that power is off, power failed on a side
pub off-paid : (command : Command) (one two : Option PairReply) → (one ≡ None → two ≡ None → ⊥) → Off ≡ heard one two → 1 ≤ both_fails command one two
off-paid command None None some e = absurd (some refl refl)
off-paid command None (Some Off) some e = omega arith
off-paid command None (Some WasBad) some e = cc
off-paid command None (Some (Said b)) some e = cc
off-paid command (Some Off) None some e = omega arith
off-paid command (Some WasBad) None some e = cc
off-paid command (Some (Said a)) None some e = cc
off-paid command (Some (Said a)) (Some two) some e = cc
off-paid command (Some WasBad) (Some Off) some e = cc
off-paid command (Some WasBad) (Some WasBad) some e = cc
off-paid command (Some WasBad) (Some (Said b)) some e = cc
off-paid command (Some Off) (Some Off) some e = omega arith
off-paid command (Some Off) (Some WasBad) some e = cc
off-paid command (Some Off) (Some (Said b)) some e = cc

few-cut : (b : Bool) → (bad_toll b).pulls ≤ 1
few-cut true = omega arith
few-cut false = omega arith

-- only one side can be cut since the other did the command
few-pulled : (command : Command) (one two : Option PairReply) → both_pulls command one two ≤ 1
few-pulled command None None = omega arith
few-pulled command None (Some Off) = omega arith
few-pulled command None (Some WasBad) = omega arith
few-pulled command None (Some (Said b)) = omega arith
few-pulled command (Some Off) None = omega arith
few-pulled command (Some Off) (Some Off) = omega arith
few-pulled command (Some Off) (Some WasBad) = omega arith
few-pulled command (Some Off) (Some (Said b)) = omega arith
few-pulled command (Some WasBad) None = omega arith
few-pulled command (Some WasBad) (Some Off) = omega arith
few-pulled command (Some WasBad) (Some WasBad) = omega arith
few-pulled command (Some WasBad) (Some (Said b)) = let few = few-cut (is_moving command) in omega arith
few-pulled command (Some (Said a)) None = omega arith
few-pulled command (Some (Said a)) (Some Off) = omega arith
few-pulled command (Some (Said a)) (Some WasBad) = let few = few-cut (is_moving command) in omega arith
few-pulled command (Some (Said a)) (Some (Said b)) = omega arith

few-one : (b : Bool) → one_if b ≤ 1
few-one true = omega arith
few-one false = omega arith

-- what the pair replied, with the failures that it tells
pub record Paid (lost_ones failed_ones : ℕ) (command : Command) (one two : Option PairReply) : Type 0 where
  pub bads : both_pulls command one two + failed_ones ≤ both_bads command one two
  pub losts : lost_ones ≤ both_fails command one two
  pub few_losts : lost_ones ≤ 1
  pub few_faults : failed_ones ≤ 1

pub both-pay : (command : Command) (one two : Option PairReply) → both_pulls command one two + 0 ≤ both_bads command one two
both-pay command one two = let x = Pays.pulls (pays command two one) in let y = Pays.pulls (pays command one two) in omega arith

abbrev pub sums : ℕ → ℕ → ℕ → ℕ → Sums
sums losts faults first second = record { lines = 1; powers = 0; plans = 0; losts = losts; faults = faults; first_falls = first; second_falls = second }

pub bill-paid : (losts faults : ℕ) (command : Command) (one two : Option PairReply) (old new : Pair) → Paid losts faults command one two → Charged (reach_toll command two one) old.first.memory new.first.memory → Charged (reach_toll command one two) old.second.memory new.second.memory → Bill (sums losts faults (one_if (fell command two one)) (one_if (fell command one two))) old new
bill-paid losts faults command one two old new paid first second =
    let p = pays command two one in
    let q = pays command one two in
    let bads = paid.bads in
    record {
      first = reach_toll command two one;
      second = reach_toll command one two;
      to_first = first;
      to_second = second;
      pulls = omega arith;
      faults = omega arith;
      losts = paid.losts;
      plans = let x = Pays.plans p in let y = Pays.plans q in omega arith;
      first_falls = Pays.falls p;
      second_falls = Pays.falls q;
      few_pulls = few-pulled command one two;
      few_faults = paid.few_faults;
      few_losts = paid.few_losts;
      few_first = few-one (fell command two one);
      few_second = few-one (fell command one two);
    }

-- ---- replies that tell no failure

pub quiet-said : (answer : Answer) → (count_of is_lost (Plain (said answer) ∷ []) ≡ 0) × (count_of is_fault (Plain (said answer) ∷ []) ≡ 0) × (told_in (Plain (said answer) ∷ []) ≡ None)
quiet-said (IsWord w) = (refl, refl, refl)
quiet-said IsDone = (refl, refl, refl)
quiet-said (IsStarted t) = (refl, refl, refl)
quiet-said IsRange = (refl, refl, refl)
quiet-said (IsHeld u) = (refl, refl, refl)
quiet-said IsClosed = (refl, refl, refl)
quiet-said IsFull = (refl, refl, refl)
quiet-said IsBusy = (refl, refl, refl)

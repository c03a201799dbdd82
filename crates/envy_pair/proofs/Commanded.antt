-- A command on a pair, seen without the boards: some side is left, or none.
use Rattle.std.proofs.Common.{◌≡◌, ◌⊎◌, inl, inr, ℕ, ◌+◌, Bool, true, false, List, [], ◌∷◌, Option, None, refl, sym, ◌∙◌, ap, subst, arith}
use Rattle.std.specs.Prelude.{IsTrue, ◌||◌}
use Rattle.std.proofs.lemmas.Bool.{or_cases}
use Rattle.envy_array.specs.Array.{Array}
use Rattle.envy_array.specs.Step.{Command}
use Rattle.envy_base.specs.declared.shape.Shape.{Shape}
use Rattle.envy_soundness.specs.Sound.{IsSound}
use Rattle.envy_meaning.specs.Stands.{Stands, Holds, IsLost as LostIn}
use Rattle.envy_soundness.specs.Words.{durable}
use Rattle.envy_memory.proofs.Stepped.{lost-fresh}
use Rattle.envy_memory.specs.Calls.{fresh}
use Rattle.envy_pair.proofs.Sides.{stands-good, neither, reach-none}
use Rattle.envy_mirror.specs.Asking.{Answers, AsksBoth, Reaches, heard}
use Rattle.envy_mirror.specs.Mirroring.{Mirrors, Gives, Agrees}
use Rattle.envy_mirror.specs.Pair.{Side, Pair, is_good, is_good_by, side_at, IsDark, IsPair, IsSide, IsSideBy, MayLead, Leads}
use Rattle.envy_mirror.specs.Replies.{Reply as PairReply, Off, Bad as WasBad, Said, marked}
use Rattle.envy_mirror.specs.declared.standing.Standing.{Standing}
use Rattle.envy_mirror.specs.declared.standing.Standing.TheVariants.{Good, Behind, Gone}
use Rattle.envy_mirror.specs.declared.standing.Which.{Which}
use Rattle.envy_mirror.specs.declared.standing.Which.TheVariants.{First, Second}
use Rattle.envy_serve.specs.Turns.{one_if, count_of}
use Rattle.envy_trace.specs.declared.reply.Reply.{Reply}
use Rattle.envy_trace.specs.declared.reply.Reply.TheVariants.{Lost}
use Rattle.envy_trace.specs.declared.mirror_reply.MirrorReply.TheVariants.{Array as Plain}
use Rattle.envy_pair.specs.Bills.{Charged, Bill}
use Rattle.envy_pair.specs.Hearing.{shown, Commanded}
use Rattle.envy_serve.specs.Answering.{said}
use Rattle.envy_pair.specs.MirrorRun.{may_fault, is_lost, is_fault, told_in, IsTold, Darkens}
use Rattle.envy_pair.specs.Restarting.{last_side, IsFallen}
use Rattle.envy_pair.specs.Serving.{Known, state_of, IsSpent, Serves}
use Rattle.envy_pair.specs.State.{Falls}
use Rattle.envy_pair.proofs.Commanding.{fell, reach_toll, past_if, falls-if, Reached, reached, spent-kept, Paid, bad-paid, off-paid, both-pay, bill-paid, sums, quiet-said}

-- ---- a pair of which no side is Good

pub both-false : (a b : Bool) → a ≡ false → b ≡ false → (a || b) ≡ false
both-false true b e f = cc
both-false false b e f = f

gone-led : (g other : Standing) → is_good_by g ≡ false → MayLead g other → g ≡ Gone
gone-led Good other not_good leads = cc
gone-led Behind other not_good leads = absurd leads
gone-led Gone other not_good leads = refl

last-gone : (one : Which) (p : Pair) → Leads one p.first.standing p.second.standing → IsDark p → (side_at one p).standing ≡ Gone
last-gone First p leads dark = gone-led p.first.standing p.second.standing dark.0 leads
last-gone Second p leads dark = gone-led p.second.standing p.first.standing dark.1 leads

last-side : (one : Which) (p : Pair) → IsPair p → IsSide (side_at one p)
last-side First p i = i.first
last-side Second p i = i.second

-- the side that was Good last has no power
pub fallen-dark : (p : Pair) → IsPair p → IsDark p → IsFallen p
fallen-dark p i dark =
    let gone = last-gone p.last p i.last dark in
    record { dark = dark; standing = gone; off = subst (λ (g : Standing). IsSideBy g (last_side p).memory.chart) gone (last-side p.last p i) }

shadows-at : (n : ℕ) (one : Which) (p : Pair) → IsPair p → n ≡ p.first.memory.chart.shape.shadows → n ≡ (side_at one p).memory.chart.shape.shadows
shadows-at n First p i e = e
shadows-at n Second p i e = e ∙ sym (ap (λ (sh : Shape). sh.shadows) i.shape)

-- both boards have the array's number of shadows
pub shadows-last : (m : Array) (old new : Pair) → IsPair new → Mirrors old m → new.first.memory.chart.shape ≡ old.first.memory.chart.shape → new.second.memory.chart.shape ≡ old.second.memory.chart.shape → m.shadows ≡ (last_side new).memory.chart.shape.shadows
shadows-last m old new i h first second = shadows-at m.shadows new.last new i (at (or_cases (is_good old.first) (is_good old.second) h.some))
  where
    at : (is_good old.first ≡ true) ⊎ (is_good old.second ≡ true) → m.shadows ≡ new.first.memory.chart.shape.shadows
    at (inl good) = Holds.shadows (Stands.holds (stands-good old.first.standing old.first.memory.chart old.stale m good h.first)) ∙ sym (ap (λ (sh : Shape). sh.shadows) first)
    at (inr good) = Holds.shadows (Stands.holds (stands-good old.second.standing old.second.memory.chart old.stale m good h.second)) ∙ sym (ap (λ (sh : Shape). sh.shadows) second) ∙ ap (λ (sh : Shape). sh.shadows) i.shape

-- ---- a command

-- some side is Good
pub record Lit (command : Command) (reply : Reply) (k : Known) (old new : Pair) (w : Which) : Type 0 where
  pub left : Known
  pub told : IsTold (state_of k old w) command (Plain reply ∷ []) (state_of left new w)
  pub serves : Serves left new
  pub first_falls : ℕ
  pub second_falls : ℕ
  pub bill : Bill (sums (count_of is_lost (Plain reply ∷ [])) (count_of is_fault (Plain reply ∷ [])) first_falls second_falls) old new
  pub first : left.first.falls ≡ k.first.falls + first_falls
  pub second : left.second.falls ≡ k.second.falls + second_falls
  pub quiet : told_in (Plain reply ∷ []) ≡ None

-- none is
pub record Dark (command : Command) (k : Known) (old new : Pair) (w : Which) : Type 0 where
  pub left : Known
  pub darkens : Darkens (state_of k old w) command (state_of left new w)
  pub fallen : IsFallen new
  pub sound : IsSound (last_side new).memory.chart
  pub words : durable (last_side new).memory.chart ≡ left.array.words
  pub is_fresh : fresh (last_side new).memory.chart.shape.shadows left.array.words ≡ left.array
  pub spent_first : IsSpent left.first new.first
  pub spent_second : IsSpent left.second new.second
  pub first_falls : ℕ
  pub second_falls : ℕ
  pub bill : Bill (sums 1 0 first_falls second_falls) old new
  pub first : left.first.falls ≡ k.first.falls + first_falls
  pub second : left.second.falls ≡ k.second.falls + second_falls

good-on : (s : Side) (stale : List Bool) (m : Array) → Agrees s stale m → IsTrue (is_good s) → IsTrue s.memory.chart.on
good-on s stale m agrees good = Stands.on (stands-good s.standing s.memory.chart stale m good agrees)

pub commanded : (command : Command) (reply : Reply) (k : Known) (old new : Pair) (w : Which) → IsPair new → Serves k old → Commanded command reply old new → Lit command reply k old new w ⊎ ((reply ≡ Lost) × Dark command k old new w)
commanded command reply k old new w i s c =
    subst (λ (r : Reply). Lit command r k old new w ⊎ ((r ≡ Lost) × Dark command k old new w)) (sym c.shows)
    (at c.answer (AsksBoth.told both) (Answers.step c.answers k.array s.mirrors) (Answers.stale c.answers) c.faults)
  where
    both : AsksBoth command c.answer old.first old.second new.first new.second
    both = Answers.both c.answers

    one : Option PairReply
    one = AsksBoth.one both

    two : Option PairReply
    two = AsksBoth.two both

    to_first : Reached (reach_toll command two one) (fell command two one) k.first old.first new.first
    to_first = reached command two one k.first old.first new.first (good-on old.first old.stale k.array (Mirrors.first s.mirrors)) (AsksBoth.to_first both)

    to_second : Reached (reach_toll command one two) (fell command one two) k.second old.second new.second
    to_second = reached command one two k.second old.second new.second (good-on old.second old.stale k.array (Mirrors.second s.mirrors)) (AsksBoth.to_second both)

    some : one ≡ None → two ≡ None → ⊥
    some e f =
        neither (is_good old.first) (is_good old.second)
        (reach-none command two old.first new.first (subst (λ (o : Option PairReply). Reaches command two o old.first new.first) e (AsksBoth.to_first both))).0
        (reach-none command one old.second new.second (subst (λ (o : Option PairReply). Reaches command one o old.second new.second) f (AsksBoth.to_second both))).0
        (Mirrors.some s.mirrors)

    left : Array → Known
    left n = record { array = n; first = past_if (fell command two one) k.first; second = past_if (fell command one two) k.second }

    falls : (n : Array) → Falls (state_of k old w) (state_of (left n) new w)
    falls n = record { first = Reached.falls to_first; second = Reached.falls to_second; last = Answers.last c.answers; chosen = refl }

    spent_first : IsSpent (past_if (fell command two one) k.first) new.first
    spent_first = spent-kept (reach_toll command two one) (fell command two one) k.first old.first new.first (Reached.charged to_first) s.first

    spent_second : IsSpent (past_if (fell command one two) k.second) new.second
    spent_second = spent-kept (reach_toll command one two) (fell command one two) k.second old.second new.second (Reached.charged to_second) s.second

    bill : (losts faults : ℕ) → Paid losts faults command one two → Bill (sums losts faults (one_if (fell command two one)) (one_if (fell command one two))) old new
    bill losts faults paid = bill-paid losts faults command one two old new paid (Reached.charged to_first) (Reached.charged to_second)

    at : (r : PairReply) → r ≡ heard one two → Gives k.array command r new → new.stale ≡ marked command r old.stale → (r ≡ WasBad → IsTrue (may_fault command)) → Lit command (shown r) k old new w ⊎ ((shown r ≡ Lost) × Dark command k old new w)
    at (Said answer) told (n, step, mirrors) stale may =
        let quiet = quiet-said answer in
        inl (record {
          left = left n;
          told = record { falls = falls n; some = Mirrors.some mirrors; told = inl (record { answer = answer; step = step; says = refl; stale = stale }) };
          serves = record { mirrors = mirrors; first = spent_first; second = spent_second };
          first_falls = one_if (fell command two one);
          second_falls = one_if (fell command one two);
          bill = bill (count_of is_lost (Plain (said answer) ∷ [])) (count_of is_fault (Plain (said answer) ∷ [])) (record { bads = let e = both-pay command one two in let f = quiet.1 in omega arith; losts = let f = quiet.0 in omega arith; few_losts = let f = quiet.0 in omega arith; few_faults = let f = quiet.1 in omega arith });
          first = falls-if (fell command two one) k.first;
          second = falls-if (fell command one two) k.second;
          quiet = quiet.2;
        })
    at WasBad told (n, accepts, mirrors) stale may =
        inl (record {
          left = left k.array;
          told = record { falls = falls k.array; some = Mirrors.some mirrors; told = inr (record { may = may refl; accepted = (n, accepts); says = refl; array = refl; stale = stale }) };
          serves = record { mirrors = mirrors; first = spent_first; second = spent_second };
          first_falls = one_if (fell command two one);
          second_falls = one_if (fell command one two);
          bill = bill 0 1 (record { bads = bad-paid command one two told; losts = omega arith; few_losts = omega arith; few_faults = omega arith });
          first = falls-if (fell command two one) k.first;
          second = falls-if (fell command one two) k.second;
          quiet = refl;
        })
    at Off told (dark, lost) stale may =
        let (n, lost_as, words) = LostIn.words lost in
        let shadows = shadows-last k.array old new i s.mirrors (Charged.shape (Reached.charged to_first)) (Charged.shape (Reached.charged to_second)) in
        inr (
          refl,
          record {
            left = left n;
            darkens = record { falls = falls n; none = both-false (is_good new.first) (is_good new.second) dark.0 dark.1; lost = lost_as; stale = stale };
            fallen = fallen-dark new i dark;
            sound = LostIn.sound lost;
            words = words;
            is_fresh = subst (λ (x : ℕ). fresh x n.words ≡ n) shadows (lost-fresh k.array command n lost_as);
            spent_first = spent_first;
            spent_second = spent_second;
            first_falls = one_if (fell command two one);
            second_falls = one_if (fell command one two);
            bill = bill 1 0 (record { bads = both-pay command one two; losts = off-paid command one two some told; few_losts = omega arith; few_faults = omega arith });
            first = falls-if (fell command two one) k.first;
            second = falls-if (fell command one two) k.second;
          },
        )

-- What holds of every pair goes on to hold once a command went to each Good side.
use Rattle.std.proofs.Common.{◌≡◌, ◌⊎◌, inl, inr, ◌≤◌, Bool, true, false, length, Option, None, Some, refl, sym, ◌∙◌, ap, subst}
use Rattle.std.specs.Prelude.{IsTrue, ◌&&◌, ◌↔◌, if◌then◌else◌}
use Rattle.envy_array.specs.Step.{Command}
use Rattle.envy_base.specs.declared.shape.Shape.{Shape}
use Rattle.envy_memory.proofs.Facts.{on-from}
use Rattle.envy_mirror.specs.Asking.{Asked, Reckons, Reaches, heard, has_said, is_moving, spoiled_if}
use Rattle.envy_mirror.specs.Pair.{Side, Pair, is_good, is_good_by, IsDark, IsPair, IsSide, IsSideBy, Leads, MayLead, lasting}
use Rattle.envy_mirror.specs.Replies.{Reply, Off, Bad, Said, marked}
use Rattle.envy_mirror.specs.declared.standing.Standing.{Standing}
use Rattle.envy_mirror.specs.declared.standing.Standing.TheVariants.{Good, Behind, Gone}
use Rattle.envy_mirror.specs.declared.standing.Which.{Which}
use Rattle.envy_mirror.specs.declared.standing.Which.TheVariants.{First, Second}
use Rattle.envy_mirror.proofs.Telling.{length-marked, only-first, only-second, reach-none}

-- ---- one side

side-good : (s : Side) → s.standing ≡ Good → IsTrue s.memory.chart.on → IsSide s
side-good s good on = subst (λ (g : Standing). IsSideBy g s.memory.chart) (sym good) on

side-gone : (s : Side) → s.standing ≡ Gone → s.memory.chart.on ≡ false → IsSide s
side-gone s gone off = subst (λ (g : Standing). IsSideBy g s.memory.chart) (sym gone) off

-- a side that was asked, by its reply
pub side-asked : (command : Command) (reply : Reply) (old mid : Side) → Asked command (Some reply) old mid → IsSide mid
side-asked command Off old mid (good, asks, stood) = side-gone mid stood (asks.off.0 refl)
side-asked command Bad old mid (good, asks, stood) = side-good mid stood (on-from mid.memory.chart.on (λ off. let clash : Bad ≡ Off = asks.off.1 off in cc))
side-asked command (Said answer) old mid (good, asks, stood) = side-good mid stood (on-from mid.memory.chart.on (λ off. let clash : Said answer ≡ Off = asks.off.1 off in cc))

side-spoiled : (b : Bool) (mid : Side) → IsSide mid → IsSide (spoiled_if b mid)
side-spoiled true mid is = refl
side-spoiled false mid is = is

-- a call leaves a side a side,
pub side-reached : (command : Command) (other own : Option Reply) (old new : Side) → IsSide old → Reaches command other own old new → IsSide new
side-reached command other None old new side reach = subst IsSide (sym (reach-none command other old new reach).1) side
side-reached command other (Some Off) old new side (mid, asked, is) = subst IsSide (sym is) (side-asked command Off old mid asked)
side-reached command other (Some Bad) old new side (mid, asked, is) = subst IsSide (sym is) (side-spoiled (has_said other && is_moving command) mid (side-asked command Bad old mid asked))
side-reached command other (Some (Said answer)) old new side (mid, asked, is) = subst IsSide (sym is) (side-asked command (Said answer) old mid asked)

shape-asked : (command : Command) (reply : Reply) (old mid : Side) → Asked command (Some reply) old mid → mid.memory.chart.shape ≡ old.memory.chart.shape
shape-asked command reply old mid (good, asks, stood) = Reckons.shape asks.reckons

shape-spoiled : (b : Bool) (mid : Side) → (spoiled_if b mid).memory.chart.shape ≡ mid.memory.chart.shape
shape-spoiled true mid = refl
shape-spoiled false mid = refl

-- and its shape
pub shape-reached : (command : Command) (other own : Option Reply) (old new : Side) → Reaches command other own old new → new.memory.chart.shape ≡ old.memory.chart.shape
shape-reached command other None old new reach = ap (λ (s : Side). s.memory.chart.shape) (reach-none command other old new reach).1
shape-reached command other (Some Off) old new (mid, asked, is) = ap (λ (s : Side). s.memory.chart.shape) is ∙ shape-asked command Off old mid asked
shape-reached command other (Some Bad) old new (mid, asked, is) = ap (λ (s : Side). s.memory.chart.shape) is ∙ shape-spoiled (has_said other && is_moving command) mid ∙ shape-asked command Bad old mid asked
shape-reached command other (Some (Said answer)) old new (mid, asked, is) = ap (λ (s : Side). s.memory.chart.shape) is ∙ shape-asked command (Said answer) old mid asked

-- ---- who was Good last

-- a side that was asked is Good or Gone
abbrev IsSettled : Standing → Type 0
IsSettled g = (g ≡ Good) ⊎ (g ≡ Gone)

settled-reached : (command : Command) (other : Option Reply) (reply : Reply) (old new : Side) → Reaches command other (Some reply) old new → IsSettled new.standing
settled-reached command other Off old new (mid, (good, asks, stood), is) = inr (ap (λ (s : Side). s.standing) is ∙ stood)
settled-reached command other (Said answer) old new (mid, (good, asks, stood), is) = inl (ap (λ (s : Side). s.standing) is ∙ stood)
settled-reached command other Bad old new (mid, (good, asks, stood), is) = at (has_said other && is_moving command) is
  where
    at : (b : Bool) → new ≡ spoiled_if b mid → IsSettled new.standing
    at true e = inr (ap (λ (s : Side). s.standing) e)
    at false e = inl (ap (λ (s : Side). s.standing) e ∙ stood)

leads-settled : (first second : Standing) → IsSettled first → IsSettled second → Leads (if is_good_by first then First else Second) first second
leads-settled first second (inl good) s = rw good tt
leads-settled first second (inr gone) (inl good) = rw (gone, good) tt
leads-settled first second (inr gone) (inr too) = rw (gone, too) tt

may-lead : (one other : Standing) → IsSettled one → is_good_by other ≡ false → MayLead one other
may-lead one Good settled not_so = cc
may-lead one Behind (inl good) not_so = rw good tt
may-lead one Behind (inr gone) not_so = rw gone tt
may-lead one Gone (inl good) not_so = rw good tt
may-lead one Gone (inr gone) not_so = rw gone tt

was-good : (command : Command) (other : Option Reply) (reply : Reply) (old new : Side) → Reaches command other (Some reply) old new → is_good old ≡ true
was-good command other reply old new (mid, (good, asks, stood), is) = good

-- the side that was good last leads
pub leads-reached : (old new : Pair) (command : Command) (one two : Option Reply) → IsPair old → Reaches command two one old.first new.first → Reaches command one two old.second new.second → Leads (lasting old new) new.first.standing new.second.standing
leads-reached old new command None None i first second =
    let f = reach-none command None old.first new.first first in
    let s = reach-none command None old.second new.second second in
    rw (f.1, s.1, f.0) i.last
leads-reached old new command None (Some two) i first second =
    let f = reach-none command (Some two) old.first new.first first in
    let was = was-good command None two old.second new.second second in
    let last = only-second old.last old.first.standing old.second.standing i.last f.0 was in
    let settled = settled-reached command None two old.second new.second second in
    rw (f.0, last, f.1) (may-lead new.second.standing old.first.standing settled f.0)
leads-reached old new command (Some one) None i first second =
    let s = reach-none command (Some one) old.second new.second second in
    let was = was-good command None one old.first new.first first in
    let last = only-first old.last old.first.standing old.second.standing i.last was s.0 in
    let settled = settled-reached command None one old.first new.first first in
    rw (was, s.0, last, s.1) (may-lead new.first.standing old.second.standing settled s.0)
leads-reached old new command (Some one) (Some two) i first second =
    let was = was-good command (Some two) one old.first new.first first in
    let too = was-good command (Some one) two old.second new.second second in
    rw (was, too) (leads-settled new.first.standing new.second.standing (settled-reached command (Some two) one old.first new.first first) (settled-reached command (Some one) two old.second new.second second))

-- ---- the pair

-- a call leaves a pair
pub IsPair-reached : (old new : Pair) (command : Command) (one two : Option Reply) (reply : Reply) → IsPair old → Reaches command two one old.first new.first → Reaches command one two old.second new.second → new.stale ≡ marked command reply old.stale → new.last ≡ lasting old new → IsPair new
IsPair-reached old new command one two reply i first second stale last =
    let shape = shape-reached command two one old.first new.first first in
    let too = shape-reached command one two old.second new.second second in
    record {
      first = side-reached command two one old.first new.first i.first first;
      second = side-reached command one two old.second new.second i.second second;
      shape = too ∙ i.shape ∙ sym shape;
      marks = ap length stale ∙ length-marked command reply old.stale ∙ i.marks ∙ ap (λ (sh : Shape). sh.pages) (sym shape);
      few = subst (λ (sh : Shape). sh.pages ≤ 16777216) (sym shape) i.few;
      last = subst (λ (w : Which). Leads w new.first.standing new.second.standing) (sym last) (leads-reached old new command one two i first second);
    }

-- ---- no side is Good

abbrev left_good : Command → Option Reply → Option Reply → Bool
left_good command other None = false
left_good command other (Some Off) = false
left_good command other (Some Bad) = if has_said other && is_moving command then false else true
left_good command other (Some (Said answer)) = true

good-reached : (command : Command) (other own : Option Reply) (old new : Side) → Reaches command other own old new → is_good new ≡ left_good command other own
good-reached command other None old new reach = let r = reach-none command other old new reach in ap is_good r.1 ∙ r.0
good-reached command other (Some Off) old new (mid, (good, asks, stood), is) = ap is_good is ∙ ap is_good_by stood
good-reached command other (Some (Said answer)) old new (mid, (good, asks, stood), is) = ap is_good is ∙ ap is_good_by stood
good-reached command other (Some Bad) old new (mid, (good, asks, stood), is) = at (has_said other && is_moving command) is
  where
    at : (b : Bool) → new ≡ spoiled_if b mid → is_good new ≡ (if b then false else true)
    at true e = ap is_good e
    at false e = ap is_good e ∙ ap is_good_by stood

abbrev IsLeftDark : Command → Option Reply → Option Reply → Type 0
IsLeftDark command one two = (left_good command two one ≡ false) × (left_good command one two ≡ false)

dark-heard : (command : Command) (one two : Option Reply) → (heard one two ≡ Off) ↔ IsLeftDark command one two
dark-heard command None None = ((λ e. (refl, refl)), (λ d. refl))
dark-heard command None (Some Off) = ((λ e. (refl, refl)), (λ d. refl))
dark-heard command None (Some Bad) = ((λ e. cc), (λ d. let clash : true ≡ false = d.1 in cc))
dark-heard command None (Some (Said y)) = ((λ e. cc), (λ d. let clash : true ≡ false = d.1 in cc))
dark-heard command (Some Off) None = ((λ e. (refl, refl)), (λ d. refl))
dark-heard command (Some Bad) None = ((λ e. cc), (λ d. let clash : true ≡ false = d.0 in cc))
dark-heard command (Some (Said x)) None = ((λ e. cc), (λ d. let clash : true ≡ false = d.0 in cc))
dark-heard command (Some Off) (Some Off) = ((λ e. (refl, refl)), (λ d. refl))
dark-heard command (Some Off) (Some Bad) = ((λ e. cc), (λ d. let clash : true ≡ false = d.1 in cc))
dark-heard command (Some Off) (Some (Said y)) = ((λ e. cc), (λ d. let clash : true ≡ false = d.1 in cc))
dark-heard command (Some Bad) (Some Off) = ((λ e. cc), (λ d. let clash : true ≡ false = d.0 in cc))
dark-heard command (Some Bad) (Some Bad) = ((λ e. cc), (λ d. let clash : true ≡ false = d.0 in cc))
dark-heard command (Some Bad) (Some (Said y)) = ((λ e. cc), (λ d. let clash : true ≡ false = d.1 in cc))
dark-heard command (Some (Said x)) (Some Off) = ((λ e. cc), (λ d. let clash : true ≡ false = d.0 in cc))
dark-heard command (Some (Said x)) (Some Bad) = ((λ e. cc), (λ d. let clash : true ≡ false = d.0 in cc))
dark-heard command (Some (Said x)) (Some (Said y)) = ((λ e. cc), (λ d. let clash : true ≡ false = d.0 in cc))

-- a pair is dark where it says so
pub dark-reached : (old new : Pair) (command : Command) (one two : Option Reply) (reply : Reply) → Reaches command two one old.first new.first → Reaches command one two old.second new.second → reply ≡ heard one two → (reply ≡ Off) ↔ IsDark new
dark-reached old new command one two reply first second told =
    let f = good-reached command two one old.first new.first first in
    let s = good-reached command one two old.second new.second second in
    rw (told, f, s) (dark-heard command one two)

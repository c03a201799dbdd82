use Rattle.std.proofs.Common.{refl, arith, subst, sym, ◌∙◌, Option, Some}
use Rattle.std.proofs.lemmas.Bool.{ltb-true, ltb-false}
use Rattle.envy_policy.specs.declared.fraction.Fraction.{Fraction}
use Rattle.envy_policy.specs.declared.fraction.Weighed.{Weighed}
use Rattle.envy_policy.specs.Lifetime.{IsBestBelow, IsFull, IsAtMost}
use Rattle.envy_policy.specs.Notes.{Notes, IsNotes}
use Rattle.envy_policy.proofs.Weighing.{best-small, best-found, best-passed, best-first, best-stays, full-read, no-dead, one-free, IsSmall}
use Rattle.envy_policy.proofs.lifetime.Lifetime.weigh.Goals as goal
use Rattle.envy_policy.proofs.lifetime.Lifetime.weigh.Goals.{then-dead-eq0-via-then-dead-eq0, then-dead-eq0-via-else-dead-eq0+then-free-gt0}

pub exceeds-requires-clause-other_over : goal.exceeds-requires-clause-other_over
exceeds-requires-clause-other_over g c =
    let rows = g.R.Rows.counts c.args.rows.now in
    let whole : IsNotes c.args.self.now = subst (λ (n : Notes). IsNotes n) c.self.view_is c.self.invariant in
    let was : IsBestBelow c.args.position c.args.self.now rows c.args.class (Some c.in-Some.weighed) = subst (λ (b : Option Weighed). IsBestBelow c.args.position c.args.self.now rows c.args.class b) c.in-Some.is c.requires.best in
    IsSmall.over (best-small c.args.position c.args.self.now rows _ c.args.class c.in-Some.weighed whole c.requires.rows was)

pub returns-then-exceeds : goal.returns-then-exceeds
returns-then-exceeds g c =
    let rows = g.R.Rows.counts c.args.rows.now in
    let was : IsBestBelow c.args.position c.args.self.now rows c.args.class (Some c.in-Some.weighed) = subst (λ (b : Option Weighed). IsBestBelow c.args.position c.args.self.now rows c.args.class b) c.in-Some.is c.requires.best in
    let more = ltb-true _ _ (sym c.exceeds.ensures ∙ c.if-exceeds.true) in
    best-found c.args.position c.args.self.now rows c.args.class c.in-Some.weighed (record { position = c.args.position; worth = c.worth-worth.result }) c.worth-worth.ensures.worth (omega arith, omega arith) more (omega arith) was

pub returns-then-dead-eq0 : goal.returns-then-dead-eq0
returns-then-dead-eq0 g c =
    let rows = g.R.Rows.counts c.args.rows.now in
    let not : IsFull rows c.args.position → ⊥ = elim c.then-dead-eq0.branch [
      | then-dead-eq0-via-then-dead-eq0 w ↦ no-dead rows c.args.position c.dead.result c.dead.ensures w.if-dead-eq0.true
      | then-dead-eq0-via-else-dead-eq0+then-free-gt0 w ↦ one-free rows c.args.position w.free.result w.free.ensures w.if-free-gt0.true
    ] in
    best-passed c.args.position c.args.self.now rows c.args.class c.args.best not c.requires.best

pub returns-in_default : goal.returns-in_default
returns-in_default g c =
    let rows = g.R.Rows.counts c.args.rows.now in
    let none = subst (λ (b : Option Weighed). IsBestBelow c.args.position c.args.self.now rows c.args.class b) c.in_default.is c.requires.best in
    let full = full-read rows c.args.position _ _ c.dead.ensures c.if-dead-eq0.false c.free.ensures c.if-free-gt0.false in
    best-first c.args.position c.args.self.now rows c.args.class (record { position = c.args.position; worth = c.worth-worth.result }) refl c.worth-worth.ensures.worth full none

pub returns : goal.returns
returns g c =
    let rows = g.R.Rows.counts c.args.rows.now in
    let was = subst (λ (b : Option Weighed). IsBestBelow c.args.position c.args.self.now rows c.args.class b) c.in-Some.is c.requires.best in
    let less = subst (λ (a : Fraction). IsAtMost a c.in-Some.weighed.worth) c.worth-worth.ensures.worth (ltb-false _ _ (sym c.exceeds.ensures ∙ c.if-exceeds.false)) in
    best-stays c.args.position c.args.self.now rows c.args.class c.in-Some.weighed less was

pub exceeds-requires-clause-over : goal.exceeds-requires-clause-over
exceeds-requires-clause-over g c = c.worth-worth.ensures.over

pub exceeds-requires-clause-under : goal.exceeds-requires-clause-under
exceeds-requires-clause-under g c = c.worth-worth.ensures.under

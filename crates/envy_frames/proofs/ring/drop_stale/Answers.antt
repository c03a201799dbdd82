use Rattle.std.proofs.Common.{◌≡◌, ◌∙◌, ◌<◌, length, Option, Some, refl, sym, ap, subst}
use Rattle.std.specs.Prelude.{IfSome, slice_get}
use Rattle.circular_buffer.specs.Buffer.{Buffer}
use Rattle.envy_frames.specs.Entries.{AreStamped, held_in}
use Rattle.envy_frames.specs.declared.entry.Entry.{Entry}
use Rattle.envy_frames.proofs.Live.{AreStamped-dropped, first-none, first-of, held-dropped, live-first}
use Rattle.envy_frames.proofs.ring.drop_stale.Goals as goal

pub loop-oldest-init : goal.loop-oldest-init
loop-oldest-init c = record { stamped = c.requires.stamped; held = refl; capacity = refl }

pub bounds-stamps-oldest : goal.bounds-stamps-oldest
bounds-stamps-oldest c =
    let some : slice_get c.loop-oldest.entries.items 0 ≡ Some c.in-Some.oldest = sym c.front.ensures ∙ sym c.copied.ensures ∙ c.in-Some.is in
    subst (λ (o : Option Entry). IfSome o (λ e. e.held.frame < length c.args.stamps.now)) some (first-of (λ e. e.held.frame < length c.args.stamps.now) c.loop-oldest.entries.items c.loop-oldest.invariant.stamped.below)

pub returns-then-stamps-oldest : goal.returns-then-stamps-oldest
returns-then-stamps-oldest c = record {
  stamped = c.loop-oldest.invariant.stamped;
  held = c.loop-oldest.invariant.held;
  live = live-first c.args.stamps.now c.loop-oldest.entries.items c.in-Some.oldest (sym c.front.ensures ∙ sym c.copied.ensures ∙ c.in-Some.is) c.if-stamps-oldest.true;
  capacity = c.loop-oldest.invariant.capacity;
}

pub loop-oldest-preserved : goal.loop-oldest-preserved
loop-oldest-preserved c =
    let stamps = c.args.stamps.now in
    let entries = c.loop-oldest.entries in
    let is = c.pop_front-stale.ensures.items in
    record {
      stamped = subst (λ (b : Buffer Entry). AreStamped b stamps) (sym is) (AreStamped-dropped entries stamps c.loop-oldest.invariant.stamped);
      held = ap (λ (b : Buffer Entry). held_in stamps b.items) is ∙ held-dropped stamps entries.items c.in-Some.oldest (sym c.front.ensures ∙ sym c.copied.ensures ∙ c.in-Some.is) c.if-stamps-oldest.false ∙ c.loop-oldest.invariant.held;
      capacity = ap (λ (b : Buffer Entry). b.capacity) is ∙ c.loop-oldest.invariant.capacity;
    }

pub returns : goal.returns
returns c = record {
  stamped = c.loop-oldest.invariant.stamped;
  held = c.loop-oldest.invariant.held;
  live = first-none _ c.loop-oldest.entries.items (sym c.front.ensures ∙ sym c.copied.ensures ∙ c.in_default.is);
  capacity = c.loop-oldest.invariant.capacity;
}

use Rattle.std.proofs.Common.{◌≡◌, ◌∙◌, ◌<◌, ◌++◌, ◌∷◌, [], ℕ, List, Some, length, ap, sym, subst}
use Rattle.std.specs.Prelude.{◌↔◌, IsNone, vec_capacity}
use Rattle.std.proofs.lemmas.List.{append-nil}
use Rattle.std.specs.List.{All}
use Rattle.envy_frames.specs.declared.held.Held.{Held}
use Rattle.envy_frames.specs.Entries.{AreStamped, IsLiveFirst, held_in}
use Rattle.envy_frames.specs.Order.{IsUnheld, IsFrames, Order}
use Rattle.envy_frames.proofs.Lists.{All-last}
use Rattle.envy_frames.proofs.Stacks.{IsFrames-taken, free-some, not-all, room-taken}
use Rattle.envy_frames.proofs.Rings.{IsRing-taken}
use Rattle.envy_frames.proofs.frames.Frames.take.Goals as goal

abbrev the-order : List Held → ℕ → Order
the-order hs n = record { held = hs; count = n }

pub invariant_of-self-2 : goal.invariant_of-self-2
invariant_of-self-2 c =
    let inside = c.self.inside in
    let stamps = inside.stamps.items in
    let held = held_in stamps inside.entries.items in
    let new : Held = record { frame = c.in_ok-frame.frame; page = c.args.page; home = c.args.home } in
    let order = c.self.invariant.0 in
    let top = c.in_ok-frame.ensures.items in
    let unheld : IsUnheld held new.frame = All-last (IsUnheld held) c.pop.new.self.items new.frame (subst (All (IsUnheld held)) top order.unheld) in
    let low : new.frame < length stamps = All-last (λ x. x < length stamps) c.pop.new.self.items new.frame (subst (All (λ x. x < length stamps)) top order.below) in
    let read = c.deref.ensures.value in
    let joined : held_in stamps c.append.new.entries.items ≡ held ++ new ∷ [] = subst (λ (ss : List ℕ). held_in ss c.append.new.entries.items ≡ held_in ss inside.entries.items ++ new ∷ []) read c.append.ensures.held in
    let frames : IsFrames (record { held = held ++ new ∷ []; count = length stamps }) c.pop.new.self.items _ inside.marks.items = IsFrames-taken (record { held = held; count = length stamps }) inside.free.items c.pop.new.self.items _ _ new.frame new.page new.home top order in (
      rw (joined, c.pop.ensures.capacity) frames,
      IsRing-taken inside.entries c.append.new.entries stamps inside.homes.items new c.self.invariant.1 low unheld
          (subst (AreStamped c.append.new.entries) read c.append.ensures.stamped) joined
          (subst (λ (ss : List ℕ). IsLiveFirst ss c.append.new.entries.items) read (c.append.ensures.live (subst (λ (ss : List ℕ). IsLiveFirst ss inside.entries.items) (sym read) c.self.invariant.1.live)))
          c.append.ensures.capacity,
    )

pub invariant_of-self : goal.invariant_of-self
invariant_of-self c =
    let inside = c.self.inside in
    let o : Order = record { held = held_in inside.stamps.items inside.entries.items; count = length inside.stamps.items } in (
      rw c.pop.ensures.capacity (subst (λ (xs : List ℕ). IsFrames o xs (vec_capacity inside.free) inside.marks.items) (c.in_err-frame.ensures.items ∙ append-nil c.pop.new.self.items) c.self.invariant.0),
      c.self.invariant.1,
    )

pub append-requires : goal.append-requires
append-requires c =
    let inside = c.self.inside in
    let stamps = inside.stamps.items in
    let held = held_in stamps inside.entries.items in
    let frame = c.in_ok-frame.frame in
    let order = c.self.invariant.0 in
    let top = c.in_ok-frame.ensures.items in
    let unheld : IsUnheld held frame = All-last (IsUnheld held) c.pop.new.self.items frame (subst (All (IsUnheld held)) top order.unheld) in
    let low : frame < length stamps = All-last (λ x. x < length stamps) c.pop.new.self.items frame (subst (All (λ x. x < length stamps)) top order.below) in
    let few = free-some (record { held = held; count = length stamps }) inside.free.items c.pop.new.self.items _ frame _ top order in
    let read = sym c.deref.ensures.value in
    record {
      stamped = subst (AreStamped inside.entries) read c.self.invariant.1.stamped;
      frame = subst (λ (ss : List ℕ). frame < length ss) read low;
      unheld = subst (λ (ss : List ℕ). IsUnheld (held_in ss inside.entries.items) frame) read unheld;
      few = subst (λ (ss : List ℕ). length (held_in ss inside.entries.items) < inside.entries.capacity) read (room-taken (length held) (length stamps) inside.entries.capacity few c.self.invariant.1.twice);
    }

pub returns : goal.returns
returns c =
    let inside = c.self.inside in
    let stamps = inside.stamps.items in
    let held = held_in stamps inside.entries.items in
    let frame = c.in_ok-frame.frame in
    let new : Held = record { frame = frame; page = c.args.page; home = c.args.home } in
    let order = c.self.invariant.0 in
    let top = c.in_ok-frame.ensures.items in
    let unheld : IsUnheld held frame = All-last (IsUnheld held) c.pop.new.self.items frame (subst (All (IsUnheld held)) top order.unheld) in
    let low : frame < length stamps = All-last (λ x. x < length stamps) c.pop.new.self.items frame (subst (All (λ x. x < length stamps)) top order.below) in
    let few = free-some (record { held = held; count = length stamps }) inside.free.items c.pop.new.self.items _ frame _ top order in
    let joined : held_in stamps c.append.new.entries.items ≡ held ++ new ∷ [] = subst (λ (ss : List ℕ). held_in ss c.append.new.entries.items ≡ held_in ss inside.entries.items ++ new ∷ []) c.deref.ensures.value c.append.ensures.held in
    record {
      newest = ap (λ (hs : List Held). the-order hs (length stamps)) joined ∙ ap (λ (o : Order). the-order (o.held ++ new ∷ []) o.count) c.self.view_is;
      within = subst (λ (o : Order). frame < o.count) c.self.view_is low;
      unheld = subst (λ (o : Order). IsUnheld o.held frame) c.self.view_is unheld;
      all = subst (λ (o : Order). IsNone (Some frame) ↔ (length o.held ≡ o.count)) c.self.view_is (not-all (record { held = held; count = length stamps }) frame few);
      none = tt;
    }

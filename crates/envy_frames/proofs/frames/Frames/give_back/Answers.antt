use Rattle.std.proofs.Common.{◌≡◌, ◌++◌, ◌∷◌, [], ℕ, List, length, subst, sym, ◌∙◌, arith}
use Rattle.std.specs.Prelude.{Any}
use Rattle.std.specs.List.{filter}
use Rattle.envy_frames.specs.Entries.{AreStamped, IsLiveFirst, held_in}
use Rattle.envy_frames.specs.Order.{Order, is_other}
use Rattle.envy_frames.proofs.Stacks.{IsFrames-given}
use Rattle.envy_frames.proofs.Rings.{IsRing-given}
use Rattle.envy_frames.proofs.Lists.{Any-length}
use Rattle.envy_frames.proofs.Marks.{with_pushed}
use Rattle.envy_frames.proofs.frames.Frames.give_back.Goals as goal

pub invariant_of-self : goal.invariant_of-self
invariant_of-self c =
    let inside = c.self.inside in
    let stamps = inside.stamps.items in
    let then_stamps = c.make_stale.new.stamps.items in
    let order = c.self.invariant.0 in
    let was = held_in stamps inside.entries.items in
    let held : Any (λ h. h.frame ≡ c.args.frame) was = subst (λ (o : Order). Any (λ h. h.frame ≡ c.args.frame) o.held) (sym c.self.view_is) c.requires.held in
    let put : c.push-room.new.self.items ≡ inside.free.items ++ c.args.frame ∷ [] = with_pushed inside.free.items c.push-room.new.self.items c.args.frame c.push-room.result c.push-room.ensures.items (c.push-room.ensures.succeeds (omega (arith, inside.free.ok, order.whole, order.fits, Any-length (λ h. h.frame ≡ c.args.frame) was held))) in
    let read = c.deref.ensures.value in
    let left : held_in then_stamps c.drop_stale.new.entries.items ≡ filter (is_other c.args.frame) was =
    subst (λ (ss : List ℕ). held_in ss c.drop_stale.new.entries.items ≡ held_in ss c.make_stale.new.entries.items) read c.drop_stale.ensures.held ∙ c.make_stale.ensures.held in
    let frames = IsFrames-given (record { held = was; count = length stamps }) inside.free.items _ _ inside.marks.items c.args.frame held c.push-room.ensures.capacity order in (
      rw (left, put, c.make_stale.ensures.long) frames,
      IsRing-given inside.entries c.drop_stale.new.entries stamps then_stamps inside.homes.items c.args.frame c.self.invariant.1 c.make_stale.ensures.long
          (subst (AreStamped c.drop_stale.new.entries) read c.drop_stale.ensures.stamped) left
          (subst (λ (ss : List ℕ). IsLiveFirst ss c.drop_stale.new.entries.items) read c.drop_stale.ensures.live)
          (c.drop_stale.ensures.capacity ∙ c.make_stale.ensures.capacity),
    )

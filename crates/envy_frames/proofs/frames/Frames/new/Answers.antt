use Rattle.std.proofs.Common.{◌≡◌, [], List, map, length, sym, ◌∙◌, ap, subst, arith}
use Rattle.circular_buffer.specs.Buffer.{Buffer}
use Rattle.envy_frames.specs.declared.entry.Entry.{Entry}
use Rattle.envy_frames.specs.declared.held.Held.{Held}
use Rattle.envy_frames.specs.Entries.{held_in}
use Rattle.envy_frames.specs.Order.{IsOrder, others_of}
use Rattle.envy_frames.proofs.Live.{held_of}
use Rattle.envy_frames.proofs.Rings.{IsRing-none}
use Rattle.envy_frames.proofs.Stacks.{IsFrames-made, IsOrder-none}
use Rattle.envy_frames.proofs.frames.Frames.new.Goals as goal

pub invariant_of-result : goal.invariant_of-result
invariant_of-result c =
    let entries = c.in_ok-entries.entries in
    let stamps = c.in_ok-stamps.stamps.items in
    let held : held_in stamps entries.items ≡ [] = ap (λ (b : Buffer Entry). held_in stamps b.items) c.in_ok-entries.ensures in
    let count : length stamps ≡ c.args.count = omega (arith, c.in_ok-stamps.stamps.ok, c.in_ok-stamps.ensures.len) in
    let homes : length c.in_ok-homes.homes.items ≡ c.args.count = omega (arith, c.in_ok-homes.homes.ok, c.in_ok-homes.ensures.len) in
    let order : IsOrder (record { held = held_in stamps entries.items; count = length stamps }) = subst (λ (hs : List Held). IsOrder (record { held = hs; count = length stamps })) (sym held) (IsOrder-none (length stamps)) in
    let free : c.free_others.new.free.items ≡ others_of (held_in stamps entries.items) (length c.in_ok-marks.marks.items) =
    c.free_others.ensures.free ∙ ap (λ (b : Buffer Entry). others_of (map held_of b.items) (length c.in_ok-marks.marks.items)) c.in_ok-entries.ensures ∙ ap (λ (hs : List Held). others_of hs (length c.in_ok-marks.marks.items)) (sym held) in (
      IsFrames-made (held_in stamps entries.items) (length stamps) (length c.in_ok-marks.marks.items) _ _ _ order free
          (omega (arith, c.in_ok-marks.marks.ok, c.in_ok-marks.ensures.len, count))
          (omega (arith, c.free_others.ensures.room, c.in_ok-free.ensures.capacity, count))
          (omega (arith, c.free_others.ensures.marks, c.in_ok-marks.marks.ok, c.in_ok-marks.ensures.len, count))
          (omega (arith, c.ranges.count.fits, count)),
      IsRing-none entries stamps c.in_ok-homes.homes.items c.args.count c.in_ok-entries.ensures count homes,
    )

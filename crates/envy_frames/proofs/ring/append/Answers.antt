use Rattle.std.proofs.Common.{get_or, refl, sym, ◌∙◌, ap, subst, arith}
use Rattle.circular_buffer.specs.Buffer.{Buffer}
use Rattle.envy_frames.specs.declared.entry.Entry.{Entry}
use Rattle.envy_frames.specs.Entries.{IsLiveFirst, held_in}
use Rattle.envy_frames.proofs.Live.{AreStamped-joined, first-joined, held-joined}
use Rattle.envy_frames.proofs.Marks.{with_placed}
use Rattle.envy_frames.proofs.ring.append.Goals as goal

pub returns-clause-stamped : goal.returns-clause-stamped
returns-clause-stamped c =
    let stamps = c.args.stamps.now in
    let kept = c.make_room.new.entries in
    let e : Entry = record { held = c.args.held; stamp = get_or stamps c.args.held.frame 0 } in
    let put = with_placed kept c.try_push_back-newest.new.self e c.try_push_back-newest.result c.try_push_back-newest.ensures.variant c.try_push_back-newest.ensures.ok c.make_room.ensures.room in
    rw (put, c.make_room.ensures.capacity) (AreStamped-joined stamps c.args.entries.now.items kept.items e c.make_room.ensures.kept refl c.args.entries.now.capacity c.requires.stamped c.requires.frame (omega (arith, c.make_room.ensures.room, c.make_room.ensures.capacity)))

pub returns-clause-held : goal.returns-clause-held
returns-clause-held c =
    let stamps = c.args.stamps.now in
    let kept = c.make_room.new.entries in
    let e : Entry = record { held = c.args.held; stamp = get_or stamps c.args.held.frame 0 } in
    let put = with_placed kept c.try_push_back-newest.new.self e c.try_push_back-newest.result c.try_push_back-newest.ensures.variant c.try_push_back-newest.ensures.ok c.make_room.ensures.room in
    ap (λ (b : Buffer Entry). held_in stamps b.items) put ∙ held-joined stamps c.args.entries.now.items kept.items e c.make_room.ensures.kept refl

pub returns-clause-live : goal.returns-clause-live
returns-clause-live c = λ live.
    let stamps = c.args.stamps.now in
    let kept = c.make_room.new.entries in
    let e : Entry = record { held = c.args.held; stamp = get_or stamps c.args.held.frame 0 } in
    let put = with_placed kept c.try_push_back-newest.new.self e c.try_push_back-newest.result c.try_push_back-newest.ensures.variant c.try_push_back-newest.ensures.ok c.make_room.ensures.room in
    subst (λ (b : Buffer Entry). IsLiveFirst stamps b.items) (sym put) (first-joined stamps c.args.entries.now.items kept.items e c.make_room.ensures.kept refl live)

use Rattle.std.proofs.Common.{◌≡◌, ◌<◌, true, false, map, get_or, length, ◌∙◌, ap, subst, arith}
use Rattle.std.specs.Prelude.{All, vec_len, vec_capacity}
use Rattle.std.proofs.lemmas.List.{length-set}
use Rattle.std.proofs.lemmas.List.Elements.{All-rest}
use Rattle.envy_frames.specs.Order.{has_frame}
use Rattle.envy_frames.proofs.Live.{held_of}
use Rattle.envy_frames.proofs.Marks.{marked_more, all_marked, pushed, passed_over, with_pushed}
use Rattle.envy_frames.proofs.Stacks.{length-others-le}
use Rattle.envy_frames.proofs.free.free_others.Goals as goal
use Rattle.envy_frames.proofs.free.free_others.Goals.{then-not-held, else-not-held}

pub loop-entry-preserved : goal.loop-entry-preserved
loop-entry-preserved c =
    let marks = c.loop-entry.marks.items in
    let e = c.in-Some.entry.now in
    let is = c.in-Some.ensures.steps in
    let room : e.held.frame < length marks = subst (All (λ x. x.held.frame < length marks)) is c.loop-entry.invariant.below 0 e (omega arith) in
    record {
      long = length-set marks e.held.frame true ∙ c.loop-entry.invariant.long;
      below = λ k d lt. let low = All-rest (λ x. x.held.frame < length marks) e c.next.new.self c.loop-entry.entry-iterator is c.loop-entry.invariant.below k d lt in omega (arith, length-set marks e.held.frame true);
      marks = marked_more marks (map held_of c.loop-entry.entry-iterator) (map held_of c.next.new.self) (map held_of c.args.entries.now.items) e.held (ap (map held_of) is) room c.loop-entry.invariant.marks;
    }

pub loop-frame-preserved : goal.loop-frame-preserved
loop-frame-preserved c =
    let ring = map held_of c.args.entries.now.items in
    let free = c.loop-frame.free in
    let n = c.loop-frame.frame in
    let mark : has_frame ring n ≡ get_or c.deref-held-items.result.now n false = all_marked c.loop-entry.marks.items c.deref-held-items.result.now (map held_of c.loop-entry.entry-iterator) ring (ap (map held_of) c.in-None.ensures.steps.0) c.deref-held-items.ensures.value c.loop-entry.invariant.marks n c.loop-frame-test.true in
    elim c.if-not-held.branch [
      | then-not-held w ↦
          let room : vec_len free < vec_capacity free = omega (arith, free.ok, ap length c.loop-frame.invariant.free, length-others-le ring n, c.loop-frame.invariant.room, c.requires.room, c.loop-frame-test.true, ap length c.deref-held-items.ensures.value, c.loop-entry.invariant.long) in
          rw w.free-is (record {
            free = pushed ring n free.items w.push-room.new.self.items (mark ∙ w.if-not-held.true) c.loop-frame.invariant.free (with_pushed free.items w.push-room.new.self.items n w.push-room.result w.push-room.ensures.items (w.push-room.ensures.succeeds room));
            room = omega (arith, c.loop-frame.invariant.room, w.push-room.ensures.capacity);
          })
      | else-not-held w ↦ rw w.free-is (record {
        free = passed_over ring n free.items (mark ∙ w.if-not-held.false) c.loop-frame.invariant.free;
        room = c.loop-frame.invariant.room;
      })
    ]

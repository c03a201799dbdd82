use Rattle.std.proofs.Common.{◌≡◌, ◌∙◌, inl, inr, ℕ, List, get_or, Option, sym, ap, subst, arith}
use Rattle.envy_base.specs.Counting.{Tally}
use Rattle.envy_base.specs.Shape.{IsShape}
use Rattle.envy_base.specs.State.{IsBoard}
use Rattle.envy_base.specs.declared.shape.Shape.{Shape}
use Rattle.envy_map.specs.Fields.{Fields, chart}
use Rattle.envy_soundness.specs.Same.{Same, Stays, Framed}
use Rattle.envy_soundness.specs.Sound.{Sound, IsSpare}
use Rattle.envy_space.specs.Pool.{IsPoolOf}
use Rattle.envy_reloc.specs.declared.row_copy.Left.{Left}
use Rattle.envy_reloc.specs.declared.row_move.Move.{Move}
use Rattle.envy_reloc.specs.Phases.{NextMove}
use Rattle.envy_reloc.specs.Plan.{Plan, IsPlanOf}
use Rattle.envy_reloc.specs.Rows.{NextKept, HasRoom, IsLowestRoom}
use Rattle.envy_reloc.proofs.Counts.{counts_by_copy, counts_by_move, counts_by_none, apart_by_copy, apart_by_move, apart_by_none}
use Rattle.envy_reloc.proofs.KeepLemmas.{AllFollow-still, FramesStay-switched}
use Rattle.envy_reloc.proofs.CopyLemmas.{AllCopied-next, CopiedWhole-made}
use Rattle.envy_reloc.proofs.StepLemmas.{Found, spare-is, within-move, within-copy, err-of, SpoilsCopy-found, CopiesOne-found, SwitchesSegment-made}
use Rattle.envy_soundness.proofs.Sames.{same_within}
use Rattle.envy_reloc.proofs.Exits.{unpowered, off-after, off-if, off-bad, err-after, err-if, ok-bad}
use Rattle.envy_reloc.proofs.PlanLemmas.{Plan-switched}
use Rattle.envy_reloc.proofs.reloc.Reloc.go_on.Goals as goal

pub move_next-requires-clause-ready : goal.move_next-requires-clause-ready
move_next-requires-clause-ready g c =
    let ready = c.requires.ready in
    record { on = ready.on; sound = ready.sound; pool = ready.pool; plan = c.in_ok-next.ensures.plan; parted = ready.parted }

pub move_next-requires-clause-next : goal.move_next-requires-clause-next
move_next-requires-clause-next g c =
    let old = chart (g.B.Board.state c.args.board.now) in
    let pool = c.args.space.now in
    let next = subst (λ (m : Option Move). NextMove old.shape old.fields c.args.segment c.args.self.now m c.next_move.new.self) c.in-Some.is c.in_ok-next.ensures.next in
    let bound = c.requires.ready.plan.prepared.aside c.args.segment next.5 next.6 c.requires.copying next.7 in
    let last = bound.1 in
    let low = IsLowestRoom.below next.8 in
    let segments : pool.shape.segments ≡ old.shape.segments = ap (λ (sh : Shape). sh.segments) (IsPoolOf.shape c.requires.ready.pool) in
    let reserves : pool.shape.reserves ≡ old.shape.reserves = ap (λ (sh : Shape). sh.reserves) (IsPoolOf.shape c.requires.ready.pool) in
    record {
      v = c.args.segment;
      copying = c.requires.copying;
      room = subst (λ (sh : Shape). HasRoom sh pool.fills pool.positions c.args.segment c.in-Some.next.position) (sym (IsPoolOf.shape c.requires.ready.pool))
          (subst (λ (xs : List ℕ). HasRoom old.shape xs pool.positions c.args.segment c.in-Some.next.position) (sym (IsPoolOf.fills c.requires.ready.pool))
          (subst (λ (xs : List ℕ). HasRoom old.shape old.fields.fills xs c.args.segment c.in-Some.next.position) (sym (IsPoolOf.positions c.requires.ready.pool)) (IsLowestRoom.has next.8)));
      position = omega arith;
      page = next.2;
      back = next.3;
      named = next.4;
    }

pub copy_left-requires-clause-ready : goal.copy_left-requires-clause-ready
copy_left-requires-clause-ready g c =
    let ready = c.requires.ready in
    record { on = ready.on; sound = ready.sound; pool = ready.pool; plan = c.in_ok-next.ensures.plan; parted = ready.parted }

pub switch_segment-requires-clause-agree : goal.switch_segment-requires-clause-agree
switch_segment-requires-clause-agree g c = record { pool = c.requires.ready.pool; cache = c.requires.cache; parted = c.requires.ready.parted }

pub returns-in_err-copy_left-in-Some-2-clause-follow : goal.returns-in_err-copy_left-in-Some-2-clause-follow
returns-in_err-copy_left-in-Some-2-clause-follow g c =
    let e = c.copy_left.ensures in
    AllFollow-still (chart (g.B.Board.state c.args.board.now)) (chart (g.B.Board.state c.copy_left.new.board)) c.args.space.now c.copy_left.new.space c.copy_left.new.self c.args.cache.now e.same e.follow e.places c.requires.cache

pub returns-in_ok-copy_left-in-Some-2-clause-follow : goal.returns-in_ok-copy_left-in-Some-2-clause-follow
returns-in_ok-copy_left-in-Some-2-clause-follow g c =
    let e = c.copy_left.ensures in
    AllFollow-still (chart (g.B.Board.state c.args.board.now)) (chart (g.B.Board.state c.copy_left.new.board)) c.args.space.now c.copy_left.new.space c.copy_left.new.self c.args.cache.now e.same e.follow e.places c.requires.cache

pub switch_segment-requires-clause-copied : goal.switch_segment-requires-clause-copied
switch_segment-requires-clause-copied g c =
    let old = chart (g.B.Board.state c.args.board.now) in
    let e = c.spare-spare.result in
    let plan = c.in_ok-next.ensures.plan in
    let spare = subst (λ (sh : Shape). IsSpare sh old.fields.positions e) (IsPoolOf.shape c.requires.ready.pool) (subst (λ (xs : List ℕ). IsSpare c.args.space.now.shape xs e) (IsPoolOf.positions c.requires.ready.pool) c.spare-spare.ensures.spare) in
    let none = subst (λ (l : Option Left). NextKept old.shape old.fields c.args.segment c.next_move.new.self.mark l) c.in-None.is (subst (λ (m : ℕ). NextKept old.shape old.fields c.args.segment m c.in_ok-left.field-0) (ap (λ (p : Plan). p.mark) c.self.view_is) c.in_ok-left.ensures.next) in
    let all = AllCopied-next old.shape old.fields c.args.segment e c.next_move.new.self.mark c.requires.copying spare plan.marked none in
    CopiedWhole-made old.shape old.fields old.flash c.args.segment e c.requires.ready.sound c.requires.copying spare (plan.prepared.copies c.args.segment e c.requires.copying spare) all

pub returns-in_ok-switch_segment-in-None-clause-follow : goal.returns-in_ok-switch_segment-in-None-clause-follow
returns-in_ok-switch_segment-in-None-clause-follow g c =
    let old = chart (g.B.Board.state c.args.board.now) in
    let new = chart (g.B.Board.state c.switch_segment.new.board) in
    let follow = c.switch_segment.ensures.follow in
    let all = c.in_ok-switch_segment-in-None.ensures.switches in
    record {
      pool = follow.pool;
      plan = λ on. subst (λ (sh : Shape). IsPlanOf sh new.fields new.flash c.next_move.new.self) (sym (Framed.shape (Stays.framed (Same.stays c.switch_segment.ensures.same))))
          (Plan-switched old.shape old.fields new.fields new.flash c.args.segment c.spare-spare.result c.next_move.new.self (subst (λ (fl : List (List ℕ)). Sound old.shape old.fields fl) (sym c.in_ok-switch_segment-in-None.ensures.flash) c.requires.ready.sound) c.requires.copying all);
      parted = follow.parted;
      cache = follow.cache;
      frames = λ on. FramesStay-switched old.shape c.args.segment c.spare-spare.result old.fields new.fields all;
      shape = follow.shape;
      rests = follow.rests;
    }

pub returns-in_err-move_next-clause-within : goal.returns-in_err-move_next-clause-within
returns-in_err-move_next-clause-within g c n e s left =
    let old = chart (g.B.Board.state c.args.board.now) in
    let new = chart (g.B.Board.state c.move_next.new.board) in
    let next = subst (λ (m : Option Move). NextMove old.shape old.fields c.args.segment c.args.self.now m c.next_move.new.self) c.in-Some.is c.in_ok-next.ensures.next in
    within-move old new c.args.self.now c.args.segment c.in-Some.next.row n e s c.next_move.new.self.moves c.requires.copying next.0 c.move_next.ensures.same left

pub returns-in-Some-clause-within : goal.returns-in-Some-clause-within
returns-in-Some-clause-within g c n e s left =
    let old = chart (g.B.Board.state c.args.board.now) in
    let new = chart (g.B.Board.state c.move_next.new.board) in
    let next = subst (λ (m : Option Move). NextMove old.shape old.fields c.args.segment c.args.self.now m c.next_move.new.self) c.in-Some.is c.in_ok-next.ensures.next in
    within-move old new c.args.self.now c.args.segment c.in-Some.next.row n e s c.next_move.new.self.moves c.requires.copying next.0 c.move_next.ensures.same left

pub returns-in_err-copy_left-in-Some-2-clause-within : goal.returns-in_err-copy_left-in-Some-2-clause-within
returns-in_err-copy_left-in-Some-2-clause-within g c n e s left_over =
    let old = chart (g.B.Board.state c.args.board.now) in
    let mid = c.next_move.new.self in
    let none = subst (λ (m : Option Move). NextMove old.shape old.fields c.args.segment c.args.self.now m mid) c.in_default.is c.in_ok-next.ensures.next in
    let next = subst (λ (l : Option Left). NextKept old.shape old.fields c.args.segment mid.mark l) c.in-Some-2.is (subst (λ (m : ℕ). NextKept old.shape old.fields c.args.segment m c.in_ok-left.field-0) (ap (λ (p : Plan). p.mark) c.self.view_is) c.in_ok-left.ensures.next) in
    let found : Found old c.args.self.now mid c.args.segment c.spare-spare.result c.in-Some-2.left = record {
      sound = c.requires.ready.sound;
      some = (let two = IsShape.rows (IsBoard.shape (g.met.B.Board.lawful c.args.board.now)) in omega arith);
      copying = c.requires.copying;
      no_move = none.0;
      agrees = c.in_ok-next.ensures.plan;
      none = none.1;
      becomes = c.next_move.ensures.becomes;
      spare = spare-is old.shape old.fields c.args.space.now c.spare-spare.result c.requires.ready.pool c.spare-spare.ensures.spare;
      next = next;
    } in
    within-copy old (chart (g.B.Board.state c.copy_left.new.board)) c.args.self.now mid c.args.segment c.spare-spare.result n e s c.in-Some-2.left found c.copy_left.ensures.same left_over

pub returns-in_ok-copy_left-in-Some-2-clause-within : goal.returns-in_ok-copy_left-in-Some-2-clause-within
returns-in_ok-copy_left-in-Some-2-clause-within g c n e s left_over =
    let old = chart (g.B.Board.state c.args.board.now) in
    let mid = c.next_move.new.self in
    let none = subst (λ (m : Option Move). NextMove old.shape old.fields c.args.segment c.args.self.now m mid) c.in_default.is c.in_ok-next.ensures.next in
    let next = subst (λ (l : Option Left). NextKept old.shape old.fields c.args.segment mid.mark l) c.in-Some-2.is (subst (λ (m : ℕ). NextKept old.shape old.fields c.args.segment m c.in_ok-left.field-0) (ap (λ (p : Plan). p.mark) c.self.view_is) c.in_ok-left.ensures.next) in
    let found : Found old c.args.self.now mid c.args.segment c.spare-spare.result c.in-Some-2.left = record {
      sound = c.requires.ready.sound;
      some = (let two = IsShape.rows (IsBoard.shape (g.met.B.Board.lawful c.args.board.now)) in omega arith);
      copying = c.requires.copying;
      no_move = none.0;
      agrees = c.in_ok-next.ensures.plan;
      none = none.1;
      becomes = c.next_move.ensures.becomes;
      spare = spare-is old.shape old.fields c.args.space.now c.spare-spare.result c.requires.ready.pool c.spare-spare.ensures.spare;
      next = next;
    } in
    within-copy old (chart (g.B.Board.state c.copy_left.new.board)) c.args.self.now mid c.args.segment c.spare-spare.result n e s c.in-Some-2.left found c.copy_left.ensures.same left_over

pub returns-in_err-copy_left-in-Some-2-clause-fails : goal.returns-in_err-copy_left-in-Some-2-clause-fails
returns-in_err-copy_left-in-Some-2-clause-fails g c bad =
    let old = chart (g.B.Board.state c.args.board.now) in
    let mid = c.next_move.new.self in
    let none = subst (λ (m : Option Move). NextMove old.shape old.fields c.args.segment c.args.self.now m mid) c.in_default.is c.in_ok-next.ensures.next in
    let next = subst (λ (l : Option Left). NextKept old.shape old.fields c.args.segment mid.mark l) c.in-Some-2.is (subst (λ (m : ℕ). NextKept old.shape old.fields c.args.segment m c.in_ok-left.field-0) (ap (λ (p : Plan). p.mark) c.self.view_is) c.in_ok-left.ensures.next) in
    let found : Found old c.args.self.now mid c.args.segment c.spare-spare.result c.in-Some-2.left = record {
      sound = c.requires.ready.sound;
      some = (let two = IsShape.rows (IsBoard.shape (g.met.B.Board.lawful c.args.board.now)) in omega arith);
      copying = c.requires.copying;
      no_move = none.0;
      agrees = c.in_ok-next.ensures.plan;
      none = none.1;
      becomes = c.next_move.ensures.becomes;
      spare = spare-is old.shape old.fields c.args.space.now c.spare-spare.result c.requires.ready.pool c.spare-spare.ensures.spare;
      next = next;
    } in
    let was = err-of c.from_residual-in_err-copy_left-in-Some-2.result c.copy_left.result _ c.from_residual-in_err-copy_left-in-Some-2.ensures.1 c.in_err-copy_left-in-Some-2.was bad in
    let fails = c.copy_left.ensures.fails was in
    record {
      spoils = inr (inl (SpoilsCopy-found old (chart (g.B.Board.state c.copy_left.new.board)) c.args.self.now mid c.copy_left.new.self c.args.segment c.spare-spare.result c.in-Some-2.left found fails.spoilt fails.becomes));
      job = ap (λ (f : Fields). f.job) fails.spoilt.fields;
      dropped = λ _. ap (λ (p : Plan). p.moves) fails.becomes;
      bad = fails.bad;
    }

pub returns-in_ok-copy_left-in-Some-2-clause-does : goal.returns-in_ok-copy_left-in-Some-2-clause-does
returns-in_ok-copy_left-in-Some-2-clause-does g c =
    let old = chart (g.B.Board.state c.args.board.now) in
    let mid = c.next_move.new.self in
    let none = subst (λ (m : Option Move). NextMove old.shape old.fields c.args.segment c.args.self.now m mid) c.in_default.is c.in_ok-next.ensures.next in
    let next = subst (λ (l : Option Left). NextKept old.shape old.fields c.args.segment mid.mark l) c.in-Some-2.is (subst (λ (m : ℕ). NextKept old.shape old.fields c.args.segment m c.in_ok-left.field-0) (ap (λ (p : Plan). p.mark) c.self.view_is) c.in_ok-left.ensures.next) in
    let found : Found old c.args.self.now mid c.args.segment c.spare-spare.result c.in-Some-2.left = record {
      sound = c.requires.ready.sound;
      some = (let two = IsShape.rows (IsBoard.shape (g.met.B.Board.lawful c.args.board.now)) in omega arith);
      copying = c.requires.copying;
      no_move = none.0;
      agrees = c.in_ok-next.ensures.plan;
      none = none.1;
      becomes = c.next_move.ensures.becomes;
      spare = spare-is old.shape old.fields c.args.space.now c.spare-spare.result c.requires.ready.pool c.spare-spare.ensures.spare;
      next = next;
    } in
    CopiesOne-found old (chart (g.B.Board.state c.copy_left.new.board)) c.args.self.now mid c.copy_left.new.self c.args.segment c.spare-spare.result c.in-Some-2.left found c.in_ok-copy_left-in-Some-2.ensures.copies.copied
    c.in_ok-copy_left-in-Some-2.ensures.copies.becomes

pub returns-in_ok-switch_segment-in-None-clause-does : goal.returns-in_ok-switch_segment-in-None-clause-does
returns-in_ok-switch_segment-in-None-clause-does g c =
    let old = chart (g.B.Board.state c.args.board.now) in
    let mid = c.next_move.new.self in
    let none = subst (λ (m : Option Move). NextMove old.shape old.fields c.args.segment c.args.self.now m mid) c.in_default.is c.in_ok-next.ensures.next in
    let next = subst (λ (l : Option Left). NextKept old.shape old.fields c.args.segment mid.mark l) c.in-None.is (subst (λ (m : ℕ). NextKept old.shape old.fields c.args.segment m c.in_ok-left.field-0) (ap (λ (p : Plan). p.mark) c.self.view_is) c.in_ok-left.ensures.next) in
    SwitchesSegment-made old (chart (g.B.Board.state c.switch_segment.new.board)) c.args.self.now mid c.args.segment c.spare-spare.result c.requires.copying none.0 c.in_ok-next.ensures.plan none.1 c.next_move.ensures.becomes
    (spare-is old.shape old.fields c.args.space.now c.spare-spare.result c.requires.ready.pool c.spare-spare.ensures.spare) next c.in_ok-switch_segment-in-None.ensures.switches c.in_ok-switch_segment-in-None.ensures.flash

pub returns-in_err-move_next-clause-apart : goal.returns-in_err-move_next-clause-apart
returns-in_err-move_next-clause-apart g c =
    let old = chart (g.B.Board.state c.args.board.now) in
    let next = subst (λ (m : Option Move). NextMove old.shape old.fields c.args.segment c.args.self.now m c.next_move.new.self) c.in-Some.is c.in_ok-next.ensures.next in
    apart_by_move old c.args.segment c.args.self.now c.next_move.new.self c.move_next.new.self c.in-Some.next c.requires.copying next (c.move_next.ensures.counts.copied ∙ ap (λ (p : Plan). p.copied) c.next_move.ensures.becomes)

pub returns-in-Some-clause-apart : goal.returns-in-Some-clause-apart
returns-in-Some-clause-apart g c =
    let old = chart (g.B.Board.state c.args.board.now) in
    let next = subst (λ (m : Option Move). NextMove old.shape old.fields c.args.segment c.args.self.now m c.next_move.new.self) c.in-Some.is c.in_ok-next.ensures.next in
    apart_by_move old c.args.segment c.args.self.now c.next_move.new.self c.move_next.new.self c.in-Some.next c.requires.copying next (c.move_next.ensures.counts.copied ∙ ap (λ (p : Plan). p.copied) c.next_move.ensures.becomes)

pub returns-in_err-move_next-clause-counts : goal.returns-in_err-move_next-clause-counts
returns-in_err-move_next-clause-counts g c =
    let old = chart (g.B.Board.state c.args.board.now) in
    let mid = c.next_move.new.self in
    let new = chart (g.B.Board.state c.move_next.new.board) in
    let was = c.next_move.ensures.becomes in
    let counts = c.move_next.ensures.counts in
    counts_by_move old new c.args.self.now c.move_next.new.self c.move_next.ensures.same (subst (λ (n : ℕ). Tally old.begun n new.begun c.move_next.new.self.moved) (ap (λ (p : Plan). p.moved) was) counts.moved) (counts.copied ∙ ap (λ (p : Plan). p.copied) was) (counts.erased ∙ ap (λ (p : Plan). p.erased) was) (counts.since ∙ ap (λ (p : Plan). p.since) was)

pub returns-in-Some-clause-counts : goal.returns-in-Some-clause-counts
returns-in-Some-clause-counts g c =
    let old = chart (g.B.Board.state c.args.board.now) in
    let mid = c.next_move.new.self in
    let new = chart (g.B.Board.state c.move_next.new.board) in
    let was = c.next_move.ensures.becomes in
    let counts = c.move_next.ensures.counts in
    counts_by_move old new c.args.self.now c.move_next.new.self c.move_next.ensures.same (subst (λ (n : ℕ). Tally old.begun n new.begun c.move_next.new.self.moved) (ap (λ (p : Plan). p.moved) was) counts.moved) (counts.copied ∙ ap (λ (p : Plan). p.copied) was) (counts.erased ∙ ap (λ (p : Plan). p.erased) was) (counts.since ∙ ap (λ (p : Plan). p.since) was)

pub returns-in_err-copy_left-in-Some-2-clause-counts : goal.returns-in_err-copy_left-in-Some-2-clause-counts
returns-in_err-copy_left-in-Some-2-clause-counts g c =
    let old = chart (g.B.Board.state c.args.board.now) in
    let mid = c.next_move.new.self in
    let new = chart (g.B.Board.state c.copy_left.new.board) in
    let was = c.next_move.ensures.becomes in
    let counts = c.copy_left.ensures.counts in
    counts_by_copy old new c.args.self.now c.copy_left.new.self c.copy_left.ensures.same (subst (λ (n : ℕ). Tally old.begun n new.begun c.copy_left.new.self.copied) (ap (λ (p : Plan). p.copied) was) counts.copied) (counts.moved ∙ ap (λ (p : Plan). p.moved) was) (counts.erased ∙ ap (λ (p : Plan). p.erased) was) (counts.since ∙ ap (λ (p : Plan). p.since) was)

pub returns-in_err-copy_left-in-Some-2-clause-apart : goal.returns-in_err-copy_left-in-Some-2-clause-apart
returns-in_err-copy_left-in-Some-2-clause-apart g c =
    let old = chart (g.B.Board.state c.args.board.now) in
    let mid = c.next_move.new.self in
    let none = subst (λ (m : Option Move). NextMove old.shape old.fields c.args.segment c.args.self.now m mid) c.in_default.is c.in_ok-next.ensures.next in
    apart_by_copy old c.args.segment c.args.self.now c.copy_left.new.self c.requires.copying none.0 (c.copy_left.ensures.counts.moved ∙ ap (λ (p : Plan). p.moved) c.next_move.ensures.becomes)

pub returns-in_ok-copy_left-in-Some-2-clause-counts : goal.returns-in_ok-copy_left-in-Some-2-clause-counts
returns-in_ok-copy_left-in-Some-2-clause-counts g c =
    let old = chart (g.B.Board.state c.args.board.now) in
    let mid = c.next_move.new.self in
    let new = chart (g.B.Board.state c.copy_left.new.board) in
    let was = c.next_move.ensures.becomes in
    let counts = c.copy_left.ensures.counts in
    counts_by_copy old new c.args.self.now c.copy_left.new.self c.copy_left.ensures.same (subst (λ (n : ℕ). Tally old.begun n new.begun c.copy_left.new.self.copied) (ap (λ (p : Plan). p.copied) was) counts.copied) (counts.moved ∙ ap (λ (p : Plan). p.moved) was) (counts.erased ∙ ap (λ (p : Plan). p.erased) was) (counts.since ∙ ap (λ (p : Plan). p.since) was)

pub returns-in_ok-copy_left-in-Some-2-clause-apart : goal.returns-in_ok-copy_left-in-Some-2-clause-apart
returns-in_ok-copy_left-in-Some-2-clause-apart g c =
    let old = chart (g.B.Board.state c.args.board.now) in
    let mid = c.next_move.new.self in
    let none = subst (λ (m : Option Move). NextMove old.shape old.fields c.args.segment c.args.self.now m mid) c.in_default.is c.in_ok-next.ensures.next in
    apart_by_copy old c.args.segment c.args.self.now c.copy_left.new.self c.requires.copying none.0 (c.copy_left.ensures.counts.moved ∙ ap (λ (p : Plan). p.moved) c.next_move.ensures.becomes)

pub returns-in_err-switch_segment-in-None-clause-counts : goal.returns-in_err-switch_segment-in-None-clause-counts
returns-in_err-switch_segment-in-None-clause-counts g c =
    let old = chart (g.B.Board.state c.args.board.now) in
    let mid = c.next_move.new.self in
    let was = c.next_move.ensures.becomes in
    counts_by_none old (chart (g.B.Board.state c.switch_segment.new.board)) c.args.self.now mid c.switch_segment.ensures.same (ap (λ (p : Plan). p.copied) was) (ap (λ (p : Plan). p.moved) was) (ap (λ (p : Plan). p.erased) was) (ap (λ (p : Plan). p.since) was)

pub returns-in_err-switch_segment-in-None-clause-apart : goal.returns-in_err-switch_segment-in-None-clause-apart
returns-in_err-switch_segment-in-None-clause-apart g c =
    let old = chart (g.B.Board.state c.args.board.now) in
    let mid = c.next_move.new.self in
    let was = c.next_move.ensures.becomes in
    apart_by_none old c.args.self.now mid (ap (λ (p : Plan). p.copied) was) (ap (λ (p : Plan). p.moved) was)

pub returns-in_ok-switch_segment-in-None-clause-counts : goal.returns-in_ok-switch_segment-in-None-clause-counts
returns-in_ok-switch_segment-in-None-clause-counts g c =
    let old = chart (g.B.Board.state c.args.board.now) in
    let mid = c.next_move.new.self in
    let was = c.next_move.ensures.becomes in
    counts_by_none old (chart (g.B.Board.state c.switch_segment.new.board)) c.args.self.now mid c.switch_segment.ensures.same (ap (λ (p : Plan). p.copied) was) (ap (λ (p : Plan). p.moved) was) (ap (λ (p : Plan). p.erased) was) (ap (λ (p : Plan). p.since) was)

pub returns-in_ok-switch_segment-in-None-clause-apart : goal.returns-in_ok-switch_segment-in-None-clause-apart
returns-in_ok-switch_segment-in-None-clause-apart g c =
    let old = chart (g.B.Board.state c.args.board.now) in
    let mid = c.next_move.new.self in
    let was = c.next_move.ensures.becomes in
    apart_by_none old c.args.self.now mid (ap (λ (p : Plan). p.copied) was) (ap (λ (p : Plan). p.moved) was)

pub returns-in_err-next-clause-same : goal.returns-in_err-next-clause-same
returns-in_err-next-clause-same g c = unpowered (g.B.Board.state c.args.board.now).on c.in_err-next.ensures.off c.requires.ready.on

pub returns-in_err-next-clause-follow : goal.returns-in_err-next-clause-follow
returns-in_err-next-clause-follow g c = unpowered (g.B.Board.state c.args.board.now).on c.in_err-next.ensures.off c.requires.ready.on

pub returns-in_err-next-clause-power : goal.returns-in_err-next-clause-power
returns-in_err-next-clause-power g c = unpowered (g.B.Board.state c.args.board.now).on c.in_err-next.ensures.off c.requires.ready.on

pub returns-in_err-next-clause-does : goal.returns-in_err-next-clause-does
returns-in_err-next-clause-does g c = unpowered (g.B.Board.state c.args.board.now).on c.in_err-next.ensures.off c.requires.ready.on

pub returns-in_err-next-clause-works : goal.returns-in_err-next-clause-works
returns-in_err-next-clause-works g c = unpowered (g.B.Board.state c.args.board.now).on c.in_err-next.ensures.off c.requires.ready.on

pub returns-in_err-next-clause-fails : goal.returns-in_err-next-clause-fails
returns-in_err-next-clause-fails g c bad = unpowered (g.B.Board.state c.args.board.now).on c.in_err-next.ensures.off c.requires.ready.on

pub returns-in_err-next-clause-within : goal.returns-in_err-next-clause-within
returns-in_err-next-clause-within g c n e s leaves = unpowered (g.B.Board.state c.args.board.now).on c.in_err-next.ensures.off c.requires.ready.on

pub returns-in_err-next-clause-counts : goal.returns-in_err-next-clause-counts
returns-in_err-next-clause-counts g c = unpowered (g.B.Board.state c.args.board.now).on c.in_err-next.ensures.off c.requires.ready.on

pub returns-in_err-next-clause-apart : goal.returns-in_err-next-clause-apart
returns-in_err-next-clause-apart g c = unpowered (g.B.Board.state c.args.board.now).on c.in_err-next.ensures.off c.requires.ready.on

pub returns-in_err-left-clause-same : goal.returns-in_err-left-clause-same
returns-in_err-left-clause-same g c = unpowered (g.B.Board.state c.args.board.now).on c.in_err-left.ensures.off c.requires.ready.on

pub returns-in_err-left-clause-follow : goal.returns-in_err-left-clause-follow
returns-in_err-left-clause-follow g c = unpowered (g.B.Board.state c.args.board.now).on c.in_err-left.ensures.off c.requires.ready.on

pub returns-in_err-left-clause-power : goal.returns-in_err-left-clause-power
returns-in_err-left-clause-power g c = unpowered (g.B.Board.state c.args.board.now).on c.in_err-left.ensures.off c.requires.ready.on

pub returns-in_err-left-clause-does : goal.returns-in_err-left-clause-does
returns-in_err-left-clause-does g c = unpowered (g.B.Board.state c.args.board.now).on c.in_err-left.ensures.off c.requires.ready.on

pub returns-in_err-left-clause-works : goal.returns-in_err-left-clause-works
returns-in_err-left-clause-works g c = unpowered (g.B.Board.state c.args.board.now).on c.in_err-left.ensures.off c.requires.ready.on

pub returns-in_err-left-clause-fails : goal.returns-in_err-left-clause-fails
returns-in_err-left-clause-fails g c bad = unpowered (g.B.Board.state c.args.board.now).on c.in_err-left.ensures.off c.requires.ready.on

pub returns-in_err-left-clause-within : goal.returns-in_err-left-clause-within
returns-in_err-left-clause-within g c n e s leaves = unpowered (g.B.Board.state c.args.board.now).on c.in_err-left.ensures.off c.requires.ready.on

pub returns-in_err-left-clause-counts : goal.returns-in_err-left-clause-counts
returns-in_err-left-clause-counts g c = unpowered (g.B.Board.state c.args.board.now).on c.in_err-left.ensures.off c.requires.ready.on

pub returns-in_err-left-clause-apart : goal.returns-in_err-left-clause-apart
returns-in_err-left-clause-apart g c = unpowered (g.B.Board.state c.args.board.now).on c.in_err-left.ensures.off c.requires.ready.on

pub returns-in_err-move_next-clause-does : goal.returns-in_err-move_next-clause-does
returns-in_err-move_next-clause-does g c = err-if c.from_residual-in_err-move_next.result _ c.in_err-move_next.field-0.0 c.from_residual-in_err-move_next.ensures.1

pub returns-in_err-move_next-clause-works : goal.returns-in_err-move_next-clause-works
returns-in_err-move_next-clause-works g c = err-if c.from_residual-in_err-move_next.result _ c.in_err-move_next.field-0.0 c.from_residual-in_err-move_next.ensures.1

pub returns-in_err-move_next-clause-power : goal.returns-in_err-move_next-clause-power
returns-in_err-move_next-clause-power g c = err-after (Unit {0}) c.from_residual-in_err-move_next.result (g.B.Board.state c.move_next.new.board).on c.in_err-move_next.field-0.0 c.in_err-move_next.ensures.power c.from_residual-in_err-move_next.ensures.1

pub returns-in_err-copy_left-in-Some-2-clause-does : goal.returns-in_err-copy_left-in-Some-2-clause-does
returns-in_err-copy_left-in-Some-2-clause-does g c = err-if c.from_residual-in_err-copy_left-in-Some-2.result _ c.in_err-copy_left-in-Some-2.field-0.0 c.from_residual-in_err-copy_left-in-Some-2.ensures.1

pub returns-in_err-copy_left-in-Some-2-clause-works : goal.returns-in_err-copy_left-in-Some-2-clause-works
returns-in_err-copy_left-in-Some-2-clause-works g c = err-if c.from_residual-in_err-copy_left-in-Some-2.result _ c.in_err-copy_left-in-Some-2.field-0.0 c.from_residual-in_err-copy_left-in-Some-2.ensures.1

pub returns-in_err-copy_left-in-Some-2-clause-power : goal.returns-in_err-copy_left-in-Some-2-clause-power
returns-in_err-copy_left-in-Some-2-clause-power g c = err-after (Unit {0}) c.from_residual-in_err-copy_left-in-Some-2.result (g.B.Board.state c.copy_left.new.board).on c.in_err-copy_left-in-Some-2.field-0.0 c.in_err-copy_left-in-Some-2.ensures.power c.from_residual-in_err-copy_left-in-Some-2.ensures.1

pub returns-in_err-switch_segment-in-None-clause-does : goal.returns-in_err-switch_segment-in-None-clause-does
returns-in_err-switch_segment-in-None-clause-does g c = off-if c.from_residual-in_err-switch_segment-in-None.result _ c.from_residual-in_err-switch_segment-in-None.ensures.1

pub returns-in_err-switch_segment-in-None-clause-works : goal.returns-in_err-switch_segment-in-None-clause-works
returns-in_err-switch_segment-in-None-clause-works g c = off-if c.from_residual-in_err-switch_segment-in-None.result _ c.from_residual-in_err-switch_segment-in-None.ensures.1

pub returns-in_err-switch_segment-in-None-clause-power : goal.returns-in_err-switch_segment-in-None-clause-power
returns-in_err-switch_segment-in-None-clause-power g c = off-after c.from_residual-in_err-switch_segment-in-None.result (g.B.Board.state c.switch_segment.new.board).on c.in_err-switch_segment-in-None.ensures.power c.from_residual-in_err-switch_segment-in-None.ensures.1

pub returns-in_err-switch_segment-in-None-clause-fails : goal.returns-in_err-switch_segment-in-None-clause-fails
returns-in_err-switch_segment-in-None-clause-fails g c bad = off-bad c.from_residual-in_err-switch_segment-in-None.result c.from_residual-in_err-switch_segment-in-None.ensures.1 bad

pub returns-in_err-switch_segment-in-None-clause-follow : goal.returns-in_err-switch_segment-in-None-clause-follow
returns-in_err-switch_segment-in-None-clause-follow g c =
    let off = c.in_err-switch_segment-in-None.ensures.power in
    let lit = (g.B.Board.state c.switch_segment.new.board).on in
    let follow = c.switch_segment.ensures.follow in
    record {
      pool = follow.pool;
      plan = λ on. unpowered lit off on;
      parted = follow.parted;
      cache = follow.cache;
      frames = λ on. unpowered lit off on;
      shape = follow.shape;
      rests = follow.rests;
    }

pub returns-in_err-switch_segment-in-None-clause-within : goal.returns-in_err-switch_segment-in-None-clause-within
returns-in_err-switch_segment-in-None-clause-within g c n e s leaves = same_within n e (chart (g.B.Board.state c.args.board.now)) (chart (g.B.Board.state c.switch_segment.new.board)) c.switch_segment.ensures.same

pub returns-in_err-switch_segment-in-None-clause-same : goal.returns-in_err-switch_segment-in-None-clause-same
returns-in_err-switch_segment-in-None-clause-same g c = same_within 1 0 (chart (g.B.Board.state c.args.board.now)) (chart (g.B.Board.state c.switch_segment.new.board)) c.switch_segment.ensures.same

pub returns-in_ok-switch_segment-in-None-clause-within : goal.returns-in_ok-switch_segment-in-None-clause-within
returns-in_ok-switch_segment-in-None-clause-within g c n e s leaves = same_within n e (chart (g.B.Board.state c.args.board.now)) (chart (g.B.Board.state c.switch_segment.new.board)) c.switch_segment.ensures.same

pub returns-in_ok-switch_segment-in-None-clause-same : goal.returns-in_ok-switch_segment-in-None-clause-same
returns-in_ok-switch_segment-in-None-clause-same g c = same_within 1 0 (chart (g.B.Board.state c.args.board.now)) (chart (g.B.Board.state c.switch_segment.new.board)) c.switch_segment.ensures.same

pub returns-in_err-move_next-clause-same : goal.returns-in_err-move_next-clause-same
returns-in_err-move_next-clause-same g c = c.move_next.ensures.same

pub returns-in-Some-clause-same : goal.returns-in-Some-clause-same
returns-in-Some-clause-same g c = c.move_next.ensures.same

pub returns-in-Some-clause-works : goal.returns-in-Some-clause-works
returns-in-Some-clause-works g c = c.move_next.ensures.same

pub returns-in_err-move_next-clause-follow : goal.returns-in_err-move_next-clause-follow
returns-in_err-move_next-clause-follow g c = c.move_next.ensures.follow

pub returns-in-Some-clause-follow : goal.returns-in-Some-clause-follow
returns-in-Some-clause-follow g c = c.move_next.ensures.follow

pub returns-in_err-copy_left-in-Some-2-clause-same : goal.returns-in_err-copy_left-in-Some-2-clause-same
returns-in_err-copy_left-in-Some-2-clause-same g c = c.copy_left.ensures.same

pub returns-in_ok-copy_left-in-Some-2-clause-same : goal.returns-in_ok-copy_left-in-Some-2-clause-same
returns-in_ok-copy_left-in-Some-2-clause-same g c = c.copy_left.ensures.same

pub returns-in_ok-copy_left-in-Some-2-clause-works : goal.returns-in_ok-copy_left-in-Some-2-clause-works
returns-in_ok-copy_left-in-Some-2-clause-works g c = c.copy_left.ensures.same

pub returns-in_ok-switch_segment-in-None-clause-works : goal.returns-in_ok-switch_segment-in-None-clause-works
returns-in_ok-switch_segment-in-None-clause-works g c = c.switch_segment.ensures.same

pub returns-in-Some-clause-fails : goal.returns-in-Some-clause-fails
returns-in-Some-clause-fails g c bad = ok-bad _ bad

pub returns-in_ok-copy_left-in-Some-2-clause-fails : goal.returns-in_ok-copy_left-in-Some-2-clause-fails
returns-in_ok-copy_left-in-Some-2-clause-fails g c bad = ok-bad _ bad

pub returns-in_ok-switch_segment-in-None-clause-fails : goal.returns-in_ok-switch_segment-in-None-clause-fails
returns-in_ok-switch_segment-in-None-clause-fails g c bad = ok-bad _ bad

pub next_kept-requires-clause-claimed : goal.next_kept-requires-clause-claimed
next_kept-requires-clause-claimed g c = ap (λ (xs : List ℕ). get_or xs c.args.segment 0) (sym c.requires.ready.pool.fills) ∙ sym c.fill.ensures.fill

pub copy_left-requires-clause-spare : goal.copy_left-requires-clause-spare
copy_left-requires-clause-spare g c = spare-is (chart (g.B.Board.state c.args.board.now)).shape (chart (g.B.Board.state c.args.board.now)).fields c.args.space.now c.spare-spare.result c.requires.ready.pool c.spare-spare.ensures.spare

pub switch_segment-requires-clause-spare : goal.switch_segment-requires-clause-spare
switch_segment-requires-clause-spare g c = spare-is (chart (g.B.Board.state c.args.board.now)).shape (chart (g.B.Board.state c.args.board.now)).fields c.args.space.now c.spare-spare.result c.requires.ready.pool c.spare-spare.ensures.spare

pub copy_left-requires-clause-done : goal.copy_left-requires-clause-done
copy_left-requires-clause-done g c =
    let old = chart (g.B.Board.state c.args.board.now) in
    (subst (λ (m : Option Move). NextMove old.shape old.fields c.args.segment c.args.self.now m c.next_move.new.self) c.in_default.is c.in_ok-next.ensures.next).1

pub copy_left-requires-clause-left : goal.copy_left-requires-clause-left
copy_left-requires-clause-left g c =
    let old = chart (g.B.Board.state c.args.board.now) in
    let mid = c.next_move.new.self in
    let next = subst (λ (l : Option Left). NextKept old.shape old.fields c.args.segment mid.mark l) c.in-Some-2.is (subst (λ (m : ℕ). NextKept old.shape old.fields c.args.segment m c.in_ok-left.field-0) (ap (λ (p : Plan). p.mark) c.self.view_is) c.in_ok-left.ensures.next) in
    (c.args.segment, c.requires.copying, next)

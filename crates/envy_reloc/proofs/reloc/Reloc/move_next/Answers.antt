use Rattle.std.proofs.Common.{◌≡◌, ◌∙◌, ℕ, [], List, Option, get_or, Some, Err, sym, ap, subst, arith}
use Rattle.envy_base.specs.Counting.{Tally}
use Rattle.envy_base.specs.declared.board.Trouble.{Trouble}
use Rattle.envy_base.specs.declared.fields.Job.TheVariants.{Erase}
use Rattle.envy_base.specs.declared.fields.Place.{Place}
use Rattle.envy_base.specs.declared.shape.Shape.{Shape}
use Rattle.envy_map.specs.Fields.{Fields, Chart, chart}
use Rattle.envy_map.specs.Writes.{with_job}
use Rattle.envy_soundness.specs.Frames.{FramesStay}
use Rattle.envy_soundness.specs.Power.{power_after}
use Rattle.envy_soundness.specs.Same.{Same, Stays, Framed}
use Rattle.envy_soundness.proofs.FrameStay.{FramesStay-refl}
use Rattle.envy_space.specs.Pool.{IsPoolOf, PoolAgrees}
use Rattle.envy_table.specs.Agreement.{AreCurrent}
use Rattle.envy_reloc.specs.Plan.{Plan}
use Rattle.envy_reloc.specs.Rows.{HasRoom}
use Rattle.envy_reloc.proofs.MoveLemmas.{Plan-moved}
use Rattle.envy_soundness.proofs.Sames.{then_same, tally_end}
use Rattle.envy_reloc.proofs.Exits.{unpowered}
use Rattle.envy_reloc.proofs.KeepLemmas.{counted-move, wasted-move}
use Rattle.envy_reloc.proofs.SettleLemmas.{ok-map}
use Rattle.envy_reloc.proofs.EffortLemmas.{FramesStay-moved}
use Rattle.envy_reloc.proofs.reloc.Reloc.move_next.Goals as goal

pub move_row-requires-clause-agree : goal.move_row-requires-clause-agree
move_row-requires-clause-agree g c = record { pool = c.requires.ready.pool; cache = c.requires.cache; parted = c.requires.ready.parted }

pub returns-in-Ok-clause-follow : goal.returns-in-Ok-clause-follow
returns-in-Ok-clause-follow g c =
    let old = chart (g.B.Board.state c.args.board.now) in
    let new = chart (g.B.Board.state c.move_row.new.board) in
    let pool = c.args.space.now in
    let agrees = c.requires.ready.pool in
    let next = c.requires.next in
    let s = get_or pool.positions c.args.next.position 0 in
    let rows : pool.shape.rows ≡ old.shape.rows = ap (λ (sh : Shape). sh.rows) (IsPoolOf.shape agrees) in
    let segments : pool.shape.segments ≡ old.shape.segments = ap (λ (sh : Shape). sh.segments) (IsPoolOf.shape agrees) in
    let reserves : pool.shape.reserves ≡ old.shape.reserves = ap (λ (sh : Shape). sh.reserves) (IsPoolOf.shape agrees) in
    let room = HasRoom.room next.room in
    let fill : get_or pool.fills s 0 ≡ get_or old.fields.fills s 0 = ap (λ (xs : List ℕ). get_or xs s 0) (IsPoolOf.fills agrees) in
    let position = next.position in
    let follow = c.move_row.ensures.follow in
    record {
      pool = follow.pool;
      plan = λ on. Plan-moved old new next.v s c.args.next c.args.self.now _ c.requires.ready.sound c.requires.ready.plan next.copying (HasRoom.other next.room)
          (c.args.next.position, (omega arith), ap (λ (xs : List ℕ). get_or xs c.args.next.position 0) (sym (IsPoolOf.positions agrees)))
          (omega arith)
          (Framed.shape (Stays.framed (Same.stays c.move_row.ensures.same)))
          c.in-Ok.ensures.moves
          (ap (λ (p : Plan). p.moves) c.self.view_is) (ap (λ (p : Plan). p.aside) c.self.view_is) (ap (λ (p : Plan). p.mark) c.self.view_is);
      parted = follow.parted;
      cache = follow.cache;
      frames = λ on. FramesStay-moved old new _ c.args.next c.requires.ready.sound c.in-Ok.ensures.moves;
      shape = follow.shape;
      rests = follow.rests;
    }

pub returns-in-Err-Bad-clause-same : goal.returns-in-Err-Bad-clause-same
returns-in-Err-Bad-clause-same g c = then_same 1 0 (chart (g.B.Board.state c.args.board.now)) (chart (g.B.Board.state c.move_row.new.board)) (chart (g.B.Board.state c.give_up.new.board)) c.move_row.ensures.same c.give_up.ensures.same

pub move_row-requires-clause-sound : goal.move_row-requires-clause-sound
move_row-requires-clause-sound g c = c.requires.ready.sound

pub move_row-requires-clause-next : goal.move_row-requires-clause-next
move_row-requires-clause-next g c = c.requires.next

pub give_up-requires-clause-sound : goal.give_up-requires-clause-sound
give_up-requires-clause-sound g c = Stays.sound (Same.stays c.move_row.ensures.same)

pub give_up-requires-clause-on : goal.give_up-requires-clause-on
give_up-requires-clause-on g c = c.in-Err-Bad.ensures.power ∙ ap (λ (e : Trouble). power_after {A = Unit {0}} (Err e)) c.in-Err-Bad.field-0-is

pub give_up-requires-clause-copying : goal.give_up-requires-clause-copying
give_up-requires-clause-copying g c =
    let wasted = c.in-Err-Bad.ensures.fails (ap (λ (e : Trouble). Err e) c.in-Err-Bad.field-0-is) in
    (c.requires.next.v, ap (λ (f : Fields). f.job) wasted.fields ∙ c.requires.next.copying)

pub give_up-requires-clause-parted : goal.give_up-requires-clause-parted
give_up-requires-clause-parted g c =
    let on = c.in-Err-Bad.ensures.power ∙ ap (λ (e : Trouble). power_after {A = Unit {0}} (Err e)) c.in-Err-Bad.field-0-is in
    c.move_row.ensures.follow.parted on

pub returns-in-Ok-clause-same : goal.returns-in-Ok-clause-same
returns-in-Ok-clause-same g c = c.move_row.ensures.same

pub returns-in-Ok-clause-power : goal.returns-in-Ok-clause-power
returns-in-Ok-clause-power g c = c.in-Ok.ensures.power

pub returns-in-Ok-clause-moves : goal.returns-in-Ok-clause-moves
returns-in-Ok-clause-moves g c = record {
  moved = c.in-Ok.ensures.moves;
  becomes = counted-move _ c.args.self.now c.move_row.new.moved c.self.view_is (c.move_row.ensures.counted c.in-Ok.ensures.power);
}

pub returns-in-Ok-clause-fails : goal.returns-in-Ok-clause-fails
returns-in-Ok-clause-fails g c bad = absurd (cc)

pub returns-in-Ok-clause-counts : goal.returns-in-Ok-clause-counts
returns-in-Ok-clause-counts g c =
    let old = chart (g.B.Board.state c.args.board.now) in
    let new = chart (g.B.Board.state c.move_row.new.board) in
    record {
      moved = subst (λ (n : ℕ). Tally old.begun n new.begun c.move_row.new.moved) (ap (λ (p : Plan). p.moved) c.self.view_is) c.move_row.ensures.counts;
      copied = ap (λ (p : Plan). p.copied) c.self.view_is;
      erased = ap (λ (p : Plan). p.erased) c.self.view_is;
      since = ap (λ (p : Plan). p.since) c.self.view_is;
    }

pub returns-in-Err-Off-clause-same : goal.returns-in-Err-Off-clause-same
returns-in-Err-Off-clause-same g c = c.move_row.ensures.same

pub returns-in-Err-Off-clause-follow : goal.returns-in-Err-Off-clause-follow
returns-in-Err-Off-clause-follow g c =
    let off = c.in-Err-Off.ensures.power ∙ ap (λ (e : Trouble). power_after {A = Unit {0}} (Err e)) c.in-Err-Off.field-0-is in
    let follow = c.move_row.ensures.follow in
    record {
      pool = follow.pool;
      plan = λ on. unpowered (g.B.Board.state c.move_row.new.board).on off on;
      parted = follow.parted;
      cache = follow.cache;
      frames = λ on. unpowered (g.B.Board.state c.move_row.new.board).on off on;
      shape = follow.shape;
      rests = follow.rests;
    }

pub returns-in-Err-Off-clause-power : goal.returns-in-Err-Off-clause-power
returns-in-Err-Off-clause-power g c = c.in-Err-Off.ensures.power ∙ ap (λ (e : Trouble). power_after {A = Unit {0}} (Err e)) c.in-Err-Off.field-0-is

pub returns-in-Err-Off-clause-fails : goal.returns-in-Err-Off-clause-fails
returns-in-Err-Off-clause-fails g c bad = absurd (cc)

pub returns-in-Err-Off-clause-counts : goal.returns-in-Err-Off-clause-counts
returns-in-Err-Off-clause-counts g c =
    let old = chart (g.B.Board.state c.args.board.now) in
    let new = chart (g.B.Board.state c.move_row.new.board) in
    record {
      moved = subst (λ (n : ℕ). Tally old.begun n new.begun c.move_row.new.moved) (ap (λ (p : Plan). p.moved) c.self.view_is) c.move_row.ensures.counts;
      copied = ap (λ (p : Plan). p.copied) c.self.view_is;
      erased = ap (λ (p : Plan). p.erased) c.self.view_is;
      since = ap (λ (p : Plan). p.since) c.self.view_is;
    }

pub returns-in-Err-Bad-clause-follow : goal.returns-in-Err-Bad-clause-follow
returns-in-Err-Bad-clause-follow g c =
    let old = chart (g.B.Board.state c.args.board.now) in
    let new = chart (g.B.Board.state c.give_up.new.board) in
    let follow = c.move_row.ensures.follow in
    let on = c.in-Err-Bad.ensures.power ∙ ap (λ (e : Trouble). power_after {A = Unit {0}} (Err e)) c.in-Err-Bad.field-0-is in
    let wasted = c.in-Err-Bad.ensures.fails (ap (λ (e : Trouble). Err e) c.in-Err-Bad.field-0-is) in
    let given = c.give_up.ensures.fields in
    record {
      pool = λ lit. subst (λ (x : Chart). PoolAgrees x.shape x.fields c.move_row.new.space) (sym (given lit)) (follow.pool on);
      plan = c.give_up.ensures.plan;
      parted = c.give_up.ensures.parted;
      cache = λ lit. subst (λ (x : Chart). AreCurrent x.shape.pages x.fields.places c.move_row.new.cache.entries) (sym (given lit)) (follow.cache on);
      frames = λ lit.
          let places : new.fields.places ≡ old.fields.places = ap (λ (x : Chart). x.fields.places) (given lit) ∙ ap (λ (f : Fields). f.places) wasted.fields in
          subst (λ (ps : List (Option Place)). FramesStay old.fields.places ps) (sym places) (FramesStay-refl old.fields.places);
      shape = follow.shape;
      rests = follow.rests;
    }

pub returns-in-Err-Bad-clause-power : goal.returns-in-Err-Bad-clause-power
returns-in-Err-Bad-clause-power g c = c.give_up.ensures.power

pub returns-in-Err-Bad-clause-moves : goal.returns-in-Err-Bad-clause-moves
returns-in-Err-Bad-clause-moves g c = ok-map c.give_up.result _ _ c.give_up.ensures.never (λ no. absurd no)

pub returns-in-Err-Bad-clause-fails : goal.returns-in-Err-Bad-clause-fails
returns-in-Err-Bad-clause-fails g c bad =
    let on = c.in-Err-Bad.ensures.power ∙ ap (λ (e : Trouble). power_after {A = Unit {0}} (Err e)) c.in-Err-Bad.field-0-is in
    let wasted = c.in-Err-Bad.ensures.fails (ap (λ (e : Trouble). Err e) c.in-Err-Bad.field-0-is) in
    let given = c.give_up.ensures.fields (c.give_up.ensures.power ∙ ap power_after bad) in
    record {
      spoilt = record {
        fields = ap (λ (x : Chart). x.fields) given ∙ ap (λ (f : Fields). with_job (Some Erase) f) wasted.fields;
        others = λ r other. ap (λ (x : Chart). get_or x.flash r []) given ∙ wasted.others r other;
      };
      becomes = c.give_up.ensures.becomes ∙ wasted-move _ c.args.self.now c.move_row.new.moved c.self.view_is (c.move_row.ensures.counted on);
      bad = ap (λ (x : Chart). x.bads) given ∙ wasted.bad;
    }

pub returns-in-Err-Bad-clause-counts : goal.returns-in-Err-Bad-clause-counts
returns-in-Err-Bad-clause-counts g c =
    let old = chart (g.B.Board.state c.args.board.now) in
    let mid = chart (g.B.Board.state c.move_row.new.board) in
    let new = chart (g.B.Board.state c.give_up.new.board) in
    let becomes = c.give_up.ensures.becomes in
    let counts = subst (λ (n : ℕ). Tally old.begun n mid.begun c.move_row.new.moved) (ap (λ (p : Plan). p.moved) c.self.view_is) c.move_row.ensures.counts in
    record {
      moved = subst (λ (n : ℕ). Tally old.begun c.args.self.now.moved new.begun n) (sym (ap (λ (p : Plan). p.moved) becomes)) (tally_end c.args.self.now.moved c.move_row.new.moved old mid new counts c.give_up.ensures.same);
      copied = ap (λ (p : Plan). p.copied) becomes ∙ ap (λ (p : Plan). p.copied) c.self.view_is;
      erased = ap (λ (p : Plan). p.erased) becomes ∙ ap (λ (p : Plan). p.erased) c.self.view_is;
      since = ap (λ (p : Plan). p.since) becomes ∙ ap (λ (p : Plan). p.since) c.self.view_is;
    }

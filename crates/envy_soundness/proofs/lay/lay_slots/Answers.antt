use Rattle.std.proofs.Common.{◌+◌, refl, ap}
use Rattle.std.specs.Prelude.{Some}
use Rattle.envy_base.specs.declared.fields.Slot.TheVariants.{Vacant}
use Rattle.envy_map.specs.Fields.{chart, with_fields}
use Rattle.envy_map.specs.Writes.{with_slot}
use Rattle.envy_soundness.specs.Formatting.{with_slots_laid}
use Rattle.envy_soundness.proofs.Laying.{Lays-more, Lays-stops, OnErr-any}
use Rattle.envy_soundness.proofs.Regions.{slots-none, slots-next}
use Rattle.envy_soundness.proofs.lay.lay_slots.Goals as goal

pub loop-t-init : goal.loop-t-init
loop-t-init g c = record { is = ap (with_fields (chart (g.B.Board.state c.args.board.now))) (slots-none (chart (g.B.Board.state c.args.board.now)).fields); on = c.requires.on }

pub loop-t-preserved : goal.loop-t-preserved
loop-t-preserved g c = record { is = Lays-more (chart (g.B.Board.state c.args.board.now)) (chart (g.B.Board.state c.loop-t.board)) (chart (g.B.Board.state c.set_slot.new.board)) (with_slots_laid c.loop-t.t (chart (g.B.Board.state c.args.board.now)).fields) (with_slots_laid (c.loop-t.t + 1) (chart (g.B.Board.state c.args.board.now)).fields) (with_slot c.loop-t.t (Some Vacant)) c.loop-t.invariant.is (slots-next (chart (g.B.Board.state c.args.board.now)).fields c.loop-t.t) c.in_ok-set_slot.ensures.writes; on = c.loop-t.invariant.on }

pub returns-in_err-set_slot-clause-stopped : goal.returns-in_err-set_slot-clause-stopped
returns-in_err-set_slot-clause-stopped g c = OnErr-any _ (Lays-stops (chart (g.B.Board.state c.args.board.now)) (chart (g.B.Board.state c.loop-t.board)) (chart (g.B.Board.state c.set_slot.new.board)) (with_slots_laid c.loop-t.t (chart (g.B.Board.state c.args.board.now)).fields) (with_slot c.loop-t.t (Some Vacant)) _ c.loop-t.invariant.on c.loop-t.invariant.is refl refl c.in_err-set_slot.ensures.writes)

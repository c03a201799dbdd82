use Rattle.std.proofs.Common.{◌∙◌, ap}
use Rattle.std.specs.Prelude.{Err}
use Rattle.envy_base.specs.declared.board.Trouble.{Trouble}
use Rattle.envy_map.specs.Fields.{chart}
use Rattle.envy_soundness.specs.Power.{power_after}
use Rattle.envy_soundness.specs.Same.{Framed, Same, Stays}
use Rattle.envy_soundness.proofs.Sames.{then_same}
use Rattle.envy_reloc.proofs.RetireLemmas.{ends-retired}
use Rattle.envy_reloc.proofs.StepLemmas.{spare-is}
use Rattle.envy_reloc.proofs.job_end.erase.Goals as goal

pub returns-in_err-empty-in-Ok-clause-same : goal.returns-in_err-empty-in-Ok-clause-same
returns-in_err-empty-in-Ok-clause-same g c = then_same 0 1 (chart (g.B.Board.state c.args.board.now)) (chart (g.B.Board.state c.erase_counted.new.board)) (chart (g.B.Board.state c.empty.new.board)) c.erase_counted.ensures.same c.empty.ensures.same

pub returns-in-Err-Bad-clause-same : goal.returns-in-Err-Bad-clause-same
returns-in-Err-Bad-clause-same g c = then_same 0 1 (chart (g.B.Board.state c.args.board.now)) (chart (g.B.Board.state c.erase_counted.new.board)) (chart (g.B.Board.state c.retire.new.board)) c.erase_counted.ensures.same c.retire.ensures.same

pub returns-in-Err-Bad-clause-ends : goal.returns-in-Err-Bad-clause-ends
returns-in-Err-Bad-clause-ends g c =
    let erased = c.in-Err-Bad.ensures in
    let on = erased.power ∙ ap (λ (t : Trouble). power_after {A = Unit {0}} (Err t)) c.in-Err-Bad.field-0-is in
    ends-retired (chart (g.B.Board.state c.args.board.now)) (chart (g.B.Board.state c.erase_counted.new.board)) (chart (g.B.Board.state c.retire.new.board)) c.spare-spare.result c.retire.result c.requires.sound (record {
      shape = Framed.shape (Stays.framed (Same.stays erased.same));
      fields = erased.fields on;
      spare = spare-is (g.B.Board.state c.args.board.now).shape (chart (g.B.Board.state c.args.board.now)).fields c.args.space.now c.spare-spare.result c.requires.pool c.spare-spare.ensures.spare;
      others = erased.others;
      bad = erased.bad (ap (λ (t : Trouble). Err t) c.in-Err-Bad.field-0-is);
    }) c.retire.ensures.retires

use Rattle.std.proofs.Common.{◌≡◌, ◌∙◌, ℕ, List, get_or, set, sym, ap}
use Rattle.envy_base.specs.Counting.{up}
use Rattle.envy_base.specs.State.{IsBoard}
use Rattle.envy_map.specs.Fields.{Chart, chart}
use Rattle.envy_soundness.proofs.EraseLaw.{Same-unbegun, Same-raised, Began, began}
use Rattle.envy_soundness.proofs.Erased.{erased-bad, erased-power, others-before, rows-before}
use Rattle.envy_soundness.proofs.Tallies.{tally-erased}
use Rattle.envy_soundness.proofs.erase.erase_counted.Goals as goal

pub returns-in_err-raise_wear-clause-same : goal.returns-in_err-raise_wear-clause-same
returns-in_err-raise_wear-clause-same g c = Same-unbegun (chart (g.B.Board.state c.args.board.now)) (chart (g.B.Board.state c.raise_wear.new.board)) c.args.segment c.in_err-raise_wear.field-0.0 c.requires.sound c.requires.segment c.in_err-raise_wear.ensures.writes

pub returns-clause-same : goal.returns-clause-same
returns-clause-same g c =
    let raised = c.in_ok-raise_wear.ensures.writes in
    Same-raised (chart (g.B.Board.state c.args.board.now)) (g.B.Board.state c.raise_wear.new.board) (g.B.Board.state c.erase-answer.new.self) c.args.segment c.erase-answer.result
    (record {
      can = record { sound = c.requires.sound; job = (c.requires.erasing raised.0).0; spare = (c.requires.erasing raised.0).1 };
      on = raised.0;
      raised = raised.1;
      long = IsBoard.erases (g.met.B.Board.lawful c.raise_wear.new.board);
      erases = c.erase-answer.ensures;
    })

pub returns-clause-counts : goal.returns-clause-counts
returns-clause-counts g c =
    let old = chart (g.B.Board.state c.args.board.now) in
    let new = chart (g.B.Board.state c.erase-answer.new.self) in
    let e = c.args.segment in
    let raised = c.in_ok-raise_wear.ensures.writes.1 in
    let long = IsBoard.erases (g.met.B.Board.lawful c.args.board.now) in
    let same : (chart (g.B.Board.state c.raise_wear.new.board)).erases ≡ old.erases = ap (λ (x : Chart). x.erases) raised in
    let erased = Began.erases (began (g.B.Board.state c.raise_wear.new.board) (g.B.Board.state c.erase-answer.new.self) e c.erase-answer.result c.in_ok-raise_wear.ensures.power c.erase-answer.ensures)
    ∙ ap (λ (xs : List ℕ). set xs e (up (get_or xs e 0))) same in (
      tally-erased old.erases new.erases e c.args.count.now c.one_more.result (rw long c.requires.segment) erased c.one_more.ensures,
      tally-erased old.erases new.erases e c.args.since.now c.one_more-2.result (rw long c.requires.segment) erased c.one_more-2.ensures,
    )

pub returns-clause-fields : goal.returns-clause-fields
returns-clause-fields g c on =
    Began.fields (began (g.B.Board.state c.raise_wear.new.board) (g.B.Board.state c.erase-answer.new.self) c.args.segment c.erase-answer.result c.in_ok-raise_wear.ensures.power c.erase-answer.ensures)
    ∙ ap (λ (x : Chart). x.fields) c.in_ok-raise_wear.ensures.writes.1

pub returns-clause-erases : goal.returns-clause-erases
returns-clause-erases g c on =
    Began.erases (began (g.B.Board.state c.raise_wear.new.board) (g.B.Board.state c.erase-answer.new.self) c.args.segment c.erase-answer.result c.in_ok-raise_wear.ensures.power c.erase-answer.ensures)
    ∙ ap (λ (x : Chart). set x.erases c.args.segment (up (get_or x.erases c.args.segment 0))) c.in_ok-raise_wear.ensures.writes.1

pub returns-clause-erased : goal.returns-clause-erased
returns-clause-erased g c =
    let raised = c.in_ok-raise_wear.ensures.writes.1 in
    rows-before (chart (g.B.Board.state c.args.board.now)) (g.B.Board.state c.raise_wear.new.board) (g.B.Board.state c.erase-answer.new.self) c.args.segment c.erase-answer.result
    (sym (ap (λ (x : Chart). x.shape) raised)) (sym (ap (λ (x : Chart). x.flash) raised)) c.erase-answer.ensures

pub returns-clause-others : goal.returns-clause-others
returns-clause-others g c =
    let raised = c.in_ok-raise_wear.ensures.writes.1 in
    others-before (chart (g.B.Board.state c.args.board.now)) (g.B.Board.state c.raise_wear.new.board) (g.B.Board.state c.erase-answer.new.self) c.args.segment
    (sym (ap (λ (x : Chart). x.shape) raised)) (sym (ap (λ (x : Chart). x.flash) raised))
    (began (g.B.Board.state c.raise_wear.new.board) (g.B.Board.state c.erase-answer.new.self) c.args.segment c.erase-answer.result c.in_ok-raise_wear.ensures.power c.erase-answer.ensures)

pub returns-clause-counted : goal.returns-clause-counted
returns-clause-counted g c on = (c.one_more.ensures, c.one_more-2.ensures)

pub returns-clause-power : goal.returns-clause-power
returns-clause-power g c = erased-power (g.B.Board.state c.raise_wear.new.board) (g.B.Board.state c.erase-answer.new.self) c.args.segment c.erase-answer.result c.erase-answer.ensures

pub returns-clause-bad : goal.returns-clause-bad
returns-clause-bad g c is =
    erased-bad (g.B.Board.state c.raise_wear.new.board) (g.B.Board.state c.erase-answer.new.self) c.args.segment c.erase-answer.result c.erase-answer.ensures is
    ∙ ap (λ (x : Chart). up x.bads) c.in_ok-raise_wear.ensures.writes.1

use Rattle.envy_map.specs.Fields.{chart}
use Rattle.envy_reloc.proofs.Exits.{none-if, none-err}
use Rattle.envy_engine.proofs.EndAnswers.{none-some}
use Rattle.envy_engine.proofs.TakenAnswers.{taken, others-free, taken-named, not-free, all-free}
use Rattle.envy_engine.proofs.beside.relocated.Goals as goal

pub returns-in-Copy : goal.returns-in-Copy
returns-in-Copy g c =
    let job = (chart (g.B.Board.state c.args.board.now)).fields.job in
    let takes = taken job c.in_ok-v.field-0 c.in-Copy.v c.in_ok-v.ensures.value.1 c.in-Copy.is in
    record {
      others = λ s other. others-free job c.in-Copy.v s takes other;
      is = λ s same. not-free job s (taken-named job c.in-Copy.v s takes same);
      named = λ s same. taken-named job c.in-Copy.v s takes same;
      off = tt;
    }

pub returns-in-Copy-2 : goal.returns-in-Copy-2
returns-in-Copy-2 g c =
    let job = (chart (g.B.Board.state c.args.board.now)).fields.job in
    let takes = taken job c.in_ok-v.field-0 c.in-Copy.v c.in_ok-v.ensures.value.1 c.in-Copy.is in
    record {
      others = λ s other. others-free job c.in-Copy.v s takes other;
      is = λ s same. not-free job s (taken-named job c.in-Copy.v s takes same);
      named = λ s same. taken-named job c.in-Copy.v s takes same;
      off = tt;
    }

pub returns-in_err-v : goal.returns-in_err-v
returns-in_err-v g c = record {
  others = none-if c.from_residual.result _ _ c.from_residual.ensures.1;
  is = none-if c.from_residual.result _ _ c.from_residual.ensures.1;
  named = none-if c.from_residual.result _ _ c.from_residual.ensures.1;
  off = none-err c.from_residual.result _ _ c.in_err-v.ensures.value c.from_residual.ensures.1;
}

pub returns-in_default : goal.returns-in_default
returns-in_default g c =
    let job = (chart (g.B.Board.state c.args.board.now)).fields.job in
    record {
      others = λ s other. all-free job c.in_ok-v.field-0 s c.in_ok-v.ensures.value.1 c.in_default.not-Copy c.in_default.not-Switch;
      is = λ s same. none-some s same;
      named = λ s same. none-some s same;
      off = tt;
    }

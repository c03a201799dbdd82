use Rattle.std.proofs.Common.{◌/◌, Some, Ok, Err, subst, sym}
use Rattle.std.proofs.lemmas.Result.{err_from_is_err_and}
use Rattle.envy_map.specs.Fields.{chart}
use Rattle.envy_memory.specs.Picture.{Picture}
use Rattle.envy_memory.specs.PutRuns.{PutsMore}
use Rattle.envy_memory.specs.Runs.{StandsFor}
use Rattle.envy_memory.specs.declared.faults.PutFault.TheVariants.{Off}
use Rattle.envy_memory.proofs.PutRuns.{more-done, more-lost, owned-of}
use Rattle.envy_memory.proofs.memory.Memory.put_more.Goals as goal

pub returns-in_err-change_frame_word-clause-puts : goal.returns-in_err-change_frame_word-clause-puts
returns-in_err-change_frame_word-clause-puts g c t stands =
    let old : Picture = record { chart = chart (g.B.Board.state c.self.inside.board); parts = c.self.inside.parts; owned = c.self.inside.owned; limit = c.self.inside.limit; mark = c.self.inside.mark; sram = (g.B.Board.state c.self.inside.board).sram } in
    let new : Picture = record old { chart = chart (g.B.Board.state c.change_frame_word.new.board); sram = (g.B.Board.state c.change_frame_word.new.board).sram } in
    let here = subst (λ (p : Picture). StandsFor (Some t) (c.args.a / 32) c.args.frame p) (sym c.self.view_is) stands in
    let p = err_from_is_err_and c.from_residual.result c.from_residual.ensures.1 in
    rw (p.1, p.2) (subst (λ (p : Picture). PutsMore t c.args.a c.args.value (Err Off) p new) c.self.view_is
    (more-lost t c.args.a c.args.value c.args.frame old new.chart c.self.invariant.0 here (c.in_err-change_frame_word.ensures.owned (λ on. owned-of t (c.args.a / 32) c.args.frame old c.self.invariant.0 here))))

pub returns-clause-puts : goal.returns-clause-puts
returns-clause-puts g c t stands =
    let old : Picture = record { chart = chart (g.B.Board.state c.self.inside.board); parts = c.self.inside.parts; owned = c.self.inside.owned; limit = c.self.inside.limit; mark = c.self.inside.mark; sram = (g.B.Board.state c.self.inside.board).sram } in
    let new : Picture = record old { chart = chart (g.B.Board.state c.change_frame_word.new.board); sram = (g.B.Board.state c.change_frame_word.new.board).sram } in
    let here = subst (λ (p : Picture). StandsFor (Some t) (c.args.a / 32) c.args.frame p) (sym c.self.view_is) stands in
    subst (λ (p : Picture). PutsMore t c.args.a c.args.value (Ok tt) p new) c.self.view_is
    (more-done t c.args.a c.args.value c.args.frame old new.chart c.self.invariant.0 here (c.in_ok-change_frame_word.ensures.owned (λ on. owned-of t (c.args.a / 32) c.args.frame old c.self.invariant.0 here)))

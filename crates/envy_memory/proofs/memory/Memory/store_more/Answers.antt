use Rattle.std.proofs.Common.{◌/◌, None, Ok, Err, subst, sym}
use Rattle.std.proofs.lemmas.Result.{err_from_is_err_and}
use Rattle.envy_map.specs.Fields.{chart}
use Rattle.envy_memory.specs.Picture.{Picture}
use Rattle.envy_memory.specs.StoreRuns.{StoresMore}
use Rattle.envy_memory.specs.Runs.{StandsFor}
use Rattle.envy_memory.specs.declared.faults.StoreFault.TheVariants.{Off}
use Rattle.envy_memory.proofs.StoreRunLemmas.{stored-more, stored-lost, free-of}
use Rattle.envy_memory.proofs.memory.Memory.store_more.Goals as goal

pub returns-in_err-change_frame_word-clause-stores : goal.returns-in_err-change_frame_word-clause-stores
returns-in_err-change_frame_word-clause-stores g c =
    let old : Picture = record { chart = chart (g.B.Board.state c.self.inside.board); parts = c.self.inside.parts; owned = c.self.inside.owned; limit = c.self.inside.limit; mark = c.self.inside.mark; sram = (g.B.Board.state c.self.inside.board).sram } in
    let new : Picture = record old { chart = chart (g.B.Board.state c.change_frame_word.new.board); sram = (g.B.Board.state c.change_frame_word.new.board).sram } in
    let here = subst (λ (p : Picture). StandsFor None (c.args.a / 32) c.args.frame p) (sym c.self.view_is) c.requires.stands in
    let p = err_from_is_err_and c.from_residual.result c.from_residual.ensures.1 in
    rw (p.1, p.2) (subst (λ (p : Picture). StoresMore c.args.a c.args.value (Err Off) p new) c.self.view_is
    (stored-lost c.args.a c.args.value c.args.frame old new.chart c.self.invariant.0 here (c.in_err-change_frame_word.ensures.free (λ on. free-of (c.args.a / 32) c.args.frame old c.self.invariant.0 here))))

pub returns-clause-stores : goal.returns-clause-stores
returns-clause-stores g c =
    let old : Picture = record { chart = chart (g.B.Board.state c.self.inside.board); parts = c.self.inside.parts; owned = c.self.inside.owned; limit = c.self.inside.limit; mark = c.self.inside.mark; sram = (g.B.Board.state c.self.inside.board).sram } in
    let new : Picture = record old { chart = chart (g.B.Board.state c.change_frame_word.new.board); sram = (g.B.Board.state c.change_frame_word.new.board).sram } in
    let here = subst (λ (p : Picture). StandsFor None (c.args.a / 32) c.args.frame p) (sym c.self.view_is) c.requires.stands in
    subst (λ (p : Picture). StoresMore c.args.a c.args.value (Ok tt) p new) c.self.view_is
    (stored-more c.args.a c.args.value c.args.frame old new.chart c.self.invariant.0 here (c.in_ok-change_frame_word.ensures.free (λ on. free-of (c.args.a / 32) c.args.frame old c.self.invariant.0 here)))

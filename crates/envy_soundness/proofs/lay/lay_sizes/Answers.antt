use Rattle.std.proofs.Common.{◌≡◌, ◌+◌, ◌*◌, ◌^◌, ◌∙◌, refl, ap}
use Rattle.envy_base.specs.declared.shape.Shape.{Shape}
use Rattle.envy_map.specs.Fields.{chart, with_fields}
use Rattle.envy_map.specs.Writes.{with_size}
use Rattle.envy_soundness.proofs.Laying.{Lays-more, Lays-stops, OnErr-any, sizes-same}
use Rattle.envy_soundness.proofs.lay.lay_sizes.Goals as goal

pub returns-in_err-set_size-clause-stopped : goal.returns-in_err-set_size-clause-stopped
returns-in_err-set_size-clause-stopped g c =
    OnErr-any _ (Lays-stops (chart (g.B.Board.state c.args.board.now)) (chart (g.B.Board.state c.args.board.now)) (chart (g.B.Board.state c.set_size.new.board)) ((chart (g.B.Board.state c.args.board.now)).fields) (with_size 0 c.pair.result) _ c.requires refl refl refl c.in_err-set_size.ensures.writes)

pub returns-in_err-set_size-2-clause-stopped : goal.returns-in_err-set_size-2-clause-stopped
returns-in_err-set_size-2-clause-stopped g c =
    let step0 : (chart (g.B.Board.state c.set_size.new.board)) ≡ with_fields (chart (g.B.Board.state c.args.board.now)) (with_size 0 c.pair.result ((chart (g.B.Board.state c.args.board.now)).fields)) = Lays-more (chart (g.B.Board.state c.args.board.now)) (chart (g.B.Board.state c.args.board.now)) (chart (g.B.Board.state c.set_size.new.board)) ((chart (g.B.Board.state c.args.board.now)).fields) (with_size 0 c.pair.result ((chart (g.B.Board.state c.args.board.now)).fields)) (with_size 0 c.pair.result) refl refl c.in_ok-set_size.ensures.writes in
    OnErr-any _ (Lays-stops (chart (g.B.Board.state c.args.board.now)) (chart (g.B.Board.state c.set_size.new.board)) (chart (g.B.Board.state c.set_size-2.new.board)) (with_size 0 c.pair.result ((chart (g.B.Board.state c.args.board.now)).fields)) (with_size 1 c.pair-2.result) _ c.requires step0 refl refl c.in_err-set_size-2.ensures.writes)

pub returns-in_err-set_size-3-clause-stopped : goal.returns-in_err-set_size-3-clause-stopped
returns-in_err-set_size-3-clause-stopped g c =
    let step0 : (chart (g.B.Board.state c.set_size.new.board)) ≡ with_fields (chart (g.B.Board.state c.args.board.now)) (with_size 0 c.pair.result ((chart (g.B.Board.state c.args.board.now)).fields)) = Lays-more (chart (g.B.Board.state c.args.board.now)) (chart (g.B.Board.state c.args.board.now)) (chart (g.B.Board.state c.set_size.new.board)) ((chart (g.B.Board.state c.args.board.now)).fields) (with_size 0 c.pair.result ((chart (g.B.Board.state c.args.board.now)).fields)) (with_size 0 c.pair.result) refl refl c.in_ok-set_size.ensures.writes in
    let step1 : (chart (g.B.Board.state c.set_size-2.new.board)) ≡ with_fields (chart (g.B.Board.state c.args.board.now)) (with_size 1 c.pair-2.result (with_size 0 c.pair.result ((chart (g.B.Board.state c.args.board.now)).fields))) = Lays-more (chart (g.B.Board.state c.args.board.now)) (chart (g.B.Board.state c.set_size.new.board)) (chart (g.B.Board.state c.set_size-2.new.board)) (with_size 0 c.pair.result ((chart (g.B.Board.state c.args.board.now)).fields)) (with_size 1 c.pair-2.result (with_size 0 c.pair.result ((chart (g.B.Board.state c.args.board.now)).fields))) (with_size 1 c.pair-2.result) step0 refl c.in_ok-set_size-2.ensures.writes in
    OnErr-any _ (Lays-stops (chart (g.B.Board.state c.args.board.now)) (chart (g.B.Board.state c.set_size-2.new.board)) (chart (g.B.Board.state c.set_size-3.new.board)) (with_size 1 c.pair-2.result (with_size 0 c.pair.result ((chart (g.B.Board.state c.args.board.now)).fields))) (with_size 2 c.pair-3.result) _ c.requires step1 refl refl c.in_err-set_size-3.ensures.writes)

pub returns-clause-done : goal.returns-clause-done
returns-clause-done g c =
    let step0 : (chart (g.B.Board.state c.set_size.new.board)) ≡ with_fields (chart (g.B.Board.state c.args.board.now)) (with_size 0 c.pair.result ((chart (g.B.Board.state c.args.board.now)).fields)) = Lays-more (chart (g.B.Board.state c.args.board.now)) (chart (g.B.Board.state c.args.board.now)) (chart (g.B.Board.state c.set_size.new.board)) ((chart (g.B.Board.state c.args.board.now)).fields) (with_size 0 c.pair.result ((chart (g.B.Board.state c.args.board.now)).fields)) (with_size 0 c.pair.result) refl refl c.in_ok-set_size.ensures.writes in
    let step1 : (chart (g.B.Board.state c.set_size-2.new.board)) ≡ with_fields (chart (g.B.Board.state c.args.board.now)) (with_size 1 c.pair-2.result (with_size 0 c.pair.result ((chart (g.B.Board.state c.args.board.now)).fields))) = Lays-more (chart (g.B.Board.state c.args.board.now)) (chart (g.B.Board.state c.set_size.new.board)) (chart (g.B.Board.state c.set_size-2.new.board)) (with_size 0 c.pair.result ((chart (g.B.Board.state c.args.board.now)).fields)) (with_size 1 c.pair-2.result (with_size 0 c.pair.result ((chart (g.B.Board.state c.args.board.now)).fields))) (with_size 1 c.pair-2.result) step0 refl c.in_ok-set_size-2.ensures.writes in
    let step2 : (chart (g.B.Board.state c.set_size-3.new.board)) ≡ with_fields (chart (g.B.Board.state c.args.board.now)) (with_size 2 c.pair-3.result (with_size 1 c.pair-2.result (with_size 0 c.pair.result ((chart (g.B.Board.state c.args.board.now)).fields)))) = Lays-more (chart (g.B.Board.state c.args.board.now)) (chart (g.B.Board.state c.set_size-2.new.board)) (chart (g.B.Board.state c.set_size-3.new.board)) (with_size 1 c.pair-2.result (with_size 0 c.pair.result ((chart (g.B.Board.state c.args.board.now)).fields))) (with_size 2 c.pair-3.result (with_size 1 c.pair-2.result (with_size 0 c.pair.result ((chart (g.B.Board.state c.args.board.now)).fields)))) (with_size 2 c.pair-3.result) step1 refl c.in_ok-set_size-3.ensures.writes in
    step2 ∙ ap (with_fields (chart (g.B.Board.state c.args.board.now))) (sizes-same (chart (g.B.Board.state c.args.board.now)).fields (g.B.Board.state c.args.board.now).shape _ _ _ (c.pair.ensures ∙ ap (λ (sh : Shape). sh.segments * 2 ^ 32 + sh.rows) c.shape-shape.ensures) (c.pair-2.ensures ∙ ap (λ (sh : Shape). sh.pages * 2 ^ 32 + sh.shadows) c.shape-shape.ensures) (c.pair-3.ensures ∙ ap (λ (sh : Shape). sh.frames * 2 ^ 32 + sh.entries) c.shape-shape.ensures))

use Rattle.std.proofs.Common.{◌≡◌, ◌+◌, ◌*◌, ◌<◌, refl, sym, ◌∙◌, ap, subst, arith}
use Rattle.envy_base.specs.declared.shape.Shape.{Shape}
use Rattle.envy_base.specs.Map.{frames_at}
use Rattle.envy_map.specs.Fields.{chart, with_fields}
use Rattle.envy_map.specs.Writes.{with_frame}
use Rattle.envy_map.proofs.Filling.{Filling-begins, Filling-shape, Filling-more, Filling-stops, Filling-below}
use Rattle.envy_map.proofs.Going.{OnErr-any}
use Rattle.envy_map.proofs.frame.write_frame.Goals as goal

pub loop-k-init : goal.loop-k-init
loop-k-init g c = record { filling = Filling-begins (g.B.Board.state c.args.board.now) c.args.frame c.args.page.now }

pub put_frame_word-requires-clause-first : goal.put_frame_word-requires-clause-first
put_frame_word-requires-clause-first g c =
    let board = g.met.B.Board.lawful c.args.board.now in
    c.first_word-first.ensures ∙ ap (λ (s : Shape). frames_at s + 32 * c.args.frame) (c.shape.ensures ∙ sym (Filling-shape (g.B.Board.state c.args.board.now) (g.B.Board.state c.loop-k.board) c.args.frame c.args.page.now (4 * c.loop-k.k) c.loop-k.invariant.filling))

pub put_frame_word-requires-clause-frame : goal.put_frame_word-requires-clause-frame
put_frame_word-requires-clause-frame g c =
    let board = g.met.B.Board.lawful c.args.board.now in
    subst (λ (s : Shape). c.args.frame < s.frames) (sym (Filling-shape (g.B.Board.state c.args.board.now) (g.B.Board.state c.loop-k.board) c.args.frame c.args.page.now (4 * c.loop-k.k) c.loop-k.invariant.filling)) c.requires

pub returns-in_err-put_frame_word-clause-off : goal.returns-in_err-put_frame_word-clause-off
returns-in_err-put_frame_word-clause-off g c =
    let board = g.met.B.Board.lawful c.args.board.now in
    OnErr-any _ (Filling-stops (g.B.Board.state c.args.board.now) (g.B.Board.state c.loop-k.board) (g.B.Board.state c.put_frame_word.new.board) c.args.frame c.args.page.now (4 * c.loop-k.k) _ board c.requires c.told-page (omega arith) c.loop-k.invariant.filling c.in_err-put_frame_word.ensures.writes)

pub returns-in_err-put_frame_word-clause-below : goal.returns-in_err-put_frame_word-clause-below
returns-in_err-put_frame_word-clause-below g c =
    let board = g.met.B.Board.lawful c.args.board.now in
    Filling-below (g.B.Board.state c.args.board.now) (g.B.Board.state c.loop-k.board) (g.B.Board.state c.put_frame_word.new.board) c.args.frame c.args.page.now (4 * c.loop-k.k) c.put_frame_word.result c.loop-k.invariant.filling c.put_frame_word.ensures.put

pub put_frame_word-requires-in-loop-k-clause-first : goal.put_frame_word-requires-in-loop-k-clause-first
put_frame_word-requires-in-loop-k-clause-first g c =
    let board = g.met.B.Board.lawful c.args.board.now in
    let one = Filling-more (g.B.Board.state c.args.board.now) (g.B.Board.state c.loop-k.board) (g.B.Board.state c.put_frame_word.new.board) c.args.frame c.args.page.now (4 * c.loop-k.k) (4 * c.loop-k.k + 1) _ board c.requires c.told-page (omega arith) refl c.loop-k.invariant.filling c.in_ok-put_frame_word.ensures.writes c.in_ok-put_frame_word.ensures.put in
    c.first_word-first.ensures ∙ ap (λ (s : Shape). frames_at s + 32 * c.args.frame) (c.shape.ensures ∙ sym (Filling-shape (g.B.Board.state c.args.board.now) (g.B.Board.state c.put_frame_word.new.board) c.args.frame c.args.page.now (4 * c.loop-k.k + 1) one))

pub put_frame_word-requires-in-loop-k-clause-frame : goal.put_frame_word-requires-in-loop-k-clause-frame
put_frame_word-requires-in-loop-k-clause-frame g c =
    let board = g.met.B.Board.lawful c.args.board.now in
    let one = Filling-more (g.B.Board.state c.args.board.now) (g.B.Board.state c.loop-k.board) (g.B.Board.state c.put_frame_word.new.board) c.args.frame c.args.page.now (4 * c.loop-k.k) (4 * c.loop-k.k + 1) _ board c.requires c.told-page (omega arith) refl c.loop-k.invariant.filling c.in_ok-put_frame_word.ensures.writes c.in_ok-put_frame_word.ensures.put in
    subst (λ (s : Shape). c.args.frame < s.frames) (sym (Filling-shape (g.B.Board.state c.args.board.now) (g.B.Board.state c.put_frame_word.new.board) c.args.frame c.args.page.now (4 * c.loop-k.k + 1) one)) c.requires

pub returns-in_err-put_frame_word-2-clause-off : goal.returns-in_err-put_frame_word-2-clause-off
returns-in_err-put_frame_word-2-clause-off g c =
    let board = g.met.B.Board.lawful c.args.board.now in
    let one = Filling-more (g.B.Board.state c.args.board.now) (g.B.Board.state c.loop-k.board) (g.B.Board.state c.put_frame_word.new.board) c.args.frame c.args.page.now (4 * c.loop-k.k) (4 * c.loop-k.k + 1) _ board c.requires c.told-page (omega arith) refl c.loop-k.invariant.filling c.in_ok-put_frame_word.ensures.writes c.in_ok-put_frame_word.ensures.put in
    OnErr-any _ (Filling-stops (g.B.Board.state c.args.board.now) (g.B.Board.state c.put_frame_word.new.board) (g.B.Board.state c.put_frame_word-in-loop-k.new.board) c.args.frame c.args.page.now (4 * c.loop-k.k + 1) _ board c.requires c.told-page (omega arith) one c.in_err-put_frame_word-2.ensures.writes)

pub returns-in_err-put_frame_word-2-clause-below : goal.returns-in_err-put_frame_word-2-clause-below
returns-in_err-put_frame_word-2-clause-below g c =
    let board = g.met.B.Board.lawful c.args.board.now in
    let one = Filling-more (g.B.Board.state c.args.board.now) (g.B.Board.state c.loop-k.board) (g.B.Board.state c.put_frame_word.new.board) c.args.frame c.args.page.now (4 * c.loop-k.k) (4 * c.loop-k.k + 1) _ board c.requires c.told-page (omega arith) refl c.loop-k.invariant.filling c.in_ok-put_frame_word.ensures.writes c.in_ok-put_frame_word.ensures.put in
    Filling-below (g.B.Board.state c.args.board.now) (g.B.Board.state c.put_frame_word.new.board) (g.B.Board.state c.put_frame_word-in-loop-k.new.board) c.args.frame c.args.page.now (4 * c.loop-k.k + 1) c.put_frame_word-in-loop-k.result one c.put_frame_word-in-loop-k.ensures.put

pub put_frame_word-requires-in-loop-k-2-clause-first : goal.put_frame_word-requires-in-loop-k-2-clause-first
put_frame_word-requires-in-loop-k-2-clause-first g c =
    let board = g.met.B.Board.lawful c.args.board.now in
    let one = Filling-more (g.B.Board.state c.args.board.now) (g.B.Board.state c.loop-k.board) (g.B.Board.state c.put_frame_word.new.board) c.args.frame c.args.page.now (4 * c.loop-k.k) (4 * c.loop-k.k + 1) _ board c.requires c.told-page (omega arith) refl c.loop-k.invariant.filling c.in_ok-put_frame_word.ensures.writes c.in_ok-put_frame_word.ensures.put in
    let two = Filling-more (g.B.Board.state c.args.board.now) (g.B.Board.state c.put_frame_word.new.board) (g.B.Board.state c.put_frame_word-in-loop-k.new.board) c.args.frame c.args.page.now (4 * c.loop-k.k + 1) (4 * c.loop-k.k + 2) _ board c.requires c.told-page (omega arith) (omega arith) one c.in_ok-put_frame_word-2.ensures.writes c.in_ok-put_frame_word-2.ensures.put in
    c.first_word-first.ensures ∙ ap (λ (s : Shape). frames_at s + 32 * c.args.frame) (c.shape.ensures ∙ sym (Filling-shape (g.B.Board.state c.args.board.now) (g.B.Board.state c.put_frame_word-in-loop-k.new.board) c.args.frame c.args.page.now (4 * c.loop-k.k + 2) two))

pub put_frame_word-requires-in-loop-k-2-clause-frame : goal.put_frame_word-requires-in-loop-k-2-clause-frame
put_frame_word-requires-in-loop-k-2-clause-frame g c =
    let board = g.met.B.Board.lawful c.args.board.now in
    let one = Filling-more (g.B.Board.state c.args.board.now) (g.B.Board.state c.loop-k.board) (g.B.Board.state c.put_frame_word.new.board) c.args.frame c.args.page.now (4 * c.loop-k.k) (4 * c.loop-k.k + 1) _ board c.requires c.told-page (omega arith) refl c.loop-k.invariant.filling c.in_ok-put_frame_word.ensures.writes c.in_ok-put_frame_word.ensures.put in
    let two = Filling-more (g.B.Board.state c.args.board.now) (g.B.Board.state c.put_frame_word.new.board) (g.B.Board.state c.put_frame_word-in-loop-k.new.board) c.args.frame c.args.page.now (4 * c.loop-k.k + 1) (4 * c.loop-k.k + 2) _ board c.requires c.told-page (omega arith) (omega arith) one c.in_ok-put_frame_word-2.ensures.writes c.in_ok-put_frame_word-2.ensures.put in
    subst (λ (s : Shape). c.args.frame < s.frames) (sym (Filling-shape (g.B.Board.state c.args.board.now) (g.B.Board.state c.put_frame_word-in-loop-k.new.board) c.args.frame c.args.page.now (4 * c.loop-k.k + 2) two)) c.requires

pub returns-in_err-put_frame_word-3-clause-off : goal.returns-in_err-put_frame_word-3-clause-off
returns-in_err-put_frame_word-3-clause-off g c =
    let board = g.met.B.Board.lawful c.args.board.now in
    let one = Filling-more (g.B.Board.state c.args.board.now) (g.B.Board.state c.loop-k.board) (g.B.Board.state c.put_frame_word.new.board) c.args.frame c.args.page.now (4 * c.loop-k.k) (4 * c.loop-k.k + 1) _ board c.requires c.told-page (omega arith) refl c.loop-k.invariant.filling c.in_ok-put_frame_word.ensures.writes c.in_ok-put_frame_word.ensures.put in
    let two = Filling-more (g.B.Board.state c.args.board.now) (g.B.Board.state c.put_frame_word.new.board) (g.B.Board.state c.put_frame_word-in-loop-k.new.board) c.args.frame c.args.page.now (4 * c.loop-k.k + 1) (4 * c.loop-k.k + 2) _ board c.requires c.told-page (omega arith) (omega arith) one c.in_ok-put_frame_word-2.ensures.writes c.in_ok-put_frame_word-2.ensures.put in
    OnErr-any _ (Filling-stops (g.B.Board.state c.args.board.now) (g.B.Board.state c.put_frame_word-in-loop-k.new.board) (g.B.Board.state c.put_frame_word-in-loop-k-2.new.board) c.args.frame c.args.page.now (4 * c.loop-k.k + 2) _ board c.requires c.told-page (omega arith) two c.in_err-put_frame_word-3.ensures.writes)

pub returns-in_err-put_frame_word-3-clause-below : goal.returns-in_err-put_frame_word-3-clause-below
returns-in_err-put_frame_word-3-clause-below g c =
    let board = g.met.B.Board.lawful c.args.board.now in
    let one = Filling-more (g.B.Board.state c.args.board.now) (g.B.Board.state c.loop-k.board) (g.B.Board.state c.put_frame_word.new.board) c.args.frame c.args.page.now (4 * c.loop-k.k) (4 * c.loop-k.k + 1) _ board c.requires c.told-page (omega arith) refl c.loop-k.invariant.filling c.in_ok-put_frame_word.ensures.writes c.in_ok-put_frame_word.ensures.put in
    let two = Filling-more (g.B.Board.state c.args.board.now) (g.B.Board.state c.put_frame_word.new.board) (g.B.Board.state c.put_frame_word-in-loop-k.new.board) c.args.frame c.args.page.now (4 * c.loop-k.k + 1) (4 * c.loop-k.k + 2) _ board c.requires c.told-page (omega arith) (omega arith) one c.in_ok-put_frame_word-2.ensures.writes c.in_ok-put_frame_word-2.ensures.put in
    Filling-below (g.B.Board.state c.args.board.now) (g.B.Board.state c.put_frame_word-in-loop-k.new.board) (g.B.Board.state c.put_frame_word-in-loop-k-2.new.board) c.args.frame c.args.page.now (4 * c.loop-k.k + 2) c.put_frame_word-in-loop-k-2.result two c.put_frame_word-in-loop-k-2.ensures.put

pub put_frame_word-requires-in-loop-k-3-clause-first : goal.put_frame_word-requires-in-loop-k-3-clause-first
put_frame_word-requires-in-loop-k-3-clause-first g c =
    let board = g.met.B.Board.lawful c.args.board.now in
    let one = Filling-more (g.B.Board.state c.args.board.now) (g.B.Board.state c.loop-k.board) (g.B.Board.state c.put_frame_word.new.board) c.args.frame c.args.page.now (4 * c.loop-k.k) (4 * c.loop-k.k + 1) _ board c.requires c.told-page (omega arith) refl c.loop-k.invariant.filling c.in_ok-put_frame_word.ensures.writes c.in_ok-put_frame_word.ensures.put in
    let two = Filling-more (g.B.Board.state c.args.board.now) (g.B.Board.state c.put_frame_word.new.board) (g.B.Board.state c.put_frame_word-in-loop-k.new.board) c.args.frame c.args.page.now (4 * c.loop-k.k + 1) (4 * c.loop-k.k + 2) _ board c.requires c.told-page (omega arith) (omega arith) one c.in_ok-put_frame_word-2.ensures.writes c.in_ok-put_frame_word-2.ensures.put in
    let three = Filling-more (g.B.Board.state c.args.board.now) (g.B.Board.state c.put_frame_word-in-loop-k.new.board) (g.B.Board.state c.put_frame_word-in-loop-k-2.new.board) c.args.frame c.args.page.now (4 * c.loop-k.k + 2) (4 * c.loop-k.k + 3) _ board c.requires c.told-page (omega arith) (omega arith) two c.in_ok-put_frame_word-3.ensures.writes c.in_ok-put_frame_word-3.ensures.put in
    c.first_word-first.ensures ∙ ap (λ (s : Shape). frames_at s + 32 * c.args.frame) (c.shape.ensures ∙ sym (Filling-shape (g.B.Board.state c.args.board.now) (g.B.Board.state c.put_frame_word-in-loop-k-2.new.board) c.args.frame c.args.page.now (4 * c.loop-k.k + 3) three))

pub put_frame_word-requires-in-loop-k-3-clause-frame : goal.put_frame_word-requires-in-loop-k-3-clause-frame
put_frame_word-requires-in-loop-k-3-clause-frame g c =
    let board = g.met.B.Board.lawful c.args.board.now in
    let one = Filling-more (g.B.Board.state c.args.board.now) (g.B.Board.state c.loop-k.board) (g.B.Board.state c.put_frame_word.new.board) c.args.frame c.args.page.now (4 * c.loop-k.k) (4 * c.loop-k.k + 1) _ board c.requires c.told-page (omega arith) refl c.loop-k.invariant.filling c.in_ok-put_frame_word.ensures.writes c.in_ok-put_frame_word.ensures.put in
    let two = Filling-more (g.B.Board.state c.args.board.now) (g.B.Board.state c.put_frame_word.new.board) (g.B.Board.state c.put_frame_word-in-loop-k.new.board) c.args.frame c.args.page.now (4 * c.loop-k.k + 1) (4 * c.loop-k.k + 2) _ board c.requires c.told-page (omega arith) (omega arith) one c.in_ok-put_frame_word-2.ensures.writes c.in_ok-put_frame_word-2.ensures.put in
    let three = Filling-more (g.B.Board.state c.args.board.now) (g.B.Board.state c.put_frame_word-in-loop-k.new.board) (g.B.Board.state c.put_frame_word-in-loop-k-2.new.board) c.args.frame c.args.page.now (4 * c.loop-k.k + 2) (4 * c.loop-k.k + 3) _ board c.requires c.told-page (omega arith) (omega arith) two c.in_ok-put_frame_word-3.ensures.writes c.in_ok-put_frame_word-3.ensures.put in
    subst (λ (s : Shape). c.args.frame < s.frames) (sym (Filling-shape (g.B.Board.state c.args.board.now) (g.B.Board.state c.put_frame_word-in-loop-k-2.new.board) c.args.frame c.args.page.now (4 * c.loop-k.k + 3) three)) c.requires

pub returns-in_err-put_frame_word-4-clause-off : goal.returns-in_err-put_frame_word-4-clause-off
returns-in_err-put_frame_word-4-clause-off g c =
    let board = g.met.B.Board.lawful c.args.board.now in
    let one = Filling-more (g.B.Board.state c.args.board.now) (g.B.Board.state c.loop-k.board) (g.B.Board.state c.put_frame_word.new.board) c.args.frame c.args.page.now (4 * c.loop-k.k) (4 * c.loop-k.k + 1) _ board c.requires c.told-page (omega arith) refl c.loop-k.invariant.filling c.in_ok-put_frame_word.ensures.writes c.in_ok-put_frame_word.ensures.put in
    let two = Filling-more (g.B.Board.state c.args.board.now) (g.B.Board.state c.put_frame_word.new.board) (g.B.Board.state c.put_frame_word-in-loop-k.new.board) c.args.frame c.args.page.now (4 * c.loop-k.k + 1) (4 * c.loop-k.k + 2) _ board c.requires c.told-page (omega arith) (omega arith) one c.in_ok-put_frame_word-2.ensures.writes c.in_ok-put_frame_word-2.ensures.put in
    let three = Filling-more (g.B.Board.state c.args.board.now) (g.B.Board.state c.put_frame_word-in-loop-k.new.board) (g.B.Board.state c.put_frame_word-in-loop-k-2.new.board) c.args.frame c.args.page.now (4 * c.loop-k.k + 2) (4 * c.loop-k.k + 3) _ board c.requires c.told-page (omega arith) (omega arith) two c.in_ok-put_frame_word-3.ensures.writes c.in_ok-put_frame_word-3.ensures.put in
    OnErr-any _ (Filling-stops (g.B.Board.state c.args.board.now) (g.B.Board.state c.put_frame_word-in-loop-k-2.new.board) (g.B.Board.state c.put_frame_word-in-loop-k-3.new.board) c.args.frame c.args.page.now (4 * c.loop-k.k + 3) _ board c.requires c.told-page (omega arith) three c.in_err-put_frame_word-4.ensures.writes)

pub returns-in_err-put_frame_word-4-clause-below : goal.returns-in_err-put_frame_word-4-clause-below
returns-in_err-put_frame_word-4-clause-below g c =
    let board = g.met.B.Board.lawful c.args.board.now in
    let one = Filling-more (g.B.Board.state c.args.board.now) (g.B.Board.state c.loop-k.board) (g.B.Board.state c.put_frame_word.new.board) c.args.frame c.args.page.now (4 * c.loop-k.k) (4 * c.loop-k.k + 1) _ board c.requires c.told-page (omega arith) refl c.loop-k.invariant.filling c.in_ok-put_frame_word.ensures.writes c.in_ok-put_frame_word.ensures.put in
    let two = Filling-more (g.B.Board.state c.args.board.now) (g.B.Board.state c.put_frame_word.new.board) (g.B.Board.state c.put_frame_word-in-loop-k.new.board) c.args.frame c.args.page.now (4 * c.loop-k.k + 1) (4 * c.loop-k.k + 2) _ board c.requires c.told-page (omega arith) (omega arith) one c.in_ok-put_frame_word-2.ensures.writes c.in_ok-put_frame_word-2.ensures.put in
    let three = Filling-more (g.B.Board.state c.args.board.now) (g.B.Board.state c.put_frame_word-in-loop-k.new.board) (g.B.Board.state c.put_frame_word-in-loop-k-2.new.board) c.args.frame c.args.page.now (4 * c.loop-k.k + 2) (4 * c.loop-k.k + 3) _ board c.requires c.told-page (omega arith) (omega arith) two c.in_ok-put_frame_word-3.ensures.writes c.in_ok-put_frame_word-3.ensures.put in
    Filling-below (g.B.Board.state c.args.board.now) (g.B.Board.state c.put_frame_word-in-loop-k-2.new.board) (g.B.Board.state c.put_frame_word-in-loop-k-3.new.board) c.args.frame c.args.page.now (4 * c.loop-k.k + 3) c.put_frame_word-in-loop-k-3.result three c.put_frame_word-in-loop-k-3.ensures.put

pub loop-k-preserved : goal.loop-k-preserved
loop-k-preserved g c =
    let board = g.met.B.Board.lawful c.args.board.now in
    let one = Filling-more (g.B.Board.state c.args.board.now) (g.B.Board.state c.loop-k.board) (g.B.Board.state c.put_frame_word.new.board) c.args.frame c.args.page.now (4 * c.loop-k.k) (4 * c.loop-k.k + 1) _ board c.requires c.told-page (omega arith) refl c.loop-k.invariant.filling c.in_ok-put_frame_word.ensures.writes c.in_ok-put_frame_word.ensures.put in
    let two = Filling-more (g.B.Board.state c.args.board.now) (g.B.Board.state c.put_frame_word.new.board) (g.B.Board.state c.put_frame_word-in-loop-k.new.board) c.args.frame c.args.page.now (4 * c.loop-k.k + 1) (4 * c.loop-k.k + 2) _ board c.requires c.told-page (omega arith) (omega arith) one c.in_ok-put_frame_word-2.ensures.writes c.in_ok-put_frame_word-2.ensures.put in
    let three = Filling-more (g.B.Board.state c.args.board.now) (g.B.Board.state c.put_frame_word-in-loop-k.new.board) (g.B.Board.state c.put_frame_word-in-loop-k-2.new.board) c.args.frame c.args.page.now (4 * c.loop-k.k + 2) (4 * c.loop-k.k + 3) _ board c.requires c.told-page (omega arith) (omega arith) two c.in_ok-put_frame_word-3.ensures.writes c.in_ok-put_frame_word-3.ensures.put in
    let four = Filling-more (g.B.Board.state c.args.board.now) (g.B.Board.state c.put_frame_word-in-loop-k-2.new.board) (g.B.Board.state c.put_frame_word-in-loop-k-3.new.board) c.args.frame c.args.page.now (4 * c.loop-k.k + 3) (4 * (c.loop-k.k + 1)) _ board c.requires c.told-page (omega arith) (omega arith) three c.in_ok-put_frame_word-4.ensures.writes c.in_ok-put_frame_word-4.ensures.put in
    record { filling = four }

pub returns-clause-ok : goal.returns-clause-ok
returns-clause-ok g c =
    let all : 4 * c.loop-k.k ≡ 32 = omega arith in
    subst (λ n. chart (g.B.Board.state c.loop-k.board) ≡ with_fields (chart (g.B.Board.state c.args.board.now)) (with_frame c.args.frame c.args.page.now n (chart (g.B.Board.state c.args.board.now)).fields)) all c.loop-k.invariant.filling.going.is

pub returns-clause-on : goal.returns-clause-on
returns-clause-on g c = c.loop-k.invariant.filling.going.powered (omega arith)

pub returns-clause-below : goal.returns-clause-below
returns-clause-below g c = c.loop-k.invariant.filling.below

use Rattle.std.proofs.Common.{◌≡◌, ◌∙◌, Bool, true, false, List, Ok, sym, ap, subst}
use Rattle.std.proofs.lemmas.Bool.{false≢true}
use Rattle.envy_base.specs.State.{State, Erases}
use Rattle.envy_journal.specs.Journal.{journal_state, kept, lawful_lem}
use Rattle.envy_synced.proofs.Lightened.{erase_cut, erase_did, erase_ends, journal_on, journal_shape, left_both, Did}
use Rattle.envy_synced.proofs.light.erase.Given.{Over}
use Rattle.envy_synced.proofs.light.erase.Goals.{After-lighten}
use Rattle.envy_synced.proofs.light.erase.Goals as goal

did : (g : Over) (c : After-lighten g) → Did (journal_state c.args.journal.now.dead (g.B.Board.state c.args.journal.now.board)) (journal_state c.erase.new.self.dead (g.B.Board.state c.erase.new.self.board))
did g c =
    let j = c.args.journal.now in
    let mid = c.erase.new.self in
    erase_did (journal_state j.dead (g.B.Board.state j.board)) (journal_state mid.dead (g.B.Board.state mid.board)) c.args.segment c.in_ok-erase.ensures.state

pub returns-in_err-erase-clause-light : goal.returns-in_err-erase-clause-light
returns-in_err-erase-clause-light g c = λ alive.
    let j = c.args.journal.now in
    let new = c.erase.new.self in
    absurd (false≢true (sym alive ∙ erase_ends j.dead new.dead (g.B.Board.state j.board) (g.B.Board.state new.board) (g.met.B.Steady.steady j.board) (g.met.B.Steady.steady new.board) c.args.segment c.in_err-erase.field-0.0 c.in_err-erase.ensures.state))

pub returns-in-Ok-clause-state : goal.returns-in-Ok-clause-state
returns-in-Ok-clause-state g c =
    let j = c.args.journal.now in
    let s = journal_state j.dead (g.B.Board.state j.board) in
    subst (λ (x : State). Erases s c.args.segment (Ok tt) x) (sym c.in-Ok.ensures.same) c.in_ok-erase.ensures.state

pub returns-in-Err-clause-state : goal.returns-in-Err-clause-state
returns-in-Err-clause-state g c =
    let j = c.args.journal.now in
    let mid = c.erase.new.self in
    let new = c.lighten.new.journal in
    let at = goal.at.returns-in-Err-clause-state g c in
    let done = did g at.After-lighten in
    erase_cut (journal_state j.dead (g.B.Board.state j.board)) (journal_state mid.dead (g.B.Board.state mid.board)) (journal_state new.dead (g.B.Board.state new.board)) (c.in-Err.ensures.off done.on) (lawful_lem mid.dead (g.B.Board.state mid.board) (g.met.B.Board.lawful mid.board)) c.args.segment c.in_ok-erase.ensures.state

pub returns-in-Err-clause-still : goal.returns-in-Err-clause-still
returns-in-Err-clause-still g c = λ dead.
    let at = goal.at.returns-in-Err-clause-still g c in
    let done = did g at.After-lighten in
    absurd (false≢true (sym (journal_on c.args.journal.now.dead (g.B.Board.state c.args.journal.now.board) done.was_on) ∙ dead))

pub returns-in-Ok-clause-still : goal.returns-in-Ok-clause-still
returns-in-Ok-clause-still g c = λ dead.
    let at = goal.at.returns-in-Ok-clause-still g c in
    let done = did g at.After-lighten in
    absurd (false≢true (sym (journal_on c.args.journal.now.dead (g.B.Board.state c.args.journal.now.board) done.was_on) ∙ dead))

pub returns-in-Err-clause-any_moment : goal.returns-in-Err-clause-any_moment
returns-in-Err-clause-any_moment g c = λ alive.
    let at = goal.at.returns-in-Err-clause-any_moment g c in
    let done = did g at.After-lighten in
    let D = g.D.Device in
    let j = c.args.journal.now in
    let mid = c.erase.new.self in
    let a = g.B.Board.state j.board in
    let b = g.B.Board.state mid.board in
    left_both D.moment D.left_since j.log.device mid.log.device c.lighten.new.journal.log.device a.shape b.shape (kept D.seen j.log) (kept D.seen mid.log) (sym (journal_shape mid.dead b) ∙ done.shape ∙ journal_shape j.dead a) c.in_ok-erase.ensures.kept (c.erase.ensures.any_moment alive) (c.lighten.ensures.any_moment (journal_on mid.dead b done.on))

pub returns-in-Ok-clause-any_moment : goal.returns-in-Ok-clause-any_moment
returns-in-Ok-clause-any_moment g c = λ alive.
    let at = goal.at.returns-in-Ok-clause-any_moment g c in
    let done = did g at.After-lighten in
    let D = g.D.Device in
    let j = c.args.journal.now in
    let mid = c.erase.new.self in
    let a = g.B.Board.state j.board in
    let b = g.B.Board.state mid.board in
    left_both D.moment D.left_since j.log.device mid.log.device c.lighten.new.journal.log.device a.shape b.shape (kept D.seen j.log) (kept D.seen mid.log) (sym (journal_shape mid.dead b) ∙ done.shape ∙ journal_shape j.dead a) c.in_ok-erase.ensures.kept (c.erase.ensures.any_moment alive) (c.lighten.ensures.any_moment (journal_on mid.dead b done.on))

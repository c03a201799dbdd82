use Rattle.std.proofs.Common.{◌≡◌, ◌∙◌, refl, ap}
use Rattle.std.specs.Prelude.{Some}
use Rattle.envy_base.specs.declared.fields.Job.TheVariants.{Idle}
use Rattle.envy_map.specs.Fields.{Chart, chart, with_fields}
use Rattle.envy_map.specs.Writes.{with_version, with_job}
use Rattle.envy_soundness.specs.Formatting.{with_sizes, with_extras, with_head}
use Rattle.envy_soundness.proofs.Laying.{Lays-more, Lays-stops, OnErr-any}
use Rattle.envy_soundness.proofs.lay.lay_head.Goals as goal

pub returns-in_err-set_version-clause-stopped : goal.returns-in_err-set_version-clause-stopped
returns-in_err-set_version-clause-stopped g c =
    let first = c.in_ok-lay_sizes.ensures.done in
    let second : (chart (g.B.Board.state c.lay_extras.new.board)) ≡ with_fields (chart (g.B.Board.state c.args.board.now)) (with_extras (g.B.Board.state c.args.board.now).shape c.args.version (with_sizes (g.B.Board.state c.args.board.now).shape (chart (g.B.Board.state c.args.board.now)).fields)) = c.in_ok-lay_extras.ensures.done ∙ ap (λ (x : Chart). with_fields x (with_extras x.shape c.args.version x.fields)) first in
    OnErr-any _ (Lays-stops (chart (g.B.Board.state c.args.board.now)) (chart (g.B.Board.state c.lay_extras.new.board)) (chart (g.B.Board.state c.set_version.new.board)) (with_extras (g.B.Board.state c.args.board.now).shape c.args.version (with_sizes (g.B.Board.state c.args.board.now).shape (chart (g.B.Board.state c.args.board.now)).fields)) (with_version c.args.version) _ c.requires second refl refl c.in_err-set_version.ensures.writes)

pub returns-in_err-set_job-clause-stopped : goal.returns-in_err-set_job-clause-stopped
returns-in_err-set_job-clause-stopped g c =
    let first = c.in_ok-lay_sizes.ensures.done in
    let second : (chart (g.B.Board.state c.lay_extras.new.board)) ≡ with_fields (chart (g.B.Board.state c.args.board.now)) (with_extras (g.B.Board.state c.args.board.now).shape c.args.version (with_sizes (g.B.Board.state c.args.board.now).shape (chart (g.B.Board.state c.args.board.now)).fields)) = c.in_ok-lay_extras.ensures.done ∙ ap (λ (x : Chart). with_fields x (with_extras x.shape c.args.version x.fields)) first in
    let third : (chart (g.B.Board.state c.set_version.new.board)) ≡ with_fields (chart (g.B.Board.state c.args.board.now)) (with_version c.args.version (with_extras (g.B.Board.state c.args.board.now).shape c.args.version (with_sizes (g.B.Board.state c.args.board.now).shape (chart (g.B.Board.state c.args.board.now)).fields))) = Lays-more (chart (g.B.Board.state c.args.board.now)) (chart (g.B.Board.state c.lay_extras.new.board)) (chart (g.B.Board.state c.set_version.new.board)) (with_extras (g.B.Board.state c.args.board.now).shape c.args.version (with_sizes (g.B.Board.state c.args.board.now).shape (chart (g.B.Board.state c.args.board.now)).fields)) (with_version c.args.version (with_extras (g.B.Board.state c.args.board.now).shape c.args.version (with_sizes (g.B.Board.state c.args.board.now).shape (chart (g.B.Board.state c.args.board.now)).fields))) (with_version c.args.version) second refl c.in_ok-set_version.ensures.writes in
    OnErr-any _ (Lays-stops (chart (g.B.Board.state c.args.board.now)) (chart (g.B.Board.state c.set_version.new.board)) (chart (g.B.Board.state c.set_job.new.board)) (with_version c.args.version (with_extras (g.B.Board.state c.args.board.now).shape c.args.version (with_sizes (g.B.Board.state c.args.board.now).shape (chart (g.B.Board.state c.args.board.now)).fields))) (with_job (Some Idle)) _ c.requires third refl refl c.in_err-set_job.ensures.writes)

pub returns-clause-done : goal.returns-clause-done
returns-clause-done g c =
    let first = c.in_ok-lay_sizes.ensures.done in
    let second : (chart (g.B.Board.state c.lay_extras.new.board)) ≡ with_fields (chart (g.B.Board.state c.args.board.now)) (with_extras (g.B.Board.state c.args.board.now).shape c.args.version (with_sizes (g.B.Board.state c.args.board.now).shape (chart (g.B.Board.state c.args.board.now)).fields)) = c.in_ok-lay_extras.ensures.done ∙ ap (λ (x : Chart). with_fields x (with_extras x.shape c.args.version x.fields)) first in
    let third : (chart (g.B.Board.state c.set_version.new.board)) ≡ with_fields (chart (g.B.Board.state c.args.board.now)) (with_version c.args.version (with_extras (g.B.Board.state c.args.board.now).shape c.args.version (with_sizes (g.B.Board.state c.args.board.now).shape (chart (g.B.Board.state c.args.board.now)).fields))) = Lays-more (chart (g.B.Board.state c.args.board.now)) (chart (g.B.Board.state c.lay_extras.new.board)) (chart (g.B.Board.state c.set_version.new.board)) (with_extras (g.B.Board.state c.args.board.now).shape c.args.version (with_sizes (g.B.Board.state c.args.board.now).shape (chart (g.B.Board.state c.args.board.now)).fields)) (with_version c.args.version (with_extras (g.B.Board.state c.args.board.now).shape c.args.version (with_sizes (g.B.Board.state c.args.board.now).shape (chart (g.B.Board.state c.args.board.now)).fields))) (with_version c.args.version) second refl c.in_ok-set_version.ensures.writes in
    Lays-more (chart (g.B.Board.state c.args.board.now)) (chart (g.B.Board.state c.set_version.new.board)) (chart (g.B.Board.state c.set_job.new.board)) (with_version c.args.version (with_extras (g.B.Board.state c.args.board.now).shape c.args.version (with_sizes (g.B.Board.state c.args.board.now).shape (chart (g.B.Board.state c.args.board.now)).fields))) (with_head (g.B.Board.state c.args.board.now).shape c.args.version (chart (g.B.Board.state c.args.board.now)).fields) (with_job (Some Idle)) third refl c.in_ok-set_job.ensures.writes

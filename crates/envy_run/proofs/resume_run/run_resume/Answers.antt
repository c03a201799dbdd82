use Rattle.std.proofs.Common.{◌*◌, sym, ◌∙◌, ap}
use Rattle.std.specs.Prelude.{None, Some}
use Rattle.envy_map.specs.Fields.{chart}
use Rattle.envy_policy.specs.Setup.{checked}
use Rattle.envy_policy.specs.declared.setup.Setup.{Setup}
use Rattle.envy_run.specs.Loading.{Loaded, ending_for}
use Rattle.envy_run.specs.Outcome.{outcome_of}
use Rattle.envy_run.specs.Resumes.{setup_found}
use Rattle.envy_run.specs.declared.endings.Ending.TheVariants.{ImageRefused}
use Rattle.envy_run.specs.declared.endings.ImageFault.TheVariants.{Unruly, Unsound}
use Rattle.envy_run.proofs.Loaded.{is-large, is-small}
use Rattle.envy_run.proofs.Resumed.{checks-err, checks-ok, installed-given, judged-sound, resume-declined, resume-headless, resume-large, resume-sound, resume-unruly, resume-unsound, stopped-ends}
use Rattle.envy_run.proofs.resume_run.run_resume.Goals as goal

pub serve_image-requires-clause-installed : goal.serve_image-requires-clause-installed
serve_image-requires-clause-installed g c =
    let l = c.in-Ok-take_image.ensures (g.S.Source.feed c.args.source.now) c.in-Ok.ensures.0 in
    installed-given c.setup_over-setup.result c.in-Ok.shape c.args.words.now.lives (g.M.Made.Board.state c.in-Ok-take_image.board) (ap (λ (x : Setup). x.shape) c.setup_over-setup.ensures) (Loaded.installed l)

pub serve_image-requires-clause-sound : goal.serve_image-requires-clause-sound
serve_image-requires-clause-sound g c =
    let l = c.in-Ok-take_image.ensures (g.S.Source.feed c.args.source.now) c.in-Ok.ensures.0 in
    judged-sound c.in-Ok-take_image.verdict (chart (g.M.Made.Board.state c.in-Ok-take_image.board)) c.in-Sound.is (Loaded.judges l)

pub serve_image-requires-clause-taken : goal.serve_image-requires-clause-taken
serve_image-requires-clause-taken g c =
    let l = c.in-Ok-take_image.ensures (g.S.Source.feed c.args.source.now) c.in-Ok.ensures.0 in
    (g.S.Source.feed c.args.source.now, Loaded.taken l)

pub returns-then-is_err-clause-resumes : goal.returns-then-is_err-clause-resumes
returns-then-is_err-clause-resumes g c =
    resume-unruly g.M.Made.Board.state c.args.words.now.most (setup_found c.args.words.now.policy c.args.words.now.limit c.args.words.now.mark) c.setup_over-setup.result c.in-Ok.shape c.args.words.now.lives c.taken-then-is_err.result c.stopped_at.result (g.S.Source.feed c.args.source.now) (g.S.Source.feed c.take_head.new.source) (g.K.Sink.drain c.args.sink.now) c.take_head.new.lines c.stopped_at.ensures c.taken-then-is_err.ensures c.setup_over-setup.ensures (checks-err c.check.result (checked c.setup_over-setup.result) c.check.ensures.table (sym c.if-is_err.ensures.value)) c.in-Ok.ensures.1 (is-small c.is_too_large.result c.args.words.now.most (c.in-Ok.shape.segments * c.in-Ok.shape.rows) c.is_too_large.ensures c.if-is_too_large.false) c.in-Ok.ensures.0

pub returns-in-Sound-clause-resumes : goal.returns-in-Sound-clause-resumes
returns-in-Sound-clause-resumes g c =
    let from = g.S.Source.feed c.args.source.now in
    resume-sound c.args.words.now.most (setup_found c.args.words.now.policy c.args.words.now.limit c.args.words.now.mark) c.setup_over-setup.result c.args.words.now.lives c.in-Ok.shape c.in-Ok-take_image.verdict (g.M.Made.Board.state c.in-Ok-take_image.board) (outcome_of g.M.Made.Board.state c.serve_image.result) from (g.S.Source.feed c.take_image.new.source) (g.S.Source.feed c.serve_image.new.source) (g.K.Sink.drain c.args.sink.now) (g.K.Sink.drain c.serve_image.new.sink) c.take_image.new.lines c.setup_over-setup.ensures (is-small c.is_too_large.result c.args.words.now.most (c.in-Ok.shape.segments * c.in-Ok.shape.rows) c.is_too_large.ensures c.if-is_too_large.false) (sym c.check.ensures.table ∙ checks-ok c.check.result (sym c.if-is_err.ensures.value)) c.in-Sound.is (c.in-Ok-take_image.ensures from c.in-Ok.ensures.0) c.serve_image.ensures.does

pub returns-in_default : goal.returns-in_default
returns-in_default g c =
    let from = g.S.Source.feed c.args.source.now in
    let l = c.in-Ok-take_image.ensures from c.in-Ok.ensures.0 in
    let (few, read, second) = stopped-ends (ImageRefused Unsound) c.taken-in_default.result (Some c.in-Ok-take_image.board) c.stopped_at-in_default.result c.take_image.new.lines _ from (g.S.Source.feed c.take_image.new.source) c.stopped_at-in_default.ensures c.taken-in_default.ensures (Loaded.taken l) in
    record {
      resumes = resume-unsound g.M.Made.Board.state c.args.words.now.most (setup_found c.args.words.now.policy c.args.words.now.limit c.args.words.now.mark) c.setup_over-setup.result c.in-Ok.shape c.in-Ok-take_image.verdict c.args.words.now.lives c.taken-in_default.result c.in-Ok-take_image.board c.stopped_at-in_default.result from (g.S.Source.feed c.take_image.new.source) (g.K.Sink.drain c.args.sink.now) c.take_image.new.lines c.stopped_at-in_default.ensures c.taken-in_default.ensures c.setup_over-setup.ensures (is-small c.is_too_large.result c.args.words.now.most (c.in-Ok.shape.segments * c.in-Ok.shape.rows) c.is_too_large.ensures c.if-is_too_large.false) (sym c.check.ensures.table ∙ checks-ok c.check.result (sym c.if-is_err.ensures.value)) c.in_default.not-Sound l;
      few = few;
      read = read;
      second = second;
    }

pub returns-in-Err-take_image-clause-resumes : goal.returns-in-Err-take_image-clause-resumes
returns-in-Err-take_image-clause-resumes g c =
    let from = g.S.Source.feed c.args.source.now in
    resume-declined g.M.Made.Board.state c.args.words.now.most (setup_found c.args.words.now.policy c.args.words.now.limit c.args.words.now.mark) c.in-Ok.shape c.in-Err-take_image.refusal c.args.words.now.lives c.taken-in-Err-take_image.result c.in-Err-take_image.board c.refused-in-Err-take_image.result from (g.S.Source.feed c.take_image.new.source) (g.K.Sink.drain c.args.sink.now) c.take_image.new.lines c.refused-in-Err-take_image.ensures c.taken-in-Err-take_image.ensures c.in-Ok.ensures.1 (is-small c.is_too_large.result c.args.words.now.most (c.in-Ok.shape.segments * c.in-Ok.shape.rows) c.is_too_large.ensures c.if-is_too_large.false) (ap checked (sym c.setup_over-setup.ensures) ∙ (sym c.check.ensures.table ∙ checks-ok c.check.result (sym c.if-is_err.ensures.value))) (c.in-Err-take_image.ensures from c.in-Ok.ensures.0)

pub returns-in-Err-clause-resumes : goal.returns-in-Err-clause-resumes
returns-in-Err-clause-resumes g c =
    resume-headless g.M.Made.Board.state c.args.words.now.most (setup_found c.args.words.now.policy c.args.words.now.limit c.args.words.now.mark) c.in-Err.refusal c.args.words.now.lives c.taken.result c.refused.result (g.S.Source.feed c.args.source.now) (g.S.Source.feed c.take_head.new.source) (g.K.Sink.drain c.args.sink.now) c.take_head.new.lines c.refused.ensures c.taken.ensures c.in-Err.ensures

pub returns-in-Err-clause-few : goal.returns-in-Err-clause-few
returns-in-Err-clause-few g c =
    let from = g.S.Source.feed c.args.source.now in
    let (bytes, t, cause, other) = c.in-Err.ensures in
    (stopped-ends (ending_for c.in-Err.refusal) c.taken.result None c.refused.result c.take_head.new.lines bytes from (g.S.Source.feed c.take_head.new.source) c.refused.ensures c.taken.ensures t).0

pub returns-in-Err-clause-read : goal.returns-in-Err-clause-read
returns-in-Err-clause-read g c =
    let from = g.S.Source.feed c.args.source.now in
    let (bytes, t, cause, other) = c.in-Err.ensures in
    (stopped-ends (ending_for c.in-Err.refusal) c.taken.result None c.refused.result c.take_head.new.lines bytes from (g.S.Source.feed c.take_head.new.source) c.refused.ensures c.taken.ensures t).1

pub returns-in-Err-clause-second : goal.returns-in-Err-clause-second
returns-in-Err-clause-second g c =
    let from = g.S.Source.feed c.args.source.now in
    let (bytes, t, cause, other) = c.in-Err.ensures in
    (stopped-ends (ending_for c.in-Err.refusal) c.taken.result None c.refused.result c.take_head.new.lines bytes from (g.S.Source.feed c.take_head.new.source) c.refused.ensures c.taken.ensures t).2

pub returns-then-is_err-clause-few : goal.returns-then-is_err-clause-few
returns-then-is_err-clause-few g c =
    let from = g.S.Source.feed c.args.source.now in
    (stopped-ends (ImageRefused Unruly) c.taken-then-is_err.result None c.stopped_at.result c.take_head.new.lines _ from (g.S.Source.feed c.take_head.new.source) c.stopped_at.ensures c.taken-then-is_err.ensures c.in-Ok.ensures.0).0

pub returns-then-is_err-clause-read : goal.returns-then-is_err-clause-read
returns-then-is_err-clause-read g c =
    let from = g.S.Source.feed c.args.source.now in
    (stopped-ends (ImageRefused Unruly) c.taken-then-is_err.result None c.stopped_at.result c.take_head.new.lines _ from (g.S.Source.feed c.take_head.new.source) c.stopped_at.ensures c.taken-then-is_err.ensures c.in-Ok.ensures.0).1

pub returns-then-is_err-clause-second : goal.returns-then-is_err-clause-second
returns-then-is_err-clause-second g c =
    let from = g.S.Source.feed c.args.source.now in
    (stopped-ends (ImageRefused Unruly) c.taken-then-is_err.result None c.stopped_at.result c.take_head.new.lines _ from (g.S.Source.feed c.take_head.new.source) c.stopped_at.ensures c.taken-then-is_err.ensures c.in-Ok.ensures.0).2

pub returns-in-Err-take_image-clause-few : goal.returns-in-Err-take_image-clause-few
returns-in-Err-take_image-clause-few g c =
    let from = g.S.Source.feed c.args.source.now in
    let unloaded = c.in-Err-take_image.ensures from c.in-Ok.ensures.0 in
    (stopped-ends (ending_for c.in-Err-take_image.refusal) c.taken-in-Err-take_image.result c.in-Err-take_image.board c.refused-in-Err-take_image.result c.take_image.new.lines _ from (g.S.Source.feed c.take_image.new.source) c.refused-in-Err-take_image.ensures c.taken-in-Err-take_image.ensures unloaded.taken).0

pub returns-in-Err-take_image-clause-read : goal.returns-in-Err-take_image-clause-read
returns-in-Err-take_image-clause-read g c =
    let from = g.S.Source.feed c.args.source.now in
    let unloaded = c.in-Err-take_image.ensures from c.in-Ok.ensures.0 in
    (stopped-ends (ending_for c.in-Err-take_image.refusal) c.taken-in-Err-take_image.result c.in-Err-take_image.board c.refused-in-Err-take_image.result c.take_image.new.lines _ from (g.S.Source.feed c.take_image.new.source) c.refused-in-Err-take_image.ensures c.taken-in-Err-take_image.ensures unloaded.taken).1

pub returns-in-Err-take_image-clause-second : goal.returns-in-Err-take_image-clause-second
returns-in-Err-take_image-clause-second g c =
    let from = g.S.Source.feed c.args.source.now in
    let unloaded = c.in-Err-take_image.ensures from c.in-Ok.ensures.0 in
    (stopped-ends (ending_for c.in-Err-take_image.refusal) c.taken-in-Err-take_image.result c.in-Err-take_image.board c.refused-in-Err-take_image.result c.take_image.new.lines _ from (g.S.Source.feed c.take_image.new.source) c.refused-in-Err-take_image.ensures c.taken-in-Err-take_image.ensures unloaded.taken).2

pub returns-in-Sound-clause-few : goal.returns-in-Sound-clause-few
returns-in-Sound-clause-few g c = c.serve_image.ensures.few

pub returns-in-Sound-clause-read : goal.returns-in-Sound-clause-read
returns-in-Sound-clause-read g c = c.serve_image.ensures.read

pub returns-in-Sound-clause-second : goal.returns-in-Sound-clause-second
returns-in-Sound-clause-second g c = c.serve_image.ensures.second

-- its board is too large
pub returns-then-is_too_large-clause-resumes : goal.returns-then-is_too_large-clause-resumes
returns-then-is_too_large-clause-resumes g c =
    resume-large g.M.Made.Board.state c.args.words.now.most (setup_found c.args.words.now.policy c.args.words.now.limit c.args.words.now.mark) c.in-Ok.shape c.args.words.now.lives c.taken-then-is_too_large.result c.refused-then-is_too_large.result (g.S.Source.feed c.args.source.now) (g.S.Source.feed c.take_head.new.source) (g.K.Sink.drain c.args.sink.now) c.take_head.new.lines c.refused-then-is_too_large.ensures c.taken-then-is_too_large.ensures c.in-Ok.ensures.1 (is-large c.is_too_large.result c.args.words.now.most (c.in-Ok.shape.segments * c.in-Ok.shape.rows) c.is_too_large.ensures c.if-is_too_large.true) c.in-Ok.ensures.0

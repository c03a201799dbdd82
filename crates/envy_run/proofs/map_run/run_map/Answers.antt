use Rattle.std.proofs.Common.{◌*◌, ◌∙◌, refl, sym, ap, subst}
use Rattle.std.specs.Prelude.{None, Some}
use Rattle.envy_space.specs.Pool.{Pool}
use Rattle.envy_serve.specs.Streams.{Streams}
use Rattle.envy_run.specs.Audits.{IsMap, Refused, audit_lives, judging}
use Rattle.envy_run.specs.Meaning.{Does}
use Rattle.envy_run.specs.Outcome.{outcome_of}
use Rattle.envy_run.specs.declared.image_input.Refusal.TheVariants.{Memory}
use Rattle.envy_run.specs.Writing.{WritesAs}
use Rattle.envy_run.specs.declared.endings.Ending.{Ending}
use Rattle.envy_run.specs.declared.endings.Finished.{Finished}
use Rattle.envy_run.proofs.Accounts.{writes-as}
use Rattle.envy_run.proofs.Loaded.{is-large, is-small, memory-unmade, no-head, tells-judged, tells-large, tells-refused, refused-within}
use Rattle.envy_run.proofs.map_run.run_map.Goals as goal

pub write_map-requires-clause-on : goal.write_map-requires-clause-on
write_map-requires-clause-on g c =
    let loaded = c.in-Ok-take_image.ensures (g.S.Source.feed c.args.source.now) c.in-Ok.ensures.0 in loaded.installed.on

pub write_map-requires-clause-judged : goal.write_map-requires-clause-judged
write_map-requires-clause-judged g c =
    let loaded = c.in-Ok-take_image.ensures (g.S.Source.feed c.args.source.now) c.in-Ok.ensures.0 in loaded.judges

pub write_map-requires-clause-shape : goal.write_map-requires-clause-shape
write_map-requires-clause-shape g c =
    let loaded = c.in-Ok-take_image.ensures (g.S.Source.feed c.args.source.now) c.in-Ok.ensures.0 in
    ap (λ (p : Pool). p.shape) c.in-Ok-new.ensures.empty ∙ sym loaded.installed.shape

pub returns-in-Ok-take_image-clause-maps : goal.returns-in-Ok-take_image-clause-maps
returns-in-Ok-take_image-clause-maps g c =
    let from = g.S.Source.feed c.args.source.now in
    let (text, says, writes) = c.write_map.ensures in
    tells-judged c.args.most IsMap g.M.Made.Board.state c.in-Ok.shape c.in-Ok-take_image.verdict text c.written-ending.result c.taken-in-Ok-take_image.result c.in-Ok-take_image.board c.stopped_at.result from (g.S.Source.feed c.take_image.new.source) (g.K.Sink.drain c.args.sink.now) (g.K.Sink.drain c.write_map.new.sink) c.take_image.new.lines c.stopped_at.ensures c.taken-in-Ok-take_image.ensures (is-small c.is_too_large.result c.args.most (c.in-Ok.shape.segments * c.in-Ok.shape.rows) c.is_too_large.ensures c.if-is_too_large.false) (c.in-Ok-take_image.ensures from c.in-Ok.ensures.0) says (subst (λ (e : Ending). WritesAs text e (g.K.Sink.drain c.args.sink.now) (g.K.Sink.drain c.write_map.new.sink)) (sym c.written-ending.ensures) (writes-as text c.write_map.result (g.K.Sink.drain c.args.sink.now) (g.K.Sink.drain c.write_map.new.sink) writes))

pub returns-in-Ok-take_image-clause-read : goal.returns-in-Ok-take_image-clause-read
returns-in-Ok-take_image-clause-read g c =
    let loaded = c.in-Ok-take_image.ensures (g.S.Source.feed c.args.source.now) c.in-Ok.ensures.0 in
    refused-within c.stopped_at.result (Some c.in-Ok-take_image.board) c.take_image.new.lines c.stopped_at.ensures c.taken-in-Ok-take_image.ensures loaded.taken.within loaded.taken.cap

pub returns-in_default-clause-maps : goal.returns-in_default-clause-maps
returns-in_default-clause-maps g c =
    let from = g.S.Source.feed c.args.source.now in
    let (head, checks, read) = c.in-Ok.ensures in
    tells-refused c.args.most IsMap g.M.Made.Board.state c.in-Ok.shape Memory c.taken-in_default.result None c.refused-in_default.result from (g.S.Source.feed c.take_head.new.source) (g.K.Sink.drain c.args.sink.now) c.take_head.new.lines c.refused-in_default.ensures c.taken-in_default.ensures c.in-Ok.ensures.1 (is-small c.is_too_large.result c.args.most (c.in-Ok.shape.segments * c.in-Ok.shape.rows) c.is_too_large.ensures c.if-is_too_large.false)
    (memory-unmade c.in-Ok.shape audit_lives from (g.S.Source.feed c.take_head.new.source) c.take_head.new.lines checks head)

pub returns-clause-maps : goal.returns-clause-maps
returns-clause-maps g c =
    let from = g.S.Source.feed c.args.source.now in
    tells-refused c.args.most IsMap g.M.Made.Board.state c.in-Ok.shape c.in-Err-take_image.refusal c.taken-in-Err-take_image.result c.in-Err-take_image.board c.refused-in-Err-take_image.result from (g.S.Source.feed c.take_image.new.source) (g.K.Sink.drain c.args.sink.now) c.take_image.new.lines c.refused-in-Err-take_image.ensures c.taken-in-Err-take_image.ensures c.in-Ok.ensures.1 (is-small c.is_too_large.result c.args.most (c.in-Ok.shape.segments * c.in-Ok.shape.rows) c.is_too_large.ensures c.if-is_too_large.false) (c.in-Err-take_image.ensures from c.in-Ok.ensures.0)

pub returns-clause-read : goal.returns-clause-read
returns-clause-read g c =
    let unloaded = c.in-Err-take_image.ensures (g.S.Source.feed c.args.source.now) c.in-Ok.ensures.0 in
    refused-within c.refused-in-Err-take_image.result c.in-Err-take_image.board c.take_image.new.lines c.refused-in-Err-take_image.ensures c.taken-in-Err-take_image.ensures unloaded.taken.within unloaded.taken.cap

-- the head itself wasn't read
pub returns-in-Err-clause-maps : goal.returns-in-Err-clause-maps
returns-in-Err-clause-maps g c =
    let io : Streams = record { from = g.S.Source.feed c.args.source.now; feed = g.S.Source.feed c.take_head.new.source; to = g.K.Sink.drain c.args.sink.now; sink = g.K.Sink.drain c.args.sink.now } in
    let (bytes, t, cause, other) = c.in-Err.ensures in
    subst (λ (x : Finished g.row.M-Made.Denot). Does (judging c.args.most IsMap) (outcome_of g.M.Made.Board.state x) io) (sym c.refused.ensures)
    (record {
      account = Refused c.in-Err.refusal bytes;
      printed = (record { ending = record { status = refl; why = refl }; took = record { lines = refl; taken = c.taken.ensures ∙ t.taken; source = t.left; sink = refl }; cause = cause }, λ sh rest told ok. absurd (no-head c.in-Err.refusal bytes (g.S.Source.feed c.args.source.now) (g.S.Source.feed c.take_head.new.source) other cause sh rest told ok));
      board = tt;
      licences = tt;
    })

-- its board is too large
pub returns-then-is_too_large-clause-maps : goal.returns-then-is_too_large-clause-maps
returns-then-is_too_large-clause-maps g c =
    tells-large c.args.most IsMap g.M.Made.Board.state c.in-Ok.shape c.taken-then-is_too_large.result c.refused-then-is_too_large.result (g.S.Source.feed c.args.source.now) (g.S.Source.feed c.take_head.new.source) (g.K.Sink.drain c.args.sink.now) c.take_head.new.lines c.refused-then-is_too_large.ensures c.taken-then-is_too_large.ensures c.in-Ok.ensures.1 (is-large c.is_too_large.result c.args.most (c.in-Ok.shape.segments * c.in-Ok.shape.rows) c.is_too_large.ensures c.if-is_too_large.true) c.in-Ok.ensures.0

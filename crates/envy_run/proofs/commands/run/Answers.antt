use Rattle.std.proofs.Common.{ap, arith}
use Rattle.std.specs.Prelude.{map}
use Rattle.std.specs.String.{string_bytes}
use Rattle.envy_args.specs.Words.{command_of}
use Rattle.envy_map.specs.Fields.{chart}
use Rattle.envy_serve.specs.Streams.{Streams}
use Rattle.envy_run.specs.Drives.{FailsAsPlanned}
use Rattle.envy_run.specs.Outcome.{Outcome, outcome, outcome_of}
use Rattle.envy_run.specs.declared.endings.Finished.{Finished}
use Rattle.envy_run.proofs.Completing.{alone-mapped, alone-read, headline-read}
use Rattle.envy_run.proofs.Driving.{tells-read}
use Rattle.envy_run.proofs.Handing.{Promises, handed, refused-alone, refused-headline, refused-told, silent_on}
use Rattle.envy_run.proofs.Words.{read-allowed}
use Rattle.envy_run.proofs.commands.run.Goals as goal

pub perform-requires : goal.perform-requires
perform-requires g c = read-allowed (map string_bytes c.args.words.now) c.read_words.result c.in-Ok.command c.read_words.ensures c.in-Ok.is

pub returns-in-Ok : goal.returns-in-Ok
returns-in-Ok g c =
    let state = g.M.Made.Board.state in
    let words = map string_bytes c.args.words.now in
    let io : Streams = record { from = g.S.Source.feed c.args.source.now; feed = g.S.Source.feed c.perform.new.source; to = g.K.Sink.drain c.args.sink.now; sink = g.K.Sink.drain c.perform.new.sink } in
    let o : Outcome = outcome_of state c.perform.result in
    let p : Promises (command_of words) (outcome state c.hand_back.result) io (FailsAsPlanned state) = handed state (command_of words) c.perform.result c.hand_back.result io (FailsAsPlanned state) c.hand_back.ensures
    (headline-read words c.read_words.result c.in-Ok.command o io c.read_words.ensures c.in-Ok.is c.perform.ensures.headline)
    (alone-read words c.read_words.result c.in-Ok.command o c.read_words.ensures c.in-Ok.is (alone-mapped c.in-Ok.command (λ board. chart (state board)) c.perform.result.second c.perform.ensures.alone))
    c.perform.ensures.few c.perform.ensures.read
    (λ kind. tells-read words c.read_words.result c.in-Ok.command o io c.read_words.ensures c.in-Ok.is (c.perform.ensures.told kind)) in
    record { printed = p.printed; board = p.board; licences = p.licences; completes = p.completes; told = p.told }

pub returns-in-Err : goal.returns-in-Err
returns-in-Err g c =
    let state = g.M.Made.Board.state in
    let words = map string_bytes c.args.words.now in
    let feed = g.S.Source.feed c.args.source.now in
    let sink = g.K.Sink.drain c.args.sink.now in
    let e = c.refused.result in
    let lines = ap (λ (x : Finished g.row.M-Made.Denot). x.lines) c.refused.ensures in
    let taken = ap (λ (x : Finished g.row.M-Made.Denot). x.taken) c.refused.ensures in
    let p : Promises (command_of words) (outcome state c.hand_back-in-Err.result) (silent_on feed sink) (FailsAsPlanned state) = handed state (command_of words) e c.hand_back-in-Err.result (silent_on feed sink) (FailsAsPlanned state) c.hand_back-in-Err.ensures
    (refused-headline state words c.read_words.result c.in-Err.fault e feed sink c.read_words.ensures c.in-Err.is c.refused.ensures)
    (refused-alone state (command_of words) c.in-Err.fault e c.refused.ensures)
    (omega arith) (omega arith)
    (λ kind. refused-told state words c.read_words.result c.in-Err.fault e feed sink c.read_words.ensures c.in-Err.is c.refused.ensures) in
    record { printed = p.printed; board = p.board; licences = p.licences; completes = p.completes; told = p.told }

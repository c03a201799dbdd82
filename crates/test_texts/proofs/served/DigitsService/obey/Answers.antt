use Rattle.std.proofs.Common.{ℕ, List, [], ◌∷◌, subst}
use Rattle.std.specs.Prelude.{Result, Ok, Err}
use Rattle.envy_io.specs.declared.source.Failed.{Failed}
use Rattle.envy_io.specs.Streams.{Drain, WritesAll}
use Rattle.envy_serve.specs.Streams.{Written, FrontWritten}
use Rattle.test_texts.proofs.served.DigitsService.obey.Goals as goal

wrote : (old new : Drain) (piece : List ℕ) (done : Unit) → WritesAll old piece (Ok done) new → Written piece old new
wrote old new piece done (whole, faults, after) = record { whole = whole; faults = faults }

stopped : (old new : Drain) (piece : List ℕ) (fault : Failed) → WritesAll old piece (Err fault) new → FrontWritten piece old new
stopped old new piece fault (n, lt, front, faults) = record { count = n; front = front; faults = faults }

pub returns-in-Ok : goal.returns-in-Ok
returns-in-Ok g c start turns did =
    let old = g.K.Sink.drain c.args.sink.now in
    let new = g.K.Sink.drain c.write_all.new.sink in
    let piece = c.match-line.digit ∷ 10 ∷ [] in
    (c.match-line.digit ∷ [], tt, wrote old new piece c.in-Ok.field-0 (subst (λ (r : Result Unit Failed). WritesAll old piece r new) c.in-Ok.is c.write_all.ensures.writes))

pub returns-in-Err : goal.returns-in-Err
returns-in-Err g c start turns did =
    let old = g.K.Sink.drain c.args.sink.now in
    let new = g.K.Sink.drain c.write_all.new.sink in
    let piece = c.match-line.digit ∷ 10 ∷ [] in
    (c.match-line.digit ∷ [], tt, stopped old new piece c.in-Err.field-0 (subst (λ (r : Result Unit Failed). WritesAll old piece r new) c.in-Err.is c.write_all.ensures.writes))

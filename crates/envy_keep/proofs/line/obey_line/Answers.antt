use Rattle.std.proofs.Common.{sym, subst}
use Rattle.envy_memory.specs.Picture.{Picture}
use Rattle.envy_serve.specs.Obeys.{Obeys}
use Rattle.envy_serve.specs.declared.service.LineOutcome.TheVariants.{Done}
use Rattle.envy_keep.specs.Since.{KeptSince, LostSince}
use Rattle.envy_keep.specs.Turns.{keep_grammar}
use Rattle.envy_keep.proofs.Goes.{empty-beside, obeys-empty}
use Rattle.envy_keep.proofs.line.obey_line.Goals as goal

pub returns-in-Ok : goal.returns-in-Ok
returns-in-Ok g c start turns t = c.tell.ensures start turns c.args.line.now c.args.memory.now t c.requires.ranges c.in-Ok.ensures.answers

pub returns-in-Err : goal.returns-in-Err
returns-in-Err g c start turns t =
    let sink = g.K.Sink.drain c.args.sink.now in
    let (line, same) = c.answer_kept.ensures.beside _ c.in-Err.is in
    subst (λ (p : Picture). Obeys Done keep_grammar (KeptSince start p) (LostSince start p) turns c.args.line.now sink sink) (sym same)
    (obeys-empty start c.args.memory.now turns c.args.line.now sink (empty-beside c.args.line.now _ c.requires.ranges line) t)

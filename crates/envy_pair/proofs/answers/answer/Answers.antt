use Rattle.std.proofs.Common.{◌≡◌, ap, refl, ◌∙◌}
use Rattle.std.specs.Prelude.{Err}
use Rattle.envy_trace.specs.declared.mirror_line.MirrorLine.TheVariants.{Array as OfArray}
use Rattle.envy_pair.proofs.answers.answer.Goals as goal

pub returns-in-Err-clause-beside : goal.returns-in-Err-clause-beside
returns-in-Err-clause-beside g c other e =
    let is : c.in-Err.beside ≡ other = (let same = e in cc) in
    let (line, stays) = c.answer_line.ensures.beside other (c.in-Err.is ∙ ap Err is) in
    (c.in-Array.is ∙ ap OfArray line, stays, refl)

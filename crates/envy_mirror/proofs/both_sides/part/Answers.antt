use Rattle.std.proofs.Common.{◌∙◌, sym}
use Rattle.envy_mirror.proofs.Marking.{left-cut}
use Rattle.envy_mirror.proofs.both_sides.part.Goals as goal

pub returns-then-is_moving : goal.returns-then-is_moving
returns-then-is_moving g c =
    let failed = sym c.is_bad.ensures ∙ c.if-is_bad.true in
    c.cut.ensures ∙ left-cut _ _ _ c.args.side.now failed (sym c.has_answered.ensures ∙ c.if-has_answered.true) (sym c.is_moving.ensures ∙ c.if-is_moving.true) (c.requires failed).1

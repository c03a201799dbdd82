use Rattle.std.proofs.Common.{Bool, ◌+◌, ◌∙◌, ap, sym}
use Rattle.envy_image.specs.Image.{numbers_size}
use Rattle.envy_image.proofs.writer.head_size.Goals as goal

pub returns-then-is_extended : goal.returns-then-is_extended
returns-then-is_extended c = ap (λ (b : Bool). 8 + numbers_size b) (sym c.if-is_extended.true ∙ c.is_extended.ensures)

pub returns-else-is_extended : goal.returns-else-is_extended
returns-else-is_extended c = ap (λ (b : Bool). 8 + numbers_size b) (sym c.if-is_extended.false ∙ c.is_extended.ensures)

-- A place that isn't found to hold a memory holds none.
use Rattle.std.proofs.Common.{◌≡◌, ◌∙◌, Bool, true, false, Option, None, Some, is_some, refl, sym}
use Rattle.envy_memory.specs.Picture.{Picture}

pub was_empty : (slot : Option Picture) (found : Bool) → found ≡ is_some slot → found ≡ false → slot ≡ None
was_empty None found is lacks = refl
was_empty (Some p) found is lacks = absurd (let clash : true ≡ false = sym is ∙ lacks in cc)

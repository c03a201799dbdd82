use Rattle.std.proofs.Common.{◌≡◌, ◌*◌, take}
use Rattle.envy_base.specs.State.{IsPage}
use Rattle.envy_image.specs.Image.{words_bytes}
use Rattle.envy_image.proofs.installation.page_of.Given as goal

abbrev pub invariant-loop-i : goal.invariant-loop-i
invariant-loop-i l = IsPage l.page × (words_bytes (take l.i l.page) ≡ take (8 * l.i) l.bytes)

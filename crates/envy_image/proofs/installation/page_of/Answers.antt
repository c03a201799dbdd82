use Rattle.std.proofs.Common.{◌+◌, ◌*◌, ◌-◌, refl, arith}
use Rattle.envy_image.proofs.Programming.{page-more, page-zero}
use Rattle.envy_image.proofs.installation.page_of.Goals as goal

pub loop-i-init : goal.loop-i-init
loop-i-init c = (page-zero, refl)

pub loop-i-preserved : goal.loop-i-preserved
loop-i-preserved c = page-more c.loop-i.page c.args.bytes.now c.loop-i.i (8 * c.loop-i.i + 8 - 8 * c.loop-i.i) c.word_of.result c.loop-i.invariant.0 c.told-bytes c.loop-i-test.true (omega arith) c.word_of.type_inv c.loop-i.invariant.1 c.word_of.ensures

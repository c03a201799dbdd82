-- Which fault of reading an image a stop of its bytes is.
use Rattle.envy_image.specs.declared.reader.HeadFault.{HeadFault}
use Rattle.envy_image.specs.declared.reader.HeadFault.TheVariants.{Short, Failed, Spent}
use Rattle.envy_image.specs.declared.installation.InFault.{InFault}
use Rattle.envy_image.specs.declared.installation.InFault.TheVariants.{Short as InShort, Failed as InFailed, Spent as InSpent}
use Rattle.envy_image.specs.declared.reader.Stop.{Stop}
use Rattle.envy_image.specs.declared.reader.Stop.TheVariants.{Short as StopShort, Failed as StopFailed, Spent as StopSpent}

abbrev pub head_fault : Stop → HeadFault
head_fault StopShort = Short
head_fault StopFailed = Failed
head_fault StopSpent = Spent

abbrev pub in_fault : Stop → InFault
in_fault StopShort = InShort
in_fault StopFailed = InFailed
in_fault StopSpent = InSpent

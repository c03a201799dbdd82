-- What never happens over a part.
use Rattle.std.specs.Prelude.{◌≡◌, IsTrue, Option}
use Rattle.std.specs.Option.{ForSome}
use Rattle.envy_memory.specs.Picture.{Picture}

-- Power is on and never failed: so no call answers `Off`.
pub record IsLit (p : Picture) : Type 0 where
  pub on : IsTrue p.chart.on
  pub cuts : p.chart.cuts ≡ 0

-- in a place, before a call and after it
abbrev pub AreLit : Option Picture → Option Picture → Type 0
AreLit old new = ForSome old IsLit × ForSome new IsLit

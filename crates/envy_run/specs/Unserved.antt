-- How a run over a board may end before it begins its work.
use Rattle.std.specs.Prelude.{◌≡◌, ◌⊎◌, ◌<◌, false, IsTrue, Some, IfSome}
use Rattle.envy_map.specs.Fields.{Chart}
use Rattle.envy_serve.specs.Streams.{Streams}
use Rattle.envy_run.specs.Outcome.{Outcome, EndsBy, IsQuiet}
use Rattle.envy_run.specs.declared.endings.Ending.TheVariants.{FlashFailed, OutOfMemory, PowerLost}

-- power is on, and no flash operation failed where power never did
pub record IsStanding (now : Chart) : Type 0 where
  pub on : IsTrue now.on
  pub bads : now.cuts ≡ 0 → now.bads ≡ 0

-- memory ran out, which is not told of a board without power
pub record IsOutOfMemory (o : Outcome) : Type 0 where
  pub ending : EndsBy OutOfMemory o
  pub board : IfSome o.board IsStanding

-- a flash operation failed in formatting, or in a load
pub record IsSpoilt (o : Outcome) : Type 0 where
  pub ending : EndsBy FlashFailed o
  pub cause : (now : Chart) × (o.board ≡ Some now) × (0 < now.bads)

-- power failed in formatting, or in a load, and didn't return
pub record IsDark (o : Outcome) : Type 0 where
  pub ending : EndsBy PowerLost o
  pub now : Chart
  pub board_is : o.board ≡ Some now
  pub off : now.on ≡ false
  pub lives : now.lives ≡ 0

-- why no line was read
abbrev pub IsUnready : Outcome → Type 0
IsUnready o = IsOutOfMemory o ⊎ (IsSpoilt o ⊎ IsDark o)

-- no line was read and nothing was written, and the run ended so
abbrev pub IsUnread : Outcome → Streams → Type 0
IsUnread o io = IsQuiet o io × (EndsBy OutOfMemory o ⊎ (EndsBy FlashFailed o ⊎ EndsBy PowerLost o))

-- both
abbrev pub IsUnserved : Outcome → Streams → Type 0
IsUnserved o io = IsQuiet o io × IsUnready o

-- The word `mirror`: a trace over a pair of boards.
use Rattle.std.specs.Prelude.{◌≡◌, ◌⊎◌, ℕ, ◌<◌, false, IsTrue, List, [], None, Some, IfSome}
use Rattle.envy_array.specs.Array.{zeros}
use Rattle.envy_map.specs.Fields.{Chart}
use Rattle.envy_pair.specs.Ending.{Boards, HasMirrored, HasFallen, PairLicences}
use Rattle.envy_pair.specs.MirrorRun.{MirrorTurn, mirror_grammar}
use Rattle.envy_policy.specs.declared.setup.Setup.{Setup}
use Rattle.envy_trace.specs.declared.mirror_line.MirrorLine.{MirrorLine}
use Rattle.envy_trace.specs.declared.mirror_reply.MirrorReply.{MirrorReply}
use Rattle.envy_run.specs.declared.endings.Ending.TheVariants.{FlashFailed, OutOfMemory, PowerLost}
use Rattle.envy_run.specs.Loading.{IsNew, IsUnharmed}
use Rattle.envy_run.specs.Outcome.{Outcome, EndsBy}
use Rattle.envy_run.specs.Task.{Task}
use Rattle.envy_run.specs.Unserved.{IsUnread}

-- these are the boards that are handed back
pub record AreHandedBack (boards : Boards) (o : Outcome) : Type 0 where
  pub first : o.board ≡ Some boards.first
  pub second : o.second ≡ Some boards.second

-- a board of the shape and the lives of the words
pub record IsMadeFor (setup : Setup) (returns : ℕ) (now : Chart) : Type 0 where
  pub shape : now.shape ≡ setup.shape
  pub given : now.given ≡ returns

-- a board as it was made: nothing began or failed on it, no failure was planned, and nobody cut its power
abbrev pub IsAsMade : Setup → ℕ → Chart → Type 0
IsAsMade setup returns now = IsNew setup.shape now × IsUnharmed returns now

-- what the counts of the boards say of the turns; a first board to which no second was made is as it was made
pub record MirrorLicences (setup : Setup) (returns : ℕ) (o : Outcome) (turns : List MirrorTurn) : Type 0 where
  pub first : IfSome o.board (IsMadeFor setup returns)
  pub second : IfSome o.second (IsMadeFor setup returns)
  pub alone : o.second ≡ None → IfSome o.board (IsAsMade setup returns)
  pub both : (boards : Boards) → o.board ≡ Some boards.first → o.second ≡ Some boards.second → PairLicences turns boards

-- this is so of one of the boards
abbrev pub OfEither : (Chart → Type 0) → Outcome → Type 0
OfEither Is o = (now : Chart) × ((o.board ≡ Some now) ⊎ (o.second ≡ Some now)) × Is now

-- power is off for good
abbrev pub IsOffForGood : Chart → Type 0
IsOffForGood now = (now.on ≡ false) × (now.lives ≡ 0)

-- memory ran out, which is not told of a board without power
pub record IsPairOutOfMemory (o : Outcome) : Type 0 where
  pub ending : EndsBy OutOfMemory o
  pub first : IfSome o.board (λ now. IsTrue now.on)
  pub second : IfSome o.second (λ now. IsTrue now.on)

-- a flash operation of one of the boards failed in formatting
pub record IsEitherSpoilt (o : Outcome) : Type 0 where
  pub ending : EndsBy FlashFailed o
  pub cause : OfEither (λ now. 0 < now.bads) o

-- with no line read power of one of the boards failed in formatting, and didn't return
pub record IsEitherDark (o : Outcome) : Type 0 where
  pub ending : EndsBy PowerLost o
  pub cause : OfEither IsOffForGood o

-- why no line was read
abbrev pub IsMirrorUnready : Outcome → Type 0
IsMirrorUnready o = IsPairOutOfMemory o ⊎ (IsEitherSpoilt o ⊎ IsEitherDark o)

-- the word `mirror`, over two memories of zeros
abbrev pub mirror_task : Setup → ℕ → Task MirrorLine MirrorReply Boards
mirror_task setup returns = record {
  grammar = mirror_grammar;
  skipped = 0;
  Leads = λ turns boards. HasMirrored (zeros setup.shape.pages setup.shape.shadows) setup.shape.pages boards turns;
  Dies = λ turns boards. HasFallen (zeros setup.shape.pages setup.shape.shadows) setup.shape.pages boards turns;
  tail = λ o. [];
  Unread = IsUnread;
  HoldsLeft = λ o boards. AreHandedBack boards o;
  HoldsDead = λ o boards. AreHandedBack boards o;
  WhyUnread = IsMirrorUnready;
  Licences = MirrorLicences setup returns;
}

-- no flash operation of either board failed before a byte was taken
pub record AreWell (o : Outcome) : Type 0 where
  pub first : (c : Chart) → o.board ≡ Some c → o.taken ≡ 0 → c.bads ≡ 0
  pub second : (c : Chart) → o.second ≡ Some c → o.taken ≡ 0 → c.bads ≡ 0

-- power of a board failed and doesn't return
pub record HasDiedOut (o : Outcome) : Type 0 where
  pub ending : EndsBy PowerLost o
  pub cause : OfEither IsOffForGood o

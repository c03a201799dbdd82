-- What a file opens as.
use Rattle.std.specs.Prelude.{◌≡◌, ℕ, List}
use Rattle.envy_base.specs.Shape.{version_of}
use Rattle.envy_base.specs.State.{State}
use Rattle.envy_base.specs.declared.shape.Shape.{Shape}
use Rattle.envy_journal.specs.Content.{content_of, holds}
use Rattle.envy_journal.specs.Head.{HasHead}
use Rattle.envy_journal.specs.Reading.{operations, IsUnbroken}
use Rattle.envy_soundness.specs.Sound.{IsSound}
use Rattle.envy_soundness.specs.Words.{durable}
use Rattle.envy_map.specs.Codes.{the_magic}
use Rattle.envy_map.specs.Fields.{chart}

-- The file is a journal of a board of these sizes, and not damaged. A board on which its operations are done anew is
-- formatted and sound, and a restart finds these words on it.
pub record OpensAs (sh : Shape) (words : List ℕ) (file : List ℕ) : Type 0 where
  pub head : HasHead sh file
  pub finds : (s : State) → s.shape ≡ sh → content_of s ≡ holds s.shape (operations file) → durable (chart s) ≡ words
  pub magic : (s : State) → s.shape ≡ sh → content_of s ≡ holds s.shape (operations file) → (chart s).fields.magic ≡ the_magic
  pub version : (s : State) → s.shape ≡ sh → content_of s ≡ holds s.shape (operations file) → (chart s).fields.version ≡ version_of sh
  pub sound : (s : State) → s.shape ≡ sh → content_of s ≡ holds s.shape (operations file) → IsSound (chart s)
  pub ends : IsUnbroken file

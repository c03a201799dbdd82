-- Why a file isn't served.
use Rattle.std.specs.Prelude.{◌≡◌, ◌≢◌, ◌⊎◌, ⊤, ℕ, Bool, false, List, [], Ok, Err}
use Rattle.envy_args.specs.declared.keep.KeepOptions.{KeepOptions}
use Rattle.envy_args.specs.Keep.{new_shape, setup_over, shape_named}
use Rattle.envy_base.specs.declared.shape.Shape.{Shape}
use Rattle.envy_base.specs.declared.shape.ShapeFault.{ShapeFault}
use Rattle.envy_base.specs.Shape.{checked as shape_checked}
use Rattle.envy_journal.specs.Content.{HasMisfit}
use Rattle.envy_journal.specs.Found.{IsDamaged}
use Rattle.envy_journal.specs.Head.{HasHead, HasNoJournal, HasSixSizes, IsOtherVersion, IsUnmade}
use Rattle.envy_journal.specs.Reading.{operations}
use Rattle.envy_policy.specs.Setup.{checked}
use Rattle.envy_args.specs.Words.{rule_within}
use Rattle.envy_base.specs.declared.shape.TheConstants.{MOST_ROWS}
use Rattle.envy_begun.specs.Beginning.{HasStopped, IsStopped}
use Rattle.envy_begun.specs.Opens.{OpensAs}
use Rattle.envy_begun.specs.declared.open_fault.OpenFault.{OpenFault}
use Rattle.envy_begun.specs.declared.open_fault.OpenFault.TheVariants.{Setup, NoJournal, OtherVersion, OtherSizes, Options, Damaged, Memory, NotMade, Failed}

abbrev pub status_for : OpenFault → ℕ
status_for (Setup fault) = 2
status_for NoJournal = 10
status_for OtherVersion = 10
status_for OtherSizes = 10
status_for (Options fault) = 10
status_for (Damaged place) = 10
status_for Memory = 8
status_for NotMade = 11
status_for (Failed held) = 6

abbrev pub why_for : OpenFault → ℕ
why_for (Setup fault) = rule_within MOST_ROWS fault
why_for NoJournal = 6
why_for OtherVersion = 7
why_for OtherSizes = 8
why_for (Options fault) = 9
why_for (Damaged place) = 10
why_for Memory = 0
why_for NotMade = 3
why_for (Failed held) = 0

-- how many bytes of operations were held back from the file
abbrev pub held_for : OpenFault → ℕ
held_for (Failed held) = held
held_for other = 0

-- the byte at which a damaged file breaks off
abbrev pub place_for : OpenFault → ℕ
place_for (Damaged place) = place
place_for other = 0

-- a journal of these sizes with no memory to be found: an operation isn't within them, or it opens as no words
abbrev pub HasNoWords : Shape → List ℕ → Type 0
HasNoWords sh file = HasMisfit sh (operations file) ⊎ ((words : List ℕ) → OpensAs sh words file → ⊥)

-- and something was done in it: else a memory begins there
abbrev pub HasNoMemory : Shape → List ℕ → Type 0
HasNoMemory sh file = (operations file ≢ []) × HasNoWords sh file

-- no journal, or one of sizes that break a rule, or one that holds no memory
abbrev pub IsNone : List ℕ → Type 0
IsNone file = HasNoJournal file ⊎ ((sh : Shape) × HasHead sh file × HasSixSizes sh × (((fault : ShapeFault) × (shape_checked sh ≡ Err fault)) ⊎ HasNoMemory sh file))

-- a journal whose sizes the options leave
pub record IsOver (options : KeepOptions) (sh : Shape) (file : List ℕ) : Type 0 where
  pub head : HasHead sh file
  pub six : HasSixSizes sh
  pub named : shape_named options.sizes sh ≡ sh

-- what the bytes of a file say of a refusal: the options are no reason where its sizes break a rule
abbrev pub Refuses : KeepOptions → List ℕ → OpenFault → Type 0
Refuses options file (Setup fault) = IsUnmade file × (checked (setup_over options (new_shape options)) ≡ Err fault)
Refuses options file NoJournal = (IsUnmade file → ⊥) × IsNone file
Refuses options file OtherVersion = (IsUnmade file → ⊥) × IsOtherVersion file
Refuses options file OtherSizes = (IsUnmade file → ⊥) × (sh : Shape) × HasHead sh file × (shape_checked sh ≡ Ok tt) × (shape_named options.sizes sh ≢ sh)
Refuses options file (Options fault) = (IsUnmade file → ⊥) × (sh : Shape) × IsOver options sh file × (shape_checked sh ≡ Ok tt) × (checked (setup_over options sh) ≡ Err fault)
Refuses options file (Damaged place) = (IsUnmade file → ⊥) × (sh : Shape) × IsOver options sh file × IsDamaged place file
Refuses options file other = ⊥

-- Why a file that held these bytes isn't served, and what became of it: on a file that is refused no call was made. Want of
-- memory is told only where none was made, or where the last one was done.
abbrev pub Causes : {D : Type 0} → (D → List ℕ) → (D → Bool) → KeepOptions → List ℕ → D → D → OpenFault → Type 0
Causes seen has_failed options file old new (Failed held) = HasStopped seen has_failed held new
Causes seen has_failed options file old new Memory = (new ≡ old) ⊎ (has_failed new ≡ false)
Causes seen has_failed options file old new NotMade = has_failed new ≡ false
Causes seen has_failed options file old new open_fault = Refuses options file open_fault × (new ≡ old)

-- why a journal isn't taken up before the first call on its file: of its own reasons this one alone
abbrev pub Refrains : Type 0 → List ℕ → OpenFault → Type 0
Refrains Reason file NoJournal = Reason
Refrains Reason file (Damaged place) = IsDamaged place file
Refrains Reason file Memory = ⊤
Refrains Reason file other = ⊥

-- why it isn't taken up, and what became of its file
abbrev pub Declines : {D : Type 0} → (D → List ℕ) → (D → Bool) → Type 0 → List ℕ → D → OpenFault → D → Type 0
Declines seen has_failed Reason file old open_fault new = (Refrains Reason file open_fault × (new ≡ old)) ⊎ IsStopped seen has_failed open_fault new

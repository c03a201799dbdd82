-- What a verdict says of a board.
use Rattle.std.specs.Prelude.{◌≡◌, ℕ, ◌<◌, Option, Some, None}
use Rattle.envy_base.specs.Shape.{IsVersionOf}
use Rattle.envy_map.specs.Codes.{the_magic}
use Rattle.envy_map.specs.Fields.{Chart}
use Rattle.envy_soundness.specs.Sound.{IsSound}
use Rattle.envy_audit.specs.declared.verdict.Rule.{Rule}
use Rattle.envy_audit.specs.declared.verdict.Rule.TheVariants.{A, B, C, D, E, F, G, H, I, J, K, L, M}
use Rattle.envy_audit.specs.declared.verdict.Verdict.{Verdict}
use Rattle.envy_audit.specs.declared.verdict.Verdict.TheVariants.{Sound, Unformatted, Broken}
use Rattle.envy_audit.specs.Points.{Decodes, PositionsDiffer, FramesDiffer, RowsDiffer, KeptAreClaimed, FreeAreOnes, IdleSpareIsEmpty, KeptArePlaced, JobStands, KeptOnce, FewAreOwned, UndosAreInUse, ReservesAreUnkept}

-- the point of this letter
abbrev pub Holds : Rule → Chart → Type 0
Holds A c = Decodes c
Holds B c = PositionsDiffer c
Holds C c = FramesDiffer c
Holds D c = RowsDiffer c
Holds E c = KeptAreClaimed c
Holds F c = FreeAreOnes c
Holds G c = IdleSpareIsEmpty c
Holds H c = KeptArePlaced c
Holds I c = JobStands c
Holds J c = KeptOnce c
Holds K c = FewAreOwned c
Holds L c = UndosAreInUse c
Holds M c = ReservesAreUnkept c

-- the place of a letter in the order
abbrev pub number_of : Rule → ℕ
number_of A = 0
number_of B = 1
number_of C = 2
number_of D = 3
number_of E = 4
number_of F = 5
number_of G = 6
number_of H = 7
number_of I = 8
number_of J = 9
number_of K = 10
number_of L = 11
number_of M = 12

-- every point that stands before this one
abbrev pub Before : Rule → Chart → Type 0
Before x c = (y : Rule) → number_of y < number_of x → Holds y c

-- the map of a formatted board, of a version of the board's own shape
abbrev pub IsFormattedAs : Chart → Type 0
IsFormattedAs c = (c.fields.magic ≡ the_magic) × IsVersionOf c.shape c.fields.version

-- the board is formatted, and this is the first point that fails
pub record BreaksFirst (x : Rule) (c : Chart) : Type 0 where
  pub formatted : IsFormattedAs c
  pub before : Before x c
  pub fails : Holds x c → ⊥

-- when a verdict is right
abbrev pub Judges : Verdict → Chart → Type 0
Judges Sound c = IsFormattedAs c × IsSound c
Judges Unformatted c = IsFormattedAs c → ⊥
Judges (Broken x) c = BreaksFirst x c

-- the first point that fails, or none where all hold
abbrev pub FindsFirst : Chart → Option Rule → Type 0
FindsFirst c (Some x) = Before x c × (Holds x c → ⊥)
FindsFirst c None = (x : Rule) → Holds x c

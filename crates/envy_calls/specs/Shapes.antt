-- What the first words of SRAM tell of the memory that they belong to.
use Rattle.std.specs.Prelude.{◌≡◌, ◌⊎◌, ◌≢◌, ◌≤◌, ℕ, List, [], ◌∷◌, length, slice_index}
use Rattle.envy_base.specs.declared.shape.Shape.{Shape}
use Rattle.envy_map.specs.Codes.{the_magic}
use Rattle.envy_map.specs.Fields.{shape_in}
use Rattle.envy_calls.specs.Making.{ForSetup, IsNoSetup}
use Rattle.envy_calls.specs.declared.code.Code.{Code}
use Rattle.envy_calls.specs.declared.code.Code.TheVariants.{Done, Unformatted, Older}
use Rattle.envy_calls.specs.declared.setup.EnvySetup.{EnvySetup}

-- the words begin as the map of a memory does, in this version
pub record IsHead (version : ℕ) (sram : List ℕ) : Type 0 where
  pub long : 5 ≤ length sram
  pub magic : slice_index sram 0 ≡ the_magic
  pub written : slice_index sram 1 ≡ version

-- words 6 and 7 are there and tell reserves or sums
abbrev pub HasExtras : List ℕ → Type 0
HasExtras sram = (8 ≤ length sram) × ((slice_index sram 6 ≢ 0) ⊎ (slice_index sram 7 ≢ 0))

-- the words begin as the map of a memory with a shape that can be told: in the second version, or in the third
abbrev pub TellsShape : List ℕ → Type 0
TellsShape sram = IsHead 2 sram ⊎ (IsHead 3 sram × HasExtras sram)

-- the shape that words 2 to 4 keep, and in the third version words 6 and 7
abbrev pub shape_told : List ℕ → Shape
shape_told sram = shape_in (slice_index sram 1) (slice_index sram 2 ∷ slice_index sram 3 ∷ slice_index sram 4 ∷ []) (slice_index sram 6) (slice_index sram 7)

-- Numbers for a setup of this shape. A map keeps no policy, limit and mark: they are greedy, 100 and all frames.
abbrev pub numbers_of : Shape → EnvySetup
numbers_of sh = record {
  segments = sh.segments;
  rows = sh.rows;
  pages = sh.pages;
  shadows = sh.shadows;
  frames = sh.frames;
  entries = sh.entries;
  policy = 0;
  part = 2;
  limit = 100;
  mark = sh.frames;
  reserves = sh.reserves;
  sums = sh.sums;
}

-- why words tell no shape: there is no map, or one of the first version, or the shape that it keeps breaks a rule
abbrev pub TellsNone : List ℕ → Code → Type 0
TellsNone sram Unformatted = (IsHead 1 sram → ⊥) × (TellsShape sram → ⊥)
TellsNone sram Older = IsHead 1 sram
TellsNone sram other = TellsShape sram × IsNoSetup (numbers_of (shape_told sram)) other

abbrev pub DoesShape : List ℕ → EnvySetup → EnvySetup → Code → Type 0
DoesShape sram before after code =
    ((code ≡ Done) × TellsShape sram × (after ≡ numbers_of (shape_told sram)) × ForSetup after (λ setup. setup.shape ≡ shape_told sram))
    ⊎ ((after ≡ before) × TellsNone sram code)

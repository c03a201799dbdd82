-- What a setup asks for, in sizes.
use Rattle.std.specs.Prelude.{◌≡◌, ◌⊎◌, ℕ, ◌+◌, ◌*◌, Some, Ok}
use Rattle.envy_base.specs.Map.{words_of}
use Rattle.envy_base.specs.declared.shape.Shape.{Shape}
use Rattle.envy_policy.specs.Setup.{checked}
use Rattle.envy_policy.specs.declared.setup.Setup.{Setup as OfSetup}
use Rattle.envy_calls.specs.Making.{IsNoSetup}
use Rattle.envy_calls.specs.Setups.{setup_of}
use Rattle.envy_calls.specs.declared.code.Code.{Code}
use Rattle.envy_calls.specs.declared.code.Code.TheVariants.{Done}
use Rattle.envy_calls.specs.declared.setup.EnvySetup.{EnvySetup}
use Rattle.envy_openings.specs.declared.sizes.EnvySizes.{EnvySizes}

-- What asking for the sizes of regions answers: those of the setup's shape, or why there is no setup.
abbrev pub SizesRegions : EnvySetup → EnvySizes → EnvySizes → Code → Type 0
SizesRegions given before after code =
    ((code ≡ Done) × (setup : OfSetup) × (setup_of given ≡ Some setup) × (checked setup ≡ Ok tt)
    × (after ≡ record { rows = setup.shape.segments * setup.shape.rows; words = words_of setup.shape; erases = setup.shape.segments }))
    ⊎ (IsNoSetup given code × (after ≡ before))

-- how many bytes the rows of a board take, each with its mark, and its SRAM and counts of erases
abbrev pub board_bytes : Shape → ℕ
board_bytes sh = 257 * (sh.segments * sh.rows) + 8 * words_of sh + 8 * sh.segments

-- what asking for them answers, or why there is no setup
abbrev pub SizesBoard : EnvySetup → ℕ → ℕ → Code → Type 0
SizesBoard given before after code =
    ((code ≡ Done) × (setup : OfSetup) × (setup_of given ≡ Some setup) × (checked setup ≡ Ok tt) × (after ≡ board_bytes setup.shape))
    ⊎ (IsNoSetup given code × (after ≡ before))

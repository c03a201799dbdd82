-- Where a part's map and the SRAM may lie.
use Rattle.std.specs.Prelude.{◌≡◌, ◌≢◌, ◌⊎◌, ℕ, ◌+◌, ◌*◌, ◌%◌, ◌^◌, ◌<◌, ◌≤◌}
use Rattle.envy_base.specs.declared.shape.Shape.{Shape}
use Rattle.envy_base.specs.Map.{words_of}
use Rattle.envy_part.specs.declared.places.Places.{Places}
use Rattle.envy_part.specs.declared.places.PlaceFault.{PlaceFault}
use Rattle.envy_part.specs.declared.places.PlaceFault.TheVariants.{FlashAddress, SramAddress, FlashSize, SramSize, Past, Overlap}

-- the map begins at an address that is a multiple of a row's bytes, and isn't 0
pub record IsMapAddress (at : ℕ) : Type 0 where
  pub somewhere : 1 ≤ at
  pub aligned : at % 256 ≡ 0

-- the SRAM begins at an address that is a multiple of a word's bytes, and isn't 0
pub record IsWordAddress (at : ℕ) : Type 0 where
  pub somewhere : 1 ≤ at
  pub aligned : at % 8 ≡ 0

-- the addresses are right, and the regions have the bytes that a shape asks for
pub record HaveBytes (sh : Shape) (at : Places) : Type 0 where
  pub flash : IsMapAddress at.flash
  pub sram : IsWordAddress at.sram
  pub flash_bytes : at.flash_bytes ≡ 256 * (sh.segments * sh.rows)
  pub sram_bytes : at.sram_bytes ≡ 8 * words_of sh

-- no region reaches past the last address
pub record AreWithin (at : Places) : Type 0 where
  pub flash : at.flash + at.flash_bytes < 2 ^ 64
  pub sram : at.sram + at.sram_bytes < 2 ^ 64

-- the regions lie within the addresses, and none lies in the other
pub record AreApart (at : Places) : Type 0 where
  pub within : AreWithin at
  pub apart : (at.flash + at.flash_bytes ≤ at.sram) ⊎ (at.sram + at.sram_bytes ≤ at.flash)

-- a board of this shape may stand here
pub record ArePlaced (sh : Shape) (at : Places) : Type 0 where
  pub bytes : HaveBytes sh at
  pub apart : AreApart at

-- Which rule regions of the right sizes break, those before it being kept: one reaches past the last address, or none
-- does and they overlap.
abbrev pub Mingles : Places → PlaceFault → Type 0
Mingles at Past = (2 ^ 64 ≤ at.flash + at.flash_bytes) ⊎ (2 ^ 64 ≤ at.sram + at.sram_bytes)
Mingles at Overlap = AreWithin at × (at.sram < at.flash + at.flash_bytes) × (at.flash < at.sram + at.sram_bytes)
Mingles at other = ⊥

-- the first rule that the places break: those before it are kept
abbrev pub Misplaces : Shape → Places → PlaceFault → Type 0
Misplaces sh at FlashAddress = (at.flash ≡ 0) ⊎ (at.flash % 256 ≢ 0)
Misplaces sh at SramAddress = IsMapAddress at.flash × ((at.sram ≡ 0) ⊎ (at.sram % 8 ≢ 0))
Misplaces sh at FlashSize = IsMapAddress at.flash × IsWordAddress at.sram × (at.flash_bytes ≢ 256 * (sh.segments * sh.rows))
Misplaces sh at SramSize =
    IsMapAddress at.flash × IsWordAddress at.sram × (at.flash_bytes ≡ 256 * (sh.segments * sh.rows))
    × (at.sram_bytes ≢ 8 * words_of sh)
Misplaces sh at Past = HaveBytes sh at × Mingles at Past
Misplaces sh at Overlap = HaveBytes sh at × Mingles at Overlap

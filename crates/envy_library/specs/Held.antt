-- What stands behind the pointer that a caller in C holds.
use Rattle.std.specs.Prelude.{[], ◌∷◌, None}
use denote.RattleType.{RattleType}
use denote.Signature.{static_lft}
use denote.RawPtr.{Ptr, block_ptr, null_ptr, ptr_val}
use denote.Ref.{MutRef}
use mir.Syntax.{named}
use base.Fml.{Fml, ftrue}
use Rattle.envy_bench.specs.contracts.calm.CalmBoard as calm_board
use Rattle.envy_bench.specs.contracts.calm.CalmBoardBoard.TheImpl as calm
use Rattle.envy_region.specs.contracts.owned_board.OwnedBoard as owned_board
use Rattle.envy_region.specs.contracts.owned_board.OwnedBoardBoard.TheImpl as owned
use Rattle.envy_journal.specs.contracts.steady.OwnedBoardSteady.TheImpl as steady
use Rattle.envy_places.specs.contracts.place.MemoryPlace as place
use Rattle.envy_places.specs.declared.place.MemoryPlace.TheVariants.{Regions}
use Rattle.envy_portfile.specs.contracts.port.FilePort as file_port
use Rattle.envy_portfile.specs.contracts.port.FilePortFileCalls.TheImpl as raw
use Rattle.envy_device.specs.contracts.logged_file.LoggedFile as recorded
use Rattle.envy_device.specs.contracts.logged_file.LoggedFileDevice.TheImpl as device
use Rattle.envy_region.specs.contracts.borrowed_board.BorrowedBoard as region_board
use Rattle.envy_region.specs.contracts.borrowed_board.BorrowedBoardBoard.TheImpl as region
use Rattle.envy_synced.specs.contracts.kept.Kept as kept
use Rattle.envy_synced.specs.contracts.kept.KeptBoard.TheImpl as journaled

-- a file behind a port, and the board that is kept in one
abbrev pub file_row : RattleType
file_row = recorded.the_row file_port.the_row

abbrev pub kept_row : RattleType
kept_row = kept.the_row owned_board.the_row file_row owned.ghosts (device.ghosts file_port.the_row raw.ghosts raw.dict)

-- a place for a memory over regions, in a file, or over a board that can be made to fail
abbrev pub place_row : RattleType
place_row = place.the_row (region_board.the_row static_lft) kept_row calm_board.the_row region.ghosts
    (journaled.ghosts owned_board.the_row file_row steady.ghosts steady.dict owned.ghosts owned.dict (device.ghosts file_port.the_row raw.ghosts raw.dict) (device.dict file_port.the_row raw.ghosts raw.dict))
    calm.ghosts

-- a `&'static mut` to such a place
abbrev pub lent_row : RattleType
lent_row = MutRef (named 0) [] place_row

-- Null owns nothing. Any other pointer owns what the `&'static mut` owned that it was made of.
abbrev pub place_owns : Ptr → lent_row.Denot → Fml
place_owns (block_ptr b o) r = lent_row.own_val r (ptr_val (block_ptr b o) ∷ [])
place_owns null_ptr r = ftrue

-- what stands beside a null pointer
abbrev pub no_place : lent_row.Denot
no_place = record { ref_ptr = (0, 0); ghost_name = 0; now = Regions None }

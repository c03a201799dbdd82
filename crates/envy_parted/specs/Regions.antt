-- What a caller in C gives with the map of a part, and with words of its memory.
use Rattle.std.specs.Prelude.{ℕ, List, [], ◌∷◌}
use Rattle.envy_base.specs.State.{AreWords}
use Rattle.envy_part.specs.Part.{ArePages}
use denote.RattleType.{RattleType}
use denote.RawPtr.{Ptr, block_ptr, null_ptr}
use denote.Slice.{MutSlice, slice_val}
use denote.Array.{Array}
use denote.Builtin.{u8, u64}
use mir.Syntax.{named}
use base.Fml.{Fml, ftrue}

-- a `&'static mut` to words, and to rows of 256 bytes
abbrev pub words_row : RattleType
words_row = MutSlice (named 0) [] u64

abbrev pub rows_row : RattleType
rows_row = MutSlice (named 0) [] (Array u8 256)

-- Null owns nothing. Any other pointer, with a count, owns what the reference to so many items owns.
abbrev pub words_own : Ptr → ℕ → words_row.Denot → Fml
words_own (block_ptr b o) n r = words_row.own_val r (slice_val (b, o) n ∷ [])
words_own null_ptr n r = ftrue

abbrev pub rows_own : Ptr → ℕ → rows_row.Denot → Fml
rows_own (block_ptr b o) n r = rows_row.own_val r (slice_val (b, o) n ∷ [])
rows_own null_ptr n r = ftrue

-- Rows are of 256 bytes, and words of 64 bits. Of any memory this is so.
pub record AreWhole (flash : List (List ℕ)) (sram : List ℕ) : Type 0 where
  pub pages : ArePages flash
  pub words : AreWords sram

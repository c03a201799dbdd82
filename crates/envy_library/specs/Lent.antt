-- What a caller in C gives with a region of its memory.
use Rattle.std.specs.Prelude.{ℕ, [], ◌∷◌}
use denote.RattleType.{RattleType}
use denote.RawPtr.{Ptr, block_ptr, null_ptr}
use denote.Slice.{MutSlice, slice_val}
use denote.Array.{Array}
use denote.Builtin.{u64}
use mir.Syntax.{named}
use base.Fml.{Fml, ftrue}
use Rattle.envy_base.specs.declared.page.TheConstants.{PAGE_WORDS}

-- a `&'static mut` to words, and to rows of 32 words
abbrev pub words_row : RattleType
words_row = MutSlice (named 0) [] u64

abbrev pub rows_row : RattleType
rows_row = MutSlice (named 0) [] (Array u64 PAGE_WORDS)

-- Null owns nothing. Any other pointer, with a count, owns what the reference to so many items owns.
abbrev pub words_own : Ptr → ℕ → words_row.Denot → Fml
words_own (block_ptr b o) n r = words_row.own_val r (slice_val (b, o) n ∷ [])
words_own null_ptr n r = ftrue

abbrev pub rows_own : Ptr → ℕ → rows_row.Denot → Fml
rows_own (block_ptr b o) n r = rows_row.own_val r (slice_val (b, o) n ∷ [])
rows_own null_ptr n r = ftrue

-- Where each region of the SRAM map begins, in words. Places and undos stand two to a word.
use Rattle.std.specs.Prelude.{ℕ, ◌+◌, ◌*◌, ◌/◌}
use Rattle.envy_base.specs.declared.shape.Shape.{Shape}
use Rattle.envy_base.specs.declared.page.TheConstants.{PAGE_WORDS}

abbrev pub slots_at : ℕ
slots_at = 8

abbrev pub wear_at : ℕ
wear_at = 72

abbrev pub fill_at : Shape → ℕ
fill_at sh = 72 + sh.segments

abbrev pub position_at : Shape → ℕ
position_at sh = 72 + 2 * sh.segments

abbrev pub table_at : Shape → ℕ
table_at sh = 71 + 3 * sh.segments

abbrev pub undo_at : Shape → ℕ
undo_at sh = table_at sh + (sh.pages + 1) / 2

abbrev pub back_at : Shape → ℕ
back_at sh = undo_at sh + (sh.pages + 1) / 2

abbrev pub origin_at : Shape → ℕ
origin_at sh = back_at sh + sh.segments * sh.rows

abbrev pub frames_at : Shape → ℕ
frames_at sh = origin_at sh + sh.rows

-- the number of SRAM words
abbrev pub words_of : Shape → ℕ
words_of sh = frames_at sh + PAGE_WORDS * sh.frames

-- What a memory over plain vectors means.
use Rattle.envy_array.specs.Words.{Sheet}
use Rattle.envy_heap.specs.declared.vec_words.VecWords.{VecWords}
use Rattle.envy_heap.specs.Sheets.{sheet_of}

abbrev pub vec_sheet : VecWords → Sheet
vec_sheet v = sheet_of v.words.items v.kept.items v.started v.pages.items v.used

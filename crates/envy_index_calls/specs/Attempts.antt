-- A change in a range of words within their open transaction, which is undone if a flash operation fails.
use Rattle.std.specs.Prelude.{◌≡◌, ℕ, ◌≤◌, false, IsTrue, Result, Ok, Err}
use Rattle.envy_array.specs.Words.{Sheet}
use Rattle.envy_base.specs.Counting.{Rose}
use Rattle.envy_range.specs.Ranges.{outside, within}
use Rattle.envy_btree.specs.declared.fault.ChangeFault.{ChangeFault}
use Rattle.envy_btree.specs.declared.fault.ChangeFault.TheVariants.{Off, Full, Room, Bad}
use Rattle.envy_calls.specs.declared.code.Code.{Code}
use Rattle.envy_calls.specs.declared.code.Code.TheVariants.{Off as CodeOff, Full as CodeFull, MapFull, BadAborted}
use Rattle.envy_index_calls.specs.declared.ranges.EnvyMap.{EnvyMap}

-- the words of a range, as a view of it shows them
abbrev pub view_of : EnvyMap → Sheet → Sheet
view_of range s = within range.first range.words s

-- what every call keeps
pub record Steady (old new : Sheet) : Type 0 where
  pub fixed : new.fixed ≡ old.fixed
  pub notes : new.notes ≡ old.notes
  pub cuts : old.cuts ≤ new.cuts
  pub bads : old.bads ≤ new.bads
  pub cut : IsTrue old.on → new.on ≡ false → Rose old.cuts new.cuts

-- the transaction is open, and the words outside the range stay
pub record Moves (range : EnvyMap) (old new : Sheet) : Type 0 where
  pub on : IsTrue new.on
  pub started : IsTrue new.started
  pub kept : new.kept ≡ old.kept
  pub beside : outside range.first range.words new.words ≡ outside range.first range.words old.words

-- the transaction is open, and all words stay
pub record Halts (old new : Sheet) : Type 0 where
  pub on : IsTrue new.on
  pub started : IsTrue new.started
  pub kept : new.kept ≡ old.kept
  pub words : new.words ≡ old.words

-- the transaction is undone
pub record Undone (old new : Sheet) : Type 0 where
  pub on : IsTrue new.on
  pub shut : new.started ≡ false
  pub kept : new.kept ≡ old.kept
  pub rose : Rose old.bads new.bads

-- what an attempt leaves, by its answer
abbrev pub Attempts : {T : Type 0} → EnvyMap → Sheet → Result T ChangeFault → Sheet → Type 0
Attempts range old (Ok x) new = Moves range old new
Attempts range old (Err Full) new = Halts old new
Attempts range old (Err Room) new = Halts old new
Attempts range old (Err Bad) new = Undone old new
Attempts range old (Err Off) new = (new.on ≡ false) × (new.kept ≡ old.kept)

-- the code of a change that wasn't made
abbrev pub change_code : ChangeFault → Code
change_code Off = CodeOff
change_code Full = MapFull
change_code Room = CodeFull
change_code Bad = BadAborted

-- An attempt failed in a transaction, which is still open but where power is off.
abbrev pub HasFailed : ChangeFault → Sheet → Type 0
HasFailed Off s = s.on ≡ false
HasFailed Full s = IsTrue s.started
HasFailed Room s = IsTrue s.started
HasFailed Bad s = IsTrue s.started

-- what is left then, once it is undone after `Bad`
abbrev pub Settles : ChangeFault → Sheet → ChangeFault → Sheet → Type 0
Settles fault old Full new = (fault ≡ Full) × (new ≡ old)
Settles fault old Room new = (fault ≡ Room) × (new ≡ old)
Settles fault old Bad new = (fault ≡ Bad) × IsTrue new.on × (new.started ≡ false) × (new.kept ≡ old.kept)
Settles fault old Off new = (new.on ≡ false) × (new.kept ≡ old.kept)

-- it is refused only if no page is left
abbrev pub IsRoomless : {T : Type 0} → ℕ → Result T ChangeFault → Type 0
IsRoomless left (Ok x) = Unit {0}
IsRoomless left (Err Off) = Unit {0}
IsRoomless left (Err Bad) = Unit {0}
IsRoomless left (Err Full) = ⊥
IsRoomless left (Err Room) = left ≡ 0

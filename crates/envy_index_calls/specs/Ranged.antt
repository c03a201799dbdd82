-- What the calls of maps in ranges answer by a code, and what they leave, within a transaction of several maps.
use Rattle.std.specs.Prelude.{◌≡◌, ◌⊎◌, ℕ, ◌*◌, ◌-◌, true, false, IsTrue, List, [], length, slice_set, Option, None, Some, Result, Ok, Err}
use Rattle.envy_base.specs.Counting.{Rose}
use Rattle.envy_base.specs.declared.board.Off.{Off}
use Rattle.envy_base.specs.declared.page.TheConstants.{PAGE_WORDS}
use Rattle.envy_soundness.specs.Words.{live, durable}
use Rattle.envy_memory.specs.Picture.{Picture}
use Rattle.envy_btree.specs.Answers.{IsFull}
use Rattle.envy_btree.specs.Depths.{insertion_pages, removal_pages}
use Rattle.envy_btree.specs.Index.{IsIndex}
use Rattle.envy_btree.specs.Pairs.{assoc, with_pair, without}
use Rattle.envy_btree.specs.Within.{IsCrowded}
use Rattle.envy_btree.specs.declared.fault.ChangeFault.{ChangeFault}
use Rattle.envy_calls.specs.Codes.{number_of}
use Rattle.envy_calls.specs.declared.code.Code.{Code}
use Rattle.envy_calls.specs.declared.code.Code.TheVariants.{Done, Empty, Off as CodeOff, Full, Absent, MapFull, BrokenMap, BadAborted}
use Rattle.envy_index_calls.specs.Attempts.{change_code}
use Rattle.envy_index_calls.specs.Indexed.{IsShut, Loses, Pairs, Works, blanked, old_of}
use Rattle.envy_index_calls.specs.Ranges.{Denies, HasFirst, IsOpen, IsRange, MayHold, words_beside, words_in}
use Rattle.envy_index_calls.specs.declared.creation.TheConstants.{MAP_MARK}
use Rattle.envy_index_calls.specs.declared.pairs.EnvyOld.{EnvyOld}
use Rattle.envy_index_calls.specs.declared.ranges.EnvyMap.{EnvyMap}
use Rattle.envy_index_calls.specs.declared.ranges.Whose.TheVariants.{New, Slot, Any}

-- what a program promises of a memory in which it changes a map: if the range is one, its words stand for a map
pub record HoldsMapIn (range : EnvyMap) (p : Picture) : Type 0 where
  pub array : MayHold p
  pub map : IsTrue p.chart.on → IsRange range (PAGE_WORDS * p.chart.shape.pages) → (es : Pairs) × IsIndex (words_in range p) es

-- how many pages the transaction may yet put words in
abbrev pub left_in : Picture → ℕ
left_in p = p.chart.shape.shadows - length p.owned.pairs

-- In a place: its memory's call, which is worth so many puts at most, and what it leaves. Without a memory that is the answer.
abbrev pub Calls : ℕ → (Picture → Picture → Code → Type 0) → Option Picture → Option Picture → ℕ → Type 0
Calls puts Left None new number = (new ≡ None) × (number ≡ number_of Empty)
Calls puts Left (Some p) new number = (q : Picture) × (code : Code) × (new ≡ Some q) × (number ≡ number_of code) × Works puts p q × Left p q code

-- ---- calls that change no word

-- the words stay, and so does the transaction, if one is open
pub record Keeps (p q : Picture) : Type 0 where
  pub words : live q.chart ≡ live p.chart
  pub kept : durable q.chart ≡ durable p.chart
  pub opened : HasFirst p.chart true → IsOpen q
  pub shut : HasFirst p.chart false → IsShut q

-- what a look-up leaves, whatever the words are
abbrev pub KeepsIn : EnvyMap → Picture → Picture → Code → Type 0
KeepsIn range p q Done = Keeps p q
KeepsIn range p q Absent = Keeps p q
KeepsIn range p q BrokenMap = Keeps p q × ((es : Pairs) → IsIndex (words_in range p) es → ⊥)
KeepsIn range p q CodeOff = Loses p q
KeepsIn range p q code = (q ≡ p) × Denies Any (Some range) p code

-- the same, and what it tells of each map that they stand for
abbrev pub Kept : EnvyMap → (Pairs → Code → Type 0) → Picture → Picture → Code → Type 0
Kept range Says p q code = KeepsIn range p q code × ((es : Pairs) → IsIndex (words_in range p) es → Says es code)

-- ---- changes

-- A change that was made leaves the words outside its range. None is kept before the transaction is.
pub record Changes (range : EnvyMap) (p q : Picture) : Type 0 where
  pub opened : IsOpen q
  pub kept : durable q.chart ≡ durable p.chart
  pub beside : words_beside range q ≡ words_beside range p

-- one that was refused leaves all words, and the transaction open
pub record Refuses (p q : Picture) : Type 0 where
  pub opened : IsOpen q
  pub kept : durable q.chart ≡ durable p.chart
  pub words : live q.chart ≡ live p.chart

-- a flash operation failed, and the transaction was aborted
pub record Undoes (p q : Picture) : Type 0 where
  pub shut : IsShut q
  pub kept : durable q.chart ≡ durable p.chart
  pub rose : Rose p.chart.bads q.chart.bads

-- what a change leaves, by its answer
abbrev pub ChangesIn : ℕ → EnvyMap → Picture → Picture → Code → Type 0
ChangesIn t range p q Done = Changes range p q
ChangesIn t range p q Absent = Refuses p q
ChangesIn t range p q MapFull = Refuses p q
ChangesIn t range p q Full = Refuses p q
ChangesIn t range p q BadAborted = Undoes p q
ChangesIn t range p q CodeOff = Loses p q
ChangesIn t range p q code = (q ≡ p) × Denies (Slot t) (Some range) p code

-- the same, and what it tells of each map that the words of the range stood for
abbrev pub Changed : ℕ → EnvyMap → (Pairs → Picture → Picture → Code → Type 0) → Picture → Picture → Code → Type 0
Changed t range Says p q code = ChangesIn t range p q code × ((es : Pairs) → IsIndex (words_in range p) es → Says es p q code)

-- the key has this value from then on in the transaction
abbrev pub Sets : ℕ → ℕ → EnvyOld → EnvyMap → Pairs → Picture → Picture → Code → Type 0
Sets key value old range es p q Done = (old ≡ old_of (assoc key es)) × (IsFull (words_in range p) key es → ⊥) × IsIndex (words_in range q) (with_pair key value es)
Sets key value old range es p q Absent = ⊥
Sets key value old range es p q MapFull = IsFull (words_in range p) key es
Sets key value old range es p q Full = IsCrowded insertion_pages (left_in p) (words_in range p)
Sets key value old range es p q BadAborted = IsFull (words_in range p) key es → ⊥
Sets key value old range es p q code = Unit {0}

-- the key is out of the map from then on in the transaction
abbrev pub Drops : ℕ → ℕ → EnvyMap → Pairs → Picture → Picture → Code → Type 0
Drops key value range es p q Done = (assoc key es ≡ Some value) × IsIndex (words_in range q) (without key es)
Drops key value range es p q Absent = assoc key es ≡ None
Drops key value range es p q MapFull = ⊥
Drops key value range es p q Full = IsCrowded removal_pages (left_in p) (words_in range p)
Drops key value range es p q code = Unit {0}

-- the words of a map of no pairs, with the mark of maps
abbrev pub marked : List ℕ → List ℕ
marked words = slice_set (blanked words) 4 MAP_MARK

-- a map of no pairs, whatever the words of the range are
abbrev pub CreatesIn : ℕ → EnvyMap → Picture → Picture → Code → Type 0
CreatesIn t range p q Done = Changes range p q × (words_in range q ≡ marked (words_in range p)) × IsIndex (words_in range q) []
CreatesIn t range p q Full = Refuses p q × (left_in p ≡ 0)
CreatesIn t range p q BadAborted = Undoes p q
CreatesIn t range p q CodeOff = Loses p q
CreatesIn t range p q code = (q ≡ p) × Denies (Slot t) (Some range) p code

-- ---- transactions

-- a transaction is open from then on, which has put no word
abbrev pub Starts : Picture → Picture → Code → Type 0
Starts p q Done = IsOpen q × (live q.chart ≡ live p.chart) × (durable q.chart ≡ durable p.chart) × (q.owned.pairs ≡ [])
Starts p q CodeOff = Loses p q
Starts p q code = (q ≡ p) × Denies New None p code

-- all words that were put are kept; where power fails all or none are
abbrev pub Commits : ℕ → Picture → Picture → Code → Type 0
Commits t p q Done = IsShut q × (durable q.chart ≡ live p.chart)
Commits t p q CodeOff = (q.chart.on ≡ false) × ((durable q.chart ≡ durable p.chart) ⊎ (durable q.chart ≡ live p.chart))
Commits t p q code = (q ≡ p) × Denies (Slot t) None p code

-- none is kept
abbrev pub Aborts : ℕ → Picture → Picture → Code → Type 0
Aborts t p q Done = IsShut q × (durable q.chart ≡ durable p.chart)
Aborts t p q CodeOff = Loses p q
Aborts t p q code = (q ≡ p) × Denies (Slot t) None p code

-- ---- codes, and what stands at the caller's pointer

abbrev pub end_code : Result Unit Off → Code
end_code (Ok done) = Done
end_code (Err off) = CodeOff

abbrev pub TellsBegun : Result Unit Off → Code → ℕ → ℕ → Type 0
TellsBegun (Ok done) code before after = (code ≡ Done) × (after ≡ 0)
TellsBegun (Err off) code before after = (code ≡ CodeOff) × (after ≡ before)

abbrev pub TellsSet : Result (Option ℕ) ChangeFault → Code → EnvyOld → EnvyOld → Type 0
TellsSet (Ok was) code before after = (code ≡ Done) × (after ≡ old_of was)
TellsSet (Err fault) code before after = (code ≡ change_code fault) × (after ≡ before)

abbrev pub TellsDrop : Result (Option ℕ) ChangeFault → Code → ℕ → ℕ → Type 0
TellsDrop (Ok (Some value)) code before after = (code ≡ Done) × (after ≡ value)
TellsDrop (Ok None) code before after = (code ≡ Absent) × (after ≡ before)
TellsDrop (Err fault) code before after = (code ≡ change_code fault) × (after ≡ before)

abbrev pub TellsMade : Result Unit ChangeFault → Code → Type 0
TellsMade (Ok done) code = code ≡ Done
TellsMade (Err fault) code = code ≡ change_code fault

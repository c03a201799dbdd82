-- What a memory of words with one transaction is, and what each of its calls does.
use Rattle.std.specs.Prelude.{◌≡◌, ◌⊎◌, ℕ, ◌+◌, ◌-◌, ◌*◌, ◌/◌, ◌^◌, ◌<◌, ◌≤◌, ◌==◌, Bool, false, IsTrue, List, [], ◌++◌, length, take, drop, slice_set, slice_index, Result, Ok, Err}
use Rattle.std.specs.List.{list_any}
use Rattle.envy_base.specs.Counting.{Rose}
use Rattle.envy_base.specs.State.{Notes}
use Rattle.envy_base.specs.declared.board.Off.{Off}
use Rattle.envy_base.specs.declared.board.Trouble.{Trouble}
use Rattle.envy_base.specs.declared.board.Trouble.TheVariants.{Off as TroubleOff, Bad}
use Rattle.envy_base.specs.declared.page.TheConstants.{PAGE_WORDS}
use Rattle.envy_array.specs.declared.words.KeyPlace.{KeyPlace}

-- flash operations: rows programmed, and segments erased
pub record Work : Type 0 where
  pub programs : ℕ
  pub erases : ℕ

pub record Sheet : Type 0 where
  -- what loads read, and what stands after power fails
  pub words : List ℕ
  pub kept : List ℕ
  -- whether a transaction is open, the pages put in it, and how many there may be
  pub started : Bool
  pub pages : List ℕ
  pub room : ℕ
  -- power, and how often it failed and flash operations did
  pub on : Bool
  pub cuts : ℕ
  pub bads : ℕ
  -- flash work that began, and the most that one put may begin
  pub work : Work
  pub price : Work
  -- further numbers of the memory, which no call of the trait changes
  pub fixed : List ℕ
  -- what the memory's owner notes, which none changes either
  pub notes : Notes
  -- words beside these, if this memory is a part of another one, and what is kept of them
  pub beside : List ℕ
  pub kept_beside : List ℕ

-- Without an open transaction the words are the kept words, and none is open without power.
pub record IsSheet (s : Sheet) : Type 0 where
  pub long : length s.kept ≡ length s.words
  pub few : length s.words < 2 ^ 32
  pub shut : s.started ≡ false → s.words ≡ s.kept
  pub off : s.on ≡ false → s.started ≡ false
  pub shut_beside : s.started ≡ false → s.beside ≡ s.kept_beside

-- the page is among those put
abbrev pub has : List ℕ → ℕ → Bool
has pages p = list_any (λ q. q == p) pages

-- No more flash work began than n puts may begin, at every exit. The price of a put stays.
pub record Spends (n : ℕ) (old new : Sheet) : Type 0 where
  pub price : new.price ≡ old.price
  pub programs : new.work.programs ≤ old.work.programs + n * old.price.programs
  pub erases : new.work.erases ≤ old.work.erases + n * old.price.erases

-- Work within a transaction, at every exit: it leaves the kept words, and puts at most k pages more. The words beside stay, or
-- are the kept ones without power. Power goes only where cuts rose, and doesn't return.
pub record Works (k : ℕ) (old new : Sheet) : Type 0 where
  pub long : length new.words ≡ length old.words
  pub kept : new.kept ≡ old.kept
  pub room : new.room ≡ old.room
  pub fixed : new.fixed ≡ old.fixed
  pub notes : new.notes ≡ old.notes
  pub cuts : old.cuts ≤ new.cuts
  pub bads : old.bads ≤ new.bads
  pub dark : old.on ≡ false → new.on ≡ false
  pub cut : IsTrue old.on → new.on ≡ false → Rose old.cuts new.cuts
  pub still : IsTrue new.on → new.started ≡ old.started
  pub few : IsTrue new.on → length new.pages ≤ length old.pages + k
  pub seen : IsTrue new.on → (p : ℕ) → IsTrue (has old.pages p) → IsTrue (has new.pages p)
  pub beside : (new.beside ≡ old.beside) ⊎ ((new.on ≡ false) × (new.beside ≡ old.kept_beside))
  pub kept_beside : new.kept_beside ≡ old.kept_beside

-- Work that puts no page but p, at every exit.
pub record OnPage (p : ℕ) (old new : Sheet) : Type 0 where
  pub works : Works 1 old new
  pub again : IsTrue (has old.pages p) → Works 0 old new
  pub put : IsTrue new.on → IsTrue (has new.pages p) ⊎ (new.pages ≡ old.pages)

abbrev pub Loads : Sheet → ℕ → Result ℕ Off → Sheet → Type 0
Loads old a (Ok v) new = IsTrue new.on × (v ≡ slice_index old.words a) × (new.words ≡ old.words) × (new.pages ≡ old.pages)
Loads old a (Err off) new = new.on ≡ false

-- so many of the words, from address a on
abbrev pub run_at : List ℕ → ℕ → ℕ → List ℕ
run_at words a n = take n (drop a words)

abbrev pub LoadsRun : Sheet → ℕ → List ℕ → Result Unit Off → Sheet → Type 0
LoadsRun old a run (Ok done) new = (IsTrue old.on → IsTrue new.on) × (run ≡ run_at old.words a (length run)) × (new.words ≡ old.words) × (new.pages ≡ old.pages)
LoadsRun old a run (Err off) new = new.on ≡ false

-- The place of a key among n words, by the words beside it: from new_low to new_top there is no other of them but new_low
-- itself. Where no word is on that side, it is the bound that there was.
pub record IsPlaceIn (word : ℕ → ℕ) (n key low top index new_low new_top : ℕ) : Type 0 where
  pub within : index ≤ n
  pub above : new_low ≤ key
  pub below : key ≤ new_top
  pub first : index ≡ 0 → new_low ≡ low
  pub bottom : (i : ℕ) → index ≡ i + 1 → new_low ≡ word i
  pub last : index ≡ n → new_top ≡ top
  pub ceiling : index < n → word index ≡ new_top + 1

-- the same of n of the words, from address a on
abbrev pub IsPlace : List ℕ → ℕ → ℕ → ℕ → ℕ → ℕ → ℕ → ℕ → ℕ → Type 0
IsPlace words a n key low top index new_low new_top = IsPlaceIn (λ i. slice_index words (a + i)) n key low top index new_low new_top

abbrev pub Searches : Sheet → ℕ → ℕ → ℕ → ℕ → ℕ → Result KeyPlace Off → Sheet → Type 0
Searches old a n key low top (Ok x) new = (IsTrue old.on → IsTrue new.on) × IsPlace old.words a n key low top x.index x.low x.top × (new.words ≡ old.words) × (new.pages ≡ old.pages)
Searches old a n key low top (Err off) new = new.on ≡ false

abbrev pub Puts : Sheet → ℕ → ℕ → Result Unit Trouble → Sheet → Type 0
Puts old a w (Ok done) new = IsTrue new.on × (new.words ≡ slice_set old.words a w) × IsTrue (has new.pages (a / PAGE_WORDS))
Puts old a w (Err TroubleOff) new = new.on ≡ false
Puts old a w (Err Bad) new = IsTrue new.on × (new.words ≡ old.words) × (new.pages ≡ old.pages) × Rose old.bads new.bads

-- the first n words of a list, in place of those from address a on
abbrev pub pasted : ℕ → List ℕ → ℕ → List ℕ → List ℕ
pasted a list n words = take a words ++ take n list ++ drop (a + n) words

-- After `Bad` the first k are put.
abbrev pub PutsRun : Sheet → ℕ → List ℕ → Result Unit Trouble → Sheet → Type 0
PutsRun old a list (Ok done) new = IsTrue new.on × (new.words ≡ pasted a list (length list) old.words)
PutsRun old a list (Err TroubleOff) new = new.on ≡ false
PutsRun old a list (Err Bad) new = IsTrue new.on × Rose old.bads new.bads × ((k : ℕ) × (k ≤ length list) × (new.words ≡ pasted a list k old.words))

-- What start, finish and undo keep at every exit. Words beside stay if all of them are kept.
pub record Keeps (old new : Sheet) : Type 0 where
  pub long : length new.words ≡ length old.words
  pub room : new.room ≡ old.room
  pub fixed : new.fixed ≡ old.fixed
  pub notes : new.notes ≡ old.notes
  pub cuts : old.cuts ≤ new.cuts
  pub bads : old.bads ≤ new.bads
  pub dark : old.on ≡ false → new.on ≡ false
  pub cut : IsTrue old.on → new.on ≡ false → Rose old.cuts new.cuts
  pub beside : old.beside ≡ old.kept_beside → (new.beside ≡ old.beside) × (new.kept_beside ≡ old.kept_beside)

abbrev pub Starts : Sheet → Result Unit Off → Sheet → Type 0
Starts old (Ok done) new = IsTrue new.on × IsTrue new.started × (new.words ≡ old.words) × (new.kept ≡ old.kept) × (new.pages ≡ [])
Starts old (Err off) new = (new.on ≡ false) × (new.kept ≡ old.kept)

abbrev pub Finishes : Sheet → Result Unit Off → Sheet → Type 0
Finishes old (Ok done) new = IsTrue new.on × (new.started ≡ false) × (new.kept ≡ old.words)
Finishes old (Err off) new = (new.on ≡ false) × ((new.kept ≡ old.kept) ⊎ (new.kept ≡ old.words))

abbrev pub Undoes : Sheet → Result Unit Off → Sheet → Type 0
Undoes old (Ok done) new = IsTrue new.on × (new.started ≡ false) × (new.kept ≡ old.kept)
Undoes old (Err off) new = (new.on ≡ false) × (new.kept ≡ old.kept)

-- Which answer comes of any work within a transaction: `Off` exactly where power is off at exit, `Bad` only where bads rose.
abbrev pub Fails : {T : Type 0} → Sheet → Result T Trouble → Sheet → Type 0
Fails old (Ok x) new = IsTrue new.on
Fails old (Err TroubleOff) new = new.on ≡ false
Fails old (Err Bad) new = IsTrue new.on × Rose old.bads new.bads

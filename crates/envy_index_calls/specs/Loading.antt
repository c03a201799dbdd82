-- What a bulk load answers, and what it leaves.
use Rattle.std.specs.Prelude.{◌≡◌, ◌⊎◌, ℕ, ◌+◌, ◌-◌, ◌*◌, ◌/◌, ◌<◌, ◌≤◌, false, IsTrue, List, length, take, slice_index, Result, Ok, Err}
use Rattle.envy_array.specs.Words.{Sheet}
use Rattle.envy_base.specs.Counting.{Rose}
use Rattle.envy_base.specs.declared.board.Trouble.{Trouble}
use Rattle.envy_base.specs.declared.board.Trouble.TheVariants.{Off as TroubleOff, Bad as TroubleBad}
use Rattle.envy_btree.specs.declared.fault.TreeFault.{TreeFault}
use Rattle.envy_btree.specs.declared.fault.TreeFault.TheVariants.{Off as FaultOff, Full, Bad}
use Rattle.envy_btree.specs.Answers.{insert_puts}
use Rattle.envy_btree.specs.Index.{IsIndex}
use Rattle.envy_index_calls.specs.Indexed.{Pairs}
use Rattle.envy_index_calls.specs.Ranged.{marked}

-- The words stand for a map of the first so many pairs. If there are others, both are enough for a leaf, or these are none.
pub record IsLoaded (ws : List ℕ) (ps : Pairs) (done : ℕ) : Type 0 where
  pub index : IsIndex ws (take done ps)
  pub within : done ≤ length ps
  pub front : done < length ps → (slice_index ws 0 ≡ 0) ⊎ (15 ≤ done)
  pub rear : done < length ps → (done ≡ 0) ⊎ (15 ≤ length ps - done)

-- a map of the first of the pairs
abbrev pub IsFirst : List ℕ → Pairs → Type 0
IsFirst ws ps = (k : ℕ) × (k ≤ length ps) × IsIndex ws (take k ps)

-- A further leaf is loaded, which ends before this pair.
abbrev pub LoadsLeaf : Pairs → ℕ → Sheet → Result ℕ TreeFault → Sheet → Type 0
LoadsLeaf ps done old (Ok end) new = IsTrue new.on × (done < end) × ((done ≡ 0) ⊎ (15 ≤ end - done)) × IsLoaded new.words ps end
LoadsLeaf ps done old (Err FaultOff) new = (new.on ≡ false) × IsFirst new.kept ps
LoadsLeaf ps done old (Err Full) new = ⊥
LoadsLeaf ps done old (Err Bad) new = IsTrue new.on × Rose old.bads new.bads × IsFirst new.words ps

-- The map has the pairs. Where power or a flash operation fails it has the first of them.
abbrev pub Loads : Pairs → Sheet → Result Unit TreeFault → Sheet → Type 0
Loads ps old (Ok u) new = IsTrue new.on × IsIndex new.words ps
Loads ps old (Err FaultOff) new = (new.on ≡ false) × IsFirst new.kept ps
Loads ps old (Err Full) new = ⊥
Loads ps old (Err Bad) new = IsTrue new.on × Rose old.bads new.bads × IsFirst new.words ps

-- the same of a map that is made first: where that fails the words are those of before
abbrev pub LoadsNew : Pairs → Sheet → Result Unit TreeFault → Sheet → Type 0
LoadsNew ps old (Ok u) new = IsTrue new.on × IsIndex new.words ps
LoadsNew ps old (Err FaultOff) new = (new.on ≡ false) × ((new.kept ≡ old.kept) ⊎ IsFirst new.kept ps)
LoadsNew ps old (Err Full) new = ⊥
LoadsNew ps old (Err Bad) new = IsTrue new.on × Rose old.bads new.bads × ((new.kept ≡ old.kept) ⊎ IsFirst new.kept ps)

-- a map of no pairs, with the mark of maps
abbrev pub Marks : Sheet → Result Unit Trouble → Sheet → Type 0
Marks old (Ok done) new = IsTrue new.on × (new.kept ≡ marked old.kept)
Marks old (Err TroubleBad) new = IsTrue new.on × Rose old.bads new.bads × (new.kept ≡ old.kept)
Marks old (Err TroubleOff) new = (new.on ≡ false) × ((new.kept ≡ old.kept) ⊎ (new.kept ≡ marked old.kept))

-- how many leaves so many pairs have at most
abbrev pub leaves_of : ℕ → ℕ
leaves_of n = (n + 14) / 15

-- how many puts that many leaves are worth in so many words, the making of a map, and a whole load
abbrev pub leaf_puts : ℕ → ℕ → ℕ
leaf_puts words n = leaves_of n * insert_puts words

abbrev pub marking_puts : ℕ
marking_puts = 6

abbrev pub load_puts : ℕ → ℕ → ℕ
load_puts words n = marking_puts + leaf_puts words n

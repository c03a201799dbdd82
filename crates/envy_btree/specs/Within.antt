-- What a change within an open transaction answers, and what it leaves.
use Rattle.std.specs.Prelude.{◌≡◌, ℕ, ◌<◌, false, IsTrue, List, Option, Result, Ok, Err}
use Rattle.envy_array.specs.Words.{Sheet, Works}
use Rattle.envy_base.specs.Counting.{Rose}
use Rattle.envy_btree.specs.declared.fault.ChangeFault.{ChangeFault}
use Rattle.envy_btree.specs.declared.fault.ChangeFault.TheVariants.{Off, Full, Room, Bad}
use Rattle.envy_btree.specs.Answers.{IsFull}
use Rattle.envy_btree.specs.Depths.{IsDeep}
use Rattle.envy_btree.specs.Index.{IsIndex}
use Rattle.envy_btree.specs.Pairs.{assoc, with_pair, without}

-- the tree is so deep that a change may put words in more pages than are left
abbrev pub IsCrowded : (ℕ → ℕ) → ℕ → List ℕ → Type 0
IsCrowded pages left ws = (depth : ℕ) × IsDeep ws depth × (left < pages depth)

-- nothing is put
abbrev pub Refuses : Sheet → Sheet → Type 0
Refuses old new = IsTrue new.on × (new.words ≡ old.words) × Works 0 old new

-- The old value of the key, which has the new one from then on in this transaction.
abbrev pub InsertsWithin : ℕ → ℕ → List (ℕ × ℕ) → (ℕ → ℕ) → ℕ → Sheet → Result (Option ℕ) ChangeFault → Sheet → Type 0
InsertsWithin key value es pages left old (Ok was) new = IsTrue new.on × (was ≡ assoc key es) × (IsFull old.words key es → ⊥) × IsIndex new.words (with_pair key value es)
InsertsWithin key value es pages left old (Err Off) new = new.on ≡ false
InsertsWithin key value es pages left old (Err Full) new = Refuses old new × IsFull old.words key es
InsertsWithin key value es pages left old (Err Room) new = Refuses old new × IsCrowded pages left old.words
InsertsWithin key value es pages left old (Err Bad) new = IsTrue new.on × Rose old.bads new.bads × (IsFull old.words key es → ⊥)

-- The old value of the key, which is out of the map from then on in this transaction.
abbrev pub RemovesWithin : ℕ → List (ℕ × ℕ) → (ℕ → ℕ) → ℕ → Sheet → Result (Option ℕ) ChangeFault → Sheet → Type 0
RemovesWithin key es pages left old (Ok was) new = IsTrue new.on × (was ≡ assoc key es) × IsIndex new.words (without key es)
RemovesWithin key es pages left old (Err Off) new = new.on ≡ false
RemovesWithin key es pages left old (Err Full) new = ⊥
RemovesWithin key es pages left old (Err Room) new = Refuses old new × IsCrowded pages left old.words
RemovesWithin key es pages left old (Err Bad) new = IsTrue new.on × Rose old.bads new.bads

-- What the calls of the index tree answer, and what they leave.
use Rattle.std.specs.Prelude.{◌≡◌, ◌⊎◌, ℕ, ◌+◌, false, IsTrue, List, ◌++◌, length, take, drop, Option, None, Result, Ok, Err}
use Rattle.envy_base.specs.declared.board.Trouble.{Trouble}
use Rattle.envy_base.specs.declared.board.Trouble.TheVariants.{Off as TroubleOff, Bad as TroubleBad}
use Rattle.envy_array.specs.Words.{Sheet}
use Rattle.envy_base.specs.Counting.{Rose}
use Rattle.envy_btree.specs.declared.fault.LookFault.{LookFault}
use Rattle.envy_btree.specs.declared.fault.LookFault.TheVariants.{Off as LookOff, Broken}
use Rattle.envy_btree.specs.declared.fault.TreeFault.{TreeFault}
use Rattle.envy_btree.specs.declared.fault.TreeFault.TheVariants.{Off as FaultOff, Full, Bad}
use Rattle.envy_btree.specs.Pairs.{assoc, with_pair, without}
use Rattle.envy_btree.specs.Depths.{dropping_puts, insertion_puts}
use Rattle.envy_btree.specs.Index.{IsIndex, most_pairs}

-- The most puts that a change in so many words is worth, with the transaction that it opens as one of them.
abbrev pub insert_puts : ℕ → ℕ
insert_puts words = insertion_puts words + 1

abbrev pub removal_puts : ℕ → ℕ
removal_puts words = dropping_puts words + 1

-- the map has no room for this key
abbrev pub IsFull : List ℕ → ℕ → List (ℕ × ℕ) → Type 0
IsFull words key es = (assoc key es ≡ None) × (length es ≡ most_pairs words)

-- What a look at a map answers, which stays, as P says. After `Off` the kept words stand for it if no transaction
-- was open.
abbrev pub Answers : {T : Type 0} → (T → Type 0) → List (ℕ × ℕ) → Sheet → Result T LookFault → Sheet → Type 0
Answers P es old (Ok x) new = IsTrue new.on × P x × IsIndex new.words es
Answers P es old (Err LookOff) new = (new.on ≡ false) × (old.started ≡ false → IsIndex new.kept es)
Answers P es old (Err Broken) new = ⊥

-- the value of the key
abbrev pub Gets : ℕ → List (ℕ × ℕ) → Sheet → Result (Option ℕ) LookFault → Sheet → Type 0
Gets key es old r new = Answers (λ value. value ≡ assoc key es) es old r new

-- how many pairs there are
abbrev pub Counts : List (ℕ × ℕ) → Sheet → Result ℕ LookFault → Sheet → Type 0
Counts es old r new = Answers (λ n. n ≡ length es) es old r new

-- a pair, or none: which of the pairs, P says
abbrev pub Finds : (Option (ℕ × ℕ) → Type 0) → List (ℕ × ℕ) → Sheet → Result (Option (ℕ × ℕ)) LookFault → Sheet → Type 0
Finds P es old r new = Answers P es old r new

-- n pairs are written over the first of these: the first of the list, or all of it
abbrev pub IsWritten : List (ℕ × ℕ) → List (ℕ × ℕ) → List (ℕ × ℕ) → ℕ → Type 0
IsWritten all was now n = let shown = take (length was) all in (n ≡ length shown) × (now ≡ shown ++ drop n was)

-- The old value of the key, which has the new one from then on. Where power fails it has either.
abbrev pub Inserts : ℕ → ℕ → List (ℕ × ℕ) → Sheet → Result (Option ℕ) TreeFault → Sheet → Type 0
Inserts key value es old (Ok was) new = IsTrue new.on × (was ≡ assoc key es) × (IsFull old.words key es → ⊥) × IsIndex new.words (with_pair key value es)
Inserts key value es old (Err FaultOff) new = (new.on ≡ false) × (IsIndex new.kept es ⊎ IsIndex new.kept (with_pair key value es))
Inserts key value es old (Err Full) new = IsTrue new.on × IsFull old.words key es × IsIndex new.words es
Inserts key value es old (Err Bad) new = IsTrue new.on × Rose old.bads new.bads × (IsFull old.words key es → ⊥) × IsIndex new.words es

-- The old value of the key, which is out of the map from then on. Where power fails it is in or out.
abbrev pub Removes : ℕ → List (ℕ × ℕ) → Sheet → Result (Option ℕ) TreeFault → Sheet → Type 0
Removes key es old (Ok was) new = IsTrue new.on × (was ≡ assoc key es) × IsIndex new.words (without key es)
Removes key es old (Err FaultOff) new = (new.on ≡ false) × (IsIndex new.kept es ⊎ IsIndex new.kept (without key es))
Removes key es old (Err Full) new = ⊥
Removes key es old (Err Bad) new = IsTrue new.on × Rose old.bads new.bads × IsIndex new.words es

-- A change was tried in a transaction, which is open but where power is off.
abbrev pub Tried : Result Unit Trouble → Sheet → Type 0
Tried (Ok done) s = IsTrue s.started
Tried (Err TroubleOff) s = s.on ≡ false
Tried (Err TroubleBad) s = IsTrue s.started

-- how its transaction ends
abbrev pub Ends : Result Unit Trouble → Sheet → Result Unit TreeFault → Sheet → Type 0
Ends done old (Ok u) new = IsTrue new.on × (done ≡ Ok tt) × (new.kept ≡ old.words)
Ends done old (Err FaultOff) new = (new.on ≡ false) × ((new.kept ≡ old.kept) ⊎ ((done ≡ Ok tt) × (new.kept ≡ old.words)))
Ends done old (Err Full) new = ⊥
Ends done old (Err Bad) new = IsTrue new.on × (done ≡ Err TroubleBad) × (new.kept ≡ old.kept)

-- a map and what a change makes of it, in a transaction of its own
abbrev pub Settles : List (ℕ × ℕ) → List (ℕ × ℕ) → Sheet → Result Unit TreeFault → Sheet → Type 0
Settles es after old (Ok u) new = IsTrue new.on × IsIndex new.words after
Settles es after old (Err FaultOff) new = (new.on ≡ false) × (IsIndex new.kept es ⊎ IsIndex new.kept after)
Settles es after old (Err Full) new = ⊥
Settles es after old (Err Bad) new = IsTrue new.on × Rose old.bads new.bads × IsIndex new.words es

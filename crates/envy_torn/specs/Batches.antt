-- A batch of changes that one sync ends: what a crash before that leaves, and in how many different places batches can lie.
use Rattle.std.specs.Prelude.{◌≡◌, ℕ, ◌+◌, ◌*◌, ◌^◌, ◌≤◌, ⊤, List, [], ◌∷◌, length, take}
use Rattle.envy_device.specs.Device.{Torn, Cut as Cuts}
use Rattle.envy_torn.specs.Calls.{written}

-- what is asked of a file between two syncs
pub data Change : Type 0 where
  -- that these bytes be written at this offset
  Write : (at : ℕ) (bytes : List ℕ) → Change
  -- that it be cut to this length
  Cut : (len : ℕ) → Change

abbrev pub changed : Change → List ℕ → List ℕ
changed (Write at bytes) file = written file at bytes
changed (Cut len) file = take len file

-- what a crash may leave of a change: any bytes in the range that was being written, and some length of a cut
abbrev pub Tears : Change → List ℕ → List ℕ → Type 0
Tears (Write at bytes) old new = Torn at (length bytes) old new
Tears (Cut len) old new = Cuts len old new

-- the file behind the sync that ends a batch
abbrev pub synced : List Change → List ℕ → List ℕ
synced [] file = file
synced (change ∷ batch) file = synced batch (changed change file)

-- what a crash before that sync has ended may leave
abbrev pub Crashed : List Change → List ℕ → List ℕ → Type 0
Crashed [] old new = new ≡ old
Crashed (change ∷ batch) old new = (between : List ℕ) × Tears change old between × Crashed batch between new

-- both write as many bytes at one offset, or cut to one length
abbrev pub SamePlace : Change → Change → Type 0
SamePlace (Write at bytes) (Write offset others) = (at ≡ offset) × (length bytes ≡ length others)
SamePlace (Write at bytes) (Cut len) = ⊥
SamePlace (Cut len) (Write offset others) = ⊥
SamePlace (Cut len) (Cut other) = len ≡ other

-- each change of the one lies where that of the other does
abbrev pub SamePlaces : List Change → List Change → Type 0
SamePlaces [] [] = ⊤
SamePlaces [] (other ∷ others) = ⊥
SamePlaces (change ∷ batch) [] = ⊥
SamePlaces (change ∷ batch) (other ∷ others) = SamePlace change other × SamePlaces batch others

-- it begins in the file or at its end, and ends within this many bytes
abbrev pub Within : ℕ → Change → List ℕ → Type 0
Within size (Write at bytes) file = (at ≤ length file) × (at + length bytes ≤ size)
Within size (Cut len) file = (len ≤ length file) × (len ≤ size)

abbrev pub Fits : ℕ → List Change → List ℕ → Type 0
Fits size [] file = ⊤
Fits size (change ∷ batch) file = Within size change file × Fits size batch (changed change file)

-- no fewer than there are: each of so many changes has an offset and a length of 0 to size, or a length alone, or is none
abbrev pub different_places : ℕ → ℕ → ℕ
different_places size changes = (1 + (size + 2) * (size + 1)) ^ changes

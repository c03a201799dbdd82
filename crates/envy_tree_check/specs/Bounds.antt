-- The bounds that a node's keys have by the way to it, said of the words alone.
use Rattle.std.specs.Prelude.{ℕ, zero, suc, ◌+◌, Bool, false, List, [], ◌∷◌, nat_lt, if◌then◌else◌}
use Rattle.envy_btree.specs.Rules.{key_count, kind_at, key_at, slot_at}

-- child j of the node in p has keys from this number on
abbrev pub low_at : List ℕ → ℕ → ℕ → ℕ → ℕ
low_at ws low p zero = low
low_at ws low p (suc j) = key_at ws p j

-- and below this one
abbrev pub high_at : List ℕ → ℕ → ℕ → ℕ → ℕ
high_at ws high p j = if nat_lt j (key_count ws p) then key_at ws p j else high

-- the same of the node at the end of a way
abbrev pub low_by : List ℕ → ℕ → ℕ → List ℕ → ℕ
low_by ws low p [] = low
low_by ws low p (j ∷ js) = low_by ws (low_at ws low p j) (slot_at ws p j) js

abbrev pub high_by : List ℕ → ℕ → ℕ → List ℕ → ℕ
high_by ws high p [] = high
high_by ws high p (j ∷ js) = high_by ws (high_at ws high p j) (slot_at ws p j) js

-- the least that key i of the node in p may be: an inner node has no key at its lower bound
abbrev pub floor_at : List ℕ → ℕ → ℕ → ℕ → ℕ
floor_at ws low p zero = low + kind_at ws p
floor_at ws low p (suc i) = key_at ws p i + 1

-- only the end of the empty way may be the root
abbrev pub is_root : Bool → List ℕ → Bool
is_root root [] = root
is_root root (j ∷ js) = false

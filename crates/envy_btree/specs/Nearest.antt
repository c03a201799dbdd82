-- The pair of a map that is nearest to a number, above it or below.
use Rattle.std.specs.Prelude.{◌≡◌, ℕ, ◌+◌, ◌≤◌, nat_lt, List, [], ◌∷◌, ◌++◌, Option, None, Some, if◌then◌else◌}
use Rattle.std.specs.List.{All}
use Rattle.envy_btree.specs.Pairs.{assoc, Below, Above}

-- The pair is in the map, its key is at least this one, and each other key from this one on is greater. None: all
-- keys of the map are less.
abbrev pub IsLeastFrom : ℕ → List (ℕ × ℕ) → Option (ℕ × ℕ) → Type 0
IsLeastFrom key es None = Below key es
IsLeastFrom key es (Some e) = (assoc e.0 es ≡ Some e.1) × (key ≤ e.0) × All (λ x. key ≤ x.0 → e.0 ≤ x.0) es

-- The pair is in the map, its key is at most this one, and each other key up to this one is less. None: all keys of
-- the map are greater.
abbrev pub IsGreatestTo : ℕ → List (ℕ × ℕ) → Option (ℕ × ℕ) → Type 0
IsGreatestTo key es None = Above key es
IsGreatestTo key es (Some e) = (assoc e.0 es ≡ Some e.1) × (e.0 ≤ key) × All (λ x. x.0 ≤ key → x.0 ≤ e.0) es

-- What a loop sees that asks for the least pair from a key on, and then each time for the least above the key that
-- it saw, until there is none.
abbrev pub Scans : ℕ → List (ℕ × ℕ) → List (ℕ × ℕ) → Type 0
Scans key es [] = IsLeastFrom key es None
Scans key es (e ∷ seen) = IsLeastFrom key es (Some e) × Scans (e.0 + 1) es seen

-- all keys are at least this one
abbrev pub From : ℕ → List (ℕ × ℕ) → Type 0
From key es = All (λ e. key ≤ e.0) es

-- the pairs from a key on, of a list by rising key
abbrev pub pairs_from : ℕ → List (ℕ × ℕ) → List (ℕ × ℕ)
pairs_from key [] = []
pairs_from key (e ∷ es) = if nat_lt e.0 key then pairs_from key es else e ∷ es

-- the pairs up to a key, by falling key, of a list by rising key
abbrev pub pairs_to : ℕ → List (ℕ × ℕ) → List (ℕ × ℕ)
pairs_to key [] = []
pairs_to key (e ∷ es) = if nat_lt key e.0 then [] else pairs_to key es ++ e ∷ []

-- the first pair from a key on, of a list by rising key
abbrev pub first_from : ℕ → List (ℕ × ℕ) → Option (ℕ × ℕ)
first_from key [] = None
first_from key (e ∷ es) = if nat_lt e.0 key then first_from key es else Some e

abbrev pub or_pair : ℕ × ℕ → Option (ℕ × ℕ) → Option (ℕ × ℕ)
or_pair e None = Some e
or_pair e (Some later) = Some later

-- the last pair up to a key, of a list by rising key
abbrev pub last_to : ℕ → List (ℕ × ℕ) → Option (ℕ × ℕ)
last_to key [] = None
last_to key (e ∷ es) = if nat_lt key e.0 then None else or_pair e (last_to key es)

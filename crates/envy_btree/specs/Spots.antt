-- Nodes that are read and changed where they stand.
use Rattle.std.specs.Prelude.{◌≡◌, ◌≢◌, ◌⊎◌, ℕ, ◌+◌, ◌-◌, ◌<◌, ◌≤◌, ◌==◌, ◌/◌, ◌%◌, Bool, true, false, List, length, slice_index, Option, None, Some}
use Rattle.envy_heap.specs.Pieces.{head, at}
use Rattle.envy_btree.specs.Tree.{window}
use Rattle.envy_btree.specs.Nodes.{Ranks}

-- n words from a on rise
pub record Climbs (ws : List ℕ) (a n : ℕ) : Type 0 where
  pub rise : (i j : ℕ) → i ≤ j → j < n → slice_index ws (a + i) ≤ slice_index ws (a + j)

-- the keys of the node in a piece, and its values or children
abbrev pub keys_at : List ℕ → ℕ → List ℕ
keys_at ws p = window ws (at p 1) (slice_index ws (head p) / 2)

abbrev pub slots_at : List ℕ → ℕ → List ℕ
slots_at ws p = window ws (at p 32) (slice_index ws (head p) / 2 + slice_index ws (head p) % 2)

-- the node in a piece is of this kind and has n keys, i of them at most the key
pub record IsSpot (ws : List ℕ) (p key : ℕ) (inner : Bool) (n i : ℕ) : Type 0 where
  pub kind : inner ≡ (slice_index ws (head p) % 2 == 1)
  pub keys : n ≡ slice_index ws (head p) / 2
  pub rank : Ranks key (keys_at ws p) i

-- whether the last of the first i keys is this one
abbrev pub EndsAt : List ℕ → ℕ → ℕ → Bool → Type 0
EndsAt ks i key true = (1 ≤ i) × (slice_index ks (i - 1) ≡ key)
EndsAt ks i key false = (i ≡ 0) ⊎ (slice_index ks (i - 1) ≢ key)

-- the value of the last of the first i keys, where it is this one
abbrev pub ValueAt : List ℕ → List ℕ → ℕ → ℕ → Option ℕ → Type 0
ValueAt ks ss i key None = EndsAt ks i key false
ValueAt ks ss i key (Some value) = EndsAt ks i key true × (value ≡ slice_index ss (i - 1))

-- of n words from a on, those from place i on stand one further, and the word at i
pub record Opens (old new : List ℕ) (a n i word : ℕ) : Type 0 where
  pub long : length new ≡ length old
  pub here : slice_index new (a + i) ≡ word
  pub rear : (j : ℕ) → i ≤ j → j < n → slice_index new (a + (j + 1)) ≡ slice_index old (a + j)
  pub before : (x : ℕ) → x < a + i → slice_index new x ≡ slice_index old x
  pub after : (x : ℕ) → a + n < x → slice_index new x ≡ slice_index old x

-- of n words from a on, those after place i stand one nearer
pub record Closes (old new : List ℕ) (a n i : ℕ) : Type 0 where
  pub long : length new ≡ length old
  pub rear : (j : ℕ) → i ≤ j → j + 1 < n → slice_index new (a + j) ≡ slice_index old (a + (j + 1))
  pub before : (x : ℕ) → x < a + i → slice_index new x ≡ slice_index old x
  pub after : (x : ℕ) → a + n ≤ x + 1 → slice_index new x ≡ slice_index old x

-- The place with the highest score among several, and the lowest and the highest place with a score.
use Rattle.std.specs.Prelude.{◌≡◌, ◌≢◌, ℕ, ◌+◌, ◌*◌, ◌/◌, ◌^◌, ◌<◌, ◌≤◌, nat_lt, min, List, length, map, drop, Option, None, Some, slice_index_or, slice_set, if◌then◌else◌}
use Rattle.envy_space.specs.declared.nodes.Entry.{Entry}

-- from first to last, place k has the highest score, which isn't 0, and is the lowest of those with as much
pub record IsWinner (score : ℕ → ℕ) (first last k : ℕ) : Type 0 where
  pub above : first ≤ k
  pub below : k ≤ last
  pub some : 0 < score k
  pub most : (j : ℕ) → first ≤ j → j ≤ last → score j ≤ score k
  pub lowest : (j : ℕ) → first ≤ j → j < k → score j < score k

-- the winner from first to last, where some place there has a score
abbrev pub Wins : (ℕ → ℕ) → ℕ → ℕ → Option ℕ → Type 0
Wins score first last (Some k) = IsWinner score first last k
Wins score first last None = (j : ℕ) → first ≤ j → j ≤ last → score j ≡ 0

-- from first to below end, place k is the lowest with a score other than 0
pub record IsLowest (score : ℕ → ℕ) (first end k : ℕ) : Type 0 where
  pub above : first ≤ k
  pub below : k < end
  pub some : 0 < score k
  pub none : (j : ℕ) → first ≤ j → j < k → score j ≡ 0

-- from first to below end, place k is the highest with a score other than 0
pub record IsHighest (score : ℕ → ℕ) (first end k : ℕ) : Type 0 where
  pub above : first ≤ k
  pub below : k < end
  pub some : 0 < score k
  pub none : (j : ℕ) → k < j → j < end → score j ≡ 0

-- the lowest place from first to below end with a score, where some place there has one
abbrev pub Lowest : (ℕ → ℕ) → ℕ → ℕ → Option ℕ → Type 0
Lowest score first end (Some k) = IsLowest score first end k
Lowest score first end None = (j : ℕ) → first ≤ j → j < end → score j ≡ 0

-- and the highest
abbrev pub Highest : (ℕ → ℕ) → ℕ → ℕ → Option ℕ → Type 0
Highest score first end (Some k) = IsHighest score first end k
Highest score first end None = (j : ℕ) → first ≤ j → j < end → score j ≡ 0

-- 1 where there are rows, and 0 where there is none
abbrev pub flag : ℕ → ℕ
flag rows = min rows 1

abbrev pub nobody : Entry
nobody = record { place = 0; score = 0 }

-- The entry has the highest score from first to below end, and its place is the lowest of those with as
-- much. Where each score is 0, its score is 0 and its place anything.
pub record IsRun (score : ℕ → ℕ) (first end : ℕ) (e : Entry) : Type 0 where
  pub most : (k : ℕ) → first ≤ k → k < end → score k ≤ e.score
  pub above : 0 < e.score → first ≤ e.place
  pub below : 0 < e.score → e.place < end
  pub has : 0 < e.score → score e.place ≡ e.score
  pub lowest : 0 < e.score → (k : ℕ) → first ≤ k → k < e.place → score k < e.score

-- the second of two entries only where its score is higher
abbrev pub better : Entry → Entry → Entry
better a b = if nat_lt a.score b.score then b else a

abbrev pub node : List Entry → ℕ → Entry
node nodes i = slice_index_or nodes i nobody

-- the score of place k, of n
abbrev pub score_in : ℕ → List Entry → ℕ → ℕ
score_in n nodes k = (node nodes (n + k)).score

-- the entry of node i is the better of those of the two nodes below it
abbrev pub IsRight : List Entry → ℕ → Type 0
IsRight nodes i = node nodes i ≡ better (node nodes (2 * i)) (node nodes (2 * i + 1))

-- the scores of n places, which are the nodes from n on
abbrev pub scores_of : ℕ → List Entry → List ℕ
scores_of n nodes = map (λ (e : Entry). e.score) (drop n nodes)

-- The nodes of n places. Node i stands over the nodes 2 * i and 2 * i + 1.
pub record AreNodes (n : ℕ) (nodes : List Entry) : Type 0 where
  pub some : 1 ≤ n
  pub few : n < 2 ^ 31
  pub long : length nodes ≡ 2 * n
  pub places : (k : ℕ) → k < n → (node nodes (n + k)).place ≡ k

pub record IsTree (n : ℕ) (nodes : List Entry) : Type 0 where
  pub are : AreNodes n nodes
  pub right : (i : ℕ) → 1 ≤ i → i < n → IsRight nodes i

-- The entry of node k has risen, and the node above it, which was the better of the two, is as before: it has no lower
-- score than the node beside k, and is that one where it has a higher score than node k.
pub record HasRisen (nodes : List Entry) (k : ℕ) : Type 0 where
  pub least : (b : ℕ) → b / 2 ≡ k / 2 → b ≢ k → (node nodes b).score ≤ (node nodes (k / 2)).score
  pub beside : (b : ℕ) → b / 2 ≡ k / 2 → b ≢ k → (node nodes k).score < (node nodes (k / 2)).score → node nodes (k / 2) ≡ node nodes b

-- the scores, where the last that was written isn't in the nodes yet
abbrev pub late_scores : ℕ → List Entry → Entry → List ℕ
late_scores n nodes late = slice_set (scores_of n nodes) late.place late.score

pub record IsLate (n : ℕ) (nodes : List Entry) (late : Entry) : Type 0 where
  pub tree : IsTree n nodes
  pub within : late.place < n

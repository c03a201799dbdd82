-- Which rows a partition has, by its bounds; the nearest partition; the next in turn.
use Rattle.std.proofs.Common.{◌≡◌, ◌∙◌, ◌↔◌, inl, inr, Bool, false, IsTrue, ℕ, ◌+◌, ◌-◌, ◌*◌, ◌<◌, ◌≤◌, List, length, slice_index, Option, None, Some, MatchOption, subst, sym, refl, arith}
use Rattle.std.proofs.lemmas.List.{get_or_past}
use Rattle.std.specs.Option.{option_or}
use Rattle.std.proofs.lemmas.Bool.{cases_lt, false≢true, lt-ltb, le-ltb}
use Rattle.envy_policy.specs.Choice.{IsLeast, IsMost, IsNearest, HasRows, IsUsable, distance, steps}
use Rattle.envy_policy.specs.History.{History, IsHistory, run, partition_of, first_of, end_of}
use Rattle.envy_policy.proofs.Partitions.{run-holds, run-is, counted}

-- the lowest place from first to below end with a number other than 0
abbrev pub FirstWith : List ℕ → ℕ → ℕ → Option ℕ → Type 0
FirstWith rows first end found = MatchOption found
    ((k : ℕ) → first ≤ k → k < end → slice_index rows k ≡ 0)
    (λ p. (first ≤ p) × (p < end) × (0 < slice_index rows p) × ((k : ℕ) → first ≤ k → k < p → slice_index rows k ≡ 0))

-- the lowest position of the partition that has rows
abbrev pub FirstIn : History → List ℕ → ℕ → Option ℕ → Type 0
FirstIn h rows g found = MatchOption found ((k : ℕ) → HasRows h rows g k → ⊥) (IsLeast (HasRows h rows g) (λ k. k))

-- a partition's positions begin at its first,
pub within-first : (h : History) (g k : ℕ) → IsHistory h → partition_of h k ≡ g → first_of h g ≤ k
within-first h g k whole is = subst (λ (x : ℕ). x * run h ≤ k) is (run-holds (run h) k whole.part).0

-- end before its end,
pub within-end : (h : History) (g k : ℕ) → IsHistory h → k < h.positions → partition_of h k ≡ g → k < end_of h g
within-end h g k whole below is =
    let high : k < g * run h + run h = subst (λ (x : ℕ). k < x * run h + run h) is (run-holds (run h) k whole.part).1 in
    omega arith

-- and are all between
pub within-is : (h : History) (g k : ℕ) → IsHistory h → first_of h g ≤ k → k < end_of h g → partition_of h k ≡ g
within-is h g k whole low high = run-is (run h) g k whole.part low (omega arith)

-- what has rows is a position
pub rows-below : (rows : List ℕ) (n k : ℕ) → length rows ≡ n → 0 < slice_index rows k → k < n
rows-below rows n k long some = elim (cases_lt k n) [
  | inl below ↦ below
  | inr above ↦ let past : slice_index rows k ≡ 0 = get_or_past rows k 0 (omega arith) in absurd (omega arith)
]

-- the lowest position with a row in a partition
pub first-in : (h : History) (rows : List ℕ) (g first end : ℕ) (found : Option ℕ) → IsHistory h → length rows ≡ h.positions → first ≡ first_of h g → end ≡ end_of h g → FirstWith rows first end found → FirstIn h rows g found
first-in h rows g first end None whole long low high nothing = λ k has.
    let below = rows-below rows h.positions k long has.1 in
    let low_k = within-first h g k whole has.0 in
    let high_k = within-end h g k whole below has.0 in
    let no : slice_index rows k ≡ 0 = nothing k (omega arith) (omega arith) in
    absurd (omega arith)
first-in h rows g first end (Some p) whole long low high found = record {
  holds = (within-is h g p whole (omega arith) (omega arith), found.2);
  least = λ y has. lowest y has;
  lowest = λ y has e. lowest y has;
} where
  lowest : (y : ℕ) → HasRows h rows g y → p ≤ y
  lowest y has = elim (cases_lt y p) [
    | inl below ↦ let low_y = within-first h g y whole has.0 in let no : slice_index rows y ≡ 0 = found.3 y (omega arith) below in absurd (omega arith)
    | inr above ↦ above
  ]

-- a usable partition is counted
pub usable-counted : (h : History) (free dead : List ℕ) (g : ℕ) → IsHistory h → length free ≡ h.positions → length dead ≡ h.positions → IsUsable h free dead g → g < length h.heats
usable-counted h free dead g whole long_free long_dead (k, inl has) =
    let in_count = counted h.positions (run h) k whole.part (rows-below free h.positions k long_free has.1) in
    omega (arith, whole.heats, has.0)
usable-counted h free dead g whole long_free long_dead (k, inr has) =
    let in_count = counted h.positions (run h) k whole.part (rows-below dead h.positions k long_dead has.1) in
    omega (arith, whole.heats, has.0)

-- some partition is usable where some position has a row
pub some-usable : (h : History) (free dead : List ℕ) (k : ℕ) → 0 < slice_index free k + slice_index dead k → IsUsable h free dead (partition_of h k)
some-usable h free dead k some = elim (cases_lt 0 (slice_index free k)) [
  | inl has ↦ (k, inl (refl, has))
  | inr none ↦ (k, inr (refl, omega arith))
]

-- the nearest usable partition lies below
pub nearest-below : (h : History) (free dead : List ℕ) (home own away g : ℕ) → own ≡ partition_of h home → away ≤ own → g ≡ own - away → IsUsable h free dead g → ((y : ℕ) → IsUsable h free dead y → away ≤ distance own y) → IsNearest h free dead home g
nearest-below h free dead home own away g is low at usable further = record {
  holds = usable;
  least = λ y other. let far = further y other in omega arith;
  lowest = λ y other e. omega arith;
}

-- or above
pub nearest-above : (h : History) (free dead : List ℕ) (home own away g : ℕ) → own ≡ partition_of h home → g ≡ own + away → IsUsable h free dead g → ((y : ℕ) → IsUsable h free dead y → away ≤ distance own y) → (away ≤ own → IsUsable h free dead (own - away) → ⊥) → IsNearest h free dead home g
nearest-above h free dead home own away g is at usable further lower = record {
  holds = usable;
  least = λ y other. let far = further y other in omega arith;
  lowest = λ y other e. elim (cases_lt y g) [
    | inl below ↦ absurd (lower (omega arith) (let same : y ≡ own - away = omega arith in subst (λ (x : ℕ). IsUsable h free dead x) same other))
    | inr above ↦ above
  ];
}

-- where neither partition at this distance is usable, the usable ones are further away
pub further : (h : History) (free dead : List ℕ) (own away : ℕ) → ((y : ℕ) → IsUsable h free dead y → away ≤ distance own y) → (away ≤ own → IsUsable h free dead (own - away) → ⊥) → (IsUsable h free dead (own + away) → ⊥) → (y : ℕ) → IsUsable h free dead y → away + 1 ≤ distance own y
further h free dead own away far lower upper y usable = let at_least = far y usable in elim (cases_lt away (distance own y)) [
  | inl more ↦ omega arith
  | inr same ↦ elim (cases_lt y own) [
    | inl below ↦ absurd (lower (omega arith) (let is : y ≡ own - away = omega arith in subst (λ (x : ℕ). IsUsable h free dead x) is usable))
    | inr above ↦ absurd (upper (let is : y ≡ own + away = omega arith in subst (λ (x : ℕ). IsUsable h free dead x) is usable))
  ]
]

-- some position has a row, so some partition is nearer than their number
pub none-left : (h : History) (free dead : List ℕ) (own away : ℕ) → IsHistory h → length free ≡ h.positions → length dead ≡ h.positions → own < length h.heats → length h.heats ≤ away → ((y : ℕ) → IsUsable h free dead y → away ≤ distance own y) → (k : ℕ) × (0 < slice_index free k + slice_index dead k) → ⊥
none-left h free dead own away whole long_free long_dead counted_own all_seen far (k, some) =
    let usable = some-usable h free dead k some in
    let counted_k = usable-counted h free dead (partition_of h k) whole long_free long_dead usable in
    let at_least = far (partition_of h k) usable in
    absurd (omega arith)

-- what is answered not to hold doesn't,
pub answered-no : (r : Bool) (P : Type 0) → IsTrue r ↔ P → r ≡ false → P → ⊥
answered-no r P tells is_false holds = false≢true (sym is_false ∙ tells.1 holds)

-- none lies below the first partition,
pub none-lower : (own away : ℕ) → own < away → away ≤ own → ⊥
none-lower own away far near = omega (arith, far, near)

-- nor beyond the last
pub none-higher : (h : History) (free dead : List ℕ) (own away count : ℕ) → IsHistory h → length free ≡ h.positions → length dead ≡ h.positions → count ≡ length h.heats → count ≤ own + away → IsUsable h free dead (own + away) → ⊥
none-higher h free dead own away count whole long_free long_dead is far usable =
    let in_count = usable-counted h free dead (own + away) whole long_free long_dead usable in
    absurd (omega (arith, is, far, in_count))

-- of two numbers of steps, the first is the fewer, or as few at a lower position
abbrev Before : History → ℕ → ℕ → ℕ → Type 0
Before h g p y = (steps h g p ≤ steps h g y) × (steps h g y ≡ steps h g p → p ≤ y)

steps-ahead : (h : History) (g k : ℕ) → slice_index h.turns g < k → steps h g k ≡ k - slice_index h.turns g
steps-ahead h g k ahead = rw (lt-ltb _ _ ahead)

steps-round : (h : History) (g k : ℕ) → k ≤ slice_index h.turns g → steps h g k ≡ k + (end_of h g - first_of h g) - slice_index h.turns g
steps-round h g k behind = rw (le-ltb _ _ behind)

-- the lowest of those with rows behind the turn is the next in turn
ahead-before : (h : History) (dead : List ℕ) (g p y : ℕ) → IsHistory h → length dead ≡ h.positions → slice_index h.turns g < p → p < end_of h g → ((k : ℕ) → slice_index h.turns g + 1 ≤ k → k < p → slice_index dead k ≡ 0) → HasRows h dead g y → Before h g p y
ahead-before h dead g p y whole long ahead_p inside_p none has = elim (cases_lt (slice_index h.turns g) y) [
  | inl ahead ↦
      let at_p = steps-ahead h g p ahead_p in
      let at_y = steps-ahead h g y ahead in
      let lowest : p ≤ y = elim (cases_lt y p) [ inl lower ↦ let zero_y = none y (omega arith) lower in absurd (omega (arith, has.1)) | inr least ↦ least ] in
      (omega (arith, at_p, at_y), λ e. lowest)
  | inr behind ↦
      let at_p = steps-ahead h g p ahead_p in
      let at_y = steps-round h g y behind in
      let low = within-first h g y whole has.0 in
      (omega (arith, at_p, at_y), λ e. absurd (omega (arith, at_p, at_y)))
]

-- where none behind the turn has rows, it is the lowest of the others
round-before : (h : History) (dead : List ℕ) (g p y : ℕ) → IsHistory h → length dead ≡ h.positions → p ≤ slice_index h.turns g → ((k : ℕ) → slice_index h.turns g + 1 ≤ k → k < end_of h g → slice_index dead k ≡ 0) → ((k : ℕ) → first_of h g ≤ k → k < p → slice_index dead k ≡ 0) → HasRows h dead g y → Before h g p y
round-before h dead g p y whole long behind_p none_ahead none has = elim (cases_lt (slice_index h.turns g) y) [
  | inl ahead ↦
      let inside_y = within-end h g y whole (rows-below dead h.positions y long has.1) has.0 in
      let zero_y = none_ahead y (omega arith) inside_y in
      absurd (omega (arith, has.1))
  | inr behind ↦
      let at_p = steps-round h g p behind_p in
      let at_y = steps-round h g y behind in
      let low = within-first h g y whole has.0 in
      let lowest : p ≤ y = elim (cases_lt y p) [ inl lower ↦ let zero_y = none y low lower in absurd (omega (arith, has.1)) | inr least ↦ least ] in
      (omega (arith, at_p, at_y), λ e. lowest)
]

-- the first behind the turn up to the end, or else the first from the beginning up to the turn
pub next-in-turn : (h : History) (dead : List ℕ) (g first end turn : ℕ) (after before : Option ℕ) → IsHistory h → g < length h.turns → length dead ≡ h.positions → first ≡ first_of h g → end ≡ end_of h g → turn ≡ slice_index h.turns g → FirstWith dead (turn + 1) end after → FirstWith dead first (turn + 1) before → MatchOption (option_or after before) ((k : ℕ) → HasRows h dead g k → ⊥) (IsLeast (HasRows h dead g) (steps h g))
next-in-turn h dead g first end turn (Some p) before whole in_count long low high at found other =
    let low_turn = within-first h g (slice_index h.turns g) whole (whole.within g in_count) in
    let step = λ (y : ℕ) (has : HasRows h dead g y). ahead-before h dead g p y whole long (omega arith) (omega arith) (λ k low_k high_k. found.3 k (omega arith) high_k) has in
    record {
      holds = (within-is h g p whole (omega arith) (omega arith), found.2);
      least = λ y has. (step y has).0;
      lowest = λ y has e. (step y has).1 e;
    }
next-in-turn h dead g first end turn None (Some p) whole in_count long low high at nothing found =
    let high_turn = within-end h g (slice_index h.turns g) whole (whole.inside g in_count) (whole.within g in_count) in
    let step = λ (y : ℕ) (has : HasRows h dead g y). round-before h dead g p y whole long (omega arith) (λ k low_k high_k. nothing k (omega arith) (omega arith)) (λ k low_k high_k. found.3 k (omega arith) high_k) has in
    record {
      holds = (within-is h g p whole (omega arith) (omega arith), found.2);
      least = λ y has. (step y has).0;
      lowest = λ y has e. (step y has).1 e;
    }
next-in-turn h dead g first end turn None None whole in_count long low high at nothing none = λ k has.
    let low_k = within-first h g k whole has.0 in
    let high_k = within-end h g k whole (rows-below dead h.positions k long has.1) has.0 in
    elim (cases_lt turn k) [
      | inl ahead ↦ let zero_k = nothing k (omega arith) (omega arith) in absurd (omega (arith, has.1))
      | inr behind ↦ let zero_k = none k (omega arith) (omega arith) in absurd (omega (arith, has.1))
    ]

-- the most of the positions between a partition's bounds
pub most-in : (h : History) (dead : List ℕ) (g p first end : ℕ) → IsHistory h → length dead ≡ h.positions → first ≡ first_of h g → end ≡ end_of h g → (k : ℕ) × HasRows h dead g k → IsMost (λ k. (first ≤ k) × (k < end)) (slice_index dead) p → IsMost (HasRows h dead g) (slice_index dead) p
most-in h dead g p first end whole long low high (k, has) is =
    let inside = range k has in
    let more = is.most k inside in
    let own = is.holds in
    record {
      holds = (within-is h g p whole (omega (arith, low, own.0)) (omega (arith, high, own.1)), omega (arith, has.1, more));
      most = λ y other. is.most y (range y other);
      lowest = λ y other e. is.lowest y (range y other) e;
    }
  where
    range : (y : ℕ) → HasRows h dead g y → (first ≤ y) × (y < end)
    range y other =
        let from = within-first h g y whole other.0 in
        let to = within-end h g y whole (rows-below dead h.positions y long other.1) other.0 in
        (omega (arith, low, from), omega (arith, high, to))

-- Pairs of a map in an array of C's.
use Rattle.std.specs.Prelude.{ℕ, ◌+◌, ◌-◌, ◌^◌, ◌<◌, ◌≤◌, List, map, Option, None, Some}
use Rattle.std.specs.Option.{SomeIff}
use Rattle.envy_btree.specs.declared.way.Way.{Way}
use Rattle.envy_btree.specs.declared.way.Way.TheVariants.{Up, Down}
use Rattle.envy_index_calls.specs.declared.pairs.EnvyPair.{EnvyPair}

-- a pair of C's, and an array of them
abbrev pub pair_in : EnvyPair → ℕ × ℕ
pair_in pair = (pair.key, pair.value)

abbrev pub pairs_in : List EnvyPair → List (ℕ × ℕ)
pairs_in pairs = map pair_in pairs

-- the key next to a key on a way, if there is one
abbrev pub IsAfter : Way → ℕ → Option ℕ → Type 0
IsAfter Up key next = SomeIff next (key + 1 < 2 ^ 64) (key + 1)
IsAfter Down key next = SomeIff next (1 ≤ key) (key - 1)

-- what a scan has to do that goes on, with room for so many pairs
abbrev pub left_to : Option ℕ → ℕ → ℕ
left_to None room = 0
left_to (Some key) room = room + 1

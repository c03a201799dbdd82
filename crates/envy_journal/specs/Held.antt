-- How much a log holds back.
use Rattle.std.specs.Prelude.{ℕ, ◌^◌}

-- the length of its buffer at most
abbrev pub most_held : ℕ
most_held = 2 ^ 20

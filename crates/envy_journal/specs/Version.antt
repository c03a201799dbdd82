-- The versions of a journal's format.
use Rattle.std.specs.Prelude.{ℕ, ◌==◌, Bool, true, if◌then◌else◌, List, ◌∷◌, codes}

-- a journal that is made begins with a 1, and then its name
abbrev pub mark : List ℕ
mark = 1 ∷ codes "eNVyJNL"

-- the version of the format: the second has counted batches, and the fourth runs of puts
abbrev pub version : ℕ
version = 4

-- the version before it, which has no runs
abbrev pub older_version : ℕ
older_version = 2

-- a version that is known here
abbrev pub is_known : ℕ → Bool
is_known v = if v == older_version then true else v == version

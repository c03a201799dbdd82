-- What the program says at the end of a kept memory's trace.
use Rattle.std.specs.Prelude.{ℕ, ◌==◌, if◌then◌else◌, List, [], ◌++◌, codes, decimal}
use Rattle.envy_run.specs.Texts.{end_bytes}

-- why a file is refused
unfoldable pub journal_bytes : ℕ → ℕ → List ℕ
journal_bytes why place =
    if why == 6 then codes "envy: no journal"
    else (if why == 7 then codes "envy: a journal of another version"
    else (if why == 8 then codes "envy: the journal has other sizes"
    else (if why == 9 then codes "envy: the options break a rule with the journal"
    else (if why == 10 then codes "envy: the journal is damaged at byte " ++ decimal place else []))))

-- why a file wasn't opened
unfoldable pub unopened_bytes : ℕ → List ℕ
unopened_bytes why =
    if why == 1 then codes "envy: the journal can't be read"
    else (if why == 2 then codes "envy: the journal is in use"
    else (if why == 3 then codes "envy: no file can be made beside the journal" else []))

-- what is said of each pair of numbers
unfoldable pub keep_end_bytes : ℕ → ℕ → ℕ → ℕ → List ℕ
keep_end_bytes status why lines place =
    if status == 6 then codes "envy: the journal failed after " ++ decimal lines ++ codes " lines"
    else (if status == 10 then journal_bytes why place
    else (if status == 11 then unopened_bytes why
    else end_bytes status why lines))

-- What the counters of a memory come to, and the line that shows them.
use Rattle.std.specs.Prelude.{ℕ, ◌+◌, ◌*◌, ◌/◌, ◌==◌, if◌then◌else◌, List, ◌++◌, codes, decimal}
use Rattle.envy_array.specs.declared.counts.Counts.{Counts}

-- the cost of cleaning, in hundredths: pages that cleaning wrote for each page flushed
abbrev pub cost_of : Counts → ℕ
cost_of c = if c.flushes == 0 then 0 else 100 * (c.copies + c.moves) / c.flushes

-- the line `stat`, without a newline
unfoldable pub stat_bytes : Counts → List ℕ
stat_bytes c =
    codes "stat hits " ++ decimal c.hits
    ++ codes " misses " ++ decimal c.misses
    ++ codes " flushes " ++ decimal c.flushes
    ++ codes " copies " ++ decimal c.copies
    ++ codes " moves " ++ decimal c.moves
    ++ codes " erases " ++ decimal c.erases
    ++ codes " swaps " ++ decimal c.swaps
    ++ codes " cost " ++ decimal (cost_of c)

-- Generated traces: which lines they have, and their bytes.
use Rattle.std.specs.Prelude.{ℕ, zero, suc, ◌+◌, ◌-◌, ◌*◌, ◌/◌, ◌%◌, ◌^◌, ◌≤◌, ◌==◌, ◌||◌, max, nat_lt, if◌then◌else◌, List, [], ◌∷◌, map, Option, None, Some, IfSome}
use Rattle.rand_core.specs.Pcg32Seed.{pcg32_seed}
use Rattle.rand_core.specs.Steps.{stream_of, steps_u64_low}
use Rattle.rand_core.specs.Stream.{Stream, next_u64}
use Rattle.rand_pcg.specs.Pcg.{pcg64, pcg64_of_seed}
use Rattle.envy_io.specs.Lines.{spelled}
use Rattle.envy_trace.specs.declared.line.Line.{Line}
use Rattle.envy_trace.specs.declared.line.Line.TheVariants.{Load, Store, Begin, Put, Commit, Abort, Tick}
use Rattle.envy_trace.specs.Spelling.{line_bytes}
use Rattle.envy_gen.specs.declared.mix.Mix.{Mix}
use Rattle.envy_gen.specs.declared.mix.Skew.{Skew}
use Rattle.envy_base.specs.declared.page.TheConstants.{PAGE_WORDS}
use Rattle.envy_base.specs.declared.shape.TheConstants.{MOST_ROWS}

-- all that the generator PCG64 (XSL RR 128/64) will answer whose seed of 32 bytes is expanded from `start`
unfoldable pub answers_of : ℕ → Stream
answers_of start = stream_of (steps_u64_low pcg64) (pcg64_of_seed (pcg32_seed 32 start))

abbrev pub IsPerCent : ℕ → Type 0
IsPerCent n = (1 ≤ n) × (n ≤ 99)

-- what lines can be drawn by
pub record IsMix (mix : Mix) : Type 0 where
  pub some : 1 ≤ mix.pages
  pub few : mix.pages ≤ MOST_ROWS
  pub hot : IfSome mix.skew (λ skew. IsPerCent skew.hot)
  pub share : IfSome mix.skew (λ skew. IsPerCent skew.share)
  pub stores : IfSome mix.stores IsPerCent

-- so many per cent of the pages are hot, but one at least: the lowest
abbrev pub hot_pages : ℕ → Skew → ℕ
hot_pages pages skew = max 1 (pages * skew.hot / 100)

-- An address in an array of so many pages of 32 words. Where there is a skew, an access goes to a hot page by its
-- share, or if no page is cold, and else to a cold one.
abbrev pub address_in : ℕ → ℕ → Option Skew → ℕ
address_in y pages None = y % (PAGE_WORDS * pages)
address_in y pages (Some skew) =
    let hot = hot_pages pages skew in
    if pages - hot == 0 || nat_lt (y / 2 ^ 34 % 100) skew.share then y % (PAGE_WORDS * hot)
    else PAGE_WORDS * hot + y % (PAGE_WORDS * (pages - hot))

abbrev pub address_of : ℕ → Mix → ℕ
address_of y mix = address_in y mix.pages mix.skew

-- one of four slots
abbrev pub slot_of : ℕ → ℕ
slot_of y = y / 2 ^ 32 % 4

-- Of sixteen draws six are loads, four are stores and two are puts, and each other kind is one.
abbrev pub of_each_kind : ℕ → ℕ → ℕ → ℕ → Line
of_each_kind x slot address z =
    if nat_lt (x % 16) 6 then Load address
    else if nat_lt (x % 16) 10 then Store address z
    else if nat_lt (x % 16) 12 then Put slot address z
    else if x % 16 == 12 then Begin
    else if x % 16 == 13 then Commit slot
    else if x % 16 == 14 then Abort slot
    else Tick

-- Where the share of stores is given, so many of a hundred draws are stores, and the others are loads.
abbrev pub drawn_by : Option ℕ → ℕ → ℕ → ℕ → ℕ → Line
drawn_by None x slot address z = of_each_kind x slot address z
drawn_by (Some stores) x slot address z = if nat_lt (x % 100) stores then Store address z else Load address

unfoldable pub drawn : ℕ → ℕ → ℕ → Mix → Line
drawn x y z mix = drawn_by mix.stores x (slot_of y) (address_of y mix) z

-- the line that the next three words draw, and what will be answered after them
unfoldable pub next_line : Mix → Stream → Line × Stream
next_line mix words =
    let (x, after_x) = next_u64 words in
    let (y, after_y) = next_u64 after_x in
    let (z, after_z) = next_u64 after_y in
    (drawn x y z mix, after_z)

-- the next n lines
unfoldable pub next_lines : Mix → ℕ → Stream → List Line
next_lines mix zero words = []
next_lines mix (suc n) words = (next_line mix words).0 ∷ next_lines mix n (next_line mix words).1

-- the lines of a generated trace
abbrev pub generated : ℕ → ℕ → Mix → List Line
generated start lines mix = next_lines mix lines (answers_of start)

-- its bytes: each line as it is written, and a newline
abbrev pub trace_bytes : ℕ → ℕ → Mix → List ℕ
trace_bytes start lines mix = spelled (map line_bytes (generated start lines mix))

-- A snapshot: a journal of what a board holds, and of no more.
use Rattle.std.specs.Prelude.{◌≡◌, ℕ, ◌+◌, ◌*◌, ◌^◌, ◌<◌, ◌≤◌, max, Bool, true, false, Result, Ok, Err, List, ◌++◌, length, take, drop}
use Rattle.envy_base.specs.Map.{words_of}
use Rattle.envy_base.specs.State.{State}
use Rattle.envy_base.specs.declared.shape.Shape.{Shape}
use Rattle.envy_device.specs.Device.{LeavesOnly}
use Rattle.envy_journal.specs.declared.log.Log.{Log}
use Rattle.envy_journal.specs.Content.{Content, blank, holds}
use Rattle.envy_journal.specs.Head.{head_bytes}
use Rattle.envy_journal.specs.Log.{Begins, batch_more, size_of, step}
use Rattle.envy_journal.specs.Reading.{operations, Leads}
use Rattle.envy_journal.specs.Version.{version}

-- so many bytes a snapshot takes at most: a head and a gate, a put of each word, a program of each row, a mark and a gate
abbrev pub most_of : Shape → ℕ
most_of sh = 36 + 13 * words_of sh + 261 * (sh.segments * sh.rows)

-- a log that would be longer is compacted by a sync: 1 MiB, or two snapshots
abbrev pub limit_of : Shape → ℕ
limit_of sh = max (2 ^ 20) (2 * most_of sh)

-- how long a sync leaves the file at most: the limit, or the next one once a compaction failed, a batch's gate and end, and
-- the zeros that are written ahead
abbrev pub longest : Shape → ℕ → ℕ
longest sh next = max (limit_of sh) next + batch_more + step

-- a sync appends to such a log, and compacts a longer one
pub record IsShort {D : Type 0} (sh : Shape) (next : ℕ) (log : Log D) : Type 0 where
  pub size : size_of log ≤ max (limit_of sh) next
  pub file : log.size ≤ longest sh next

-- a blank board with so many of the first words, or with all words and so many of the first rows
abbrev pub with_words : State → ℕ → Content
with_words s n = record (blank s.shape) { sram = take n s.sram ++ drop n (blank s.shape).sram }

abbrev pub with_rows : State → ℕ → Content
with_rows s n = record { flash = take n s.flash ++ drop n (blank s.shape).flash; sram = s.sram }

-- a journal's head and one open batch, which makes this content in so many bytes at most
pub record Makes (sh : Shape) (x : Content) (most : ℕ) (bytes : List ℕ) : Type 0 where
  pub head : Begins (head_bytes version sh) bytes
  pub whole : Leads false 33 bytes (operations bytes) true
  pub content : holds sh (operations bytes) ≡ x
  pub size : length bytes ≤ most

-- the bytes of the second file, with those that are still in the buffer
abbrev pub gathered : {D : Type 0} → (D → List ℕ) → Log D → List ℕ
gathered second log = second log.device ++ take log.used log.buffer.items

-- a log while its buffer carries the bytes of the second file
pub record Gathers {D : Type 0} (second : D → List ℕ) (log : Log D) : Type 0 where
  pub fits : log.used ≤ length log.buffer.items
  pub room : 263 ≤ length log.buffer.items
  pub end : length (second log.device) ≡ log.second

-- nothing became of the file: what a crash left at a moment of the calls it might have left before them
pub record IsUntouched {D : Type 0} (seen : D → List ℕ) (may_leave : D → List ℕ → Type 0) (moment : D → ℕ) (left_since : D → ℕ → List ℕ → Type 0) (synced : D → ℕ) (bytewise : D → Bool) (old new : D) : Type 0 where
  pub file : seen new ≡ seen old
  pub last : synced new ≡ synced old
  pub trusted : bytewise new ≡ bytewise old
  pub fewer : (c : List ℕ) → may_leave new c → may_leave old c
  pub moments : LeavesOnly moment left_since old new (may_leave old)

-- A call on a second file of which `before` held: it went on, and `after` holds, or it failed, and is one more that did.
abbrev pub Hinders : {D T E : Type 0} → (D → Type 0) → (D → Type 0) → (D → ℕ) → D → Result T E → D → Type 0
Hinders before after hindered old (Ok done) new = before old → after new × (hindered new ≡ hindered old)
Hinders before after hindered old (Err error) new = before old → hindered old < hindered new

-- what a log tells of its file stays, while its buffer carries other bytes
pub record IsAside {D : Type 0} (old new : Log D) : Type 0 where
  pub gate : new.gate ≡ old.gate
  pub end : new.end ≡ old.end
  pub size : new.size ≡ old.size
  pub zeros : new.zeros ≡ old.zeros
  pub runs : new.runs ≡ old.runs
  pub room : length new.buffer.items ≡ length old.buffer.items

-- The lines of a trace for a memory that is kept in a file, how they are spelled, and how the replies are written.
use Rattle.std.specs.Prelude.{ℕ, ◌≤◌, Bool, ◌||◌, ⊤, List, [], ◌∷◌, map, length, codes, Option, Some, Result, Ok}
use Rattle.std.specs.Str.{bytes_eq}
use Rattle.envy_trace.specs.declared.fault.LineFault.{LineFault}
use Rattle.envy_trace.specs.declared.line.Line.{Line}
use Rattle.envy_trace.specs.declared.line.Line.TheVariants.{Empty, Load, Look, Store, Begin, Put, Commit, Abort, Tick, Power, Cut, Bad, Stat}
use Rattle.envy_trace.specs.Grammar.{Entry, ◌takes◌, ◌>>=◌, read_by, none, one, two, three, slot, address, word, fields_of}
use Rattle.envy_trace.specs.Replies.{reply_bytes}
use Rattle.envy_trace.specs.Spelling.{IsLine, Spells, parts, written_parts}
use Rattle.envy_trace.specs.declared.keep_line.KeepLine.{KeepLine}
use Rattle.envy_trace.specs.declared.keep_line.KeepLine.TheVariants.{Trace, Sync}
use Rattle.envy_trace.specs.declared.keep_reply.KeepReply.{KeepReply}
use Rattle.envy_trace.specs.declared.keep_reply.KeepReply.TheVariants.{Trace as TraceReply, Synced}

-- the commands of a trace of one array, without those that make power or a flash operation fail
abbrev pub kept_commands : List (Entry Line)
kept_commands =
    (codes "load" takes one address Load)
    ∷ (codes "look" takes one address Look)
    ∷ (codes "store" takes two address word Store)
    ∷ (codes "begin" takes none Begin)
    ∷ (codes "put" takes three slot address word Put)
    ∷ (codes "commit" takes one slot Commit)
    ∷ (codes "abort" takes one slot Abort)
    ∷ (codes "tick" takes none Tick)
    ∷ (codes "stat" takes none Stat)
    ∷ []

-- an entry of that table
abbrev pub of_trace : Entry Line → Entry KeepLine
of_trace entry = entry.name takes (λ fields. entry.read fields >>= λ line. Ok (Trace line))

abbrev pub keep_commands : List (Entry KeepLine)
keep_commands = (codes "sync" takes none Sync) ∷ map of_trace kept_commands

-- a line of a trace for a memory that is kept in a file
unfoldable pub keep_line_of : List ℕ → Result KeepLine LineFault
keep_line_of = read_by (Trace Empty) keep_commands

-- the word of a command that makes power or a flash operation fail
abbrev pub names_failure : List ℕ → Bool
names_failure name = bytes_eq name (codes "power") || (bytes_eq name (codes "cut") || bytes_eq name (codes "bad"))

-- the command word of a line, and its numbers
abbrev pub keep_parts : KeepLine → Option (List ℕ × List ℕ)
keep_parts (Trace line) = parts line
keep_parts Sync = Some (codes "sync", [])

-- the ranges of the numbers; nothing makes power or a flash operation fail
abbrev pub IsKeepLine : KeepLine → Type 0
IsKeepLine (Trace Power) = ⊥
IsKeepLine (Trace (Cut k g)) = ⊥
IsKeepLine (Trace (Bad k g)) = ⊥
IsKeepLine (Trace line) = IsLine line
IsKeepLine Sync = ⊤

-- the one written form
unfoldable pub keep_line_bytes : KeepLine → List ℕ
keep_line_bytes line = written_parts (keep_parts line)

-- the bytes are a spelling of the line
pub record ReadsKeep (bytes : List ℕ) (line : KeepLine) : Type 0 where
  pub short : length bytes ≤ 120
  pub fields : Spells (fields_of bytes) (keep_parts line)
  pub ranges : IsKeepLine line

-- how a reply is written, without a newline
unfoldable pub keep_bytes : KeepReply → List ℕ
keep_bytes (TraceReply reply) = reply_bytes reply
keep_bytes Synced = codes "synced"

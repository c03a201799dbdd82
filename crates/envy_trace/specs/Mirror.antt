-- The lines of a trace for a pair of boards, how they are spelled, and how the replies are written.
use Rattle.std.specs.Prelude.{ℕ, ◌≤◌, ⊤, List, [], ◌∷◌, ◌++◌, map, length, codes, decimal, Option, Some, Result, Ok}
use Rattle.envy_trace.specs.declared.bounds.Bounds.{Bounds}
use Rattle.envy_trace.specs.declared.fault.LineFault.{LineFault}
use Rattle.envy_trace.specs.declared.line.Line.{Line}
use Rattle.envy_trace.specs.declared.line.Line.TheVariants.{Empty}
use Rattle.envy_trace.specs.declared.mirror_line.MirrorLine.{MirrorLine}
use Rattle.envy_trace.specs.declared.mirror_line.MirrorLine.TheVariants.{Array, Side, Catch}
use Rattle.envy_trace.specs.declared.mirror_reply.MirrorReply.{MirrorReply}
use Rattle.envy_trace.specs.declared.mirror_reply.MirrorReply.TheVariants.{Array as ArrayReply, Gone, Whole, Waiting, Woken, Copied, Joined, Dead, Slipped}
use Rattle.envy_trace.specs.Grammar.{Entry, ◌takes◌, ◌>>=◌, commands, read_by, none, one, fields_of}
use Rattle.envy_trace.specs.Replies.{reply_bytes}
use Rattle.envy_trace.specs.Spelling.{IsLine, Spells, parts, written_parts}

-- the first side or the second
abbrev pub side : Bounds
side = record { least = 0; greatest = 1 }

-- an entry of the table of one array
abbrev pub of_array : Entry Line → Entry MirrorLine
of_array entry = entry.name takes (λ fields. entry.read fields >>= λ line. Ok (Array line))

abbrev pub mirror_commands : List (Entry MirrorLine)
mirror_commands =
    (codes "side" takes one side Side)
    ∷ (codes "catch" takes none Catch)
    ∷ map of_array commands

-- a line of a trace for a pair of boards
unfoldable pub mirror_line_of : List ℕ → Result MirrorLine LineFault
mirror_line_of = read_by (Array Empty) mirror_commands

-- the command word of a line, and its numbers
abbrev pub mirror_parts : MirrorLine → Option (List ℕ × List ℕ)
mirror_parts (Array line) = parts line
mirror_parts (Side s) = Some (codes "side", s ∷ [])
mirror_parts Catch = Some (codes "catch", [])

-- the ranges of the numbers
abbrev pub IsMirrorLine : MirrorLine → Type 0
IsMirrorLine (Array line) = IsLine line
IsMirrorLine (Side s) = s ≤ 1
IsMirrorLine Catch = ⊤

-- the one written form
unfoldable pub mirror_line_bytes : MirrorLine → List ℕ
mirror_line_bytes line = written_parts (mirror_parts line)

-- the bytes are a spelling of the line
pub record ReadsMirror (bytes : List ℕ) (line : MirrorLine) : Type 0 where
  pub short : length bytes ≤ 120
  pub fields : Spells (fields_of bytes) (mirror_parts line)
  pub ranges : IsMirrorLine line

-- how a reply is written, without a newline
unfoldable pub mirror_bytes : MirrorReply → List ℕ
mirror_bytes (ArrayReply reply) = reply_bytes reply
mirror_bytes Gone = codes "gone"
mirror_bytes Whole = codes "whole"
mirror_bytes (Waiting t) = codes "waiting " ++ decimal t
mirror_bytes Woken = codes "woken"
mirror_bytes (Copied p) = codes "copied " ++ decimal p
mirror_bytes Joined = codes "joined"
mirror_bytes Dead = codes "dead"
mirror_bytes Slipped = codes "slipped"

-- How a reply is written, without a newline.
use Rattle.std.specs.Prelude.{ℕ, List, ◌++◌, codes, decimal}
use Rattle.envy_trace.specs.Stat.{stat_bytes}
use Rattle.envy_trace.specs.declared.reply.Reply.{Reply}
use Rattle.envy_trace.specs.declared.reply.Reply.TheVariants.{Word, Done, Started, Range, Held, Closed, Full, Busy, Fault, Lost, Restarted, Armed, Stat}

unfoldable pub reply_bytes : Reply → List ℕ
reply_bytes (Word w) = decimal w
reply_bytes Done = codes "ok"
reply_bytes (Started t) = codes "tx " ++ decimal t
reply_bytes Range = codes "range"
reply_bytes (Held t) = codes "held " ++ decimal t
reply_bytes Closed = codes "closed"
reply_bytes Full = codes "full"
reply_bytes Busy = codes "busy"
reply_bytes Fault = codes "fault"
reply_bytes Lost = codes "lost"
reply_bytes Restarted = codes "restarted"
reply_bytes Armed = codes "armed"
reply_bytes (Stat counts) = stat_bytes counts

-- What is said from a source on may be said from an earlier count of its faults on.
use Rattle.std.proofs.Common.{ℕ, ◌≤◌, List, arith}
use Rattle.std.specs.Prelude.{Result}
use Rattle.envy_io.specs.Streams.{Feed}
use Rattle.envy_io.specs.Taking.{Taking}
use Rattle.envy_io.proofs.Counts.{Rises-after}
use Rattle.envy_trace.specs.declared.fault.LineFault.{LineFault}
use Rattle.envy_serve.specs.declared.server.End.{End}
use Rattle.envy_serve.specs.declared.server.End.TheVariants.{Done as EndDone, ReadFault, WriteFault, FlushFault, Refused, Dead as EndDead, TooLong}
use Rattle.envy_serve.specs.Ends.{Serves, Ends, HasReadTo}
use Rattle.envy_serve.specs.Grammar.{Grammar}
use Rattle.envy_serve.specs.Reading.{HasRead, ReadAll, ReadBetween, ReadStuck}
use Rattle.envy_serve.specs.Streams.{Streams}
use Rattle.envy_serve.specs.Turns.{Turn, lines_done}

module _ {Line : Type 0} (reads : List ℕ → Result Line LineFault) (skipped : ℕ) (faults : ℕ) (from feed : Feed) (reader : Taking) (lines : List Line) (le : faults ≤ from.faults) where
  read-earlier : HasRead reads skipped from feed reader lines → HasRead reads skipped (record { left = from.left; faults = faults }) feed reader lines
  read-earlier r = record {
    bytes = r.bytes;
    pieces = r.pieces;
    source = r.source;
    faults = let more = r.faults in omega arith;
    dry = r.dry;
    given = r.given;
    count = r.count;
    says = r.says;
  }

  all-earlier : ReadAll reads skipped from feed reader lines → ReadAll reads skipped (record { left = from.left; faults = faults }) feed reader lines
  unfolding read-earlier
  all-earlier r = record { read = read-earlier r.read; ended = r.ended; below = r.below; all_lines = r.all_lines }

  between-earlier : ReadBetween reads skipped from feed reader lines → ReadBetween reads skipped (record { left = from.left; faults = faults }) feed reader lines
  unfolding read-earlier
  between-earlier r = record { read = read-earlier r.read; rest = r.rest; open_rest = r.open_rest; short_rest = r.short_rest }

  stuck-earlier : (fault : LineFault) → ReadStuck fault reads skipped from feed reader lines → ReadStuck fault reads skipped (record { left = from.left; faults = faults }) feed reader lines
  stuck-earlier fault r = record { bytes = r.bytes; pieces = r.pieces; piece = r.piece; source = r.source; dry = r.dry; count = r.count; each = r.each; met = r.met; says = r.says; refused = r.refused }

  read-to-earlier : (end : End) → HasReadTo end reads skipped from feed reader lines → HasReadTo end reads skipped (record { left = from.left; faults = faults }) feed reader lines
  read-to-earlier EndDone r = all-earlier r
  read-to-earlier FlushFault r = all-earlier r
  read-to-earlier ReadFault (r, rises, below) = (between-earlier r, Rises-after faults from.faults feed.faults le rises, below)
  read-to-earlier TooLong (r, spent) = (between-earlier r, spent)
  read-to-earlier (Refused fault) r = stuck-earlier fault r
  read-to-earlier WriteFault r = read-earlier r
  read-to-earlier EndDead r = read-earlier r

pub serves-earlier : {Line Reply : Type 0} (end : End) (lines taken : ℕ) (g : Grammar Line Reply) (skipped : ℕ) (Done Dead : List (Turn Line Reply) → Type 0) (tail : List ℕ) (turns : List (Turn Line Reply)) (io : Streams) (faults : ℕ) → faults ≤ io.from.faults → Serves end lines taken g skipped Done Dead tail turns io → Serves end lines taken g skipped Done Dead tail turns (record io { from = record { left = io.from.left; faults = faults } })
serves-earlier end lines taken g skipped Done Dead tail turns io faults le s = record {
  lines_are = s.lines_are;
  reader = s.reader;
  taken_are = s.taken_are;
  cap = s.cap;
  ends = record {
    served = Ends.served s.ends;
    read = read-to-earlier g.reads skipped faults io.from io.feed s.reader (lines_done turns) le end (Ends.read s.ends);
    told = Ends.told s.ends;
  };
}

-- From what two runs that were done to their end say, to what both wrote.
use Rattle.std.proofs.Common.{◌≡◌, ◌≢◌, ◌⊎◌, inl, inr, ℕ, List, [], ◌∷◌, ◌++◌, map, refl, sym, ◌∙◌, ap, subst, arith}
use Rattle.std.specs.Prelude.{Option, None, Some, IfSome, Result, Ok}
use Rattle.std.specs.List.{AllByRecursion}
use Rattle.std.proofs.lemmas.List.{append-nil}
use Rattle.envy_args.specs.declared.command.Command.TheVariants.{Run as RunWords, Plain as PlainWords}
use Rattle.envy_io.specs.Lines.{lines_of}
use Rattle.envy_io.specs.Streams.{IsDry}
use Rattle.envy_map.specs.Fields.{Chart}
use Rattle.envy_policy.specs.declared.setup.Setup.{Setup}
use Rattle.envy_serve.specs.declared.server.End.{End}
use Rattle.envy_serve.specs.declared.server.End.TheVariants.{Done as EndDone, ReadFault, WriteFault, FlushFault, Refused, Dead as EndDead, TooLong}
use Rattle.envy_serve.specs.Ends.{Serves, Ends}
use Rattle.envy_serve.specs.Grammar.{Grammar}
use Rattle.envy_serve.specs.Reading.{HasRead, ReadAll}
use Rattle.envy_serve.specs.Streams.{Streams, Written}
use Rattle.envy_serve.specs.Turns.{Turn, lines_done, written}
use Rattle.envy_serve.proofs.GoodTraces.{front-taken}
use Rattle.envy_trace.specs.declared.fault.LineFault.{LineFault}
use Rattle.envy_trace.specs.declared.line.Line.{Line}
use Rattle.envy_trace.specs.declared.line.Line.TheVariants.{Stat}
use Rattle.envy_trace.specs.Grammar.{line_of}
use Rattle.envy_run.specs.Equal.{HasNoStat, NothingFailed, Wrote}
use Rattle.envy_run.specs.Headline.{Headline, IsWithoutMemory, Licences, run_task, plain_task, zeros_of}
use Rattle.envy_run.specs.Outcome.{Outcome, EndsBy, IsQuiet, ending_of, numbers_of}
use Rattle.envy_run.specs.Task.{Task}
use Rattle.envy_run.specs.Unserved.{IsUnread, IsUnready}
use Rattle.envy_run.specs.declared.endings.Ending.TheVariants.{OutOfMemory}
use Rattle.envy_run.proofs.Accounts.{Did, Died, WasDone, WasServed, done_of, never-unready}
use Rattle.envy_run.specs.Turns.{TraceTurn, trace_grammar}
use Rattle.envy_run.proofs.Alike.{OneAnswer, turns-alike}

pub record IsDone {Line Reply Left : Type 0} (w : Task Line Reply Left) (bytes : List ℕ) (turns : List (Turn Line Reply)) (o : Outcome) (io : Streams) : Type 0 where
  pub did : Did w o turns
  pub says : map (Grammar.reads w.grammar) (lines_of bytes) ≡ map Ok (lines_done turns)
  pub wrote : Wrote (written w.grammar turns ++ w.tail o) io

-- all bytes of the source were read
read-all : {Line : Type 0} (reads : List ℕ → Result Line LineFault) (skipped : ℕ) (io : Streams) (reader : _) (lines : List Line) (bytes : List ℕ) → io.from.left ≡ Some bytes → ReadAll reads skipped io.from io.feed reader lines → map reads (lines_of bytes) ≡ map Ok lines
read-all reads skipped io reader lines bytes told all =
    let read = ReadAll.read all in
    let (rest, left, is) = front-taken bytes (HasRead.bytes read) io.feed.left (sym told ∙ HasRead.source read) in
    let none : rest ≡ [] = subst (λ (l : Option (List ℕ)). IsDry l) left (HasRead.dry read (ReadAll.ended all)) in
    let same : bytes ≡ HasRead.bytes read = is ∙ ap (λ (r : List ℕ). HasRead.bytes read ++ r) none ∙ append-nil (HasRead.bytes read) in
    ap (λ (b : List ℕ). map reads (lines_of b)) same ∙ ap (map reads) (ReadAll.all_lines all) ∙ HasRead.says read

-- an end with status 0 is the one at which all was read and written
done-served : {Line Reply Left : Type 0} (end : End) (w : Task Line Reply Left) (turns : List (Turn Line Reply)) (o : Outcome) (io : Streams) (bytes : List ℕ) → (numbers_of (ending_of end)).0 ≡ 0 → io.from.left ≡ Some bytes → Serves end o.lines o.taken w.grammar w.skipped (Did w o) (Died w o) (w.tail o) turns io → IsDone w bytes turns o io
done-served EndDone w turns o io bytes zero told s = record {
  did = Ends.served (Serves.ends s);
  says = read-all (Grammar.reads w.grammar) w.skipped io s.reader (lines_done turns) bytes told (Ends.read (Serves.ends s));
  wrote = Written.whole (Ends.told (Serves.ends s)).0;
}
done-served ReadFault w turns o io bytes zero told s = absurd (let never = zero in omega arith)
done-served WriteFault w turns o io bytes zero told s = absurd (let never = zero in omega arith)
done-served FlushFault w turns o io bytes zero told s = absurd (let never = zero in omega arith)
done-served (Refused fault) w turns o io bytes zero told s = absurd (let never = zero in omega arith)
done-served EndDead w turns o io bytes zero told s = absurd (let never = zero in omega arith)
done-served TooLong w turns o io bytes zero told s = absurd (let never = zero in omega arith)

-- so a trace with status 0 was done
pub is-done : {Line Reply Left : Type 0} (w : Task Line Reply Left) (turns : List (Turn Line Reply)) (o : Outcome) (io : Streams) (bytes : List ℕ) → o.status ≡ 0 → io.from.left ≡ Some bytes → WasServed w turns o io → IsDone w bytes turns o io
is-done w turns o io bytes done told s = done-served s.end w turns o io bytes (sym (EndsBy.status s.ending) ∙ done) told s.serves

ok-same : (x y : Line) → ◌≡◌ {A = Result Line LineFault} (Ok x) (Ok y) → x ≡ y
ok-same x y e = cc

heads : {A : Type 0} (x y : A) (xs ys : List A) → x ∷ xs ≡ y ∷ ys → (x ≡ y) × (xs ≡ ys)
heads x y xs ys e = ((let same = e in cc), (let same = e in cc))

-- the same lines, and none of them asks for counters
same-lines : (pieces : List (List ℕ)) (lines others : List Line) → map line_of pieces ≡ map Ok lines → map line_of pieces ≡ map Ok others → AllByRecursion (λ piece. line_of piece ≢ Ok Stat) pieces → (lines ≡ others) × AllByRecursion (λ line. line ≢ Stat) lines
same-lines [] [] [] e f none = (refl, tt)
same-lines [] (x ∷ xs) others e f none = absurd (let never = e in cc)
same-lines [] [] (y ∷ ys) e f none = absurd (let never = f in cc)
same-lines (p ∷ ps) [] others e f none = absurd (let never = e in cc)
same-lines (p ∷ ps) (x ∷ xs) [] e f none = absurd (let never = f in cc)
same-lines (p ∷ ps) (x ∷ xs) (y ∷ ys) e f (here, others_none) =
    let (first, rest) = heads (line_of p) (Ok x) (map line_of ps) (map Ok xs) e in
    let (second, more) = heads (line_of p) (Ok y) (map line_of ps) (map Ok ys) f in
    let same : x ≡ y = ok-same x y (sym first ∙ second) in
    let (tails, each) = same-lines ps xs ys rest more others_none in
    (ap (λ (l : Line). l ∷ xs) same ∙ ap (λ (ls : List Line). y ∷ ls) tails, ((λ is. here (first ∙ ap Ok is)), each))

-- what both wrote
both-done : OneAnswer → (setup : Setup) (returns : ℕ) (bytes : List ℕ) (o p : Outcome) (io jo : Streams) (turns others : List TraceTurn) → IsDone (run_task setup returns) bytes turns o io → IsDone (plain_task setup) bytes others p jo → IfSome o.board (Licences setup returns turns) → HasNoStat bytes → NothingFailed o.board → (text : List ℕ) × Wrote text io × Wrote text jo
both-done one setup returns bytes o p io jo turns others run plain licences no_stat well =
    let (array, lines_run, (now, is, stands)) = run.did in
    let (machine, calm, boardless) = plain.did in
    let l : Licences setup returns turns now = subst (λ (b : Option Chart). IfSome b (Licences setup returns turns)) is licences in
    let (bads, cuts) : (now.bads ≡ 0) × (now.cuts ≡ now.pulled) = subst (λ (b : Option Chart). NothingFailed b) is well in
    let (lines, none) = same-lines (lines_of bytes) (lines_done turns) (lines_done others) run.says plain.says no_stat in
    let pulled = l.pulled in
    let losts = l.losts in
    let faults = l.faults in
    let (texts_same, arrays) = turns-alike one setup.shape.entries (zeros_of setup) array machine turns others lines none (omega arith) (omega arith) lines_run calm in
    (written trace_grammar turns ++ [], run.wrote, subst (λ (t : List ℕ). Wrote (t ++ []) jo) (sym texts_same) plain.wrote)

-- a run that was done served its trace

-- of two accounts of a run with status 0 the one with lines is left
run-served : (setup : Setup) (returns : ℕ) (o : Outcome) (io : Streams) (turns : List TraceTurn) → o.status ≡ 0 → WasServed (run_task setup returns) turns o io ⊎ ((turns ≡ []) × IsUnread o io × IsUnready o) → WasServed (run_task setup returns) turns o io
run-served setup returns o io turns done (inl served) = served
run-served setup returns o io turns done (inr (none, unread, why)) = absurd (never-unready o done why)

-- and of the plain machine
plain-served : (setup : Setup) (o : Outcome) (io : Streams) (turns : List TraceTurn) → o.status ≡ 0 → WasServed (plain_task setup) turns o io ⊎ ((turns ≡ []) × (IsQuiet o io × EndsBy OutOfMemory o) × (o.board ≡ None)) → WasServed (plain_task setup) turns o io
plain-served setup o io turns done (inl served) = served
plain-served setup o io turns done (inr (none, (quiet, out), boardless)) = absurd (let eight = out.status in omega arith)

-- two traces of the same bytes, both done, wrote the same
both-tasks : OneAnswer → (setup : Setup) (returns : ℕ) (bytes : List ℕ) (o p : Outcome) (io jo : Streams) → WasDone (run_task setup returns) o io → WasDone (plain_task setup) p jo → io.from.left ≡ Some bytes → jo.from.left ≡ Some bytes → HasNoStat bytes → o.status ≡ 0 → p.status ≡ 0 → NothingFailed o.board → (text : List ℕ) × Wrote text io × Wrote text jo
both-tasks one setup returns bytes o p io jo run plain told also no_stat done also_done well =
    both-done one setup returns bytes o p io jo run.turns plain.turns
    (is-done (run_task setup returns) run.turns o io bytes done told (run-served setup returns o io run.turns done run.answers))
    (is-done (plain_task setup) plain.turns p jo bytes also_done also (plain-served setup p jo plain.turns also_done plain.answers))
    run.licences no_stat well

out-never : (o : Outcome) (io : Streams) → o.status ≡ 0 → IsWithoutMemory o io → ⊥
out-never o io done without = never-unready o done (inl (IsWithoutMemory.memory without))

-- so did the two runs
pub write-alike : OneAnswer → (setup : Setup) (returns : ℕ) (bytes : List ℕ) (o p : Outcome) (io jo : Streams) → Headline (Ok (RunWords setup returns)) o io → Headline (Ok (PlainWords setup)) p jo → io.from.left ≡ Some bytes → jo.from.left ≡ Some bytes → HasNoStat bytes → o.status ≡ 0 → p.status ≡ 0 → NothingFailed o.board → (text : List ℕ) × Wrote text io × Wrote text jo
write-alike one setup returns bytes o p io jo (inl run) (inl plain) told also no_stat done also_done well = both-tasks one setup returns bytes o p io jo (done_of (run_task setup returns) o io run) (done_of (plain_task setup) p jo plain) told also no_stat done also_done well
write-alike one setup returns bytes o p io jo (inr without) plain told also no_stat done also_done well = absurd (out-never o io done without)
write-alike one setup returns bytes o p io jo (inl run) (inr without) told also no_stat done also_done well = absurd (out-never p jo also_done without)

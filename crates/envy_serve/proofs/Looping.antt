-- The whole of a trace, whatever service does its lines.
use Rattle.std.proofs.Common.{◌≡◌, ◌⊎◌, inl, inr, ℕ, suc, ◌+◌, ◌≤◌, Bool, true, false, List, [], ◌∷◌, ◌++◌, length, map, refl, sym, ◌∙◌, ap, subst, arith}
use Rattle.std.specs.Prelude.{IsTrue, Ok, ◌==◌, if◌then◌else◌}
use Rattle.std.proofs.lemmas.List.{length-map, length-append}
use Rattle.envy_io.specs.Lines.{newline, lines_of, onto_first, spelled}
use Rattle.envy_io.specs.Streams.{Feed, Drain}
use Rattle.envy_io.specs.Taking.{Taking, HasGiven}
use Rattle.envy_io.proofs.TakesLemmas.{with_front-nil}
use Rattle.envy_io.proofs.WritesLemmas.{with_end-nil}
use Rattle.envy_serve.specs.declared.server.End.{End}
use Rattle.envy_serve.specs.declared.server.Served.{Served}
use Rattle.envy_serve.specs.declared.server.End.TheVariants.{Done as EndDone, ReadFault, WriteFault, FlushFault, Refused, Dead as EndDead, TooLong}
use Rattle.envy_serve.specs.Ends.{Progress, Ends, Serves, IsAtStart, most_bytes}
use Rattle.envy_serve.specs.Grammar.{Grammar}
use Rattle.envy_serve.specs.Reading.{HasRead, IsMet, ReadAll, ReadBetween, ReadStuck}
use Rattle.envy_trace.specs.declared.fault.LineFault.{LineFault}
use Rattle.envy_serve.specs.Streams.{Streams}
use Rattle.envy_serve.specs.Turns.{Turn, lines_done}

pub record IsServing {Line Reply : Type 0} (g : Grammar Line Reply) (skipped : ℕ) (Done : List (Turn Line Reply) → Type 0) (n : ℕ) (from : Feed) (to : Drain) (feed : Feed) (sink : Drain) (reader : Taking) : Type 0 where
  pub progress : Progress g skipped Done from to n feed sink reader
  pub cap : reader.cap ≡ most_bytes
  pub within : reader.taken ≤ reader.cap

-- before the first line
pub serving-none : {Line Reply : Type 0} (g : Grammar Line Reply) (Done : List (Turn Line Reply) → Type 0) (feed : Feed) (sink : Drain) (reader : Taking) → Done [] → IsAtStart reader feed → IsServing g reader.taken Done 0 feed sink feed sink reader
serving-none g Done feed sink reader done start = record {
  progress = record {
    turns = [];
    count = refl;
    done = done;
    read = record {
      bytes = [];
      pieces = [];
      source = sym (with_front-nil feed.left);
      faults = omega arith;
      dry = start.dry;
      given = record { each = tt; split = inl (sym start.held) };
      count = omega arith;
      says = refl;
    };
    told = record { whole = sym (with_end-nil sink.written); faults = omega arith };
  };
  cap = start.cap;
  within = start.within;
}

-- a further line was done
pub serving-more : {Line Reply : Type 0} (g : Grammar Line Reply) (skipped : ℕ) (Done : List (Turn Line Reply) → Type 0) (n : ℕ) (from : Feed) (to : Drain) (feed : Feed) (sink : Drain) (reader then_reader : Taking) → reader.cap ≡ most_bytes → Progress g skipped Done from to (n + 1) feed sink then_reader → then_reader.cap ≡ reader.cap → then_reader.taken ≤ then_reader.cap → IsServing g skipped Done (n + 1) from to feed sink then_reader
serving-more g skipped Done n from to feed sink reader then_reader most progress cap within = record { progress = progress; cap = cap ∙ most; within = within }

-- no line is done after these
pub serving-ends : {Line Reply : Type 0} (g : Grammar Line Reply) (skipped : ℕ) (Done Dead : List (Turn Line Reply) → Type 0) (tail : List ℕ) (n : ℕ) (from : Feed) (to : Drain) (feed : Feed) (sink : Drain) (reader then_reader : Taking) (end : End) (turns : List (Turn Line Reply)) (said : Served) → said ≡ record { end = end; lines = n; taken = then_reader.taken } → reader.cap ≡ most_bytes → then_reader.cap ≡ reader.cap → length turns ≡ n → Ends end g skipped Done Dead tail turns from to feed sink then_reader → Serves said.end said.lines said.taken g skipped Done Dead tail turns (record { from = from; feed = feed; to = to; sink = sink })
serving-ends g skipped Done Dead tail n from to feed sink reader then_reader end turns said is most cap count ends =
    subst (λ (x : Served). Serves x.end x.lines x.taken g skipped Done Dead tail turns (record { from = from; feed = feed; to = to; sink = sink })) (sym is) (record {
      lines_are = sym count;
      reader = then_reader;
      taken_are = refl;
      cap = cap ∙ most;
      ends = ends;
    })

spelled-long : (pieces : List (List ℕ)) → length pieces ≤ length (spelled pieces)
spelled-long [] = omega arith
spelled-long (p ∷ ps) = let rest = spelled-long ps in let e = length-append (p ++ newline ∷ []) (spelled ps) in let d = length-append p (newline ∷ []) in omega arith

onto_first-few : (b : ℕ) (ls : List (List ℕ)) (n : ℕ) → length ls ≤ n → length (onto_first b ls) ≤ suc n
onto_first-few b [] n le = omega arith
onto_first-few b (l ∷ ls) n le = omega arith

lines-few : (bytes : List ℕ) → length (lines_of bytes) ≤ length bytes
unfolding lines_of
lines-few [] = omega arith
lines-few (b ∷ bytes) = at (b == newline) (lines-few bytes)
  where
    at : (t : Bool) → length (lines_of bytes) ≤ length bytes → length (if t then [] ∷ lines_of bytes else onto_first b (lines_of bytes)) ≤ suc (length bytes)
    at true le = omega arith
    at false le = onto_first-few b (lines_of bytes) (length bytes) le

given-few : (bytes : List ℕ) (pieces : List (List ℕ)) (t : Taking) → HasGiven bytes pieces t → length pieces ≤ length bytes
given-few bytes pieces t g = at g.split
  where
    at : (bytes ≡ spelled pieces ++ t.held) ⊎ (IsTrue t.ended × (t.held ≡ []) × (lines_of bytes ≡ pieces)) → length pieces ≤ length bytes
    at (inl e) = let long = spelled-long pieces in let all = length-append (spelled pieces) t.held in let same = ap length e in omega arith
    at (inr (ended, none, e)) = let few = lines-few bytes in let same = ap length e in omega arith

length-done : {Line Reply : Type 0} (turns : List (Turn Line Reply)) → length (lines_done turns) ≡ length turns
length-done [] = refl
length-done (turn ∷ earlier) = length-append (lines_done earlier) (turn.line ∷ []) ∙ (let rest = length-done earlier in omega arith)

pieces-few : {Line Reply : Type 0} (g : Grammar Line Reply) (pieces : List (List ℕ)) (turns : List (Turn Line Reply)) → map g.reads pieces ≡ map Ok (lines_done turns) → length turns ≡ length pieces
pieces-few g pieces turns says = let same = sym (length-map pieces g.reads) ∙ ap length says ∙ length-map (lines_done turns) Ok ∙ length-done turns in sym same

read-few : {Line Reply : Type 0} (g : Grammar Line Reply) (skipped : ℕ) (from feed : Feed) (reader : Taking) (turns : List (Turn Line Reply)) → HasRead g.reads skipped from feed reader (lines_done turns) → length turns ≤ reader.taken
read-few g skipped from feed reader turns r =
    let few = given-few r.bytes r.pieces reader r.given in
    let same = pieces-few g r.pieces turns r.says in
    let taken = r.count in
    omega arith

met-few : (bytes : List ℕ) (pieces : List (List ℕ)) (piece : List ℕ) (reader : Taking) → IsMet bytes pieces piece reader → length pieces ≤ length bytes
met-few bytes pieces piece reader (inl (rest, e)) = let long = spelled-long (pieces ++ piece ∷ []) in let more = length-append pieces (piece ∷ []) in let all = length-append (spelled (pieces ++ piece ∷ [])) rest in let same = ap length e in omega arith
met-few bytes pieces piece reader (inr (inl (ended, e))) = let few = lines-few bytes in let more = length-append pieces (piece ∷ []) in let same = ap length e in omega arith
met-few bytes pieces piece reader (inr (inr (far, rest, e))) = let long = spelled-long pieces in let all = length-append (spelled pieces) (piece ++ rest) in let same = ap length e in omega arith

stuck-few : {Line Reply : Type 0} (fault : LineFault) (g : Grammar Line Reply) (skipped : ℕ) (from feed : Feed) (reader : Taking) (turns : List (Turn Line Reply)) → ReadStuck fault g.reads skipped from feed reader (lines_done turns) → length turns ≤ reader.taken
stuck-few fault g skipped from feed reader turns r =
    let few = met-few r.bytes r.pieces r.piece reader r.met in
    let same = pieces-few g r.pieces turns r.says in
    let taken = r.count in
    omega arith

-- no more lines are accepted than bytes are taken
pub ends-few : {Line Reply : Type 0} (end : End) (g : Grammar Line Reply) (skipped : ℕ) (Done Dead : List (Turn Line Reply) → Type 0) (tail : List ℕ) (turns : List (Turn Line Reply)) (from : Feed) (to : Drain) (feed : Feed) (sink : Drain) (reader : Taking) → Ends end g skipped Done Dead tail turns from to feed sink reader → length turns ≤ reader.taken
ends-few EndDone g skipped Done Dead tail turns from to feed sink reader e = read-few g skipped from feed reader turns (ReadAll.read (Ends.read e))
ends-few FlushFault g skipped Done Dead tail turns from to feed sink reader e = read-few g skipped from feed reader turns (ReadAll.read (Ends.read e))
ends-few ReadFault g skipped Done Dead tail turns from to feed sink reader e = read-few g skipped from feed reader turns (ReadBetween.read (Ends.read e).0)
ends-few TooLong g skipped Done Dead tail turns from to feed sink reader e = read-few g skipped from feed reader turns (ReadBetween.read (Ends.read e).0)
ends-few (Refused fault) g skipped Done Dead tail turns from to feed sink reader e = stuck-few fault g skipped from feed reader turns (Ends.read e)
ends-few WriteFault g skipped Done Dead tail turns from to feed sink reader e = read-few g skipped from feed reader turns (Ends.read e)
ends-few EndDead g skipped Done Dead tail turns from to feed sink reader e = read-few g skipped from feed reader turns (Ends.read e)

-- no more lines are done than bytes are taken
pub serving-few : {Line Reply : Type 0} (g : Grammar Line Reply) (skipped : ℕ) (Done : List (Turn Line Reply) → Type 0) (n : ℕ) (from : Feed) (to : Drain) (feed : Feed) (sink : Drain) (reader : Taking) → IsServing g skipped Done n from to feed sink reader → n ≤ most_bytes
serving-few g skipped Done n from to feed sink reader s =
    let p = s.progress in
    let few = read-few g skipped from feed reader (Progress.turns p) (Progress.read p) in
    let count = Progress.count p in
    let cap = s.cap in
    let within = s.within in
    omega arith

-- so of a trace that was served
pub serves-few : {Line Reply : Type 0} (end : End) (lines taken : ℕ) (g : Grammar Line Reply) (skipped : ℕ) (Done Dead : List (Turn Line Reply) → Type 0) (tail : List ℕ) (turns : List (Turn Line Reply)) (io : Streams) → Serves end lines taken g skipped Done Dead tail turns io → lines ≤ taken
serves-few end lines taken g skipped Done Dead tail turns io s =
    let few = ends-few end g skipped Done Dead tail turns io.from io.to io.feed io.sink s.reader s.ends in
    let told = s.lines_are in
    let read = s.taken_are in
    omega arith

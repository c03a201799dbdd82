-- A good trace is served to its end, or power doesn't return.
use Rattle.std.proofs.Common.{◌≡◌, ◌⊎◌, inl, inr, ℕ, ◌<◌, ◌≤◌, List, [], ◌∷◌, ◌++◌, length, refl, sym, ◌∙◌, ap, subst, arith}
use Rattle.std.specs.Prelude.{IsTrue, IsOk, Option, None, Some, Result, Err}
use Rattle.std.specs.List.{All as EachOf, AllByRecursion}
use Rattle.std.proofs.lemmas.List.{append_assoc, append-nil, length-append}
use Rattle.std.proofs.Math.Seq.{take-append_seam}
use Rattle.std.proofs.lemmas.List.Elements.{recursion_from_All}
use Rattle.envy_io.specs.Lines.{NoNewline, lines_of, spelled}
use Rattle.envy_io.specs.Streams.{Drain, Rises, IsDry, with_front}
use Rattle.envy_io.specs.Taking.{Taking}
use Rattle.envy_io.proofs.LinesLemmas.{lines_of-spelled, lines_of-long}
use Rattle.envy_trace.specs.declared.fault.LineFault.{LineFault}
use Rattle.envy_trace.specs.declared.fault.LineFault.TheVariants.{Long as TooLongLine}
use Rattle.envy_serve.specs.declared.server.End.{End}
use Rattle.envy_serve.specs.declared.server.End.TheVariants.{Done as EndDone, ReadFault, WriteFault, FlushFault, Refused, Dead as EndDead, TooLong}
use Rattle.envy_serve.specs.Ends.{Serves, Ends, LastWritten, most_bytes}
use Rattle.envy_serve.specs.GoodTrace.{StaysLow, IsGoodTrace}
use Rattle.envy_serve.specs.Grammar.{Grammar}
use Rattle.envy_serve.specs.Reading.{HasRead, IsMet, ReadBetween, ReadStuck}
use Rattle.envy_serve.specs.Streams.{Streams, Written, FrontWritten}
use Rattle.envy_serve.specs.Turns.{Turn, lines_done}
use Rattle.envy_serve.proofs.Advancing.{rises-told}

-- a count that stays low hasn't risen
pub still-low : (old new : ℕ) → StaysLow old new → Rises old new → ⊥
still-low old new (low, same) rises = let more = Rises.more rises low in omega arith

-- a front of a text is written only where the sink fails
pub still-written : (text : List ℕ) (to mid sink : Drain) → StaysLow to.faults sink.faults → to.faults ≤ mid.faults → FrontWritten text mid sink → ⊥
still-written text to mid sink low le front = still-low to.faults sink.faults low (rises-told to mid sink le (FrontWritten.faults front))

never-cut : {Line Reply : Type 0} (g : Grammar Line Reply) (turns : List (Turn Line Reply)) (to sink : Drain) → StaysLow to.faults sink.faults → LastWritten FrontWritten g turns to sink → ⊥
never-cut g [] to sink low cut = cut
never-cut g (turn ∷ earlier) to sink low (mid, told, front) = still-written _ to mid sink low (Written.faults told) front

at-seam : (P : List ℕ → Type 0) (pieces : List (List ℕ)) (piece : List ℕ) (more : List (List ℕ)) → AllByRecursion P (pieces ++ piece ∷ more) → P piece
at-seam P [] piece more (here, others) = here
at-seam P (first ∷ pieces) piece more (here, others) = at-seam P pieces piece more others

seam : (pieces : List (List ℕ)) (piece : List ℕ) (more : List (List ℕ)) → (pieces ++ piece ∷ []) ++ more ≡ pieces ++ piece ∷ more
seam pieces piece more = append_assoc pieces (piece ∷ []) more

each-front : (pieces : List (List ℕ)) (piece : List ℕ) → AllByRecursion NoNewline (pieces ++ piece ∷ []) → AllByRecursion NoNewline pieces
each-front [] piece each = tt
each-front (first ∷ pieces) piece (here, each) = (here, each-front pieces piece each)

-- all lines of the bytes taken and of those left are accepted
accepted-all : {Line Reply : Type 0} (g : Grammar Line Reply) (all : List ℕ) (pieces : List (List ℕ)) (piece : List ℕ) (more : List (List ℕ)) (fault : LineFault) → EachOf (λ p. IsOk (g.reads p)) (lines_of all) → lines_of all ≡ pieces ++ piece ∷ more → g.reads piece ≡ Err fault → ⊥
accepted-all {Line = Line} g all pieces piece more fault lines is refused =
    let P : List ℕ → Type 0 = λ p. IsOk (g.reads p) in
    let each : AllByRecursion P (pieces ++ piece ∷ more) = recursion_from_All P (pieces ++ piece ∷ more) (subst (λ (ls : List (List ℕ)). EachOf P ls) is lines) in
    let never = subst (λ (r : Result Line LineFault). IsOk r) refused (at-seam P pieces piece more each) in
    cc

last-plain : (pieces : List (List ℕ)) (piece : List ℕ) → AllByRecursion NoNewline (pieces ++ piece ∷ []) → NoNewline piece
last-plain pieces piece each = at-seam NoNewline pieces piece [] each

-- a front without a newline is part of one line
line-long : (front rest : List ℕ) → NoNewline front → 120 < length front → (long : List ℕ) × (more : List (List ℕ)) × (lines_of (front ++ rest) ≡ long ∷ more) × (120 < length long)
line-long [] rest plain far = absurd (omega arith)
line-long (b ∷ front) rest (other, plain) far =
    let whole = length-append front rest in
    let (long, more, is, many) = lines_of-long (length front) (b ∷ (front ++ rest)) (omega arith) (other, subst NoNewline (sym (take-append_seam front rest)) plain) in
    (long, more, is, omega arith)

-- the line that is refused is a line of all bytes
met-in-all : {Line Reply : Type 0} (g : Grammar Line Reply) (taken rest : List ℕ) (pieces : List (List ℕ)) (piece : List ℕ) (reader : Taking) (fault : LineFault) → ((p : List ℕ) → 120 < length p → g.reads p ≡ Err TooLongLine) → AllByRecursion NoNewline (pieces ++ piece ∷ []) → (IsTrue reader.ended → rest ≡ []) → EachOf (λ p. IsOk (g.reads p)) (lines_of (taken ++ rest)) → g.reads piece ≡ Err fault → IsMet taken pieces piece reader → ⊥
met-in-all g taken rest pieces piece reader fault long each dry lines refused (inl (behind, e)) =
    accepted-all g (taken ++ rest) pieces piece (lines_of (behind ++ rest)) fault lines
    (ap (λ (b : List ℕ). lines_of (b ++ rest)) e ∙ ap lines_of (append_assoc (spelled (pieces ++ piece ∷ [])) behind rest) ∙ lines_of-spelled (pieces ++ piece ∷ []) (behind ++ rest) each ∙ seam pieces piece (lines_of (behind ++ rest)))
    refused
met-in-all g taken rest pieces piece reader fault long each dry lines refused (inr (inl (ended, e))) =
    accepted-all g (taken ++ rest) pieces piece [] fault lines (ap (λ (r : List ℕ). lines_of (taken ++ r)) (dry ended) ∙ ap lines_of (append-nil taken) ∙ e) refused
met-in-all g taken rest pieces piece reader fault long each dry lines refused (inr (inr (far, behind, e))) =
    let all : taken ++ rest ≡ spelled pieces ++ (piece ++ (behind ++ rest)) = ap (λ (b : List ℕ). b ++ rest) e ∙ append_assoc (spelled pieces) (piece ++ behind) rest ∙ ap (λ (b : List ℕ). spelled pieces ++ b) (append_assoc piece behind rest) in
    let (line, more, is, many) = line-long piece (behind ++ rest) (last-plain pieces piece each) far in
    accepted-all g (taken ++ rest) pieces line more TooLongLine lines (ap lines_of all ∙ lines_of-spelled pieces (piece ++ (behind ++ rest)) (each-front pieces piece each) ∙ ap (λ (ls : List (List ℕ)). pieces ++ ls) is) (long line many)

-- the bytes taken are the front of those that the source had
pub front-taken : (all taken : List ℕ) (left : Option (List ℕ)) → Some all ≡ with_front taken left → (rest : List ℕ) × (left ≡ Some rest) × (all ≡ taken ++ rest)
front-taken all taken None e = absurd (let never = e in cc)
front-taken all taken (Some rest) e = (rest, refl, (let same = e in cc))

-- no line of a good trace is refused
never-stuck : {Line Reply : Type 0} (g : Grammar Line Reply) (fault : LineFault) (skipped : ℕ) (lines : List Line) (io : Streams) (reader : Taking) → ((p : List ℕ) → 120 < length p → g.reads p ≡ Err TooLongLine) → IsGoodTrace g skipped io → ReadStuck fault g.reads skipped io.from io.feed reader lines → ⊥
never-stuck {Line = Line} {Reply = Reply} g fault skipped lines io reader long good stuck =
    let (rest, left, all) = front-taken good.bytes stuck.bytes io.feed.left (sym good.told ∙ stuck.source) in
    met-in-all {Line = Line} {Reply = Reply} g stuck.bytes rest stuck.pieces stuck.piece reader fault long stuck.each (λ ended. subst (λ (o : Option (List ℕ)). IsDry o) left (stuck.dry ended)) (subst (λ (b : List ℕ). EachOf (λ p. IsOk (g.reads p)) (lines_of b)) all good.lines) stuck.refused stuck.met

-- fewer bytes are taken than may be
never-spent : {Line Reply : Type 0} (g : Grammar Line Reply) (skipped : ℕ) (lines : List Line) (io : Streams) (reader : Taking) → reader.cap ≡ most_bytes → IsGoodTrace g skipped io → ReadBetween g.reads skipped io.from io.feed reader lines → reader.taken ≡ reader.cap → ⊥
never-spent g skipped lines io reader cap good between spent =
    let read = ReadBetween.read between in
    let (rest, left, all) = front-taken good.bytes (HasRead.bytes read) io.feed.left (sym good.told ∙ HasRead.source read) in
    let long = length-append (HasRead.bytes read) rest in
    let same = ap length all in
    let count = HasRead.count read in
    let short = good.short in
    omega arith

-- of the ends of a good trace two are left
pub good-ends : {Line Reply : Type 0} (end : End) (lines taken : ℕ) (g : Grammar Line Reply) (skipped : ℕ) (Done Dead : List (Turn Line Reply) → Type 0) (tail : List ℕ) (turns : List (Turn Line Reply)) (io : Streams) → ((p : List ℕ) → 120 < length p → g.reads p ≡ Err TooLongLine) → Serves end lines taken g skipped Done Dead tail turns io → IsGoodTrace g skipped io → (end ≡ EndDone) ⊎ Dead turns
good-ends EndDone lines taken g skipped Done Dead tail turns io long s good = inl refl
good-ends EndDead lines taken g skipped Done Dead tail turns io long s good = inr (Ends.served (Serves.ends s))
good-ends ReadFault lines taken g skipped Done Dead tail turns io long s good = absurd (still-low io.from.faults io.feed.faults good.reads (Ends.read (Serves.ends s)).1)
good-ends WriteFault lines taken g skipped Done Dead tail turns io long s good = absurd (never-cut g turns io.to io.sink good.writes (Ends.told (Serves.ends s)))
good-ends FlushFault lines taken g skipped Done Dead tail turns io long s good = absurd (let (mid, told, front) = Ends.told (Serves.ends s) in still-written tail io.to mid io.sink good.writes (Written.faults told) front)
good-ends (Refused fault) lines taken g skipped Done Dead tail turns io long s good = absurd (never-stuck g fault skipped (lines_done turns) io s.reader long good (Ends.read (Serves.ends s)))
good-ends TooLong lines taken g skipped Done Dead tail turns io long s good = absurd (let (between, spent) = Ends.read (Serves.ends s) in never-spent g skipped (lines_done turns) io s.reader s.cap good between spent)

-- What a line does, from the answer of its call and from how power returned.
use Rattle.std.proofs.Common.{◌≡◌, ◌⊎◌, inl, inr, ℕ, ◌+◌, ◌-◌, ◌^◌, ◌<◌, ◌≤◌, false, List, [], ◌∷◌, ◌++◌, length, take, refl, sym, ◌∙◌, ap, subst, arith}
use Rattle.std.specs.Prelude.{IsTrue, Option, Some, Result, Ok, Err, sum}
use Rattle.std.proofs.lemmas.Bool.{cases_lt}
use Rattle.std.proofs.Math.Seq.{take-append-add}
use Rattle.std.proofs.lemmas.List.{take-append-le}
use Rattle.envy_array.specs.Array.{Array, undone, restarted}
use Rattle.envy_base.specs.Shape.{version_of}
use Rattle.envy_base.proofs.Counting.{up-least, up-below}
use Rattle.envy_base.specs.declared.faults.PlannedFault.{PlannedFault}
use Rattle.envy_array.specs.Step.{Command, Lost as LostAs}
use Rattle.envy_base.specs.declared.shape.Shape.{Shape}
use Rattle.envy_engine.proofs.CountLemmas.{Tallies-trans}
use Rattle.envy_io.specs.declared.source.Failed.{Failed}
use Rattle.envy_io.specs.Lines.{newline}
use Rattle.envy_io.specs.Streams.{Drain, Rises, WritesAll, with_end}
use Rattle.envy_io.proofs.WritesLemmas.{with_end-with_end, with_end-nil}
use Rattle.envy_map.specs.Fields.{Chart}
use Rattle.envy_memory.proofs.Counted.{Tallies-stay, up-low}
use Rattle.envy_memory.proofs.Stepped.{lost-fresh}
use Rattle.envy_memory.specs.Picture.{Picture, counts_of}
use Rattle.envy_soundness.specs.Sound.{IsSound}
use Rattle.envy_meaning.specs.Stands.{Holds, Stands, IsLost as LostIn}
use Rattle.envy_soundness.specs.Words.{durable}
use Rattle.envy_memory.specs.Calls.{fresh, pulled}
use Rattle.envy_memory.specs.Rises.{RoseBy, RoseOver}
use Rattle.envy_trace.specs.declared.line.Line.{Line}
use Rattle.envy_trace.specs.declared.line.Line.TheVariants.{Empty as EmptyLine, Load as LoadLine, Look as LookLine, Store as StoreLine, Begin as BeginLine, Put as PutLine, Commit as CommitLine, Abort as AbortLine, Tick as TickLine, Power as PowerLine, Cut as CutLine, Bad as BadLine, Stat as StatLine}
use Rattle.envy_trace.specs.declared.reply.Reply.{Reply}
use Rattle.envy_trace.specs.declared.reply.Reply.TheVariants.{Word, Done as Said, Started, Range, Held, Closed, Full, Busy, Fault, Lost, Restarted, Armed, Stat}
use Rattle.envy_trace.specs.Replies.{reply_bytes}
use Rattle.envy_serve.specs.declared.service.LineOutcome.{LineOutcome}
use Rattle.envy_serve.specs.declared.service.LineOutcome.TheVariants.{Done, WriteFault, Dead}
use Rattle.envy_run.specs.Answers.{AnswersTo, AnswerLicence, LosesIn}
use Rattle.envy_run.specs.Below.{WorksOf}
use Rattle.envy_run.specs.Licence.{Licence, newest}
use Rattle.envy_run.specs.Obeys.{ObeysLine, Licensed, LineDone, LineDead}
use Rattle.envy_run.specs.Restarts.{Recovers, IsStillOff, IsBack}
use Rattle.envy_serve.specs.Streams.{Written, FrontWritten}
use Rattle.envy_serve.specs.Turns.{texts, one_if}
use Rattle.envy_serve.specs.Answering.{losable}
use Rattle.envy_run.specs.Turns.{Replies, trace_grammar, is_power, plan_of, is_lost, is_fault, before_restart}
use Rattle.envy_array.specs.declared.counts.Counts.{Counts}
use Rattle.envy_run.specs.Counters.{is_empty}
use Rattle.envy_run.specs.Hits.{accessed}
use Rattle.envy_run.specs.Spending.{Spends, programs_of, erases_of}
use Rattle.envy_run.specs.Tells.{CountsStay, Notes, Translates, hits_after, misses_after}
use Rattle.envy_run.proofs.Calm.{texts-one}
use Rattle.envy_run.proofs.Noting.{notes-empty, swaps-stay}
use Rattle.envy_run.proofs.Recovering.{Licence-trans}
use Rattle.envy_run.proofs.Replying.{Licence-refl}
use Rattle.envy_run.proofs.Spent.{spends-line, spends-none, spends-stay}

-- a licence under equal numbers
pub Licence-as : (a : ℕ) (b : List PlannedFault) (c d i : ℕ) (j : List PlannedFault) (k l : ℕ) (p q : Chart) → a ≡ i → b ≡ j → c ≡ k → d ≡ l → Licence a b c d p q → Licence i j k l p q
Licence-as a b c d i j k l p q ea eb ec ed x = record {
  shape = x.shape;
  given = x.given;
  pulled = λ lt. let e = x.pulled (omega arith) in omega arith;
  plans_made = subst (λ (fs : List PlannedFault). RoseBy (length fs) p.plans q.plans) eb x.plans_made;
  last_plan = subst (λ (fs : List PlannedFault). q.last_plan ≡ newest fs p.last_plan) eb x.last_plan;
  cuts = record { kept = RoseOver.kept x.cuts; rise = λ lt. let e = RoseOver.rise x.cuts lt in omega arith };
  bads = record { kept = RoseOver.kept x.bads; rise = λ lt. let e = RoseOver.rise x.bads lt in omega arith };
}

-- the line is neither empty nor `power`
abbrev IsSaidLine : Line → Type 0
IsSaidLine line = (is_power line ≡ false) × (before_restart line ≡ Lost ∷ []) × (is_empty line ≡ false)

-- a line with one reply is neither
replied : (May : Counts → Type 0) (m : Array) (line : Line) (reply : Reply) (n : Array) → Replies May m line reply n → IsSaidLine line
replied May m EmptyLine reply n r = absurd r
replied May m (LoadLine a) reply n r = (refl, refl, refl)
replied May m (LookLine a) reply n r = (refl, refl, refl)
replied May m (StoreLine a w) reply n r = (refl, refl, refl)
replied May m BeginLine reply n r = (refl, refl, refl)
replied May m (PutLine t a w) reply n r = (refl, refl, refl)
replied May m (CommitLine t) reply n r = (refl, refl, refl)
replied May m (AbortLine t) reply n r = (refl, refl, refl)
replied May m TickLine reply n r = (refl, refl, refl)
replied May m PowerLine reply n r = absurd r
replied May m (CutLine k g) reply n r = (refl, refl, refl)
replied May m (BadLine k g) reply n r = (refl, refl, refl)
replied May m StatLine reply n r = (refl, refl, refl)

-- nor is one in which power failed
lost-in : (line : Line) (command : Command) → losable line ≡ Some command → IsSaidLine line
lost-in EmptyLine command is = absurd (let never = is in cc)
lost-in (LoadLine a) command is = (refl, refl, refl)
lost-in (LookLine a) command is = (refl, refl, refl)
lost-in (StoreLine a w) command is = (refl, refl, refl)
lost-in BeginLine command is = (refl, refl, refl)
lost-in (PutLine t a w) command is = (refl, refl, refl)
lost-in (CommitLine t) command is = (refl, refl, refl)
lost-in (AbortLine t) command is = (refl, refl, refl)
lost-in TickLine command is = (refl, refl, refl)
lost-in PowerLine command is = absurd (let never = is in cc)
lost-in (CutLine k g) command is = (refl, refl, refl)
lost-in (BadLine k g) command is = (refl, refl, refl)
lost-in StatLine command is = (refl, refl, refl)

-- where power is on, the answer isn't `lost`
pub answered : (May : Counts → Type 0) (m : Array) (line : Line) (reply : Reply) (c : Chart) → IsTrue c.on → AnswersTo May m line reply c → (n : Array) × Replies May m line reply n × Stands c n
answered May m line (Word w) c on a = a
answered May m line Said c on a = a
answered May m line (Started t) c on a = a
answered May m line Range c on a = a
answered May m line (Held t) c on a = a
answered May m line Closed c on a = a
answered May m line Full c on a = a
answered May m line Busy c on a = a
answered May m line Fault c on a = a
answered May m line Lost c on a = absurd (let off = LostIn.off (LosesIn.lost a) in cc)
answered May m line Restarted c on a = a
answered May m line Armed c on a = a
answered May m line (Stat counts) c on a = a

pub one-more : (x : ℕ) → x ≡ x + 0
one-more x = omega arith

-- a call that was answered with power on
done-so : (May : Counts → Type 0) (m : Array) (line : Line) (reply : Reply) (old c : Picture) → IsTrue c.chart.on → AnswersTo May m line reply c.chart → AnswerLicence line reply old.chart c.chart → WorksOf line old.chart c.chart → Notes line (reply ∷ []) old c → (left : Array) × LineDone May m line (reply ∷ []) left old c
done-so May m line reply old c on a licence works notes =
    let (left, replies, stands) = answered May m line reply c.chart on a in
    let (no_power, before, full) = replied May m line reply left replies in (
      left,
      record {
        does = inr (inl (reply, refl, replies));
        stands = stands;
        licensed = Licence-as 0 (plan_of line) (one_if (is_lost reply)) (one_if (is_fault reply)) (one_if (is_power line)) (plan_of line) (one_if (is_lost reply) + 0) (one_if (is_fault reply) + 0) old.chart c.chart (sym (ap one_if no_power)) refl (one-more (one_if (is_lost reply))) (one-more (one_if (is_fault reply))) licence;
        spent = spends-line line old.chart c.chart works;
        notes = notes;
      },
    )

-- its reply was written
pub call-done : (May : Counts → Type 0) (m : Array) (line : Line) (reply : Reply) (old c : Picture) (sink then_sink : Drain) → IsTrue c.chart.on → AnswersTo May m line reply c.chart → AnswerLicence line reply old.chart c.chart → WorksOf line old.chart c.chart → Notes line (reply ∷ []) old c → WritesAll sink (reply_bytes reply ++ newline ∷ []) (Ok tt) then_sink → ObeysLine May m line Done old c sink then_sink
call-done May m line reply old c sink then_sink on a licence works notes (whole, faults, after) =
    let (left, done) = done-so May m line reply old c on a licence works notes in
    (reply ∷ [], left, done, record { whole = whole ∙ ap (with_end sink.written) (sym (texts-one reply)); faults = faults })

-- its reply was not written
pub call-failed : (May : Counts → Type 0) (m : Array) (line : Line) (reply : Reply) (old c : Picture) (sink then_sink : Drain) (failed : Failed) → IsTrue c.chart.on → AnswersTo May m line reply c.chart → AnswerLicence line reply old.chart c.chart → WorksOf line old.chart c.chart → Notes line (reply ∷ []) old c → WritesAll sink (reply_bytes reply ++ newline ∷ []) (Err failed) then_sink → ObeysLine May m line WriteFault old c sink then_sink
call-failed May m line reply old c sink then_sink failed on a licence works notes (n, lt, front, faults) =
    let (left, done) = done-so May m line reply old c on a licence works notes in
    (reply ∷ [], left, done, record { count = n; front = front ∙ ap (λ (t : List ℕ). with_end sink.written (take n t)) (sym (texts-one reply)); faults = faults })

-- two texts one after the other, of which the second has a front written
pub front-after : (a b c : Drain) (first second : List ℕ) → b.written ≡ with_end a.written first → a.faults ≤ b.faults → FrontWritten second b c → FrontWritten (first ++ second) a c
front-after a b c first second whole faults part = record {
  count = length first + part.count;
  front = part.front ∙ ap (λ (w : _). with_end w (take part.count second)) whole ∙ with_end-with_end a.written first (take part.count second) ∙ ap (with_end a.written) (sym (take-append-add first second part.count));
  faults = let later = part.faults in record { kept = omega (arith, Rises.kept later); more = λ lt. rises lt };
}
  where
    rises : a.faults < 2 ^ 64 - 1 → a.faults < c.faults
    rises lt = at (cases_lt b.faults (2 ^ 64 - 1))
      where
        at : (b.faults < 2 ^ 64 - 1) ⊎ (2 ^ 64 - 1 ≤ b.faults) → a.faults < c.faults
        at (inl below) = let more = Rises.more part.faults below in omega arith
        at (inr top) = let kept = Rises.kept part.faults in omega arith

-- a front of the first text is one of both
pub front-before : (a c : Drain) (first second : List ℕ) (n : ℕ) → n < length first → c.written ≡ with_end a.written (take n first) → Rises a.faults c.faults → FrontWritten (first ++ second) a c
front-before a c first second n lt front faults = record {
  count = n;
  front = front ∙ ap (with_end a.written) (sym (take-append-le n first second (omega arith)));
  faults = faults;
}

-- the access of a line that was lost
accessed-lost : (line : Line) → accessed line (Lost ∷ []) ≡ accessed line (Lost ∷ Restarted ∷ [])
accessed-lost EmptyLine = refl
accessed-lost (LoadLine a) = refl
accessed-lost (LookLine a) = refl
accessed-lost (StoreLine a w) = refl
accessed-lost BeginLine = refl
accessed-lost (PutLine t a w) = refl
accessed-lost (CommitLine t) = refl
accessed-lost (AbortLine t) = refl
accessed-lost TickLine = refl
accessed-lost PowerLine = refl
accessed-lost (CutLine k g) = refl
accessed-lost (BadLine k g) = refl
accessed-lost StatLine = refl

-- after a restart the entries are empty, and the counters are those of before
Notes-restarted : (line : Line) (old c new : Picture) → is_empty line ≡ false → Notes line (Lost ∷ []) old c → IsBack c new → Notes line (Lost ∷ Restarted ∷ []) old new
Notes-restarted line old c new full notes back =
    let stay = back.counts in
    let t = Notes.cache notes in
    let swapped = Notes.swaps notes in
    let kept = swaps-stay c new stay.counts in
    record {
      cache = record {
        size = stay.size ∙ Translates.size t;
        pages = back.vacant;
        hits = ap (λ (x : Counts). x.hits) stay.counts ∙ Translates.hits t ∙ ap (λ (o : Option ℕ). hits_after o old.parts.cache.entries old.parts.cache.hits) (accessed-lost line);
        misses = ap (λ (x : Counts). x.misses) stay.counts ∙ Translates.misses t ∙ ap (λ (o : Option ℕ). misses_after o old.parts.cache.entries old.parts.cache.misses) (accessed-lost line);
      };
      tallies = Tallies-trans _ _ _ _ _ _ (Notes.tallies notes) (Tallies-stay c new stay.counts stay.begun stay.erases);
      swaps = omega arith;
      tells = tt;
      empty = λ e. absurd (let never = full in cc);
    }

Notes-power : (old c new : Picture) → c ≡ record old { chart = pulled old.chart } → IsBack c new → Notes PowerLine (Restarted ∷ []) old new
Notes-power old c new is back =
    let stay = back.counts in
    let counts : counts_of new.parts ≡ counts_of old.parts = stay.counts ∙ ap (λ (p : Picture). counts_of p.parts) is in
    record {
      cache = record {
        size = stay.size ∙ ap (λ (p : Picture). length p.parts.cache.entries) is;
        pages = back.vacant;
        hits = ap (λ (x : Counts). x.hits) counts;
        misses = ap (λ (x : Counts). x.misses) counts;
      };
      tallies = Tallies-stay old new counts (stay.begun ∙ ap (λ (p : Picture). p.chart.begun) is) (stay.erases ∙ ap (λ (p : Picture). sum p.chart.erases) is);
      swaps = swaps-stay old new counts;
      tells = tt;
      empty = λ e. absurd (let never = e in cc);
    }

-- power failed in a call, and was asked for
pub call-recovers : (May : Counts → Type 0) (m : Array) (line : Line) (reply : Reply) (old c new : Picture) (sink mid_sink then_sink : Drain) (wrote : Result Unit Failed) (obeyed : LineOutcome) → Stands old.chart m → c.chart.shape ≡ old.chart.shape → reply ≡ Lost → AnswersTo May m line reply c.chart → AnswerLicence line reply old.chart c.chart → WorksOf line old.chart c.chart → Notes line (reply ∷ []) old c → WritesAll sink (reply_bytes reply ++ newline ∷ []) wrote mid_sink → Recovers wrote obeyed c new mid_sink then_sink → ObeysLine May m line obeyed old new sink then_sink
call-recovers May m line reply old c new sink mid_sink then_sink wrote obeyed stood shape is a licence works notes writes recovers =
    lost-so (subst (λ (r : Reply). AnswersTo May m line r c.chart) is a) (subst (λ (r : Reply). AnswerLicence line r old.chart c.chart) is licence) wrote obeyed (subst (λ (r : Reply). WritesAll sink (reply_bytes r ++ newline ∷ []) wrote mid_sink) is writes) recovers
  where
    first : List ℕ
    first = reply_bytes Lost ++ newline ∷ []

    shadows : m.shadows ≡ c.chart.shape.shadows
    shadows = Holds.shadows stood.holds ∙ ap (λ (sh : Shape). sh.shadows) (sym shape)

    back-so : (loses : LosesIn m line c.chart) → IsBack c new → (left : Array) × LostAs m (LosesIn.command loses) left × Stands new.chart left
    back-so loses back =
        let (left, lost, words) = LostIn.words (LosesIn.lost loses) in
        (left, lost, subst (λ (x : Array). Stands new.chart x) (lost-fresh m (LosesIn.command loses) left lost) (subst (λ (s : ℕ). Stands new.chart (fresh s left.words)) (sym shadows) (subst (λ (ws : List ℕ). Stands new.chart (fresh c.chart.shape.shadows ws)) words back.stands)))

    said-so : (loses : LosesIn m line c.chart) → IsSaidLine line
    said-so loses = lost-in line loses.command loses.is

    licensed-both : LosesIn m line c.chart → AnswerLicence line Lost old.chart c.chart → Licence 0 [] 0 0 c.chart new.chart → Licensed line (Lost ∷ Restarted ∷ []) old.chart new.chart
    licensed-both loses x y = Licence-as 0 (plan_of line) 1 0 (one_if (is_power line)) (plan_of line) 1 0 old.chart new.chart (sym (ap one_if (said-so loses).0)) refl refl refl (Licence-trans 0 (plan_of line) 1 0 0 [] 0 0 old.chart c.chart new.chart x y)

    licensed-one : LosesIn m line c.chart → AnswerLicence line Lost old.chart c.chart → Licence 0 [] 0 0 c.chart new.chart → Licensed line (Lost ∷ []) old.chart new.chart
    licensed-one loses x y = Licence-as 0 (plan_of line) 1 0 (one_if (is_power line)) (plan_of line) 1 0 old.chart new.chart (sym (ap one_if (said-so loses).0)) refl refl refl (Licence-trans 0 (plan_of line) 1 0 0 [] 0 0 old.chart c.chart new.chart x y)

    spent-so : CountsStay c new → Spends (programs_of old.chart.shape.rows line) (erases_of line) old.chart new.chart
    spent-so stay = spends-stay (programs_of old.chart.shape.rows line) (erases_of line) old.chart c new (spends-line line old.chart c.chart works) stay

    notes-back : LosesIn m line c.chart → IsBack c new → Notes line (Lost ∷ Restarted ∷ []) old new
    notes-back loses back = Notes-restarted line old c new (said-so loses).2 (subst (λ (r : Reply). Notes line (r ∷ []) old c) is notes) back

    done-both : AnswerLicence line Lost old.chart c.chart → (loses : LosesIn m line c.chart) → IsBack c new → (left : Array) × LineDone May m line (Lost ∷ Restarted ∷ []) left old new
    done-both x loses back =
        let (left, lost, stands) = back-so loses back in
        (left, record { does = inr (inr (inl (refl, record { command = loses.command; is = loses.is; lost = lost }))); stands = stands; licensed = licensed-both loses x back.licence; spent = spent-so back.counts; notes = notes-back loses back })

    dead-so : AnswerLicence line Lost old.chart c.chart → (loses : LosesIn m line c.chart) → IsStillOff c new → new.chart.lives ≡ 0 → LineDead m line old.chart new.chart
    dead-so x loses still dead =
        let (left, lost, words) = LostIn.words (LosesIn.lost loses) in
        record {
          off = still.off;
          magic = still.magic ∙ LostIn.magic loses.lost;
          version = still.version ∙ LostIn.version loses.lost ∙ ap version_of (sym still.shape);
          sound = still.sound (LostIn.sound loses.lost);
          dead = dead;
          found = (left, inl (record { command = loses.command; is = loses.is; lost = lost }), still.durable ∙ words);
          licensed = subst (λ (rs : List Reply). Licensed line rs old.chart new.chart) (sym (said-so loses).1) (licensed-one loses x still.licence);
          spent = spent-so still.counts;
        }

    lost-so : LosesIn m line c.chart → AnswerLicence line Lost old.chart c.chart → (wrote : Result Unit Failed) (obeyed : LineOutcome) → WritesAll sink first wrote mid_sink → Recovers wrote obeyed c new mid_sink then_sink → ObeysLine May m line obeyed old new sink then_sink
    lost-so loses x (Ok done) Done (whole, faults, after) (ok, back, told) =
        let (left, done_both) = done-both x loses back in
        (Lost ∷ Restarted ∷ [], left, done_both, record { whole = told.whole ∙ ap (λ (w : _). with_end w (texts trace_grammar (Restarted ∷ []))) whole ∙ with_end-with_end sink.written first (texts trace_grammar (Restarted ∷ [])); faults = let later = told.faults in omega arith })
    lost-so loses x (Err failed) Done writes (ok, back, told) = absurd (let never = ok in cc)
    lost-so loses x (Ok done) WriteFault (whole, faults, after) (back, inl (err, same)) = absurd (let never = err in cc)
    lost-so loses x (Ok done) WriteFault (whole, faults, after) (back, inr (ok, part)) =
        let (left, done_both) = done-both x loses back in
        (Lost ∷ Restarted ∷ [], left, done_both, front-after sink mid_sink then_sink first (texts trace_grammar (Restarted ∷ [])) whole faults part)
    lost-so loses x (Err failed) WriteFault (n, lt, front, faults) (back, inl (err, same)) =
        let (left, done_both) = done-both x loses back in
        (Lost ∷ Restarted ∷ [], left, done_both, front-before sink then_sink first (texts trace_grammar (Restarted ∷ [])) n lt (ap (λ (d : Drain). d.written) same ∙ front) (subst (λ (d : Drain). Rises sink.faults d.faults) (sym same) faults))
    lost-so loses x (Err failed) WriteFault writes (back, inr (ok, part)) = absurd (let never = ok in cc)
    lost-so loses x (Ok done) Dead (whole, faults, after) (still, dead, same) =
        (dead-so x loses still dead, inl (subst (λ (rs : List Reply). Written (texts trace_grammar rs) sink then_sink) (sym (said-so loses).1) (subst (λ (d : Drain). Written (texts trace_grammar (Lost ∷ [])) sink d) (sym same) (record { whole = whole ∙ ap (with_end sink.written) (sym (texts-one Lost)); faults = faults }))))
    lost-so loses x (Err failed) Dead (n, lt, front, faults) (still, dead, same) =
        (dead-so x loses still dead, inr (subst (λ (rs : List Reply). FrontWritten (texts trace_grammar rs) sink then_sink) (sym (said-so loses).1) (subst (λ (d : Drain). FrontWritten (texts trace_grammar (Lost ∷ [])) sink d) (sym same) (record { count = n; front = front ∙ ap (λ (t : List ℕ). with_end sink.written (take n t)) (sym (texts-one Lost)); faults = faults }))))

-- power was cut by the line, and was asked for
pub power-recovers : (May : Counts → Type 0) (m : Array) (old c new : Picture) (sink then_sink : Drain) (obeyed : LineOutcome) → Stands old.chart m → c ≡ record old { chart = pulled old.chart } → IsSound c.chart × (durable c.chart ≡ undone m) → Recovers (Ok tt) obeyed c new sink then_sink → ObeysLine May m PowerLine obeyed old new sink then_sink
power-recovers May m old c new sink then_sink obeyed stood is (sound, words) recovers = at obeyed recovers
  where
    shadows : m.shadows ≡ c.chart.shape.shadows
    shadows = Holds.shadows stood.holds ∙ ap (λ (x : Picture). x.chart.shape.shadows) (sym is)

    cut : Licence 1 [] 0 0 old.chart c.chart
    cut = subst (λ (x : Picture). Licence 1 [] 0 0 old.chart x.chart) (sym is) (record {
      shape = refl;
      given = refl;
      pulled = λ lt. up-low old.chart.pulled lt;
      plans_made = λ lt. omega arith;
      last_plan = refl;
      cuts = record { kept = up-least old.chart.cuts; rise = λ lt. let e = up-below old.chart.cuts lt in omega arith };
      bads = record { kept = omega arith; rise = λ lt. omega arith };
    })

    spent-so : CountsStay c new → Spends 0 0 old.chart new.chart
    spent-so stay = spends-none 0 0 old.chart new.chart (stay.begun ∙ ap (λ (p : Picture). p.chart.begun) is) (stay.erases ∙ ap (λ (p : Picture). sum p.chart.erases) is)

    done-so_power : IsBack c new → LineDone May m PowerLine (Restarted ∷ []) (restarted m) old new
    done-so_power back = record {
      does = inr (inr (inr (refl, refl, refl)));
      stands = subst (λ (s : ℕ). Stands new.chart (fresh s (undone m))) (sym shadows) (subst (λ (ws : List ℕ). Stands new.chart (fresh c.chart.shape.shadows ws)) words back.stands);
      licensed = Licence-trans 1 [] 0 0 0 [] 0 0 old.chart c.chart new.chart cut back.licence;
      spent = spent-so back.counts;
      notes = Notes-power old c new is back;
    }

    at : (obeyed : LineOutcome) → Recovers (Ok tt) obeyed c new sink then_sink → ObeysLine May m PowerLine obeyed old new sink then_sink
    at Done (ok, back, told) = (Restarted ∷ [], restarted m, done-so_power back, told)
    at WriteFault (back, inl (err, same)) = absurd (let never = err in cc)
    at WriteFault (back, inr (ok, part)) = (Restarted ∷ [], restarted m, done-so_power back, part)
    at Dead (still, dead, same) = (
      record { off = still.off; magic = still.magic ∙ ap (λ (x : Picture). x.chart.fields.magic) is ∙ Holds.magic stood.holds; version = still.version ∙ ap (λ (x : Picture). x.chart.fields.version) is ∙ Holds.version stood.holds ∙ ap (λ (x : Picture). version_of x.chart.shape) (sym is) ∙ ap version_of (sym still.shape); sound = still.sound sound; dead = dead; found = (restarted m, inr (refl, refl), still.durable ∙ words); licensed = Licence-trans 1 [] 0 0 0 [] 0 0 old.chart c.chart new.chart cut still.licence; spent = spent-so still.counts },
      inl (subst (λ (d : Drain). Written [] sink d) (sym same) (record { whole = sym (with_end-nil sink.written); faults = omega arith })),
    )

-- an empty line does nothing
pub empty-done : (May : Counts → Type 0) (m : Array) (line : Line) (c : Picture) (sink : Drain) → line ≡ EmptyLine → Stands c.chart m → ObeysLine May m line Done c c sink sink
empty-done May m line c sink is stood = subst (λ (l : Line). ObeysLine May m l Done c c sink sink) (sym is)
    ([], m, record { does = inl (refl, refl, refl); stands = stood; licensed = Licence-refl c.chart; spent = spends-none 0 0 c.chart c.chart refl refl; notes = notes-empty c }, record { whole = sym (with_end-nil sink.written); faults = omega arith })

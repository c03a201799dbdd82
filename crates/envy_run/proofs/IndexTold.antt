-- What an index did in a line and in a trace, from what its calls say.
use Rattle.std.proofs.Common.{◌≡◌, ◌⊎◌, inl, inr, ℕ, ◌+◌, ◌*◌, ◌^◌, ◌<◌, ◌≤◌, Bool, true, false, List, [], ◌∷◌, ◌++◌, take, refl, sym, ◌∙◌, ap, subst, arith}
use Rattle.std.specs.Prelude.{IsTrue, Option, None, Some, IfSome, Result, Ok, Err, replicate, ◌↔◌, ◌&&◌}
use Rattle.std.proofs.lemmas.List.{append-nil}
use Rattle.envy_base.specs.declared.faults.PlannedFault.{PlannedFault}
use Rattle.envy_base.specs.Shape.{IsShape, version_of}
use Rattle.envy_base.specs.State.{State, IsMade}
use Rattle.envy_base.proofs.Counting.{up-least, up-below}
use Rattle.envy_array.proofs.Undoing.{undo_all-closed}
use Rattle.envy_base.specs.declared.shape.Shape.{Shape}
use Rattle.envy_btree.specs.Grammar.{index_line_of}
use Rattle.envy_btree.specs.Index.{IsIndex}
use Rattle.envy_btree.specs.Replies.{index_bytes}
use Rattle.envy_btree.specs.Spelling.{IsIndexLine, ReadsIndex}
use Rattle.envy_btree.proofs.Readiness.{zeros-index}
use Rattle.envy_btree.specs.declared.line.IndexLine.{IndexLine}
use Rattle.envy_btree.specs.declared.line.IndexLine.TheVariants.{Empty, Get, Insert, Remove, Power, Cut, Bad}
use Rattle.envy_btree.specs.declared.reply.IndexReply.{IndexReply}
use Rattle.envy_btree.specs.declared.reply.IndexReply.TheVariants.{Value, Missing, Full, Fault, Lost, Restarted, Armed}
use Rattle.envy_io.specs.declared.source.Failed.{Failed}
use Rattle.envy_io.specs.Lines.{newline}
use Rattle.envy_io.specs.Streams.{Feed, Drain, Rises, WritesAll, with_end}
use Rattle.envy_io.proofs.WritesLemmas.{with_end-with_end, with_end-nil}
use Rattle.envy_soundness.specs.Same.{Kept, Counted}
use Rattle.envy_soundness.specs.Sound.{IsSound}
use Rattle.envy_meaning.specs.Stands.{Stands, Holds}
use Rattle.envy_soundness.specs.Words.{durable}
use Rattle.envy_map.specs.Codes.{the_magic}
use Rattle.envy_map.specs.Fields.{Chart, chart}
use Rattle.envy_memory.proofs.Counted.{up-low}
use Rattle.envy_memory.specs.Below.{flush_programs, flush_erases}
use Rattle.envy_memory.specs.Calls.{fresh, lit, pulled}
use Rattle.envy_memory.specs.Formats.{IsFresh}
use Rattle.envy_memory.specs.Picture.{Picture}
use Rattle.envy_memory.specs.Sheets.{sheet_of}
use Rattle.envy_policy.specs.declared.setup.Setup.{Setup}
use Rattle.envy_serve.specs.declared.service.LineOutcome.{LineOutcome}
use Rattle.envy_serve.specs.declared.service.LineOutcome.TheVariants.{Done, WriteFault, Dead}
use Rattle.envy_serve.specs.declared.server.End.{End}
use Rattle.envy_serve.specs.Ends.{Serves, Ends, most_bytes}
use Rattle.envy_serve.specs.Obeys.{Obeys}
use Rattle.envy_serve.specs.Streams.{Streams, Written, FrontWritten}
use Rattle.envy_serve.specs.Turns.{count_lines, count_replies, one_if, texts}
use Rattle.envy_serve.proofs.Advancing.{Serves-as, served-either}
use Rattle.envy_run.specs.Done.{OnBoard}
use Rattle.envy_run.specs.Headline.{index_task}
use Rattle.envy_run.specs.IndexDone.{HoldsIndex, HoldsIndexOff, IndexDies, IndexLicences}
use Rattle.envy_run.specs.IndexServing.{Serving, LostAt, AnswersIndex, ReplyLicence, LineLicence, IndexOff, IndexBack, RecoversIndex, IndexLineDone, IndexLineDead, ObeysIndex, IndexedSince, FellIn, FellSince}
use Rattle.envy_run.specs.IndexSpending.{SpendsPuts, puts_of, puts_in}
use Rattle.envy_run.specs.IndexTurns.{Pairs, IndexTurn, IndexRun, Says, Faults, Loses, is_command, FailsIn, index_grammar, most_of, before_restart, is_power, plan_of, is_lost, is_fault}
use Rattle.envy_run.specs.Licence.{Licence, plans_in}
use Rattle.envy_run.specs.Outcome.{Outcome, ending_of, outcome_of}
use Rattle.envy_run.specs.Prepares.{IsPrepared, IsReady, NoneBegun, WasMade}
use Rattle.envy_run.specs.Task.{DoesTask}
use Rattle.envy_run.specs.declared.endings.Finished.{Finished}
use Rattle.envy_run.proofs.Accounts.{account_of, served_outcome, unread}
use Rattle.envy_run.proofs.IndexSpent.{puts-none, puts-then, puts-more, spends-lit}
use Rattle.envy_run.proofs.Obeying.{Licence-as, front-after, front-before, one-more}
use Rattle.envy_run.proofs.Recovering.{Licence-trans, Licence-revived}
use Rattle.envy_run.proofs.Replying.{Licence-refl}
use Rattle.envy_run.proofs.Spent.{spends-none}
use Rattle.envy_run.proofs.Traced.{tried-on}
use Rattle.envy_run.proofs.IndexLicensed.{IndexBegan, licences-none, licences-since}

texts-one : (reply : IndexReply) → texts index_grammar (reply ∷ []) ≡ index_bytes reply ++ newline ∷ []
texts-one reply = append-nil (index_bytes reply ++ newline ∷ [])

-- what the map answers is no reply to a line `power`
says-no-power : (most : ℕ) (es : Pairs) (line : IndexLine) (reply : IndexReply) (n : Pairs) → Says most es line reply n ⊎ Faults most es line reply n → is_power line ≡ false
says-no-power most es Empty reply n says = refl
says-no-power most es (Get key) reply n says = refl
says-no-power most es (Insert key value) reply n says = refl
says-no-power most es (Remove key) reply n says = refl
says-no-power most es Power reply n (inl never) = absurd never
says-no-power most es Power reply n (inr never) = absurd never
says-no-power most es (Cut k g) reply n says = refl
says-no-power most es (Bad k g) reply n says = refl

-- nor is power lost in one
lost-no-power : (line : IndexLine) → IsTrue (is_command line) → (is_power line ≡ false) × (before_restart line ≡ Lost ∷ [])
lost-no-power Empty command = (refl, refl)
lost-no-power (Get key) command = (refl, refl)
lost-no-power (Insert key value) command = (refl, refl)
lost-no-power (Remove key) command = (refl, refl)
lost-no-power Power command = absurd (let never : false ≡ true = command in cc)
lost-no-power (Cut k g) command = (refl, refl)
lost-no-power (Bad k g) command = (refl, refl)

-- ---- restarts

off-more : (a b c : Chart) → IndexOff a b → Kept (lit b) c → c.on ≡ false → IndexOff a c
off-more a b c x kept off = record { off = off; durable = kept.durable ∙ x.durable; licence = Licence-trans 0 [] 0 0 0 [] 0 0 a b c x.licence (Licence-revived b c kept); spent = spends-lit a b c x.spent kept }

pub off-again : {E : Type 0} (a : Chart) (b c : Picture) → IndexOff a b.chart → (E × (c ≡ b)) ⊎ (Kept (lit b.chart) c.chart × (c.chart.on ≡ false)) → IndexOff a c.chart
off-again a b c x (inl (never, same)) = subst (λ (p : Picture). IndexOff a p.chart) (sym same) x
off-again a b c x (inr (kept, off)) = off-more a b.chart c.chart x kept off

pub off-dead : {E : Type 0} (a : Chart) (b c : Picture) → IndexOff a b.chart → (E × (c ≡ b)) ⊎ (Kept (lit b.chart) c.chart × (c.chart.on ≡ false)) → b.chart.lives ≡ 0 → IndexOff a c.chart × (c.chart.lives ≡ 0)
off-dead {E} a b c x (inl (never, same)) none = (off-again {E = E} a b c x (inl (never, same)), ap (λ (p : Picture). p.chart.lives) same ∙ none)
off-dead {E} a b c x (inr (kept, off)) none = (off-again {E = E} a b c x (inr (kept, off)), let e = Counted.lives kept.counted in omega arith)

and-shut : (on begun : Bool) → begun ≡ false → (on && begun) ≡ false
and-shut true begun shut = shut
and-shut false begun shut = refl

pub back-after : (a b : Chart) (c : Picture) (begun : Bool) → IndexOff a b → Kept (lit b) c.chart → IsTrue c.chart.on → begun ≡ false → IndexBack a c begun
back-after a b c begun x kept on shut = record { on = on; shut = and-shut c.chart.on begun shut; durable = kept.durable ∙ x.durable; licence = Licence-trans 0 [] 0 0 0 [] 0 0 a b c.chart x.licence (Licence-revived b c.chart kept); spent = spends-lit a b c.chart x.spent kept }

-- ---- one line

one-line : (most : ℕ) (es : Pairs) (line : IndexLine) (reply : IndexReply) (old : Chart) (new : Picture) (begun : Bool) → IsTrue new.chart.on → AnswersIndex most es line reply new begun → ReplyLicence line reply old new.chart → SpendsPuts (puts_of line) old new.chart → (left : Pairs) × IndexLineDone most es line (reply ∷ []) left old new begun
one-line most es line reply old new begun on answers licence spent = at reply answers licence
  where
    so : (reply : IndexReply) → (n : Pairs) × (Says most es line reply n ⊎ Faults most es line reply n) × Serving new begun n → ReplyLicence line reply old new.chart → (left : Pairs) × IndexLineDone most es line (reply ∷ []) left old new begun
    so reply (n, says, serving) x = (
      n,
      record {
        does = inr (inl (reply, refl, says));
        serving = serving;
        licensed = Licence-as 0 (plan_of line) (one_if (is_lost reply)) (one_if (is_fault reply)) (one_if (is_power line)) (plan_of line) (one_if (is_lost reply) + 0) (one_if (is_fault reply) + 0) old new.chart (sym (ap one_if (says-no-power most es line reply n says))) refl (one-more (one_if (is_lost reply))) (one-more (one_if (is_fault reply))) x;
        spent = spent;
      },
    )

    at : (reply : IndexReply) → AnswersIndex most es line reply new begun → ReplyLicence line reply old new.chart → (left : Pairs) × IndexLineDone most es line (reply ∷ []) left old new begun
    at (Value v) a x = so (Value v) a x
    at Missing a x = so Missing a x
    at Full a x = so Full a x
    at Fault a x = so Fault a x
    at Lost a x = absurd (let off = LostAt.off a in let clash : true ≡ false = sym on ∙ off in cc)
    at Restarted a x = so Restarted a x
    at Armed a x = so Armed a x

-- an answer that isn't `lost` leaves power on
lit-after : (most : ℕ) (es : Pairs) (line : IndexLine) (reply : IndexReply) (new : Picture) (begun : Bool) → (reply ≡ Lost → ⊥) → AnswersIndex most es line reply new begun → IsTrue new.chart.on
lit-after most es line (Value v) new begun other (n, says, s) = Serving.on s
lit-after most es line Missing new begun other (n, says, s) = Serving.on s
lit-after most es line Full new begun other (n, says, s) = Serving.on s
lit-after most es line Fault new begun other (n, says, s) = Serving.on s
lit-after most es line Lost new begun other a = absurd (other refl)
lit-after most es line Restarted new begun other (n, says, s) = Serving.on s
lit-after most es line Armed new begun other (n, says, s) = Serving.on s

pub index-done : (most : ℕ) (es : Pairs) (line : IndexLine) (reply : IndexReply) (old : Chart) (new : Picture) (begun : Bool) (sink then_sink : Drain) → (reply ≡ Lost → ⊥) → AnswersIndex most es line reply new begun → ReplyLicence line reply old new.chart → SpendsPuts (puts_of line) old new.chart → WritesAll sink (index_bytes reply ++ newline ∷ []) (Ok tt) then_sink → ObeysIndex most es line Done old new begun sink then_sink
index-done most es line reply old new begun sink then_sink other a x spent (whole, faults, after) =
    let (left, done) = one-line most es line reply old new begun (lit-after most es line reply new begun other a) a x spent in
    (reply ∷ [], left, done, record { whole = whole ∙ ap (with_end sink.written) (sym (texts-one reply)); faults = faults })

pub index-failed : (most : ℕ) (es : Pairs) (line : IndexLine) (reply : IndexReply) (old : Chart) (new : Picture) (begun : Bool) (sink then_sink : Drain) (failed : Failed) → (reply ≡ Lost → ⊥) → AnswersIndex most es line reply new begun → ReplyLicence line reply old new.chart → SpendsPuts (puts_of line) old new.chart → WritesAll sink (index_bytes reply ++ newline ∷ []) (Err failed) then_sink → ObeysIndex most es line WriteFault old new begun sink then_sink
index-failed most es line reply old new begun sink then_sink failed other a x spent (n, lt, front, faults) =
    let (left, done) = one-line most es line reply old new begun (lit-after most es line reply new begun other a) a x spent in
    (reply ∷ [], left, done, record { count = n; front = front ∙ ap (λ (t : List ℕ). with_end sink.written (take n t)) (sym (texts-one reply)); faults = faults })

-- what stays while power is off
pub record Stays (es : Pairs) (old c : Chart) : Type 0 where
  pub room : 32 ≤ c.shape.shadows
  pub size : 32 * c.shape.pages ≤ 2 ^ 25

back-serving : (es : Pairs) (old c : Chart) (new : Picture) (begun : Bool) → Stays es old c → IndexBack c new begun → IsIndex (durable c) es → Serving new begun es
back-serving es old c new begun stays back map =
    let shadows = ap (λ (sh : Shape). sh.shadows) (Licence.shape back.licence) in
    let pages = ap (λ (sh : Shape). sh.pages) (Licence.shape back.licence) in
    let room = stays.room in
    let size = stays.size in
    record { on = back.on; shut = back.shut; room = omega arith; size = omega arith; map = subst (λ (ws : List ℕ). IsIndex ws es) (sym back.durable) map }

pub index-recovers : (most : ℕ) (es : Pairs) (line : IndexLine) (reply : IndexReply) (old c : Chart) (new : Picture) (b begun : Bool) (p : Picture) (sink mid_sink then_sink : Drain) (wrote : Result Unit Failed) (obeyed : LineOutcome) → p.chart ≡ c → Stays es old c → reply ≡ Lost → AnswersIndex most es line reply p b → ReplyLicence line reply old c → SpendsPuts (puts_of line) old c → WritesAll sink (index_bytes reply ++ newline ∷ []) wrote mid_sink → RecoversIndex wrote obeyed c new begun mid_sink then_sink → ObeysIndex most es line obeyed old new begun sink then_sink
index-recovers most es line reply old c new b begun p sink mid_sink then_sink wrote obeyed same stays is a x spent writes recovers =
    lost-so (subst (λ (d : Chart). LostAt most es line d) same (subst (λ (r : IndexReply). AnswersIndex most es line r p b) is a)) (subst (λ (r : IndexReply). ReplyLicence line r old c) is x) wrote obeyed (subst (λ (r : IndexReply). WritesAll sink (index_bytes r ++ newline ∷ []) wrote mid_sink) is writes) recovers
  where
    first : List ℕ
    first = index_bytes Lost ++ newline ∷ []

    no-power : LostAt most es line c → (is_power line ≡ false) × (before_restart line ≡ Lost ∷ [])
    no-power l = lost-no-power line (Loses.command (LostAt.loses l))

    licensed-one : LostAt most es line c → ReplyLicence line Lost old c → Licence 0 [] 0 0 c new.chart → LineLicence line (Lost ∷ []) old new.chart
    licensed-one l y z = Licence-as 0 (plan_of line) 1 0 (one_if (is_power line)) (plan_of line) 1 0 old new.chart (sym (ap one_if (no-power l).0)) refl refl refl (Licence-trans 0 (plan_of line) 1 0 0 [] 0 0 old c new.chart y z)

    done-both : ReplyLicence line Lost old c → (l : LostAt most es line c) → IndexBack c new begun → IndexLineDone most es line (Lost ∷ Restarted ∷ []) (LostAt.left l) old new begun
    done-both y l back = record { does = inr (inr (inl (refl, LostAt.loses l))); serving = back-serving (LostAt.left l) old c new begun (record { room = stays.room; size = stays.size }) back (LostAt.map l); licensed = licensed-one l y back.licence; spent = puts-then (puts_of line) old c new.chart spent back.spent }

    dead-so : ReplyLicence line Lost old c → LostAt most es line c → IndexOff c new.chart → new.chart.lives ≡ 0 → IndexLineDead most es line old new.chart
    dead-so y l off dead = record {
      off = off.off;
      dead = dead;
      found = (LostAt.left l, inl (LostAt.loses l), subst (λ (ws : List ℕ). IsIndex ws (LostAt.left l)) (sym off.durable) (LostAt.map l));
      licensed = subst (λ (rs : List IndexReply). LineLicence line rs old new.chart) (sym (no-power l).1) (licensed-one l y off.licence);
      spent = puts-then (puts_of line) old c new.chart spent off.spent;
    }

    lost-so : LostAt most es line c → ReplyLicence line Lost old c → (wrote : Result Unit Failed) (obeyed : LineOutcome) → WritesAll sink first wrote mid_sink → RecoversIndex wrote obeyed c new begun mid_sink then_sink → ObeysIndex most es line obeyed old new begun sink then_sink
    lost-so l y (Ok done) Done (whole, faults, after) (ok, back, told) =
        (Lost ∷ Restarted ∷ [], LostAt.left l, done-both y l back, record { whole = told.whole ∙ ap (λ (w : _). with_end w (texts index_grammar (Restarted ∷ []))) whole ∙ with_end-with_end sink.written first (texts index_grammar (Restarted ∷ [])); faults = let later = told.faults in omega arith })
    lost-so l y (Err failed) Done writes_all (ok, back, told) = absurd (let never = ok in cc)
    lost-so l y (Ok done) WriteFault (whole, faults, after) (back, inl (err, kept)) = absurd (let never = err in cc)
    lost-so l y (Ok done) WriteFault (whole, faults, after) (back, inr (ok, part)) =
        (Lost ∷ Restarted ∷ [], LostAt.left l, done-both y l back, front-after sink mid_sink then_sink first (texts index_grammar (Restarted ∷ [])) whole faults part)
    lost-so l y (Err failed) WriteFault (n, lt, front, faults) (back, inl (err, kept)) =
        (Lost ∷ Restarted ∷ [], LostAt.left l, done-both y l back, front-before sink then_sink first (texts index_grammar (Restarted ∷ [])) n lt (ap (λ (d : Drain). d.written) kept ∙ front) (subst (λ (d : Drain). Rises sink.faults d.faults) (sym kept) faults))
    lost-so l y (Err failed) WriteFault writes_all (back, inr (ok, part)) = absurd (let never = ok in cc)
    lost-so l y (Ok done) Dead (whole, faults, after) (off, dead, kept) =
        (dead-so y l off dead, inl (subst (λ (rs : List IndexReply). Written (texts index_grammar rs) sink then_sink) (sym (no-power l).1) (subst (λ (d : Drain). Written (texts index_grammar (Lost ∷ [])) sink d) (sym kept) (record { whole = whole ∙ ap (with_end sink.written) (sym (texts-one Lost)); faults = faults }))))
    lost-so l y (Err failed) Dead (n, lt, front, faults) (off, dead, kept) =
        (dead-so y l off dead, inr (subst (λ (rs : List IndexReply). FrontWritten (texts index_grammar rs) sink then_sink) (sym (no-power l).1) (subst (λ (d : Drain). FrontWritten (texts index_grammar (Lost ∷ [])) sink d) (sym kept) (record { count = n; front = front ∙ ap (λ (t : List ℕ). with_end sink.written (take n t)) (sym (texts-one Lost)); faults = faults }))))

pub index-power : (most : ℕ) (es : Pairs) (p c new : Picture) (b begun : Bool) (sink then_sink : Drain) (obeyed : LineOutcome) → Serving p b es → c ≡ record p { chart = pulled p.chart } → RecoversIndex (Ok tt) obeyed c.chart new begun sink then_sink → ObeysIndex most es Power obeyed p.chart new begun sink then_sink
index-power most es p c new b begun sink then_sink obeyed s is recovers = at obeyed recovers
  where
    cut : Licence 1 [] 0 0 p.chart c.chart
    cut = subst (λ (x : Picture). Licence 1 [] 0 0 p.chart x.chart) (sym is) (record {
      shape = refl;
      given = refl;
      pulled = λ lt. up-low p.chart.pulled lt;
      plans_made = λ lt. omega arith;
      last_plan = refl;
      cuts = record { kept = up-least p.chart.cuts; rise = λ lt. let e = up-below p.chart.cuts lt in omega arith };
      bads = record { kept = omega arith; rise = λ lt. omega arith };
    })

    cut-spent : SpendsPuts 0 p.chart c.chart
    cut-spent = subst (λ (x : Picture). SpendsPuts 0 p.chart x.chart) (sym is) (spends-none (0 * flush_programs p.chart.shape.rows) (0 * flush_erases) p.chart (pulled p.chart) refl refl)

    map : IsIndex (durable c.chart) es
    map = subst (λ (x : Picture). IsIndex (durable x.chart) es) (sym is) s.map

    stays : Stays es p.chart c.chart
    stays = subst (λ (x : Picture). Stays es p.chart x.chart) (sym is) (record { room = s.room; size = s.size })

    done-so : IndexBack c.chart new begun → IndexLineDone most es Power (Restarted ∷ []) es p.chart new begun
    done-so back = record { does = inr (inr (inr (refl, refl, refl))); serving = back-serving es p.chart c.chart new begun stays back map; licensed = Licence-trans 1 [] 0 0 0 [] 0 0 p.chart c.chart new.chart cut back.licence; spent = puts-then 0 p.chart c.chart new.chart cut-spent back.spent }

    at : (obeyed : LineOutcome) → RecoversIndex (Ok tt) obeyed c.chart new begun sink then_sink → ObeysIndex most es Power obeyed p.chart new begun sink then_sink
    at Done (ok, back, told) = (Restarted ∷ [], es, done-so back, told)
    at WriteFault (back, inl (err, kept)) = absurd (let never = err in cc)
    at WriteFault (back, inr (ok, part)) = (Restarted ∷ [], es, done-so back, part)
    at Dead (off, dead, kept) = (
      record { off = off.off; dead = dead; found = (es, inr (refl, refl), subst (λ (ws : List ℕ). IsIndex ws es) (sym off.durable) map); licensed = Licence-trans 1 [] 0 0 0 [] 0 0 p.chart c.chart new.chart cut off.licence; spent = puts-then 0 p.chart c.chart new.chart cut-spent off.spent },
      inl (subst (λ (d : Drain). Written [] sink d) (sym kept) (record { whole = sym (with_end-nil sink.written); faults = omega arith })),
    )

-- an empty line does nothing
pub index-empty : (most : ℕ) (es : Pairs) (line : IndexLine) (p : Picture) (b : Bool) (sink : Drain) → line ≡ Empty → Serving p b es → ObeysIndex most es line Done p.chart p b sink sink
index-empty most es line p b sink is s = subst (λ (l : IndexLine). ObeysIndex most es l Done p.chart p b sink sink) (sym is)
    ([], es, record { does = inl (refl, refl, refl); serving = s; licensed = Licence-refl p.chart; spent = puts-none p.chart }, record { whole = sym (with_end-nil sink.written); faults = omega arith })

-- what the grammar reads has its ranges
pub said-ranges : (bytes : List ℕ) (line : IndexLine) → index_line_of bytes ≡ Ok line → (index_line_of bytes ≡ Ok line) ↔ ReadsIndex bytes line → IsIndexLine line
said-ranges bytes line says spells = ReadsIndex.ranges (spells.0 says)

-- ---- turns

joined : (first : Chart) (p q : Picture) (b d : Bool) (turns : List IndexTurn) (t : IndexedSince first p b turns) (line : IndexLine) (replies : List IndexReply) (left : Pairs) → IndexLineDone (most_of p.chart.shape.pages) (IndexedSince.pairs t) line replies left p.chart q d → IndexedSince first q d (record { line = line; replies = replies } ∷ turns)
joined first p q b d turns t line replies left x = record {
  pairs = left;
  run = subst (λ (sh : Shape). IndexRun (most_of sh.pages) (record { line = line; replies = replies } ∷ turns) left) (sym (Licence.shape x.licensed)) (IndexedSince.pairs t, IndexedSince.run t, x.does);
  serving = x.serving;
  licensed = Licence-trans (count_lines is_power turns) (plans_in plan_of turns) (count_replies is_lost turns) (count_replies is_fault turns) _ _ _ _ first p.chart q.chart t.licensed x.licensed;
  spent = puts-more (puts_in turns) (puts_of line) first p.chart q.chart (Licence.shape t.licensed) t.spent x.spent;
}

pub index-obeys : (first : Chart) (p q : Picture) (b d : Bool) (turns : List IndexTurn) (line : IndexLine) (obeyed : LineOutcome) (sink then_sink : Drain) (t : IndexedSince first p b turns) → ObeysIndex (most_of p.chart.shape.pages) (IndexedSince.pairs t) line obeyed p.chart q d sink then_sink → Obeys obeyed index_grammar (IndexedSince first q d) (FellSince first q.chart) turns line sink then_sink
index-obeys first p q b d turns line Done sink then_sink t (replies, left, done, told) = (replies, joined first p q b d turns t line replies left done, told)
index-obeys first p q b d turns line WriteFault sink then_sink t (replies, left, done, told) = (replies, joined first p q b d turns t line replies left done, told)
index-obeys first p q b d turns line Dead sink then_sink t (dead, told) = (
  _,
  record {
    fell = record {
      pairs = IndexedSince.pairs t;
      run = subst (λ (sh : Shape). IndexRun (most_of sh.pages) turns (IndexedSince.pairs t)) (sym (Licence.shape dead.licensed)) (IndexedSince.run t);
      replies = refl;
      found = subst (λ (sh : Shape). (left : Pairs) × FailsIn (most_of sh.pages) (IndexedSince.pairs t) line left × IsIndex (durable q.chart) left) (sym (Licence.shape dead.licensed)) dead.found;
      off = dead.off;
      dead = dead.dead;
    };
    licensed = Licence-trans (count_lines is_power turns) (plans_in plan_of turns) (count_replies is_lost turns) (count_replies is_fault turns) _ _ _ _ first p.chart q.chart t.licensed dead.licensed;
    spent = puts-more (puts_in turns) (puts_of line) first p.chart q.chart (Licence.shape t.licensed) t.spent dead.spent;
  },
  told,
)

-- ---- the whole trace

-- before the first line: the words are zeros, and no transaction is open
pub index-none : (setup : Setup) (returns : ℕ) (s : State) (p : Picture) (b : Bool) → IsShape setup.shape → 32 ≤ setup.shape.shadows → 20 ≤ setup.shape.pages → setup.shape.pages ≤ 1048576 → IsMade setup.shape returns s → IsReady (chart s) setup p → b ≡ false → IndexedSince p.chart p b []
index-none setup returns s p b sizes room least most made ready shut =
    let shape : p.chart.shape ≡ setup.shape = IsPrepared.shape (IsReady.prepared ready) ∙ made.shape in
    let shadows = ap (λ (sh : Shape). sh.shadows) shape in
    let pages = ap (λ (sh : Shape). sh.pages) shape in
    let stands = IsFresh.stands (IsReady.fresh ready) in
    let zeros_are : durable p.chart ≡ replicate (32 * p.chart.shape.pages) 0 = Holds.durable (Stands.holds stands) ∙ undo_all-closed 64 (replicate (32 * p.chart.shape.pages) 0) in
    record {
      pairs = [];
      run = refl;
      serving = record {
        on = Stands.on stands;
        shut = and-shut p.chart.on b shut;
        room = omega arith;
        size = omega arith;
        map = subst (λ (ws : List ℕ). IsIndex ws []) (sym zeros_are) (zeros-index (32 * p.chart.shape.pages) (omega arith));
      };
      licensed = Licence-refl p.chart;
      spent = puts-none p.chart;
    }

-- what the memory gives back with its board
pub record Back (p : Picture) (b : Bool) (now : Chart) : Type 0 where
  pub same : now ≡ p.chart
  pub sound : IsSound now
  pub magic : now.fields.magic ≡ the_magic
  pub version : now.fields.version ≡ version_of now.shape
  pub stands : IsTrue p.chart.on → (sheet_of p b).started ≡ false → Stands now (fresh now.shape.shadows (durable now))

-- a map that stands for the turns is on the board
indexed : (most : ℕ) (first : Chart) (p : Picture) (b : Bool) (now : Chart) (turns : List IndexTurn) (o : Outcome) → o.board ≡ Some now → most_of p.chart.shape.pages ≡ most → Back p b now → IndexedSince first p b turns → (pairs : Pairs) × IndexRun most turns pairs × OnBoard (HoldsIndex pairs) o
indexed most first p b now turns o board same x t = (
  IndexedSince.pairs t,
  subst (λ (n : ℕ). IndexRun n turns (IndexedSince.pairs t)) same (IndexedSince.run t),
  (
    now,
    board,
    record {
      stands = x.stands (Serving.on (IndexedSince.serving t)) (Serving.shut (IndexedSince.serving t));
      map = subst (λ (c : Chart). IsIndex (durable c) (IndexedSince.pairs t)) (sym x.same) (Serving.map (IndexedSince.serving t));
    },
  ),
)

-- and where power failed for good, what a restart finds
fallen : (most : ℕ) (first : Chart) (p : Picture) (b : Bool) (now : Chart) (turns : List IndexTurn) (o : Outcome) → o.board ≡ Some now → most_of p.chart.shape.pages ≡ most → Back p b now → FellSince first p.chart turns → (left : Pairs) × IndexDies most turns left × OnBoard (HoldsIndexOff left) o
fallen most first p b now [] o board same x d = absurd (FellSince.fell d)
fallen most first p b now (turn ∷ earlier) o board same x d =
    let f = FellSince.fell d in
    let (left, fails, map) = FellIn.found f in (
      left,
      record {
        pairs = FellIn.pairs f;
        run = subst (λ (n : ℕ). IndexRun n earlier (FellIn.pairs f)) same (FellIn.run f);
        replies = FellIn.replies f;
        fails = subst (λ (n : ℕ). FailsIn n (FellIn.pairs f) turn.line left) same fails;
      },
      (
        now,
        board,
        record {
          map = subst (λ (c : Chart). IsIndex (durable c) left) (sym x.same) map;
          magic = x.magic;
          version = x.version;
          sound = x.sound;
          off = ap (λ (c : Chart). c.on) x.same ∙ FellIn.off f;
          dead = ap (λ (c : Chart). c.lives) x.same ∙ FellIn.dead f;
        },
      ),
    )

pub index-began : (setup : Setup) (returns : ℕ) (s : State) (c : Chart) → returns < 2 ^ 32 → IsMade setup.shape returns s → IsPrepared (chart s) c → IndexBegan setup returns c
index-began setup returns s c low made p = record { shape = p.shape ∙ made.shape; given = p.given ∙ made.given; pulled = p.pulled ∙ made.pulled; plans = p.plans ∙ made.plans; last_plan = p.last_plan ∙ made.last_plan; begun = p.begun ∙ made.begun; tried = tried-on setup returns s c low made p }

index-made : (setup : Setup) (returns : ℕ) (board : Option Chart) → returns < 2 ^ 32 → IfSome board (WasMade setup returns) → IfSome board (IndexLicences setup returns [])
index-made setup returns None low none = tt
index-made setup returns (Some now) low m = licences-none setup returns now (index-began setup returns m.made now low m.new m.prepared)

-- a run that ended before a line was read
pub index-quiet : (setup : Setup) (returns : ℕ) (o : Outcome) (feed : Feed) (sink : Drain) → returns < 2 ^ 32 → NoneBegun setup returns o → DoesTask (index_task setup returns) o (record { from = feed; feed = feed; to = sink; sink = sink })
index-quiet setup returns o feed sink low n =
    let io : Streams = record { from = feed; feed = feed; to = sink; sink = sink } in
    account_of (index_task setup returns) o io (record {
      turns = [];
      answers = inr (refl, unread o io (record { lines = n.lines; taken = n.taken; source = refl; sink = refl }) n.cause, n.cause);
      licences = index-made setup returns o.board low n.board;
    })

-- the size of the map stays
index-pages : (setup : Setup) (returns : ℕ) (first : Chart) (p : Picture) (b : Bool) (turns : List IndexTurn) → IndexBegan setup returns first → IndexedSince first p b turns ⊎ FellSince first p.chart turns → most_of p.chart.shape.pages ≡ most_of setup.shape.pages
index-pages setup returns first p b turns began (inl t) = ap (λ (sh : Shape). most_of sh.pages) (Licence.shape (IndexedSince.licensed t) ∙ IndexBegan.shape began)
index-pages setup returns first p b turns began (inr d) = ap (λ (sh : Shape). most_of sh.pages) (Licence.shape (FellSince.licensed d) ∙ IndexBegan.shape began)

-- from a trace of the index that was served to its account
index-ends : (whole : State) (setup : Setup) (returns : ℕ) (first : Chart) (p : Picture) (b : Bool) (now : Chart) (end : End) (lines taken : ℕ) (io : Streams) → Back p b now → IndexBegan setup returns first → lines ≤ most_bytes → (turns : List IndexTurn) × Serves end lines taken index_grammar 0 (IndexedSince first p b) (FellSince first p.chart) [] turns io → DoesTask (index_task setup returns) (served_outcome end lines taken now whole) io
index-ends whole setup returns first p b now end lines taken io x began few (turns, s) =
    let o : Outcome = served_outcome end lines taken now whole in
    let either = served-either end (IndexedSince first p b) (FellSince first p.chart) turns (Ends.served (Serves.ends s)) in
    let same = index-pages setup returns first p b turns began either in
    account_of (index_task setup returns) o io (record {
      turns = turns;
      answers = inl (record {
        end = end;
        serves = Serves-as end lines taken index_grammar 0 (IndexedSince first p b) (FellSince first p.chart) _ _ [] turns io (λ t. indexed (most_of setup.shape.pages) first p b now turns o refl same x t) (λ d. fallen (most_of setup.shape.pages) first p b now turns o refl same x d) s;
        ending = record { status = refl; why = refl };
      });
      licences = subst (λ (c : Chart). IndexLicences setup returns turns c) (sym x.same) (licences-since setup returns first p b turns began (let same = Serves.lines_are s in omega arith) either);
    })

-- a run whose trace was served
pub index-ended : {B : Type 0} (state : B → State) (setup : Setup) (returns : ℕ) (first : Chart) (p : Picture) (b : Bool) (now : Chart) (end : End) (lines taken skipped : ℕ) (board : B) (e : Finished B) (io : Streams) → e ≡ record { ending = ending_of end; lines = lines; taken = taken; board = Some board; second = None } → chart (state board) ≡ now → skipped ≡ 0 → lines ≤ most_bytes → Back p b now → IndexBegan setup returns first → (turns : List IndexTurn) × Serves end lines taken index_grammar skipped (IndexedSince first p b) (FellSince first p.chart) [] turns io → DoesTask (index_task setup returns) (outcome_of state e) io
index-ended {B} state setup returns first p b now end lines taken skipped board e io is same none few x began serves =
    subst (λ (y : Finished B). DoesTask (index_task setup returns) (outcome_of state y) io) (sym is)
    (subst (λ (c : Chart). DoesTask (index_task setup returns) (served_outcome end lines taken c (state board)) io) (sym same)
    (index-ends (state board) setup returns first p b now end lines taken io x began few
    (subst (λ (k : ℕ). (turns : List IndexTurn) × Serves end lines taken index_grammar k (IndexedSince first p b) (FellSince first p.chart) [] turns io) none serves)))

pub stays-of : (es : Pairs) (p : Picture) (b : Bool) (c : Chart) (i : ℕ) (j : List PlannedFault) (k l : ℕ) → Serving p b es → Licence i j k l p.chart c → Stays es p.chart c
stays-of es p b c i j k l s x =
    let shadows = ap (λ (sh : Shape). sh.shadows) (Licence.shape x) in
    let pages = ap (λ (sh : Shape). sh.pages) (Licence.shape x) in
    let room = s.room in
    let size = s.size in
    record { room = omega arith; size = omega arith }

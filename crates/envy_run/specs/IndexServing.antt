-- What the words of an index are between lines, and what one line does to them.
use Rattle.std.specs.Prelude.{◌≡◌, ◌⊎◌, ℕ, ◌*◌, ◌^◌, ◌≤◌, ◌<◌, Bool, true, false, IsTrue, List, [], ◌∷◌, length, Result, Err, IsOk, IsErr, refl, nat_lt}
use Rattle.std.proofs.lemmas.Bool.{lt-ltb}
use Rattle.envy_btree.specs.declared.line.IndexLine.{IndexLine}
use Rattle.envy_btree.specs.declared.reply.IndexReply.{IndexReply}
use Rattle.envy_btree.specs.declared.reply.IndexReply.TheVariants.{Lost, Restarted}
use Rattle.envy_btree.specs.Grammar.{index_line_of}
use Rattle.envy_btree.specs.Index.{IsIndex}
use Rattle.envy_trace.specs.declared.fault.LineFault.TheVariants.{Long}
use Rattle.envy_io.specs.declared.source.Failed.{Failed}
use Rattle.envy_io.specs.Streams.{Drain}
use Rattle.envy_soundness.specs.Words.{durable}
use Rattle.envy_map.specs.Fields.{Chart}
use Rattle.envy_memory.specs.Picture.{Picture}
use Rattle.envy_memory.specs.Sheets.{sheet_of}
use Rattle.envy_serve.specs.declared.service.LineOutcome.{LineOutcome}
use Rattle.envy_serve.specs.declared.service.LineOutcome.TheVariants.{Done, WriteFault, Dead}
use Rattle.envy_serve.specs.Streams.{Written, FrontWritten}
use Rattle.envy_serve.specs.Turns.{count_lines, count_replies, count_of, one_if, texts}
use Rattle.envy_run.specs.IndexSpending.{SpendsPuts, puts_of, puts_in}
use Rattle.envy_run.specs.Spending.{Spends}
use Rattle.envy_run.specs.IndexTurns.{Pairs, IndexTurn, IndexRun, Says, Faults, Loses, DoesIndex, FailsIn, index_grammar, most_of, before_restart, is_power, is_lost, is_fault, plan_of}
use Rattle.envy_run.specs.Licence.{Licence, plans_in}
use Rattle.envy_base.specs.declared.page.TheConstants.{PAGE_WORDS}

-- power is on, no transaction is open, and the words stand for the map, with room for each change of it
pub record Serving (p : Picture) (begun : Bool) (es : Pairs) : Type 0 where
  pub on : IsTrue p.chart.on
  pub shut : (sheet_of p begun).started ≡ false
  pub room : 32 ≤ p.chart.shape.shadows
  pub size : PAGE_WORDS * p.chart.shape.pages ≤ 2 ^ 25
  pub map : IsIndex (durable p.chart) es

-- power failed in the line
pub record LostAt (most : ℕ) (es : Pairs) (line : IndexLine) (c : Chart) : Type 0 where
  pub off : c.on ≡ false
  pub left : Pairs
  pub loses : Loses most es line left
  pub map : IsIndex (durable c) left

-- what a call answers, and what it leaves
abbrev pub AnswersIndex : ℕ → Pairs → IndexLine → IndexReply → Picture → Bool → Type 0
AnswersIndex most es line Lost p begun = LostAt most es line p.chart
AnswersIndex most es line reply p begun = (n : Pairs) × (Says most es line reply n ⊎ Faults most es line reply n) × Serving p begun n

-- the counts that license a reply
abbrev pub ReplyLicence : IndexLine → IndexReply → Chart → Chart → Type 0
ReplyLicence line reply old new = Licence 0 (plan_of line) (one_if (is_lost reply)) (one_if (is_fault reply)) old new

-- and those that license a line with its replies
abbrev pub LineLicence : IndexLine → List IndexReply → Chart → Chart → Type 0
LineLicence line replies old new = Licence (one_if (is_power line)) (plan_of line) (count_of is_lost replies) (count_of is_fault replies) old new

-- power is off, and the committed words are those of before
pub record IndexOff (old new : Chart) : Type 0 where
  pub off : new.on ≡ false
  pub durable : durable new ≡ durable old
  pub licence : Licence 0 [] 0 0 old new
  pub spent : Spends 0 0 old new

-- power is back, with the committed words of before
pub record IndexBack (old : Chart) (new : Picture) (begun : Bool) : Type 0 where
  pub on : IsTrue new.chart.on
  pub shut : (sheet_of new begun).started ≡ false
  pub durable : durable new.chart ≡ durable old
  pub licence : Licence 0 [] 0 0 old new.chart
  pub spent : Spends 0 0 old new.chart

abbrev pub RestartsIndex : Bool → Chart → Picture → Bool → Type 0
RestartsIndex true old new begun = IndexBack old new begun
RestartsIndex false old new begun = IndexOff old new.chart × (new.chart.lives ≡ 0)

-- After a failure of power, whose own reply was written or not: power is asked for, and its return
-- is told. Nothing more is written after a write that failed.
abbrev pub RecoversIndex : Result Unit Failed → LineOutcome → Chart → Picture → Bool → Drain → Drain → Type 0
RecoversIndex wrote Done old new begun sink then_sink = IsOk wrote × IndexBack old new begun × Written (texts index_grammar (Restarted ∷ [])) sink then_sink
RecoversIndex wrote WriteFault old new begun sink then_sink = IndexBack old new begun × ((IsErr wrote × (then_sink ≡ sink)) ⊎ (IsOk wrote × FrontWritten (texts index_grammar (Restarted ∷ [])) sink then_sink))
RecoversIndex wrote Dead old new begun sink then_sink = IndexOff old new.chart × (new.chart.lives ≡ 0) × (then_sink ≡ sink)

-- the line was done
pub record IndexLineDone (most : ℕ) (es : Pairs) (line : IndexLine) (replies : List IndexReply) (left : Pairs) (old : Chart) (new : Picture) (begun : Bool) : Type 0 where
  pub does : DoesIndex most es line replies left
  pub serving : Serving new begun left
  pub licensed : LineLicence line replies old new.chart
  pub spent : SpendsPuts (puts_of line) old new.chart

-- power doesn't return: the line was done or not done
pub record IndexLineDead (most : ℕ) (es : Pairs) (line : IndexLine) (old new : Chart) : Type 0 where
  pub off : new.on ≡ false
  pub dead : new.lives ≡ 0
  pub found : (left : Pairs) × FailsIn most es line left × IsIndex (durable new) left
  pub licensed : LineLicence line (before_restart line) old new
  pub spent : SpendsPuts (puts_of line) old new

abbrev pub ObeysIndex : ℕ → Pairs → IndexLine → LineOutcome → Chart → Picture → Bool → Drain → Drain → Type 0
ObeysIndex most es line Done old new begun sink then_sink = (replies : List IndexReply) × (left : Pairs) × IndexLineDone most es line replies left old new begun × Written (texts index_grammar replies) sink then_sink
ObeysIndex most es line WriteFault old new begun sink then_sink = (replies : List IndexReply) × (left : Pairs) × IndexLineDone most es line replies left old new begun × FrontWritten (texts index_grammar replies) sink then_sink
ObeysIndex most es line Dead old new begun sink then_sink = IndexLineDead most es line old new.chart × (Written (texts index_grammar (before_restart line)) sink then_sink ⊎ FrontWritten (texts index_grammar (before_restart line)) sink then_sink)

-- the counts that license the turns
abbrev pub IndexLicensed : List IndexTurn → Chart → Chart → Type 0
IndexLicensed turns first now = Licence (count_lines is_power turns) (plans_in plan_of turns) (count_replies is_lost turns) (count_replies is_fault turns) first now

-- what the words did since a trace began
pub record IndexedSince (first : Chart) (p : Picture) (begun : Bool) (turns : List IndexTurn) : Type 0 where
  pub pairs : Pairs
  pub run : IndexRun (most_of p.chart.shape.pages) turns pairs
  pub serving : Serving p begun pairs
  pub licensed : IndexLicensed turns first p.chart
  pub spent : SpendsPuts (puts_in turns) first p.chart

-- power failed in the last line and didn't return
pub record FellIn (c : Chart) (turn : IndexTurn) (earlier : List IndexTurn) : Type 0 where
  pub pairs : Pairs
  pub run : IndexRun (most_of c.shape.pages) earlier pairs
  pub replies : turn.replies ≡ before_restart turn.line
  pub found : (left : Pairs) × FailsIn (most_of c.shape.pages) pairs turn.line left × IsIndex (durable c) left
  pub off : c.on ≡ false
  pub dead : c.lives ≡ 0

abbrev pub HasFallen : Chart → List IndexTurn → Type 0
HasFallen c [] = ⊥
HasFallen c (turn ∷ earlier) = FellIn c turn earlier

pub record FellSince (first c : Chart) (turns : List IndexTurn) : Type 0 where
  pub fell : HasFallen c turns
  pub licensed : IndexLicensed turns first c
  pub spent : SpendsPuts (puts_in turns) first c

-- the laws of the service

pub serving_ready : (first : Chart) (p : Picture) (begun : Bool) (turns : List IndexTurn) → IndexedSince first p begun turns → (es : Pairs) × Serving p begun es
serving_ready first p begun turns t = (IndexedSince.pairs t, IndexedSince.serving t)

pub long_index : (piece : List ℕ) → 120 < length piece → index_line_of piece ≡ Err Long
unfolding index_line_of
long_index piece far = let test : nat_lt 120 (length piece) ≡ true = lt-ltb 120 (length piece) far in rw test refl

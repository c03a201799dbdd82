-- What the calls of the index tree say of the words of a memory.
use Rattle.std.proofs.Common.{◌≡◌, ◌⊎◌, inl, inr, ℕ, ◌+◌, ◌-◌, ◌*◌, ◌/◌, ◌^◌, ◌<◌, ◌≤◌, Bool, false, List, [], ◌∷◌, length, refl, sym, ◌∙◌, ap, subst, arith}
use Rattle.std.specs.Prelude.{◌&&◌, IsTrue, Option, None, Some, Ok, Err}
use Rattle.envy_array.specs.Words.{Sheet, Works, Keeps}
use Rattle.envy_base.specs.Counting.{Rose}
use Rattle.envy_btree.specs.declared.fault.LookFault.{LookFault}
use Rattle.envy_btree.specs.declared.fault.LookFault.TheVariants.{Off as LookOff, Broken}
use Rattle.envy_base.specs.declared.faults.PlannedFault.{PlannedFault}
use Rattle.envy_base.specs.declared.faults.PlannedFault.TheVariants.{Cut as PlanCut, Bad as PlanBad}
use Rattle.envy_base.specs.declared.shape.Shape.{Shape}
use Rattle.envy_btree.specs.Answers.{Gets, Inserts, Removes}
use Rattle.envy_btree.specs.Answers.{IsFull as IsFullIn}
use Rattle.envy_btree.specs.Index.{IsIndex, most_pairs}
use Rattle.envy_btree.specs.Pairs.{assoc, with_pair, without}
use Rattle.envy_btree.proofs.Calls.{not-full}
use Rattle.envy_btree.specs.declared.fault.TreeFault.TheVariants.{Off as FaultOff, Full as FaultFull, Bad as FaultBad}
use Rattle.envy_btree.specs.declared.line.IndexLine.{IndexLine}
use Rattle.envy_btree.specs.declared.line.IndexLine.TheVariants.{Get, Insert, Remove}
use Rattle.envy_btree.specs.declared.reply.IndexReply.{IndexReply}
use Rattle.envy_btree.specs.declared.reply.IndexReply.TheVariants.{Full, Fault, Lost}
use Rattle.envy_soundness.specs.Words.{durable}
use Rattle.envy_soundness.proofs.WordLists.{length-durable}
use Rattle.envy_map.specs.Fields.{Chart}
use Rattle.envy_memory.specs.Calls.{planned}
use Rattle.envy_memory.specs.Lawful.{words_long}
use Rattle.envy_memory.specs.Picture.{Picture}
use Rattle.envy_memory.specs.Sheets.{fixed_of, numbers_of, sheet_of, words_read}
use Rattle.envy_serve.specs.Turns.{one_if}
use Rattle.envy_run.specs.IndexServing.{Serving, AnswersIndex, LostAt, ReplyLicence}
use Rattle.envy_run.specs.IndexTurns.{Pairs, IsFull, Says, most_of, told, is_lost, is_fault, plan_of}
use Rattle.envy_run.specs.Licence.{Licence}
use Rattle.envy_run.proofs.Replying.{Licence-planned}

-- ---- words and their numbers

words-shut : (p : Picture) (b : Bool) → (sheet_of p b).started ≡ false → (sheet_of p b).words ≡ durable p.chart
words-shut p b shut = ap (λ (x : Bool). words_read x p.chart) shut

most-same : (p : Picture) (b : Bool) → most_pairs (sheet_of p b).words ≡ most_of p.chart.shape.pages
most-same p b = ap (λ (n : ℕ). 14 * ((n - 64) / 64 - 8)) (words_long (p.chart.on && b) p.chart)

pub map-in : (p : Picture) (b : Bool) (es : Pairs) → Serving p b es → IsIndex (sheet_of p b).words es
map-in p b es s = subst (λ (ws : List ℕ). IsIndex ws es) (sym (words-shut p b s.shut)) s.map

pub size-in : (p : Picture) (b : Bool) (es : Pairs) → Serving p b es → length (sheet_of p b).words ≤ 2 ^ 25
size-in p b es s = let n = words_long (p.chart.on && b) p.chart in let few = s.size in omega arith

shape-same : (s t : Shape) → s.segments ≡ t.segments → s.rows ≡ t.rows → s.pages ≡ t.pages → s.shadows ≡ t.shadows → s.frames ≡ t.frames → s.entries ≡ t.entries → s.reserves ≡ t.reserves → s.sums ≡ t.sums → s ≡ t
shape-same s t e1 e2 e3 e4 e5 e6 e7 e8 =
    ap (λ (n : ℕ). record s { segments = n }) e1
    ∙ ap (λ (n : ℕ). record s { segments = t.segments; rows = n }) e2
    ∙ ap (λ (n : ℕ). record s { segments = t.segments; rows = t.rows; pages = n }) e3
    ∙ ap (λ (n : ℕ). record s { segments = t.segments; rows = t.rows; pages = t.pages; shadows = n }) e4
    ∙ ap (λ (n : ℕ). record t { frames = n; entries = s.entries; reserves = s.reserves; sums = s.sums }) e5
    ∙ ap (λ (n : ℕ). record t { entries = n; reserves = s.reserves; sums = s.sums }) e6
    ∙ ap (λ (n : ℕ). record t { reserves = n; sums = s.sums }) e7
    ∙ ap (λ (n : ℕ). record t { sums = n }) e8

-- what the fixed numbers say
pub record Fixed (c d : Chart) : Type 0 where
  pub shape : d.shape ≡ c.shape
  pub pulled : d.pulled ≡ c.pulled
  pub plans : d.plans ≡ c.plans
  pub given : d.given ≡ c.given
  pub last_plan : d.last_plan ≡ c.last_plan

-- numbers tell a planned fault
numbers-tell : (a b : Option PlannedFault) → numbers_of a ≡ numbers_of b → a ≡ b
numbers-tell None None e = refl
numbers-tell None (Some (PlanCut k g)) e = absurd (let never = e in cc)
numbers-tell None (Some (PlanBad k g)) e = absurd (let never = e in cc)
numbers-tell (Some (PlanCut k g)) None e = absurd (let never = e in cc)
numbers-tell (Some (PlanBad k g)) None e = absurd (let never = e in cc)
numbers-tell (Some (PlanCut k g)) (Some (PlanCut l h)) e = cc
numbers-tell (Some (PlanBad k g)) (Some (PlanBad l h)) e = cc
numbers-tell (Some (PlanCut k g)) (Some (PlanBad l h)) e = absurd (let never : ◌≡◌ {A = ℕ} 0 1 = cc in omega (arith, never))
numbers-tell (Some (PlanBad k g)) (Some (PlanCut l h)) e = absurd (let never : ◌≡◌ {A = ℕ} 1 0 = cc in omega (arith, never))

pub fixed-says : (c d : Chart) → fixed_of d ≡ fixed_of c → Fixed c d
fixed-says c d same = record {
  shape = shape-same d.shape c.shape (cc) (cc) (cc) (cc) (cc) (cc) (cc) (cc);
  pulled = cc;
  plans = cc;
  given = cc;
  last_plan = numbers-tell d.last_plan c.last_plan (cc);
}

-- counts that the calls of the tree leave license its replies
licence-kept : (losts faults : ℕ) (c d : Chart) → Fixed c d → c.cuts ≤ d.cuts → c.bads ≤ d.bads → (d.cuts < 2 ^ 64 - 1 → c.cuts + losts ≤ d.cuts) → (d.bads < 2 ^ 64 - 1 → c.bads + faults ≤ d.bads) → Licence 0 [] losts faults c d
licence-kept losts faults c d f cuts bads lost bad = record {
  shape = f.shape;
  given = f.given;
  pulled = let e = f.pulled in λ lt. omega arith;
  plans_made = let e = f.plans in λ lt. omega arith;
  last_plan = f.last_plan;
  cuts = record { kept = cuts; rise = λ lt. let le = lost lt in omega arith };
  bads = record { kept = bads; rise = bad };
}

pub licence-calm : (c d : Chart) → Fixed c d → c.cuts ≤ d.cuts → c.bads ≤ d.bads → Licence 0 [] 0 0 c d
licence-calm c d f cuts bads = licence-kept 0 0 c d f cuts bads (λ lt. omega arith) (λ lt. omega arith)

pub licence-lost : (c d : Chart) → Fixed c d → c.cuts ≤ d.cuts → c.bads ≤ d.bads → Rose c.cuts d.cuts → Licence 0 [] 1 0 c d
licence-lost c d f cuts bads rose = licence-kept 1 0 c d f cuts bads (λ lt. let more = rose (omega arith) in omega arith) (λ lt. omega arith)

pub licence-fault : (c d : Chart) → Fixed c d → c.cuts ≤ d.cuts → c.bads ≤ d.bads → Rose c.bads d.bads → Licence 0 [] 0 1 c d
licence-fault c d f cuts bads rose = licence-kept 0 1 c d f cuts bads (λ lt. omega arith) (λ lt. let more = rose (omega arith) in omega arith)

-- what each call keeps
pub record Calls (p q : Picture) (b d : Bool) : Type 0 where
  pub fixed : Fixed p.chart q.chart
  pub cuts : p.chart.cuts ≤ q.chart.cuts
  pub bads : p.chart.bads ≤ q.chart.bads
  pub cut : IsTrue p.chart.on → q.chart.on ≡ false → Rose p.chart.cuts q.chart.cuts
  pub shut : (sheet_of q d).started ≡ false

pub calls-works : (p q : Picture) (b d : Bool) → Works 0 (sheet_of p b) (sheet_of q d) → (sheet_of q d).started ≡ false → Calls p q b d
calls-works p q b d w shut = record { fixed = fixed-says p.chart q.chart w.fixed; cuts = w.cuts; bads = w.bads; cut = w.cut; shut = shut }

pub calls-keeps : (p q : Picture) (b d : Bool) → Keeps (sheet_of p b) (sheet_of q d) → (sheet_of q d).started ≡ false → Calls p q b d
calls-keeps p q b d w shut = record { fixed = fixed-says p.chart q.chart w.fixed; cuts = w.cuts; bads = w.bads; cut = w.cut; shut = shut }

next : (p q : Picture) (b d : Bool) (es n : Pairs) → Serving p b es → Calls p q b d → IsTrue q.chart.on → IsIndex (sheet_of q d).words n → Serving q d n
next p q b d es n s k on map =
    let shadows = ap (λ (sh : Shape). sh.shadows) (Fixed.shape k.fixed) in
    let pages = ap (λ (sh : Shape). sh.pages) (Fixed.shape k.fixed) in
    let room = s.room in
    let size = s.size in
    record { on = on; shut = k.shut; room = omega arith; size = omega arith; map = subst (λ (ws : List ℕ). IsIndex ws n) (words-shut q d k.shut) map }

-- ---- replies

-- a reply that tells a value or that there is none
told-answers : (most : ℕ) (es n : Pairs) (line : IndexLine) (q : Picture) (d : Bool) (value : Option ℕ) → Says most es line (told value) n → Serving q d n → AnswersIndex most es line (told value) q d
told-answers most es n line q d None says s = (n, inl says, s)
told-answers most es n line q d (Some v) says s = (n, inl says, s)

-- and it needs no licence
pub told-licence : (line : IndexLine) (value : Option ℕ) (reply : IndexReply) (c d : Chart) → plan_of line ≡ [] → reply ≡ told value → Licence 0 [] 0 0 c d → ReplyLicence line reply c d
told-licence line value reply c d plain is x = subst (λ (r : IndexReply). ReplyLicence line r c d) (sym is) (subst (λ (z : List PlannedFault). Licence 0 z (one_if (is_lost (told value))) (one_if (is_fault (told value))) c d) (sym plain) (at value))
  where
    at : (value : Option ℕ) → Licence 0 [] (one_if (is_lost (told value))) (one_if (is_fault (told value))) c d
    at None = x
    at (Some v) = x

-- ---- get

-- a key that was looked for
pub ask-told : (p q : Picture) (b d : Bool) (key : ℕ) (es : Pairs) (value : Option ℕ) (reply : IndexReply) → Serving p b es → Calls p q b d → Gets key es (sheet_of p b) (Ok value) (sheet_of q d) → reply ≡ told value → AnswersIndex (most_of p.chart.shape.pages) es (Get key) reply q d
ask-told p q b d key es value reply s k g is =
    subst (λ (r : IndexReply). AnswersIndex (most_of p.chart.shape.pages) es (Get key) r q d) (sym is)
    (told-answers (most_of p.chart.shape.pages) es es (Get key) q d value (ap told g.1, refl) (next p q b d es es s k g.0 g.2))

-- power failed as it was looked for
pub ask-lost : (p q : Picture) (b d : Bool) (key : ℕ) (es : Pairs) (fault : LookFault) → (sheet_of p b).started ≡ false → Gets key es (sheet_of p b) (Err fault) (sheet_of q d) → AnswersIndex (most_of p.chart.shape.pages) es (Get key) Lost q d
ask-lost p q b d key es LookOff shut g = record { off = g.0; left = es; loses = record { command = refl; either = inl refl }; map = g.1 shut }
ask-lost p q b d key es Broken shut g = absurd g

-- and that was it
pub ask-off : (key : ℕ) (es : Pairs) (old new : Sheet) (fault : LookFault) → Gets key es old (Err fault) new → new.on ≡ false
ask-off key es old new LookOff g = g.0
ask-off key es old new Broken g = absurd g

-- ---- insert

room-in : (p : Picture) (b : Bool) (key : ℕ) (es : Pairs) → (IsFullIn (sheet_of p b).words key es → ⊥) → IsFull (most_of p.chart.shape.pages) key es → ⊥
room-in p b key es room full = room (full.0, full.1 ∙ sym (most-same p b))

pub set-told : (p q : Picture) (b d : Bool) (key value : ℕ) (es : Pairs) (before : Option ℕ) (reply : IndexReply) → Serving p b es → Calls p q b d → Inserts key value es (sheet_of p b) (Ok before) (sheet_of q d) → reply ≡ told before → AnswersIndex (most_of p.chart.shape.pages) es (Insert key value) reply q d
set-told p q b d key value es before reply s k g is =
    subst (λ (r : IndexReply). AnswersIndex (most_of p.chart.shape.pages) es (Insert key value) r q d) (sym is)
    (told-answers (most_of p.chart.shape.pages) es (with_pair key value es) (Insert key value) q d before (inr (room-in p b key es g.2, ap told g.1, refl)) (next p q b d es (with_pair key value es) s k g.0 g.3))

pub set-full : (p q : Picture) (b d : Bool) (key value : ℕ) (es : Pairs) → Serving p b es → Calls p q b d → Inserts key value es (sheet_of p b) (Err FaultFull) (sheet_of q d) → AnswersIndex (most_of p.chart.shape.pages) es (Insert key value) Full q d
set-full p q b d key value es s k g = (es, inl (inl ((g.1.0, g.1.1 ∙ most-same p b), refl, refl)), next p q b d es es s k g.0 g.2)

pub set-bad : (p q : Picture) (b d : Bool) (key value : ℕ) (es : Pairs) → Serving p b es → Calls p q b d → Inserts key value es (sheet_of p b) (Err FaultBad) (sheet_of q d) → AnswersIndex (most_of p.chart.shape.pages) es (Insert key value) Fault q d
set-bad p q b d key value es s k g = (es, inr (room-in p b key es g.2, refl, refl), next p q b d es es s k g.0 g.3)

pub set-lost : (p q : Picture) (b d : Bool) (key value : ℕ) (es : Pairs) → Calls p q b d → Inserts key value es (sheet_of p b) (Err FaultOff) (sheet_of q d) → AnswersIndex (most_of p.chart.shape.pages) es (Insert key value) Lost q d
set-lost p q b d key value es k g = at g.1
  where
    long : length (durable q.chart) ≡ length (sheet_of p b).words
    long = length-durable q.chart ∙ ap (λ (sh : Shape). 32 * sh.pages) (Fixed.shape k.fixed) ∙ sym (words_long (p.chart.on && b) p.chart)

    at : IsIndex (durable q.chart) es ⊎ IsIndex (durable q.chart) (with_pair key value es) → LostAt (most_of p.chart.shape.pages) es (Insert key value) q.chart
    at (inl map) = record { off = g.0; left = es; loses = record { command = refl; either = inl refl }; map = map }
    at (inr map) = record { off = g.0; left = with_pair key value es; loses = record { command = refl; either = inr (told (assoc key es), inr (room-in p b key es (not-full (sheet_of p b).words (durable q.chart) key value es long map), refl, refl)) }; map = map }

-- ---- remove

pub out-told : (p q : Picture) (b d : Bool) (key : ℕ) (es : Pairs) (before : Option ℕ) (reply : IndexReply) → Serving p b es → Calls p q b d → Removes key es (sheet_of p b) (Ok before) (sheet_of q d) → reply ≡ told before → AnswersIndex (most_of p.chart.shape.pages) es (Remove key) reply q d
out-told p q b d key es before reply s k g is =
    subst (λ (r : IndexReply). AnswersIndex (most_of p.chart.shape.pages) es (Remove key) r q d) (sym is)
    (told-answers (most_of p.chart.shape.pages) es (without key es) (Remove key) q d before (ap told g.1, refl) (next p q b d es (without key es) s k g.0 g.2))

pub out-bad : (p q : Picture) (b d : Bool) (key : ℕ) (es : Pairs) → Serving p b es → Calls p q b d → Removes key es (sheet_of p b) (Err FaultBad) (sheet_of q d) → AnswersIndex (most_of p.chart.shape.pages) es (Remove key) Fault q d
out-bad p q b d key es s k g = (es, inr (refl, refl), next p q b d es es s k g.0 g.2)

pub out-lost : (p q : Picture) (b d : Bool) (key : ℕ) (es : Pairs) → Removes key es (sheet_of p b) (Err FaultOff) (sheet_of q d) → AnswersIndex (most_of p.chart.shape.pages) es (Remove key) Lost q d
out-lost p q b d key es g = at g.1
  where
    at : IsIndex (durable q.chart) es ⊎ IsIndex (durable q.chart) (without key es) → LostAt (most_of p.chart.shape.pages) es (Remove key) q.chart
    at (inl map) = record { off = g.0; left = es; loses = record { command = refl; either = inl refl }; map = map }
    at (inr map) = record { off = g.0; left = without key es; loses = record { command = refl; either = inr (told (assoc key es), (refl, refl)) }; map = map }

-- ---- plans

pub plan-licence : (fault : PlannedFault) (p q : Picture) → q ≡ record p { chart = planned fault p.chart } → Licence 0 (fault ∷ []) 0 0 p.chart q.chart
plan-licence fault p q is = Licence-planned fault p.chart q.chart (ap (λ (x : Picture). x.chart) is)

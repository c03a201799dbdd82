-- Two machines that answer a line each with the array's own answer answer it alike.
use Rattle.std.proofs.Common.{◌≡◌, ◌≢◌, ◌⊎◌, inl, inr, ℕ, false, List, [], ◌∷◌, ◌++◌, length, refl, sym, ◌∙◌, ap, subst, arith}
use Rattle.std.specs.List.{AllByRecursion}
use Rattle.std.proofs.lemmas.List.{length-append}
use Rattle.envy_array.specs.Array.{Array, restarted}
use Rattle.envy_array.specs.Step.{Command, Answer, Step}
use Rattle.envy_array.specs.Step.{Load as DoLoad, Look as DoLook, Store as DoStore, Begin as DoBegin, Put as DoPut, Commit as DoCommit, Abort as DoAbort, Tick as DoTick}
use Rattle.envy_array.specs.declared.counts.Counts.{Counts}
use Rattle.envy_trace.specs.declared.line.Line.{Line}
use Rattle.envy_trace.specs.declared.line.Line.TheVariants.{Empty, Load, Look, Store, Begin, Put, Commit, Abort, Tick, Power, Cut, Bad, Stat}
use Rattle.envy_trace.specs.declared.reply.Reply.{Reply}
use Rattle.envy_trace.specs.declared.reply.Reply.TheVariants.{Word, Done, Started, Range, Held, Closed, Full, Busy, Fault, Lost, Restarted, Armed, Stat as StatLine}
use Rattle.envy_serve.specs.Turns.{Leads, lines_done, written, texts, count_of, count_replies, one_if}
use Rattle.envy_run.specs.Calm.{AnswersCalmly, IsCalmReply, IsNoWork}
use Rattle.envy_run.specs.Done.{Run}
use Rattle.envy_run.specs.Equal.{Answers, IsOwn}
use Rattle.envy_run.specs.Hits.{MayTell}
use Rattle.envy_serve.specs.Answering.{said}
use Rattle.envy_run.specs.Turns.{TraceTurn, Does, Replies, Says, Faults, trace_grammar, is_lost, is_fault}

-- a command has one answer
abbrev pub OneAnswer : Type 0
OneAnswer = (m n k : Array) (command : Command) (a b : Answer) → Step m command a n → Step m command b k → (a ≡ b) × (n ≡ k)

answers-one : OneAnswer → (m : Array) (command : Command) (r s : List Reply) (n k : Array) → Answers m command r n → Answers m command s k → (r ≡ s) × (n ≡ k)
answers-one one m command r s n k (a, step, is) (b, other, same) = let (e, f) = one m n k command a b step other in (is ∙ ap (λ (x : Answer). said x ∷ []) e ∙ sym same, f)

both : (m : Array) (all r s : List Reply) (n k : Array) → (r ≡ all) × (n ≡ m) → (s ≡ all) × (k ≡ m) → (r ≡ s) × (n ≡ k)
both m all r s n k (e, f) (g, h) = (e ∙ sym g, f ∙ sym h)

own-one : OneAnswer → (m : Array) (line : Line) (r s : List Reply) (n k : Array) → IsOwn m line r n → IsOwn m line s k → (r ≡ s) × (n ≡ k)
own-one one m Empty r s n k x y = both m [] r s n k x y
own-one one m (Load a) r s n k x y = answers-one one m (DoLoad a) r s n k x y
own-one one m (Look a) r s n k x y = answers-one one m (DoLook a) r s n k x y
own-one one m (Store a w) r s n k x y = answers-one one m (DoStore a w) r s n k x y
own-one one m Begin r s n k x y = answers-one one m DoBegin r s n k x y
own-one one m (Put t a w) r s n k x y = answers-one one m (DoPut t a w) r s n k x y
own-one one m (Commit t) r s n k x y = answers-one one m (DoCommit t) r s n k x y
own-one one m (Abort t) r s n k x y = answers-one one m (DoAbort t) r s n k x y
own-one one m Tick r s n k x y = answers-one one m DoTick r s n k x y
own-one one m Power r s n k x y = both (restarted m) (Restarted ∷ []) r s n k x y
own-one one m (Cut i g) r s n k x y = both m (Armed ∷ []) r s n k x y
own-one one m (Bad i g) r s n k x y = both m (Armed ∷ []) r s n k x y
own-one one m Stat r s n k x y = absurd x

says-own : (m : Array) (command : Command) (reply : Reply) (replies : List Reply) (n : Array) → replies ≡ reply ∷ [] → Says m command reply n → Answers m command replies n
says-own m command reply replies n is (answer, step, same) = (answer, step, is ∙ ap (λ (x : Reply). x ∷ []) same)

-- the replies have neither `lost` nor `fault`
pub record IsPlainReplies (replies : List Reply) : Type 0 where
  pub losts : count_of is_lost replies ≡ 0
  pub faults : count_of is_fault replies ≡ 0

no-fault : (reply : Reply) (replies : List Reply) → replies ≡ reply ∷ [] → reply ≡ Fault → IsPlainReplies replies → ⊥
no-fault reply replies is fault plain = let e = ap (count_of is_fault) (is ∙ ap (λ (x : Reply). x ∷ []) fault) in let none = plain.faults in omega arith

-- of replies without `fault` the array says its own answer
says-or-own : (m : Array) (command : Command) (reply : Reply) (replies : List Reply) (n : Array) → replies ≡ reply ∷ [] → IsPlainReplies replies → Says m command reply n ⊎ Faults m command reply n → Answers m command replies n
says-or-own m command reply replies n is plain (inl says) = says-own m command reply replies n is says
says-or-own m command reply replies n is plain (inr (k, accepts, fault, stays)) = absurd (no-fault reply replies is fault plain)

-- so does a line with one reply, but that of counters
one-own : (May : Counts → Type 0) (m : Array) (line : Line) (reply : Reply) (replies : List Reply) (n : Array) → replies ≡ reply ∷ [] → IsPlainReplies replies → line ≢ Stat → Replies May m line reply n → IsOwn m line replies n
one-own May m Empty reply replies n is plain other r = absurd r
one-own May m (Load a) reply replies n is plain other r = says-own m (DoLoad a) reply replies n is r
one-own May m (Look a) reply replies n is plain other r = says-own m (DoLook a) reply replies n is r
one-own May m (Store a w) reply replies n is plain other r = says-or-own m (DoStore a w) reply replies n is plain r
one-own May m Begin reply replies n is plain other r = says-own m DoBegin reply replies n is r
one-own May m (Put t a w) reply replies n is plain other r = says-or-own m (DoPut t a w) reply replies n is plain r
one-own May m (Commit t) reply replies n is plain other r = says-own m (DoCommit t) reply replies n is r
one-own May m (Abort t) reply replies n is plain other r = says-own m (DoAbort t) reply replies n is r
one-own May m Tick reply replies n is plain other r = says-or-own m DoTick reply replies n is plain r
one-own May m Power reply replies n is plain other r = absurd r
one-own May m (Cut k g) reply replies n is plain other (armed, stays) = (is ∙ ap (λ (x : Reply). x ∷ []) armed, stays)
one-own May m (Bad k g) reply replies n is plain other (armed, stays) = (is ∙ ap (λ (x : Reply). x ∷ []) armed, stays)
one-own May m Stat reply replies n is plain other r = absurd (other refl)

-- without those two every reply is the array's own
does-own : (May : Counts → Type 0) (m : Array) (line : Line) (replies : List Reply) (n : Array) → IsPlainReplies replies → line ≢ Stat → Does May m line replies n → IsOwn m line replies n
does-own May m line replies n plain other (inl (empty, none, stays)) = subst (λ (l : Line). IsOwn m l replies n) (sym empty) (none, stays)
does-own May m line replies n plain other (inr (inl (reply, is, r))) = one-own May m line reply replies n is plain other r
does-own May m line replies n plain other (inr (inr (inl (two, loses)))) = absurd (let e = ap (count_of is_lost) two in let none = plain.losts in omega arith)
does-own May m line replies n plain other (inr (inr (inr (power, is, left)))) = subst (λ (l : Line). IsOwn m l replies n) (sym power) (is, left)

calm-reply : (reply : Reply) → IsCalmReply reply → (is_lost reply ≡ false) × (is_fault reply ≡ false)
calm-reply (Word w) calm = (refl, refl)
calm-reply Done calm = (refl, refl)
calm-reply (Started t) calm = (refl, refl)
calm-reply Range calm = (refl, refl)
calm-reply (Held t) calm = (refl, refl)
calm-reply Closed calm = (refl, refl)
calm-reply Full calm = (refl, refl)
calm-reply Busy calm = (refl, refl)
calm-reply Fault calm = absurd calm
calm-reply Lost calm = absurd calm
calm-reply Restarted calm = (refl, refl)
calm-reply Armed calm = (refl, refl)
calm-reply (StatLine counts) calm = (refl, refl)

calm-plain : (replies : List Reply) → AllByRecursion IsCalmReply replies → IsPlainReplies replies
calm-plain [] calm = record { losts = refl; faults = refl }
calm-plain (reply ∷ replies) (here, others) = let (e, f) = calm-reply reply here in let rest = calm-plain replies others in record { losts = let lost = ap one_if e in let none = rest.losts in omega arith; faults = let fault = ap one_if f in let none = rest.faults in omega arith }

-- lists that end alike
last-same : {A : Type 0} (xs ys : List A) (x y : A) → xs ++ x ∷ [] ≡ ys ++ y ∷ [] → (xs ≡ ys) × (x ≡ y)
last-same [] [] x y e = (refl, (let same = e in cc))
last-same [] (b ∷ ys) x y e = absurd (let long = ap length e in let split = length-append ys (y ∷ []) in omega arith)
last-same (a ∷ xs) [] x y e = absurd (let long = ap length e in let split = length-append xs (x ∷ []) in omega arith)
last-same (a ∷ xs) (b ∷ ys) x y e =
    let heads : a ≡ b = cc in
    let tails : xs ++ x ∷ [] ≡ ys ++ y ∷ [] = cc in
    let (same, last) = last-same xs ys x y tails in
    (ap (λ (h : _). h ∷ xs) heads ∙ ap (λ (t : _). b ∷ t) same, last)

never-more : {A : Type 0} (xs : List A) (x : A) → [] ≡ xs ++ x ∷ [] → ⊥
never-more xs x e = let long = ap length e in let split = length-append xs (x ∷ []) in omega arith

each-last : {A : Type 0} (P : A → Type 0) (xs : List A) (x : A) → AllByRecursion P (xs ++ x ∷ []) → AllByRecursion P xs × P x
each-last P [] x (here, others) = (tt, here)
each-last P (a ∷ xs) x (here, others) = let (each, last) = each-last P xs x others in ((here, each), last)

-- the same lines from the same array, answered by both: the same replies and the same array
pub turns-alike : OneAnswer → (entries : ℕ) (first m n : Array) (turns others : List TraceTurn) → lines_done turns ≡ lines_done others → AllByRecursion (λ line. line ≢ Stat) (lines_done turns) → count_replies is_lost turns ≡ 0 → count_replies is_fault turns ≡ 0 → Run entries first turns m → Leads (λ earlier. AnswersCalmly) first others n → (written trace_grammar turns ≡ written trace_grammar others) × (m ≡ n)
turns-alike one entries first m n [] [] lines no_stat losts faults run calm = (refl, run ∙ sym calm)
turns-alike one entries first m n [] (other ∷ before) lines no_stat losts faults run calm = absurd (never-more (lines_done before) other.line lines)
turns-alike one entries first m n (turn ∷ earlier) [] lines no_stat losts faults run calm = absurd (never-more (lines_done earlier) turn.line (sym lines))
turns-alike one entries first m n (turn ∷ earlier) (other ∷ before) lines no_stat losts faults (mid, run, does) (middle, calm, answers) =
    let (same, line) = last-same (lines_done earlier) (lines_done before) turn.line other.line lines in
    let (each, here) = each-last (λ l. l ≢ Stat) (lines_done earlier) turn.line no_stat in
    let (text, array) = turns-alike one entries first mid middle earlier before same each (omega arith) (omega arith) run calm in
    let plain : IsPlainReplies turn.replies = record { losts = omega arith; faults = omega arith } in
    let ours : IsOwn mid turn.line turn.replies m = does-own (MayTell entries earlier) mid turn.line turn.replies m plain here does in
    let not_stat : other.line ≢ Stat = subst (λ (l : Line). l ≢ Stat) line here in
    let theirs : IsOwn middle other.line other.replies n = does-own IsNoWork middle other.line other.replies n (calm-plain other.replies (AnswersCalmly.calm answers)) not_stat (AnswersCalmly.does answers) in
    let both_own = own-one one mid turn.line turn.replies other.replies m n ours (subst (λ (l : Line). IsOwn mid l other.replies n) (sym line) (subst (λ (x : Array). IsOwn x other.line other.replies n) (sym array) theirs)) in
    (ap (λ (t : List ℕ). t ++ texts trace_grammar turn.replies) text ∙ ap (λ (rs : List Reply). written trace_grammar before ++ texts trace_grammar rs) both_own.0, both_own.1)

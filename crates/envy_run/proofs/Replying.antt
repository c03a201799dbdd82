-- The reply of a line, from what the call of the memory answered.
use Rattle.std.proofs.Common.{◌≡◌, ◌⊎◌, inl, inr, ℕ, ◌+◌, ◌-◌, ◌^◌, ◌<◌, ◌≤◌, false, [], ◌∷◌, refl, sym, ap, subst, arith}
use Rattle.std.specs.Prelude.{◌↔◌, IsTrue, Result, Ok}
use Rattle.envy_array.specs.Array.{Array}
use Rattle.envy_base.specs.declared.faults.PlannedFault.{PlannedFault}
use Rattle.envy_array.specs.Step.{Command, Answer}
use Rattle.envy_map.specs.Fields.{Chart}
use Rattle.envy_soundness.specs.Same.{Counted}
use Rattle.envy_meaning.specs.Stands.{Fails, Stands, Steps}
use Rattle.envy_array.specs.declared.counts.Counts.{Counts}
use Rattle.envy_memory.proofs.Counted.{up-low}
use Rattle.envy_memory.specs.Calls.{HasFailed, IsCut, Works, planned}
use Rattle.envy_memory.specs.Effects.{TicksOnce}
use Rattle.envy_trace.specs.declared.line.Line.{Line}
use Rattle.envy_trace.specs.declared.line.Line.TheVariants.{Empty, Load, Look, Store, Begin, Put, Commit, Abort, Tick, Power, Cut, Bad, Stat}
use Rattle.envy_trace.specs.declared.reply.Reply.{Reply}
use Rattle.envy_trace.specs.declared.reply.Reply.TheVariants.{Word, Done, Started, Range, Held, Closed, Full, Busy, Fault, Lost, Restarted, Armed, Stat as StatLine}
use Rattle.envy_run.specs.Answers.{Answered, AnswersTo}
use Rattle.envy_run.specs.Licence.{Licence}
use Rattle.envy_run.specs.declared.answers.BoardRequest.{BoardRequest}
use Rattle.envy_serve.specs.Answering.{said}
use Rattle.envy_run.specs.Turns.{Replies, Says, Faults, TellsCounts}

pub says-steps : (m : Array) (command : Command) (answer : Answer) (c : Chart) → Steps m command answer c → (n : Array) × Says m command (said answer) n × Stands c n
says-steps m command answer c (n, step, stands) = (n, (answer, step, refl), stands)

-- an answer of the array is one of the two replies that a line may have
pub says-or : (m : Array) (command : Command) (answer : Answer) (c : Chart) → Steps m command answer c → (n : Array) × (Says m command (said answer) n ⊎ Faults m command (said answer) n) × Stands c n
says-or m command answer c (n, step, stands) = (n, inl (answer, step, refl), stands)

pub fails-or : (m : Array) (command : Command) (c : Chart) → Fails m command c → (n : Array) × (Says m command Fault n ⊎ Faults m command Fault n) × Stands c n
fails-or m command c (k, accepts, stands) = (m, inr (k, accepts, refl, refl), stands)

pub Licence-refl : (c : Chart) → Licence 0 [] 0 0 c c
Licence-refl c = record {
  shape = refl;
  given = refl;
  pulled = λ lt. omega arith;
  plans_made = λ lt. omega arith;
  last_plan = refl;
  cuts = record { kept = omega arith; rise = λ lt. omega arith };
  bads = record { kept = omega arith; rise = λ lt. omega arith };
}

-- the counts of a call license as many `lost` and `fault` as failures came in it
pub Licence-counted : (k j losts faults : ℕ) (c d : Chart) → d.shape ≡ c.shape → Counted k j c d → (d.cuts < 2 ^ 64 - 1 → c.cuts + losts ≤ d.cuts) → (d.bads < 2 ^ 64 - 1 → c.bads + faults ≤ d.bads) → Licence 0 [] losts faults c d
Licence-counted k j losts faults c d shape counted cuts bads = record {
  shape = shape;
  given = counted.given;
  pulled = let e = counted.pulled in λ lt. omega arith;
  plans_made = let e = counted.plans in λ lt. omega arith;
  last_plan = counted.last_plan;
  cuts = record { kept = counted.cuts; rise = λ lt. let le = cuts lt in omega arith };
  bads = record { kept = counted.bads; rise = bads };
}

-- a call in which nothing failed
pub Licence-calm : (k j : ℕ) (c d : Chart) → Works k j c d → Licence 0 [] 0 0 c d
Licence-calm k j c d w =
    let cuts = Counted.cuts w.counted in
    let bads = Counted.bads w.counted in
    Licence-counted k j 0 0 c d w.shape w.counted (λ lt. omega arith) (λ lt. omega arith)

-- one in which power failed
pub Licence-lost : (k j : ℕ) (c d : Chart) → Works k j c d → IsTrue c.on → d.on ≡ false → IsCut c d → Licence 0 [] 1 0 c d
Licence-lost k j c d w on off cut =
    let cuts = Counted.cuts w.counted in
    let bads = Counted.bads w.counted in
    Licence-counted k j 1 0 c d w.shape w.counted (λ lt. let more = cut on off (omega arith) in omega arith) (λ lt. omega arith)

-- one in which a flash operation failed
pub Licence-failed : (k j : ℕ) (c d : Chart) → Works k j c d → HasFailed c d → Licence 0 [] 0 1 c d
Licence-failed k j c d w failed =
    let cuts = Counted.cuts w.counted in
    let bads = Counted.bads w.counted in
    Licence-counted k j 0 1 c d w.shape w.counted (λ lt. omega arith) (λ lt. let more = failed (omega arith) in omega arith)

-- the same of a background step
pub tick-calm : (c d : Chart) → TicksOnce c d → Licence 0 [] 0 0 c d
tick-calm c d (inl w) = Licence-calm 1 0 c d w
tick-calm c d (inr w) = Licence-calm 0 1 c d w

pub tick-lost : (c d : Chart) → TicksOnce c d → IsTrue c.on → d.on ≡ false → IsCut c d → Licence 0 [] 1 0 c d
tick-lost c d (inl w) on off cut = Licence-lost 1 0 c d w on off cut
tick-lost c d (inr w) on off cut = Licence-lost 0 1 c d w on off cut

pub tick-failed : (c d : Chart) → TicksOnce c d → HasFailed c d → Licence 0 [] 0 1 c d
tick-failed c d (inl w) failed = Licence-failed 1 0 c d w failed
tick-failed c d (inr w) failed = Licence-failed 0 1 c d w failed

pub Licence-planned : (fault : PlannedFault) (c d : Chart) → d ≡ planned fault c → Licence 0 (fault ∷ []) 0 0 c d
Licence-planned fault c d e = subst (λ (x : Chart). Licence 0 (fault ∷ []) 0 0 c x) (sym e) (record {
  shape = refl;
  given = refl;
  pulled = λ lt. omega arith;
  plans_made = λ lt. up-low c.plans lt;
  last_plan = refl;
  cuts = record { kept = omega arith; rise = λ lt. omega arith };
  bads = record { kept = omega arith; rise = λ lt. omega arith };
})

-- an answer that tells no counters, whatever they might be
replies-may : (May : Counts → Type 0) (m : Array) (line : Line) (reply : Reply) (n : Array) → Replies (λ counts. ⊥) m line reply n → Replies May m line reply n
replies-may May m Empty reply n r = r
replies-may May m (Load a) reply n r = r
replies-may May m (Look a) reply n r = r
replies-may May m (Store a w) reply n r = r
replies-may May m Begin reply n r = r
replies-may May m (Put t a w) reply n r = r
replies-may May m (Commit t) reply n r = r
replies-may May m (Abort t) reply n r = r
replies-may May m Tick reply n r = r
replies-may May m Power reply n r = r
replies-may May m (Cut k g) reply n r = r
replies-may May m (Bad k g) reply n r = r
replies-may May m Stat reply n r = absurd (TellsCounts.may r)

pub answers-may : (May : Counts → Type 0) (m : Array) (line : Line) (reply : Reply) (c : Chart) → Answered m line reply c → AnswersTo May m line reply c
answers-may May m line (Word w) c (n, r, stands) = (n, replies-may May m line (Word w) n r, stands)
answers-may May m line Done c (n, r, stands) = (n, replies-may May m line Done n r, stands)
answers-may May m line (Started t) c (n, r, stands) = (n, replies-may May m line (Started t) n r, stands)
answers-may May m line Range c (n, r, stands) = (n, replies-may May m line Range n r, stands)
answers-may May m line (Held t) c (n, r, stands) = (n, replies-may May m line (Held t) n r, stands)
answers-may May m line Closed c (n, r, stands) = (n, replies-may May m line Closed n r, stands)
answers-may May m line Full c (n, r, stands) = (n, replies-may May m line Full n r, stands)
answers-may May m line Busy c (n, r, stands) = (n, replies-may May m line Busy n r, stands)
answers-may May m line Fault c (n, r, stands) = (n, replies-may May m line Fault n r, stands)
answers-may May m line Lost c loses = loses
answers-may May m line Restarted c (n, r, stands) = (n, replies-may May m line Restarted n r, stands)
answers-may May m line Armed c (n, r, stands) = (n, replies-may May m line Armed n r, stands)
answers-may May m line (StatLine counts) c (n, r, stands) = (n, replies-may May m line (StatLine counts) n r, stands)

abbrev answered : Reply → Result Reply BoardRequest
answered reply = Ok reply

-- the answer says `lost` where the reply does
pub lost-ok : (reply : Reply) (c : Chart) → (reply ≡ Lost) ↔ (c.on ≡ false) → (answered reply ≡ answered Lost) ↔ (c.on ≡ false)
lost-ok reply c (to, from) = (λ e. to (cc), λ off. ap answered (from off))

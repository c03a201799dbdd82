use Rattle.std.proofs.Common.{◌≡◌, ◌∙◌, ◌<◌, ◌-◌, ◌^◌, ℕ, Bool, true, false, Option, Some, refl, sym, ap}
use Rattle.envy_base.specs.declared.fields.Job.{Job}
use Rattle.envy_base.specs.declared.fields.Job.TheVariants.{Erase}
use Rattle.std.specs.Prelude.{Result, Ok, Err, IsErrOf}
use Rattle.envy_base.specs.Counting.{up}
use Rattle.envy_reloc.specs.declared.step.Phase.{Phase}
use Rattle.envy_engine.specs.declared.did.Did.{Did}
use Rattle.envy_engine.specs.declared.parts.Parts.{Parts}
use Rattle.envy_map.specs.Fields.{chart}
use Rattle.envy_engine.proofs.AgreeLemmas.{Fits-staged, no-stages}
use Rattle.envy_base.proofs.Counting.{up-rises}
use Rattle.envy_base.specs.declared.board.Trouble.{Trouble}
use Rattle.envy_base.specs.declared.board.Trouble.TheVariants.{Bad}
use Rattle.envy_reloc.proofs.Exits.{unpowered, ok-bad}
use Rattle.envy_engine.proofs.TickAnswers.{power-handed, parts-stepped, idles-stepped}
use Rattle.envy_engine.proofs.jobs.tick_job.Goals as goal

pub returns-then-not-erasing-clause-leaves : goal.returns-then-not-erasing-clause-leaves
returns-then-not-erasing-clause-leaves g c =
    let new = chart (g.B.Board.state c.step_job.new.board) in
    let e = c.step_job.ensures.leaves in
    let s = e.steady in
    let w = e.counting in
    record {
      steady = record {
        fits = Fits-staged new.shape c.step_job.new.parts _ s.fits (no-stages new.shape _ c.clear.ensures) refl refl refl refl;
        agrees = λ on. let a = s.agrees on in record { pool = a.pool; held = a.held; current = a.current; job = a.job; two = a.two };
      };
      counting = record { tallies = record { programs = w.tallies.programs; erases = w.tallies.erases }; since = w.since; swaps = w.swaps; wearing = record { on = w.wearing.on; most = w.wearing.most } };
      rests = e.rests;
    }

fault_of : {T : Type 0} → Result T Trouble → Trouble
fault_of (Ok x) = Bad
fault_of (Err f) = f

-- the fault of a bad operation is counted
raised : (b d : ℕ) (f : Trouble) (r : Result Phase Trouble) → (r ≡ Err f) → (IsErrOf r Bad → d ≡ up b) → IsErrOf {T = Did} {E = Trouble} (Err f) Bad → b < 2 ^ 64 - 1 → b < d
unfolding fault_of
raised b d f r is bad same lt = rw (bad (is ∙ ap (λ (x : Trouble). Err x) (ap (λ (s : Result Did Trouble). fault_of s) same))) (up-rises b lt)

-- which fault it was
handed : (f : Trouble) (r : Result Phase Trouble) → r ≡ Err f → IsErrOf {T = Did} {E = Trouble} (Err f) Bad → r ≡ Err Bad
unfolding fault_of
handed f r is same = is ∙ ap (λ (x : Trouble). Err x) (ap (λ (s : Result Did Trouble). fault_of s) same)

-- an erase, where it was found that it was none
not-erasing : {P : Type 0} (b : Bool) → b ≡ false → b ≡ true → P
not-erasing b off on = absurd (let clash : true ≡ false = sym on ∙ off in cc)

same-job : (job : Option Job) (j : Job) → job ≡ Some j → job ≡ Some Erase → j ≡ Erase
same-job job j is erase = let same : Some j ≡ Some Erase = sym is ∙ erase in cc

pub returns-then-not-erasing-clause-bad : goal.returns-then-not-erasing-clause-bad
returns-then-not-erasing-clause-bad g c = raised (g.B.Board.state c.args.board.now).bads (g.B.Board.state c.step_job.new.board).bads c.in-Err.fault c.step_job.result c.in-Err.is (λ is. (c.step_job.ensures.spoils is).bad)

pub returns-else-eq-clause-bad : goal.returns-else-eq-clause-bad
returns-else-eq-clause-bad g c = raised (g.B.Board.state c.args.board.now).bads (g.B.Board.state c.step_job.new.board).bads c.in-Err.fault c.step_job.result c.in-Err.is (λ is. (c.step_job.ensures.spoils is).bad)

pub returns-then-not-erasing-clause-stops : goal.returns-then-not-erasing-clause-stops
returns-then-not-erasing-clause-stops g c is =
    let e = c.step_job.ensures in
    let fails = e.spoils (handed c.in-Err.fault c.step_job.result c.in-Err.is is) in
    let idles = idles-stepped c.args.parts.now c.step_job.new.parts e.parts in
    record {
      job = fails.job;
      idles = record { flushes = idles.flushes; swaps = idles.swaps; chooser = idles.chooser; frames = idles.frames };
      kept = λ erase. not-erasing c.eq-erasing.result c.if-not-erasing.true (rw (same-job _ c.in_ok-job.field-0 c.in_ok-job.ensures.value.1 erase) at c.eq-erasing.ensures);
      dropped = λ other. (c.clear.ensures, fails.dropped other);
      spoils = fails.spoils;
    }

pub returns-in_err-job : goal.returns-in_err-job
returns-in_err-job g c = unpowered (g.B.Board.state c.args.board.now).on c.in_err-job.ensures.value c.requires.ready.on

pub step_job-requires-clause-ready : goal.step_job-requires-clause-ready
step_job-requires-clause-ready g c = c.requires.ready

pub step_job-requires-clause-running : goal.step_job-requires-clause-running
step_job-requires-clause-running g c = c.requires.running

pub returns-in-Ok-clause-step : goal.returns-in-Ok-clause-step
returns-in-Ok-clause-step g c = c.step_job.ensures.step

pub returns-in-Ok-clause-leaves : goal.returns-in-Ok-clause-leaves
returns-in-Ok-clause-leaves g c = c.step_job.ensures.leaves

pub returns-in-Ok-clause-here : goal.returns-in-Ok-clause-here
returns-in-Ok-clause-here g c = c.step_job.ensures.here

pub returns-in-Ok-clause-parts : goal.returns-in-Ok-clause-parts
returns-in-Ok-clause-parts g c = parts-stepped c.args.parts.now c.step_job.new.parts c.step_job.new.parts.stages c.step_job.ensures.parts

pub returns-in-Ok-clause-does : goal.returns-in-Ok-clause-does
returns-in-Ok-clause-does g c =
    let e = c.step_job.ensures in
    record { phase = c.in-Ok.phase; named = c.named.ensures; does = c.in-Ok.ensures.does; idles = idles-stepped c.args.parts.now c.step_job.new.parts e.parts; stages = ap (λ (z : Parts). z.stages) e.parts }

pub returns-in-Ok-clause-cleans : goal.returns-in-Ok-clause-cleans
returns-in-Ok-clause-cleans g c = c.in-Ok.ensures.cleans

pub returns-in-Ok-clause-left : goal.returns-in-Ok-clause-left
returns-in-Ok-clause-left g c = c.in-Ok.ensures.left

pub returns-in-Ok-clause-stops : goal.returns-in-Ok-clause-stops
returns-in-Ok-clause-stops g c is = ok-bad _ is

pub returns-in-Ok-clause-power : goal.returns-in-Ok-clause-power
returns-in-Ok-clause-power g c = c.in-Ok.ensures.power

pub returns-in-Ok-clause-bad : goal.returns-in-Ok-clause-bad
returns-in-Ok-clause-bad g c is = ok-bad _ is

pub returns-then-not-erasing-clause-step : goal.returns-then-not-erasing-clause-step
returns-then-not-erasing-clause-step g c = c.step_job.ensures.step

pub returns-then-not-erasing-clause-here : goal.returns-then-not-erasing-clause-here
returns-then-not-erasing-clause-here g c = c.step_job.ensures.here

pub returns-then-not-erasing-clause-parts : goal.returns-then-not-erasing-clause-parts
returns-then-not-erasing-clause-parts g c = parts-stepped c.args.parts.now c.step_job.new.parts _ c.step_job.ensures.parts

pub returns-then-not-erasing-clause-power : goal.returns-then-not-erasing-clause-power
returns-then-not-erasing-clause-power g c = power-handed Phase Did c.step_job.result (g.B.Board.state c.step_job.new.board).on c.in-Err.fault c.step_job.ensures.power c.in-Err.is

pub returns-else-eq-clause-step : goal.returns-else-eq-clause-step
returns-else-eq-clause-step g c = c.step_job.ensures.step

pub returns-else-eq-clause-leaves : goal.returns-else-eq-clause-leaves
returns-else-eq-clause-leaves g c = c.step_job.ensures.leaves

pub returns-else-eq-clause-here : goal.returns-else-eq-clause-here
returns-else-eq-clause-here g c = c.step_job.ensures.here

pub returns-else-eq-clause-parts : goal.returns-else-eq-clause-parts
returns-else-eq-clause-parts g c = parts-stepped c.args.parts.now c.step_job.new.parts c.step_job.new.parts.stages c.step_job.ensures.parts

pub returns-else-eq-clause-power : goal.returns-else-eq-clause-power
returns-else-eq-clause-power g c = power-handed Phase Did c.step_job.result (g.B.Board.state c.step_job.new.board).on c.in-Err.fault c.step_job.ensures.power c.in-Err.is

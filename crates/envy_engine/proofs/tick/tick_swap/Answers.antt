use Rattle.std.proofs.Common.{◌≡◌, inl, inr, refl}
use Rattle.envy_map.specs.Fields.{chart}
use Rattle.envy_soundness.specs.Same.{Same, Stays, Framed}
use Rattle.envy_soundness.proofs.Composition.{Same-refl}
use Rattle.envy_table.proofs.HitLemmas.{Rests-refl}
use Rattle.envy_wear.specs.Swaps.{IsDue, IsMostWorn, IsLeastWorn}
use Rattle.envy_engine.proofs.AgreeLemmas.{Agrees-begun, Fits-staged}
use Rattle.envy_reloc.proofs.Exits.{unpowered, off-if, off-after, off-bad, ok-bad}
use Rattle.envy_engine.proofs.EndAnswers.{Steady-lost}
use Rattle.envy_engine.proofs.JobLemmas.{IsPlanOf-anew}
use Rattle.envy_engine.proofs.Leaving.{leaves_none, match_known, counts_tick}
use Rattle.envy_engine.proofs.SwapAnswers.{plan-anew, stages-left, two-left, TicksSwap-began, CountsTick-began, Counting-lost, due-some, due-none, anew-some}
use Rattle.envy_engine.proofs.WearLemmas.{IsQuiet-none}
use Rattle.envy_engine.proofs.WordAnswers.{Steady-ready}
use Rattle.envy_engine.proofs.tick.tick_swap.Goals as goal

pub due_after-requires-clause-sound : goal.due_after-requires-clause-sound
due_after-requires-clause-sound g c on = c.requires.ready.sound

pub due_after-requires-clause-quiet : goal.due_after-requires-clause-quiet
due_after-requires-clause-quiet g c on = rw c.since.ensures c.requires.quiet

pub returns-in_err-swap : goal.returns-in_err-swap
returns-in_err-swap g c = unpowered (g.B.Board.state c.args.board.now).on c.in_err-swap.ensures.power c.requires.ready.on

pub returns-in_default : goal.returns-in_default
returns-in_default g c =
    let old = chart (g.B.Board.state c.args.board.now) in
    let x = c.args.parts.now in
    let r = c.requires.ready in
    let none = due-none c.args.limit old x.reloc.since _ c.in_default.is (rw (← c.since.ensures) c.in_ok-swap.ensures.due) in
    record {
      same = Same-refl old r.sound;
      steady = Steady-ready old x r;
      does = inr (none, refl, refl, refl);
      counts = counts_tick old old x x (leaves_none old x r).counting;
      idle = λ due. refl;
      never = λ bad. ok-bad _ bad;
      quiet = rw (← c.since.ensures) c.in_ok-swap.ensures.quiet;
      rests = Rests-refl x.cache;
      power = r.on;
    }

pub begin-requires-clause-ready : goal.begin-requires-clause-ready
begin-requires-clause-ready g c on = record { sound = c.requires.ready.sound; agrees = c.requires.ready.agrees.pool; idle = c.requires.rest.0 }

pub begin-requires-clause-shape : goal.begin-requires-clause-shape
begin-requires-clause-shape g c = c.requires.ready.fits.pool

pub returns-in_err-begin : goal.returns-in_err-begin
returns-in_err-begin g c =
    let old = chart (g.B.Board.state c.args.board.now) in
    let new = chart (g.B.Board.state c.begin.new.board) in
    let x = c.args.parts.now in
    let r = c.requires.ready in
    let is = c.from_residual-in_err-begin.ensures.1 in
    let off = c.in_err-begin.ensures.power in
    let same = c.begin.ensures.same r.sound in
    let due = due-some c.args.limit old x.reloc.since _ c.in-Some.swap c.in-Some.is (rw (← c.since.ensures) c.in_ok-swap.ensures.due) in
    let w = Counting-lost old new x _ c.begin.new.self same off (c.begin.ensures.plan r.on) in
    record {
      same = same;
      steady = Steady-lost old new x _ (Framed.shape (Stays.framed (Same.stays same))) off r.fits refl refl refl refl refl;
      does = off-if c.from_residual-in_err-begin.result _ is;
      counts = match_known c.from_residual-in_err-begin.result _ _ (counts_tick _ _ _ _ w) w;
      idle = λ none. absurd (none c.in-Some.swap due);
      never = λ bad. off-bad c.from_residual-in_err-begin.result is bad;
      quiet = λ on. unpowered new.on off on;
      rests = Rests-refl x.cache;
      power = off-after c.from_residual-in_err-begin.result new.on off is;
    }

pub returns-clause-steady : goal.returns-clause-steady
returns-clause-steady g c =
    let old = chart (g.B.Board.state c.args.board.now) in
    let new = chart (g.B.Board.state c.begin.new.board) in
    let r = c.requires.ready in
    let shape : new.shape ≡ old.shape = Framed.shape (Stays.framed (Same.stays (c.begin.ensures.same r.sound))) in
    let due = due-some c.args.limit old c.args.parts.now.reloc.since _ c.in-Some.swap c.in-Some.is (rw (← c.since.ensures) c.in_ok-swap.ensures.due) in
    let within = (c.next-begun.ensures.below _ (c.start.ensures.below _ (IsMostWorn.below (IsDue.worn due)) (IsLeastWorn.below (IsDue.young due)))).1 in
    let few = two-left _ c.in-Some.swap (stages-left _ _ c.in-Some.swap c.start.ensures.stages c.next-begun.ensures.rest) in
    record {
      fits = rw shape (Fits-staged old.shape c.args.parts.now _ r.fits (record { within = within; few = few }) refl refl refl refl);
      agrees = λ on. Agrees-begun old new c.args.parts.now _ _ r.agrees c.in_ok-begin.ensures.begins.fields (IsPlanOf-anew new.shape new.fields new.flash c.begin.new.self c.count_anew.new.self c.count_anew.ensures (c.begin.ensures.agrees on)) refl refl refl;
    }

pub returns-clause-same : goal.returns-clause-same
returns-clause-same g c = c.begin.ensures.same c.requires.ready.sound

pub returns-clause-does : goal.returns-clause-does
returns-clause-does g c =
    let old = chart (g.B.Board.state c.args.board.now) in
    let new = chart (g.B.Board.state c.begin.new.board) in
    let x = c.args.parts.now in
    let r = c.requires.ready in
    let due = due-some c.args.limit old x.reloc.since _ c.in-Some.swap c.in-Some.is (rw (← c.since.ensures) c.in_ok-swap.ensures.due) in
    let stages = stages-left _ _ c.in-Some.swap c.start.ensures.stages c.next-begun.ensures.rest in
    let plan = plan-anew x.reloc c.begin.new.self c.count_anew.new.self _ (c.begin.ensures.plan r.on) c.new.ensures c.count_anew.ensures in
    inl (TicksSwap-began c.args.limit old new x c.in-Some.swap _ _ _ due r.agrees.pool.positions c.in_ok-begin.ensures.begins.fields stages c.one_more-parts.ensures plan)

pub returns-clause-counts : goal.returns-clause-counts
returns-clause-counts g c =
    let old = chart (g.B.Board.state c.args.board.now) in
    let new = chart (g.B.Board.state c.begin.new.board) in
    let x = c.args.parts.now in
    let r = c.requires.ready in
    let plan = plan-anew x.reloc c.begin.new.self c.count_anew.new.self _ (c.begin.ensures.plan r.on) c.new.ensures c.count_anew.ensures in
    CountsTick-began old new x _ _ _ (Stays.counted (Same.stays (c.begin.ensures.same r.sound))) c.one_more-parts.ensures plan

pub returns-clause-idle : goal.returns-clause-idle
returns-clause-idle g c none =
    let old = chart (g.B.Board.state c.args.board.now) in
    absurd (none c.in-Some.swap (due-some c.args.limit old c.args.parts.now.reloc.since _ c.in-Some.swap c.in-Some.is (rw (← c.since.ensures) c.in_ok-swap.ensures.due)))

pub returns-clause-never : goal.returns-clause-never
returns-clause-never g c bad = ok-bad _ bad

pub returns-clause-quiet : goal.returns-clause-quiet
returns-clause-quiet g c on = IsQuiet-none _ _ _ _ _ (anew-some _ c.in-Some.swap _ c.in-Some.is c.in_ok-swap.ensures.anew)

pub returns-clause-rests : goal.returns-clause-rests
returns-clause-rests g c = Rests-refl c.args.parts.now.cache

pub returns-clause-power : goal.returns-clause-power
returns-clause-power g c = c.in_ok-begin.ensures.power

-- What answering a line does below the array: how much flash work it begins at most, and by which rules.
use Rattle.std.specs.Prelude.{◌≡◌, ⊤, Ok, Err}
use Rattle.envy_base.specs.declared.board.Trouble.TheVariants.{Bad as TroubleBad}
use Rattle.envy_base.specs.declared.faults.PlannedFault.TheVariants.{Cut as PlanCut, Bad as PlanBad}
use Rattle.envy_engine.specs.declared.did.Did.{Did}
use Rattle.envy_map.specs.Fields.{Chart}
use Rattle.envy_memory.specs.Below.{StoresBelow, PutsBelow, TicksBelow, flush_programs, flush_erases}
use Rattle.envy_memory.specs.Calls.{Works, planned}
use Rattle.envy_memory.specs.Effects.{TicksOnce}
use Rattle.envy_memory.specs.Picture.{Picture}
use Rattle.envy_memory.specs.declared.faults.PutFault.TheVariants.{Bad as PutBad}
use Rattle.envy_memory.specs.declared.faults.StoreFault.TheVariants.{Bad as StoreBad}
use Rattle.envy_trace.specs.declared.line.Line.{Line}
use Rattle.envy_trace.specs.declared.line.Line.TheVariants.{Load, Look, Store, Begin, Put, Commit, Abort, Tick, Cut, Bad, Stat}
use Rattle.envy_trace.specs.declared.reply.Reply.{Reply}
use Rattle.envy_trace.specs.declared.reply.Reply.TheVariants.{Done, Fault, Range, Held, Closed, Full, Busy}

-- Programs and erases that a line begins: those of one flush, with a cleaning and the end of a swap before it; one in a
-- background step; none where a slot is opened or closed. Else the board stays, but for a plan.
abbrev pub WorksOf : Line → Chart → Chart → Type 0
WorksOf (Store a w) old new = Works (flush_programs old.shape.rows) flush_erases old new
WorksOf (Put t a w) old new = Works (flush_programs old.shape.rows) flush_erases old new
WorksOf Begin old new = Works 0 0 old new
WorksOf (Commit t) old new = Works 0 0 old new
WorksOf (Abort t) old new = Works 0 0 old new
WorksOf Tick old new = TicksOnce old new
WorksOf (Cut k g) old new = new ≡ planned (PlanCut k g) old
WorksOf (Bad k g) old new = new ≡ planned (PlanBad k g) old
WorksOf line old new = new ≡ old

-- A background step, a store and a put that were done, or that a bad operation ended, did below the array what that call
-- of the memory says: a step is that of the first rule that applies, a flush is by the policy's choice. No other line
-- changes heats, turns, stages or what was counted of flash work, and one that only asks changes nothing but the cache. A
-- line that is refused changes nothing at all.
abbrev pub FollowsRules : Line → Reply → Picture → Picture → Type 0
FollowsRules Tick Done old new = (did : Did) × TicksBelow (Ok did) old new
FollowsRules Tick Fault old new = TicksBelow (Err TroubleBad) old new
FollowsRules (Store a w) Done old new = StoresBelow a (Ok tt) old new
FollowsRules (Store a w) Fault old new = StoresBelow a (Err StoreBad) old new
FollowsRules (Store a w) Range old new = new ≡ old
FollowsRules (Store a w) (Held u) old new = new ≡ old
FollowsRules (Put t a w) Done old new = PutsBelow t a (Ok tt) old new
FollowsRules (Put t a w) Fault old new = PutsBelow t a (Err PutBad) old new
FollowsRules (Put t a w) Range old new = new ≡ old
FollowsRules (Put t a w) Closed old new = new ≡ old
FollowsRules (Put t a w) (Held u) old new = new ≡ old
FollowsRules (Put t a w) Full old new = new ≡ old
FollowsRules (Load a) Range old new = new ≡ old
FollowsRules (Load a) reply old new = new ≡ record old { parts = record old.parts { cache = new.parts.cache } }
FollowsRules (Look a) reply old new = new ≡ old
FollowsRules Begin Busy old new = new ≡ old
FollowsRules Begin reply old new = new ≡ record old { chart = new.chart; sram = new.sram }
FollowsRules (Commit t) Closed old new = new ≡ old
FollowsRules (Commit t) reply old new = new ≡ record old { chart = new.chart; sram = new.sram; owned = new.owned; parts = record old.parts { space = new.parts.space } }
FollowsRules (Abort t) Closed old new = new ≡ old
FollowsRules (Abort t) reply old new = new ≡ record old { chart = new.chart; sram = new.sram; owned = new.owned; parts = record old.parts { frames = new.parts.frames; space = new.parts.space; cache = new.parts.cache } }
FollowsRules (Cut k g) reply old new = new ≡ record old { chart = planned (PlanCut k g) old.chart }
FollowsRules (Bad k g) reply old new = new ≡ record old { chart = planned (PlanBad k g) old.chart }
FollowsRules Stat reply old new = new ≡ old
FollowsRules line reply old new = ⊤

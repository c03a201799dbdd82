-- What the parts of a board in memory stand for.
use Rattle.std.specs.Prelude.{ℕ, ◌*◌, true, List, replicate, None}
use Rattle.envy_base.specs.declared.shape.Shape.{Shape}
use Rattle.envy_base.specs.State.{State, no_notes, ones}
use Rattle.envy_base.specs.Map.{words_of}
use Rattle.envy_bank.specs.Rows.{BankState}
use Rattle.envy_bench.specs.Power.{Power}
use Rattle.envy_bench.specs.declared.plans.Plans.{Plans}

abbrev pub state_of : Shape → BankState → List ℕ → Power → ℕ → ℕ → Plans → ℕ → State
state_of shape flash sram power begun pulled plans given = record {
  shape = shape;
  flash = flash.flash;
  sram = sram;
  on = power.on;
  cuts = power.cuts;
  bads = power.bads;
  begun = begun;
  erases = flash.erases;
  pulled = pulled;
  plans = plans.made;
  last_plan = plans.last;
  lives = power.lives;
  given = given;
  notes = no_notes;
}

-- a new board: all flash is ones, and all SRAM zeros
abbrev pub new_state : Shape → ℕ → State
new_state shape lives = record {
  shape = shape;
  flash = replicate (shape.segments * shape.rows) ones;
  sram = replicate (words_of shape) 0;
  on = true;
  cuts = 0;
  bads = 0;
  begun = 0;
  erases = replicate shape.segments 0;
  pulled = 0;
  plans = 0;
  last_plan = None;
  lives = lives;
  given = lives;
  notes = no_notes;
}

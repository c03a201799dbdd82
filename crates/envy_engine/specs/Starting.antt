-- The parts of a memory that was just made.
use Rattle.std.specs.Prelude.{◌-◌, [], None}
use Rattle.envy_policy.specs.History.{started}
use Rattle.envy_policy.specs.declared.setup.Setup.{Setup}
use Rattle.envy_space.specs.Pool.{empty_pool}
use Rattle.envy_table.specs.Entries.{vacant}
use Rattle.envy_engine.specs.declared.parts.Parts.{Parts}
use Rattle.envy_base.specs.Shape.{positions_of}

abbrev pub started_parts : Setup → Parts
started_parts setup = record {
  frames = record { held = []; count = setup.shape.frames };
  space = empty_pool setup.shape;
  cache = record { entries = vacant setup.shape.entries; hits = 0; misses = 0 };
  chooser = started setup.policy setup.shape.pages (positions_of setup.shape);
  reloc = record { moves = []; aside = None; mark = 0; copied = 0; moved = 0; erased = 0; since = 0 };
  stages = [];
  flushes = 0;
  swaps = 0;
}

use Rattle.std.proofs.Common.{◌≡◌, ◌<◌, bit_and}
use Rattle.envy_cfi.specs.Driving.{Reads}
use Rattle.envy_cfi.proofs.driver.end.Given as goal

-- what was read last is a status, and it told that the part isn't ready
abbrev pub invariant-loop-turn : goal.invariant-loop-turn
invariant-loop-turn g l = record {
  same : g.B.Bus.chip l.bus ≡ g.B.Bus.chip l.initial.bus;
  reads : 0 < l._turn → Reads (g.B.Bus.chip l.initial.bus) l.addr (g.B.Bus.heard l.bus);
  waits : 0 < l._turn → bit_and (g.B.Bus.heard l.bus) 128 ≡ 0;
}

use Rattle.std.proofs.Common.{◌≡◌, ◌+◌, ◌*◌, ◌≤◌, take, length}
use Rattle.envy_trace.specs.Commands.{name_of}
use Rattle.envy_trace.specs.Spelling.{written}
use Rattle.envy_trace.proofs.write.write_command.Given as goal

abbrev pub invariant-loop-number : goal.invariant-loop-number
invariant-loop-number l = record {
  text : l.out.items ≡ written (name_of l.fn.command) (take l.number-index l.numbers);
  room : length l.out.items ≤ 6 + 21 * l.number-index;
}

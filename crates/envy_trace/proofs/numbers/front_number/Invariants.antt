use Rattle.std.proofs.Common.{◌≡◌, ◌≤◌, ◌-◌, length, take}
use Rattle.std.specs.Str.Parse.{AllDigits, digits_value}
use Rattle.envy_trace.proofs.numbers.front_number.Given as goal

abbrev pub invariant-loop-end : goal.invariant-loop-end
invariant-loop-end l = record {
  few : l.end ≤ 19;
  within : l.end ≤ length l.bytes;
  digits : AllDigits 10 (take l.end l.bytes);
  value : l.value ≡ digits_value 10 (take l.end l.bytes);
}

abbrev pub decreases-loop-end : goal.decreases-loop-end
decreases-loop-end l = 19 - l.end

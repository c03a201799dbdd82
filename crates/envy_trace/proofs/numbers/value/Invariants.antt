use Rattle.std.proofs.Common.{◌≡◌, ◌+◌, ◌^◌, ◌<◌, length, min, take}
use Rattle.std.specs.Str.Parse.{AllDigits, digits_value}
use Rattle.envy_trace.proofs.numbers.value.Given as goal

abbrev pub invariant-loop-byte : goal.invariant-loop-byte
invariant-loop-byte l = record {
  digits : AllDigits 10 (take (min (length l.fn.field) 19 + l.byte-index) l.fn.field);
  value : l.value ≡ digits_value 10 (take (min (length l.fn.field) 19 + l.byte-index) l.fn.field);
  fits : l.value < 2 ^ 64;
}

-- The numbers of the faults of a line.
use Rattle.std.specs.Prelude.{ℕ}
use Rattle.envy_trace.specs.declared.fault.LineFault.{LineFault}
use Rattle.envy_trace.specs.declared.fault.LineFault.TheVariants.{Word, Number, Count, Long}

abbrev pub fault_number : LineFault → ℕ
fault_number Word = 1
fault_number Number = 2
fault_number Count = 3
fault_number Long = 4

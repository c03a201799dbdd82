-- Why a call of the memory stops a transfer.
use Rattle.envy_memory.specs.declared.faults.LoadFault.{LoadFault}
use Rattle.envy_memory.specs.declared.faults.LoadFault.TheVariants.{Off as LoadOff, Range as LoadRange}
use Rattle.envy_memory.specs.declared.faults.BeginFault.{BeginFault}
use Rattle.envy_memory.specs.declared.faults.BeginFault.TheVariants.{Off as BeginOff, Busy as BeginBusy}
use Rattle.envy_memory.specs.declared.faults.PutFault.{PutFault}
use Rattle.envy_memory.specs.declared.faults.PutFault.TheVariants.{Off as PutOff, Range as PutRange, Closed as PutClosed, Held as PutHeld, Full as PutFull, Bad as PutBad}
use Rattle.envy_memory.specs.declared.faults.EndFault.{EndFault}
use Rattle.envy_memory.specs.declared.faults.EndFault.TheVariants.{Off as EndOff, Closed as EndClosed}
use Rattle.envy_tpca.specs.declared.fault.Fault.{Fault}
use Rattle.envy_tpca.specs.declared.fault.Fault.TheVariants.{Off, Bad, Refused}

abbrev pub load_stop : LoadFault → Fault
load_stop LoadOff = Off
load_stop LoadRange = Refused

abbrev pub begin_stop : BeginFault → Fault
begin_stop BeginOff = Off
begin_stop BeginBusy = Refused

abbrev pub put_stop : PutFault → Fault
put_stop PutOff = Off
put_stop PutRange = Refused
put_stop PutClosed = Refused
put_stop (PutHeld u) = Refused
put_stop PutFull = Refused
put_stop PutBad = Bad

abbrev pub end_stop : EndFault → Fault
end_stop EndOff = Off
end_stop EndClosed = Refused

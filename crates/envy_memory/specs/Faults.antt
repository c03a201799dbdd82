-- The answer of a call that power or a flash operation ended.
use Rattle.std.specs.Prelude.{⊤, Result, Ok, Err}
use Rattle.envy_base.specs.declared.board.Trouble.{Trouble}
use Rattle.envy_base.specs.declared.board.Trouble.TheVariants.{Off as TroubleOff, Bad as TroubleBad}
use Rattle.envy_memory.specs.declared.faults.PutFault.{PutFault}
use Rattle.envy_memory.specs.declared.faults.PutFault.TheVariants.{Off as PutOff, Bad as PutBad}
use Rattle.envy_memory.specs.declared.faults.StoreFault.{StoreFault}
use Rattle.envy_memory.specs.declared.faults.StoreFault.TheVariants.{Off as StoreOff, Bad as StoreBad}

abbrev pub store_fault : Trouble → StoreFault
store_fault TroubleOff = StoreOff
store_fault TroubleBad = StoreBad

abbrev pub put_fault : Trouble → PutFault
put_fault TroubleOff = PutOff
put_fault TroubleBad = PutBad

-- the put was done, or power or a flash operation ended it
abbrev pub IsNoRefusal : Result Unit PutFault → Type 0
IsNoRefusal (Ok done) = ⊤
IsNoRefusal (Err PutOff) = ⊤
IsNoRefusal (Err PutBad) = ⊤
IsNoRefusal (Err fault) = ⊥

abbrev pub trouble_of : Result Unit PutFault → Result Unit Trouble
trouble_of (Ok done) = Ok tt
trouble_of (Err PutBad) = Err TroubleBad
trouble_of (Err fault) = Err TroubleOff

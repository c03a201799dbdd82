-- Why a file wasn't opened, by the error of a call.
use Rattle.std.specs.declared.io.ErrorKind.{ErrorKind}
use Rattle.std.specs.declared.io.ErrorKind.TheVariants.{OutOfMemory}
use Rattle.envy_hostfile.specs.declared.opened_file.OpenFault.{OpenFault}
use Rattle.envy_hostfile.specs.declared.opened_file.OpenFault.TheVariants.{Memory, Unreadable}

abbrev pub fault_of : ErrorKind → OpenFault
fault_of OutOfMemory = Memory
fault_of kind = Unreadable

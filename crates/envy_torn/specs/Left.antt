-- What a process leaves of a file when it ends, while the machine goes on.
use Rattle.std.specs.Prelude.{List, ℕ}
use Rattle.envy_torn.specs.declared.left.LeftFile.{LeftFile}

-- what the system holds of the file, which is what a read gives
abbrev pub held_bytes : LeftFile → List ℕ
held_bytes file = file.held.items

abbrev pub disk_bytes : LeftFile → List ℕ
disk_bytes file = file.disk.items

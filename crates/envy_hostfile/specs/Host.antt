-- A file of the host, by the record of its calls.
use Rattle.std.specs.Prelude.{Bool, List, ℕ}
use Rattle.envy_hostfile.specs.declared.host.HostCalls.{HostCalls}
use Rattle.envy_device.specs.Calls.{seen_after, MayLeave, have_failed}
use Rattle.envy_device.specs.declared.logged_file.LoggedFile.{LoggedFile}

abbrev pub host_bytes : {F P : Type 0} → LoggedFile (HostCalls F P) → List ℕ
host_bytes host = seen_after host.file.record.calls

abbrev pub host_outcome : {F P : Type 0} → LoggedFile (HostCalls F P) → List ℕ → Type 0
host_outcome host c = MayLeave host.bytewise host.file.record.calls c

abbrev pub host_failed : {F P : Type 0} → LoggedFile (HostCalls F P) → Bool
host_failed host = have_failed host.file.record.calls

abbrev pub host_bytewise : {F P : Type 0} → LoggedFile (HostCalls F P) → Bool
host_bytewise host = host.bytewise

-- A call as a record notes it.
use Rattle.envy_device.specs.declared.made.Made.{Made}
use Rattle.envy_device.specs.declared.made.Made.TheVariants as made
use Rattle.envy_device.specs.Calls.{Call, Found, Wrote, WriteFailed, CutTo, CutFailed, Synced, SyncFailed, Began, BeginFailed, Appended, AppendFailed, Replaced, SecondNotReplaced, ReplaceFailed}

abbrev pub call_of : Made → Call
call_of (made.Found bytes) = Found bytes.now
call_of (made.Wrote at bytes) = Wrote at bytes.now
call_of (made.WriteFailed at bytes) = WriteFailed at bytes.now
call_of (made.CutTo size) = CutTo size
call_of (made.CutFailed size) = CutFailed size
call_of made.Synced = Synced
call_of made.SyncFailed = SyncFailed
call_of made.Began = Began
call_of made.BeginFailed = BeginFailed
call_of (made.Appended bytes) = Appended bytes.now
call_of (made.AppendFailed size) = AppendFailed size
call_of made.Replaced = Replaced
call_of made.SecondNotReplaced = SecondNotReplaced
call_of made.ReplaceFailed = ReplaceFailed

-- What an order says to whoever serves the file, and the call that it is.
use Rattle.std.specs.Prelude.{ℕ, List, [], ◌++◌, length}
use Rattle.std.specs.Int.{w64, to_le_bytes}
use Rattle.envy_device.specs.Calls.{Call, Wrote, WriteFailed, CutTo, CutFailed, Synced, SyncFailed, Began, BeginFailed, Appended, AppendFailed, Replaced, ReplaceFailed}
use Rattle.envy_portfile.specs.declared.order.Order.{Order}
use Rattle.envy_portfile.specs.declared.order.Order.TheVariants.{Write, Cut, Sync, Begin, Append, Replace}

-- the call where the order was carried out
abbrev pub done_of : Order → Call
done_of (Write at bytes) = Wrote at bytes.now
done_of (Cut size) = CutTo size
done_of Sync = Synced
done_of Begin = Began
done_of (Append bytes) = Appended bytes.now
done_of Replace = Replaced

-- and where it wasn't
abbrev pub failed_of : Order → Call
failed_of (Write at bytes) = WriteFailed at bytes.now
failed_of (Cut size) = CutFailed size
failed_of Sync = SyncFailed
failed_of Begin = BeginFailed
failed_of (Append bytes) = AppendFailed (length bytes.now)
failed_of Replace = ReplaceFailed

-- the number of the call
abbrev pub number_of : Order → ℕ
number_of (Write at bytes) = 1
number_of (Cut size) = 2
number_of Sync = 3
number_of Begin = 4
number_of (Append bytes) = 5
number_of Replace = 6

-- the offset, or the size that the file is cut to
abbrev pub place_of : Order → ℕ
place_of (Write at bytes) = at
place_of (Cut size) = size
place_of order = 0

-- the bytes that follow
abbrev pub behind_of : Order → List ℕ
behind_of (Write at bytes) = bytes.now
behind_of (Append bytes) = bytes.now
behind_of order = []

-- the three numbers in front of them
abbrev pub header_of : Order → List ℕ
header_of order = to_le_bytes w64 (number_of order) ++ to_le_bytes w64 (place_of order) ++ to_le_bytes w64 (length (behind_of order))

-- What opening a file cuts off, and whether a sync may be lost with it.
use Rattle.std.specs.Prelude.{ℕ, zero, suc, ◌==◌, Bool, true, false, if◌then◌else◌, List, [], ◌∷◌, length}
use Rattle.envy_journal.specs.Reading.{behind_tag, is_open, whole}

-- The bytes from the gate at which reading stops, once so many bytes are passed over. There are none if reading comes to
-- the end of the bytes, or breaks off.
unfoldable pub unread : Bool → ℕ → List ℕ → List ℕ
unread within skip [] = []
unread within (suc skip) (byte ∷ rest) = unread within skip rest
unread false zero (gate ∷ rest) = if is_open gate rest then unread true zero rest else gate ∷ rest
unread true zero (tag ∷ rest) =
    if tag == 5 then unread false zero rest
    else (if tag == 7 then unread false 8 rest
    else (if behind_tag tag == 0 then [] else unread true (behind_tag tag) rest))

-- whether whole operations are there and then the end of their batch, once so many bytes are passed over
unfoldable pub ends_batch : ℕ → List ℕ → Bool
ends_batch skip [] = false
ends_batch (suc skip) (byte ∷ rest) = ends_batch skip rest
ends_batch zero (tag ∷ rest) = if tag == 5 then true else (if behind_tag tag == 0 then false else ends_batch (behind_tag tag) rest)

-- whether a whole batch is at the front: an open gate, an operation or more and an end, or a counted batch of which nothing
-- is lost
unfoldable pub begins_batch : List ℕ → Bool
begins_batch [] = false
begins_batch (gate ∷ []) = false
begins_batch (gate ∷ tag ∷ rest) =
    if gate == 4 then (if tag == 5 then false else ends_batch 0 (tag ∷ rest))
    else (if gate == 6 then whole 0 0 (tag ∷ rest) else false)

-- whether one begins at some place
unfoldable pub has_batch : List ℕ → Bool
has_batch [] = false
has_batch (byte ∷ rest) = if begins_batch (byte ∷ rest) then true else has_batch rest

-- how many bytes opening the file cuts off, if a whole batch with an open gate is among them; else none
abbrev pub cut_batch : List ℕ → ℕ
cut_batch file = if has_batch (unread false 33 file) then length (unread false 33 file) else 0

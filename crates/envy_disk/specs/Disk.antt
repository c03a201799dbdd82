-- What a sync does to a board.
use Rattle.std.specs.Prelude.{◌≡◌, ◌⊎◌, false, IsTrue, Result, Ok, Err}
use Rattle.envy_base.specs.State.{Notes, State, SyncNote, cut}
use Rattle.envy_base.specs.declared.board.Off.{Off}
use Rattle.envy_map.specs.Fields.{Chart, failed}

-- the notes after one sync more
abbrev pub noted : SyncNote → Notes → Notes
noted sync notes = record { last = sync; before = notes.last }

-- the board with other notes
abbrev pub with_notes : State → Notes → State
with_notes s notes = record s { notes = notes }

-- The owner notes one sync more, and nothing else changes; or it fails, and power is off.
abbrev pub Syncs : {T : Type 0} → State → Result T Off → State → Type 0
Syncs old (Ok done) new = IsTrue old.on × (sync : SyncNote) × (new ≡ with_notes old (noted sync old.notes))
Syncs old (Err off) new = ((old.on ≡ false) × (new ≡ old)) ⊎ (IsTrue old.on × (new ≡ cut old))

-- the same of a board that is read by its map
abbrev pub with_sync : Chart → SyncNote → Chart
with_sync c sync = record c { notes = noted sync c.notes }

abbrev pub SyncsChart : {T : Type 0} → Chart → Result T Off → Chart → Type 0
SyncsChart old (Ok done) new = IsTrue old.on × (sync : SyncNote) × (new ≡ with_sync old sync)
SyncsChart old (Err off) new = ((old.on ≡ false) × (new ≡ old)) ⊎ (IsTrue old.on × (new ≡ failed old))

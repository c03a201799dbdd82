-- Which slots are open.
use Rattle.std.specs.Prelude.{◌≡◌, ◌≢◌, ℕ, ◌<◌, ◌≤◌, Bool, true, false, Option, None, Some}
use Rattle.envy_base.specs.declared.fields.Slot.TheVariants.{Active}
use Rattle.envy_map.specs.Fields.{Chart, slot}

-- the lowest slot that is open, if one is
abbrev pub IsFirstOpen : Chart → Option ℕ → Type 0
IsFirstOpen c None = (t : ℕ) → t < 64 → slot c.fields t ≢ Some Active
IsFirstOpen c (Some t) = (t < 64) × (slot c.fields t ≡ Some Active) × ((u : ℕ) → u < t → slot c.fields u ≢ Some Active)

-- whether a slot is open, of those from one on up to another
abbrev pub HasOpenAmong : ℕ → ℕ → Chart → Bool → Type 0
HasOpenAmong first end c true = (t : ℕ) × (first ≤ t) × (t < end) × (slot c.fields t ≡ Some Active)
HasOpenAmong first end c false = (t : ℕ) → first ≤ t → t < end → slot c.fields t ≢ Some Active

-- whether a slot is open, of those from one on
abbrev pub HasOpenFrom : ℕ → Chart → Bool → Type 0
HasOpenFrom first = HasOpenAmong first 64

-- A loop over the lanes, lane by lane.
use Rattle.std.proofs.Common.{◌≡◌, ◌≢◌, ℕ, ◌+◌, ◌<◌, ◌≤◌, ◌↔◌, inl, inr, Bool, true, false, ◌&&◌, IsTrue, List, length, get_or, set, refl, arith}
use Rattle.std.proofs.lemmas.Bool.{cases_eq}
use Rattle.std.proofs.lemmas.List.{get_or-set_same, get_or-set_other}
use Rattle.envy_bank.specs.Commands.{ChipState}

-- the chips below n have changed
pub record Begun (f : ℕ → ChipState → ChipState) (old now : List ChipState) (n : ℕ) : Type 0 where
  pub long : length now ≡ length old
  pub each : (j : ℕ) (d : ChipState) → j < n → get_or now j d ≡ f j (get_or old j d)
  pub rest : (j : ℕ) (d : ChipState) → n ≤ j → get_or now j d ≡ get_or old j d

-- the chips below n hold these bytes at the address q
abbrev pub HoldBelow : ℕ → (ℕ → ℕ) → List ChipState → ℕ → Type 0
HoldBelow q byte chips n = (j : ℕ) (d : ChipState) → j < n → get_or (ChipState.bytes (get_or chips j d)) q 0 ≡ byte j

hold_more : (q : ℕ) (byte : ℕ → ℕ) (chips : List ChipState) (n : ℕ) (y : ChipState) → n < length chips → HoldBelow q byte chips n → get_or y.bytes q 0 ≡ byte n → HoldBelow q byte (set chips n y) (n + 1)
hold_more q byte chips n y lt below here j d less =
    elim (cases_eq j n) [
      | inl e ↦ rw (e, get_or-set_same chips n y d lt) here
      | inr ne ↦ rw (get_or-set_other chips n j y d ne) (below j d (omega arith))
    ]

hold_before : (q : ℕ) (byte : ℕ → ℕ) (chips : List ChipState) (n : ℕ) (y : ChipState) → HoldBelow q byte (set chips n y) (n + 1) → HoldBelow q byte chips n
hold_before q byte chips n y all j d less = (let apart : j ≢ n = omega arith in rw (get_or-set_other chips n j y d apart) at (all j d (omega arith)))

hold_here : (q : ℕ) (byte : ℕ → ℕ) (chips : List ChipState) (n : ℕ) (y : ChipState) → n < length chips → HoldBelow q byte (set chips n y) (n + 1) → get_or y.bytes q 0 ≡ byte n
hold_here q byte chips n y lt all = rw (get_or-set_same chips n y y lt) at (all n y (omega arith))

pub held_more : (q : ℕ) (byte : ℕ → ℕ) (chips : List ChipState) (n : ℕ) (y : ChipState) (held here : Bool) → n < length chips
    → (IsTrue held ↔ HoldBelow q byte chips n) → (IsTrue here ↔ (get_or y.bytes q 0 ≡ byte n)) → IsTrue (held && here) ↔ HoldBelow q byte (set chips n y) (n + 1)
held_more q byte chips n y true true lt below same = (λ _. hold_more q byte chips n y lt (below.0 refl) (same.0 refl), λ _. refl)
held_more q byte chips n y true false lt below same = (λ e. absurd (let no : false ≡ true = e in cc), λ all. same.1 (hold_here q byte chips n y lt all))
held_more q byte chips n y false here lt below same = (λ e. absurd (let no : false ≡ true = e in cc), λ all. below.1 (hold_before q byte chips n y all))

-- A crash in one batch may leave the synced file of another that lies in the same places.
use Rattle.std.proofs.Common.{◌≡◌, ℕ, ◌<◌, ◌≤◌, List, [], ◌∷◌, length, take, refl, sym, subst, ap, length-take-le, arith}
use Rattle.envy_device.specs.Device.{Torn}
use Rattle.envy_torn.specs.Calls.{written}
use Rattle.envy_torn.proofs.Other.{torn-other}
use Rattle.envy_torn.specs.Batches.{Change, Write, Cut, SamePlace, SamePlaces, Within, Fits, Tears, changed, synced, Crashed, different_places}
use Rattle.envy_torn.proofs.Drawers.{two_share}
use Rattle.envy_torn.proofs.Numbered.{number, number-less, same_number}

tears-other : (file : List ℕ) (size : ℕ) (change other : Change) → SamePlace change other → Within size other file → Tears change file (changed other file)
tears-other file size (Write at bytes) (Write offset others) same within =
    subst (λ start. Torn start (length bytes) file (written file offset others)) (sym same.0) (torn-other file offset bytes others within.0 (sym same.1))
tears-other file size (Write at bytes) (Cut len) same within = absurd same
tears-other file size (Cut len) (Write offset others) same within = absurd same
tears-other file size (Cut len) (Cut short) same within = record {
  no_shorter = (let is = length-take-le short file within.0 in omega (arith, is, same));
  front = ap (λ n. take n file) (length-take-le short file within.0);
}

pub alike : (file : List ℕ) (size : ℕ) (batch other : List Change) → SamePlaces batch other → Fits size other file → Crashed batch file (synced other file)
alike file size [] [] same fits = refl
alike file size [] (next ∷ other) same fits = absurd same
alike file size (change ∷ batch) [] same fits = absurd same
alike file size (change ∷ batch) (next ∷ other) same fits = (
  changed next file,
  tears-other file size change next same.0 fits.0,
  alike (changed next file) size batch other same.1 fits.1,
)

module _ (file : List ℕ) (size changes batches : ℕ) (batch : ℕ → List Change) (fit : (i : ℕ) → i < batches → Fits size (batch i) file) (few : (i : ℕ) → i < batches → length (batch i) ≤ changes) (more : different_places size changes < batches) where
  pub many : (one other : ℕ) × (one < other) × (other < batches) × SamePlaces (batch one) (batch other)
  many =
      let shared = two_share (different_places size changes) batches (λ i. number size (batch i)) (λ i lt. number-less size changes (batch i) file (fit i lt) (few i lt)) more in
      let before = shared.2 in
      let within = shared.3 in
      (shared.0, shared.1, before, within, same_number size (batch shared.0) (batch shared.1) file file (fit shared.0 (omega (arith, before, within))) (fit shared.1 within) shared.4)

  pub told : (tells : List ℕ → ℕ) → ((i : ℕ) → i < batches → tells (synced (batch i) file) ≡ i) → (one other : ℕ) × (one < other) × (other < batches) × (crash : List ℕ) × Crashed (batch one) file crash × (tells crash ≡ other)
  told tells is = (many.0, many.1, many.2, many.3, synced (batch many.1) file, alike file size (batch many.0) (batch many.1) many.4 (fit many.1 many.3), is many.1 many.3)

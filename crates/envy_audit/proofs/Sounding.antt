-- All points together are soundness.
use Rattle.std.proofs.Common.{◌≡◌, ◌≢◌, ◌⊎◌, ℕ, ◌+◌, ◌*◌, ◌/◌, ◌%◌, ◌<◌, ◌≤◌, List, length, refl, sym, ◌∙◌, ap, subst, inl, inr, arith, Option, Some, None}
use Rattle.std.specs.Prelude.{slice_index}
use Rattle.std.proofs.lemmas.Bool.{cases_lt}
use Rattle.std.proofs.lemmas.List.{get_or_past}
use Rattle.std.proofs.lemmas.Nat.{div-mul-add, mod-mul-add}
use Rattle.std.proofs.lemmas.Option.{none-some, same_Some}
use Rattle.envy_base.specs.declared.shape.Shape.{Shape}
use Rattle.envy_base.specs.declared.fields.Job.{Job}
use Rattle.envy_base.specs.declared.fields.Job.TheVariants.{Idle, Copy, Switch, Erase}
use Rattle.envy_base.specs.declared.fields.Place.{Place}
use Rattle.envy_base.specs.declared.fields.Place.TheVariants.{Absent, Row, Frame}
use Rattle.envy_base.specs.declared.fields.Undo.{Undo}
use Rattle.envy_base.specs.declared.fields.Undo.TheVariants.{Clear, Blank, Shadow}
use Rattle.envy_base.specs.State.{State, IsBoard}
use Rattle.envy_map.specs.Fields.{chart, place, undo}
use Rattle.envy_map.proofs.Sizes.{length-slots, length-undos, length-places, length-wears, length-fills, length-positions, length-backs, length-origins, length-frames}
use Rattle.envy_base.specs.Shape.{all_positions_of, positions_of}
use Rattle.envy_soundness.specs.Sound.{IsSound, IsPlaced, IsReserved, IsSpare, slots_of, slot_named, Names}
use Rattle.envy_audit.specs.declared.verdict.Rule.{Rule}
use Rattle.envy_audit.specs.declared.verdict.Rule.TheVariants.{A, B, C, D, E, F, G, H, I, J, K, L, M}
use Rattle.envy_audit.specs.Points.{Decodes, IsJobOf, IsPlaceOf, IsUndoOf, rows_of, JobStands, Stands}
use Rattle.envy_audit.specs.Judging.{Holds}
use Rattle.envy_audit.proofs.Looking.{place-within, undo-within, named-within}

-- ---- what decodes within its range

job-some : (sh : Shape) (j : Option Job) → IsJobOf sh j → j ≢ None
job-some sh None never is = never
job-some sh (Some j) fits is = none-some j (sym is)

place-some : (sh : Shape) (x : Option Place) → IsPlaceOf sh x → x ≢ None
place-some sh None never is = never
place-some sh (Some x) fits is = none-some x (sym is)

place-row : (sh : Shape) (x : Option Place) (q : ℕ) → IsPlaceOf sh x → x ≡ Some (Row q) → q < rows_of sh
place-row sh x q fits is = subst (λ (y : Option Place). IsPlaceOf sh y) is fits

place-frame : (sh : Shape) (x : Option Place) (k : ℕ) → IsPlaceOf sh x → x ≡ Some (Frame k) → k < sh.frames
place-frame sh x k fits is = subst (λ (y : Option Place). IsPlaceOf sh y) is fits

undo-some : (sh : Shape) (n : ℕ) (u : Option Undo) → IsUndoOf sh n u → u ≢ None
undo-some sh n None never is = never
undo-some sh n (Some u) fits is = none-some u (sym is)

undo-slot : (sh : Shape) (n : ℕ) (u : Option Undo) (t : ℕ) → IsUndoOf sh n u → slot_named u ≡ Some t → t < n
undo-slot sh n None t fits is = absurd fits
undo-slot sh n (Some Clear) t fits is = absurd (none-some t is)
undo-slot sh n (Some (Blank r)) t fits is = subst (λ (k : ℕ). k < n) (same_Some r t is) fits
undo-slot sh n (Some (Shadow r q)) t fits is = subst (λ (k : ℕ). k < n) (same_Some r t is) fits.0

undo-row : (sh : Shape) (n : ℕ) (u : Option Undo) (t q : ℕ) → IsUndoOf sh n u → u ≡ Some (Shadow t q) → q < rows_of sh
undo-row sh n u t q fits is = (subst (λ (x : Option Undo). IsUndoOf sh n x) is fits).1

past-zero : (xs : List ℕ) (n m i : ℕ) → length xs ≡ n → ((k : ℕ) → k < n → slice_index xs k ≤ m) → slice_index xs i ≤ m
past-zero xs n m i long each = either (cases_lt i n)
  where
    either : (i < n) ⊎ (n ≤ i) → slice_index xs i ≤ m
    either (inl less) = each i less
    either (inr past) = omega (arith, get_or_past xs i 0 (omega (arith, past, long)))

module _ (s : State) (board : IsBoard s) where
  module _ (all : (x : Rule) → Holds x (chart s)) where
    d : Decodes (chart s)
    d = all A

    stands : JobStands (chart s)
    stands = all I

    -- a segment at a position that isn't in reserve is at one in use
    in-use : (e : ℕ) → Stands s.shape (chart s).fields.positions e ⊎ ((v : ℕ) × ((chart s).fields.job ≡ Some (Switch v)) × Stands s.shape (chart s).fields.positions v × IsSpare s.shape (chart s).fields.positions e)
        → (IsReserved s.shape (chart s).fields.positions e → ⊥)
        → IsPlaced s.shape (chart s).fields.positions e ⊎ ((v : ℕ) × ((chart s).fields.job ≡ Some (Switch v)) × IsPlaced s.shape (chart s).fields.positions v × IsSpare s.shape (chart s).fields.positions e)
    in-use e (inl (k, below, is)) free = either (cases_lt k (positions_of s.shape))
      where
        either : (k < positions_of s.shape) ⊎ (positions_of s.shape ≤ k) → IsPlaced s.shape (chart s).fields.positions e ⊎ ((v : ℕ) × ((chart s).fields.job ≡ Some (Switch v)) × IsPlaced s.shape (chart s).fields.positions v × IsSpare s.shape (chart s).fields.positions e)
        either (inl less) = inl (k, less, is)
        either (inr more) = absurd (free (k, more, below, is))
    in-use e (inr (v, job, (k, below, is), spare)) free = either (stands.switched v job)
      where
        either : IsPlaced s.shape (chart s).fields.positions v ⊎ IsSpare s.shape (chart s).fields.positions v → IsPlaced s.shape (chart s).fields.positions e ⊎ ((w : ℕ) × ((chart s).fields.job ≡ Some (Switch w)) × IsPlaced s.shape (chart s).fields.positions w × IsSpare s.shape (chart s).fields.positions e)
        either (inl placed) = inr (v, job, placed, spare)
        either (inr itself) = absurd (itself.nowhere k below is)

    -- a map on which all points hold is sound
    pub points-sound : IsSound (chart s)
    points-sound = record {
      head = record { versions = d.version; kept = d.sizes; reserves = d.reserves; sums = d.sums };
      slots = record {
        long = length-slots s board;
        decode = d.slots;
        undos_long = length-undos s board;
        undos_decode = λ p within. undo-some s.shape _ _ (d.undos p within);
        named = λ p t named. undo-slot s.shape _ _ t (d.undos p (named-within s board p t named)) named;
        rows = λ p t q is. undo-row s.shape _ _ t q (d.undos p (undo-within s board p (Shadow t q) is)) is;
        in_use = all L;
        few = all K;
      };
      places = record {
        long = length-places s board;
        decode = λ p within. place-some s.shape _ (d.places p within);
        rows = λ p q is. place-row s.shape _ q (d.places p (place-within s board p (Row q) is)) is;
        frames = λ p k is. place-frame s.shape _ k (d.places p (place-within s board p (Frame k) is)) is;
        apart = all C;
      };
      rows = record { apart = all D; filled = λ p q named. (all E p q named).0; claimed = λ p q named. (all E p q named).1 };
      numbers = record {
        wears_long = length-wears s board;
        fills_long = length-fills s board;
        fills_fit = λ i. past-zero (chart s).fields.fills s.shape.segments s.shape.rows i (length-fills s board) d.fills;
        positions_long = length-positions s board;
        positions_fit = d.positions;
        apart = all B;
        backs_long = length-backs s board;
        backs_fit = d.backs;
        origins_long = length-origins s board;
        origins_fit = d.origins;
        frames_long = length-frames s board;
      };
      blanks = record { above = all F; idle = all G };
      homes = record { kept = λ p q named. in-use (q / s.shape.rows) (all H p q named) (all M p q named) };
      job = record {
        decodes = job-some s.shape _ d.job;
        copying = stands.copied;
        switching = stands.switched;
        copies = λ v e job placed spare.
            let copies = stands.copies v e (job, placed) spare in record {
              rows = copies.rows;
              apart = copies.differ;
              all = copies.all;
              same = λ p i below named. (copies.same i below (p, named)).0;
              backs_same = λ p i below named. (copies.same i below (p, named)).1;
              once = λ p r i below kept origin.
                  all J v e i (job, placed) spare (omega (arith, below, d.fills e spare.segment)) (p, kept) (r, origin);
            };
      };
    }

  module _ (sound : IsSound (chart s)) where
    placed-fits : (v : ℕ) → IsPlaced s.shape (chart s).fields.positions v → v < s.shape.segments
    placed-fits v (k, below, is) = subst (λ (x : ℕ). x < s.shape.segments) is (sound.numbers.positions_fit k (omega (arith, below)))

    job-fits : (j : Option Job) → (chart s).fields.job ≡ j → IsJobOf s.shape j
    job-fits None is = sound.job.decodes is
    job-fits (Some Idle) is = tt
    job-fits (Some (Copy v)) is = placed-fits v (sound.job.copying v is)
    job-fits (Some (Switch v)) is = either (sound.job.switching v is)
      where
        either : IsPlaced s.shape (chart s).fields.positions v ⊎ IsSpare s.shape (chart s).fields.positions v → v < s.shape.segments
        either (inl placed) = placed-fits v placed
        either (inr spare) = spare.segment
    job-fits (Some Erase) is = tt

    place-fits : (p : ℕ) (x : Option Place) → p < s.shape.pages → place (chart s).fields p ≡ x → IsPlaceOf s.shape x
    place-fits p None within is = sound.places.decode p within is
    place-fits p (Some Absent) within is = tt
    place-fits p (Some (Row q)) within is = sound.places.rows p q is
    place-fits p (Some (Frame k)) within is = sound.places.frames p k is

    undo-fits : (p : ℕ) (u : Option Undo) → p < s.shape.pages → undo (chart s).fields p ≡ u → IsUndoOf s.shape (slots_of (chart s).fields.version) u
    undo-fits p None within is = sound.slots.undos_decode p within is
    undo-fits p (Some Clear) within is = tt
    undo-fits p (Some (Blank t)) within is = sound.slots.named p t (ap slot_named is)
    undo-fits p (Some (Shadow t q)) within is = (sound.slots.named p t (ap slot_named is), sound.slots.rows p t q is)

    pub sound-decodes : Decodes (chart s)
    sound-decodes = record {
      sizes = sound.head.kept;
      version = sound.head.versions;
      reserves = sound.head.reserves;
      sums = sound.head.sums;
      job = job-fits (chart s).fields.job refl;
      slots = sound.slots.decode;
      undos = λ p within. undo-fits p _ within refl;
      places = λ p within. place-fits p _ within refl;
      fills = λ i within. sound.numbers.fills_fit i;
      positions = sound.numbers.positions_fit;
      backs = sound.numbers.backs_fit;
      origins = sound.numbers.origins_fit;
    }

    sound-stands : JobStands (chart s)
    sound-stands = record {
      copied = sound.job.copying;
      switched = sound.job.switching;
      copies = λ v e (job, placed) spare.
          let copies = sound.job.copies v e job placed spare in record {
            rows = copies.rows;
            differ = copies.apart;
            all = copies.all;
            same = λ i below (p, named). (copies.same p i below named, copies.backs_same p i below named);
          };
    }

    -- a kept row of the spare is below its fill
    kept-low : (p e i : ℕ) → i < s.shape.rows → Names (chart s).fields p (e * s.shape.rows + i) → i < slice_index (chart s).fields.fills e
    kept-low p e i within named =
        subst (λ (k : ℕ). k < slice_index (chart s).fields.fills e) (mod-mul-add e s.shape.rows i within)
        (subst (λ (k : ℕ). (e * s.shape.rows + i) % s.shape.rows < slice_index (chart s).fields.fills k) (div-mul-add e s.shape.rows i within) (sound.rows.filled p _ named))

    stands-at : (e : ℕ) → IsPlaced s.shape (chart s).fields.positions e → Stands s.shape (chart s).fields.positions e
    stands-at e (k, less, is) = (k, omega (arith, less), is)

    abbrev Home : ℕ → Type 0
    Home e = IsPlaced s.shape (chart s).fields.positions e ⊎ ((v : ℕ) × ((chart s).fields.job ≡ Some (Switch v)) × IsPlaced s.shape (chart s).fields.positions v × IsSpare s.shape (chart s).fields.positions e)

    placed-stands : (e : ℕ) → Home e → Stands s.shape (chart s).fields.positions e ⊎ ((v : ℕ) × ((chart s).fields.job ≡ Some (Switch v)) × Stands s.shape (chart s).fields.positions v × IsSpare s.shape (chart s).fields.positions e)
    placed-stands e (inl placed) = inl (stands-at e placed)
    placed-stands e (inr (v, job, placed, spare)) = inr (v, job, stands-at v placed, spare)

    not-reserved : (e : ℕ) → Home e → IsReserved s.shape (chart s).fields.positions e → ⊥
    not-reserved e (inl (j, less, at)) (k, more, below, is) =
        let same : j ≡ k = sound.numbers.apart j k (omega (arith, less)) below (at ∙ sym is) in
        omega (arith, less, more, same)
    not-reserved e (inr (v, job, placed, spare)) (k, more, below, is) = spare.nowhere k below is

    -- on a sound map every point holds
    pub sound-points : (x : Rule) → Holds x (chart s)
    sound-points A = sound-decodes
    sound-points B = sound.numbers.apart
    sound-points C = sound.places.apart
    sound-points D = sound.rows.apart
    sound-points E = λ p q named. (sound.rows.filled p q named, sound.rows.claimed p q named)
    sound-points F = sound.blanks.above
    sound-points G = sound.blanks.idle
    sound-points H = λ p q named. placed-stands (q / s.shape.rows) (sound.homes.kept p q named)
    sound-points I = sound-stands
    sound-points J = λ v e i (job, placed) spare within (p, kept) (r, origin). (sound.job.copies v e job placed spare).once p r i (kept-low p e i within kept) kept origin
    sound-points K = sound.slots.few
    sound-points L = sound.slots.in_use
    sound-points M = λ p q named there. not-reserved (q / s.shape.rows) (sound.homes.kept p q named) there

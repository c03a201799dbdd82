-- A segment whose erase fails stands at a position in reserve, in place of the segment there.
use Rattle.std.proofs.Common.{◌≡◌, ◌≢◌, ◌⊎◌, inl, inr, ℕ, ◌/◌, ◌%◌, ◌<◌, ◌≤◌, List, [], length, get_or, set, Some, sym, ◌∙◌, ap, arith}
use Rattle.std.proofs.lemmas.List.{get_or-set_same, get_or-set_other, length-set}
use Rattle.std.proofs.lemmas.Bool.{cases_eq}
use Rattle.std.proofs.Math.Nat.{mod-lt}
use Rattle.envy_base.specs.Shape.{IsShape, all_positions_of, positions_of}
use Rattle.envy_base.specs.State.{ones}
use Rattle.envy_base.specs.declared.shape.Shape.{Shape}
use Rattle.envy_base.specs.declared.fields.Job.TheVariants.{Idle, Copy, Switch, Erase}
use Rattle.envy_map.specs.Fields.{Fields}
use Rattle.envy_map.specs.Writes.{with_position}
use Rattle.envy_soundness.specs.Sound.{Sound, Numbers, Blanks, Homes, Jobs, IsPlaced, IsSpare}
use Rattle.envy_soundness.specs.Jobs.{FitsJob, FitsPositions}
use Rattle.envy_soundness.proofs.SpareLemmas.{one-spare}

-- position k is in reserve, and the spare e, which is to be erased, has no free row
pub record Retires (sh : Shape) (f : Fields) (flash : List (List ℕ)) (k e : ℕ) : Type 0 where
  pub sound : Sound sh f flash
  pub shape : IsShape sh
  pub reserved : positions_of sh ≤ k
  pub position : k < all_positions_of sh
  pub spare : IsSpare sh f.positions e
  pub erasing : f.job ≡ Some Erase
  pub closed : get_or f.fills e 0 ≡ sh.rows

-- the segment at a position after the spare e came to position k
abbrev Cases : Fields → ℕ → ℕ → ℕ → Type 0
Cases f k e i = ((i ≡ k) × (get_or (set f.positions k e) i 0 ≡ e)) ⊎ ((i ≢ k) × (get_or (set f.positions k e) i 0 ≡ get_or f.positions i 0))

cases-at : (sh : Shape) (f : Fields) (flash : List (List ℕ)) (k e i : ℕ) → Retires sh f flash k e → Cases f k e i
cases-at sh f flash k e i r = at (cases_eq i k)
  where
    room : k < length f.positions
    room = rw (Numbers.positions_long (Sound.numbers r.sound)) r.position

    at : (i ≡ k) ⊎ (i ≡ k → ⊥) → Cases f k e i
    at (inl same) = inl (same, rw same (get_or-set_same f.positions k e 0 room))
    at (inr other) = inr (other, get_or-set_other f.positions k i e 0 other)

-- the segment that leaves the position is the spare then
pub freed : (sh : Shape) (f : Fields) (flash : List (List ℕ)) (k e : ℕ) → Retires sh f flash k e → IsSpare sh (set f.positions k e) (get_or f.positions k 0)
freed sh f flash k e r = record { segment = Numbers.positions_fit (Sound.numbers r.sound) k r.position; nowhere = λ i lt. at i lt (cases-at sh f flash k e i r) }
  where
    at : (i : ℕ) → i < all_positions_of sh → Cases f k e i → get_or (set f.positions k e) i 0 ≢ get_or f.positions k 0
    at i lt (inl (same, is)) e_is = IsSpare.nowhere r.spare k r.position (sym e_is ∙ is)
    at i lt (inr (other, is)) e_is = other (Numbers.apart (Sound.numbers r.sound) i k lt r.position (sym is ∙ e_is))

-- the segments at positions in use stay there
placed-still : (sh : Shape) (f : Fields) (flash : List (List ℕ)) (k e s : ℕ) → Retires sh f flash k e → IsPlaced sh f.positions s → IsPlaced sh (set f.positions k e) s
placed-still sh f flash k e s r (i, lt, is) = at (cases-at sh f flash k e i r)
  where
    at : Cases f k e i → IsPlaced sh (set f.positions k e) s
    at (inl (same, new)) = absurd (let high = r.reserved in omega (arith, lt))
    at (inr (apart, new)) = (i, lt, new ∙ is)

Numbers-retired : (sh : Shape) (f : Fields) (flash : List (List ℕ)) (k e : ℕ) → Retires sh f flash k e → Numbers sh f.wears f.fills (set f.positions k e) f.backs f.origins f.frames
Numbers-retired sh f flash k e r =
    let n = Sound.numbers r.sound in
    record {
      wears_long = n.wears_long;
      fills_long = n.fills_long;
      fills_fit = n.fills_fit;
      positions_long = length-set f.positions k e ∙ n.positions_long;
      positions_fit = λ i lt. fit i lt (cases-at sh f flash k e i r);
      apart = λ i j li lj. one i j li lj (cases-at sh f flash k e i r) (cases-at sh f flash k e j r);
      backs_long = n.backs_long;
      backs_fit = n.backs_fit;
      origins_long = n.origins_long;
      origins_fit = n.origins_fit;
      frames_long = n.frames_long;
    }
  where
    fit : (i : ℕ) → i < all_positions_of sh → Cases f k e i → get_or (set f.positions k e) i 0 < sh.segments
    fit i lt (inl (same, is)) = rw is (IsSpare.segment r.spare)
    fit i lt (inr (other, is)) = rw is (Numbers.positions_fit (Sound.numbers r.sound) i lt)

    one : (i j : ℕ) → i < all_positions_of sh → j < all_positions_of sh → Cases f k e i → Cases f k e j → get_or (set f.positions k e) i 0 ≡ get_or (set f.positions k e) j 0 → i ≡ j
    one i j li lj (inl (ei, ii)) (inl (ej, ij)) same = ei ∙ sym ej
    one i j li lj (inl (ei, ii)) (inr (nj, ij)) same = absurd (IsSpare.nowhere r.spare j lj (sym ij ∙ sym same ∙ ii))
    one i j li lj (inr (ni, ii)) (inl (ej, ij)) same = absurd (IsSpare.nowhere r.spare i li (sym ii ∙ same ∙ ij))
    one i j li lj (inr (ni, ii)) (inr (nj, ij)) same = Numbers.apart (Sound.numbers r.sound) i j li lj (sym ii ∙ same ∙ ij)

FitsJob-retired : (sh : Shape) (f : Fields) (flash : List (List ℕ)) (k e : ℕ) → Retires sh f flash k e → FitsJob sh (with_position k e f) flash
FitsJob-retired sh f flash k e r = record {
  blanks = record {
    above = λ q lt high. blank q high (Blanks.above (Sound.blanks r.sound) q lt high);
    idle = λ s idle spare. absurd (let erase = r.erasing in let clash : Some Idle ≡ Some Erase = sym idle ∙ erase in cc);
  };
  homes = record { kept = λ p q names. home q (Homes.kept (Sound.homes r.sound) p q names) };
  job = record {
    decodes = Jobs.decodes (Sound.job r.sound);
    copying = λ v copy. absurd (let erase = r.erasing in let clash : Some (Copy v) ≡ Some Erase = sym copy ∙ erase in cc);
    switching = λ v switch. absurd (no-switch v switch);
    copies = λ v d switch placed spare. absurd (no-switch v switch);
  };
}
  where
    no-switch : (v : ℕ) → f.job ≢ Some (Switch v)
    no-switch v switch = let erase = r.erasing in let clash : Some (Switch v) ≡ Some Erase = sym switch ∙ erase in cc

    full : (q : ℕ) → get_or f.fills (q / sh.rows) 0 ≤ q % sh.rows → q / sh.rows ≢ e
    full q high same =
        let closed = r.closed in
        let at : get_or f.fills (q / sh.rows) 0 ≡ get_or f.fills e 0 = ap (λ (s : ℕ). get_or f.fills s 0) same in
        let some = IsShape.rows r.shape in
        let low = mod-lt q {m = sh.rows} (omega arith) in
        absurd (omega arith)

    blank : (q : ℕ) → get_or f.fills (q / sh.rows) 0 ≤ q % sh.rows → (get_or flash q [] ≡ ones) ⊎ ((f.job ≡ Some Erase) × IsSpare sh f.positions (q / sh.rows)) → (get_or flash q [] ≡ ones) ⊎ ((f.job ≡ Some Erase) × IsSpare sh (set f.positions k e) (q / sh.rows))
    blank q high (inl is) = inl is
    blank q high (inr (erase, spare)) = absurd (full q high (one-spare sh f flash (q / sh.rows) e r.sound spare r.spare))

    home : (q : ℕ) → IsPlaced sh f.positions (q / sh.rows) ⊎ ((v : ℕ) × (f.job ≡ Some (Switch v)) × IsPlaced sh f.positions v × IsSpare sh f.positions (q / sh.rows)) → IsPlaced sh (set f.positions k e) (q / sh.rows) ⊎ ((v : ℕ) × (f.job ≡ Some (Switch v)) × IsPlaced sh (set f.positions k e) v × IsSpare sh (set f.positions k e) (q / sh.rows))
    home q (inl placed) = inl (placed-still sh f flash k e (q / sh.rows) r placed)
    home q (inr (v, switch, placed, spare)) = absurd (no-switch v switch)

pub FitsPositions-retired : (sh : Shape) (f : Fields) (flash : List (List ℕ)) (k e : ℕ) → Retires sh f flash k e → FitsPositions sh (with_position k e f) flash
FitsPositions-retired sh f flash k e r = record { numbers = Numbers-retired sh f flash k e r; jobs = FitsJob-retired sh f flash k e r }

-- Writes of a position.
use Rattle.std.proofs.Common.{◌≡◌, ◌≢◌, ◌⊎◌, inl, inr, ℕ, ◌/◌, ◌<◌, List, [], length, get_or, set, Some, refl, sym, ◌∙◌, ap, subst, arith}
use Rattle.std.specs.Prelude.{IsTrue, Result}
use Rattle.std.proofs.lemmas.List.{get_or-set_same, get_or-set_other, length-set}
use Rattle.std.proofs.lemmas.Bool.{cases_eq}
use Rattle.envy_base.specs.State.{ones}
use Rattle.envy_base.specs.declared.board.Off.{Off}
use Rattle.envy_base.specs.declared.shape.Shape.{Shape}
use Rattle.envy_base.specs.declared.fields.Job.TheVariants.{Idle, Copy, Switch, Erase}
use Rattle.envy_map.specs.Fields.{Fields, Chart}
use Rattle.envy_map.specs.Writes.{Writes, with_position}
use Rattle.envy_soundness.specs.Sound.{Sound, IsSound, Numbers, Blanks, Homes, Jobs, Names, IsPlaced, IsSpare}
use Rattle.envy_soundness.specs.Jobs.{FitsJob, FitsPositions, IsClear}
use Rattle.envy_soundness.specs.Same.{Same}
use Rattle.envy_soundness.proofs.Composition.{Keeps, Same-put}
use Rattle.envy_soundness.proofs.SpareLemmas.{one-spare}
use Rattle.envy_base.specs.Shape.{all_positions_of, positions_of}

Keeps-positioned : (c : Chart) (k s : ℕ) → IsSound c → FitsPositions c.shape (with_position k s c.fields) c.flash → Keeps c (with_position k s c.fields)
Keeps-positioned c k s sound fits = record {
  framed = record { shape = refl; magic = refl; version = refl; slots = refl; owners = λ p. refl };
  sound = record {
    head = sound.head;
    slots = sound.slots;
    places = sound.places;
    rows = sound.rows;
    numbers = fits.numbers;
    blanks = fits.jobs.blanks;
    homes = fits.jobs.homes;
    job = fits.jobs.job;
  };
  live = refl;
  durable = refl;
}

pub Same-positioned : (c new : Chart) (k s : ℕ) (r : Result Unit Off) → IsSound c → (IsTrue c.on → FitsPositions c.shape (with_position k s c.fields) c.flash) → Writes (with_position k s) c r new → Same 0 0 c new
Same-positioned c new k s r sound fits writes = Same-put c new (with_position k s) r sound (λ on. Keeps-positioned c k s sound (fits on)) refl writes

-- position k names a segment that is being switched to the spare e, and holds no kept row
pub record Replaces (sh : Shape) (f : Fields) (flash : List (List ℕ)) (k e : ℕ) : Type 0 where
  pub sound : Sound sh f flash
  pub position : k < positions_of sh
  pub spare : IsSpare sh f.positions e
  pub switching : f.job ≡ Some (Switch (get_or f.positions k 0))
  pub clear : IsClear sh f (get_or f.positions k 0)

-- the segment at a position after the spare e came to position k
abbrev PositionCases : Fields → ℕ → ℕ → ℕ → Type 0
PositionCases f k e i = ((i ≡ k) × (get_or (set f.positions k e) i 0 ≡ e)) ⊎ ((i ≢ k) × (get_or (set f.positions k e) i 0 ≡ get_or f.positions i 0))

position-cases : (sh : Shape) (f : Fields) (flash : List (List ℕ)) (k e i : ℕ) → Replaces sh f flash k e → PositionCases f k e i
position-cases sh f flash k e i r = at (cases_eq i k)
  where
    room : k < length f.positions
    room = rw (Numbers.positions_long (Sound.numbers r.sound)) (omega (arith, r.position))

    at : (i ≡ k) ⊎ (i ≡ k → ⊥) → PositionCases f k e i
    at (inl same) = inl (same, rw same (get_or-set_same f.positions k e 0 room))
    at (inr other) = inr (other, get_or-set_other f.positions k i e 0 other)

-- the segment that leaves the position is the spare then
pub freed : (sh : Shape) (f : Fields) (flash : List (List ℕ)) (k e : ℕ) → Replaces sh f flash k e → IsSpare sh (set f.positions k e) (get_or f.positions k 0)
freed sh f flash k e r = record { segment = Numbers.positions_fit (Sound.numbers r.sound) k (omega (arith, r.position)); nowhere = λ i lt. at i lt (position-cases sh f flash k e i r) }
  where
    at : (i : ℕ) → i < all_positions_of sh → PositionCases f k e i → get_or (set f.positions k e) i 0 ≢ get_or f.positions k 0
    at i lt (inl (same, is)) e_is = IsSpare.nowhere r.spare k (omega (arith, r.position)) (sym e_is ∙ is)
    at i lt (inr (other, is)) e_is = other (Numbers.apart (Sound.numbers r.sound) i k lt (omega (arith, r.position)) (sym is ∙ e_is))

-- the other segments stay where they are, and the spare is at the position
placed-still : (sh : Shape) (f : Fields) (flash : List (List ℕ)) (k e s : ℕ) → Replaces sh f flash k e → IsPlaced sh f.positions s → s ≢ get_or f.positions k 0 → IsPlaced sh (set f.positions k e) s
placed-still sh f flash k e s r (i, lt, is) other = at (position-cases sh f flash k e i r)
  where
    at : PositionCases f k e i → IsPlaced sh (set f.positions k e) s
    at (inl (same, new)) = absurd (other (sym is ∙ ap (λ (n : ℕ). get_or f.positions n 0) same))
    at (inr (apart, new)) = (i, lt, new ∙ is)

placed-spare : (sh : Shape) (f : Fields) (flash : List (List ℕ)) (k e : ℕ) → Replaces sh f flash k e → IsPlaced sh (set f.positions k e) e
placed-spare sh f flash k e r = at (position-cases sh f flash k e k r)
  where
    at : PositionCases f k e k → IsPlaced sh (set f.positions k e) e
    at (inl (same, is)) = (k, r.position, is)
    at (inr (other, is)) = absurd (other refl)

Numbers-replaced : (sh : Shape) (f : Fields) (flash : List (List ℕ)) (k e : ℕ) → Replaces sh f flash k e → Numbers sh f.wears f.fills (set f.positions k e) f.backs f.origins f.frames
Numbers-replaced sh f flash k e r =
    let n = Sound.numbers r.sound in
    record {
      wears_long = n.wears_long;
      fills_long = n.fills_long;
      fills_fit = n.fills_fit;
      positions_long = length-set f.positions k e ∙ n.positions_long;
      positions_fit = λ i lt. fit i lt (position-cases sh f flash k e i r);
      apart = λ i j li lj. one i j li lj (position-cases sh f flash k e i r) (position-cases sh f flash k e j r);
      backs_long = n.backs_long;
      backs_fit = n.backs_fit;
      origins_long = n.origins_long;
      origins_fit = n.origins_fit;
      frames_long = n.frames_long;
    }
  where
    fit : (i : ℕ) → i < all_positions_of sh → PositionCases f k e i → get_or (set f.positions k e) i 0 < sh.segments
    fit i lt (inl (same, is)) = rw is (IsSpare.segment r.spare)
    fit i lt (inr (other, is)) = rw is (Numbers.positions_fit (Sound.numbers r.sound) i lt)

    one : (i j : ℕ) → i < all_positions_of sh → j < all_positions_of sh → PositionCases f k e i → PositionCases f k e j → get_or (set f.positions k e) i 0 ≡ get_or (set f.positions k e) j 0 → i ≡ j
    one i j li lj (inl (ei, ii)) (inl (ej, ij)) same = ei ∙ sym ej
    one i j li lj (inl (ei, ii)) (inr (nj, ij)) same = absurd (IsSpare.nowhere r.spare j lj (sym ij ∙ sym same ∙ ii))
    one i j li lj (inr (ni, ii)) (inl (ej, ij)) same = absurd (IsSpare.nowhere r.spare i li (sym ii ∙ same ∙ ij))
    one i j li lj (inr (ni, ii)) (inr (nj, ij)) same = Numbers.apart (Sound.numbers r.sound) i j li lj (sym ii ∙ same ∙ ij)

FitsJob-replaced : (sh : Shape) (f : Fields) (flash : List (List ℕ)) (k e : ℕ) → Replaces sh f flash k e → FitsJob sh (with_position k e f) flash
FitsJob-replaced sh f flash k e r = record {
  blanks = record {
    above = λ q lt high. blank q (Blanks.above (Sound.blanks r.sound) q lt high);
    idle = λ s idle spare. absurd (let switch = r.switching in let clash : Some Idle ≡ Some (Switch (get_or f.positions k 0)) = sym idle ∙ switch in cc);
  };
  homes = record { kept = λ p q names. home p q names (Homes.kept (Sound.homes r.sound) p q names) };
  job = record {
    decodes = Jobs.decodes (Sound.job r.sound);
    copying = λ v copy. absurd (let switch = r.switching in let clash : Some (Copy v) ≡ Some (Switch (get_or f.positions k 0)) = sym copy ∙ switch in cc);
    switching = λ v switch. inr (subst (λ (s : ℕ). IsSpare sh (set f.positions k e) s) (same v switch) (freed sh f flash k e r));
    copies = λ v d switch placed spare. absurd (gone v switch placed);
  };
}
  where
    same : (v : ℕ) → f.job ≡ Some (Switch v) → get_or f.positions k 0 ≡ v
    same v switch = let was = r.switching in let both : Some (Switch (get_or f.positions k 0)) ≡ Some (Switch v) = sym was ∙ switch in cc

    gone : (v : ℕ) → f.job ≡ Some (Switch v) → IsPlaced sh (set f.positions k e) v → ⊥
    gone v switch (i, lt, is) = IsSpare.nowhere (freed sh f flash k e r) i (omega (arith, lt)) (is ∙ sym (same v switch))

    blank : (q : ℕ) → (get_or flash q [] ≡ ones) ⊎ ((f.job ≡ Some Erase) × IsSpare sh f.positions (q / sh.rows)) → (get_or flash q [] ≡ ones) ⊎ ((f.job ≡ Some Erase) × IsSpare sh (set f.positions k e) (q / sh.rows))
    blank q (inl is) = inl is
    blank q (inr (erase, spare)) = absurd (let switch = r.switching in let clash : Some Erase ≡ Some (Switch (get_or f.positions k 0)) = sym erase ∙ switch in cc)

    home : (p q : ℕ) → Names f p q → IsPlaced sh f.positions (q / sh.rows) ⊎ ((v : ℕ) × (f.job ≡ Some (Switch v)) × IsPlaced sh f.positions v × IsSpare sh f.positions (q / sh.rows)) → IsPlaced sh (set f.positions k e) (q / sh.rows) ⊎ ((v : ℕ) × (f.job ≡ Some (Switch v)) × IsPlaced sh (set f.positions k e) v × IsSpare sh (set f.positions k e) (q / sh.rows))
    home p q names (inl placed) = inl (placed-still sh f flash k e (q / sh.rows) r placed (r.clear p q names))
    home p q names (inr (v, switch, placed, spare)) = inl (subst (λ (s : ℕ). IsPlaced sh (set f.positions k e) s) (one-spare sh f flash e (q / sh.rows) r.sound r.spare spare) (placed-spare sh f flash k e r))

pub FitsPositions-replaced : (sh : Shape) (f : Fields) (flash : List (List ℕ)) (k e : ℕ) → Replaces sh f flash k e → FitsPositions sh (with_position k e f) flash
FitsPositions-replaced sh f flash k e r = record { numbers = Numbers-replaced sh f flash k e r; jobs = FitsJob-replaced sh f flash k e r }

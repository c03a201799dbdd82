-- Writes of the job.
use Rattle.std.proofs.Common.{◌≡◌, ◌≢◌, ◌⊎◌, inl, inr, ℕ, ◌*◌, ◌/◌, ◌<◌, List, [], get_or, Option, Some, refl, ◌∙◌, ap, subst}
use Rattle.std.specs.Prelude.{IsTrue, Result}
use Rattle.envy_base.specs.State.{ones}
use Rattle.envy_base.specs.declared.board.Off.{Off}
use Rattle.envy_base.specs.declared.shape.Shape.{Shape}
use Rattle.envy_base.specs.declared.fields.Job.{Job}
use Rattle.envy_base.specs.declared.fields.Job.TheVariants.{Idle, Copy, Switch, Erase}
use Rattle.envy_map.specs.Fields.{Fields, Chart}
use Rattle.envy_map.specs.Writes.{Writes, with_job}
use Rattle.envy_soundness.specs.Sound.{Sound, IsSound, Blanks, Homes, Jobs, IsPlaced, IsSpare}
use Rattle.envy_soundness.specs.Jobs.{FitsJob, AreHome, IsCopiedWhole, IsBlankSpare}
use Rattle.envy_soundness.specs.Same.{Same}
use Rattle.envy_soundness.proofs.Composition.{Keeps, Same-put}
use Rattle.envy_soundness.proofs.References.{apart-spare}
use Rattle.envy_soundness.proofs.SpareLemmas.{one-spare}

Keeps-job : (c : Chart) (j : Job) → IsSound c → FitsJob c.shape (with_job (Some j) c.fields) c.flash → Keeps c (with_job (Some j) c.fields)
Keeps-job c j sound fits = record {
  framed = record { shape = refl; magic = refl; version = refl; slots = refl; owners = λ p. refl };
  sound = record {
    head = sound.head;
    slots = sound.slots;
    places = sound.places;
    rows = sound.rows;
    numbers = sound.numbers;
    blanks = fits.blanks;
    homes = fits.homes;
    job = fits.job;
  };
  live = refl;
  durable = refl;
}

pub Same-job : (c new : Chart) (j : Job) (r : Result Unit Off) → IsSound c → (IsTrue c.on → FitsJob c.shape (with_job (Some j) c.fields) c.flash) → Writes (with_job (Some j)) c r new → Same 0 0 c new
Same-job c new j r sound fits writes = Same-put c new (with_job (Some j)) r sound (λ on. Keeps-job c j sound (fits on)) refl writes

-- rows above fills, where no spare is being erased
blank-still : (sh : Shape) (f : Fields) (flash : List (List ℕ)) (q : ℕ) (j : Option Job) → f.job ≢ Some Erase → (get_or flash q [] ≡ ones) ⊎ ((f.job ≡ Some Erase) × IsSpare sh f.positions (q / sh.rows)) → (get_or flash q [] ≡ ones) ⊎ ((j ≡ Some Erase) × IsSpare sh f.positions (q / sh.rows))
blank-still sh f flash q j other (inl is) = inl is
blank-still sh f flash q j other (inr (erase, spare)) = absurd (other erase)

-- kept rows lie in the spare only while a segment at a position is being switched to it
pub AreHome-unless : (sh : Shape) (f : Fields) (flash : List (List ℕ)) → Sound sh f flash → ((v : ℕ) → f.job ≡ Some (Switch v) → IsPlaced sh f.positions v → ⊥) → AreHome sh f
AreHome-unless sh f flash s other p q names = at (Homes.kept s.homes p q names)
  where
    at : IsPlaced sh f.positions (q / sh.rows) ⊎ ((v : ℕ) × (f.job ≡ Some (Switch v)) × IsPlaced sh f.positions v × IsSpare sh f.positions (q / sh.rows)) → IsPlaced sh f.positions (q / sh.rows)
    at (inl placed) = placed
    at (inr (v, switch, placed, spare)) = absurd (other v switch placed)

-- once the segment that was switched is the spare
pub AreHome-freed : (sh : Shape) (f : Fields) (flash : List (List ℕ)) (v : ℕ) → Sound sh f flash → f.job ≡ Some (Switch v) → IsSpare sh f.positions v → AreHome sh f
AreHome-freed sh f flash v s switch spare = AreHome-unless sh f flash s (λ w is placed. let same : w ≡ v = cc in apart-spare sh f.positions v (subst (λ (x : ℕ). IsPlaced sh f.positions x) same placed) spare)

pub FitsJob-copy : (sh : Shape) (f : Fields) (flash : List (List ℕ)) (v : ℕ) → Sound sh f flash → f.job ≡ Some Idle → IsPlaced sh f.positions v → FitsJob sh (with_job (Some (Copy v)) f) flash
FitsJob-copy sh f flash v s idle placed = record {
  blanks = record {
    above = λ q lt high. blank-still sh f flash q (Some (Copy v)) (λ erase. cc) (Blanks.above s.blanks q lt high);
    idle = λ e no spare. absurd (let clash : Some (Copy v) ≡ Some Idle = no in cc);
  };
  homes = record { kept = λ p q names. inl (AreHome-unless sh f flash s (λ w switch placed. cc) p q names) };
  job = record {
    decodes = λ none. cc;
    copying = λ w copy. subst (λ (x : ℕ). IsPlaced sh f.positions x) (let same : v ≡ w = cc in same) placed;
    switching = λ w switch. absurd (let clash : Some (Copy v) ≡ Some (Switch w) = switch in cc);
    copies = λ w e switch at spare. absurd (let clash : Some (Copy v) ≡ Some (Switch w) = switch in cc);
  };
}

pub FitsJob-switch : (sh : Shape) (f : Fields) (flash : List (List ℕ)) (v : ℕ) → Sound sh f flash → f.job ≡ Some (Copy v) → IsCopiedWhole sh f flash v → FitsJob sh (with_job (Some (Switch v)) f) flash
FitsJob-switch sh f flash v s copying copied = record {
  blanks = record {
    above = λ q lt high. blank-still sh f flash q (Some (Switch v)) (λ erase. cc) (Blanks.above s.blanks q lt high);
    idle = λ e no spare. absurd (let clash : Some (Switch v) ≡ Some Idle = no in cc);
  };
  homes = record { kept = λ p q names. inl (AreHome-unless sh f flash s (λ w switch placed. cc) p q names) };
  job = record {
    decodes = λ none. cc;
    copying = λ w copy. absurd (let clash : Some (Switch v) ≡ Some (Copy w) = copy in cc);
    switching = λ w switch. inl (subst (λ (x : ℕ). IsPlaced sh f.positions x) (let same : v ≡ w = cc in same) (Jobs.copying s.job v copying));
    copies = λ w e switch at spare. let same : w ≡ v = cc in rw same (copied e spare);
  };
}

pub FitsJob-erase : (sh : Shape) (f : Fields) (flash : List (List ℕ)) → Sound sh f flash → AreHome sh f → FitsJob sh (with_job (Some Erase) f) flash
FitsJob-erase sh f flash s home = record {
  blanks = record {
    above = λ q lt high. blank q (Blanks.above s.blanks q lt high);
    idle = λ e no spare. absurd (let clash : Some Erase ≡ Some Idle = no in cc);
  };
  homes = record { kept = λ p q names. inl (home p q names) };
  job = record {
    decodes = λ none. cc;
    copying = λ w copy. absurd (let clash : Some Erase ≡ Some (Copy w) = copy in cc);
    switching = λ w switch. absurd (let clash : Some Erase ≡ Some (Switch w) = switch in cc);
    copies = λ w e switch at spare. absurd (let clash : Some Erase ≡ Some (Switch w) = switch in cc);
  };
}
  where
    blank : (q : ℕ) → (get_or flash q [] ≡ ones) ⊎ ((f.job ≡ Some Erase) × IsSpare sh f.positions (q / sh.rows)) → (get_or flash q [] ≡ ones) ⊎ ((Some Erase ≡ Some Erase) × IsSpare sh f.positions (q / sh.rows))
    blank q (inl is) = inl is
    blank q (inr (erase, spare)) = inr (refl, spare)

pub FitsJob-idle : (sh : Shape) (f : Fields) (flash : List (List ℕ)) (e : ℕ) → Sound sh f flash → f.job ≡ Some Erase → IsBlankSpare sh f flash e → FitsJob sh (with_job (Some Idle) f) flash
FitsJob-idle sh f flash e s erasing empty = record {
  blanks = record {
    above = λ q lt high. inl (blank q lt (Blanks.above s.blanks q lt high));
    idle = λ d is spare. ap (λ (x : ℕ). get_or f.fills x 0) (one-spare sh f flash d e s spare empty.spare) ∙ empty.fill;
  };
  homes = record { kept = λ p q names. inl (AreHome-unless sh f flash s (λ w switch placed. cc) p q names) };
  job = record {
    decodes = λ none. cc;
    copying = λ w copy. absurd (let clash : Some Idle ≡ Some (Copy w) = copy in cc);
    switching = λ w switch. absurd (let clash : Some Idle ≡ Some (Switch w) = switch in cc);
    copies = λ w d switch at spare. absurd (let clash : Some Idle ≡ Some (Switch w) = switch in cc);
  };
}
  where
    blank : (q : ℕ) → q < sh.segments * sh.rows → (get_or flash q [] ≡ ones) ⊎ ((f.job ≡ Some Erase) × IsSpare sh f.positions (q / sh.rows)) → get_or flash q [] ≡ ones
    blank q lt (inl is) = is
    blank q lt (inr (erase, spare)) = empty.rows q lt (one-spare sh f flash (q / sh.rows) e s spare empty.spare)

-- What a worker hands on to the next, and what it says where a call of it failed.
use Rattle.std.proofs.Common.{◌≡◌, ◌≢◌, ◌∙◌, inr, ℕ, ◌+◌, ◌-◌, ◌*◌, ◌/◌, ◌<◌, List, [], get_or, Option, None, Some, false, refl, sym, ap, subst, arith, Bool, true}
use Rattle.std.specs.Prelude.{IsTrue, Any, Result, Ok, Err, IfOk, IsErrAnd}
use Rattle.envy_base.specs.Counting.{up}
use Rattle.envy_base.specs.Shape.{IsShape, positions_of}
use Rattle.envy_base.specs.State.{IsBoard, State}
use Rattle.envy_base.specs.declared.shape.Shape.{Shape}
use Rattle.envy_base.specs.declared.fields.Job.{Job}
use Rattle.envy_base.specs.declared.fields.Job.TheVariants.{Idle, Copy, Switch}
use Rattle.envy_base.specs.declared.fields.Place.{Place}
use Rattle.envy_base.specs.declared.fields.Place.TheVariants.{Absent, Row, Frame}
use Rattle.envy_frames.specs.declared.held.Held.{Held}
use Rattle.envy_frames.specs.Agreement.{AreHeld, IsElsewhere}
use Rattle.envy_map.specs.Fields.{Fields, Chart, chart, place}
use Rattle.envy_soundness.specs.Claims.{MayProgram}
use Rattle.envy_soundness.specs.May.{MayTake, HasPage}
use Rattle.envy_soundness.specs.Words.{word_at}
use Rattle.envy_soundness.specs.Sound.{IsSound, Places, Sound}
use Rattle.envy_soundness.specs.Same.{Same, Stays, Framed}
use Rattle.envy_soundness.proofs.Composition.{Same-refl}
use Rattle.envy_soundness.proofs.References.{apart-spare}
use Rattle.envy_soundness.proofs.Sames.{same_within}
use Rattle.envy_reloc.specs.Plan.{IsFreeOf}
use Rattle.envy_reloc.proofs.Exits.{unpowered}
use Rattle.envy_engine.specs.Agreement.{Ready}
use Rattle.envy_engine.specs.Flushing.{Granted}
use Rattle.envy_engine.specs.Leaving.{LeavesParts, KeepsFrames}
use Rattle.envy_engine.specs.Pages.{InRange}
use Rattle.envy_engine.specs.declared.parts.Parts.{Parts}
use Rattle.envy_base.specs.declared.board.Off.{Off}
use Rattle.envy_base.specs.declared.board.Trouble.{Trouble}
use Rattle.envy_base.specs.declared.board.Trouble.TheVariants.{Off as TroubleOff, Bad}
use Rattle.envy_soundness.specs.Power.{power_of, power_after}

-- after a worker that left power on
pub ready-left : (k j : ℕ) (c d : Chart) (x y : Parts) → IsTrue d.on → Same k j c d → LeavesParts c x d y → Ready d y
ready-left k j c d x y on same leaves = record { on = on; sound = Stays.sound (Same.stays same); fits = leaves.steady.fits; agrees = leaves.steady.agrees on }

pub page-left : (k j p : ℕ) (c d : Chart) → Same k j c d → p < c.shape.pages → p < d.shape.pages
page-left k j p c d same page = subst (λ (sh : Shape). p < sh.pages) (sym (Framed.shape (Stays.framed (Same.stays same)))) page

pub position-left : (k j n : ℕ) (c d : Chart) → Same k j c d → n < positions_of c.shape → n < positions_of d.shape
position-left k j n c d same position = subst (λ (sh : Shape). n < positions_of sh) (sym (Framed.shape (Stays.framed (Same.stays same)))) position

-- nothing changed at all
pub same-none : (k j : ℕ) (c : Chart) (x : Parts) → Ready c x → Same k j c c
same-none k j c x r = same_within k j c c (Same-refl c r.sound)

pub keeps-none : (c : Chart) (x : Parts) → KeepsFrames c x c x
keeps-none c x = record { frames = refl; here = λ on p k. ((λ h. h), (λ h. h)); flushes = refl }

-- power failed before a frame or a count of flushes changed
pub keeps-off : (c d : Chart) (x y : Parts) → d.on ≡ false → y.frames ≡ x.frames → y.flushes ≡ x.flushes → KeepsFrames c x d y
keeps-off c d x y off frames flushes = record { frames = frames; here = λ on. unpowered d.on off on; flushes = flushes }

-- pages stand where they stood
pub keeps-places : (c d : Chart) (x y : Parts) → d.fields.places ≡ c.fields.places → y.frames ≡ x.frames → y.flushes ≡ x.flushes → KeepsFrames c x d y
keeps-places c d x y places frames flushes = record { frames = frames; here = λ on p k. rw places ((λ h. h), (λ h. h)); flushes = flushes }

-- the arm of a match that no value reaches
pub none-some : {X : Type 0} (o : Option X) → ((x : X) → o ≢ Some x) → o ≡ None
none-some None other = refl
none-some (Some x) other = absurd (other x refl)

-- a row that was granted, once it is programmed
pub granted-left : (c d : Chart) (p q : ℕ) → d.shape ≡ c.shape → d.fields ≡ c.fields → Granted c.shape c.fields p q → Granted d.shape d.fields p q
granted-left c d p q shape fields g = subst (λ (sh : Shape). Granted sh d.fields p q) (sym shape) (subst (λ (f : Fields). Granted c.shape f p q) (sym fields) g)

-- the page may go there, and its words are there
pub may-take : (sh : Shape) (f : Fields) (p q : ℕ) → Granted sh f p q → MayTake sh f p (Row q)
may-take sh f p q g = inr (record {
  range = g.range;
  filled = g.filled;
  claimed = g.claimed;
  alone = λ r names. absurd (g.unnamed r names);
  home = g.placed;
  unswitched = λ v is same. g.free.1 (is ∙ ap (λ (s : ℕ). Some (Switch s)) (sym same));
})

pub has-page : (f : Fields) (flash : List (List ℕ)) (p k q : ℕ) → place f p ≡ Some (Frame k) → ((j : ℕ) → j < 32 → get_or (get_or flash q []) j 0 ≡ get_or f.frames (32 * k + j) 0) → HasPage f flash p (Row q)
has-page f flash p k q here copy j low = copy j low ∙ ap (λ (x : Option Place). word_at f.frames flash x j) (sym here)

-- a row is one of few
pub row-few : (sh : Shape) (q : ℕ) → IsShape sh → q < sh.segments * sh.rows → q < 16777216
row-few sh q is range = let few = IsShape.few is in omega arith

-- it may be programmed
pub may-program : (sh : Shape) (f : Fields) (p q : ℕ) → Granted sh f p q → MayProgram sh f q
may-program sh f p q g = record { filled = g.filled; unnamed = g.unnamed; unswitched = λ v is placed spare. apart-spare sh f.positions (q / sh.rows) g.placed spare }

-- the frame of a page is held
pub held-frame : (sh : Shape) (places : List (Option Place)) (held : List Held) (p k : ℕ) → AreHeld sh places held → get_or places p None ≡ Some (Frame k) → Any (λ h. h.frame ≡ k) held
held-frame sh places held p k a here = let n = a.named p k here in (n.0, n.1, n.2, n.3, n.4.1)

-- where no job runs each segment is left free
pub free-idle : (job : Option Job) (s : ℕ) → job ≡ Some Idle → IsFreeOf job s
free-idle job s idle = (
  (λ is. let no : Some Idle ≡ Some (Copy s) = sym idle ∙ is in cc),
  (λ is. let no : Some Idle ≡ Some (Switch s) = sym idle ∙ is in cc),
)

-- which parts changed, of a program and then of a move
pub parts-copied : (x y : Parts) → y ≡ record x { flushes = up x.flushes } → y ≡ record x { frames = y.frames; space = y.space; cache = y.cache; flushes = up x.flushes }
parts-copied x y is = is ∙ ap (λ (z : Parts). record x { frames = z.frames; space = z.space; cache = z.cache; flushes = up x.flushes }) (sym is)

pub parts-moved : (x y z : Parts) → y ≡ record x { flushes = up x.flushes } → z ≡ record y { frames = z.frames; space = z.space; cache = z.cache } → z ≡ record x { frames = z.frames; space = z.space; cache = z.cache; flushes = up x.flushes }
parts-moved x y z copied moved = moved ∙ ap (λ (w : Parts). record w { frames = z.frames; space = z.space; cache = z.cache }) copied

-- the words of a page that stands in no frame are within the board
pub in-range : (s : State) (p : ℕ) (from : Place) → IsBoard s → IsSound (chart s) → place (chart s).fields p ≡ Some from → IsElsewhere (Some from) → InRange s from
in-range s p Absent board sound here elsewhere = tt
in-range s p (Row q) board sound here elsewhere = rw (IsBoard.rows board) (Places.rows (Sound.places sound) p q here)
in-range s p (Frame k) board sound here elsewhere = absurd (elsewhere k refl)

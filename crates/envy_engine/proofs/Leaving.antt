-- What workers leave, one after another.
use Rattle.std.proofs.Common.{◌≡◌, ◌∙◌, ◌⊎◌, inl, inr, ℕ, ◌-◌, ◌^◌, ◌<◌, ◌≤◌, true, false, refl, sym, arith}
use Rattle.std.proofs.lemmas.Bool.{cases_lt}
use Rattle.std.specs.Prelude.{◌↔◌, Bool, IsTrue, Result, Ok, Err, OnOk, OnErr, MatchResult}
use Rattle.envy_base.specs.declared.board.Off.{Off}
use Rattle.envy_base.specs.declared.board.Trouble.{Trouble}
use Rattle.envy_base.specs.declared.board.Trouble.TheVariants.{Off as TroubleOff, Bad}
use Rattle.envy_map.specs.Fields.{Chart}
use Rattle.envy_soundness.specs.Same.{Same, Stays, Framed, Counted}
use Rattle.envy_soundness.proofs.Composition.{Same-refl}
use Rattle.envy_soundness.proofs.FrameStay.{FramesStay-trans}
use Rattle.envy_table.specs.Hits.{Rests}
use Rattle.envy_table.proofs.HitLemmas.{Rests-refl, Rests-trans}
use Rattle.envy_engine.specs.Agreement.{Fits, Ready}
use Rattle.envy_engine.specs.Counts.{Counting}
use Rattle.envy_engine.specs.Ticks.{CountsTick}
use Rattle.envy_engine.specs.Leaving.{LeavesParts, KeepsFrames}
use Rattle.envy_soundness.specs.Power.{power_of, power_after}
use Rattle.envy_engine.specs.declared.parts.Parts.{Parts}
use Rattle.envy_engine.proofs.CountLemmas.{Counting-still, Counting-trans}

-- nothing was done
pub leaves_none : (c : Chart) (x : Parts) → Ready c x → LeavesParts c x c x
leaves_none c x r = record {
  steady = record { fits = r.fits; agrees = λ on. r.agrees };
  counting = Counting-still c c x x (Stays.counted (Same.stays (Same-refl c r.sound))) refl refl refl (λ on. refl);
  rests = Rests-refl x.cache;
}

-- power failed, and what is counted stays
pub leaves_off : (c d : Chart) (x y : Parts) → Fits d.shape y → Counted 0 0 c d → d.on ≡ false → y.flushes ≡ x.flushes → y.swaps ≡ x.swaps → y.reloc ≡ x.reloc → Rests x.cache y.cache → LeavesParts c x d y
leaves_off c d x y fits counted off flushes swaps task rests = record {
  steady = record { fits = fits; agrees = λ on. absurd (let no : false ≡ true = sym off ∙ on in cc) };
  counting = Counting-still c d x y counted flushes swaps task (λ on. absurd (let no : false ≡ true = sym off ∙ on in cc));
  rests = rests;
}

-- the same, before the parts changed
pub leaves_off_same : (c d : Chart) (x : Parts) → Ready c x → Same 0 0 c d → d.on ≡ false → LeavesParts c x d x
leaves_off_same c d x r same off = leaves_off c d x x (rw (Framed.shape (Stays.framed (Same.stays same))) r.fits) (Stays.counted (Same.stays same)) off refl refl refl (Rests-refl x.cache)

-- one worker after another
pub leaves_then : (c d e : Chart) (x y z : Parts) → LeavesParts c x d y → LeavesParts d y e z → LeavesParts c x e z
leaves_then c d e x y z p q = record {
  steady = q.steady;
  counting = Counting-trans c d e x y z p.counting q.counting;
  rests = Rests-trans x.cache y.cache z.cache p.rests q.rests;
}

-- where power is on, a call has answered Ok
pub if_powered : {T : Type 0} (r : Result T Off) (on : Bool) (A : Type 0) → OnOk r A → on ≡ power_of r → IsTrue on → A
if_powered (Ok done) on A a power is = a
if_powered (Err e) on A a power is = absurd (let no : false ≡ true = sym power ∙ is in cc)

-- frames stay over two workers, of which the first left power on
pub keeps_then : (c d e : Chart) (x y z : Parts) → IsTrue d.on → KeepsFrames c x d y → KeepsFrames d y e z → KeepsFrames c x e z
keeps_then c d e x y z lit p q = record {
  frames = q.frames ∙ p.frames;
  here = λ on. FramesStay-trans c.fields.places d.fields.places e.fields.places (p.here lit) (q.here on);
  flushes = q.flushes ∙ p.flushes;
}

-- a bad operation after steps that count none away
pub counts_bad_then : {a b c : ℕ} → a ≤ b → b ≤ c → (b < 2 ^ 64 - 1 → b < c) → a < 2 ^ 64 - 1 → a < c
counts_bad_then {a} {b} {c} le less bad low = at (cases_lt b (2 ^ 64 - 1))
  where
    at : (b < 2 ^ 64 - 1) ⊎ (2 ^ 64 - 1 ≤ b) → a < c
    at (inl lower) = let more = bad lower in omega arith
    at (inr top) = omega arith

-- how a call ended, from power and the other way round
pub powers_both : {T : Type 0} (r : Result T Trouble) (on : Bool) → on ≡ power_after r → (r ≡ Err TroubleOff) ↔ (on ≡ false)
powers_both (Ok done) on is = (λ same. absurd (let no : Ok done ≡ Err TroubleOff = same in cc), λ off. absurd (let no : false ≡ true = sym off ∙ is in cc))
powers_both (Err TroubleOff) on is = ((λ same. is), λ off. refl)
powers_both (Err Bad) on is = (λ same. absurd (let no : Err Bad ≡ Err TroubleOff = same in cc), λ off. absurd (let no : false ≡ true = sym off ∙ is in cc))

-- of a match on an answer, where both sides are known
pub match_known : {T : Type 0} (r : Result T Trouble) (A B : Type 0) → A → B → MatchResult r (λ _. A) (λ _. B)
match_known (Ok done) A B a b = a
match_known (Err fault) A B a b = b

-- where no swap begins, a tick counts what every worker does
pub counts_tick : (c d : Chart) (x y : Parts) → Counting c x d y → CountsTick c x d y
counts_tick c d x y w = record { tallies = w.tallies; since = inl (w.swaps, w.since) }

pub power_by : {T : Type 0} (r : Result T Off) (on : Bool) → OnOk r (IsTrue on) → OnErr r (on ≡ false) → on ≡ power_of r
power_by (Ok done) on is off = is
power_by (Err e) on is off = off

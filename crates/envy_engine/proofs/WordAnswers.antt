-- What a store says of a page that stands in a frame.
use Rattle.std.proofs.Common.{◌≡◌, ℕ, Result, Ok, Err, IsErrAnd, length, Some, refl, ap, arith}
use Rattle.std.specs.Prelude.{IsTrue}
use Rattle.envy_base.specs.declared.board.Off.{Off}
use Rattle.envy_base.specs.declared.board.Trouble.{Trouble}
use Rattle.envy_base.specs.declared.board.Trouble.TheVariants.{Off as TroubleOff, Bad}
use Rattle.envy_base.specs.declared.fields.Place.TheVariants.{Frame}
use Rattle.envy_map.specs.Fields.{Chart, with_fields, place}
use Rattle.envy_map.specs.Writes.{Writes, with_frame_word}
use Rattle.envy_soundness.specs.Same.{Stored, Interrupted, Shadowed, Dropped}
use Rattle.envy_soundness.proofs.Composition.{Counted-put}
use Rattle.envy_soundness.proofs.WordPuts.{Dropped-more}
use Rattle.envy_table.specs.Agreement.{AreCurrent}
use Rattle.envy_table.specs.Entries.{Translations}
use Rattle.envy_engine.specs.Agreement.{Ready, Steady}
use Rattle.envy_engine.specs.Counts.{Counting}
use Rattle.envy_engine.specs.Storing.{Wrote, Shaded, StaysFramed}
use Rattle.envy_engine.specs.declared.parts.Parts.{Parts}
use Rattle.envy_engine.proofs.AgreeLemmas.{Fits-moved}
use Rattle.envy_engine.proofs.CountLemmas.{Counting-still, wears-put}
use Rattle.envy_engine.proofs.PutLemmas.{Steady-word}
use Rattle.envy_engine.proofs.StoreLemmas.{Stored-more, Interrupted-more, Shadowed-more}

-- a page was looked up
pub Ready-looked : (c : Chart) (x : Parts) (t : Translations) → Ready c x → length t.entries ≡ length x.cache.entries → (IsTrue c.on → AreCurrent c.shape.pages c.fields.places t.entries) → Ready c (record x { cache = t })
Ready-looked c x t r size current = record {
  on = r.on;
  sound = r.sound;
  fits = Fits-moved c.shape c.shape x (record x { cache = t }) refl r.fits refl refl size refl refl;
  agrees = let a = r.agrees in record { pool = a.pool; held = a.held; current = current r.on; job = a.job; two = a.two };
}

pub Steady-ready : (c : Chart) (x : Parts) → Ready c x → Steady c x
Steady-ready c x r = record { fits = r.fits; agrees = λ on. r.agrees }

-- and a word of its frame was written, or power failed
pub Steady-written : (c new : Chart) (x : Parts) (k i w : ℕ) (r : Result Unit Off) → Ready c x → Writes (with_frame_word k i w) c r new → Steady new x
Steady-written c new x k i w r ready writes = Steady-word c new x k i w r ready.on (Steady-ready c x ready) writes

pub Counting-written : (c new : Chart) (x : Parts) (t : Translations) (k i w : ℕ) (r : Result Unit Off) → Writes (with_frame_word k i w) c r new → Counting c x new (record x { cache = t })
Counting-written c new x t k i w r writes =
    Counting-still c new x (record x { cache = t }) (Counted-put c new (with_frame_word k i w) r writes) refl refl refl (wears-put c new (with_frame_word k i w) r refl writes)

-- the word is there
pub StaysFramed-written : (p k i w : ℕ) (old new : Chart) (x : Parts) (t : Translations) → place old.fields p ≡ Some (Frame k) → new ≡ with_fields old (with_frame_word k i w old.fields) → StaysFramed p old x new (record x { cache = t })
StaysFramed-written p k i w old new x t here is = record {
  frame = k;
  here = here;
  places = ap (λ (c : Chart). c.fields.places) is;
  rows = record {
    job = ap (λ (c : Chart). c.fields.job) is;
    fills = ap (λ (c : Chart). c.fields.fills) is;
    positions = ap (λ (c : Chart). c.fields.positions) is;
    wears = ap (λ (c : Chart). c.fields.wears) is;
    erases = ap (λ (c : Chart). c.erases) is;
  };
  parts = refl;
}

pub Wrote-word : (k j : ℕ) (old new : Chart) (a w : ℕ) → Stored 0 0 old new a w → Wrote k j old a w (Ok tt) new
Wrote-word k j old new a w s = Stored-more 0 0 k j old new a w (omega arith) (omega arith) s

pub Shaded-word : (k j : ℕ) (old new : Chart) (a w : ℕ) → Shadowed 0 0 old new a w → Shaded k j old a w (Ok tt) new
Shaded-word k j old new a w s = Shadowed-more 0 0 k j old new a w (omega arith) (omega arith) s

-- power failed
pub Wrote-lost : (k j : ℕ) (old new : Chart) (a w : ℕ) (r : Result Unit Trouble) → Interrupted 0 0 old new a w → IsErrAnd r (λ e. e ≡ TroubleOff) → Wrote k j old a w r new
Wrote-lost k j old new a w (Ok done) s is = absurd is
Wrote-lost k j old new a w (Err TroubleOff) s is = Interrupted-more 0 0 k j old new a w (omega arith) (omega arith) s
Wrote-lost k j old new a w (Err Bad) s is = absurd (let no : Bad ≡ TroubleOff = is in cc)

pub Shaded-lost : (k j : ℕ) (old new : Chart) (a w : ℕ) (r : Result Unit Trouble) → Dropped 0 0 old new → IsErrAnd r (λ e. e ≡ TroubleOff) → Shaded k j old a w r new
Shaded-lost k j old new a w (Ok done) s is = absurd is
Shaded-lost k j old new a w (Err TroubleOff) s is = Dropped-more 0 0 k j old new (omega arith) (omega arith) s
Shaded-lost k j old new a w (Err Bad) s is = absurd (let no : Bad ≡ TroubleOff = is in cc)

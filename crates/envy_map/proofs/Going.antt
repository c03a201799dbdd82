-- One put after another.
use Rattle.std.proofs.Common.{◌≡◌, ◌⊎◌, inl, inr, ℕ, zero, suc, ◌+◌, ◌*◌, ◌<◌, ◌≤◌, true, List, length, get_or, refl, sym, ◌∙◌, ap, subst, arith}
use Rattle.std.specs.Prelude.{Result, Ok, Err, OnErr}
use Rattle.std.proofs.lemmas.List.Edits.{paste_none, paste_more}
use Rattle.envy_base.specs.declared.board.Off.{Off}
use Rattle.envy_map.specs.Fields.{Fields, Chart, failed, with_fields}
use Rattle.envy_map.specs.Writes.{Stopped, Writes, Going, with_frame, with_frame_word}

pub Going-begins : (c : Chart) → Going c c c.fields 0
Going-begins c = record { is = refl; untouched = λ e. refl; powered = λ lt. absurd (omega arith) }

-- a turn that ends well
pub Going-step : (old mid new : Chart) (f : Fields) (change : Fields → Fields) (n : ℕ) (done : Unit {0}) → Going old mid f n → Writes change mid (Ok done) new → Going old new (change f) (n + 1)
Going-step old mid new f change n done going (on, is) = record {
  is = is ∙ ap (λ (c : Chart). with_fields c (change c.fields)) going.is;
  untouched = λ e. absurd (omega arith);
  powered = λ lt. ap (λ (c : Chart). c.on) (sym going.is) ∙ on;
}

pub Stopped-weaker : (old new : Chart) (P Q : Fields → Type 0) → ((f : Fields) → P f → Q f) → Stopped P old new → Stopped Q old new
Stopped-weaker old new P Q weaker (inl nothing) = inl nothing
Stopped-weaker old new P Q weaker (inr (on, f, p, is)) = inr (on, f, weaker f p, is)

-- a turn in which power is off
pub Going-stops : (old mid new : Chart) (f : Fields) (change : Fields → Fields) (n : ℕ) (off : Off) → Going old mid f n → Writes change mid (Err off) new → Stopped (λ x. (x ≡ f) ⊎ (x ≡ change f)) old new
Going-stops old mid new f change n off going (inr (on, x, one, is)) =
    inr (ap (λ (c : Chart). c.on) (sym going.is) ∙ on, x, to one, is ∙ ap (λ (c : Chart). failed (with_fields c x)) going.is)
  where
    to : (x ≡ mid.fields) ⊎ (x ≡ change mid.fields) → (x ≡ f) ⊎ (x ≡ change f)
    to (inl e) = inl (e ∙ ap (λ (c : Chart). c.fields) going.is)
    to (inr e) = inr (e ∙ ap (λ (c : Chart). change c.fields) going.is)
Going-stops old mid new f change zero off going (inl (off_then, same)) = inl (ap (λ (c : Chart). c.on) (sym (going.untouched refl)) ∙ off_then, same ∙ going.untouched refl)
Going-stops old mid new f change (suc n) off going (inl (off_then, same)) =
    let was : old.on ≡ true = going.powered (omega arith) in
    let is : mid.on ≡ old.on = ap (λ (c : Chart). c.on) going.is in
    cc

pub with_frame-none : (f : Fields) (k : ℕ) (page : List ℕ) → f ≡ with_frame k page 0 f
with_frame-none f k page = ap (λ (xs : List ℕ). record f { frames = xs }) (paste_none f.frames (32 * k) page)

pub with_frame-more : (f : Fields) (k : ℕ) (page : List ℕ) (i : ℕ) → 32 * k + i < length f.frames → i < length page → with_frame_word k i (get_or page i 0) (with_frame k page i f) ≡ with_frame k page (i + 1) f
with_frame-more f k page i room lt = ap (λ (xs : List ℕ). record f { frames = xs }) (paste_more f.frames (32 * k) page i 0 room lt)

-- a turn of the loop that writes a frame
pub Going-frame : (old mid new : Chart) (f : Fields) (k : ℕ) (page : List ℕ) (i : ℕ) (done : Unit {0}) → 32 * k + i < length f.frames → i < length page → Going old mid (with_frame k page i f) i → Writes (with_frame_word k i (get_or page i 0)) mid (Ok done) new → Going old new (with_frame k page (i + 1) f) (i + 1)
Going-frame old mid new f k page i done room lt going writes =
    subst (λ (x : Fields). Going old new x (i + 1)) (with_frame-more f k page i room lt) (Going-step old mid new _ (with_frame_word k i (get_or page i 0)) i done going writes)

pub Stops-frame : (old mid new : Chart) (f : Fields) (k : ℕ) (page : List ℕ) (i : ℕ) (off : Off) → 32 * k + i < length f.frames → i < length page → i < 32 → Going old mid (with_frame k page i f) i → Writes (with_frame_word k i (get_or page i 0)) mid (Err off) new → Stopped (λ x. (n : ℕ) × (n ≤ 32) × (x ≡ with_frame k page n f)) old new
Stops-frame old mid new f k page i off room lt low going writes =
    Stopped-weaker old new _ _ to (Going-stops old mid new _ (with_frame_word k i (get_or page i 0)) i off going writes)
  where
    to : (x : Fields) → (x ≡ with_frame k page i f) ⊎ (x ≡ with_frame_word k i (get_or page i 0) (with_frame k page i f)) → (n : ℕ) × (n ≤ 32) × (x ≡ with_frame k page n f)
    to x (inl e) = (i, omega arith, e)
    to x (inr e) = (i + 1, omega arith, e ∙ with_frame-more f k page i room lt)

pub OnErr-any : {T E P : Type 0} (r : Result T E) → P → OnErr r P
OnErr-any (Ok x) p = tt
OnErr-any (Err e) p = p

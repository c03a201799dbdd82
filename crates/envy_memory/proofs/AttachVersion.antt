-- An empty board of version 1 on which a transaction puts a word.
use Rattle.std.proofs.Common.{◌≡◌, ◌⊎◌, inl, inr, cond, ℕ, ◌*◌, ◌<◌, ◌≤◌, List, length, get_or, set, Option, None, Some, refl, sym, ◌∙◌, ap, subst, arith}
use Rattle.std.specs.Prelude.{replicate, count_by, ◌==◌, if◌then◌else◌}
use Rattle.std.proofs.lemmas.Bool.{cases_eq, eq-eqb, ne_eqb}
use Rattle.std.proofs.lemmas.List.{ext_get_or, get_or-replicate, get_or-set_same, get_or-set_other, length-replicate, length-set}
use Rattle.std.proofs.lemmas.List.Folds.{sum_by-replicate}
use Rattle.envy_base.specs.declared.fields.Place.{Place}
use Rattle.envy_base.specs.declared.fields.Place.TheVariants.{Frame}
use Rattle.envy_base.specs.declared.fields.Slot.{Slot}
use Rattle.envy_base.specs.declared.fields.Slot.TheVariants.{Active}
use Rattle.envy_base.specs.declared.fields.Undo.{Undo}
use Rattle.envy_base.specs.declared.fields.Undo.TheVariants.{Clear, Blank}
use Rattle.envy_map.specs.Fields.{Chart, with_fields}
use Rattle.envy_map.specs.Writes.{with_frame, with_slot, with_undo, pasted}
use Rattle.envy_soundness.specs.Formatting.{IsEmpty}
use Rattle.envy_soundness.specs.May.{HasChanged}
use Rattle.envy_soundness.specs.Sound.{Sound, Slots, owned_by}
use Rattle.envy_soundness.specs.Words.{word_at}
use Rattle.envy_soundness.proofs.Filling.{get_or-pasted_in}

-- no page has an owner, whatever the slots are
pub none-owned : (c : Chart) (slots : List (Option Slot)) → IsEmpty 1 c → count_by (owned_by slots) c.fields.undos ≡ 0
none-owned c slots e =
    ap (count_by (owned_by slots)) clear ∙ sum_by-replicate (λ (u : Option Undo). cond (owned_by slots u) 1 0) c.shape.pages (Some Clear) ∙ omega arith
  where
    clear : c.fields.undos ≡ replicate c.shape.pages (Some Clear)
    clear =
        let long = Slots.undos_long (Sound.slots e.sound) in
        ext_get_or None c.fields.undos (replicate c.shape.pages (Some Clear)) (long ∙ sym (length-replicate c.shape.pages (Some Clear))) (λ p lt. e.undos p (rw (← long) lt) ∙ sym (get_or-replicate c.shape.pages p (Some Clear) None (rw (← long) lt)))

-- frame 0 holds zeros with one word stored
pub HasChanged-empty : (c d : Chart) (page : List ℕ) (i w : ℕ) → IsEmpty 1 c → 0 < c.shape.pages → 32 ≤ length c.fields.frames → i < 32 → page ≡ set (replicate 32 0) i w → d ≡ with_fields c (with_undo 0 (Some (Blank 0)) (with_slot 0 (Some Active) (with_frame 0 page 32 c.fields))) → HasChanged d.fields d.flash 0 (Frame 0) i w
HasChanged-empty c d page i w e some room inside words is = subst (λ (z : Chart). HasChanged z.fields z.flash 0 (Frame 0) i w) (sym is)
    (λ j lt. get_or-pasted_in c.fields.frames (32 * 0) page 32 j (omega arith) (let long_page = size in omega arith) lt ∙ ap (λ (ws : List ℕ). get_or ws j 0) words ∙ stored j lt (cases_eq j i) ∙ ap (λ (x : Option Place). if j == i then w else word_at (pasted c.fields.frames (32 * 0) page 32) c.flash x j) (sym (e.places 0 some)))
  where
    long : length {A = ℕ} (replicate 32 0) ≡ 32
    long = length-replicate {A = ℕ} 32 0

    size : length page ≡ 32
    size = ap length words ∙ length-set (replicate 32 0) i w ∙ long

    stored : (j : ℕ) → j < 32 → (j ≡ i) ⊎ (j ≡ i → ⊥) → get_or (set (replicate 32 0) i w) j 0 ≡ (if j == i then w else 0)
    stored j lt (inl same) = let within : i < length {A = ℕ} (replicate 32 0) = rw long inside in rw (same, eq-eqb i i refl) (get_or-set_same {A = ℕ} (replicate 32 0) i w 0 within)
    stored j lt (inr other) = rw (ne_eqb j i other) (get_or-set_other {A = ℕ} (replicate 32 0) i j w 0 other ∙ get_or-replicate {A = ℕ} 32 j 0 0 lt)

-- The pool of a board that was just formatted.
use Rattle.std.proofs.Common.{◌≡◌, ◌≢◌, ◌⊎◌, inl, inr, ℕ, ◌<◌, ◌≤◌, List, [], length, get_or, replicate, Option, None, Some, refl, sym, ◌∙◌, ap, subst, arith}
use Rattle.std.specs.List.{range_with_len}
use Rattle.std.proofs.lemmas.Bool.{cases_lt}
use Rattle.std.proofs.lemmas.List.{ext_get_or, get_or-replicate, get_or_past, length-replicate}
use Rattle.std.proofs.lemmas.List.FromFn.{get_or-range_with_len, length-range_with_len}
use Rattle.envy_base.specs.declared.fields.Place.TheVariants.{Absent, Row}
use Rattle.envy_base.specs.declared.fields.Undo.{Undo}
use Rattle.envy_base.specs.declared.fields.Undo.TheVariants.{Clear}
use Rattle.envy_base.specs.declared.shape.Shape.{Shape}
use Rattle.envy_map.specs.Fields.{Fields, Chart, place, undo}
use Rattle.envy_soundness.specs.Formatting.{IsEmpty, aside}
use Rattle.envy_soundness.specs.Sound.{Sound, Places, Slots, Names}
use Rattle.envy_soundness.specs.Words.{kept_by}
use Rattle.envy_soundness.proofs.Arranged.{laid-plain, plain-fill}
use Rattle.envy_soundness.proofs.KeptCounts.{kept_in-none}
use Rattle.envy_space.specs.Pool.{PoolAgrees, empty_pool}
use Rattle.envy_base.specs.Shape.{all_positions_of}

-- no page names a row
nameless : (sh : Shape) (f : Fields) (flash : List (List ℕ)) → Sound sh f flash → ((p : ℕ) → p < sh.pages → place f p ≡ Some Absent) → ((p : ℕ) → p < sh.pages → undo f p ≡ Some Clear) → (p q : ℕ) → Names f p q → ⊥
nameless sh f flash sound places undos p q names = at names
  where
    past : place f p ≢ Some (Row q)
    past is = at (cases_lt p sh.pages)
      where
        at : (p < sh.pages) ⊎ (sh.pages ≤ p) → ⊥
        at (inl lt) = let no : Some Absent ≡ Some (Row q) = sym (places p lt) ∙ is in cc
        at (inr le) = let no : None ≡ Some (Row q) = sym (get_or_past f.places p None (omega (arith, Places.long (Sound.places sound)))) ∙ is in cc

    kept : kept_by f.slots (undo f p) (place f p) ≡ place f p
    kept = at (cases_lt p sh.pages)
      where
        at : (p < sh.pages) ⊎ (sh.pages ≤ p) → kept_by f.slots (undo f p) (place f p) ≡ place f p
        at (inl lt) = ap (λ (u : Option Undo). kept_by f.slots u (place f p)) (undos p lt)
        at (inr le) = ap (λ (u : Option Undo). kept_by f.slots u (place f p)) (get_or_past f.undos p None (omega (arith, Slots.undos_long (Sound.slots sound))))

    at : Names f p q → ⊥
    at (inl here) = past here
    at (inr back) = past (sym kept ∙ back)

pub PoolAgrees-empty : (version : ℕ) (c : Chart) → IsEmpty version c → aside c.shape c.fields.fills ≡ [] → PoolAgrees c.shape c.fields (empty_pool c.shape)
PoolAgrees-empty version c empty plain =
    let numbers = Sound.numbers empty.sound in
    let none : length (aside c.shape c.fields.fills) ≡ 0 = ap length plain in
    record {
      shape = refl;
      fills = ext_get_or 0 (replicate c.shape.segments 0) c.fields.fills (length-replicate c.shape.segments 0 ∙ sym numbers.fills_long)
          (λ s low. let lt : s < c.shape.segments = omega (arith, length-replicate {A = ℕ} c.shape.segments 0) in get_or-replicate c.shape.segments s 0 0 lt ∙ sym (plain-fill c.shape c.fields.fills s none lt (empty.fills s lt)));
      positions = ext_get_or 0 (range_with_len 0 (all_positions_of c.shape)) c.fields.positions (length-range_with_len 0 (all_positions_of c.shape) ∙ sym numbers.positions_long)
          (λ k low. let lt : k < all_positions_of c.shape = omega (arith, length-range_with_len 0 (all_positions_of c.shape)) in
          let here = get_or-range_with_len 0 (all_positions_of c.shape) k 0 lt in let there = ap (λ (xs : List ℕ). get_or xs k 0) empty.positions ∙ laid-plain c.shape c.fields.fills k none lt in omega arith);
      long = length-replicate c.shape.segments 0;
      kept = λ s lt. get_or-replicate c.shape.segments s 0 0 lt ∙ sym (kept_in-none c.shape c.fields.slots c.fields.undos c.fields.places s
          (λ p q names. absurd (nameless c.shape c.fields c.flash empty.sound empty.places empty.undos p q names)));
    }

pub PoolAgrees-new : (sh : Shape) (version : ℕ) (c : Chart) → c.shape ≡ sh → IsEmpty version c → aside c.shape c.fields.fills ≡ [] → PoolAgrees c.shape c.fields (empty_pool sh)
PoolAgrees-new sh version c shape empty plain = subst (λ (x : Shape). PoolAgrees c.shape c.fields (empty_pool x)) shape (PoolAgrees-empty version c empty plain)

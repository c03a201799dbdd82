-- A turn of a ring: the front goes to the back, or leaves.
use Rattle.std.proofs.Common.{◌≡◌, ℕ, ◌+◌, ◌<◌, ◌≤◌, Bool, cond, List, [], ◌∷◌, ◌++◌, length, take, drop, get_or, Some, sym, refl, ◌∙◌, ap, arith, length-append, length-drop}
use Rattle.std.specs.List.{filter, AllPairs}
use Rattle.std.specs.Prelude.{slice_get, IfSome}
use Rattle.std.proofs.lemmas.List.{drop_more, append_assoc, length-take}
use Rattle.std.proofs.lemmas.List.Elements.{filter_more}
use Rattle.std.proofs.lemmas.List.Sums.{length-filter, count_by-le-length}
use Rattle.envy_frames.specs.declared.held.Held.{Held}
use Rattle.envy_frames.specs.Order.{IsApart, is_other}
use Rattle.envy_frames.proofs.Lists.{without-first}

module _ {X : Type 0} (p : X → Bool) where
  -- a ring that has turned once more
  pub turned : (xs items : List X) (i : ℕ) (h : X) → i < length xs → items ≡ drop i xs ++ filter p (take i xs) → slice_get items 0 ≡ Some h → drop 1 items ++ cond (p h) (h ∷ []) [] ≡ drop (i + 1) xs ++ filter p (take (i + 1) xs)
  turned xs items i h lt is front =
      let split : drop i xs ≡ get_or xs i h ∷ drop (i + 1) xs = drop_more xs i h lt in
      let whole : items ≡ get_or xs i h ∷ (drop (i + 1) xs ++ filter p (take i xs)) = is ∙ ap (λ (ys : List X). ys ++ filter p (take i xs)) split in
      let first : Some (get_or xs i h) ≡ Some h = sym (ap (λ (ys : List X). slice_get ys 0) whole) ∙ front in
      let here : get_or xs i h ≡ h = cc in
      rw (whole, filter_more p xs i h lt, here) (append_assoc (drop (i + 1) xs) (filter p (take i xs)) (cond (p h) (h ∷ []) []))

  pub turned_if : (xs items new : List X) (i : ℕ) → i < length xs → items ≡ drop i xs ++ filter p (take i xs) → IfSome (slice_get items 0) (λ h. new ≡ drop 1 items ++ cond (p h) (h ∷ []) []) → new ≡ drop (i + 1) xs ++ filter p (take (i + 1) xs)
  turned_if xs [] new i lt is one = absurd (omega (arith, ap length is, length-append (drop i xs) (filter p (take i xs)), length-drop i xs))
  turned_if xs (h ∷ rest) new i lt is one = one ∙ turned xs (h ∷ rest) i h lt is refl

  -- turning makes a ring no longer
  pub length-turned : (xs items : List X) (i : ℕ) → i ≤ length xs → items ≡ drop i xs ++ filter p (take i xs) → length items ≤ length xs
  length-turned xs items i le is = omega (arith, ap length is, length-append (drop i xs) (filter p (take i xs)), length-drop i xs, length-filter p (take i xs), count_by-le-length p (take i xs), length-take i xs)

-- without the oldest the others are left
pub filter-oldest : (held : List Held) (h : Held) → slice_get held 0 ≡ Some h → AllPairs IsApart held → filter (is_other h.frame) held ≡ drop 1 held
filter-oldest [] h front apart = cc
filter-oldest (x ∷ xs) h front apart =
    let same : x ≡ h = cc in
    without-first (λ (e : Held). e.frame) h.frame x xs apart (ap (λ (e : Held). e.frame) same)

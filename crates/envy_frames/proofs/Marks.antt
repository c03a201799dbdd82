-- Marks of the frames that are held, and a push that has room.
use Rattle.std.proofs.Common.{◌≡◌, ◌⊎◌, inl, inr, ℕ, ◌+◌, ◌<◌, Bool, true, false, ◌||◌, List, [], ◌∷◌, ◌++◌, length, get_or, set, refl, sym, ◌∙◌, ap, arith, Result, Ok, Err}
use Rattle.std.specs.Prelude.{◌==◌, ◌↔◌, IsOk, OnOk, is_ok, if◌then◌else◌}
use Rattle.std.proofs.lemmas.List.{get_or-set_same, get_or-set_other, length-set, append-nil}
use Rattle.std.proofs.lemmas.Bool.{cases_eq, eq-eqb, ne_eqb, or_right}
use Rattle.std.proofs.Math.Bool.{or-false}
use Rattle.circular_buffer.specs.Buffer.{Buffer, buffer}
use Rattle.envy_frames.specs.declared.held.Held.{Held}
use Rattle.envy_frames.specs.Order.{has_frame, others_of}
use Rattle.envy_frames.proofs.Stacks.{others_more}

-- the frames that are marked, and those that are still to be, are the held ones
pub marked_more : (marks : List Bool) (held rest whole : List Held) (h : Held) → held ≡ h ∷ rest → h.frame < length marks → ((f : ℕ) → f < length marks → (get_or marks f false || has_frame held f) ≡ has_frame whole f) → (f : ℕ) → f < length (set marks h.frame true) → (get_or (set marks h.frame true) f false || has_frame rest f) ≡ has_frame whole f
marked_more marks held rest whole h is room all f lt = at (cases_eq f h.frame)
  where
    old : (get_or marks f false || has_frame (h ∷ rest) f) ≡ has_frame whole f
    old = ap (λ (xs : List Held). get_or marks f false || has_frame xs f) (sym is) ∙ all f (omega (arith, length-set marks h.frame true))

    at : (f ≡ h.frame) ⊎ (f ≡ h.frame → ⊥) → (get_or (set marks h.frame true) f false || has_frame rest f) ≡ has_frame whole f
    at (inl same) =
        let here : get_or (set marks h.frame true) f false ≡ true = rw same (get_or-set_same marks h.frame true false room) in
        let has : (h.frame == f) ≡ true = eq-eqb h.frame f (sym same) in
        rw here (sym (or_right (get_or marks f false) (has_frame (h ∷ rest) f) (rw has refl)) ∙ old)
    at (inr other) =
        let there : get_or (set marks h.frame true) f false ≡ get_or marks f false = get_or-set_other marks h.frame f true false other in
        let hasnt : (h.frame == f) ≡ false = ne_eqb h.frame f (λ e. other (sym e)) in
        rw there (rw hasnt at old)

-- an unmarked frame is pushed, a marked one is passed over
pub pushed : (held : List Held) (n : ℕ) (free new : List ℕ) → has_frame held n ≡ false → free ≡ others_of held n → new ≡ free ++ n ∷ [] → new ≡ others_of held (n + 1)
pushed held n free new unheld is put = put ∙ ap (λ (xs : List ℕ). xs ++ n ∷ []) is ∙ sym (others_more held n ∙ rw unheld refl)

pub passed_over : (held : List Held) (n : ℕ) (free : List ℕ) → has_frame held n ≡ true → free ≡ others_of held n → free ≡ others_of held (n + 1)
passed_over held n free has is = is ∙ sym (others_more held n ∙ rw has (append-nil (others_of held n)))

module _ {X E : Type 0} where
  pub with_pushed : (old new : List X) (x : X) (r : Result Unit E) → new ≡ (if is_ok r then old ++ x ∷ [] else old) → IsOk r → new ≡ old ++ x ∷ []
  with_pushed old new x (Ok done) is ok = is
  with_pushed old new x (Err e) is ok = cc

  pub with_placed : (old new : Buffer X) (x : X) (r : Result Unit E) → (IsOk r ↔ (length old.items < old.capacity)) → OnOk r (new ≡ buffer (old.items ++ x ∷ []) old.capacity) → length old.items < old.capacity → new ≡ buffer (old.items ++ x ∷ []) old.capacity
  with_placed old new x (Ok done) variant on room = on
  with_placed old new x (Err e) variant on room = let no = variant.1 room in cc

-- once none is left to be marked, the marks are those of the held ones
pub all_marked : (marks seen : List Bool) (left whole : List Held) → left ≡ [] → seen ≡ marks → ((f : ℕ) → f < length marks → (get_or marks f false || has_frame left f) ≡ has_frame whole f) → (f : ℕ) → f < length seen → has_frame whole f ≡ get_or seen f false
all_marked marks seen left whole none same all f lt =
    let here : (get_or marks f false || has_frame left f) ≡ has_frame whole f = all f (rw (sym same) lt) in
    let alone : (get_or marks f false || has_frame [] f) ≡ has_frame whole f = ap (λ (xs : List Held). get_or marks f false || has_frame xs f) (sym none) ∙ here in
    rw same (sym alone ∙ or-false (get_or marks f false))

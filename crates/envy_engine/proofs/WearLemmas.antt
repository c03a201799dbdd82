-- How wear words rise by the erases that are counted, and what is quiet stays so.
use Rattle.std.proofs.Common.{◌≡◌, ◌⊎◌, inl, inr, ℕ, ◌+◌, ◌-◌, ◌^◌, ◌<◌, ◌≤◌, false, true, List, length, get_or, set, Option, None, Some, refl, sym, ◌∙◌, ap, subst, arith}
use Rattle.std.specs.Prelude.{IsTrue, Result, Ok, Err, IfOk, IsErrOf}
use Rattle.std.proofs.lemmas.Bool.{cases_eq}
use Rattle.std.proofs.lemmas.List.{get_or-set_same, get_or-set_other}
use Rattle.envy_base.specs.Counting.{up, Tally}
use Rattle.envy_base.proofs.Counting.{up-most, up-below}
use Rattle.envy_base.specs.declared.board.Trouble.{Trouble}
use Rattle.envy_base.specs.declared.board.Trouble.TheVariants.{Off as TroubleOff, Bad}
use Rattle.envy_base.specs.declared.shape.Shape.{Shape}
use Rattle.envy_map.specs.Fields.{Fields, Chart}
use Rattle.envy_soundness.specs.Naming.{with_named}
use Rattle.envy_soundness.specs.Same.{Worn, Wears}
use Rattle.envy_soundness.specs.Sound.{Sound, IsSound, Numbers, IsSpare}
use Rattle.envy_reloc.specs.Phases.{Does, Spoils, Empties, Retires, MovesRow, CopiesLeft, SpoilsTarget, SpoilsRow}
use Rattle.envy_reloc.specs.Plan.{Plan}
use Rattle.envy_reloc.specs.Switching.{SwitchesAll}
use Rattle.envy_reloc.specs.declared.step.Phase.{Phase}
use Rattle.envy_reloc.specs.declared.step.Phase.TheVariants.{Moved, Copied, Switched, Placed, Erased}
use Rattle.envy_wear.specs.Swaps.{IsQuiet}
use Rattle.envy_engine.specs.Counts.{Wearing, Counting}
use Rattle.envy_engine.specs.declared.parts.Parts.{Parts}

-- ---- a step of a relocation

-- no wear word rose by more than the count of erases
abbrev WearsTo : Chart → Plan → Chart → Plan → Type 0
WearsTo c x d y = y.since < 2 ^ 64 - 1 → (s : ℕ) → get_or d.fields.wears s 0 + x.since ≤ get_or c.fields.wears s 0 + y.since

kept-wears : (c d : Chart) (x y : Plan) → d.fields.wears ≡ c.fields.wears → y.since ≡ x.since → WearsTo c x d y
kept-wears c d x y wears since low s = rw (wears, since) (omega arith)

worn-once : (c d : Chart) (x y : Plan) (e : ℕ) → IsSound c → IsSpare c.shape c.fields.positions e → d.fields.wears ≡ set c.fields.wears e (up (get_or c.fields.wears e 0)) → y.since ≡ up x.since → WearsTo c x d y
worn-once c d x y e sound spare wears since low s = at (cases_eq s e)
  where
    below : up x.since < 2 ^ 64 - 1
    below = subst (λ (n : ℕ). n < 2 ^ 64 - 1) since low

    counted : y.since ≡ x.since + 1
    counted = since ∙ up-below x.since below

    room : e < length c.fields.wears
    room = rw (Numbers.wears_long (Sound.numbers sound)) (IsSpare.segment spare)

    at : (s ≡ e) ⊎ (s ≡ e → ⊥) → get_or d.fields.wears s 0 + x.since ≤ get_or c.fields.wears s 0 + y.since
    at (inl same) =
        let is : get_or d.fields.wears s 0 ≡ up (get_or c.fields.wears e 0) = ap (λ (ws : List ℕ). get_or ws s 0) wears ∙ rw same (get_or-set_same c.fields.wears e (up (get_or c.fields.wears e 0)) 0 room) in
        let was : get_or c.fields.wears s 0 ≡ get_or c.fields.wears e 0 = ap (λ (n : ℕ). get_or c.fields.wears n 0) same in
        let most = up-most (get_or c.fields.wears e 0) in
        let more = counted in
        omega arith
    at (inr other) =
        let is : get_or d.fields.wears s 0 ≡ get_or c.fields.wears s 0 = ap (λ (ws : List ℕ). get_or ws s 0) wears ∙ get_or-set_other c.fields.wears e s (up (get_or c.fields.wears e 0)) 0 other in
        let more = counted in
        omega arith

named-wears : (p q : ℕ) (u : Option ℕ) (f : Fields) → (with_named p q u f).wears ≡ f.wears
named-wears p q None f = refl
named-wears p q (Some t) f = refl

-- an erase and a retirement wear the spare once
ended-wears : (c d : Chart) (e : ℕ) → Empties c e d ⊎ Retires c e d → d.fields.wears ≡ set c.fields.wears e (up (get_or c.fields.wears e 0))
ended-wears c d e (inl m) = ap (λ (f : Fields). f.wears) m.fields
ended-wears c d e (inr m) = ap (λ (f : Fields). f.wears) m.fields

does-wears : (c d : Chart) (x y : Plan) (phase : Phase) → IsSound c → Does c x phase d y → WearsTo c x d y
does-wears c d x y Moved sound m = kept-wears c d x y (ap (λ (f : Fields). f.wears) (MovesRow.fields m.moved) ∙ named-wears _ _ _ _) (ap (λ (z : Plan). z.since) m.plan_is)
does-wears c d x y Copied sound m = kept-wears c d x y (ap (λ (f : Fields). f.wears) (CopiesLeft.fields m.copied)) (ap (λ (z : Plan). z.since) m.plan_is)
does-wears c d x y Switched sound m = kept-wears c d x y (ap (λ (f : Fields). f.wears) (SwitchesAll.fields m.switches)) (ap (λ (z : Plan). z.since) m.plan_is)
does-wears c d x y Placed sound m = kept-wears c d x y (ap (λ (z : Chart). z.fields.wears) m.is) (ap (λ (z : Plan). z.since) m.plan_is)
does-wears c d x y Erased sound m = worn-once c d x y m.e sound m.spare (ended-wears c d m.e m.ends) (ap (λ (z : Plan). z.since) m.plan_is)

spoils-wears : (c d : Chart) (x y : Plan) → IsSound c → Spoils c x d y → WearsTo c x d y
spoils-wears c d x y sound (inl m) = kept-wears c d x y (ap (λ (f : Fields). f.wears) (SpoilsTarget.fields m.spoilt)) (ap (λ (z : Plan). z.since) m.plan_is)
spoils-wears c d x y sound (inr (inl m)) = kept-wears c d x y (ap (λ (f : Fields). f.wears) (SpoilsRow.fields m.spoilt)) (ap (λ (z : Plan). z.since) m.plan_is)
spoils-wears c d x y sound (inr (inr m)) = worn-once c d x y m.e sound m.spare (ap (λ (f : Fields). f.wears) m.fields) (ap (λ (z : Plan). z.since) m.plan_is)

pub Wearing-begun : (c d : Chart) (x y : Parts) (r : Result Phase Trouble) → IsSound c → IsTrue c.on → IfOk r (λ phase. Does c x.reloc phase d y.reloc) → (IsErrOf r Bad → Spoils c x.reloc d y.reloc) → (r ≡ Err TroubleOff → d.on ≡ false) → Wearing c x d y
Wearing-begun c d x y (Ok phase) sound on does spoils off = record { on = λ lit. on; most = λ lit. does-wears c d x.reloc y.reloc phase sound does }
Wearing-begun c d x y (Err Bad) sound on does spoils off = record { on = λ lit. on; most = λ lit. spoils-wears c d x.reloc y.reloc sound (spoils refl) }
Wearing-begun c d x y (Err TroubleOff) sound on does spoils off = record { on = λ lit. on; most = λ lit. absurd (let no : false ≡ true = sym (off refl) ∙ lit in cc) }

-- ---- what is quiet

-- nothing is known
pub IsQuiet-none : (sh : Shape) (f : Fields) (limit since quiet : ℕ) → quiet ≡ 0 → IsQuiet sh f limit since quiet
IsQuiet-none sh f limit since quiet none = record { few = omega arith; near = λ lt. absurd (omega arith) }

pub IsQuiet-worn : (c d : Chart) (x y : Parts) (limit quiet : ℕ) → d.shape ≡ c.shape → Wears c d → x.reloc.since ≤ y.reloc.since → Wearing c x d y → IsTrue d.on → IsQuiet c.shape c.fields limit x.reloc.since quiet → IsQuiet d.shape d.fields limit y.reloc.since quiet
IsQuiet-worn c d x y limit quiet shape wears rises wearing on q = record {
  few = q.few;
  near = λ lt a b la lb.
      let few = q.few in
      let was = q.near (omega arith) a b (subst (λ (sh : Shape). a < sh.segments) shape la) (subst (λ (sh : Shape). b < sh.segments) shape lb) in
      let most = wearing.most on (omega arith) a in
      let least = Worn.rises (wears b (subst (λ (sh : Shape). b < sh.segments) shape lb)) in
      omega arith;
}

-- what counts its erases, and begins no swap, leaves the board as quiet as it was
pub IsQuiet-counted : (c d : Chart) (x y : Parts) (limit quiet : ℕ) → d.shape ≡ c.shape → Wears c d → Counting c x d y → IsTrue d.on → IsQuiet c.shape c.fields limit x.reloc.since quiet → IsQuiet d.shape d.fields limit y.reloc.since quiet
IsQuiet-counted c d x y limit quiet shape wears counting = IsQuiet-worn c d x y limit quiet shape wears (Tally.second counting.since) counting.wearing

-- the wear words stay
pub IsQuiet-still : (c d : Chart) (x y : Parts) (limit quiet : ℕ) → d.shape ≡ c.shape → d.fields.wears ≡ c.fields.wears → y.reloc.since ≡ x.reloc.since → IsQuiet c.shape c.fields limit x.reloc.since quiet → IsQuiet d.shape d.fields limit y.reloc.since quiet
IsQuiet-still c d x y limit quiet shape wears since q = record {
  few = q.few;
  near = λ lt a b la lb.
      let was = q.near (subst (λ (n : ℕ). n < quiet) since lt) a b (subst (λ (sh : Shape). a < sh.segments) shape la) (subst (λ (sh : Shape). b < sh.segments) shape lb) in
      rw (wears, since) was;
}

-- Rows of a segment that are copied to the spare.
use Rattle.std.proofs.Common.{◌≡◌, ◌≢◌, ◌⊎◌, inl, inr, ℕ, zero, suc, ◌+◌, ◌-◌, ◌*◌, ◌/◌, ◌%◌, ◌<◌, ◌≤◌, eqb, List, [], ◌∷◌, length, get_or, set, take, map, Some, refl, sym, ◌∙◌, ap, subst, arith}
use Rattle.std.specs.Prelude.{All, true}
use Rattle.std.specs.List.{list_any}
use Rattle.std.proofs.lemmas.Bool.{cases_eq, cases_lt, ne_eqb, eqb-true}
use Rattle.std.proofs.lemmas.List.{get_or-set_same, get_or-set_other, get_or-map, get_or-take, length-map, length-take}
use Rattle.std.proofs.lemmas.List.Elements.{All-nil}
use Rattle.std.proofs.lemmas.List.Folds.{Any-from_list_any}
use Rattle.std.proofs.lemmas.Map.Keys.{IsDistinct-from_apart}
use Rattle.std.proofs.lemmas.Map.Steps.{length-le_from_distinct_below}
use Rattle.std.proofs.lemmas.Nat.{div-mul-add, mul-add-lt}
use Rattle.envy_base.specs.declared.shape.Shape.{Shape}
use Rattle.envy_base.specs.declared.fields.Job.TheVariants.{Copy}
use Rattle.envy_base.specs.Counting.{up}
use Rattle.envy_map.specs.Fields.{Fields, Chart, with_fields}
use Rattle.envy_map.specs.Writes.{with_back, with_fill, with_origin}
use Rattle.envy_space.specs.Pool.{Claims}
use Rattle.envy_reloc.specs.Keeping.{ClaimsCopy}
use Rattle.envy_soundness.specs.Jobs.{IsCopiedWhole}
use Rattle.envy_soundness.specs.Sound.{Sound, Numbers, Rows, Jobs, IsSound, Names, IsPlaced, IsSpare}
use Rattle.envy_soundness.specs.Sound as Layout
use Rattle.envy_soundness.proofs.Claimed.{AreHome-copying}
use Rattle.envy_soundness.proofs.References.{apart-spare, copy-segment}
use Rattle.envy_soundness.proofs.SpareLemmas.{one-spare}
use Rattle.envy_reloc.specs.declared.row_copy.Left.{Left}
use Rattle.envy_reloc.specs.Phases.{copied_to, CopiesLeft}
use Rattle.envy_reloc.specs.Plan.{Plan, IsPlanOf, IsMarked, IsCopy, AreCopies, HasCopy}
use Rattle.envy_reloc.specs.Rows.{IsLeft, IsLowestLeft, AreAllCopied, NextKept}

-- a row of a segment, by its number there
pub in-segment : (rows q s : ℕ) → 0 < rows → q / rows ≡ s → q ≡ s * rows + q % rows
in-segment rows q s some is = rw (← is) (omega arith)

-- a kept row of a segment lies among those that are claimed
pub kept-within : (sh : Shape) (f : Fields) (flash : List (List ℕ)) (p q v : ℕ) → Sound sh f flash → 0 < sh.rows → Names f p q → q / sh.rows ≡ v → (v * sh.rows ≤ q) × (q < v * sh.rows + get_or f.fills v 0)
kept-within sh f flash p q v sound some names here =
    let low = Rows.filled sound.rows p q names in
    let level : get_or f.fills (q / sh.rows) 0 ≡ get_or f.fills v 0 = ap (λ (s : ℕ). get_or f.fills s 0) here in
    let is = in-segment sh.rows q v some here in
    (omega arith, omega arith)

pub not-below : (q r : ℕ) → (q < r → ⊥) → r ≤ q
not-below q r never = at (cases_lt q r)
  where
    at : (q < r) ⊎ (r ≤ q) → r ≤ q
    at (inl lt) = absurd (never lt)
    at (inr le) = le

pub below-unless : (q r : ℕ) → (r ≤ q → ⊥) → q < r
below-unless q r never = at (cases_lt q r)
  where
    at : (q < r) ⊎ (r ≤ q) → q < r
    at (inl lt) = lt
    at (inr le) = absurd (never le)

-- a row between the first row of a segment and the first behind it
pub segment-of : (rows v q : ℕ) → v * rows ≤ q → q < v * rows + rows → q / rows ≡ v
segment-of rows v q above below =
    let is : q ≡ v * rows + (q - v * rows) = omega arith in
    ap (λ (x : ℕ). x / rows) is ∙ div-mul-add v rows (q - v * rows) (omega arith)

-- the lowest kept row from the mark upward is the lowest that has no copy
pub LowestLeft-next : (sh : Shape) (f : Fields) (v e mark : ℕ) (left : Left) → f.job ≡ Some (Copy v) → IsSpare sh f.positions e → IsMarked sh f.job f.positions f.slots f.undos f.places f.fills f.origins mark → NextKept sh f v mark (Some left) → IsLowestLeft sh f v (get_or f.fills e 0) left.row
LowestLeft-next sh f v e mark left copying spare marked (here, above, kept, back, page, lowest) = record {
  segment = here;
  left = record { kept = kept; uncopied = λ i lt is. let low = marked.copied v e i copying spare lt in absurd (omega arith) };
  lowest = λ r at less other. again r at less other (IsLeft.kept other) (cases_lt r mark);
}
  where
    again : (r : ℕ) → r / sh.rows ≡ v → r < left.row → IsLeft f (get_or f.fills e 0) r → (o : ℕ) × Names f o r → (r < mark) ⊎ (mark ≤ r) → ⊥
    again r at less other (o, names) (inl low) = let has = marked.kept v e o r copying spare names at low in IsLeft.uncopied other has.0 has.1 has.2
    again r at less other (o, names) (inr high) = let level = lowest o r names at high in absurd (omega arith)

-- where none is kept from the mark upward, each has its copy
pub AllCopied-next : (sh : Shape) (f : Fields) (v e mark : ℕ) → f.job ≡ Some (Copy v) → IsSpare sh f.positions e → IsMarked sh f.job f.positions f.slots f.undos f.places f.fills f.origins mark → ((p q : ℕ) → Names f p q → q / sh.rows ≡ v → q < mark) → AreAllCopied sh f v (get_or f.fills e 0)
AllCopied-next sh f v e mark copying spare marked none p q names here = marked.kept v e p q copying spare names here (none p q names here)

-- where a kept row has no copy, the spare has room for one: the rows that were copied are others
pub room-left : (sh : Shape) (f : Fields) (flash : List (List ℕ)) (v e q : ℕ) → Sound sh f flash → 0 < sh.rows → AreCopies sh f.fills f.backs f.origins flash v e → q / sh.rows ≡ v → ((i : ℕ) → i < get_or f.fills e 0 → get_or f.origins i 0 ≢ q) → get_or f.fills e 0 < sh.rows
room-left sh f flash v e q sound some copies here uncopied =
    let all = length-le_from_distinct_below numbers sh.rows (IsDistinct-from_apart eqb numbers (λ i j d lt room. ne_eqb _ _ (differ i j d lt room))) below in
    let count = length-numbers in
    omega arith
  where
    n : ℕ
    n = get_or f.fills e 0

    rows : List ℕ
    rows = q ∷ take (get_or f.fills e 0) f.origins

    numbers : List ℕ
    numbers = map (λ (x : ℕ). x % sh.rows) (q ∷ take (get_or f.fills e 0) f.origins)

    fits : get_or f.fills e 0 ≤ length f.origins
    fits = let fit = Numbers.fills_fit sound.numbers e in let long = Numbers.origins_long sound.numbers in omega arith

    taken : length (take (get_or f.fills e 0) f.origins) ≡ get_or f.fills e 0
    taken = let is = length-take (get_or f.fills e 0) f.origins in let fit = fits in omega arith

    length-numbers : length (map (λ (x : ℕ). x % sh.rows) (q ∷ take (get_or f.fills e 0) f.origins)) ≡ get_or f.fills e 0 + 1
    length-numbers = length-map (q ∷ take (get_or f.fills e 0) f.origins) (λ (x : ℕ). x % sh.rows) ∙ (let is = taken in omega arith)

    row_at : (i : ℕ) → i < get_or f.fills e 0 + 1 → get_or (q ∷ take (get_or f.fills e 0) f.origins) i 0 / sh.rows ≡ v
    row_at zero lt = here
    row_at (suc i) lt = let low : i < get_or f.fills e 0 = omega arith in ap (λ (x : ℕ). x / sh.rows) (get_or-take (get_or f.fills e 0) f.origins i 0 low) ∙ IsCopy.row (AreCopies.each copies i low)

    number_at : (i d : ℕ) → i < get_or f.fills e 0 + 1 → get_or (map (λ (x : ℕ). x % sh.rows) (q ∷ take (get_or f.fills e 0) f.origins)) i d ≡ get_or (q ∷ take (get_or f.fills e 0) f.origins) i 0 % sh.rows
    number_at i d lt = get_or-map (λ (x : ℕ). x % sh.rows) (q ∷ take (get_or f.fills e 0) f.origins) i 0 d (let is = taken in omega arith)

    apart : (i j : ℕ) → i < j → j < get_or f.fills e 0 + 1 → get_or (q ∷ take (get_or f.fills e 0) f.origins) i 0 ≢ get_or (q ∷ take (get_or f.fills e 0) f.origins) j 0
    apart i zero lt low = λ same. absurd (omega arith)
    apart zero (suc j) lt low = λ same. let small : j < get_or f.fills e 0 = omega arith in uncopied j small (sym (get_or-take (get_or f.fills e 0) f.origins j 0 small) ∙ sym same)
    apart (suc i) (suc j) lt low = λ same.
        let small : j < get_or f.fills e 0 = omega arith in
        let smaller : i < get_or f.fills e 0 = omega arith in
        let one = AreCopies.apart copies i j smaller small (sym (get_or-take (get_or f.fills e 0) f.origins i 0 smaller) ∙ same ∙ get_or-take (get_or f.fills e 0) f.origins j 0 small) in
        absurd (omega arith)

    differ : (i j d : ℕ) → i < j → j < length (map (λ (x : ℕ). x % sh.rows) (q ∷ take (get_or f.fills e 0) f.origins)) → get_or (map (λ (x : ℕ). x % sh.rows) (q ∷ take (get_or f.fills e 0) f.origins)) i d ≢ get_or (map (λ (x : ℕ). x % sh.rows) (q ∷ take (get_or f.fills e 0) f.origins)) j d
    differ i j d lt room = λ same.
        let count = length-numbers in
        let low : j < get_or f.fills e 0 + 1 = omega arith in
        let lower : i < get_or f.fills e 0 + 1 = omega arith in
        let a = in-segment sh.rows (get_or (q ∷ take (get_or f.fills e 0) f.origins) i 0) v some (row_at i lower) in
        let b = in-segment sh.rows (get_or (q ∷ take (get_or f.fills e 0) f.origins) j 0) v some (row_at j low) in
        let one = sym (number_at i d lower) ∙ same ∙ number_at j d low in
        apart i j lt low (a ∙ ap (λ (x : ℕ). v * sh.rows + x) one ∙ sym b)

    below : (x : ℕ) → list_any (eqb x) (map (λ (x : ℕ). x % sh.rows) (q ∷ take (get_or f.fills e 0) f.origins)) ≡ true → x < sh.rows
    below x found =
        let at = Any-from_list_any (eqb x) (map (λ (x : ℕ). x % sh.rows) (q ∷ take (get_or f.fills e 0) f.origins)) found in
        let count = length-numbers in
        let room = at.2 in
        let low : at.0 < get_or f.fills e 0 + 1 = omega arith in
        let is = sym (number_at at.0 at.1 low) ∙ at.3 ∙ sym (eqb-true x at.1 at.4) in
        let bound : get_or (q ∷ take (get_or f.fills e 0) f.origins) at.0 0 % sh.rows < sh.rows = omega arith in
        omega arith

-- so it has where the next row is to be copied
pub room-next : (sh : Shape) (f : Fields) (flash : List (List ℕ)) (v e : ℕ) (plan : Plan) (left : Left) → Sound sh f flash → 0 < sh.rows → IsPlanOf sh f flash plan → f.job ≡ Some (Copy v) → IsSpare sh f.positions e → NextKept sh f v plan.mark (Some left) → get_or f.fills e 0 < sh.rows
room-next sh f flash v e plan left sound some was copying spare next =
    room-left sh f flash v e left.row sound some (was.prepared.copies v e copying spare) next.0 (IsLeft.uncopied (IsLowestLeft.left (LowestLeft-next sh f v e plan.mark left copying spare was.marked next)))

-- a row has been copied
pub IsPlanOf-copied : (sh : Shape) (f : Fields) (flash then_flash : List (List ℕ)) (v e n q : ℕ) (plan then_plan : Plan) → Sound sh f flash → IsPlanOf sh f flash plan → f.job ≡ Some (Copy v) → IsSpare sh f.positions e → get_or f.fills e 0 ≡ n → n < sh.rows → q / sh.rows ≡ v → plan.mark ≤ q → ((p r : ℕ) → Names f p r → r / sh.rows ≡ v → plan.mark ≤ r → q ≤ r)
    → get_or then_flash (e * sh.rows + n) [] ≡ get_or flash q [] → ((r : ℕ) → r ≢ e * sh.rows + n → get_or then_flash r [] ≡ get_or flash r [])
    → then_plan.moves ≡ [] → then_plan.aside ≡ plan.aside → then_plan.mark ≡ q + 1
    → IsPlanOf sh (copied_to sh e n q f) then_flash then_plan
IsPlanOf-copied sh f flash then_flash v e n q plan then_plan sound was copying spare filled room here above lowest copy others no_moves same_aside then_mark = record {
  prepared = record {
    moves = λ w is. subst (λ (xs : List ℕ). All (λ (x : ℕ). x / sh.rows ≡ w) xs) (sym no_moves) (All-nil (λ (x : ℕ). x / sh.rows ≡ w));
    aside = λ w first last is at. was.prepared.aside w first last is (sym same_aside ∙ at);
    copies = λ w d is other. made w d is (one-spare sh f flash d e sound other spare);
  };
  marked = record {
    kept = λ w d p r is other names at lt. rw (one-spare sh f flash d e sound other spare, fill_is) (has p r names (at ∙ job_is w is) (omega (arith, then_mark, lt)) (cases_lt r plan.mark));
    copied = λ w d i is other lt. rw then_mark (below i (let count = ap (λ (x : ℕ). get_or (set f.fills e (n + 1)) x 0) (one-spare sh f flash d e sound other spare) ∙ fill_is in omega arith) (cases_eq i n));
  };
  switched = was.switched;
}
  where
    uncopied : (i : ℕ) → i < n → get_or f.origins i 0 ≢ q
    uncopied i lt is = let low = was.marked.copied v e i copying spare (omega (arith, filled, lt)) in absurd (omega arith)

    job_is : (w : ℕ) → f.job ≡ Some (Copy w) → w ≡ v
    job_is w is = let same : Some (Copy w) ≡ Some (Copy v) = sym is ∙ copying in cc

    target_segment : (e * sh.rows + n) / sh.rows ≡ e
    target_segment = div-mul-add e sh.rows n room

    -- rows of v are no rows of the spare
    elsewhere : (r : ℕ) → r / sh.rows ≡ v → r ≢ e * sh.rows + n
    elsewhere r at = λ same. apart-spare sh f.positions v (Jobs.copying sound.job v copying) (subst (λ (x : ℕ). IsSpare sh f.positions x) (sym target_segment ∙ ap (λ (x : ℕ). x / sh.rows) (sym same) ∙ at) spare)

    old : AreCopies sh f.fills f.backs f.origins flash v e
    old = was.prepared.copies v e copying spare

    fill_is : get_or (set f.fills e (n + 1)) e 0 ≡ n + 1
    fill_is = get_or-set_same f.fills e (n + 1) 0 (rw (Numbers.fills_long sound.numbers) spare.segment)

    origin_new : get_or (set f.origins n q) n 0 ≡ q
    origin_new = get_or-set_same f.origins n q 0 (rw (Numbers.origins_long sound.numbers) room)

    origin_old : (i : ℕ) → i ≢ n → get_or (set f.origins n q) i 0 ≡ get_or f.origins i 0
    origin_old i other = get_or-set_other f.origins n i q 0 other

    has : (p r : ℕ) → Names f p r → r / sh.rows ≡ v → r < q + 1 → (r < plan.mark) ⊎ (plan.mark ≤ r) → HasCopy (set f.origins n q) (n + 1) r
    has p r names at lt (inl low) =
        let before = was.marked.kept v e p r copying spare names at low in
        let small = before.1 in
        (before.0, (omega (arith, filled, small)), origin_old before.0 (λ same. absurd (omega (arith, filled, small, same))) ∙ before.2)
    has p r names at lt (inr high) =
        let level = lowest p r names at high in
        let is : q ≡ r = omega arith in
        (n, (omega arith), origin_new ∙ is)

    below : (i : ℕ) → i < n + 1 → (i ≡ n) ⊎ (i ≡ n → ⊥) → get_or (set f.origins n q) i 0 < q + 1
    below i lt (inl same) = let is = ap (λ (x : ℕ). get_or (set f.origins n q) x 0) same ∙ origin_new in omega arith
    below i lt (inr other) = let is = origin_old i other in let low = was.marked.copied v e i copying spare (omega (arith, filled)) in omega arith

    back_old : (r : ℕ) → r ≢ e * sh.rows + n → get_or (set f.backs (e * sh.rows + n) (get_or f.backs q 0)) r 0 ≡ get_or f.backs r 0
    back_old r other = get_or-set_other f.backs (e * sh.rows + n) r (get_or f.backs q 0) 0 other

    back_new : get_or (set f.backs (e * sh.rows + n) (get_or f.backs q 0)) (e * sh.rows + n) 0 ≡ get_or f.backs q 0
    back_new = get_or-set_same f.backs (e * sh.rows + n) (get_or f.backs q 0) 0 (rw (Numbers.backs_long sound.numbers) (let below = mul-add-lt e sh.rows n sh.segments spare.segment room in omega (arith, below)))

    each : (i : ℕ) → i < n + 1 → (i ≡ n) ⊎ (i ≡ n → ⊥) → IsCopy sh (set f.backs (e * sh.rows + n) (get_or f.backs q 0)) (set f.origins n q) then_flash v e i
    each i lt (inl same) = subst (λ (x : ℕ). IsCopy sh (set f.backs (e * sh.rows + n) (get_or f.backs q 0)) (set f.origins n q) then_flash v e x) (sym same) (record {
      row = ap (λ (x : ℕ). x / sh.rows) origin_new ∙ here;
      same = copy ∙ sym (others q (elsewhere q here)) ∙ ap (λ (x : ℕ). get_or then_flash x []) (sym origin_new);
      back = back_new ∙ sym (back_old q (elsewhere q here)) ∙ ap (λ (x : ℕ). get_or (set f.backs (e * sh.rows + n) (get_or f.backs q 0)) x 0) (sym origin_new);
    })
    each i lt (inr other) =
        let is : IsCopy sh f.backs f.origins flash v e i = AreCopies.each old i (omega arith) in
        let not_target : e * sh.rows + i ≢ e * sh.rows + n = λ same. other (omega arith) in
        let from : get_or f.origins i 0 ≢ e * sh.rows + n = elsewhere (get_or f.origins i 0) is.row in
        record {
          row = ap (λ (x : ℕ). x / sh.rows) (origin_old i other) ∙ is.row;
          same = others (e * sh.rows + i) not_target ∙ is.same ∙ sym (others (get_or f.origins i 0) from) ∙ ap (λ (x : ℕ). get_or then_flash x []) (sym (origin_old i other));
          back = back_old (e * sh.rows + i) not_target ∙ is.back ∙ sym (back_old (get_or f.origins i 0) from) ∙ ap (λ (x : ℕ). get_or (set f.backs (e * sh.rows + n) (get_or f.backs q 0)) x 0) (sym (origin_old i other));
        }

    apart : (i j : ℕ) → i < n + 1 → j < n + 1 → get_or (set f.origins n q) i 0 ≡ get_or (set f.origins n q) j 0 → (i ≡ n) ⊎ (i ≡ n → ⊥) → (j ≡ n) ⊎ (j ≡ n → ⊥) → i ≡ j
    apart i j lt less same (inl a) (inl b) = a ∙ sym b
    apart i j lt less same (inl a) (inr b) = absurd (uncopied j (omega arith) (sym (origin_old j b) ∙ sym same ∙ ap (λ (x : ℕ). get_or (set f.origins n q) x 0) a ∙ origin_new))
    apart i j lt less same (inr a) (inl b) = absurd (uncopied i (omega arith) (sym (origin_old i a) ∙ same ∙ ap (λ (x : ℕ). get_or (set f.origins n q) x 0) b ∙ origin_new))
    apart i j lt less same (inr a) (inr b) = AreCopies.apart old i j (omega arith) (omega arith) (sym (origin_old i a) ∙ same ∙ origin_old j b)

    made : (w d : ℕ) → f.job ≡ Some (Copy w) → d ≡ e → AreCopies sh (set f.fills e (n + 1)) (set f.backs (e * sh.rows + n) (get_or f.backs q 0)) (set f.origins n q) then_flash w d
    made w d is one =
        let same : Some (Copy w) ≡ Some (Copy v) = sym is ∙ copying in
        let seg : w ≡ v = cc in
        rw (one, seg) (record {
          each = λ i lt. let count = fill_is in each i (omega arith) (cases_eq i n);
          apart = λ i j lt less same. let count = fill_is in apart i j (omega arith) (omega arith) same (cases_eq i n) (cases_eq j n);
        })

pub Plan-copied : (old new : Chart) (v e : ℕ) (left : Left) (plan then_plan : Plan) → IsSound old → 0 < old.shape.rows → IsPlanOf old.shape old.fields old.flash plan → old.fields.job ≡ Some (Copy v) → IsSpare old.shape old.fields.positions e → NextKept old.shape old.fields v plan.mark (Some left) → new.shape ≡ old.shape → CopiesLeft old e left.row new → then_plan.moves ≡ [] → then_plan.aside ≡ plan.aside → then_plan.mark ≡ left.row + 1 → IsPlanOf new.shape new.fields new.flash then_plan
Plan-copied old new v e left plan then_plan sound some was copying spare next shape copied no_moves aside then_mark =
    let room = room-next old.shape old.fields old.flash v e plan left sound some was copying spare next in
    subst (λ (sh : Shape). IsPlanOf sh new.fields new.flash then_plan) (sym shape)
    (subst (λ (f : Fields). IsPlanOf old.shape f new.flash then_plan) (sym (CopiesLeft.fields copied))
    (IsPlanOf-copied old.shape old.fields old.flash new.flash v e (get_or old.fields.fills e 0) left.row plan then_plan sound was copying spare refl room next.0 next.1 next.5 (CopiesLeft.copy copied) (CopiesLeft.others copied) no_moves aside then_mark))

-- the spare holds a copy of each kept row of the segment
pub CopiedWhole-made : (sh : Shape) (f : Fields) (flash : List (List ℕ)) (v e : ℕ) → Sound sh f flash → f.job ≡ Some (Copy v) → IsSpare sh f.positions e → AreCopies sh f.fills f.backs f.origins flash v e → AreAllCopied sh f v (get_or f.fills e 0) → IsCopiedWhole sh f flash v
CopiedWhole-made sh f flash v e sound copying spare copies all d other = at d other (one-spare sh f flash d e sound other spare)
  where
    at : (d : ℕ) → IsSpare sh f.positions d → d ≡ e → Layout.Copies sh f.slots f.undos f.places f.fills f.backs f.origins flash v d
    at d other same = rw same (record {
      rows = λ i lt. IsCopy.row (AreCopies.each copies i lt);
      apart = AreCopies.apart copies;
      all = λ p q names here. all p q names here;
      same = λ p i lt names. IsCopy.same (AreCopies.each copies i lt);
      backs_same = λ p i lt names. IsCopy.back (AreCopies.each copies i lt);
      once = λ p r i lt copy origin. apart-spare sh f.positions e (subst (λ (s : ℕ). IsPlaced sh f.positions s) (copy-segment sh f flash e i sound lt) (AreHome-copying sh f flash v sound copying p (e * sh.rows + i) copy)) spare;
    })

-- the row of the spare that was claimed for the copy of row r
pub claims-row : (old mid claimed : Chart) (e n q p r : ℕ) → mid ≡ with_fields old (with_origin n r old.fields) → Claims mid e p q claimed → q ≡ e * old.shape.rows + get_or old.fields.fills e 0
claims-row old mid claimed e n q p r noted claims = claims.row ∙ ap (λ (x : Chart). e * x.shape.rows + get_or x.fields.fills e 0) noted

-- its origin was noted, then it was claimed, and a program left all others
pub ClaimsCopy-made : (old mid claimed new : Chart) (e n q p r k m : ℕ) → mid ≡ with_fields old (with_origin n r old.fields) → n ≡ get_or old.fields.fills e 0 → Claims mid e p q claimed → get_or old.fields.backs r 0 ≡ p → new.fields ≡ claimed.fields → ((x : ℕ) → x ≢ q → get_or new.flash x [] ≡ get_or claimed.flash x []) → m ≡ up k → ClaimsCopy old e r k new m
ClaimsCopy-made old mid claimed new e n q p r k m noted fill claims page fields others counted =
    let f = old.fields in
    let i = get_or f.fills e 0 in
    let row = claims-row old mid claimed e n q p r noted claims in
    record {
      fields = fields ∙ ap (λ (x : Chart). x.fields) claims.fields
          ∙ ap (λ (x : Chart). with_fill e (get_or x.fields.fills e 0 + 1) (with_back q p x.fields)) noted
          ∙ ap (λ (y : ℕ). with_fill e (i + 1) (with_back y p (with_origin n r f))) row
          ∙ ap (λ (y : ℕ). with_fill e (i + 1) (with_back (e * old.shape.rows + i) y (with_origin n r f))) (sym page)
          ∙ ap (λ (y : ℕ). with_fill e (i + 1) (with_back (e * old.shape.rows + i) (get_or f.backs r 0) (with_origin y r f))) fill;
      others = λ x other. others x (λ is. other (is ∙ row)) ∙ ap (λ (y : Chart). get_or y.flash x []) claims.fields ∙ ap (λ (y : Chart). get_or y.flash x []) noted;
      counted = counted;
    }

-- Rows that go to another position.
use Rattle.std.proofs.Common.{◌≡◌, ◌≢◌, ◌⊎◌, inl, inr, ℕ, ◌+◌, ◌*◌, ◌/◌, ◌%◌, ◌<◌, List, [], ◌∷◌, ◌++◌, length, get_or, set, Option, Some, None, refl, sym, ◌∙◌, ap, subst, arith, append_assoc}
use Rattle.std.specs.Prelude.{All}
use Rattle.std.specs.List.{remove}
use Rattle.std.proofs.lemmas.List.{get_or-set_other}
use Rattle.std.proofs.lemmas.List.Elements.{All-append, All-cons, All-nil}
use Rattle.std.proofs.lemmas.Nat.{div-mul-add, mul-add-lt}
use Rattle.envy_base.specs.declared.shape.Shape.{Shape}
use Rattle.envy_base.specs.declared.fields.Job.TheVariants.{Copy, Switch}
use Rattle.envy_map.specs.Fields.{Fields, Chart}
use Rattle.envy_map.specs.Writes.{with_back, with_fill}
use Rattle.envy_soundness.specs.Naming.{with_named}
use Rattle.envy_soundness.specs.Sound.{Numbers, Sound, IsSound, IsKept, Names, IsPlaced, IsSpare}
use Rattle.envy_soundness.proofs.NamingLemmas.{Names-into, named-page, job-named, positions-named, fills-named, backs-named, origins-named}
use Rattle.envy_soundness.proofs.References.{apart-spare}
use Rattle.envy_reloc.specs.declared.row_move.Move.{Move}
use Rattle.envy_reloc.specs.Phases.{MovesRow, moved_to}
use Rattle.envy_reloc.specs.Plan.{Plan, IsPlanOf, IsCopy, AreCopies, HasCopy}

-- the first of some numbers is taken
pub first-taken : (xs : List ℕ) (d : ℕ) → 0 < length xs → xs ≡ get_or xs 0 d ∷ remove xs 0
first-taken [] d lt = absurd (omega arith)
first-taken (x ∷ xs) d lt = refl

pub row-range : (sh : Shape) (q s : ℕ) → 0 < sh.rows → q / sh.rows ≡ s → s < sh.segments → q < sh.segments * sh.rows
row-range sh q s some is lt =
    let low : q % sh.rows < sh.rows = omega arith in
    let below = mul-add-lt s sh.rows (q % sh.rows) sh.segments lt low in
    let same : q ≡ s * sh.rows + q % sh.rows = rw (← is) (omega arith) in
    omega (arith, below)

-- one more is dropped
pub dropped-more : (f : Fields) (all xs ys rest : List ℕ) (q : ℕ) → all ≡ xs ++ ys → ys ≡ q ∷ rest → All (λ (r : ℕ). IsKept f r → ⊥) xs → (IsKept f q → ⊥) → (zs : List ℕ) × (all ≡ zs ++ rest) × All (λ (r : ℕ). IsKept f r → ⊥) zs
dropped-more f all xs ys rest q is here dead unkept = (
  xs ++ q ∷ [],
  is ∙ ap (λ (l : List ℕ). xs ++ l) here ∙ sym (append_assoc xs (q ∷ []) rest),
  All-append (λ (r : ℕ). IsKept f r → ⊥) xs (q ∷ []) dead (All-cons (λ (r : ℕ). IsKept f r → ⊥) q [] unkept (All-nil (λ (r : ℕ). IsKept f r → ⊥))),
)

-- the names of a map in which a row was claimed before the page came to name it
pub names-moved : (sh : Shape) (f : Fields) (s p r o x : ℕ) (u : Option ℕ) → Names (moved_to sh s p r u f) o x → Names (with_named p r u f) o x
names-moved sh f s p r o x None names = names
names-moved sh f s p r o x (Some t) names = names

-- a row has gone to segment s at a position, which isn't the one that is copied
pub Plan-moved : (old new : Chart) (v s : ℕ) (next : Move) (plan then_plan : Plan) → IsSound old → IsPlanOf old.shape old.fields old.flash plan → old.fields.job ≡ Some (Copy v) → s ≢ v → IsPlaced old.shape old.fields.positions s → get_or old.fields.fills s 0 < old.shape.rows → new.shape ≡ old.shape → MovesRow old s next new → then_plan.moves ≡ plan.moves → then_plan.aside ≡ plan.aside → then_plan.mark ≡ plan.mark → IsPlanOf new.shape new.fields new.flash then_plan
Plan-moved old new v s next plan then_plan sound was copying other placed room shape moved same_moves same_aside same_mark =
    subst (λ (sh : Shape). IsPlanOf sh new.fields new.flash then_plan) (sym shape) (record {
      prepared = record {
        moves = λ w is. subst (λ (xs : List ℕ). All (λ (q : ℕ). q / old.shape.rows ≡ w) xs) (sym same_moves) (was.prepared.moves w (sym job ∙ is));
        aside = λ w first last is at. was.prepared.aside w first last (sym job ∙ is) (sym same_aside ∙ at);
        copies = λ w e is spare. copies w e (sym job ∙ is) (subst (λ (xs : List ℕ). IsSpare old.shape xs e) positions spare);
      };
      marked = record {
        kept = λ w e p q is spare names at lt. has w e p q (sym job ∙ is) (subst (λ (xs : List ℕ). IsSpare old.shape xs e) positions spare) at (subst (λ (n : ℕ). q < n) same_mark lt) (was_named p q names);
        copied = λ w e i is spare lt.
            let before = subst (λ (xs : List ℕ). IsSpare old.shape xs e) positions spare in
            let level = same_fill w e (sym job ∙ is) before in
            let low = was.marked.copied w e i (sym job ∙ is) before (omega arith) in
            let from = ap (λ (xs : List ℕ). get_or xs i 0) origins in
            omega (arith, same_mark);
      };
      switched = record {
        placed = λ w is. absurd (let clash : Some (Copy v) ≡ Some (Switch w) = sym copying ∙ sym job ∙ is in cc);
        clear = λ w p q is names. absurd (let clash : Some (Copy v) ≡ Some (Switch w) = sym copying ∙ sym job ∙ is in cc);
      };
    })
  where
    job : new.fields.job ≡ old.fields.job
    job = ap (λ (x : Fields). x.job) (MovesRow.fields moved) ∙ job-named (with_fill s (get_or old.fields.fills s 0 + 1) (with_back (s * old.shape.rows + get_or old.fields.fills s 0) next.kept.page old.fields)) next.kept.page (s * old.shape.rows + get_or old.fields.fills s 0) next.kept.undo

    positions : new.fields.positions ≡ old.fields.positions
    positions = ap (λ (x : Fields). x.positions) (MovesRow.fields moved) ∙ positions-named (with_fill s (get_or old.fields.fills s 0 + 1) (with_back (s * old.shape.rows + get_or old.fields.fills s 0) next.kept.page old.fields)) next.kept.page (s * old.shape.rows + get_or old.fields.fills s 0) next.kept.undo

    fills : new.fields.fills ≡ set old.fields.fills s (get_or old.fields.fills s 0 + 1)
    fills = ap (λ (x : Fields). x.fills) (MovesRow.fields moved) ∙ fills-named (with_fill s (get_or old.fields.fills s 0 + 1) (with_back (s * old.shape.rows + get_or old.fields.fills s 0) next.kept.page old.fields)) next.kept.page (s * old.shape.rows + get_or old.fields.fills s 0) next.kept.undo

    backs : new.fields.backs ≡ set old.fields.backs (s * old.shape.rows + get_or old.fields.fills s 0) next.kept.page
    backs = ap (λ (x : Fields). x.backs) (MovesRow.fields moved) ∙ backs-named (with_fill s (get_or old.fields.fills s 0 + 1) (with_back (s * old.shape.rows + get_or old.fields.fills s 0) next.kept.page old.fields)) next.kept.page (s * old.shape.rows + get_or old.fields.fills s 0) next.kept.undo

    origins : new.fields.origins ≡ old.fields.origins
    origins = ap (λ (x : Fields). x.origins) (MovesRow.fields moved) ∙ origins-named (with_fill s (get_or old.fields.fills s 0 + 1) (with_back (s * old.shape.rows + get_or old.fields.fills s 0) next.kept.page old.fields)) next.kept.page (s * old.shape.rows + get_or old.fields.fills s 0) next.kept.undo

    target : (s * old.shape.rows + get_or old.fields.fills s 0) / old.shape.rows ≡ s
    target = div-mul-add s old.shape.rows (get_or old.fields.fills s 0) room

    was_named : (o x : ℕ) → Names new.fields o x → Names old.fields o x ⊎ ((o ≡ next.kept.page) × (x ≡ s * old.shape.rows + get_or old.fields.fills s 0))
    was_named o x names =
        Names-into old.shape old.fields old.flash next.kept.page next.row (s * old.shape.rows + get_or old.fields.fills s 0) o x next.kept.undo sound (named-page old.shape old.fields old.flash next.kept.page next.row next.kept.undo sound (MovesRow.named moved)) (MovesRow.named moved)
        (names-moved old.shape old.fields s next.kept.page (s * old.shape.rows + get_or old.fields.fills s 0) o x next.kept.undo (subst (λ (g : Fields). Names g o x) (MovesRow.fields moved) names))

    job_is : (w : ℕ) → old.fields.job ≡ Some (Copy w) → w ≡ v
    job_is w is = let one : Some (Copy w) ≡ Some (Copy v) = sym is ∙ copying in cc

    same_fill : (w e : ℕ) → old.fields.job ≡ Some (Copy w) → IsSpare old.shape old.fields.positions e → get_or new.fields.fills e 0 ≡ get_or old.fields.fills e 0
    same_fill w e is spare =
        ap (λ (xs : List ℕ). get_or xs e 0) fills
        ∙ get_or-set_other old.fields.fills s e (get_or old.fields.fills s 0 + 1) 0 (λ same. apart-spare old.shape old.fields.positions s placed (subst (λ (x : ℕ). IsSpare old.shape old.fields.positions x) same spare))

    has : (w e p q : ℕ) → old.fields.job ≡ Some (Copy w) → IsSpare old.shape old.fields.positions e → q / old.shape.rows ≡ w → q < plan.mark → Names old.fields p q ⊎ ((p ≡ next.kept.page) × (q ≡ s * old.shape.rows + get_or old.fields.fills s 0)) → HasCopy new.fields.origins (get_or new.fields.fills e 0) q
    has w e p q is spare at lt (inl names) =
        let before = was.marked.kept w e p q is spare names at lt in
        let level = same_fill w e is spare in
        let small = before.1 in
        (before.0, (omega arith), ap (λ (xs : List ℕ). get_or xs before.0 0) origins ∙ before.2)
    has w e p q is spare at lt (inr (page, row)) = absurd (other (sym target ∙ ap (λ (x : ℕ). x / old.shape.rows) (sym row) ∙ at ∙ job_is w is))

    apart : (r t : ℕ) → r / old.shape.rows ≡ t → t ≢ s → r ≢ s * old.shape.rows + get_or old.fields.fills s 0
    apart r t is differ = λ same. differ (sym is ∙ ap (λ (x : ℕ). x / old.shape.rows) same ∙ target)

    copies : (w e : ℕ) → old.fields.job ≡ Some (Copy w) → IsSpare old.shape old.fields.positions e → AreCopies old.shape new.fields.fills new.fields.backs new.fields.origins new.flash w e
    copies w e is spare = rw (fills, backs, origins) (record {
      each = λ i lt.
          let low : i < get_or old.fields.fills e 0 = rw (← fill) lt in
          let copy : IsCopy old.shape old.fields.backs old.fields.origins old.flash w e i = AreCopies.each all i low in
          let row_other = apart (get_or old.fields.origins i 0) w (IsCopy.row copy) differ in
          let fits = Numbers.fills_fit (Sound.numbers sound) e in
          let copy_other = apart (e * old.shape.rows + i) e (div-mul-add e old.shape.rows i (omega arith)) not_spare in
          record {
            row = IsCopy.row copy;
            same = MovesRow.others moved (e * old.shape.rows + i) copy_other ∙ IsCopy.same copy ∙ sym (MovesRow.others moved (get_or old.fields.origins i 0) row_other);
            back = get_or-set_other old.fields.backs (s * old.shape.rows + get_or old.fields.fills s 0) (e * old.shape.rows + i) next.kept.page 0 copy_other ∙ IsCopy.back copy
                ∙ sym (get_or-set_other old.fields.backs (s * old.shape.rows + get_or old.fields.fills s 0) (get_or old.fields.origins i 0) next.kept.page 0 row_other);
          };
      apart = λ i j lt less same. AreCopies.apart all i j (rw (← fill) lt) (rw (← fill) less) same;
    })
      where
        all : AreCopies old.shape old.fields.fills old.fields.backs old.fields.origins old.flash w e
        all = was.prepared.copies w e is spare

        not_spare : e ≢ s
        not_spare same = apart-spare old.shape old.fields.positions s placed (subst (λ (x : ℕ). IsSpare old.shape old.fields.positions x) same spare)

        differ : w ≢ s
        differ same = other (let one : Some (Copy w) ≡ Some (Copy v) = sym is ∙ copying in let at : w ≡ v = cc in sym same ∙ at)

        fill : get_or (set old.fields.fills s (get_or old.fields.fills s 0 + 1)) e 0 ≡ get_or old.fields.fills e 0
        fill = get_or-set_other old.fields.fills s e (get_or old.fields.fills s 0 + 1) 0 not_spare

-- all were dropped
pub none-left : (f : Fields) (all xs ys : List ℕ) → all ≡ xs ++ ys → length ys ≡ 0 → All (λ (r : ℕ). IsKept f r → ⊥) xs → All (λ (r : ℕ). IsKept f r → ⊥) all × (ys ≡ [])
none-left f all xs [] is long dead = (subst (λ (l : List ℕ). All (λ (r : ℕ). IsKept f r → ⊥) l) (sym is) (All-append (λ (r : ℕ). IsKept f r → ⊥) xs [] dead (All-nil (λ (r : ℕ). IsKept f r → ⊥))), refl)
none-left f all xs (y ∷ ys) is long dead = absurd (omega arith)

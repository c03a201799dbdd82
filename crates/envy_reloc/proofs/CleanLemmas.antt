-- A relocation of a segment with a dead row, step by step.
use Rattle.std.proofs.Common.{◌≡◌, ◌≢◌, ◌⊎◌, inl, inr, ℕ, ◌+◌, ◌*◌, ◌/◌, ◌<◌, List, length, get_or, set, Option, Some, refl, sym, ◌∙◌, ap, subst, arith}
use Rattle.std.proofs.lemmas.Bool.{cases_eq}
use Rattle.std.proofs.lemmas.List.{get_or-set_same, get_or-set_other}
use Rattle.envy_base.specs.Counting.{up}
use Rattle.envy_base.specs.Shape.{IsShape, positions_of}
use Rattle.envy_base.specs.declared.fields.Job.{Job}
use Rattle.envy_base.specs.declared.fields.Job.TheVariants.{Idle, Copy, Switch, Erase}
use Rattle.envy_base.specs.declared.shape.Shape.{Shape}
use Rattle.envy_map.specs.Fields.{Fields, Chart, with_fields}
use Rattle.envy_map.specs.Writes.{with_back, with_fill, with_job}
use Rattle.envy_soundness.specs.Sound.{Sound, IsSound, IsPlaced, IsSpare, Names, Numbers, Blanks}
use Rattle.envy_soundness.proofs.NamingLemmas.{Names-into, named-page, job-named, fills-named, positions-named, origins-named}
use Rattle.envy_soundness.proofs.References.{apart-spare, row-of}
use Rattle.envy_soundness.proofs.SpareLemmas.{one-spare, some-spare}
use Rattle.envy_space.specs.Pool.{Pool, PoolAgrees, IsPoolOf}
use Rattle.envy_space.specs.Retiring.{IsFresh}
use Rattle.envy_reloc.specs.declared.step.Phase.{Phase}
use Rattle.envy_reloc.specs.declared.step.Phase.TheVariants.{Moved, Copied, Switched, Placed, Erased}
use Rattle.envy_reloc.specs.Cleaning.{IsSkipped, UsesSame, CleansBy, Cleans}
use Rattle.envy_reloc.specs.Phases.{Does, MovesOne, MovesRow, CopiesOne, CopiesLeft, SwitchesSegment, PlacesSpare, ErasesSpare, Empties, Retires, moved_to, copied_to}
use Rattle.envy_reloc.specs.Plan.{Plan, IsPlanOf}
use Rattle.envy_reloc.specs.Rows.{HasRoom, IsLowestRoom, IsLowestLeft, IsLeft}
use Rattle.envy_reloc.specs.Switching.{SwitchesAll}
use Rattle.envy_reloc.proofs.CopyLemmas.{room-left}
use Rattle.envy_reloc.proofs.MoveLemmas.{names-moved}

pub by-job : (sh : Shape) (k e v d : ℕ) (ps : List ℕ) (n : ℕ) (j : Job) (f : Fields) (m : ℕ) → f.job ≡ Some j → CleansBy sh k e v d ps n f.job f m → CleansBy sh k e v d ps n (Some j) f m
by-job sh k e v d ps n j f m is a = subst (λ (x : Option Job). CleansBy sh k e v d ps n x f m) is a

to-job : (sh : Shape) (k e v d : ℕ) (ps : List ℕ) (n : ℕ) (j : Job) (f : Fields) (m : ℕ) → f.job ≡ Some j → CleansBy sh k e v d ps n (Some j) f m → CleansBy sh k e v d ps n f.job f m
to-job sh k e v d ps n j f m is a = subst (λ (x : Option Job). CleansBy sh k e v d ps n x f m) (sym is) a

with-at : (sh : Shape) (ps : List ℕ) (k n : ℕ) (f g : Fields) (m m2 : ℕ) → (a : Cleans sh ps k n f m) → CleansBy sh k a.e a.v a.d ps n g.job g m2 → Cleans sh ps k n g m2
with-at sh ps k n f g m m2 a at = record { e = a.e; v = a.v; d = a.d; low = a.low; long = a.long; here = a.here; spare = a.spare; row = a.row; at = at }

cleans-moved : (old new : Chart) (p q : Plan) (sh : Shape) (ps : List ℕ) (k n : ℕ) → sh ≡ old.shape → IsSound old → IsPlanOf old.shape old.fields old.flash p → MovesOne old p new q → Cleans sh ps k n old.fields p.erased → Cleans sh ps k n new.fields q.erased
cleans-moved old new p q sh ps k n same sound agrees m a =
    with-at sh ps k n old.fields new.fields p.erased q.erased a (to-job sh k a.e a.v a.d ps n (Copy m.v) new.fields q.erased job (was.0, order ∙ was.1, counted ∙ was.2, skipped))
  where
    f : Fields
    f = old.fields

    was : (m.v ≡ a.v) × (old.fields.positions ≡ ps) × (p.erased ≡ n) × IsSkipped a.e a.d old.fields
    was = by-job sh k a.e a.v a.d ps n (Copy m.v) old.fields p.erased m.copying a.at

    s : ℕ
    s = get_or old.fields.positions m.next.position 0

    r : ℕ
    r = s * old.shape.rows + get_or old.fields.fills s 0

    fields : new.fields ≡ moved_to old.shape s m.next.kept.page r m.next.kept.undo old.fields
    fields = MovesRow.fields m.moved

    inside : Fields
    inside = with_fill s (get_or old.fields.fills s 0 + 1) (with_back r m.next.kept.page old.fields)

    job : new.fields.job ≡ Some (Copy m.v)
    job = ap (λ (g : Fields). g.job) fields ∙ job-named inside m.next.kept.page r m.next.kept.undo ∙ m.copying

    order : new.fields.positions ≡ old.fields.positions
    order = ap (λ (g : Fields). g.positions) fields ∙ positions-named inside m.next.kept.page r m.next.kept.undo

    level : new.fields.fills ≡ set old.fields.fills s (get_or old.fields.fills s 0 + 1)
    level = ap (λ (g : Fields). g.fills) fields ∙ fills-named inside m.next.kept.page r m.next.kept.undo

    first : new.fields.origins ≡ old.fields.origins
    first = ap (λ (g : Fields). g.origins) fields ∙ origins-named inside m.next.kept.page r m.next.kept.undo

    counted : q.erased ≡ p.erased
    counted = ap (λ (y : Plan). y.erased) m.plan_is

    spare : IsSpare old.shape old.fields.positions a.e
    spare = subst (λ (z : Shape). IsSpare z old.fields.positions a.e) same (subst (λ (xs : List ℕ). IsSpare sh xs a.e) (sym was.1) a.spare)

    other : a.e ≢ s
    other is =
        let bound = agrees.prepared.aside m.v m.first m.last m.copying m.aside in
        let low = bound.1 in let below = IsLowestRoom.below m.lowest in
        let placed : IsPlaced old.shape old.fields.positions s = (m.next.position, omega arith, refl) in
        apart-spare old.shape old.fields.positions s placed (subst (λ (x : ℕ). IsSpare old.shape old.fields.positions x) is spare)

    stays : get_or new.fields.fills a.e 0 ≡ get_or old.fields.fills a.e 0
    stays = ap (λ (xs : List ℕ). get_or xs a.e 0) level ∙ get_or-set_other old.fields.fills s a.e (get_or old.fields.fills s 0 + 1) 0 other

    elsewhere : a.d ≢ r
    elsewhere is =
        let room = HasRoom.room (IsLowestRoom.has m.lowest) in
        HasRoom.other (IsLowestRoom.has m.lowest) (sym (row-of old.shape.rows s (get_or old.fields.fills s 0) room).0 ∙ ap (λ (x : ℕ). x / old.shape.rows) (sym is) ∙ ap (λ (z : Shape). a.d / z.rows) (sym same) ∙ a.row ∙ sym was.0)

    skipped : IsSkipped a.e a.d new.fields
    skipped = record {
      dead = λ o names. dead o (Names-into old.shape old.fields old.flash m.next.kept.page m.next.row r o a.d m.next.kept.undo sound (named-page old.shape old.fields old.flash m.next.kept.page m.next.row m.next.kept.undo sound (MovesRow.named m.moved)) (MovesRow.named m.moved) (names-moved old.shape old.fields s m.next.kept.page r o a.d m.next.kept.undo (subst (λ (g : Fields). Names g o a.d) fields names)));
      apart = λ i lt is. was.3.apart i (rw (← stays) lt) (ap (λ (xs : List ℕ). get_or xs i 0) (sym first) ∙ is);
    }
      where
        dead : (o : ℕ) → Names old.fields o a.d ⊎ ((o ≡ m.next.kept.page) × (a.d ≡ r)) → ⊥
        dead o (inl named) = was.3.dead o named
        dead o (inr (page, is)) = elsewhere is

cleans-copied : (old new : Chart) (p q : Plan) (sh : Shape) (ps : List ℕ) (k n : ℕ) → sh ≡ old.shape → IsSound old → 0 < old.shape.rows → IsPlanOf old.shape old.fields old.flash p → CopiesOne old p new q → Cleans sh ps k n old.fields p.erased → Cleans sh ps k n new.fields q.erased
cleans-copied old new p q sh ps k n same sound some agrees m a =
    with-at sh ps k n old.fields new.fields p.erased q.erased a (to-job sh k a.e a.v a.d ps n (Copy m.v) new.fields q.erased (ap (λ (g : Fields). g.job) fields ∙ m.copying) (was.0, ap (λ (g : Fields). g.positions) fields ∙ was.1, ap (λ (y : Plan). y.erased) m.plan_is ∙ was.2, skipped))
  where
    was : (m.v ≡ a.v) × (old.fields.positions ≡ ps) × (p.erased ≡ n) × IsSkipped a.e a.d old.fields
    was = by-job sh k a.e a.v a.d ps n (Copy m.v) old.fields p.erased m.copying a.at

    i : ℕ
    i = get_or old.fields.fills m.e 0

    fields : new.fields ≡ copied_to old.shape m.e i m.q old.fields
    fields = CopiesLeft.fields m.copied

    spare : IsSpare old.shape old.fields.positions a.e
    spare = subst (λ (z : Shape). IsSpare z old.fields.positions a.e) same (subst (λ (xs : List ℕ). IsSpare sh xs a.e) (sym was.1) a.spare)

    one : a.e ≡ m.e
    one = one-spare old.shape old.fields old.flash a.e m.e sound spare m.spare

    room : get_or old.fields.fills m.e 0 < old.shape.rows
    room = room-left old.shape old.fields old.flash m.v m.e m.q sound some (agrees.prepared.copies m.v m.e m.copying m.spare) (IsLowestLeft.segment m.lowest) (IsLeft.uncopied (IsLowestLeft.left m.lowest))

    level : get_or new.fields.fills a.e 0 ≡ i + 1
    level = ap (λ (g : Fields). get_or g.fills a.e 0) fields ∙ ap (λ (x : ℕ). get_or (set old.fields.fills m.e (i + 1)) x 0) one ∙ get_or-set_same old.fields.fills m.e (i + 1) 0 (let low = IsSpare.segment m.spare in let long = Numbers.fills_long (Sound.numbers sound) in omega arith)

    long : i < length old.fields.origins
    long = let r = room in let l = Numbers.origins_long (Sound.numbers sound) in omega arith

    skipped : IsSkipped a.e a.d new.fields
    skipped = record {
      dead = λ o names. was.3.dead o (subst (λ (g : Fields). Names g o a.d) fields names);
      apart = λ j lt is. apart j (rw level at lt) (sym (ap (λ (g : Fields). get_or g.origins j 0) fields) ∙ is) (cases_eq j i);
    }
      where
        apart : (j : ℕ) → j < i + 1 → get_or (set old.fields.origins i m.q) j 0 ≡ a.d → (j ≡ i) ⊎ (j ≡ i → ⊥) → ⊥
        apart j lt is (inl at) =
            let row : m.q ≡ a.d = sym (get_or-set_same old.fields.origins i m.q 0 long) ∙ ap (λ (x : ℕ). get_or (set old.fields.origins i m.q) x 0) (sym at) ∙ is in
            let kept = IsLeft.kept (IsLowestLeft.left m.lowest) in
            was.3.dead kept.0 (subst (λ (x : ℕ). Names old.fields kept.0 x) row kept.1)
        apart j lt is (inr other) = was.3.apart j (subst (λ (x : ℕ). j < get_or old.fields.fills x 0) (sym one) (omega arith)) (sym (get_or-set_other old.fields.origins i j m.q 0 other) ∙ is)

cleans-switched : (old new : Chart) (p q : Plan) (sh : Shape) (ps : List ℕ) (k n : ℕ) → sh ≡ old.shape → IsSound old → 0 < old.shape.rows → IsPlanOf old.shape old.fields old.flash p → SwitchesSegment old p new q → Cleans sh ps k n old.fields p.erased → Cleans sh ps k n new.fields q.erased
cleans-switched old new p q sh ps k n same sound some agrees m a =
    with-at sh ps k n old.fields new.fields p.erased q.erased a (to-job sh k a.e a.v a.d ps n (Switch m.v) new.fields q.erased (ap (λ (g : Fields). g.job) fields) (was.0, ap (λ (g : Fields). g.positions) fields ∙ was.1, ap (λ (y : Plan). y.erased) m.plan_is ∙ was.2, room))
  where
    was : (m.v ≡ a.v) × (old.fields.positions ≡ ps) × (p.erased ≡ n) × IsSkipped a.e a.d old.fields
    was = by-job sh k a.e a.v a.d ps n (Copy m.v) old.fields p.erased m.copying a.at

    fields : new.fields ≡ record old.fields { job = Some (Switch m.v); places = new.fields.places; undos = new.fields.undos }
    fields = SwitchesAll.fields m.switches

    spare : IsSpare old.shape old.fields.positions a.e
    spare = subst (λ (z : Shape). IsSpare z old.fields.positions a.e) same (subst (λ (xs : List ℕ). IsSpare sh xs a.e) (sym was.1) a.spare)

    room : get_or new.fields.fills a.e 0 < sh.rows
    room = rw (ap (λ (g : Fields). get_or g.fills a.e 0) fields, same) (room-left old.shape old.fields old.flash m.v a.e a.d sound some (agrees.prepared.copies m.v a.e m.copying spare) (ap (λ (z : Shape). a.d / z.rows) (sym same) ∙ a.row ∙ sym was.0) was.3.apart)

cleans-placed : (old new : Chart) (p q : Plan) (sh : Shape) (ps : List ℕ) (k n : ℕ) → sh ≡ old.shape → IsSound old → PlacesSpare old p new q → Cleans sh ps k n old.fields p.erased → Cleans sh ps k n new.fields q.erased
cleans-placed old new p q sh ps k n same sound m a =
    with-at sh ps k n old.fields new.fields p.erased q.erased a (to-job sh k a.e a.v a.d ps n Erase new.fields q.erased (ap (λ (c : Chart). c.fields.job) m.is) (order, ap (λ (y : Plan). y.erased) m.plan_is ∙ was.2, rw (ap (λ (c : Chart). get_or c.fields.fills a.e 0) m.is) was.3))
  where
    was : (m.v ≡ a.v) × (old.fields.positions ≡ ps) × (p.erased ≡ n) × (get_or old.fields.fills a.e 0 < sh.rows)
    was = by-job sh k a.e a.v a.d ps n (Switch m.v) old.fields p.erased m.switching a.at

    spare : IsSpare old.shape old.fields.positions a.e
    spare = subst (λ (z : Shape). IsSpare z old.fields.positions a.e) same (subst (λ (xs : List ℕ). IsSpare sh xs a.e) (sym was.1) a.spare)

    one : m.e ≡ a.e
    one = one-spare old.shape old.fields old.flash m.e a.e sound m.spare spare

    here : m.k ≡ k
    here = Numbers.apart (Sound.numbers sound) m.k k (omega (arith, m.position)) (omega (arith, subst (λ (z : Shape). k < positions_of z) same a.low)) (m.here ∙ was.0 ∙ sym a.here ∙ ap (λ (xs : List ℕ). get_or xs k 0) (sym was.1))

    order : new.fields.positions ≡ set ps k a.e
    order = ap (λ (c : Chart). c.fields.positions) m.is ∙ ap (λ (x : ℕ). set old.fields.positions x m.e) here ∙ ap (λ (x : ℕ). set old.fields.positions k x) one ∙ ap (λ (xs : List ℕ). set xs k a.e) was.1

cleans-erased : (old new : Chart) (p q : Plan) (sh : Shape) (ps : List ℕ) (k n : ℕ) → sh ≡ old.shape → IsSound old → ErasesSpare old p new q → Cleans sh ps k n old.fields p.erased → Cleans sh ps k n new.fields q.erased
cleans-erased old new p q sh ps k n same sound m a = at m.ends
  where
    was : (old.fields.positions ≡ set ps k a.e) × (p.erased ≡ n) × (get_or old.fields.fills a.e 0 < sh.rows)
    was = by-job sh k a.e a.v a.d ps n Erase old.fields p.erased m.erasing a.at

    at_k : get_or old.fields.positions k 0 ≡ a.e
    at_k = ap (λ (xs : List ℕ). get_or xs k 0) was.0 ∙ get_or-set_same ps k a.e 0 (let l = a.long in let low = a.low in omega arith)

    other : a.e ≢ m.e
    other is = IsSpare.nowhere m.spare k (omega (arith, subst (λ (z : Shape). k < positions_of z) same a.low)) (at_k ∙ is)

    ended : new.fields.job ≡ Some Idle → UsesSame sh new.fields.positions old.fields.positions → get_or new.fields.fills a.e 0 ≡ get_or old.fields.fills a.e 0 → Cleans sh ps k n new.fields q.erased
    ended idle uses level =
        with-at sh ps k n old.fields new.fields p.erased q.erased a (to-job sh k a.e a.v a.d ps n Idle new.fields q.erased idle (λ j low. uses j low ∙ ap (λ (xs : List ℕ). get_or xs j 0) was.0, ap (λ (y : Plan). y.erased) m.plan_is ∙ ap up was.1, rw level was.2))

    at : Empties old m.e new ⊎ Retires old m.e new → Cleans sh ps k n new.fields q.erased
    at (inl x) =
        ended (ap (λ (g : Fields). g.job) x.fields) (λ j low. ap (λ (g : Fields). get_or g.positions j 0) x.fields)
        (ap (λ (g : Fields). get_or g.fills a.e 0) x.fields ∙ get_or-set_other old.fields.fills m.e a.e 0 0 other)
    at (inr x) =
        ended (ap (λ (g : Fields). g.job) x.fields)
        (λ j low. ap (λ (g : Fields). get_or g.positions j 0) x.fields ∙ get_or-set_other old.fields.positions x.k j m.e 0 (λ is. absurd (let high = IsFresh.reserved x.fresh.0 in let used = subst (λ (z : Shape). j < positions_of z) same low in omega arith)))
        (ap (λ (g : Fields). get_or g.fills a.e 0) x.fields ∙ get_or-set_other old.fields.fills m.e a.e old.shape.rows 0 other)

pub cleans-next : (old new : Chart) (p q : Plan) (phase : Phase) (sh : Shape) (ps : List ℕ) (k n : ℕ) → sh ≡ old.shape → IsSound old → 0 < old.shape.rows → IsPlanOf old.shape old.fields old.flash p → Does old p phase new q → Cleans sh ps k n old.fields p.erased → Cleans sh ps k n new.fields q.erased
cleans-next old new p q Moved sh ps k n same sound some agrees does a = cleans-moved old new p q sh ps k n same sound agrees does a
cleans-next old new p q Copied sh ps k n same sound some agrees does a = cleans-copied old new p q sh ps k n same sound some agrees does a
cleans-next old new p q Switched sh ps k n same sound some agrees does a = cleans-switched old new p q sh ps k n same sound some agrees does a
cleans-next old new p q Placed sh ps k n same sound some agrees does a = cleans-placed old new p q sh ps k n same sound does a
cleans-next old new p q Erased sh ps k n same sound some agrees does a = cleans-erased old new p q sh ps k n same sound does a

-- a cleaning begins where a row of the position is dead
pub cleans-begun : (old new : Chart) (k n : ℕ) → IsSound old → IsShape old.shape → old.fields.job ≡ Some Idle → k < positions_of old.shape → (dead : (d : ℕ) × (d / old.shape.rows ≡ get_or old.fields.positions k 0) × ((p : ℕ) → Names old.fields p d → ⊥)) → new ≡ with_fields old (with_job (Some (Copy (get_or old.fields.positions k 0))) old.fields) → Cleans old.shape old.fields.positions k n new.fields n
cleans-begun old new k n sound shape idle low (d, row, dead) is =
    let spare = some-spare old.shape old.fields old.flash sound shape in
    let empty : get_or old.fields.fills spare.0 0 ≡ 0 = Blanks.idle (Sound.blanks sound) spare.0 idle spare.1 in
    subst (λ (c : Chart). Cleans old.shape old.fields.positions k n c.fields n) (sym is) (record {
      e = spare.0;
      v = get_or old.fields.positions k 0;
      d = d;
      low = low;
      long = Numbers.positions_long (Sound.numbers sound);
      here = refl;
      spare = spare.1;
      row = row;
      at = (refl, refl, refl, record { dead = dead; apart = λ i lt. absurd (omega arith) });
    })

-- what is known once it has ended
pub cleans-ended : (sh : Shape) (ps : List ℕ) (k n : ℕ) (f : Fields) (m : ℕ) → f.job ≡ Some Idle → (a : Cleans sh ps k n f m) → UsesSame sh f.positions (set ps k a.e) × (m ≡ up n) × (get_or f.fills a.e 0 < sh.rows) × (get_or f.positions k 0 ≡ a.e)
cleans-ended sh ps k n f m idle a =
    let at = by-job sh k a.e a.v a.d ps n Idle f m idle a.at in
    (at.0, at.1, at.2, at.0 k a.low ∙ get_or-set_same ps k a.e 0 (let l = a.long in let low = a.low in omega arith))

-- so the position has a free row
pub room-cleaned : (sh : Shape) (ps : List ℕ) (k n : ℕ) (f : Fields) (m : ℕ) (pool : Pool) → f.job ≡ Some Idle → Cleans sh ps k n f m → PoolAgrees sh f pool → get_or pool.fills (get_or pool.positions k 0) 0 < sh.rows
room-cleaned sh ps k n f m pool idle a agrees =
    let at = cleans-ended sh ps k n f m idle a in
    rw (IsPoolOf.fills agrees, IsPoolOf.positions agrees, at.3) at.2

-- the same, with the position's segment and the count by other names
pub cleans-begun-at : (old new : Chart) (k n m d v : ℕ) → IsSound old → IsShape old.shape → old.fields.job ≡ Some Idle → (sh : Shape) → sh ≡ old.shape → k < positions_of sh → v ≡ get_or old.fields.positions k 0 → d / old.shape.rows ≡ get_or old.fields.positions k 0 → ((p : ℕ) → Names old.fields p d → ⊥) → new ≡ with_fields old (with_job (Some (Copy v)) old.fields) → m ≡ n → Cleans old.shape old.fields.positions k n new.fields m
cleans-begun-at old new k n m d v sound shape idle sh same low here row dead is count =
    subst (λ (x : ℕ). Cleans old.shape old.fields.positions k n new.fields x) (sym count)
    (cleans-begun old new k n sound shape idle (subst (λ (z : Shape). k < positions_of z) same low) (d, row, dead) (is ∙ ap (λ (x : ℕ). with_fields old (with_job (Some (Copy x)) old.fields)) here))

-- What a change of the map in one range leaves of both.
use Rattle.std.proofs.Common.{◌≡◌, ℕ, ◌+◌, ◌-◌, ◌^◌, ◌<◌, ◌≤◌, true, false, IsTrue, List, [], length, replicate, take, ◌%◌, ap, sym, subst, ◌∙◌, inl, inr, Result, Ok, Err, IfOk, Option, arith}
use Rattle.std.proofs.lemmas.List.{drop-replicate, length-replicate, take-replicate}
use Rattle.envy_base.specs.declared.board.Off.{Off}
use Rattle.envy_array.specs.Words.{Sheet, IsSheet, Finishes, Keeps}
use Rattle.envy_btree.specs.Answers.{Inserts, Removes, Gets}
use Rattle.envy_btree.specs.Index.{IsIndex}
use Rattle.envy_btree.specs.Pairs.{with_pair, without}
use Rattle.envy_btree.specs.declared.fault.LookFault.{LookFault}
use Rattle.envy_btree.specs.declared.fault.LookFault.TheVariants.{Off as LookOff, Broken}
use Rattle.envy_btree.specs.declared.fault.TreeFault.{TreeFault}
use Rattle.envy_btree.specs.declared.fault.TreeFault.TheVariants.{Off as FaultOff, Full, Bad}
use Rattle.envy_btree.proofs.Readiness.{zeros-index}
use Rattle.envy_range.specs.Ranges.{inside, outside, within, IsApart, Stays}
use Rattle.envy_range.specs.Lawful.{inside-long}
use Rattle.envy_range.proofs.Parts.{apart}
use Rattle.envy_range.proofs.Staying.{stays-shut}
use Rattle.test_trees.specs.Beside.{HasBoth, HasMap, IsMap}

inside-zeros : (first size : ℕ) → first + 640 ≤ size → inside first 640 (replicate size 0) ≡ replicate 640 0
unfolding inside
inside-zeros first size le = ap (take 640) (drop-replicate first size 0) ∙ take-replicate 640 (size - first) 0 (omega (arith, le))

zeros-map : (first : ℕ) (s : Sheet) → s.words ≡ replicate 2048 0 → first + 640 ≤ 2048 → HasMap first s
zeros-map first s zeros le = ([], subst (λ (ws : List ℕ). IsIndex ws []) (sym (ap (inside first 640) zeros ∙ inside-zeros first 2048 le)) (zeros-index 640 (omega arith)))

pub both-new : {T E : Type 0} (f : T → Sheet) (r : Result T E) → IfOk r (λ v. (f v).words ≡ replicate 2048 0) → IfOk r (λ v. (f v).started ≡ false) → IfOk r (λ v. (f v).room ≡ 32) → IfOk r (λ v. HasBoth (f v))
both-new f (Ok v) words shut room = record {
  shut = shut;
  long = ap (length {A = ℕ}) words ∙ length-replicate {A = ℕ} 2048 0;
  room = omega (arith, room);
  front = zeros-map 64 (f v) words (omega arith);
  rear = zeros-map 704 (f v) words (omega arith);
}
both-new f (Err e) words shut room = tt

-- a view of either map
pub starts-map : (first : ℕ) → IsMap first → first % 32 ≡ 0
starts-map first (inl e) = ap (λ (n : ℕ). n % 32) e
starts-map first (inr e) = ap (λ (n : ℕ). n % 32) e

pub fits-map : (first : ℕ) (s : Sheet) → IsMap first → HasBoth s → first + 640 ≤ length s.words
fits-map first s (inl e) b = omega (arith, e, b.long)
fits-map first s (inr e) b = omega (arith, e, b.long)

pub map-seen : (first count : ℕ) (s : Sheet) → IsMap first → count ≡ 640 → HasBoth s → (es : List (ℕ × ℕ)) × IsIndex (within first count s).words es
map-seen first count s (inl e) size b = rw e (rw size b.front)
map-seen first count s (inr e) size b = rw e (rw size b.rear)

pub size-seen : (first count : ℕ) (s : Sheet) → first + count ≤ length s.words → count ≡ 640 → length (within first count s).words ≤ 2 ^ 29
size-seen first count s fits size = omega (arith, inside-long first count s.words fits, size)

-- what is outside a range is as it was
abbrev StaysWhole : ℕ → ℕ → Sheet → Sheet → Type 0
StaysWhole first count s t = Stays first count s t × (outside first count t.words ≡ outside first count s.words)

-- a map that a change of another range leaves
beside : (first count other : ℕ) (s t : Sheet) → StaysWhole first count s t → IsApart first count other 640 → first + count ≤ length s.words → HasMap other s → HasMap other t
beside first count other s t same off fits (es, map) = (es, subst (λ (ws : List ℕ). IsIndex ws es) (sym (apart first count other 640 s.words t.words off fits (Stays.long same.0) same.1)) map)

-- one map is changed: both are maps again
still-front : (first count : ℕ) (s t : Sheet) → first ≡ 64 → count ≡ 640 → HasBoth s → StaysWhole first count s t → t.room ≡ s.room → t.started ≡ false → (es : List (ℕ × ℕ)) × IsIndex (within first count t).words es → HasBoth t
still-front first count s t e size b kept room shut map = record {
  shut = shut;
  long = Stays.long kept.0 ∙ b.long;
  room = omega (arith, room, b.room);
  front = rw e at rw size at map;
  rear = beside first count 704 s t kept (inl (omega (arith, e, size))) (omega (arith, e, size, b.long)) b.rear;
}

still-rear : (first count : ℕ) (s t : Sheet) → first ≡ 704 → count ≡ 640 → HasBoth s → StaysWhole first count s t → t.room ≡ s.room → t.started ≡ false → (es : List (ℕ × ℕ)) × IsIndex (within first count t).words es → HasBoth t
still-rear first count s t e size b kept room shut map = record {
  shut = shut;
  long = Stays.long kept.0 ∙ b.long;
  room = omega (arith, room, b.room);
  front = beside first count 64 s t kept (inr (omega (arith, e))) (omega (arith, e, size, b.long)) b.front;
  rear = rw e at rw size at map;
}

pub both-still : (first count begins size : ℕ) (s t : Sheet) → IsMap first → count ≡ 640 → IsSheet s → IsSheet t → HasBoth s → t.room ≡ s.room → Keeps (within first count s) (within begins size t) → t.started ≡ false → (es : List (ℕ × ℕ)) × IsIndex (within begins size t).words es → HasBoth t
both-still first count begins size s t (inl e) is law then b room keeps shut map =
    let kept = stays-shut first count begins size s t law then b.shut keeps in
    still-front first count s t e is b (kept.2, kept.3) room shut (rw kept.0 at rw kept.1 at map)
both-still first count begins size s t (inr e) is law then b room keeps shut map =
    let kept = stays-shut first count begins size s t law then b.shut keeps in
    still-rear first count s t e is b (kept.2, kept.3) room shut (rw kept.0 at rw kept.1 at map)

-- plain words before them are changed
pub both-beside : (first count begins size : ℕ) (s t : Sheet) → first ≡ 0 → count ≡ 64 → IsSheet s → IsSheet t → HasBoth s → t.room ≡ s.room → Keeps (within first count s) (within begins size t) → t.started ≡ false → HasBoth t
both-beside first count begins size s t is whole law then b room keeps shut =
    let kept = stays-shut first count begins size s t law then b.shut keeps in
    record {
      shut = shut;
      long = Stays.long kept.2 ∙ b.long;
      room = omega (arith, room, b.room);
      front = beside first count 64 s t (kept.2, kept.3) (inl (omega (arith, is, whole))) (omega (arith, is, whole, b.long)) b.front;
      rear = beside first count 704 s t (kept.2, kept.3) (inl (omega (arith, is, whole))) (omega (arith, is, whole, b.long)) b.rear;
    }

-- some map is left by each answer of a memory that has power
pub inserted : (key value : ℕ) (r : Result (Option ℕ) TreeFault) (s t : Sheet) → IsTrue t.on → ((es : List (ℕ × ℕ)) → IsIndex s.words es → Inserts key value es s r t) → (es : List (ℕ × ℕ)) × IsIndex s.words es → (es : List (ℕ × ℕ)) × IsIndex t.words es
inserted key value (Ok was) s t on says (es, map) = (with_pair key value es, (says es map).3)
inserted key value (Err FaultOff) s t on says (es, map) = absurd (let e : true ≡ false = sym on ∙ (says es map).0 in cc)
inserted key value (Err Full) s t on says (es, map) = (es, (says es map).2)
inserted key value (Err Bad) s t on says (es, map) = (es, (says es map).3)

pub removed : (key : ℕ) (r : Result (Option ℕ) TreeFault) (s t : Sheet) → IsTrue t.on → ((es : List (ℕ × ℕ)) → IsIndex s.words es → Removes key es s r t) → (es : List (ℕ × ℕ)) × IsIndex s.words es → (es : List (ℕ × ℕ)) × IsIndex t.words es
removed key (Ok was) s t on says (es, map) = (without key es, (says es map).2)
removed key (Err FaultOff) s t on says (es, map) = absurd (let e : true ≡ false = sym on ∙ (says es map).0 in cc)
removed key (Err Full) s t on says (es, map) = absurd (says es map)
removed key (Err Bad) s t on says (es, map) = (es, (says es map).2)

pub looked : (key : ℕ) (r : Result (Option ℕ) LookFault) (s t : Sheet) → IsTrue t.on → ((es : List (ℕ × ℕ)) → IsIndex s.words es → Gets key es s r t) → (es : List (ℕ × ℕ)) × IsIndex s.words es → (es : List (ℕ × ℕ)) × IsIndex t.words es
looked key (Ok is) s t on says (es, map) = (es, (says es map).2)
looked key (Err Broken) s t on says (es, map) = absurd (says es map)
looked key (Err LookOff) s t on says (es, map) = absurd (let e : true ≡ false = sym on ∙ (says es map).0 in cc)

pub finished : (r : Result Unit Off) (s t : Sheet) → IsTrue t.on → Finishes s r t → t.started ≡ false
finished (Ok done) s t on f = f.1
finished (Err off) s t on f = absurd (let e : true ≡ false = sym on ∙ f.0 in cc)

-- the addresses of the plain words
pub plain-long : (first count begins size a : ℕ) (s t : Sheet) → first + count ≤ length s.words → count ≡ 64 → length (within begins size t).words ≡ length (within first count s).words → a < 64 → a < length (within begins size t).words
plain-long first count begins size a s t fits is long lt = omega (arith, long, inside-long first count s.words fits, is, lt)

-- What is counted composes.
use Rattle.std.proofs.Common.{◌≡◌, inl, inr, ℕ, ◌≤◌, Bool, false, true, List, [], ◌∷◌, length, get_or, suc, refl, sym, ◌∙◌, ap, subst, arith}
use Rattle.std.specs.Prelude.{sum, IsTrue, Result, Ok, Err}
use Rattle.std.proofs.lemmas.List.Sums.{sum_by-cons}
use Rattle.envy_base.specs.Counting.{Tally}
use Rattle.envy_base.proofs.Counting.{Tally-trans}
use Rattle.envy_base.specs.declared.board.Off.{Off}
use Rattle.envy_map.specs.Fields.{Fields, Chart}
use Rattle.envy_map.specs.Writes.{Writes}
use Rattle.envy_soundness.specs.Same.{Powers, Counted, Grows}
use Rattle.envy_engine.specs.Counts.{Tally3, Tallies, Wearing, Counting}
use Rattle.envy_engine.specs.Steps.{CountsNone}
use Rattle.envy_reloc.specs.Phases.{CountsBegun}
use Rattle.envy_reloc.specs.Plan.{Plan}
use Rattle.envy_engine.specs.declared.parts.Parts.{Parts}

pub Tally3-trans : (a b c e a2 b2 c2 e2 a3 b3 c3 e3 : ℕ) → Tally3 a b c e a2 b2 c2 e2 → Tally3 a2 b2 c2 e2 a3 b3 c3 e3 → Tally3 a b c e a3 b3 c3 e3
Tally3-trans a b c e a2 b2 c2 e2 a3 b3 c3 e3 x y =
    let x1 = x.first in let x2 = x.second in let x3 = x.third in let x4 = x.fourth in
    let y1 = y.first in let y2 = y.second in let y3 = y.third in let y4 = y.fourth in
    record {
      first = omega arith;
      second = omega arith;
      third = omega arith;
      fourth = omega arith;
      same = λ i j k l. let p = x.same (omega arith) (omega arith) (omega arith) (omega arith) in let q = y.same i j k l in omega arith;
    }

pub Tallies-trans : (c d e : Chart) (x y z : Parts) → Tallies c x d y → Tallies d y e z → Tallies c x e z
Tallies-trans c d e x y z p q = record {
  programs = Tally3-trans _ _ _ _ _ _ _ _ _ _ _ _ p.programs q.programs;
  erases = Tally-trans _ _ _ _ _ _ p.erases q.erases;
}

-- power that is on at the end was on before
pub on-before : (a b : Bool) (i j : ℕ) → Powers a i b j → IsTrue b → IsTrue a
on-before a b i j (inl (same, cuts)) on = subst (λ (x : Bool). IsTrue x) same on
on-before a b i j (inr (was, off, cuts)) on = was

-- a put of another field leaves the wear words
pub wears-put : (c new : Chart) (change : Fields → Fields) (r : Result Unit Off) → (change c.fields).wears ≡ c.fields.wears → Writes change c r new → IsTrue new.on → new.fields.wears ≡ c.fields.wears
wears-put c new change (Ok done) same (was, is) on = ap (λ (z : Chart). z.fields.wears) is ∙ same
wears-put c new change (Err off) same (inl (was, is)) on = ap (λ (z : Chart). z.fields.wears) is
wears-put c new change (Err off) same (inr (was, f, some, is)) on = absurd (let no : false ≡ true = sym (ap (λ (z : Chart). z.on) is) ∙ on in cc)

-- the wear words stay
pub Wearing-still : (k j : ℕ) (c d : Chart) (x y : Parts) → Counted k j c d → y.reloc.since ≡ x.reloc.since → (IsTrue d.on → d.fields.wears ≡ c.fields.wears) → Wearing c x d y
Wearing-still k j c d x y counted since wears = record { on = on-before c.on d.on c.cuts d.cuts counted.power; most = λ on low s. rw (since, wears on) (omega arith) }

pub Wearing-trans : (c d e : Chart) (x y z : Parts) → y.reloc.since ≤ z.reloc.since → Wearing c x d y → Wearing d y e z → Wearing c x e z
Wearing-trans c d e x y z rises p q = record {
  on = λ on. p.on (q.on on);
  most = λ on low s. let first = p.most (q.on on) (omega arith) s in let second = q.most on low s in omega arith;
}

pub Counting-trans : (c d e : Chart) (x y z : Parts) → Counting c x d y → Counting d y e z → Counting c x e z
Counting-trans c d e x y z p q = record {
  tallies = Tallies-trans c d e x y z p.tallies q.tallies;
  since = Tally-trans _ _ _ _ _ _ p.since q.since;
  swaps = q.swaps ∙ p.swaps;
  wearing = Wearing-trans c d e x y z (Tally.second q.since) p.wearing q.wearing;
}

-- nothing is programmed or erased, and no count changes
pub Counting-still : (c d : Chart) (x y : Parts) → Counted 0 0 c d → y.flushes ≡ x.flushes → y.swaps ≡ x.swaps → y.reloc ≡ x.reloc → (IsTrue d.on → d.fields.wears ≡ c.fields.wears) → Counting c x d y
Counting-still c d x y counted flushes swaps task wears =
    let begun = counted.begun in
    let few = counted.few in
    let least = Grows.least counted.erases in
    let most = Grows.few counted.erases in
    record {
      tallies = rw (flushes, task) (record {
        programs = record { first = omega arith; second = omega arith; third = omega arith; fourth = begun; same = λ i j k l. omega arith };
        erases = record { first = least; second = omega arith; same = λ l m. omega arith };
      });
      since = rw task (record { first = least; second = omega arith; same = λ l m. omega arith });
      swaps = swaps;
      wearing = Wearing-still 0 0 c d x y counted (ap (λ (z : Plan). z.since) task) wears;
    }

-- a program of a flush
pub Counting-flushed : (c d : Chart) (x y : Parts) → Counted 1 0 c d → Tally c.begun x.flushes d.begun y.flushes → y.swaps ≡ x.swaps → y.reloc ≡ x.reloc → (IsTrue d.on → d.fields.wears ≡ c.fields.wears) → Counting c x d y
Counting-flushed c d x y counted tally swaps task wears =
    let begun = counted.begun in
    let least = Grows.least counted.erases in
    let most = Grows.few counted.erases in
    let t1 = tally.first in
    let t2 = tally.second in
    record {
      tallies = rw task (record {
        programs = record { first = t2; second = omega arith; third = omega arith; fourth = t1; same = λ i j k l. let t = tally.same l i in omega arith };
        erases = record { first = least; second = omega arith; same = λ l m. omega arith };
      });
      since = rw task (record { first = least; second = omega arith; same = λ l m. omega arith });
      swaps = swaps;
      wearing = Wearing-still 1 0 c d x y counted (ap (λ (z : Plan). z.since) task) wears;
    }

-- the same where the job is another, and what it counts isn't
pub Tallies-quiet : (c d : Chart) (x y : Parts) → Counted 0 0 c d → y.flushes ≡ x.flushes → CountsNone x y → Tallies c x d y
Tallies-quiet c d x y counted flushes none =
    let begun = counted.begun in
    let few = counted.few in
    let least = Grows.least counted.erases in
    let most = Grows.few counted.erases in
    rw (flushes, none.copied, none.moved, none.erased) (record {
      programs = record { first = omega arith; second = omega arith; third = omega arith; fourth = begun; same = λ i j k l. omega arith };
      erases = record { first = least; second = omega arith; same = λ l m. omega arith };
    })

pub Counting-quiet : (c d : Chart) (x y : Parts) → Counted 0 0 c d → y.flushes ≡ x.flushes → y.swaps ≡ x.swaps → CountsNone x y → y.reloc.since ≡ x.reloc.since → (IsTrue d.on → d.fields.wears ≡ c.fields.wears) → Counting c x d y
Counting-quiet c d x y counted flushes swaps none since wears =
    let begun = counted.begun in
    let few = counted.few in
    let least = Grows.least counted.erases in
    let most = Grows.few counted.erases in
    record {
      tallies = Tallies-quiet c d x y counted flushes none;
      since = rw since (record { first = least; second = omega arith; same = λ l m. omega arith });
      swaps = swaps;
      wearing = Wearing-still 0 0 c d x y counted since wears;
    }

-- a step of a relocation counts itself
pub Counting-begun : (c d : Chart) (x y : Parts) → c.begun ≤ d.begun → CountsBegun c x.reloc d y.reloc → y.flushes ≡ x.flushes → y.swaps ≡ x.swaps → Wearing c x d y → Counting c x d y
Counting-begun c d x y grows b flushes swaps wearing =
    let p = b.copied in
    let q = b.moved in
    record {
      tallies = record {
        programs = rw flushes (record { first = omega arith; second = p; third = q; fourth = grows; same = λ i j k l. let e = b.programs l j k in omega arith });
        erases = b.erases;
      };
      since = b.since;
      swaps = swaps;
      wearing = wearing;
    }

sums-le : (xs ys : List ℕ) → length ys ≡ length xs → ((s : ℕ) → get_or xs s 0 ≤ get_or ys s 0) → sum xs ≤ sum ys
sums-le [] ys long each = omega arith
sums-le (x ∷ xs) [] long each = omega arith
sums-le (x ∷ xs) (y ∷ ys) long each =
    let a = sum_by-cons (λ (n : ℕ). n) x xs in
    let b = sum_by-cons (λ (n : ℕ). n) y ys in
    let h = each 0 in
    let t = sums-le xs ys (omega arith) (λ s. each (suc s)) in
    omega arith

same-sums : (xs ys : List ℕ) → length ys ≡ length xs → ((s : ℕ) → get_or xs s 0 ≤ get_or ys s 0) → sum ys ≤ sum xs → ys ≡ xs
same-sums [] [] long each few = refl
same-sums [] (y ∷ ys) long each few = absurd (let no = long in omega arith)
same-sums (x ∷ xs) [] long each few = absurd (let no = long in omega arith)
same-sums (x ∷ xs) (y ∷ ys) long each few =
    let a = sum_by-cons (λ (n : ℕ). n) x xs in
    let b = sum_by-cons (λ (n : ℕ). n) y ys in
    let h = each 0 in
    let rest : length ys ≡ length xs = omega arith in
    let t = sums-le xs ys rest (λ s. each (suc s)) in
    let head : y ≡ x = omega arith in
    let tail : ys ≡ xs = same-sums xs ys rest (λ s. each (suc s)) (omega arith) in
    rw (head, tail) refl

-- counts none of which fell, and that grew by nothing in all, stay
pub Grows-none : (xs ys : List ℕ) → Grows 0 xs ys → ys ≡ xs
Grows-none xs ys g = let few = g.few in same-sums xs ys g.long g.each (omega arith)

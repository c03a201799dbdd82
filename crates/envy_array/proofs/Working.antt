-- Work within a transaction, one step after another.
use Rattle.std.proofs.Common.{◌≡◌, ◌⊎◌, ℕ, ◌+◌, ◌-◌, ◌*◌, ◌^◌, ◌<◌, ◌≤◌, Bool, true, false, IsTrue, length, refl, ap, sym, subst, ◌∙◌, inl, inr, Result, Ok, Err, arith}
use Rattle.std.proofs.Math.Nat.{mul-le-mul_right}
use Rattle.std.proofs.lemmas.Bool.{cases_lt}
use Rattle.envy_base.specs.declared.board.Off.{Off}
use Rattle.envy_array.specs.Words.{Sheet, IsSheet, Work, Works, Spends, OnPage, Loads, has}
use Rattle.envy_base.specs.Counting.{Rose}

on_or_off : (b : Bool) → IsTrue b ⊎ (b ≡ false)
on_or_off true = inl refl
on_or_off false = inr refl

no_both : {P : Type 0} (b : Bool) → IsTrue b → b ≡ false → P
no_both b t f = absurd (let e : true ≡ false = sym t ∙ f in cc)

-- power that is on at the end was on before
pub was_on : (k : ℕ) (a b : Sheet) → Works k a b → IsTrue b.on → IsTrue a.on
was_on k a b w on = elim (on_or_off a.on) [ inl y ↦ y | inr n ↦ no_both b.on on (w.dark n) ]

pub Works-refl : (s : Sheet) → Works 0 s s
Works-refl s = record { long = refl; kept = refl; room = refl; fixed = refl; notes = refl; cuts = omega arith; bads = omega arith; dark = λ e. e; cut = λ t f. no_both s.on t f; still = λ _. refl; few = λ _. omega arith; seen = λ _ p h. h; beside = inl refl; kept_beside = refl }

pub rose-low : (a b c : ℕ) → Rose a b → b ≤ c → Rose a c
rose-low a b c r le lt = let h = r lt in omega arith

pub Works-trans : (j k : ℕ) (a b c : Sheet) → Works j a b → Works k b c → Works (j + k) a c
Works-trans j k a b c v w = record {
  long = w.long ∙ v.long;
  kept = w.kept ∙ v.kept;
  room = w.room ∙ v.room;
  fixed = w.fixed ∙ v.fixed;
  notes = w.notes ∙ v.notes;
  cuts = omega (arith, v.cuts, w.cuts);
  bads = omega (arith, v.bads, w.bads);
  dark = λ e. w.dark (v.dark e);
  cut = λ on off. elim (on_or_off b.on) [ inl y ↦ rise_high (w.cut y off) | inr n ↦ rose-low a.cuts b.cuts c.cuts (v.cut on n) w.cuts ];
  still = λ on. w.still on ∙ v.still (was_on k b c w on);
  few = λ on. omega (arith, w.few on, v.few (was_on k b c w on));
  seen = λ on p h. w.seen on p (v.seen (was_on k b c w on) p h);
  beside = stay v.beside w.beside;
  kept_beside = w.kept_beside ∙ v.kept_beside;
}
  where
    stay : (b.beside ≡ a.beside) ⊎ ((b.on ≡ false) × (b.beside ≡ a.kept_beside)) → (c.beside ≡ b.beside) ⊎ ((c.on ≡ false) × (c.beside ≡ b.kept_beside)) → (c.beside ≡ a.beside) ⊎ ((c.on ≡ false) × (c.beside ≡ a.kept_beside))
    stay (inl s) (inl t) = inl (t ∙ s)
    stay (inr s) (inl t) = inr (w.dark s.0, t ∙ s.1)
    stay s (inr t) = inr (t.0, t.1 ∙ v.kept_beside)

    rise_high : Rose b.cuts c.cuts → Rose a.cuts c.cuts
    rise_high r lt = elim (cases_lt b.cuts (2 ^ 64 - 1)) [ inl l ↦ (let h : b.cuts < c.cuts = r l in omega (arith, v.cuts)) | inr g ↦ omega (arith, v.cuts, w.cuts, g) ]

-- another count of pages
pub Works-few : (j k : ℕ) (a b : Sheet) → Works j a b → (IsTrue b.on → length b.pages ≤ length a.pages + k) → Works k a b
Works-few j k a b w few = record { long = w.long; kept = w.kept; room = w.room; fixed = w.fixed; notes = w.notes; cuts = w.cuts; bads = w.bads; dark = w.dark; cut = w.cut; still = w.still; few = few; seen = w.seen; beside = w.beside; kept_beside = w.kept_beside }

pub Works-more : (j k : ℕ) (a b : Sheet) → j ≤ k → Works j a b → Works k a b
Works-more j k a b le w = Works-few j k a b w (λ on. omega (arith, w.few on))

pub OnPage-refl : (p : ℕ) (s : Sheet) → OnPage p s s
OnPage-refl p s = record { works = Works-more 0 1 s s (omega arith) (Works-refl s); again = λ _. Works-refl s; put = λ _. inr refl }

-- what changes no page
pub OnPage-from : (p : ℕ) (a b : Sheet) → Works 0 a b → (IsTrue b.on → b.pages ≡ a.pages) → OnPage p a b
OnPage-from p a b w same = record { works = Works-more 0 1 a b (omega arith) w; again = λ _. w; put = λ on. inr (same on) }

pub OnPage-trans : (p : ℕ) (a b c : Sheet) → OnPage p a b → OnPage p b c → OnPage p a c
OnPage-trans p a b c v w = record {
  works = Works-few 2 1 a c (Works-trans 1 1 a b c v.works w.works) (λ on. few on (v.put (was_on 1 b c w.works on)));
  again = λ h. both h;
  put = λ on. puts on (w.put on);
}
  where
    few : IsTrue c.on → IsTrue (has b.pages p) ⊎ (b.pages ≡ a.pages) → length c.pages ≤ length a.pages + 1
    few on (inl h) = omega (arith, (w.again h).few on, v.works.few (was_on 1 b c w.works on))
    few on (inr e) = omega (arith, w.works.few on, ap length e)

    both : IsTrue (has a.pages p) → Works 0 a c
    both h = Works-few 2 0 a c (Works-trans 1 1 a b c v.works w.works) (λ on. omega (arith, (w.again (v.works.seen (was_on 1 b c w.works on) p h)).few on, (v.again h).few (was_on 1 b c w.works on)))

    puts : IsTrue c.on → IsTrue (has c.pages p) ⊎ (c.pages ≡ b.pages) → IsTrue (has c.pages p) ⊎ (c.pages ≡ a.pages)
    puts on (inl h) = inl h
    puts on (inr e) = elim (v.put (was_on 1 b c w.works on)) [ inl h ↦ inl (subst (λ x. IsTrue (has x p)) (sym e) h) | inr f ↦ inr (e ∙ f) ]

pub load_then_put : (p a : ℕ) (r : Result ℕ Off) (x y z : Sheet) → Works 0 x y → Loads x a r y → OnPage p y z → OnPage p x z
load_then_put p a (Ok v) x y z w l o = OnPage-trans p x y z (OnPage-from p x y w (λ _. l.3)) o
load_then_put p a (Err e) x y z w l o = OnPage-trans p x y z (OnPage-from p x y w (λ on. no_both y.on on l)) o

pub on_from : (s : Sheet) → IsSheet s → IsTrue s.started → IsTrue s.on
on_from s h t = elim (on_or_off s.on) [ inl y ↦ y | inr n ↦ no_both s.started t (h.off n) ]

pub OnPage-room : (p q : ℕ) (a b : Sheet) → OnPage p a b → IsTrue b.on → q ≡ p → length a.pages + 1 ≤ a.room → IsTrue (has b.pages q) ⊎ (length b.pages < b.room)
OnPage-room p q a b o on e room = elim (o.put on) [ inl h ↦ inl (subst (λ x. IsTrue (has b.pages x)) (sym e) h) | inr same ↦ inr (omega (arith, ap length same, o.works.room)) ]

-- the page was put, or there is room for it
pub OnPage-still : (p q : ℕ) (a b : Sheet) → OnPage p a b → IsTrue b.on → q ≡ p → IsTrue (has a.pages p) ⊎ (length a.pages < a.room) → IsTrue (has b.pages q) ⊎ (length b.pages < b.room)
OnPage-still p q a b o on e (inl is) = inl (subst (λ x. IsTrue (has b.pages x)) (sym e) (o.works.seen on p is))
OnPage-still p q a b o on e (inr room) = OnPage-room p q a b o on e (omega (arith, room))

-- flash work, by the puts that it is worth

pub Spends-refl : (s : Sheet) → Spends 0 s s
Spends-refl s = record { price = refl; programs = omega arith; erases = omega arith }

worth-more : (j k p old new : ℕ) → j ≤ k → new ≤ old + j * p → new ≤ old + k * p
worth-more j k p old new le few = omega (arith, few, mul-le-mul_right p le)

pub Spends-more : (j k : ℕ) (a b : Sheet) → j ≤ k → Spends j a b → Spends k a b
Spends-more j k a b le s = record {
  price = s.price;
  programs = worth-more j k a.price.programs a.work.programs b.work.programs le s.programs;
  erases = worth-more j k a.price.erases a.work.erases b.work.erases le s.erases;
}

worth-both : (j k p q x y z : ℕ) → q ≡ p → y ≤ x + j * p → z ≤ y + k * q → z ≤ x + (j + k) * p
worth-both j k p q x y z same first next = let then_next = subst (λ r. z ≤ y + k * r) same next in omega (arith, first, then_next)

pub Spends-trans : (j k : ℕ) (a b c : Sheet) → Spends j a b → Spends k b c → Spends (j + k) a c
Spends-trans j k a b c s t = record {
  price = t.price ∙ s.price;
  programs = worth-both j k a.price.programs b.price.programs a.work.programs b.work.programs c.work.programs (ap (λ (w : Work). w.programs) s.price) s.programs t.programs;
  erases = worth-both j k a.price.erases b.price.erases a.work.erases b.work.erases c.work.erases (ap (λ (w : Work). w.erases) s.price) s.erases t.erases;
}

-- one after the other, which are worth no more than that
pub Spends-then : (j k n : ℕ) (a b c : Sheet) → j + k ≤ n → Spends j a b → Spends k b c → Spends n a c
Spends-then j k n a b c le s t = Spends-more (j + k) n a c le (Spends-trans j k a b c s t)

-- Claims: the page of a free row, a fill that rises by one, and the row that one is copied from.
use Rattle.std.proofs.Common.{◌≡◌, ◌≢◌, ◌⊎◌, inl, inr, ℕ, ◌+◌, ◌*◌, ◌/◌, ◌%◌, ◌<◌, ◌≤◌, List, length, get_or, set, Some, refl, sym, ◌∙◌, ap, subst, arith}
use Rattle.std.specs.Prelude.{IsTrue, Result, Ok, Err}
use Rattle.std.proofs.lemmas.List.{get_or-set_same, get_or-set_other, get_or_past, length-set}
use Rattle.std.proofs.lemmas.Bool.{cases_eq, cases_lt}
use Rattle.envy_base.specs.declared.board.Off.{Off}
use Rattle.envy_base.specs.declared.shape.Shape.{Shape}
use Rattle.envy_base.specs.declared.fields.Job.TheVariants.{Idle, Copy, Switch}
use Rattle.envy_map.specs.Fields.{Fields, Chart}
use Rattle.envy_map.specs.Writes.{Writes, with_back, with_fill, with_origin}
use Rattle.envy_soundness.specs.Sound.{Sound, Rows, Numbers, Blanks, Jobs, Copies, IsSound, IsFree, IsSpare, Names}
use Rattle.envy_soundness.specs.Claims.{IsCopying, IsUsable, FillsRise}
use Rattle.envy_soundness.specs.Same.{Same}
use Rattle.envy_soundness.proofs.References.{apart-spare, copy-low, row-of}
use Rattle.envy_soundness.proofs.Composition.{Keeps, Same-put}

-- fills, backs and origins say nothing of words and owners
Keeps-unread : (c : Chart) (fills backs origins : List ℕ) → Sound c.shape (record c.fields { fills = fills; backs = backs; origins = origins }) c.flash → Keeps c (record c.fields { fills = fills; backs = backs; origins = origins })
Keeps-unread c fills backs origins sound = record { framed = record { shape = refl; magic = refl; version = refl; slots = refl; owners = λ p. refl }; sound = sound; live = refl; durable = refl }

-- no page names a free row
free-unnamed : (sh : Shape) (f : Fields) (flash : List (List ℕ)) (p q x : ℕ) → Sound sh f flash → IsFree sh f q → Names f p x → x ≢ q
free-unnamed sh f flash p q x s free names same =
    let low : x % sh.rows < get_or f.fills (x / sh.rows) 0 = Rows.filled s.rows p x names in
    let below : q % sh.rows < get_or f.fills (q / sh.rows) 0 = subst (λ (y : ℕ). y % sh.rows < get_or f.fills (y / sh.rows) 0) same low in
    omega arith

-- nor is it a row that something was copied to
free-uncopied : (sh : Shape) (f : Fields) (flash : List (List ℕ)) (e i q : ℕ) → Sound sh f flash → IsFree sh f q → i < get_or f.fills e 0 → e * sh.rows + i ≢ q
free-uncopied sh f flash e i q s free lt same =
    let at = row-of sh.rows e i (copy-low sh f flash e i s lt) in
    let low : (e * sh.rows + i) % sh.rows < get_or f.fills ((e * sh.rows + i) / sh.rows) 0 = rw (at.0, at.1) lt in
    let below : q % sh.rows < get_or f.fills (q / sh.rows) 0 = subst (λ (y : ℕ). y % sh.rows < get_or f.fills (y / sh.rows) 0) same low in
    omega arith

Sound-backed : (sh : Shape) (f : Fields) (flash : List (List ℕ)) (q p : ℕ) → p < sh.pages → IsFree sh f q → Sound sh f flash → Sound sh (with_back q p f) flash
Sound-backed sh f flash q p page free s =
    let n = s.numbers in
    record {
      head = s.head;
      slots = s.slots;
      places = s.places;
      rows = record {
        apart = Rows.apart s.rows;
        filled = Rows.filled s.rows;
        claimed = λ r x names. stays x (free-unnamed sh f flash r q x s free names) ∙ Rows.claimed s.rows r x names;
      };
      numbers = record {
        wears_long = n.wears_long;
        fills_long = n.fills_long;
        fills_fit = n.fills_fit;
        positions_long = n.positions_long;
        positions_fit = n.positions_fit;
        apart = n.apart;
        backs_long = length-set f.backs q p ∙ n.backs_long;
        backs_fit = λ x lt. fits x lt (cases_eq x q);
        origins_long = n.origins_long;
        origins_fit = n.origins_fit;
        frames_long = n.frames_long;
      };
      blanks = s.blanks;
      homes = s.homes;
      job = record {
        decodes = Jobs.decodes s.job;
        copying = Jobs.copying s.job;
        switching = Jobs.switching s.job;
        copies = λ v e is placed spare. let c = Jobs.copies s.job v e is placed spare in record {
          rows = c.rows;
          apart = c.apart;
          all = c.all;
          same = c.same;
          backs_same = λ r i lt names. stays (e * sh.rows + i) (free-uncopied sh f flash e i q s free lt) ∙ c.backs_same r i lt names ∙ sym (stays (get_or f.origins i 0) (free-unnamed sh f flash r q (get_or f.origins i 0) s free names));
          once = c.once;
        };
      };
    }
  where
    stays : (x : ℕ) → x ≢ q → get_or (set f.backs q p) x 0 ≡ get_or f.backs x 0
    stays x other = get_or-set_other f.backs q x p 0 other

    fits : (x : ℕ) → x < sh.segments * sh.rows → (x ≡ q) ⊎ (x ≡ q → ⊥) → get_or (set f.backs q p) x 0 < sh.pages
    fits x lt (inl same) = rw (same, get_or-set_same f.backs q p 0 (rw (Numbers.backs_long s.numbers, ← same) lt)) page
    fits x lt (inr other) = rw (stays x other) (Numbers.backs_fit s.numbers x lt)

pub Same-backed : (c new : Chart) (q p : ℕ) (r : Result Unit Off) → IsSound c → p < c.shape.pages → (IsTrue c.on → IsFree c.shape c.fields q) → Writes (with_back q p) c r new → Same 0 0 c new
Same-backed c new q p r sound page free writes = Same-put c new (with_back q p) r sound (λ on. Keeps-unread c c.fields.fills (set c.fields.backs q p) c.fields.origins (Sound-backed c.shape c.fields c.flash q p page (free on) sound)) refl writes

-- a usable segment isn't an idle spare, nor one that is being switched to
usable-busy : (sh : Shape) (f : Fields) (s e : ℕ) → IsUsable sh f s → f.job ≡ Some Idle → IsSpare sh f.positions e → e ≢ s
usable-busy sh f s e (inl placed) idle spare same = apart-spare sh f.positions s placed (subst (λ (x : ℕ). IsSpare sh f.positions x) same spare)
usable-busy sh f s e (inr ((v, copy), own)) idle spare same = let clash : Some Idle ≡ Some (Copy v) = sym idle ∙ copy in cc

usable-unswitched : (sh : Shape) (f : Fields) (s v e : ℕ) → IsUsable sh f s → f.job ≡ Some (Switch v) → IsSpare sh f.positions e → e ≢ s
usable-unswitched sh f s v e (inl placed) switch spare same = apart-spare sh f.positions s placed (subst (λ (x : ℕ). IsSpare sh f.positions x) same spare)
usable-unswitched sh f s v e (inr ((w, copy), own)) switch spare same = let clash : Some (Switch v) ≡ Some (Copy w) = sym switch ∙ copy in cc

-- copies are as they were where the fill of the spare is
Copies-filled : (sh : Shape) (f : Fields) (flash : List (List ℕ)) (fills : List ℕ) (v e : ℕ) → get_or fills e 0 ≡ get_or f.fills e 0 → Copies sh f.slots f.undos f.places f.fills f.backs f.origins flash v e → Copies sh f.slots f.undos f.places fills f.backs f.origins flash v e
Copies-filled sh f flash fills v e same c = record {
  rows = λ i lt. c.rows i (under i lt);
  apart = λ i j lt less. c.apart i j (under i lt) (under j less);
  all = λ p q names at. let found = c.all p q names at in (found.0, rw same found.1, found.2);
  same = λ p i lt. c.same p i (under i lt);
  backs_same = λ p i lt. c.backs_same p i (under i lt);
  once = λ p r i lt. c.once p r i (under i lt);
}
  where
    under : (i : ℕ) → i < get_or fills e 0 → i < get_or f.fills e 0
    under i lt = rw (← same) lt

Sound-raised : (sh : Shape) (f : Fields) (flash : List (List ℕ)) (t n : ℕ) → t < sh.segments → n < sh.rows → get_or f.fills t 0 ≡ n → IsUsable sh f t → Sound sh f flash → Sound sh (with_fill t (n + 1) f) flash
Sound-raised sh f flash t n lt room is usable s =
    let m = s.numbers in
    record {
      head = s.head;
      slots = s.slots;
      places = s.places;
      rows = record {
        apart = Rows.apart s.rows;
        filled = λ r x names. let was = Rows.filled s.rows r x names in let rise = rises (x / sh.rows) (cases_eq (x / sh.rows) t) in omega arith;
        claimed = Rows.claimed s.rows;
      };
      numbers = record {
        wears_long = m.wears_long;
        fills_long = length-set f.fills t (n + 1) ∙ m.fills_long;
        fills_fit = λ x. fits x (cases_eq x t);
        positions_long = m.positions_long;
        positions_fit = m.positions_fit;
        apart = m.apart;
        backs_long = m.backs_long;
        backs_fit = m.backs_fit;
        origins_long = m.origins_long;
        origins_fit = m.origins_fit;
        frames_long = m.frames_long;
      };
      blanks = record {
        above = λ q range above. let rise = rises (q / sh.rows) (cases_eq (q / sh.rows) t) in Blanks.above s.blanks q range (omega arith);
        idle = λ e idle spare. stays e (usable-busy sh f t e usable idle spare) ∙ Blanks.idle s.blanks e idle spare;
      };
      homes = s.homes;
      job = record {
        decodes = Jobs.decodes s.job;
        copying = Jobs.copying s.job;
        switching = Jobs.switching s.job;
        copies = λ v e is placed spare. Copies-filled sh f flash (set f.fills t (n + 1)) v e (stays e (usable-unswitched sh f t v e usable is spare)) (Jobs.copies s.job v e is placed spare);
      };
    }
  where
    inside : t < length f.fills
    inside = rw (Numbers.fills_long s.numbers) lt

    stays : (x : ℕ) → x ≢ t → get_or (set f.fills t (n + 1)) x 0 ≡ get_or f.fills x 0
    stays x other = get_or-set_other f.fills t x (n + 1) 0 other

    rises : (x : ℕ) → (x ≡ t) ⊎ (x ≡ t → ⊥) → get_or f.fills x 0 ≤ get_or (set f.fills t (n + 1)) x 0
    rises x (inl same) = rw (same, get_or-set_same f.fills t (n + 1) 0 inside) (omega arith)
    rises x (inr other) = rw (stays x other) (omega arith)

    fits : (x : ℕ) → (x ≡ t) ⊎ (x ≡ t → ⊥) → get_or (set f.fills t (n + 1)) x 0 ≤ sh.rows
    fits x (inl same) = rw (same, get_or-set_same f.fills t (n + 1) 0 inside) (omega arith)
    fits x (inr other) = rw (stays x other) (Numbers.fills_fit s.numbers x)

pub Same-raised : (c new : Chart) (t n : ℕ) (r : Result Unit Off) → IsSound c → t < c.shape.segments → n < c.shape.rows → (IsTrue c.on → get_or c.fields.fills t 0 ≡ n) → (IsTrue c.on → IsUsable c.shape c.fields t) → Writes (with_fill t (n + 1)) c r new → Same 0 0 c new
Same-raised c new t n r sound lt room is usable writes = Same-put c new (with_fill t (n + 1)) r sound (λ on. Keeps-unread c (set c.fields.fills t (n + 1)) c.fields.backs c.fields.origins (Sound-raised c.shape c.fields c.flash t n lt room (is on) (usable on) sound)) refl writes

-- fills at each exit: a back that is written leaves them, and a fill that is raised, or not, is no lower
pub fills-backed : (c new : Chart) (q p : ℕ) (r : Result Unit Off) → Writes (with_back q p) c r new → new.fields.fills ≡ c.fields.fills
fills-backed c new q p (Ok done) writes = ap (λ (x : Chart). x.fields.fills) writes.1
fills-backed c new q p (Err off) (inl (dead, same)) = ap (λ (x : Chart). x.fields.fills) same
fills-backed c new q p (Err off) (inr (on, f, (inl stays), is)) = ap (λ (x : Chart). x.fields.fills) is ∙ ap (λ (x : Fields). x.fills) stays
fills-backed c new q p (Err off) (inr (on, f, (inr made), is)) = ap (λ (x : Chart). x.fields.fills) is ∙ ap (λ (x : Fields). x.fills) made

raised-here : (fills : List ℕ) (t n x : ℕ) → get_or fills t 0 ≡ n → (x ≡ t) ⊎ (x ≡ t → ⊥) → get_or fills x 0 ≤ get_or (set fills t (n + 1)) x 0
raised-here fills t n x is (inr other) = rw (get_or-set_other fills t x (n + 1) 0 other) (omega arith)
raised-here fills t n x is (inl same) = at (cases_lt t (length fills))
  where
    at : (t < length fills) ⊎ (length fills ≤ t) → get_or fills x 0 ≤ get_or (set fills t (n + 1)) x 0
    at (inl lt) = rw (same, get_or-set_same fills t (n + 1) 0 lt) (omega arith)
    at (inr ge) = let none : get_or fills x 0 ≡ 0 = get_or_past fills x 0 (omega arith) in omega arith

pub FillsRise-raised : (c new : Chart) (t n : ℕ) (r : Result Unit Off) → (IsTrue c.on → get_or c.fields.fills t 0 ≡ n) → Writes (with_fill t (n + 1)) c r new → FillsRise c new
FillsRise-raised c new t n (Ok done) is writes s = subst (λ (x : List ℕ). get_or c.fields.fills s 0 ≤ get_or x s 0) (sym (ap (λ (x : Chart). x.fields.fills) writes.1)) (raised-here c.fields.fills t n s (is writes.0) (cases_eq s t))
FillsRise-raised c new t n (Err off) is (inl (dead, same)) s = rw same (omega arith)
FillsRise-raised c new t n (Err off) is (inr (on, f, (inl stays), now)) s = subst (λ (x : List ℕ). get_or c.fields.fills s 0 ≤ get_or x s 0) (sym (ap (λ (x : Chart). x.fields.fills) now ∙ ap (λ (x : Fields). x.fills) stays)) (omega arith)
FillsRise-raised c new t n (Err off) is (inr (on, f, (inr made), now)) s = subst (λ (x : List ℕ). get_or c.fields.fills s 0 ≤ get_or x s 0) (sym (ap (λ (x : Chart). x.fields.fills) now ∙ ap (λ (x : Fields). x.fills) made)) (raised-here c.fields.fills t n s (is on) (cases_eq s t))

Sound-noted : (sh : Shape) (f : Fields) (flash : List (List ℕ)) (i q : ℕ) → q < sh.segments * sh.rows → IsCopying f → Sound sh f flash → Sound sh (with_origin i q f) flash
Sound-noted sh f flash i q range (v, copy) s =
    let n = s.numbers in
    record {
      head = s.head;
      slots = s.slots;
      places = s.places;
      rows = s.rows;
      numbers = record {
        wears_long = n.wears_long;
        fills_long = n.fills_long;
        fills_fit = n.fills_fit;
        positions_long = n.positions_long;
        positions_fit = n.positions_fit;
        apart = n.apart;
        backs_long = n.backs_long;
        backs_fit = n.backs_fit;
        origins_long = length-set f.origins i q ∙ n.origins_long;
        origins_fit = λ x lt. fits x lt (cases_eq x i);
        frames_long = n.frames_long;
      };
      blanks = s.blanks;
      homes = s.homes;
      job = record {
        decodes = Jobs.decodes s.job;
        copying = Jobs.copying s.job;
        switching = Jobs.switching s.job;
        copies = λ w e is placed spare. let clash : Some (Switch w) ≡ Some (Copy v) = sym is ∙ copy in cc;
      };
    }
  where
    fits : (x : ℕ) → x < sh.rows → (x ≡ i) ⊎ (x ≡ i → ⊥) → get_or (set f.origins i q) x 0 < sh.segments * sh.rows
    fits x lt (inl same) = rw (same, get_or-set_same f.origins i q 0 (rw (Numbers.origins_long s.numbers, ← same) lt)) range
    fits x lt (inr other) = rw (get_or-set_other f.origins i x q 0 other) (Numbers.origins_fit s.numbers x lt)

pub Same-noted : (c new : Chart) (i q : ℕ) (r : Result Unit Off) → IsSound c → q < c.shape.segments * c.shape.rows → (IsTrue c.on → IsCopying c.fields) → Writes (with_origin i q) c r new → Same 0 0 c new
Same-noted c new i q r sound range copying writes = Same-put c new (with_origin i q) r sound (λ on. Keeps-unread c c.fields.fills c.fields.backs (set c.fields.origins i q) (Sound-noted c.shape c.fields c.flash i q range (copying on) sound)) refl writes

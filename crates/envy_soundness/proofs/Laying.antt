-- Lists whose first numbers are written one after another, and boards that a part of formatting left.
use Rattle.std.proofs.Common.{◌≡◌, ◌⊎◌, inl, inr, ℕ, zero, suc, ◌+◌, ◌-◌, ◌*◌, ◌^◌, ◌<◌, ◌≤◌, List, [], ◌∷◌, length, get_or, set, refl, sym, ◌∙◌, ap, subst, arith, add-one}
use Rattle.std.specs.Prelude.{IsTrue, Result, Ok, Err, OnErr, ◌==◌, false}
use Rattle.std.proofs.lemmas.Bool.{cases_lt, ne_eqb}
use Rattle.envy_base.specs.declared.board.Off.{Off}
use Rattle.envy_base.specs.declared.shape.Shape.{Shape}
use Rattle.envy_map.specs.Fields.{Fields, Chart, failed, with_fields}
use Rattle.envy_map.specs.Writes.{Writes, with_size, with_reserves, with_sums}
use Rattle.envy_soundness.specs.Formatting.{filled, with_sizes, with_extras, IsStopped, IsSpoilt, Reached}
use Rattle.envy_soundness.specs.Same.{Counted}
use Rattle.envy_soundness.proofs.Composition.{Counted-refl, Counted-trans, Counted-more, Counted-fields, Counted-failed}

pub filled-zero : {A : Type 0} (xs : List A) (x : A) → filled xs x 0 ≡ xs
filled-zero [] x = refl
filled-zero (y ∷ ys) x = refl

filled-suc : {A : Type 0} (xs : List A) (x : A) (n : ℕ) → set (filled xs x n) n x ≡ filled xs x (suc n)
filled-suc [] x n = refl
filled-suc (y ∷ ys) x zero = ap (λ (r : List _). x ∷ r) (sym (filled-zero ys x))
filled-suc (y ∷ ys) x (suc n) = ap (λ (r : List _). x ∷ r) (filled-suc ys x n)

pub filled-step : {A : Type 0} (xs : List A) (x : A) (n : ℕ) → set (filled xs x n) n x ≡ filled xs x (n + 1)
filled-step xs x n = rw add-one (filled-suc xs x n)

-- two at a time
pub filled-steps : {A : Type 0} (xs : List A) (x : A) (n : ℕ) → set (set (filled xs x n) n x) (n + 1) x ≡ filled xs x (n + 2)
filled-steps xs x n =
    let two : n + 2 ≡ (n + 1) + 1 = omega arith in
    ap (λ (r : List _). set r (n + 1) x) (filled-step xs x n) ∙ filled-step xs x (n + 1) ∙ ap (filled xs x) (sym two)

pub length-filled : {A : Type 0} (xs : List A) (x : A) (n : ℕ) → length (filled xs x n) ≡ length xs
length-filled [] x n = refl
length-filled (y ∷ ys) x zero = refl
length-filled (y ∷ ys) x (suc n) = ap suc (length-filled ys x n)

pub get_or-filled : {A : Type 0} (xs : List A) (x : A) (n i : ℕ) (d : A) → i < n → i < length xs → get_or (filled xs x n) i d ≡ x
get_or-filled [] x n i d lt room = absurd (omega arith)
get_or-filled (y ∷ ys) x zero i d lt room = absurd (omega arith)
get_or-filled (y ∷ ys) x (suc n) zero d lt room = refl
get_or-filled (y ∷ ys) x (suc n) (suc i) d lt room = get_or-filled ys x n i d (omega arith) (omega arith)

-- past the end nothing changes
pub filled-past : {A : Type 0} (xs : List A) (x : A) (n m : ℕ) → length xs ≤ n → length xs ≤ m → filled xs x n ≡ filled xs x m
filled-past [] x n m le less = refl
filled-past (y ∷ ys) x zero m le less = absurd (omega arith)
filled-past (y ∷ ys) x (suc n) zero le less = absurd (omega arith)
filled-past (y ∷ ys) x (suc n) (suc m) le less = ap (λ (r : List _). x ∷ r) (filled-past ys x n m (omega arith) (omega arith))

-- one more put of a part of formatting
pub Lays-more : (old mid new : Chart) (f g : Fields) (change : Fields → Fields) → mid ≡ with_fields old f → change f ≡ g → Writes change mid (Ok tt) new → new ≡ with_fields old g
Lays-more old mid new f g change was is (on, put) =
    put ∙ ap (λ (c : Chart). with_fields c (change c.fields)) was ∙ ap (with_fields old) is

pub Lays-stops : (old mid new : Chart) (f : Fields) (change : Fields → Fields) (off : Off) → IsTrue old.on → mid ≡ with_fields old f → f.magic ≡ old.fields.magic → (change f).magic ≡ old.fields.magic → Writes change mid (Err off) new → IsStopped 0 old new
Lays-stops old mid new f change off on was magic changed (inl (dark, is)) = absurd (let lit : mid.on ≡ old.on = ap (λ (c : Chart). c.on) was in cc)
Lays-stops old mid new f change off on was magic changed (inr (lit, g, either, is)) =
    subst (λ (c : Chart). IsStopped 0 old c) (sym (is ∙ ap (λ (c : Chart). failed (with_fields c g)) was))
    (record { off = refl; shape = refl; magic = at either; counted = Counted-failed old g on })
  where
    at : (g ≡ mid.fields) ⊎ (g ≡ change mid.fields) → g.magic ≡ old.fields.magic
    at (inl e) = ap (λ (h : Fields). h.magic) (e ∙ ap (λ (c : Chart). c.fields) was) ∙ magic
    at (inr e) = ap (λ (h : Fields). h.magic) (e ∙ ap (λ (c : Chart). change c.fields) was) ∙ changed

-- the fields are these, in the middle of a part of formatting
pub record IsLaidSo (old now : Chart) (f : Fields) : Type 0 where
  pub is : now ≡ with_fields old f
  pub on : IsTrue old.on

pub OnErr-any : {T E : Type 0} {P : Type 0} (r : Result T E) → P → OnErr r P
OnErr-any (Ok x) p = tt
OnErr-any (Err e) p = p

-- set_size for each of the three words that keep a shape
pub sizes-same : (f : Fields) (sh : Shape) (a b c : ℕ) → a ≡ sh.segments * 2 ^ 32 + sh.rows → b ≡ sh.pages * 2 ^ 32 + sh.shadows → c ≡ sh.frames * 2 ^ 32 + sh.entries → with_size 2 c (with_size 1 b (with_size 0 a f)) ≡ with_sizes sh f
sizes-same f sh a b c ea eb ec = rw (ea, eb, ec) refl

-- set_reserves and set_sums, under version 3 alone
pub extras-same : (f : Fields) (sh : Shape) (version a b : ℕ) → version ≡ 3 → a ≡ sh.reserves → b ≡ sh.sums → with_sums b (with_reserves a f) ≡ with_extras sh version f
extras-same f sh version a b three ea eb = rw (three, ea, eb) refl

pub extras-none : (f : Fields) (sh : Shape) (version : ℕ) → (version ≡ 3 → ⊥) → f ≡ with_extras sh version f
extras-none f sh version other = let differ : (version == 3) ≡ false = ne_eqb version 3 other in rw differ refl

pub Stops-put : (c new : Chart) (change : Fields → Fields) (off : Off) → IsTrue c.on → (change c.fields).magic ≡ c.fields.magic → Writes change c (Err off) new → IsStopped 0 c new
Stops-put c new change off on magic writes = Lays-stops c c new c.fields change off on refl refl magic writes

pub Reached-refl : (c : Chart) → IsTrue c.on → Reached 0 c c
Reached-refl c on = record { on = on; shape = refl; magic = refl; counted = Counted-refl c }

pub Reached-more : (n k : ℕ) (old new : Chart) → n ≤ k → Reached n old new → Reached k old new
Reached-more n k old new le r = record { on = r.on; shape = r.shape; magic = r.magic; counted = Counted-more 0 n 0 k old new (omega arith) le r.counted }

pub Reached-fields : (n : ℕ) (old c new : Chart) (f : Fields) → f.magic ≡ c.fields.magic → new ≡ with_fields c f → Reached n old c → Reached n old new
Reached-fields n old c new f magic is r = subst (λ (x : Chart). Reached n old x) (sym is) (record {
  on = r.on;
  shape = r.shape;
  magic = magic ∙ r.magic;
  counted = Counted-more 0 (n + 0) 0 n old (with_fields c f) (omega arith) (omega arith) (Counted-trans 0 n 0 0 old c (with_fields c f) r.counted (Counted-fields c f));
})

pub Reached-stops : (n k : ℕ) (old c new : Chart) → Reached n old c → IsStopped k c new → IsStopped (n + k) old new
Reached-stops n k old c new r s = record { off = s.off; shape = s.shape ∙ r.shape; magic = s.magic ∙ r.magic; counted = Counted-trans 0 n 0 k old c new r.counted s.counted }

pub Reached-spoils : (n k : ℕ) (old c new : Chart) → Reached n old c → IsSpoilt k 0 c new → IsSpoilt (n + k) 0 old new
Reached-spoils n k old c new r s = record { on = s.on; shape = s.shape ∙ r.shape; magic = s.magic ∙ r.magic; counted = Counted-trans 0 n 0 k old c new r.counted s.counted; bads = by_top (cases_lt c.bads (2 ^ 64 - 1)) }
  where
    by_top : (c.bads < 2 ^ 64 - 1) ⊎ (2 ^ 64 - 1 ≤ c.bads) → old.bads + 0 < 2 ^ 64 - 1 → old.bads + 0 < new.bads
    by_top (inl below) low = let a = Counted.bads r.counted in let b = s.bads (omega arith) in omega arith
    by_top (inr top) low = let b = Counted.bads s.counted in omega arith

pub Stopped-more : (n k : ℕ) (old new : Chart) → n ≤ k → IsStopped n old new → IsStopped k old new
Stopped-more n k old new le s = record { off = s.off; shape = s.shape; magic = s.magic; counted = Counted-more 0 n 0 k old new (omega arith) le s.counted }

pub Spoilt-more : (n k m : ℕ) (old new : Chart) → n ≤ k → IsSpoilt n m old new → IsSpoilt k m old new
Spoilt-more n k m old new le s = record { on = s.on; shape = s.shape; magic = s.magic; counted = Counted-more 0 n 0 k old new (omega arith) le s.counted; bads = s.bads }

pub Reached-trans : (n k : ℕ) (old c new : Chart) → Reached n old c → Reached k c new → Reached (n + k) old new
Reached-trans n k old c new r s = record { on = s.on; shape = s.shape ∙ r.shape; magic = s.magic ∙ r.magic; counted = Counted-trans 0 n 0 k old c new r.counted s.counted }

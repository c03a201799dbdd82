-- What looks leave, and how their failures are handed on.
use Rattle.std.proofs.Common.{◌≡◌, ℕ, Bool, true, false, IsTrue, List, Result, Ok, Err, IsErrAnd, refl, sym, subst, ◌∙◌}
use Rattle.envy_base.specs.declared.board.Off.{Off}
use Rattle.envy_array.specs.Words.{Sheet, IsSheet, Works, Spends, Loads, LoadsRun}
use Rattle.envy_array.proofs.Working.{Works-refl, Works-trans, Spends-refl, Spends-trans, was_on}
use Rattle.envy_btree.specs.declared.fault.LookFault.{LookFault}
use Rattle.envy_btree.specs.declared.fault.LookFault.TheVariants.{Off as LookOff, Broken}
use Rattle.envy_btree.specs.Answers.{Answers}
use Rattle.envy_btree.specs.Index.{IsIndex}
use Rattle.envy_btree.specs.Looking.{Looks, Powers, Sees}

no_both : {P : Type 0} (b : Bool) → IsTrue b → b ≡ false → P
no_both b t f = absurd (let e : true ≡ false = sym t ∙ f in cc)

pub Looks-refl : (s : Sheet) → Looks s s
Looks-refl s = record { works = Works-refl s; spends = Spends-refl s; same = λ on. (refl, refl) }

pub Looks-trans : (a b c : Sheet) → Looks a b → Looks b c → Looks a c
Looks-trans a b c v w = record {
  works = Works-trans 0 0 a b c v.works w.works;
  spends = Spends-trans 0 0 a b c v.spends w.spends;
  same = λ on. let m = v.same (was_on 0 b c w.works on) in let n = w.same on in (n.0 ∙ m.0, n.1 ∙ m.1);
}

pub load-looks : (i : ℕ) (a b : Sheet) (r : Result ℕ Off) → Works 0 a b → Spends 0 a b → Loads a i r b → Looks a b
load-looks i a b (Ok v) w s l = record { works = w; spends = s; same = λ on. (l.2, l.3) }
load-looks i a b (Err e) w s l = record { works = w; spends = s; same = λ on. absurd (no_both b.on on l) }

pub run-looks : (i : ℕ) (run : List ℕ) (a b : Sheet) (r : Result Unit Off) → Works 0 a b → Spends 0 a b → LoadsRun a i run r b → Looks a b
run-looks i run a b (Ok v) w s l = record { works = w; spends = s; same = λ on. (l.2, l.3) }
run-looks i run a b (Err e) w s l = record { works = w; spends = s; same = λ on. absurd (no_both b.on on l) }

-- what a `?` hands on after power failed

pub off-powers : {T : Type 0} (r : Result T LookFault) (s : Sheet) → IsErrAnd r (λ e. e ≡ LookOff) → s.on ≡ false → Powers r s
off-powers (Ok x) s h off = absurd h
off-powers {T = T} (Err e) s h off = subst (λ z. Powers {T = T} (Err z) s) (sym h) off

pub off-sees : {T : Type 0} (P : T → Type 0) (r : Result T LookFault) → IsErrAnd r (λ e. e ≡ LookOff) → Sees P r
off-sees P (Ok x) h = absurd h
off-sees P (Err e) h = subst (λ z. Sees P (Err z)) (sym h) tt

-- and after any fault

pub err-powers : {T : Type 0} (A : Type 0) (r : Result T LookFault) (e : LookFault) (s : Sheet) → IsErrAnd r (λ x. x ≡ e) → Powers {T = A} (Err e) s → Powers r s
err-powers A (Ok x) e s h p = absurd h
err-powers {T = T} A (Err x) LookOff s h p = subst (λ z. Powers {T = T} (Err z) s) (sym h) p
err-powers {T = T} A (Err x) Broken s h p = subst (λ z. Powers {T = T} (Err z) s) (sym h) p

pub err-sees : {T A : Type 0} (Q : A → Type 0) (P : T → Type 0) (r : Result T LookFault) (e : LookFault) → IsErrAnd r (λ x. x ≡ e) → Sees Q (Err e) → Sees P r
err-sees Q P (Ok x) e h s = absurd h
err-sees Q P (Err x) LookOff h s = subst (λ z. Sees P (Err z)) (sym h) tt
err-sees Q P (Err x) Broken h s = absurd s

-- the answer of a look at a map
pub answers-of : {T : Type 0} (P : T → Type 0) (es : List (ℕ × ℕ)) (old new : Sheet) (r : Result T LookFault) → IsSheet old → IsIndex old.words es → Looks old new → Powers r new → Sees P r → Answers P es old r new
answers-of P es old new (Ok x) law i l on p = (on, p, subst (λ w. IsIndex w es) (sym (l.same on).0) i)
answers-of P es old new (Err LookOff) law i l off p = (off, λ shut. subst (λ w. IsIndex w es) (law.shut shut ∙ sym l.works.kept) i)
answers-of P es old new (Err Broken) law i l on p = p

-- a fault that can't be that the words are broken
pub unbroken : {T : Type 0} (P : T → Type 0) (r : Result T LookFault) (e : LookFault) → IsErrAnd r (λ x. x ≡ e) → (e ≡ Broken → ⊥) → Sees P r
unbroken P (Ok x) e h whole = absurd h
unbroken P (Err x) LookOff h whole = subst (λ z. Sees P (Err z)) (sym h) tt
unbroken P (Err x) Broken h whole = absurd (whole refl)

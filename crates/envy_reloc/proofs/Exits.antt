-- What stands at an exit where power is off, and where nothing was erased any more.
use Rattle.std.proofs.Common.{◌≡◌, ◌∙◌, ℕ, Bool, true, false, IsTrue, Result, Ok, Err, IfOk, IsErrAnd, sym, ap, subst, arith}
use Rattle.std.specs.Prelude.{OnErr, OnOk, sum}
use Rattle.envy_base.specs.declared.board.Trouble.{Trouble}
use Rattle.envy_base.specs.declared.board.Trouble.TheVariants.{Off as TroubleOff, Bad}
use Rattle.envy_base.specs.Counting.{Tally}
use Rattle.envy_map.specs.Fields.{Chart}
use Rattle.envy_base.specs.declared.board.Off.{Off}
use Rattle.envy_soundness.specs.Power.{power_of, power_after}
use Rattle.envy_soundness.specs.Same.{Same, Stays, Counted, Grows}

-- what holds where power is on, where it is off
pub unpowered : {P : Type 0} (b : Bool) → b ≡ false → IsTrue b → P
unpowered b off on = absurd (let e : true ≡ false = sym on ∙ off in cc)

-- no segment was erased after a count was made
pub erases-end : (n m : ℕ) (a b c : Chart) → Tally (sum a.erases) n (sum b.erases) m → Same 0 0 b c → Tally (sum a.erases) n (sum c.erases) m
erases-end n m a b c t s =
    let grows = Counted.erases (Stays.counted (Same.stays s)) in
    let least = Grows.least grows in
    let few = Grows.few grows in
    let same : sum b.erases ≡ sum c.erases = omega arith in
    subst (λ (x : ℕ). Tally (sum a.erases) n x m) same t

-- where a `?` hands on that power is off
pub off-after : {T : Type 0} (r : Result T Trouble) (b : Bool) → b ≡ false → IsErrAnd r (λ e. e ≡ TroubleOff) → b ≡ power_after r
off-after (Ok x) b off h = absurd h
off-after {T = T} (Err e) b off h = off ∙ sym (ap (λ (x : Trouble). power_after {A = T} (Err x)) h)

pub off-if : {T : Type 0} (r : Result T Trouble) (P : T → Type 0) → IsErrAnd r (λ e. e ≡ TroubleOff) → IfOk r P
off-if (Ok x) P h = absurd h
off-if (Err e) P h = tt

pub off-bad : {P T : Type 0} (r : Result T Trouble) → IsErrAnd r (λ e. e ≡ TroubleOff) → r ≡ Err Bad → P
off-bad (Ok x) h is = absurd h
off-bad (Err e) h is = absurd (let no : TroubleOff ≡ Bad = cc in cc)

-- where it hands on any error
pub err-after : {T : Type 0} (A : Type 0) (r : Result T Trouble) (b : Bool) (e : Trouble) → b ≡ power_after {A = A} (Err e) → IsErrAnd r (λ x. x ≡ e) → b ≡ power_after r
err-after A (Ok x) b e power h = absurd h
err-after {T = T} A (Err x) b Bad power h = power ∙ sym (ap (λ (y : Trouble). power_after {A = T} (Err y)) h)
err-after {T = T} A (Err x) b TroubleOff power h = power ∙ sym (ap (λ (y : Trouble). power_after {A = T} (Err y)) h)

pub err-if : {T : Type 0} (r : Result T Trouble) (P : T → Type 0) (e : Trouble) → IsErrAnd r (λ x. x ≡ e) → IfOk r P
err-if (Ok x) P e h = absurd h
err-if (Err x) P e h = tt

pub err-bad : {T : Type 0} (r : Result T Trouble) (e : Trouble) → IsErrAnd r (λ x. x ≡ e) → r ≡ Err Bad → e ≡ Bad
err-bad (Ok x) e h is = absurd h
err-bad (Err x) e h is = cc

-- the same of a call that can end with `Off` alone
pub none-if : {T : Type 0} (r : Result T Off) (Q : Off → Type 0) (P : T → Type 0) → IsErrAnd r Q → IfOk r P
none-if (Ok x) Q P h = absurd h
none-if (Err e) Q P h = tt

pub none-off : {T : Type 0} (r : Result T Off) (Q : Off → Type 0) (P : Type 0) → IsErrAnd r Q → OnOk r P
none-off (Ok x) Q P h = absurd h
none-off (Err e) Q P h = tt

pub none-err : {T : Type 0} (r : Result T Off) (Q : Off → Type 0) (A : Type 0) → A → IsErrAnd r Q → OnErr r A
none-err (Ok x) Q A a h = absurd h
none-err (Err e) Q A a h = a

pub none-power : {T : Type 0} (r : Result T Off) (Q : Off → Type 0) (b : Bool) → b ≡ false → IsErrAnd r Q → b ≡ power_of r
none-power (Ok x) Q b off h = absurd h
none-power (Err e) Q b off h = off

-- a call that gave a value wasn't bad
pub ok-bad : {P T : Type 0} (x : T) → ◌≡◌ {A = Result T Trouble} (Ok x) (Err Bad) → P
ok-bad x is = absurd (cc)

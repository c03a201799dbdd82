-- What stands where a `?` hands on that power is off, and of a swap that may be due.
use Rattle.std.proofs.Common.{◌≡◌, Bool, false, Option, None, Some, Result, Ok, Err, IsErrAnd, IfOk, IfSome}
use Rattle.std.specs.Prelude.{OnErr}
use Rattle.envy_base.specs.declared.board.Off.{Off}
use Rattle.envy_soundness.specs.Power.{power_of}

pub none-if : {T : Type 0} (r : Result T Off) (Q : Off → Type 0) (P : T → Type 0) → IsErrAnd r Q → IfOk r P
none-if (Ok x) Q P h = absurd h
none-if (Err e) Q P h = tt

pub on-err : {T : Type 0} (r : Result T Off) (A : Type 0) → A → OnErr r A
on-err (Ok x) A is = tt
on-err (Err e) A is = is

pub none-power : {T : Type 0} (r : Result T Off) (Q : Off → Type 0) (b : Bool) → b ≡ false → IsErrAnd r Q → b ≡ power_of r
none-power (Ok x) Q b off h = absurd h
none-power (Err e) Q b off h = off

pub if-each : {T : Type 0} (o : Option T) (A : Type 0) → A → IfSome o (λ x. A)
if-each None A is = tt
if-each (Some x) A is = is

pub if-none : {T : Type 0} (o : Option T) (P : T → Type 0) → o ≡ None → IfSome o P
if-none None P is = tt
if-none (Some x) P is = absurd (cc)

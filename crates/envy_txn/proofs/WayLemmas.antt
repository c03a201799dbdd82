-- What stands where a call hands on that power is off.
use Rattle.std.proofs.Common.{◌≡◌, ◌∙◌, sym, Bool, true, false, Result, Ok, Err, IsErrAnd}
use Rattle.std.specs.Prelude.{OnOk}
use Rattle.envy_base.specs.declared.board.Off.{Off}
use Rattle.envy_soundness.specs.Power.{power_of}

pub none-done : {T : Type 0} (r : Result T Off) (Q : Off → Type 0) (P : Type 0) → IsErrAnd r Q → OnOk r P
none-done (Ok x) Q P h = absurd h
none-done (Err e) Q P h = tt

pub off-of : {T : Type 0} (r : Result T Off) (Q : Off → Type 0) (b : Bool) → b ≡ false → IsErrAnd r Q → b ≡ power_of r
off-of (Ok x) Q b off h = absurd h
off-of (Err e) Q b off h = off

-- what holds where power is on, where it is off
pub unlit : {P : Type 0} (b : Bool) → b ≡ false → b ≡ true → P
unlit b off on = absurd (let e : true ≡ false = sym on ∙ off in cc)

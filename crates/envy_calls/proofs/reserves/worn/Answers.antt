use Rattle.std.proofs.Common.{inl}
use Rattle.envy_calls.proofs.reserves.worn.Goals as goal

pub returns : goal.returns
returns g c =
    let found = c.in-Ok.ensures in
    rw c.in-Some.is (inl (c.number-2.ensures, found.power, record { retired = found.retired; left = found.left; all = found.all; tells = found.tells }))

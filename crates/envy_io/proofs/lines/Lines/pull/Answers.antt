use Rattle.std.proofs.Common.{◌+◌, ◌-◌, ◌≤◌, length, sym, arith}
use Rattle.envy_io.proofs.Fetched.{Pulls-ok}
use Rattle.envy_io.proofs.lines.Lines.pull.Goals as goal

pub returns : goal.returns
returns g c =
    let room : length c.fill_only.new.into ≤ c.self.inside.cap - c.self.inside.taken = omega (arith, c.min-room.ensures, c.fill_only.auto.into) in
    let inside : c.args.count + length c.fill_only.new.into ≤ length c.args.into.now = omega (arith, c.min-room.ensures, c.fill_only.auto.into) in
    record { pulls = Pulls-ok c.args.self.now _ _ _ c.args.into.now c.fill_only.new.into _ c.args.count _ (sym c.self.view_is) c.requires.may (omega (arith, c.requires.missing)) c.in_ok-more.ensures room inside }

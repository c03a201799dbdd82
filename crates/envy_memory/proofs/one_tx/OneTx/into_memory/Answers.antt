use Rattle.std.proofs.Common.{false}
use Rattle.envy_memory.proofs.Ended.{shut-stands}
use Rattle.envy_memory.proofs.Transacting.{begun-on, flag-is, shut-on}
use Rattle.envy_memory.proofs.one_tx.OneTx.into_memory.Goals as goal

pub returns-clause-stands : goal.returns-clause-stands
returns-clause-stands g c on shut =
    let e = c.invariant_holds.ensures in
    let p = c.args.self.memory in
    shut-stands p.chart on e.magic e.version e.sound (flag-is p.chart c.args.self.begun false (shut-on p.chart.on c.args.self.begun on shut) c.args.self.held)

pub returns-clause-resumes : goal.returns-clause-resumes
returns-clause-resumes g c begun =
    let p = c.args.self.memory in
    rw (begun-on p.chart.on c.args.self.begun begun).1 at c.args.self.held

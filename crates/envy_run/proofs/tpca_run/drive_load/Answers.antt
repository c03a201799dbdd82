use Rattle.std.proofs.Common.{inl, subst, sym}
use Rattle.envy_tpca.specs.Driving.{IsDriven}
use Rattle.envy_tpca.specs.Load.{Draws}
use Rattle.envy_run.specs.Drives.{report}
use Rattle.envy_run.specs.Writing.{WritesAs}
use Rattle.envy_run.specs.declared.endings.Ending.{Ending}
use Rattle.envy_run.proofs.Accounts.{writes-as}
use Rattle.envy_run.proofs.tpca_run.drive_load.Goals as goal

pub returns-in-Ok : goal.returns-in-Ok
returns-in-Ok g c =
    let d = c.in-Ok.ensures in
    let text = report c.args.area.now c.in-Ok.sums in
    let to = g.K.Sink.drain c.args.sink.now in
    let sink = g.K.Sink.drain c.write_report.new.sink in
    record {
      ends = inl (record {
        sums = c.in-Ok.sums;
        driven = subst (λ (load : Draws). IsDriven c.args.area.now load c.args.every c.args.memory.now c.in-Ok.sums c.drive.new.memory) c.new-load.ensures d.driven;
        writes = subst (λ (e : Ending). WritesAs text e to sink) (sym c.written.ensures) (writes-as text c.write_report.result to sink c.write_report.ensures);
      });
      keeps = d.keeps;
      plans = d.plans.1;
      last_plan = d.last;
    }

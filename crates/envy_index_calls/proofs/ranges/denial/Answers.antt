use Rattle.std.proofs.Common.{refl, rules}
use Rattle.envy_index_calls.specs.Ranges.{first_barred}
use Rattle.envy_index_calls.proofs.Ranging.{alone-as}
use Rattle.envy_index_calls.proofs.ranges.denial.Goals as goal

pub returns-clause-reason : goal.returns-clause-reason
returns-clause-reason g c =
    let chart = c.args.memory.now.chart in
    record {
      array = c.requires;
      on = search rules;
      alone = alone-as c.first_barred.result (first_barred c.args.whose) chart chart c.in-Ok-false.field-0 c.first_barred.ensures.number refl c.in-Ok-false.field-0-test c.in-Ok-false.ensures.open;
      own = search rules;
      fits = search rules;
    }

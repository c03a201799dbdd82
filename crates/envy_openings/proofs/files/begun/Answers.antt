use Rattle.std.proofs.Common.{ap, subst}
use Rattle.envy_args.specs.declared.keep.KeepOptions.{KeepOptions}
use Rattle.envy_begun.specs.Beginning.{HasBegun}
use Rattle.envy_begun.specs.Plans.{BeginsAs, Plans}
use Rattle.envy_policy.specs.declared.setup.Setup.{Setup}
use Rattle.envy_openings.specs.Files.{options_of}
use Rattle.envy_openings.proofs.Begun.{port-caused, same_setup}
use Rattle.envy_openings.proofs.files.begun.Goals as goal

pub returns-in-Ok-begin-clause-begun : goal.returns-in-Ok-begin-clause-begun
returns-in-Ok-begin-clause-begun c =
    let holding = c.in_ok-setup.holding in
    let file = c.args.file.now in
    let plans = subst (λ (o : KeepOptions). Plans holding o file c.in_ok-setup.setup) c.options-options.ensures c.in_ok-setup.ensures.plans in
    let same = same_setup holding c.args.setup.now c.in_ok-setup.setup file c.requires.six plans in
    let begun = c.in-Ok-begin.ensures.begun in
    let array = begun.0 in (
      holding,
      array,
      subst (λ (s : Setup). Plans holding (options_of c.args.setup.now) file s) same plans,
      subst (λ (s : Setup). BeginsAs holding file s array) same begun.1,
      subst (λ (s : Setup). HasBegun s array c.in-Ok-begin.memory) same begun.2,
      c.in-Ok-begin.ensures.board,
      λ written. c.in-Ok-begin.ensures.same written (ap (λ (o : KeepOptions). o.compact) c.options-options.ensures),
    )

pub returns-in-Err-clause-refused : goal.returns-in-Err-clause-refused
returns-in-Err-clause-refused c =
    let plans = subst (λ (o : KeepOptions). Plans c.in_ok-setup.holding o c.args.file.now c.in_ok-setup.setup) c.options-options.ensures c.in_ok-setup.ensures.plans in
    port-caused c.args.setup.now _ c.args.file.now _ _ c.in-Err.open_fault c.options-options.ensures c.in-Err.ensures.failed (c.in_ok-setup.setup, c.in_ok-setup.holding, plans, c.in_ok-setup.ensures.checks)

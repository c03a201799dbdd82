use Rattle.std.proofs.Common.{ap}
use Rattle.std.proofs.lemmas.Result.{err_from_is_err_and}
use Rattle.envy_memory.specs.Calls.{fresh}
use Rattle.envy_memory.specs.Picture.{Picture, counts_of}
use Rattle.envy_tpca.proofs.Loading.{accessed-same}
use Rattle.envy_tpca.proofs.Calling.{begin-done, begin-stopped}
use Rattle.envy_tpca.proofs.Since.{since-quiet}
use Rattle.envy_tpca.proofs.calls.open.Goals as goal

pub returns-in_err-begin-clause-after : goal.returns-in_err-begin-clause-after
returns-in_err-begin-clause-after g c =
    let p = err_from_is_err_and c.from_residual.result c.from_residual.ensures.1 in
    let did = since-quiet c.args.memory.now c.begin.new.self c.begin.ensures.below.works (ap (λ (x : Picture). counts_of x.parts) c.begin.ensures.below.kept) in
    rw (p.1, p.2) (λ n first before rests since.
    begin-stopped n first before c.args.memory.now c.begin.new.self rests since did c.begin.ensures.cut c.in_err-begin.field-0.0 (c.in_err-begin.ensures.step (fresh c.args.memory.now.chart.shape.shadows before) rests))

pub returns-clause-after : goal.returns-clause-after
returns-clause-after g c =
    let did = since-quiet c.args.memory.now c.begin.new.self c.begin.ensures.below.works (ap (λ (x : Picture). counts_of x.parts) c.begin.ensures.below.kept) in
    λ n first before rests since.
    begin-done n first before c.in_ok-begin.field-0 c.args.memory.now c.begin.new.self rests since did (c.in_ok-begin.ensures.step (fresh c.args.memory.now.chart.shape.shadows before) rests)

pub returns-clause-accessed : goal.returns-clause-accessed
returns-clause-accessed g c = accessed-same c.args.memory.now.parts.cache c.begin.new.self.parts.cache (ap (λ (x : Picture). x.parts.cache) c.begin.ensures.below.kept)

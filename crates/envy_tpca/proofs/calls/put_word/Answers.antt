use Rattle.std.proofs.Common.{ap, Err}
use Rattle.std.proofs.lemmas.Result.{err_from_is_err_and}
use Rattle.envy_engine.specs.Counts.{Counting}
use Rattle.envy_array.specs.Array.{page_of}
use Rattle.envy_tpca.proofs.Loading.{accessed-one}
use Rattle.envy_tpca.proofs.Calling.{put-done, put-stopped}
use Rattle.envy_tpca.proofs.Since.{since-works}
use Rattle.envy_tpca.proofs.calls.put_word.Goals as goal

pub returns-in_err-put-clause-after : goal.returns-in_err-put-clause-after
returns-in_err-put-clause-after g c =
    let p = err_from_is_err_and c.from_residual.result c.from_residual.ensures.1 in
    let did = since-works _ _ c.args.memory.now c.put.new.self c.put.ensures.below.works (Counting.tallies c.put.ensures.below.counts) in
    rw (p.1, p.2) (λ n first before now most more last r lt widens.
    put-stopped n first before now c.args.t most more last c.args.a c.args.w c.args.memory.now c.put.new.self r lt widens did c.put.ensures.cut c.in_err-put.field-0.0 (λ e. c.in_err-put.ensures.bad (ap Err e)) (c.in_err-put.ensures.step r.array r.stands))

pub returns-clause-after : goal.returns-clause-after
returns-clause-after g c =
    let did = since-works _ _ c.args.memory.now c.put.new.self c.put.ensures.below.works (Counting.tallies c.put.ensures.below.counts) in
    λ n first before now most more last r lt widens.
    put-done n first before now c.args.t most more last c.args.a c.args.w c.args.memory.now c.put.new.self r lt widens did (c.in_ok-put.ensures.step r.array r.stands)

pub returns-clause-accessed : goal.returns-clause-accessed
returns-clause-accessed g c = accessed-one (page_of c.args.a) c.args.memory.now.parts.cache c.put.new.self.parts.cache c.in_ok-put.ensures.below.visits

use Rattle.std.proofs.Common.{ap}
use Rattle.std.proofs.lemmas.Result.{err_from_is_err_and}
use Rattle.envy_memory.specs.Picture.{Picture, counts_of}
use Rattle.envy_tpca.proofs.Loading.{accessed-same}
use Rattle.envy_tpca.proofs.Calling.{commit-done, commit-stopped}
use Rattle.envy_tpca.proofs.Since.{since-quiet}
use Rattle.envy_tpca.proofs.calls.close.Goals as goal

pub returns-in_err-commit-clause-after : goal.returns-in_err-commit-clause-after
returns-in_err-commit-clause-after g c =
    let p = err_from_is_err_and c.from_residual.result c.from_residual.ensures.1 in
    let did = since-quiet c.args.memory.now c.commit.new.self c.commit.ensures.below.works (ap (λ (x : Picture). counts_of x.parts) c.commit.ensures.below.kept) in
    rw (p.1, p.2) (λ n first before now most last r.
    commit-stopped n first before now c.args.t most last c.args.memory.now c.commit.new.self r did c.commit.ensures.cut c.in_err-commit.field-0.0 (c.in_err-commit.ensures.step r.array r.stands))

pub returns-clause-after : goal.returns-clause-after
returns-clause-after g c =
    let did = since-quiet c.args.memory.now c.commit.new.self c.commit.ensures.below.works (ap (λ (x : Picture). counts_of x.parts) c.commit.ensures.below.kept) in
    λ n first before now most last r.
    commit-done n first before now c.args.t most last c.args.memory.now c.commit.new.self r did (c.in_ok-commit.ensures.step r.array r.stands)

pub returns-clause-accessed : goal.returns-clause-accessed
returns-clause-accessed g c = accessed-same c.args.memory.now.parts.cache c.commit.new.self.parts.cache (ap (λ (x : Picture). x.parts.cache) c.commit.ensures.below.kept)

use Rattle.std.proofs.Common.{◌-◌, refl, arith}
use Rattle.std.proofs.lemmas.Nat.{mul-lt}
use Rattle.envy_frames.proofs.Defaults.{default_home-fits}
use Rattle.envy_frames.proofs.home.default_home.Goals as goal

pub overflow_mul-result : goal.overflow_mul-result
overflow_mul-result c =
    let shape = c.requires.shape in
    let few = shape.few_segments in
    let some = shape.segments in
    let pages = shape.few_pages in
    let page = c.requires.page in
    let is = c.positions_of.ensures in
    let small = mul-lt c.args.page c.positions_of.result 16777216 4096 (omega arith) (omega arith) in
    omega (arith, small)

pub overflow_cast-result-4 : goal.overflow_cast-result-4
overflow_cast-result-4 c =
    let few = c.requires.shape.few_segments in
    let fits = default_home-fits c.args.shape.now c.args.page c.requires.shape c.requires.page in
    rw c.positions_of.ensures (omega (arith, fits))

pub returns-clause-value : goal.returns-clause-value
returns-clause-value c = rw c.positions_of.ensures refl

pub returns-clause-position : goal.returns-clause-position
returns-clause-position c = rw c.positions_of.ensures (default_home-fits c.args.shape.now c.args.page c.requires.shape c.requires.page)

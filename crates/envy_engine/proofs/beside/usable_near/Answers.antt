use Rattle.std.proofs.Common.{◌≡◌, ◌<◌, ◌-◌, ℕ, Option, None, Some, MatchOption, IfSome, get_or, ap, arith}
use Rattle.envy_base.specs.declared.shape.Shape.{Shape}
use Rattle.envy_map.specs.Fields.{Chart, chart}
use Rattle.envy_policy.specs.Choice.{IsLeast}
use Rattle.envy_policy.specs.History.{History, partition_of}
use Rattle.envy_reloc.specs.Plan.{IsFreeOf}
use Rattle.envy_space.specs.Pool.{Pool}
use Rattle.envy_victims.specs.Choosing.{IsFreeBeside}
use Rattle.envy_engine.specs.Flushing.{IsNoneNear, IsLowestNear}
use Rattle.envy_engine.proofs.AvailLemmas.{Spares, found-available}
use Rattle.envy_engine.proofs.beside.usable_near.Goals as goal
use Rattle.envy_base.specs.Shape.{positions_of}

within : (h : History) (home : ℕ) (c : Chart) (found : Option ℕ) → MatchOption found (IsNoneNear h home c) (IsLowestNear h home c) → IfSome found (λ k. k < positions_of c.shape)
within h home c None none = tt
within h home c (Some k) is = is.is.position

abbrev Answer : History → Pool → ℕ → Option ℕ → Option ℕ → Type 0
Answer h pool home avoided found = MatchOption found ((k : ℕ) → IsFreeBeside h pool (partition_of h home) avoided k → ⊥) (IsLeast (IsFreeBeside h pool (partition_of h home) avoided) (λ k. k))

room : (h : History) (pool : Pool) (home rows : ℕ) (avoided found : Option ℕ) → Answer h pool home avoided found → pool.shape.rows ≡ rows → IfSome found (λ k. get_or pool.fills (get_or pool.positions k 0) 0 < rows)
room h pool home rows avoided None none same = tt
room h pool home rows avoided (Some k) is same = let some = IsFreeBeside.free is.holds in omega arith

free : (h : History) (pool : Pool) (home : ℕ) (c : Chart) (avoided found : Option ℕ) → Answer h pool home avoided found → Spares c avoided → IfSome found (λ k. IsFreeOf c.fields.job (get_or pool.positions k 0))
free h pool home c avoided None none spares = tt
free h pool home c avoided (Some k) is spares = spares (get_or pool.positions k 0) (IsFreeBeside.other is.holds)

pub returns-clause-lowest : goal.returns-clause-lowest
returns-clause-lowest g c =
    let x = c.args.parts.now in
    let e = c.in_ok-relocated.ensures in
    found-available x.chooser c.args.home (chart (g.B.Board.state c.args.board.now)) x.space c.in_ok-relocated.relocated c.free_beside.result c.requires.ready.agrees.pool e.others e.is c.free_beside.ensures

pub returns-clause-within : goal.returns-clause-within
returns-clause-within g c =
    let x = c.args.parts.now in
    let old = chart (g.B.Board.state c.args.board.now) in
    let e = c.in_ok-relocated.ensures in
    within x.chooser c.args.home old c.free_beside.result (found-available x.chooser c.args.home old x.space c.in_ok-relocated.relocated c.free_beside.result c.requires.ready.agrees.pool e.others e.is c.free_beside.ensures)

pub returns-clause-room : goal.returns-clause-room
returns-clause-room g c =
    let x = c.args.parts.now in
    let old = chart (g.B.Board.state c.args.board.now) in
    room x.chooser x.space c.args.home old.shape.rows c.in_ok-relocated.relocated c.free_beside.result c.free_beside.ensures (ap (λ (sh : Shape). sh.rows) c.requires.ready.fits.pool)

pub returns-clause-free : goal.returns-clause-free
returns-clause-free g c =
    let x = c.args.parts.now in
    free x.chooser x.space c.args.home (chart (g.B.Board.state c.args.board.now)) c.in_ok-relocated.relocated c.free_beside.result c.free_beside.ensures c.in_ok-relocated.ensures.others

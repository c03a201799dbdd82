-- What calls of one memory do to its counts.
use Rattle.std.proofs.Common.{◌-◌, ◌∙◌, arith}
use Rattle.envy_engine.proofs.CountLemmas.{Tallies-trans}
use Rattle.envy_memory.specs.Picture.{Picture}
use Rattle.envy_mirror.specs.Asking.{Reckons}

pub Reckons-trans : (p q r : Picture) → Reckons p q → Reckons q r → Reckons p r
Reckons-trans p q r a b = record {
  shape = b.shape ∙ a.shape;
  cuts = let x = a.cuts in let y = b.cuts in omega arith;
  bads = let x = a.bads in let y = b.bads in omega arith;
  pulled = b.pulled ∙ a.pulled;
  plans = b.plans ∙ a.plans;
  last_plan = b.last_plan ∙ a.last_plan;
  lives = b.lives ∙ a.lives;
  given = b.given ∙ a.given;
  tallies = Tallies-trans p.chart q.chart r.chart p.parts q.parts r.parts a.tallies b.tallies;
}

-- A pair before the first line.
use Rattle.std.proofs.Common.{[], refl, arith}
use Rattle.envy_array.specs.Array.{Array}
use Rattle.envy_memory.specs.Picture.{Picture}
use Rattle.envy_mirror.specs.Mirroring.{Mirrors}
use Rattle.envy_mirror.specs.Pair.{Pair, started}
use Rattle.envy_pair.specs.Bills.{Bill}
use Rattle.envy_pair.specs.Restarting.{no_toll}
use Rattle.envy_pair.specs.Serving.{MirroredSince, no_past, sums_since}
use Rattle.envy_pair.specs.State.{begun}
use Rattle.envy_pair.proofs.Charging.{Charged-refl}

bill-none : (p : Pair) → Bill (sums_since [] 0 0) p p
bill-none p = record {
  first = no_toll;
  second = no_toll;
  to_first = Charged-refl p.first.memory;
  to_second = Charged-refl p.second.memory;
  pulls = omega arith;
  faults = omega arith;
  losts = omega arith;
  plans = refl;
  first_falls = omega arith;
  second_falls = omega arith;
  few_pulls = omega arith;
  few_faults = omega arith;
  few_losts = omega arith;
  few_first = omega arith;
  few_second = omega arith;
}

pub begins : (m : Array) (a b : Picture) → Mirrors (started a b) m → MirroredSince (record { state = begun m a.chart.shape.pages; pair = started a b }) (started a b) 0 []
begins m a b mirrors = record {
  known = record { array = m; first = no_past; second = no_past };
  run = refl;
  serves = record { mirrors = mirrors; first = λ dead. cc; second = λ dead. cc };
  within = omega arith;
  bill = bill-none (started a b);
  told = tt;
}

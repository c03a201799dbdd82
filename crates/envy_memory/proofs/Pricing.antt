-- A memory with one transaction: the flash work of its calls, in puts.
use Rattle.std.proofs.Common.{◌≡◌, ℕ, ◌*◌, ◌≤◌, Bool, ap, arith}
use Rattle.std.specs.Prelude.{sum}
use Rattle.envy_array.specs.Words.{Spends}
use Rattle.envy_soundness.specs.Same.{Counted, Grows}
use Rattle.envy_map.specs.Fields.{Chart}
use Rattle.envy_memory.specs.Below.{flush_programs, flush_erases}
use Rattle.envy_memory.specs.Calls.{Works}
use Rattle.envy_memory.specs.Picture.{Picture}
use Rattle.envy_memory.specs.Sheets.{put_price, sheet_of}

-- what a call of the memory began, in puts
pub sheet-spends : (n k j : ℕ) (p q : Picture) (b d : Bool) → k ≤ n * flush_programs p.chart.shape.rows → j ≤ n * flush_erases → Works k j p.chart q.chart → Spends n (sheet_of p b) (sheet_of q d)
sheet-spends n k j p q b d programs erases w =
    let few = Counted.few w.counted in
    let most = Grows.few (Counted.erases w.counted) in
    record {
      price = ap put_price w.shape;
      programs = omega arith;
      erases = omega arith;
    }

-- and where the board is as before
pub load-spends : (p q : Picture) (b : Bool) → q.chart ≡ p.chart → Spends 0 (sheet_of p b) (sheet_of q b)
load-spends p q b same = record {
  price = ap (λ (c : Chart). put_price c.shape) same;
  programs = let e = ap (λ (c : Chart). c.begun) same in omega arith;
  erases = let e = ap (λ (c : Chart). sum c.erases) same in omega arith;
}

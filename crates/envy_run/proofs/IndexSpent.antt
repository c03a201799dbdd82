-- The flash work of lines of an index, from that of the tree's calls.
use Rattle.std.proofs.Common.{◌≡◌, ℕ, ◌+◌, ◌*◌, ◌^◌, ◌≤◌, Bool, List, length, refl, sym, ap, subst, arith}
use Rattle.std.proofs.Math.Nat.{mul-le-mul_left}
use Rattle.std.specs.Prelude.{sum}
use Rattle.envy_array.specs.Words.{Spends as SheetSpends}
use Rattle.envy_base.specs.declared.faults.PlannedFault.{PlannedFault}
use Rattle.envy_base.specs.declared.shape.Shape.{Shape}
use Rattle.envy_btree.specs.Answers.{insert_puts, removal_puts}
use Rattle.envy_soundness.specs.Same.{Counted, Grows, Kept}
use Rattle.envy_map.specs.Fields.{Chart}
use Rattle.envy_memory.specs.Below.{flush_programs, flush_erases}
use Rattle.envy_memory.specs.Calls.{lit, planned}
use Rattle.envy_memory.specs.Picture.{Picture}
use Rattle.envy_memory.specs.Sheets.{sheet_of}
use Rattle.envy_run.specs.IndexSpending.{SpendsPuts, IsThriftyIndex, puts_in}
use Rattle.envy_run.specs.IndexTurns.{IndexTurn}
use Rattle.envy_run.specs.Spending.{Spends}
use Rattle.envy_run.proofs.Spent.{spends-none}

pub puts-none : (c : Chart) → SpendsPuts 0 c c
puts-none c = spends-none (0 * flush_programs c.shape.rows) (0 * flush_erases) c c refl refl

-- what a call of the tree says of the words it says of the board
pub puts-sheet : (n : ℕ) (p q : Picture) (b d : Bool) → SheetSpends n (sheet_of p b) (sheet_of q d) → SpendsPuts n p.chart q.chart
puts-sheet n p q b d s = let programs = s.programs in let erases = s.erases in record { programs = programs; erases = erases }

-- so of a change in no more words than an index has
pub puts-set : (p q : Picture) (b d : Bool) → length (sheet_of p b).words ≤ 2 ^ 25 → SheetSpends (insert_puts (length (sheet_of p b).words)) (sheet_of p b) (sheet_of q d) → SpendsPuts (insert_puts (2 ^ 25)) p.chart q.chart
puts-set p q b d few s =
    let same : insert_puts (length (sheet_of p b).words) ≡ insert_puts (2 ^ 25) = omega (arith, few) in
    puts-sheet (insert_puts (2 ^ 25)) p q b d (subst (λ (n : ℕ). SheetSpends n (sheet_of p b) (sheet_of q d)) same s)

pub puts-removed : (p q : Picture) (b d : Bool) → length (sheet_of p b).words ≤ 2 ^ 25 → SheetSpends (removal_puts (length (sheet_of p b).words)) (sheet_of p b) (sheet_of q d) → SpendsPuts (removal_puts (2 ^ 25)) p.chart q.chart
puts-removed p q b d few s =
    let same : removal_puts (length (sheet_of p b).words) ≡ removal_puts (2 ^ 25) = omega (arith, few) in
    puts-sheet (removal_puts (2 ^ 25)) p q b d (subst (λ (n : ℕ). SheetSpends n (sheet_of p b) (sheet_of q d)) same s)

-- a plan begins nothing
pub puts-planned : (fault : PlannedFault) (p q : Picture) → q ≡ record p { chart = planned fault p.chart } → SpendsPuts 0 p.chart q.chart
puts-planned fault p q is = subst (λ (x : Picture). SpendsPuts 0 p.chart x.chart) (sym is) (spends-none (0 * flush_programs p.chart.shape.rows) (0 * flush_erases) p.chart (planned fault p.chart) refl refl)

-- nor does a restart
pub spends-lit : (a b c : Chart) → Spends 0 0 a b → Kept (lit b) c → Spends 0 0 a c
spends-lit a b c s kept =
    let programs = s.programs in
    let erases = s.erases in
    let few = Counted.few kept.counted in
    let most = Grows.few (Counted.erases kept.counted) in
    record { programs = omega arith; erases = omega arith }

pub puts-then : (n : ℕ) (a b c : Chart) → SpendsPuts n a b → Spends 0 0 b c → SpendsPuts n a c
puts-then n a b c s t =
    let programs = s.programs in let erases = s.erases in let begun = t.programs in let erased = t.erases in
    record { programs = omega arith; erases = omega arith }

worth-both : (j k p q x y z : ℕ) → q ≡ p → y ≤ x + j * p → z ≤ y + k * q → z ≤ x + (j + k) * p
worth-both j k p q x y z same first next = let then_next = subst (λ r. z ≤ y + k * r) same next in omega (arith, first, then_next)

-- one line more
pub puts-more : (j k : ℕ) (a b c : Chart) → b.shape ≡ a.shape → SpendsPuts j a b → SpendsPuts k b c → SpendsPuts (j + k) a c
puts-more j k a b c same s t = record {
  programs = worth-both j k (flush_programs a.shape.rows) (flush_programs b.shape.rows) a.begun b.begun c.begun (ap (λ (sh : Shape). flush_programs sh.rows) same) s.programs t.programs;
  erases = worth-both j k flush_erases flush_erases (sum a.erases) (sum b.erases) (sum c.erases) refl s.erases t.erases;
}

-- a board that began with none counts that of its formatting and of its lines
pub thrifty-index : (times many : ℕ) (turns : List IndexTurn) (a c : Chart) → c.shape ≡ a.shape → times ≤ many → a.begun ≡ 0 → sum a.erases ≤ a.shape.segments * times → SpendsPuts (puts_in turns) a c → IsThriftyIndex many turns c
thrifty-index times many turns a c same le none before s = record {
  programs = let e = ap (λ (sh : Shape). puts_in turns * flush_programs sh.rows) same in let programs = s.programs in omega arith;
  erases = let e = ap (λ (sh : Shape). sh.segments * many) same in let more = mul-le-mul_left a.shape.segments le in let erases = s.erases in omega arith;
}

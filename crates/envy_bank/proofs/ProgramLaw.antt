-- A program and an upset of one row.
use Rattle.std.proofs.Common.{◌≡◌, ◌∙◌, inl, inr, ℕ, zero, suc, ◌/◌, ◌%◌, ◌<◌, List, [], length, get_or, set, refl, sym, ap, arith}
use Rattle.std.specs.Prelude.{bit_and}
use Rattle.std.specs.Int.{bytes_low_first, byte_at}
use Rattle.std.proofs.lemmas.Bool.{cases_lt}
use Rattle.std.proofs.lemmas.List.{ext_get_or, get_or_past, get_or-set_same, get_or-set_other, length-set}
use Rattle.std.proofs.lemmas.Nat.{and_le_l}
use Rattle.envy_bank.specs.Commands.{ChipState, upset_at}
use Rattle.envy_bank.specs.Lanes.{lane_of, row_from, lanes_at, rows_from, AreLanes, anded, EachLane}
use Rattle.envy_base.specs.State.{IsPage, ands}
use Rattle.envy_bank.proofs.Words.{AreBytes}
use Rattle.envy_bank.proofs.LaneLaws.{lanes_of, length-lanes_of, get_or-lanes_of, row_from-lanes_of, row_from-ands}
use Rattle.envy_bank.proofs.BankLaws.{none, length-lanes_at, get_or-lanes_at, get_or-rows_from, AreBytes-lanes_at, IsLane, AreLanes-kept, get_or-lanes_at-each, lanes_at-same, rows_from-set, bytes-set}

byte_at-below : (i n : ℕ) → byte_at i n < 256
byte_at-below zero n = omega arith
byte_at-below (suc i) n = omega arith

AreBytes-low_first : (i k n : ℕ) → AreBytes (bytes_low_first i k n)
AreBytes-low_first i zero n j = omega arith
AreBytes-low_first i (suc k) n zero = byte_at-below i n
AreBytes-low_first i (suc k) n (suc j) = AreBytes-low_first (suc i) k n j

pub lane_of-below : (page : List ℕ) (j : ℕ) → lane_of page j < 256
unfolding lane_of
lane_of-below page j = AreBytes-low_first 0 8 (get_or page (j / 8) 0) (j % 8)

pub AreBytes-lanes_of : (page : List ℕ) → AreBytes (lanes_of page)
AreBytes-lanes_of page j =
    elim (cases_lt j 256) [
      | inl lt ↦ rw (get_or-lanes_of page j lt) (lane_of-below page j)
      | inr ge ↦ rw (get_or_past (lanes_of page) j 0 (rw (length-lanes_of page) ge)) (omega arith)
    ]

IsLane-set : (size rows q v : ℕ) (c : ChipState) → v < 256 → IsLane size rows c → IsLane size rows (upset_at c q v)
IsLane-set size rows q v c fits lane = record {
  long = length-set c.bytes q v ∙ lane.long;
  same_rows = lane.same_rows;
  ready = record { bytes = bytes-set c.bytes q v lane.ready.bytes fits; mode = lane.ready.mode; erase_error = lane.ready.erase_error; program_error = lane.ready.program_error };
}

pub AreLanes-programmed : (size rows q : ℕ) (page : List ℕ) (chips new : List ChipState) → AreLanes size rows chips → EachLane (λ j c. anded q (lane_of page j) c) chips new → AreLanes size rows new
AreLanes-programmed size rows q page chips new are each =
    AreLanes-kept (λ j c. anded q (lane_of page j) c) size rows chips new are each (λ j c lt lane.
    let fits : bit_and (get_or c.bytes q 0) (lane_of page j) < 256 = (let less = and_le_l (get_or c.bytes q 0) (lane_of page j) in let byte = lane.ready.bytes q in omega arith) in
    IsLane-set size rows q (bit_and (get_or c.bytes q 0) (lane_of page j)) c fits lane)

pub AreLanes-upset : (size rows q : ℕ) (page : List ℕ) (chips new : List ChipState) → AreLanes size rows chips → EachLane (λ j c. upset_at c q (lane_of page j)) chips new → AreLanes size rows new
AreLanes-upset size rows q page chips new are each =
    AreLanes-kept (λ j c. upset_at c q (lane_of page j)) size rows chips new are each (λ j c lt lane. IsLane-set size rows q (lane_of page j) c (lane_of-below page j) lane)

pub rows_from-programmed : (size rows q : ℕ) (page : List ℕ) (chips new : List ChipState) → AreLanes size rows chips → EachLane (λ j c. anded q (lane_of page j) c) chips new → q < size → IsPage page
    → rows_from new size ≡ set (rows_from chips size) q (ands (get_or (rows_from chips size) q []) page)
rows_from-programmed size rows q page chips new are each lt is =
    let count = are.count in
    let f : ℕ → ChipState → ChipState = (λ j c. anded q (lane_of page j) c) in
    let lanes : row_from (lanes_at new q) ≡ ands (row_from (lanes_at chips q)) (row_from (lanes_of page)) =
    row_from-ands (lanes_at chips q) (lanes_of page) (lanes_at new q) (length-lanes_at new q ∙ each.long ∙ count) (length-lanes_at chips q ∙ count) (length-lanes_of page)
    (AreBytes-lanes_at chips q are.ready) (AreBytes-lanes_of page) (λ j less.
    let low : j < length chips = omega arith in
    let c = get_or chips j none in
    let in_range : q < length (ChipState.bytes (get_or chips j none)) = rw (are.sizes j none low) lt in
    get_or-lanes_at-each f chips new q j each low
    ∙ get_or-set_same (ChipState.bytes c) q (bit_and (get_or (ChipState.bytes c) q 0) (lane_of page j)) 0 in_range
    ∙ rw (get_or-lanes_of page j less, get_or-lanes_at chips q j none low) refl) in
    rows_from-set chips new size q (ands (get_or (rows_from chips size) q []) page) lt
    (lanes ∙ rw (row_from-lanes_of page is, get_or-rows_from chips size q lt) refl)
    (λ k ne. lanes_at-same f size rows chips new k are each (λ j c lane. get_or-set_other c.bytes q k (bit_and (get_or c.bytes q 0) (lane_of page j)) 0 ne))

pub rows_from-upset : (size rows q : ℕ) (page : List ℕ) (chips new : List ChipState) → AreLanes size rows chips → EachLane (λ j c. upset_at c q (lane_of page j)) chips new → q < size → IsPage page
    → rows_from new size ≡ set (rows_from chips size) q page
rows_from-upset size rows q page chips new are each lt is =
    let count = are.count in
    let long = each.long in
    let f : ℕ → ChipState → ChipState = (λ j c. upset_at c q (lane_of page j)) in
    let lanes : lanes_at new q ≡ lanes_of page = ext_get_or 0 (lanes_at new q) (lanes_of page) (length-lanes_at new q ∙ long ∙ count ∙ sym (length-lanes_of page)) (λ j within.
    let low : j < length chips = (let all = length-lanes_at new q in omega arith) in
    let in_range : q < length (ChipState.bytes (get_or chips j none)) = rw (are.sizes j none low) lt in
    get_or-lanes_at-each f chips new q j each low
    ∙ get_or-set_same (ChipState.bytes (get_or chips j none)) q (lane_of page j) 0 in_range
    ∙ sym (get_or-lanes_of page j (omega arith))) in
    rows_from-set chips new size q page lt (ap row_from lanes ∙ row_from-lanes_of page is)
    (λ k ne. lanes_at-same f size rows chips new k are each (λ j c lane. get_or-set_other c.bytes q k (lane_of page j) 0 ne))

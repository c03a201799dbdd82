-- What each call makes of a bank's rows, and what the command bytes make of each of its chips.
use Rattle.std.proofs.Common.{◌≡◌, ◌∙◌, inl, inr, ℕ, ◌*◌, ◌/◌, ◌+◌, ◌<◌, ◌≤◌, false, List, [], length, get_or, set, map, replicate, refl, sym, ap, arith}
use Rattle.std.specs.Prelude.{bit_and}
use Rattle.std.specs.List.{range_with_len}
use Rattle.std.proofs.lemmas.Bool.{cases_eq, cases_lt}
use Rattle.std.proofs.lemmas.List.{ext_get_or, get_or_past, get_or-map, map-set, length-map, get_or-replicate, length-replicate}
use Rattle.std.proofs.lemmas.List.FromFn.{get_or-map-range_with_len, length-map-range_with_len}
use Rattle.std.proofs.lemmas.Nat.{and_le_l, row_fits}
use Rattle.envy_bank.specs.declared.chip.Mode.TheVariants.{Array}
use Rattle.envy_bank.specs.Commands.{ChipState, with_erased_block, read_of, upset_at}
use Rattle.envy_bank.specs.Chips.{chip_of, programmed_by_bytes, erased_by_bytes, EachChip, row_read}
use Rattle.envy_bank.specs.Lanes.{lane_of, row_from}
use Rattle.envy_base.specs.State.{IsPage, ands, ones}
use Rattle.envy_bank.specs.Rows.{BankState, IsBank, ErasesBlock, row_of, with_row}
use Rattle.envy_bank.proofs.Words.{AreBytes}
use Rattle.envy_bank.proofs.LaneLaws.{lanes_of, length-lanes_of, get_or-lanes_of, lane_of-row_from, row_from-lanes_of, row_from-ands}
use Rattle.envy_bank.proofs.ProgramLaw.{lane_of-below, AreBytes-lanes_of}
use Rattle.envy_bank.proofs.EraseLaw.{all_ones, erased_inside, erased_outside, length-erased}

-- the chip of such bytes
chip_with : ℕ → List ℕ → ChipState
chip_with rows bytes = record { bytes = bytes; rows = rows; mode = Array; erase_error = false; program_error = false }

-- the ANDs of two pages' lanes
and_lanes : List ℕ → List ℕ → List ℕ
and_lanes xs ys = map (λ j. bit_and (lane_of xs j) (lane_of ys j)) (range_with_len 0 256)

length-and_lanes : (xs ys : List ℕ) → length (and_lanes xs ys) ≡ 256
unfolding and_lanes
length-and_lanes xs ys = length-map-range_with_len (λ j. bit_and (lane_of xs j) (lane_of ys j)) 0 256

get_or-and_lanes : (xs ys : List ℕ) (j : ℕ) → j < 256 → get_or (and_lanes xs ys) j 0 ≡ bit_and (lane_of xs j) (lane_of ys j)
unfolding and_lanes
get_or-and_lanes xs ys j lt = get_or-map-range_with_len (λ k. bit_and (lane_of xs k) (lane_of ys k)) 0 256 j j 0 lt (omega arith)

AreBytes-and_lanes : (xs ys : List ℕ) → AreBytes (and_lanes xs ys)
AreBytes-and_lanes xs ys j =
    elim (cases_lt j 256) [
      | inl lt ↦ rw (get_or-and_lanes xs ys j lt) (let less = and_le_l (lane_of xs j) (lane_of ys j) in let low = lane_of-below xs j in omega arith)
      | inr ge ↦ rw (get_or_past (and_lanes xs ys) j 0 (rw (length-and_lanes xs ys) ge)) (omega arith)
    ]

-- a lane of the AND of two pages is the AND of their lanes
lane_of-ands : (xs ys : List ℕ) (j : ℕ) → IsPage xs → IsPage ys → j < 256 → lane_of (ands xs ys) j ≡ bit_and (lane_of xs j) (lane_of ys j)
lane_of-ands xs ys j is_x is_y lt =
    let made : row_from (and_lanes xs ys) ≡ ands (row_from (lanes_of xs)) (row_from (lanes_of ys)) =
    row_from-ands (lanes_of xs) (lanes_of ys) (and_lanes xs ys) (length-and_lanes xs ys) (length-lanes_of xs) (length-lanes_of ys) (AreBytes-lanes_of xs) (AreBytes-lanes_of ys) (λ k low.
    get_or-and_lanes xs ys k low ∙ sym (rw (get_or-lanes_of xs k low, get_or-lanes_of ys k low) refl)) in
    let same : row_from (and_lanes xs ys) ≡ ands xs ys = made ∙ rw (row_from-lanes_of xs is_x, row_from-lanes_of ys is_y) refl in
    ap (λ row. lane_of row j) (sym same) ∙ lane_of-row_from (and_lanes xs ys) (length-and_lanes xs ys) (AreBytes-and_lanes xs ys) j lt ∙ get_or-and_lanes xs ys j lt

pub chips-programmed : (s : BankState) (q : ℕ) (page : List ℕ) → IsBank s → q < length s.flash → IsPage page
    → EachChip (λ j. programmed_by_bytes q (lane_of page j)) s (with_row s q (ands (row_of s q) page))
unfolding chip_with
chips-programmed s q page bank lt is j low =
    let byte : lane_of (ands (row_of s q) page) j ≡ bit_and (get_or (map (λ row. lane_of row j) s.flash) q 0) (lane_of page j) =
    lane_of-ands (row_of s q) page j (bank.pages q lt) is low ∙ ap (λ n. bit_and n (lane_of page j)) (sym (get_or-map (λ row. lane_of row j) s.flash q [] 0 lt)) in
    ap (chip_with s.rows) (map-set (λ row. lane_of row j) s.flash q (ands (row_of s q) page) ∙ ap (λ n. set (map (λ row. lane_of row j) s.flash) q n) byte)

pub chips-upset : (s : BankState) (q : ℕ) (page : List ℕ) → EachChip (λ j c. upset_at c q (lane_of page j)) s (with_row s q page)
unfolding chip_with
chips-upset s q page j low = ap (chip_with s.rows) (map-set (λ row. lane_of row j) s.flash q page)

-- each lane of an erased row is 0xFF
lane_of-ones : (j : ℕ) → j < 256 → lane_of ones j ≡ 255
lane_of-ones j lt =
    let bytes : List ℕ = replicate 256 255 in
    let long : length bytes ≡ 256 = length-replicate {A = ℕ} 256 255 in
    let each : (k : ℕ) → k < 256 → get_or bytes k 0 ≡ 255 = (λ k low. get_or-replicate {A = ℕ} 256 k 255 0 low) in
    let are : AreBytes bytes = (λ k. elim (cases_lt k 256) [ inl low ↦ rw (each k low) (omega arith) | inr ge ↦ rw (get_or_past bytes k 0 (rw long ge)) (omega arith) ]) in
    ap (λ row. lane_of row j) (sym (all_ones bytes long each)) ∙ lane_of-row_from bytes long are j lt ∙ each j lt

-- the bytes of a chip before and after an erase of the rows
bytes-erased : (s new : BankState) (block j : ℕ) → IsBank s → block < length s.erases → ErasesBlock block s new → j < 256
    → map (λ row. lane_of row j) new.flash ≡ with_erased_block s.rows block (map (λ row. lane_of row j) s.flash)
bytes-erased s new block j bank lt erases low =
    let lane : List ℕ → ℕ = (λ row. lane_of row j) in
    let bytes = map lane s.flash in
    let all : length bytes ≡ length s.erases * s.rows = length-map s.flash lane ∙ bank.whole in
    let fits : block * s.rows + s.rows ≤ length bytes = (let fit = row_fits block s.rows (length s.erases) s.rows lt (omega arith) in omega arith) in
    let before : block * s.rows ≤ length bytes = omega arith in
    let some : 1 ≤ s.rows = bank.some_rows in
    let kept : length new.flash ≡ length s.flash = erases.flash.long in
    let long : length (map lane new.flash) ≡ length (with_erased_block s.rows block bytes) =
    length-map new.flash lane ∙ kept ∙ sym (length-map s.flash lane) ∙ sym (length-erased s.rows block bytes fits) in
    ext_get_or 0 (map lane new.flash) (with_erased_block s.rows block bytes) long (λ k within.
    let in_new : k < length new.flash = (let same = length-map new.flash lane in omega arith) in
    let in_old : k < length s.flash = omega arith in
    get_or-map lane new.flash k [] 0 in_new ∙ elim (cases_eq (k / s.rows) block) [
      | inl here ↦ ap lane (erases.flash.inside k in_old here) ∙ lane_of-ones j low ∙ sym (erased_inside s.rows block bytes k some before here)
      | inr apart ↦ ap lane (erases.flash.others k apart) ∙ sym (get_or-map lane s.flash k [] 0 in_old) ∙ sym (erased_outside s.rows block bytes k some before apart)
    ])

pub chips-erased : (s new : BankState) (block q : ℕ) → IsBank s → block < length s.erases → ErasesBlock block s new → q / s.rows ≡ block → EachChip (λ _. erased_by_bytes q) s new
unfolding chip_with
chips-erased s new block q bank lt erases at j low =
    ap (λ rows. chip_with rows (map (λ row. lane_of row j) new.flash)) erases.rows
    ∙ ap (chip_with s.rows) (bytes-erased s new block j bank lt erases low ∙ ap (λ b. with_erased_block s.rows b (map (λ row. lane_of row j) s.flash)) (sym at))

pub row-read : (s : BankState) (q : ℕ) → IsBank s → q < length s.flash → row_read s q ≡ row_of s q
row-read s q bank lt =
    let reads : List ℕ = map (λ j. read_of (chip_of s j) q) (range_with_len 0 256) in
    let long : length reads ≡ 256 = length-map-range_with_len (λ j. read_of (chip_of s j) q) 0 256 in
    let same : reads ≡ lanes_of (row_of s q) = ext_get_or 0 reads (lanes_of (row_of s q)) (long ∙ sym (length-lanes_of (row_of s q))) (λ j within.
    let low : j < 256 = omega arith in
    get_or-map-range_with_len (λ k. read_of (chip_of s k) q) 0 256 j j 0 low (omega arith) ∙ get_or-map (λ row. lane_of row j) s.flash q [] 0 lt ∙ sym (get_or-lanes_of (row_of s q) j low)) in
    ap row_from same ∙ row_from-lanes_of (row_of s q) (bank.pages q lt)

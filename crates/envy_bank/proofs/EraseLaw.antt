-- An erase of one block, and chips that are all erased.
use Rattle.std.proofs.Common.{◌≡◌, ◌≢◌, ◌∙◌, inl, inr, ℕ, ◌+◌, ◌-◌, ◌*◌, ◌/◌, ◌%◌, ◌^◌, ◌<◌, ◌≤◌, List, [], ◌++◌, length, take, drop, get_or, replicate, refl, sym, ap, arith}
use Rattle.std.proofs.lemmas.Bool.{cases_lt}
use Rattle.std.proofs.lemmas.List.{ext_get_or, get_or_past, get_or-take, get_or-drop, get_or-replicate, get_or_append_left, get_or-append_right, length-append, length-take, length-take-le, length-drop, length-replicate}
use Rattle.std.proofs.lemmas.List.Elements.{All-replicate}
use Rattle.std.proofs.lemmas.Nat.{div-mul-add, div-add-mod', mod_below}
use Rattle.std.proofs.Math.Nat.{add-zero}
use Rattle.envy_bank.specs.Commands.{ChipState, erased_chip, with_erased_block}
use Rattle.envy_bank.specs.Lanes.{row_from, lanes_at, rows_from, IsReady, AreLanes, blanked, EachLane}
use Rattle.envy_base.specs.State.{ones}
use Rattle.envy_bank.specs.Rows.{ErasesRows}
use Rattle.envy_bank.proofs.Words.{AreBytes}
use Rattle.envy_bank.proofs.LaneLaws.{length-row_from, from_le-eight}
use Rattle.envy_bank.proofs.BankLaws.{none, length-lanes_at, get_or-lanes_at, get_or-rows_from, length-rows_from, IsLane, lane_at, AreLanes-kept, get_or-lanes_at-each, lanes_at-same}

-- a byte before, in and after the block that is erased
erased_before : (rows block : ℕ) (bs : List ℕ) (k : ℕ) → block * rows ≤ length bs → k < block * rows → get_or (with_erased_block rows block bs) k 0 ≡ get_or bs k 0
erased_before rows block bs k fits lt =
    get_or_append_left (take (block * rows) bs) (replicate rows 255 ++ drop (block * rows + rows) bs) 0 k (rw (length-take-le (block * rows) bs fits) lt)
    ∙ get_or-take (block * rows) bs k 0 lt

erased_in : (rows block : ℕ) (bs : List ℕ) (k : ℕ) → block * rows ≤ length bs → block * rows ≤ k → k < block * rows + rows → get_or (with_erased_block rows block bs) k 0 ≡ 255
erased_in rows block bs k fits le lt =
    let within : k - block * rows < rows = omega arith in
    get_or-append_right (take (block * rows) bs) (replicate rows 255 ++ drop (block * rows + rows) bs) (block * rows) k 0 (length-take-le (block * rows) bs fits) le
    ∙ get_or_append_left (replicate rows 255) (drop (block * rows + rows) bs) 0 (k - block * rows) (rw (length-replicate {A = ℕ} rows 255) within)
    ∙ get_or-replicate rows (k - block * rows) 255 0 within

erased_after : (rows block : ℕ) (bs : List ℕ) (k : ℕ) → block * rows ≤ length bs → block * rows + rows ≤ k → get_or (with_erased_block rows block bs) k 0 ≡ get_or bs k 0
erased_after rows block bs k fits le =
    let beyond : rows ≤ k - block * rows = omega arith in
    let index : block * rows + rows + (k - block * rows - rows) ≡ k = omega arith in
    get_or-append_right (take (block * rows) bs) (replicate rows 255 ++ drop (block * rows + rows) bs) (block * rows) k 0 (length-take-le (block * rows) bs fits) (omega arith)
    ∙ get_or-append_right (replicate rows 255) (drop (block * rows + rows) bs) rows (k - block * rows) 0 (length-replicate {A = ℕ} rows 255) beyond
    ∙ get_or-drop (block * rows + rows) bs (k - block * rows - rows) 0
    ∙ ap (λ i. get_or bs i 0) index

pub length-erased : (rows block : ℕ) (bs : List ℕ) → block * rows + rows ≤ length bs → length (with_erased_block rows block bs) ≡ length bs
length-erased rows block bs fits = simp (length-append, length-take, length-replicate, length-drop) (omega arith)

AreBytes-erased : (rows block : ℕ) (bs : List ℕ) → block * rows ≤ length bs → AreBytes bs → AreBytes (with_erased_block rows block bs)
AreBytes-erased rows block bs fits bytes k =
    elim (cases_lt k (block * rows)) [
      | inl lt ↦ rw (erased_before rows block bs k fits lt) (bytes k)
      | inr ge ↦ elim (cases_lt k (block * rows + rows)) [
        | inl lt ↦ rw (erased_in rows block bs k fits ge lt) (omega arith)
        | inr ge' ↦ rw (erased_after rows block bs k fits ge') (bytes k)
      ]
    ]

-- the number of the block that an index is in
pub block_of : (rows block k : ℕ) → block * rows ≤ k → k < block * rows + rows → k / rows ≡ block
block_of rows block k le lt =
    let rest : k - block * rows < rows = omega arith in
    let at : k ≡ block * rows + (k - block * rows) = omega arith in
    ap (λ n. n / rows) at ∙ div-mul-add block rows (k - block * rows) rest

-- and where an index of the block stands
pub before_block : (rows block k : ℕ) → k / rows ≡ block → block * rows ≤ k
before_block rows block k here =
    let split : k / rows * rows + k % rows ≡ k = div-add-mod' k rows in
    let at : block * rows + k % rows ≡ k = rw here at split in
    omega arith

pub behind_block : (rows block k : ℕ) → 1 ≤ rows → k / rows ≡ block → k < block * rows + rows
behind_block rows block k some here =
    let split : k / rows * rows + k % rows ≡ k = div-add-mod' k rows in
    let rest : k % rows < rows = mod_below k rows some in
    let at : block * rows + k % rows ≡ k = rw here at split in
    omega arith

-- so a byte outside the block stays, and a byte inside is 0xFF
pub erased_outside : (rows block : ℕ) (bs : List ℕ) (k : ℕ) → 1 ≤ rows → block * rows ≤ length bs → k / rows ≢ block → get_or (with_erased_block rows block bs) k 0 ≡ get_or bs k 0
erased_outside rows block bs k some fits apart =
    elim (cases_lt k (block * rows)) [
      | inl lt ↦ erased_before rows block bs k fits lt
      | inr ge ↦ elim (cases_lt k (block * rows + rows)) [
        | inl lt ↦ absurd (apart (block_of rows block k ge lt))
        | inr ge' ↦ erased_after rows block bs k fits ge'
      ]
    ]

pub erased_inside : (rows block : ℕ) (bs : List ℕ) (k : ℕ) → 1 ≤ rows → block * rows ≤ length bs → k / rows ≡ block → get_or (with_erased_block rows block bs) k 0 ≡ 255
erased_inside rows block bs k some fits here =
    let split : k / rows * rows + k % rows ≡ k = div-add-mod' k rows in
    let rest : k % rows < rows = mod_below k rows some in
    let at : block * rows + k % rows ≡ k = rw here at split in
    erased_in rows block bs k fits (omega arith) (omega arith)

-- a chip whose block is erased, by the block's number
blanked_bytes : (size rows block : ℕ) (c : ChipState) → 1 ≤ rows → IsLane size rows c → ChipState.bytes (blanked (block * rows) c) ≡ with_erased_block rows block c.bytes
blanked_bytes size rows block c some lane =
    let number : block * rows / rows ≡ block = ap (λ n. n / rows) (sym (add-zero (block * rows))) ∙ div-mul-add block rows 0 some in
    rw (lane.same_rows, number) refl

pub AreLanes-erased : (size rows block : ℕ) (chips new : List ChipState) → 1 ≤ rows → block * rows + rows ≤ size → AreLanes size rows chips → EachLane (λ j c. blanked (block * rows) c) chips new → AreLanes size rows new
AreLanes-erased size rows block chips new some fits are each =
    AreLanes-kept (λ j c. blanked (block * rows) c) size rows chips new are each (λ j c lt lane.
    let long = lane.long in
    record {
      long = ap length (blanked_bytes size rows block c some lane) ∙ length-erased rows block c.bytes (omega arith) ∙ long;
      same_rows = lane.same_rows;
      ready = record {
        bytes = rw (blanked_bytes size rows block c some lane) (AreBytes-erased rows block c.bytes (omega arith) lane.ready.bytes);
        mode = lane.ready.mode;
        erase_error = lane.ready.erase_error;
        program_error = lane.ready.program_error;
      };
    })

pub all_ones : (ls : List ℕ) → length ls ≡ 256 → ((j : ℕ) → j < 256 → get_or ls j 0 ≡ 255) → row_from ls ≡ ones
all_ones ls long each =
    ext_get_or 0 (row_from ls) ones (length-row_from ls) (λ i within.
    let lt : i < 32 = (let all = length-row_from ls in omega arith) in
    sym (from_le-eight (replicate 8 255) ls i refl long lt (λ k small. get_or-replicate 8 k 255 0 small ∙ sym (each (8 * i + k) (omega arith))))
    ∙ sym (get_or-replicate 32 i (2 ^ 64 - 1) 0 lt))

pub ErasesRows-erased : (size rows block : ℕ) (chips new : List ChipState) → 1 ≤ rows → block * rows + rows ≤ size → AreLanes size rows chips → EachLane (λ j c. blanked (block * rows) c) chips new
    → ErasesRows rows block (rows_from chips size) (rows_from new size)
ErasesRows-erased size rows block chips new some fits are each = record {
  long = length-rows_from new size ∙ sym (length-rows_from chips size);
  others = λ q apart. elim (cases_lt q size) [
    | inl lt ↦ get_or-rows_from new size q lt ∙ ap row_from (lanes_at-same (λ j c. blanked (block * rows) c) size rows chips new q are each (λ j c lane.
        let long = lane.long in
        ap (λ bs. get_or bs q 0) (blanked_bytes size rows block c some lane) ∙ erased_outside rows block c.bytes q some (omega arith) apart))
        ∙ sym (get_or-rows_from chips size q lt)
    | inr ge ↦ get_or_past (rows_from new size) q [] (rw (length-rows_from new size) ge) ∙ sym (get_or_past (rows_from chips size) q [] (rw (length-rows_from chips size) ge))
  ];
  inside = λ q lt here.
      let low : q < size = (let all = length-rows_from chips size in omega arith) in
      let count = are.count in
      get_or-rows_from new size q low ∙ all_ones (lanes_at new q) (length-lanes_at new q ∙ each.long ∙ count) (λ j less.
      let within : j < length chips = omega arith in
      let lane = lane_at size rows chips are j none within in
      let long : length (ChipState.bytes (get_or chips j none)) ≡ size = are.sizes j none within in
      get_or-lanes_at-each (λ j c. blanked (block * rows) c) chips new q j each within
      ∙ ap (λ bs. get_or bs q 0) (blanked_bytes size rows block (get_or chips j none) some lane)
      ∙ erased_inside rows block (ChipState.bytes (get_or chips j none)) q some (omega arith) here);
}

-- chips as they are made
AreBytes-erased_chip : (blocks rows : ℕ) → AreBytes (replicate (blocks * rows) 255)
AreBytes-erased_chip blocks rows k =
    elim (cases_lt k (blocks * rows)) [
      | inl lt ↦ rw (get_or-replicate {A = ℕ} (blocks * rows) k 255 0 lt) (omega arith)
      | inr ge ↦ rw (get_or_past {X = ℕ} (replicate (blocks * rows) 255) k 0 (rw (length-replicate {A = ℕ} (blocks * rows) 255) ge)) (omega arith)
    ]

pub AreLanes-erased_chips : (blocks rows : ℕ) → AreLanes (blocks * rows) rows (replicate 256 (erased_chip blocks rows))
AreLanes-erased_chips blocks rows = record {
  count = length-replicate 256 (erased_chip blocks rows);
  sizes = All-replicate (λ c. length (ChipState.bytes c) ≡ blocks * rows) 256 (erased_chip blocks rows) (length-replicate {A = ℕ} (blocks * rows) 255);
  blocks = All-replicate (λ c. ChipState.rows c ≡ rows) 256 (erased_chip blocks rows) refl;
  ready = All-replicate IsReady 256 (erased_chip blocks rows) (record { bytes = AreBytes-erased_chip blocks rows; mode = refl; erase_error = refl; program_error = refl });
}

pub rows_from-erased_chips : (blocks rows : ℕ) → rows_from (replicate 256 (erased_chip blocks rows)) (blocks * rows) ≡ replicate (blocks * rows) ones
rows_from-erased_chips blocks rows =
    let size = blocks * rows in
    let chips = replicate 256 (erased_chip blocks rows) in
    ext_get_or [] (rows_from chips size) (replicate size ones) (length-rows_from chips size ∙ sym (length-replicate size ones)) (λ q within.
    let lt : q < size = (let all = length-rows_from chips size in omega arith) in
    get_or-rows_from chips size q lt ∙ all_ones (lanes_at chips q) (length-lanes_at chips q ∙ length-replicate 256 (erased_chip blocks rows)) (λ j less.
    get_or-lanes_at chips q j none (rw (length-replicate 256 (erased_chip blocks rows)) less)
    ∙ ap (λ c. get_or (ChipState.bytes c) q 0) (get_or-replicate 256 j (erased_chip blocks rows) none less)
    ∙ get_or-replicate size q 255 0 lt)
    ∙ sym (get_or-replicate size q ones [] lt))

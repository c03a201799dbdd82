-- What happens to the rows where each chip does its part.
use Rattle.std.proofs.Common.{◌≡◌, ◌≢◌, ◌∙◌, ◌↔◌, inl, inr, ℕ, ◌*◌, ◌<◌, ◌≤◌, List, [], length, get_or, set, sym, ap, subst, arith}
use Rattle.std.specs.List.{All}
use Rattle.std.proofs.lemmas.Bool.{cases_lt, cases_eq}
use Rattle.std.proofs.lemmas.List.{ext_get_or, get_or_past, get_or-map, get_or-set_same, get_or-set_other, set_past, length-set, length-map}
use Rattle.std.proofs.lemmas.List.FromFn.{get_or-map-range_with_len, length-map-range_with_len}
use Rattle.envy_bank.specs.Commands.{ChipState, erased_chip}
use Rattle.envy_bank.specs.Lanes.{row_from, lanes_at, rows_from, IsReady, AreLanes, AreChips, EachLane, LanesHold}
use Rattle.envy_base.specs.State.{IsPage}
use Rattle.envy_bank.specs.Rows.{IsBank}
use Rattle.envy_bank.proofs.Words.{AreBytes}
use Rattle.envy_bank.proofs.LaneLaws.{lanes_of, length-lanes_of, get_or-lanes_of, lane_of-row_from, row_from-lanes_of, IsPage-row_from}

-- an element for indices past the end
abbrev pub none : ChipState
none = erased_chip 0 1

-- rows and lanes

pub get_or-rows_from : (chips : List ChipState) (size q : ℕ) → q < size → get_or (rows_from chips size) q [] ≡ row_from (lanes_at chips q)
get_or-rows_from chips size q lt = get_or-map-range_with_len (λ k. row_from (lanes_at chips k)) 0 size q q [] lt (omega arith)

pub length-rows_from : (chips : List ChipState) (size : ℕ) → length (rows_from chips size) ≡ size
length-rows_from chips size = length-map-range_with_len (λ k. row_from (lanes_at chips k)) 0 size

pub length-lanes_at : (chips : List ChipState) (q : ℕ) → length (lanes_at chips q) ≡ length chips
length-lanes_at chips q = length-map chips (λ c. get_or (ChipState.bytes c) q 0)

pub get_or-lanes_at : (chips : List ChipState) (q j : ℕ) (d : ChipState) → j < length chips → get_or (lanes_at chips q) j 0 ≡ get_or (ChipState.bytes (get_or chips j d)) q 0
get_or-lanes_at chips q j d lt = get_or-map (λ c. get_or (ChipState.bytes c) q 0) chips j d 0 lt

-- the lanes of ready chips are bytes
pub AreBytes-lanes_at : (chips : List ChipState) (q : ℕ) → All IsReady chips → AreBytes (lanes_at chips q)
AreBytes-lanes_at chips q ready j =
    elim (cases_lt j (length chips)) [
      | inl lt ↦ rw (get_or-lanes_at chips q j none lt) (IsReady.bytes (ready j none lt) q)
      | inr ge ↦ rw (get_or_past (lanes_at chips q) j 0 (rw (length-lanes_at chips q) ge)) (omega arith)
    ]

-- ready chips hold the lanes of the rows that they make
pub LanesHold-rows_from : (chips : List ChipState) (size rows q : ℕ) → AreLanes size rows chips → q < size → LanesHold q (get_or (rows_from chips size) q []) chips
LanesHold-rows_from chips size rows q are lt j d within =
    let long = length-lanes_at chips q ∙ are.count in
    let count = are.count in
    let lane = lane_of-row_from (lanes_at chips q) long (AreBytes-lanes_at chips q are.ready) j (omega arith) in
    rw (get_or-rows_from chips size q lt) (sym (lane ∙ get_or-lanes_at chips q j d within))

pub AreChips-made : (blocks rows : ℕ) (chips : List ChipState) → 1 ≤ rows → blocks * rows ≤ 1048576 → AreLanes (blocks * rows) rows chips → AreChips blocks rows chips
AreChips-made blocks rows chips some few are = record { some_rows = some; few = few; wired = are; lanes = λ q lt. LanesHold-rows_from chips (blocks * rows) rows q are lt }

-- chips that hold the lanes of a page make the page, and only they do
pub row_from_held : (chips : List ChipState) (size rows q : ℕ) (page : List ℕ) → AreLanes size rows chips → q < size → IsPage page → LanesHold q page chips ↔ (get_or (rows_from chips size) q [] ≡ page)
row_from_held chips size rows q page are lt is =
    let count = are.count in
    let made : LanesHold q page chips → get_or (rows_from chips size) q [] ≡ page = (λ hold.
    let same : lanes_at chips q ≡ lanes_of page = ext_get_or 0 (lanes_at chips q) (lanes_of page) (length-lanes_at chips q ∙ count ∙ sym (length-lanes_of page)) (λ j within.
    let low : j < length chips = (let long = length-lanes_at chips q in omega arith) in
    get_or-lanes_at chips q j none low ∙ hold j none low ∙ sym (get_or-lanes_of page j (omega arith))) in
    get_or-rows_from chips size q lt ∙ ap row_from same ∙ row_from-lanes_of page is) in
    (made, λ e. subst (λ row. LanesHold q row chips) e (LanesHold-rows_from chips size rows q are lt))

-- one chip of a bank
pub record IsLane (size rows : ℕ) (c : ChipState) : Type 0 where
  pub long : length c.bytes ≡ size
  pub same_rows : c.rows ≡ rows
  pub ready : IsReady c

pub lane_at : (size rows : ℕ) (chips : List ChipState) → AreLanes size rows chips → (j : ℕ) (d : ChipState) → j < length chips → IsLane size rows (get_or chips j d)
lane_at size rows chips are j d lt = record { long = are.sizes j d lt; same_rows = are.blocks j d lt; ready = are.ready j d lt }

pub AreLanes-kept : (f : ℕ → ChipState → ChipState) (size rows : ℕ) (chips new : List ChipState) → AreLanes size rows chips → EachLane f chips new
    → ((j : ℕ) (c : ChipState) → j < 256 → IsLane size rows c → IsLane size rows (f j c)) → AreLanes size rows new
AreLanes-kept f size rows chips new are each keeps =
    let count = are.count in
    let long = each.long in
    let lane : (j : ℕ) (d : ChipState) → j < length new → IsLane size rows (get_or new j d) = (λ j d lt.
    let low : j < length chips = omega arith in
    rw (each.each j d low) (keeps j (get_or chips j d) (omega arith) (lane_at size rows chips are j d low))) in
    record {
      count = long ∙ count;
      sizes = λ j d lt. IsLane.long (lane j d lt);
      blocks = λ j d lt. IsLane.same_rows (lane j d lt);
      ready = λ j d lt. IsLane.ready (lane j d lt);
    }

-- a lane after the change
pub get_or-lanes_at-each : (f : ℕ → ChipState → ChipState) (chips new : List ChipState) (q j : ℕ) → EachLane f chips new → j < length chips → get_or (lanes_at new q) j 0 ≡ get_or (ChipState.bytes (f j (get_or chips j none))) q 0
get_or-lanes_at-each f chips new q j each lt =
    let long = each.long in
    get_or-lanes_at new q j none (omega arith) ∙ ap (λ c. get_or (ChipState.bytes c) q 0) (each.each j none lt)

-- lanes that no chip changed
pub lanes_at-same : (f : ℕ → ChipState → ChipState) (size rows : ℕ) (chips new : List ChipState) (q : ℕ) → AreLanes size rows chips → EachLane f chips new
    → ((j : ℕ) (c : ChipState) → IsLane size rows c → get_or (ChipState.bytes (f j c)) q 0 ≡ get_or c.bytes q 0) → lanes_at new q ≡ lanes_at chips q
lanes_at-same f size rows chips new q are each same =
    ext_get_or 0 (lanes_at new q) (lanes_at chips q) (length-lanes_at new q ∙ each.long ∙ sym (length-lanes_at chips q)) (λ j within.
    let lt : j < length chips = (let a = length-lanes_at new q in let b = each.long in omega arith) in
    get_or-lanes_at-each f chips new q j each lt ∙ same j (get_or chips j none) (lane_at size rows chips are j none lt) ∙ sym (get_or-lanes_at chips q j none lt))

-- one row changed
pub rows_from-set : (chips new : List ChipState) (size q : ℕ) (row : List ℕ) → q < size → row_from (lanes_at new q) ≡ row → ((k : ℕ) → k ≢ q → lanes_at new k ≡ lanes_at chips k)
    → rows_from new size ≡ set (rows_from chips size) q row
rows_from-set chips new size q row lt here others =
    ext_get_or [] (rows_from new size) (set (rows_from chips size) q row) (length-rows_from new size ∙ sym (length-set (rows_from chips size) q row ∙ length-rows_from chips size)) (λ k within.
    let low : k < size = (let long = length-rows_from new size in omega arith) in
    let in_range : q < length (rows_from chips size) = rw (length-rows_from chips size) lt in
    elim (cases_eq k q) [
      | inl e ↦ rw e (get_or-rows_from new size q lt ∙ here ∙ sym (get_or-set_same (rows_from chips size) q row [] in_range))
      | inr ne ↦ get_or-rows_from new size k low ∙ ap row_from (others k ne) ∙ sym (get_or-set_other (rows_from chips size) q k row [] ne ∙ get_or-rows_from chips size k low)
    ])

-- a byte stored among bytes
pub bytes-set : (bs : List ℕ) (q v : ℕ) → AreBytes bs → v < 256 → AreBytes (set bs q v)
bytes-set bs q v bytes fits k =
    elim (cases_eq k q) [
      | inl e ↦ elim (cases_lt q (length bs)) [
        | inl lt ↦ rw (e, get_or-set_same bs q v 0 lt) fits
        | inr ge ↦ rw (set_past bs q v ge) (bytes k)
      ]
      | inr ne ↦ rw (get_or-set_other bs q k v 0 ne) (bytes k)
    ]

-- the row of chips as they are made, and its parts
pub IsBank-made : (chips : List ChipState) (rows : ℕ) (erases : List ℕ) → AreChips (length erases) rows chips → IsBank (record { flash = rows_from chips (length erases * rows); rows = rows; erases = erases })
IsBank-made chips rows erases are = record {
  some_rows = are.some_rows;
  whole = length-rows_from chips (length erases * rows);
  few = rw (length-rows_from chips (length erases * rows)) (let low = are.few in omega arith);
  pages = λ q lt.
      let low : q < length erases * rows = (let long = length-rows_from chips (length erases * rows) in omega arith) in
      rw (get_or-rows_from chips (length erases * rows) q low) (IsPage-row_from (lanes_at chips q) (AreBytes-lanes_at chips q are.wired.ready));
}

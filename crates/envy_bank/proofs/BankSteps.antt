-- A bank before and after each call, by its chips.
use Rattle.std.proofs.Common.{◌≡◌, ◌∙◌, ◌↔◌, IsTrue, Bool, ℕ, ◌+◌, ◌*◌, ◌<◌, ◌≤◌, List, [], ◌++◌, length, take, drop, get_or, set, replicate, refl, sym, ap, subst, arith}
use Rattle.std.specs.List.{All}
use Rattle.std.proofs.lemmas.List.{take_at, get_or_read, length-set, length-replicate}
use Rattle.std.proofs.lemmas.Nat.{row_fits}
use Rattle.envy_bank.specs.Commands.{ChipState, erased_chip, read_of, upset_at}
use Rattle.envy_bank.specs.Lanes.{lane_of, row_from, lanes_at, rows_from, IsReady, AreChips, anded, blanked, EachLane, LanesHold}
use Rattle.envy_base.specs.Counting.{up}
use Rattle.envy_base.specs.State.{IsPage, ands}
use Rattle.envy_bank.specs.Rows.{BankState, IsBank, ErasesBlock, row_of, with_row, erased_bank}
use Rattle.envy_bank.proofs.BankLaws.{length-rows_from, get_or-rows_from, AreChips-made, IsBank-made, row_from_held}
use Rattle.envy_bank.proofs.ProgramLaw.{AreLanes-programmed, AreLanes-upset, rows_from-programmed, rows_from-upset}
use Rattle.envy_bank.proofs.EraseLaw.{AreLanes-erased, ErasesRows-erased, AreLanes-erased_chips, rows_from-erased_chips}

-- what callers see of the fields
abbrev pub state : List ChipState → ℕ → List ℕ → BankState
state chips rows erases = record { flash = rows_from chips (length erases * rows); rows = rows; erases = erases }

-- the chips after a call over all of them as a slice
abbrev pub after : ℕ → List ChipState → List ChipState → List ChipState
after len items new = take len (new ++ drop (length new) items)

after_is : (len : ℕ) (items new : List ChipState) → len ≡ length items → length new ≡ length items → after len items new ≡ new
after_is len items new is long = take_at new (drop (length new) items) len (long ∙ sym is)

pub in_range : (chips : List ChipState) (rows : ℕ) (erases : List ℕ) (s : BankState) (q : ℕ) → state chips rows erases ≡ s → q < length s.flash → q < length erases * rows
in_range chips rows erases s q is lt =
    let long : length s.flash ≡ length erases * rows = ap (λ (t : BankState). length t.flash) (sym is) ∙ length-rows_from chips (length erases * rows) in
    omega arith

-- each chip has the address of a row
pub has_addr : (chips slice : List ChipState) (rows : ℕ) (erases : List ℕ) (q : ℕ) → slice ≡ chips → AreChips (length erases) rows chips → q < length erases * rows → All (λ c. q < length (ChipState.bytes c)) slice
has_addr chips slice rows erases q is are lt k d within =
    let low : k < length chips = rw (← is) within in
    rw (is, are.wired.sizes k d low) lt

pub read_of_word : (chips slice : List ChipState) (rows : ℕ) (erases : List ℕ) (s : BankState) (q i r : ℕ) → state chips rows erases ≡ s → slice ≡ chips → q < length s.flash → r ≡ get_or (row_from (lanes_at slice q)) i 0 → r ≡ get_or (row_of s q) i 0
read_of_word chips slice rows erases s q i r is same lt read =
    let low = in_range chips rows erases s q is lt in
    read ∙ ap (λ cs. get_or (row_from (lanes_at cs q)) i 0) same ∙ ap (λ row. get_or row i 0) (sym (get_or-rows_from chips (length erases * rows) q low)) ∙ ap (λ (t : BankState). get_or (row_of t q) i 0) is

-- the chip of a lane has the address of a row
pub lane_addr : (chips : List ChipState) (chip : ChipState) (rows : ℕ) (erases : List ℕ) (s : BankState) (q j : ℕ) → state chips rows erases ≡ s → AreChips (length erases) rows chips → q < length s.flash → j < 256
    → chip ≡ get_or chips j chip → q < length chip.bytes
lane_addr chips chip rows erases s q j is are lt low here =
    let within : j < length chips = (let count = are.wired.count in omega arith) in
    subst (λ (c : ChipState). q < length c.bytes) (sym here) (has_addr chips chips rows erases q refl are (in_range chips rows erases s q is lt) j chip within)

-- what it gives there is its lane of the row
pub lane_read : (chips : List ChipState) (chip : ChipState) (rows : ℕ) (erases : List ℕ) (s : BankState) (q j r : ℕ) → state chips rows erases ≡ s → AreChips (length erases) rows chips → q < length s.flash → j < 256
    → chip ≡ get_or chips j chip → r ≡ read_of chip q → r ≡ lane_of (row_of s q) j
lane_read chips chip rows erases s q j r is are lt low here read =
    let at : q < length erases * rows = in_range chips rows erases s q is lt in
    let within : j < length chips = (let count = are.wired.count in omega arith) in
    let ready : IsReady chip = subst IsReady (sym here) (are.wired.ready j chip within) in
    let held : get_or chip.bytes q 0 ≡ lane_of (get_or (rows_from chips (length erases * rows)) q []) j =
    subst (λ (c : ChipState). get_or c.bytes q 0 ≡ lane_of (get_or (rows_from chips (length erases * rows)) q []) j) (sym here) (are.lanes q at j chip within) in
    let given : read_of chip q ≡ get_or chip.bytes q 0 = rw ready.mode refl in
    read ∙ given ∙ held ∙ ap (λ (t : BankState). lane_of (row_of t q) j) is

pub IsBank-seen : (chips : List ChipState) (rows : ℕ) (erases : List ℕ) (s : BankState) → state chips rows erases ≡ s → AreChips (length erases) rows chips → IsBank s
IsBank-seen chips rows erases s is are = subst IsBank is (IsBank-made chips rows erases are)

-- a program of the row q
pub record ProgramStep (new : List ChipState) (rows : ℕ) (erases : List ℕ) (s : BankState) (q : ℕ) (page : List ℕ) (result : Bool) : Type 0 where
  pub chips : AreChips (length erases) rows new
  pub whole : IsBank (state new rows erases)
  pub row : state new rows erases ≡ with_row s q (ands (row_of s q) page)
  pub held : IsTrue result ↔ (row_of (state new rows erases) q ≡ page)

pub program_step : (len : ℕ) (items slice new : List ChipState) (rows : ℕ) (erases : List ℕ) (s : BankState) (q : ℕ) (page : List ℕ) (result : Bool)
    → len ≡ length items → slice ≡ items → AreChips (length erases) rows items → state items rows erases ≡ s → q < length s.flash → IsPage page
    → EachLane (λ j c. anded q (lane_of page j) c) slice new → (IsTrue result ↔ LanesHold q page new) → ProgramStep (after len items new) rows erases s q page result
program_step len items slice new rows erases s q page result long same are is lt paged each_slice held =
    let each : EachLane (λ j c. anded q (lane_of page j) c) items new = subst (λ (cs : List ChipState). EachLane (λ j c. anded q (lane_of page j) c) cs new) same each_slice in
    let low = in_range items rows erases s q is lt in
    let size = length erases * rows in
    let lanes = AreLanes-programmed size rows q page items new are.wired each in
    let chips = AreChips-made (length erases) rows new are.some_rows are.few lanes in
    let made = row_from_held new size rows q page lanes low paged in
    subst (λ (cs : List ChipState). ProgramStep cs rows erases s q page result) (sym (after_is len items new long each.long)) (record {
      chips = chips;
      whole = IsBank-made new rows erases chips;
      row = subst (λ (t : BankState). state new rows erases ≡ with_row t q (ands (row_of t q) page)) is
          (ap (λ flash. record { flash = flash; rows = rows; erases = erases }) (rows_from-programmed size rows q page items new are.wired each low paged));
      held = (λ e. made.0 (held.0 e), λ e. held.1 (made.1 e));
    })

-- a row set to anything
pub record UpsetStep (new : List ChipState) (rows : ℕ) (erases : List ℕ) (s : BankState) (q : ℕ) (page : List ℕ) : Type 0 where
  pub chips : AreChips (length erases) rows new
  pub whole : IsBank (state new rows erases)
  pub row : state new rows erases ≡ with_row s q page

pub upset_step : (len : ℕ) (items slice new : List ChipState) (rows : ℕ) (erases : List ℕ) (s : BankState) (q : ℕ) (page : List ℕ)
    → len ≡ length items → slice ≡ items → AreChips (length erases) rows items → state items rows erases ≡ s → q < length s.flash → IsPage page
    → EachLane (λ j c. upset_at c q (lane_of page j)) slice new → UpsetStep (after len items new) rows erases s q page
upset_step len items slice new rows erases s q page long same are is lt paged each_slice =
    let each : EachLane (λ j c. upset_at c q (lane_of page j)) items new = subst (λ (cs : List ChipState). EachLane (λ j c. upset_at c q (lane_of page j)) cs new) same each_slice in
    let low = in_range items rows erases s q is lt in
    let size = length erases * rows in
    let lanes = AreLanes-upset size rows q page items new are.wired each in
    let chips = AreChips-made (length erases) rows new are.some_rows are.few lanes in
    subst (λ (cs : List ChipState). UpsetStep cs rows erases s q page) (sym (after_is len items new long each.long)) (record {
      chips = chips;
      whole = IsBank-made new rows erases chips;
      row = subst (λ (t : BankState). state new rows erases ≡ with_row t q page) is
          (ap (λ flash. record { flash = flash; rows = rows; erases = erases }) (rows_from-upset size rows q page items new are.wired each low paged));
    })

-- an erase of the block b
pub record EraseStep (new : List ChipState) (rows : ℕ) (erases : List ℕ) (s : BankState) (b : ℕ) : Type 0 where
  pub chips : AreChips (length erases) rows new
  pub whole : IsBank (state new rows erases)
  pub erased : ErasesBlock b s (state new rows erases)

pub block_fits : (blocks rows b : ℕ) → b < blocks → b * rows + rows ≤ blocks * rows
block_fits blocks rows b lt = row_fits b rows blocks rows lt (omega arith)

pub erase_step : (len : ℕ) (items slice new : List ChipState) (rows was count : ℕ) (erases : List ℕ) (s : BankState) (b : ℕ)
    → len ≡ length items → slice ≡ items → AreChips (length erases) rows items → state items rows erases ≡ s → b < length s.erases
    → EachLane (λ _ c. blanked (b * rows) c) slice new → was ≡ get_or erases b was → count ≡ up was → EraseStep (after len items new) rows (set erases b count) s b
erase_step len items slice new rows was count erases s b long same are is lt each_slice read counted =
    let each : EachLane (λ _ c. blanked (b * rows) c) items new = subst (λ (cs : List ChipState). EachLane (λ _ c. blanked (b * rows) c) cs new) same each_slice in
    let size = length erases * rows in
    let low : b < length erases = rw (ap (λ (t : BankState). length t.erases) is) lt in
    let fits = block_fits (length erases) rows b low in
    let lanes = AreLanes-erased size rows b items new are.some_rows fits are.wired each in
    let rows_erased = ErasesRows-erased size rows b items new are.some_rows fits are.wired each in
    let kept : length (set erases b count) ≡ length erases = length-set erases b count in
    let chips : AreChips (length (set erases b count)) rows new = rw kept (AreChips-made (length erases) rows new are.some_rows are.few lanes) in
    subst (λ (cs : List ChipState). EraseStep cs rows (set erases b count) s b) (sym (after_is len items new long each.long)) (record {
      chips = chips;
      whole = IsBank-made new rows (set erases b count) chips;
      erased = subst (λ (t : BankState). ErasesBlock b t (state new rows (set erases b count))) is (record {
        flash = rw kept rows_erased;
        rows = refl;
        erases = ap (λ n. set erases b n) (counted ∙ ap up (get_or_read erases b was low read 0));
      });
    })

-- a new bank
pub record NewStep (new : List ChipState) (rows : ℕ) (erases : List ℕ) (blocks : ℕ) : Type 0 where
  pub chips : AreChips (length erases) rows new
  pub whole : IsBank (state new rows erases)
  pub erased : state new rows erases ≡ erased_bank blocks rows

pub new_step : (chips : List ChipState) (rows : ℕ) (erases : List ℕ) (blocks : ℕ) → chips ≡ replicate 256 (erased_chip blocks rows) → erases ≡ replicate blocks 0 → 1 ≤ rows → blocks * rows ≤ 1048576 → NewStep chips rows erases blocks
new_step chips rows erases blocks is counts some few =
    let long : length (replicate {A = ℕ} blocks 0) ≡ blocks = length-replicate {A = ℕ} blocks 0 in
    let made : AreChips (length (replicate {A = ℕ} blocks 0)) rows (replicate 256 (erased_chip blocks rows)) = rw long (AreChips-made blocks rows (replicate 256 (erased_chip blocks rows)) some few (AreLanes-erased_chips blocks rows)) in
    subst (λ (cs : List ChipState). NewStep cs rows erases blocks) (sym is) (subst (λ (es : List ℕ). NewStep (replicate 256 (erased_chip blocks rows)) rows es blocks) (sym counts) (record {
      chips = made;
      whole = IsBank-made (replicate 256 (erased_chip blocks rows)) rows (replicate blocks 0) made;
      erased = ap (λ n. record { flash = rows_from (replicate 256 (erased_chip blocks rows)) (n * rows); rows = rows; erases = replicate blocks 0 }) long
          ∙ ap (λ flash. record { flash = flash; rows = rows; erases = replicate blocks 0 }) (rows_from-erased_chips blocks rows);
    }))

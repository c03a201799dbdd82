-- The board before and after a program and an erase, by the event and by its parts.
use Rattle.std.proofs.Common.{◌≡◌, ◌≢◌, ◌∙◌, inl, inr, lit<, replicate, ℕ, ◌/◌, ◌<◌, IsTrue, List, [], length, get_or, set, refl, ap, subst, get_or-set_same, length-set, Result, Ok, Err}
use Rattle.std.proofs.lemmas.Bool.{cases_lt}
use Rattle.std.proofs.lemmas.List.{get_or-replicate, get_or_past, length-replicate}
use Rattle.envy_base.specs.declared.shape.Shape.{Shape}
use Rattle.envy_base.specs.declared.board.Trouble.{Trouble}
use Rattle.envy_base.specs.declared.board.Trouble.TheVariants.{Off as TroubleOff, Bad as TroubleBad}
use Rattle.envy_base.specs.State.{State, AreWords, IsPage, IsOnes, Only, Programs, Erases, cut, with_row, with_segment}
use Rattle.envy_bank.specs.Rows.{BankState, IsBank, ErasesBlock, with_row as bank_with_row}
use Rattle.envy_base.specs.Counting.{up}
use Rattle.envy_bench.specs.declared.supply.Event.{Event}
use Rattle.envy_bench.specs.declared.supply.Event.TheVariants.{Pass, Cut, Bad}
use Rattle.envy_bench.specs.Power.{Power, flash_event, flash_counted, struck, up as power_up, cut as power_cut}
use Rattle.envy_bench.specs.declared.plans.Plans.{Plans}
use Rattle.envy_bench.specs.Parts.{state_of}
use Rattle.envy_bench.specs.TornRows.{torn_row, TearsRows}
use Rattle.envy_bench.specs.Events.{EraseMeets}

power_up-up : (n : ℕ) → power_up n ≡ up n
unfolding power_up up
power_up-up n = refl

-- the rows of whole flash are pages
pub IsPage-whole : (flash : BankState) (q : ℕ) → IsBank flash → q < length flash.flash → IsPage (get_or flash.flash q [])
IsPage-whole flash q whole lt = let page = whole.pages q lt in record { long = page.long; words = page.words }

module _ (sh : Shape) (flash new : BankState) (sram : List ℕ) (p now : Power) (begun pulled : ℕ) (plans : Plans) (given : ℕ) where
  -- power by the event

  passed : now ≡ flash_counted p → state_of sh new sram now begun pulled plans given ≡ state_of sh new sram p begun pulled plans given
  passed is = ap (λ (t : Power). state_of sh new sram t begun pulled plans given) is

  was_cut : now ≡ power_cut (flash_counted p) → state_of sh new sram now begun pulled plans given ≡ cut (state_of sh new sram p begun pulled plans given)
  was_cut is = ap (λ (t : Power). state_of sh new sram t begun pulled plans given) is ∙ ap (λ n. record (cut (state_of sh new sram p begun pulled plans given)) { cuts = n }) (power_up-up p.cuts)

  was_bad : now ≡ struck (Bad 0) (flash_counted p) → state_of sh new sram now begun pulled plans given ≡ record (state_of sh new sram p begun pulled plans given) { bads = up p.bads }
  was_bad is = ap (λ (t : Power). state_of sh new sram t begun pulled plans given) is ∙ ap (λ n. record (state_of sh new sram p begun pulled plans given) { bads = n }) (power_up-up p.bads)

  -- a segment with its count
  counted : (e : ℕ) → new.erases ≡ set flash.erases e (up (get_or flash.erases e 0)) → state_of sh new sram p begun pulled plans given ≡ with_segment (state_of sh flash sram p begun pulled plans given) e new.flash
  counted e is = ap (λ (erases : List ℕ). record (state_of sh new sram p begun pulled plans given) { erases = erases }) is

-- an erase that is disturbed after the chips have done it
pub record Disturbed (rows e g : ℕ) (flash new : BankState) : Type 0 where
  pub torn : TearsRows rows e g flash.flash new.flash
  pub only : Only rows e IsPage flash.flash new.flash
  pub erases : new.erases ≡ set flash.erases e (up (get_or flash.erases e 0))

-- an erase that tears the segment
pub disturbed : (rows e g : ℕ) (flash mid new : BankState) → flash.rows ≡ rows → ErasesBlock e flash mid → TearsRows mid.rows e g mid.flash new.flash → new ≡ record mid { flash = new.flash } → IsBank new → Disturbed rows e g flash new
disturbed rows e g flash mid new wide erased tears same whole =
    let deep : mid.rows ≡ rows = erased.rows ∙ wide in
    let torn : TearsRows rows e g mid.flash new.flash = subst (λ n. TearsRows n e g mid.flash new.flash) deep tears in
    let block = erased.flash in
    let long : length new.flash ≡ length flash.flash = torn.long ∙ block.long in
    let others : (q : ℕ) → q / rows ≢ e → get_or new.flash q [] ≡ get_or flash.flash q [] = (λ q ne. torn.others q ne ∙ block.others q (rw wide ne)) in
    record {
      torn = record { long = long; others = others; inside = λ q lt here. torn.inside q (rw block.long lt) here };
      only = record { long = long; others = others; inside = λ q lt here. IsPage-whole new q whole (rw long lt) };
      erases = ap (λ (b : BankState). b.erases) same ∙ erased.erases;
    }

-- what both clauses of an erase say
pub record EraseEnds (event : Event) (old : State) (e : ℕ) (r : Result Unit Trouble) (new : State) : Type 0 where
  pub exact : EraseMeets event old e r new
  pub state : Erases old e r new

module _ (sh : Shape) (flash mid new : BankState) (sram : List ℕ) (p now : Power) (begun pulled : ℕ) (plans : Plans) (given e g : ℕ) (powered : IsTrue p.on) (wide : flash.rows ≡ sh.rows) (erased : ErasesBlock e flash mid) where
  -- an erase that nothing is planned for
  pub erase_passes : Pass ≡ flash_event p → now ≡ flash_counted p
      → EraseEnds (flash_event p) (state_of sh flash sram p begun pulled plans given) e (Ok tt) (state_of sh mid sram now begun pulled plans given)
  erase_passes event is =
      let block = erased.flash in
      let only : Only sh.rows e IsOnes flash.flash mid.flash = record {
        long = block.long;
        others = λ q ne. block.others q (rw wide ne);
        inside = λ q lt here. block.inside q lt (rw wide here);
      } in
      let made = passed sh flash mid sram p now begun pulled plans given is ∙ counted sh flash mid sram p now begun pulled plans given e erased.erases in
      record {
        exact = subst (λ (v : Event). EraseMeets v (state_of sh flash sram p begun pulled plans given) e (Ok tt) (state_of sh mid sram now begun pulled plans given)) event (refl, mid.flash, only, made);
        state = (powered, mid.flash, only, made);
      }

  -- one that power ends
  pub erase_is_cut : TearsRows mid.rows e g mid.flash new.flash → new ≡ record mid { flash = new.flash } → IsBank new → Cut g ≡ flash_event p → now ≡ struck (Cut g) (flash_counted p)
      → EraseEnds (flash_event p) (state_of sh flash sram p begun pulled plans given) e (Err TroubleOff) (state_of sh new sram now begun pulled plans given)
  erase_is_cut tears same whole event is =
      let done = disturbed sh.rows e g flash mid new wide erased tears same whole in
      let made = was_cut sh flash new sram p now begun pulled plans given is ∙ ap (λ (t : State). cut t) (counted sh flash new sram p now begun pulled plans given e done.erases) in
      record {
        exact = subst (λ (v : Event). EraseMeets v (state_of sh flash sram p begun pulled plans given) e (Err TroubleOff) (state_of sh new sram now begun pulled plans given)) event (refl, new.flash, done.torn, made);
        state = inr (powered, new.flash, done.only, made);
      }

  -- one that fails
  pub erase_is_bad : TearsRows mid.rows e g mid.flash new.flash → new ≡ record mid { flash = new.flash } → IsBank new → Bad g ≡ flash_event p → now ≡ struck (Bad g) (flash_counted p)
      → EraseEnds (flash_event p) (state_of sh flash sram p begun pulled plans given) e (Err TroubleBad) (state_of sh new sram now begun pulled plans given)
  erase_is_bad tears same whole event is =
      let done = disturbed sh.rows e g flash mid new wide erased tears same whole in
      let made = was_bad sh flash new sram p now begun pulled plans given is ∙ ap (λ (t : State). record t { bads = up p.bads }) (counted sh flash new sram p now begun pulled plans given e done.erases) in
      record {
        exact = subst (λ (v : Event). EraseMeets v (state_of sh flash sram p begun pulled plans given) e (Err TroubleBad) (state_of sh new sram now begun pulled plans given)) event (refl, new.flash, done.torn, made);
        state = (powered, new.flash, done.only, made);
      }

-- a program that is disturbed: its row holds a page
module _ (sh : Shape) (flash new : BankState) (sram : List ℕ) (p now : Power) (begun count pulled : ℕ) (plans : Plans) (given q g : ℕ) (x : List ℕ) (powered : IsTrue p.on) (low : q < length flash.flash)
    (made : new ≡ bank_with_row flash q (torn_row g 0)) (whole : IsBank new) (counts : count ≡ up begun) where
  torn_page : IsPage (torn_row g 0)
  torn_page =
      let same : get_or new.flash q [] ≡ torn_row g 0 = ap (λ (b : BankState). get_or b.flash q []) made ∙ get_or-set_same flash.flash q (torn_row g 0) [] low in
      let long : length new.flash ≡ length flash.flash = ap (λ (b : BankState). length b.flash) made ∙ length-set flash.flash q (torn_row g 0) in
      subst (λ (xs : List ℕ). IsPage xs) same (IsPage-whole new q whole (rw long low))

  torn_state : state_of sh new sram p count pulled plans given ≡ with_row (state_of sh flash sram p begun pulled plans given) q (torn_row g 0)
  torn_state = ap (λ (b : BankState). state_of sh b sram p count pulled plans given) made ∙ ap (λ n. state_of sh (bank_with_row flash q (torn_row g 0)) sram p n pulled plans given) counts

  -- a program that power ends
  pub program_is_cut : now ≡ struck (Cut g) (flash_counted p) → Programs (state_of sh flash sram p begun pulled plans given) q x (Err TroubleOff) (state_of sh new sram now count pulled plans given)
  program_is_cut is = inr (powered, torn_row g 0, torn_page, was_cut sh flash new sram p now count pulled plans given is ∙ ap (λ (t : State). cut t) torn_state)

  -- one that fails
  pub program_is_bad : now ≡ struck (Bad g) (flash_counted p) → Programs (state_of sh flash sram p begun pulled plans given) q x (Err TroubleBad) (state_of sh new sram now count pulled plans given)
  program_is_bad is = (powered, torn_row g 0, torn_page, was_bad sh flash new sram p now count pulled plans given is ∙ ap (λ (t : State). record t { bads = up p.bads }) torn_state)

-- new SRAM holds words
pub AreWords-zeros : (n : ℕ) (xs : List ℕ) → xs ≡ replicate n 0 → AreWords xs
AreWords-zeros n xs is = rw is (λ i. elim (cases_lt i n) [
  | inl lt ↦ rw (get_or-replicate {A = ℕ} n i 0 0 lt) (lit< tt)
  | inr ge ↦ rw (get_or_past {X = ℕ} (replicate {A = ℕ} n 0) i 0 (rw (length-replicate {A = ℕ} n 0) ge)) (lit< tt)
])

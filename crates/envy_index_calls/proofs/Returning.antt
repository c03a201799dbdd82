-- What a call on the words of a memory tells of the memory, once it is back in its place.
use Rattle.std.proofs.Common.{◌≡◌, ◌≢◌, ◌⊎◌, inl, inr, ℕ, ◌+◌, ◌*◌, ◌-◌, ◌<◌, ◌≤◌, Bool, true, false, IsTrue, List, [], ◌∷◌, length, map, refl, sym, ◌∙◌, ap, subst, arith}
use Rattle.std.specs.Prelude.{◌&&◌, Option, None, Some, Result, Ok, Err, OnOk}
use Rattle.std.specs.Option.{ForSome}
use Rattle.envy_array.specs.Words.{IsSheet, Sheet, Spends, Works as SheetWorks, Starts as SheetStarts, Finishes, Undoes, Keeps as SheetKeeps}
use Rattle.envy_base.specs.Counting.{Rose}
use Rattle.envy_base.specs.declared.board.Off.{Off as OffNow}
use Rattle.envy_base.specs.declared.page.TheConstants.{PAGE_WORDS}
use Rattle.envy_soundness.specs.Words.{live, durable}
use Rattle.envy_memory.specs.Picture.{Picture}
use Rattle.envy_memory.specs.Sheets.{sheet_of}
use Rattle.envy_range.specs.Ranges.{inside, outside}
use Rattle.envy_btree.specs.Answers.{IsFull, Gets as TreeGets, Counts as TreeCounts}
use Rattle.envy_btree.specs.Depths.{insertion_pages, removal_pages}
use Rattle.envy_btree.specs.Index.{IsIndex}
use Rattle.envy_btree.specs.Pairs.{with_pair, without}
use Rattle.envy_btree.specs.Within.{InsertsWithin, RemovesWithin, IsCrowded}
use Rattle.envy_btree.specs.declared.fault.ChangeFault.{ChangeFault}
use Rattle.envy_btree.specs.declared.fault.ChangeFault.TheVariants.{Off as ChangeOff, Full as ChangeFull, Room as ChangeRoom, Bad as ChangeBad}
use Rattle.envy_btree.proofs.Felling.{without-missing}
use Rattle.envy_calls.specs.Codes.{number_of}
use Rattle.envy_calls.specs.declared.code.Code.{Code}
use Rattle.envy_calls.specs.declared.code.Code.TheVariants.{Done, Off, Full, Absent, MapFull, BadAborted}
use Rattle.envy_index_calls.specs.Attempts.{Attempts, IsRoomless, Moves, Halts, Undone, Steady, change_code, view_of}
use Rattle.envy_index_calls.specs.Indexed.{IsShut, Loses, Pairs, Works, old_of}
use Rattle.envy_index_calls.specs.Ranged.{Aborts, Calls, Changes, ChangesIn, Commits, CreatesIn, Drops, HoldsMapIn, Refuses, Sets, Starts, TellsBegun, TellsDrop, TellsMade, TellsSet, end_code, left_in, marked}
use Rattle.envy_index_calls.specs.Ranges.{IsOpen, IsRange, words_beside, words_in}
use Rattle.envy_index_calls.specs.declared.pairs.EnvyOld.{EnvyOld}
use Rattle.envy_index_calls.specs.declared.ranges.EnvyMap.{EnvyMap}
use Rattle.envy_index_calls.specs.declared.ranges.Whose.{Whose}
use Rattle.envy_index_calls.proofs.Attempting.{least-in}
use Rattle.envy_index_calls.proofs.Blanking.{marked-index}
use Rattle.envy_index_calls.proofs.Lending.{fixed-works}
use Rattle.envy_index_calls.proofs.Ranging.{Back, Given, back-held, on-held, words-live}

-- the call was made
pub called : (puts : ℕ) (Left : Picture → Picture → Code → Type 0) (whose : Whose) (range : Option EnvyMap) (old new : Option Picture) (p q : Picture) (b : Bool) (code : Code) → Given old whose range p b → new ≡ Some q → Works puts p q → Left p q code → Calls puts Left old new (number_of code)
called puts Left whose range old new p q b code g is works left = subst (λ (o : Option Picture). Calls puts Left o new (number_of code)) (sym g.is) (q, code, is, refl, works, left)

pub steady-back : (puts : ℕ) (p q : Picture) (b d : Bool) → Steady (sheet_of p b) (sheet_of q d) → Spends puts (sheet_of p b) (sheet_of q d) → Works puts p q
steady-back puts p q b d s spends = fixed-works puts p q b d s.fixed s.notes s.cuts s.bads s.cut spends

-- the words of a range, before and after
pub in-range : (range : EnvyMap) (b : Bool) (p : Picture) → (sheet_of p b).words ≡ live p.chart → (view_of range (sheet_of p b)).words ≡ words_in range p
in-range range b p is = ap (inside range.first range.words) is

-- ---- changes

moved-back : {T : Type 0} (range : EnvyMap) (p q : Picture) (b d : Bool) (x : T) → (sheet_of p b).words ≡ live p.chart → Back q d → Attempts range (sheet_of p b) (Ok x) (sheet_of q d) → Changes range p q
moved-back range p q b d x is back m = record {
  opened = back.opened m.started;
  kept = m.kept;
  beside = ap (outside range.first range.words) (sym (words-live d q (back-held q d back m.on))) ∙ m.beside ∙ ap (outside range.first range.words) is;
}

halted-back : (p q : Picture) (b d : Bool) → (sheet_of p b).words ≡ live p.chart → Back q d → Halts (sheet_of p b) (sheet_of q d) → Refuses p q
halted-back p q b d is back h = record {
  opened = back.opened h.started;
  kept = h.kept;
  words = sym (words-live d q (back-held q d back h.on)) ∙ h.words ∙ is;
}

failed-back : (T : Type 0) (t : ℕ) (range : EnvyMap) (p q : Picture) (b d : Bool) (fault : ChangeFault) → (sheet_of p b).words ≡ live p.chart → Back q d → Attempts {T = T} range (sheet_of p b) (Err fault) (sheet_of q d) → ChangesIn t range p q (change_code fault)
failed-back T t range p q b d ChangeOff is back e = e
failed-back T t range p q b d ChangeFull is back e = halted-back p q b d is back e
failed-back T t range p q b d ChangeRoom is back e = halted-back p q b d is back e
failed-back T t range p q b d ChangeBad is back e = record { shut = back.shut e.on e.shut; kept = e.kept; rose = e.rose }

-- by the code of an insert,
pub insert-changes : (t : ℕ) (range : EnvyMap) (p q : Picture) (b d : Bool) (r : Result (Option ℕ) ChangeFault) (code : Code) (before after : EnvyOld) → (sheet_of p b).words ≡ live p.chart → Back q d → TellsSet r code before after → Attempts range (sheet_of p b) r (sheet_of q d) → ChangesIn t range p q code
insert-changes t range p q b d (Ok was) code before after is back tells a = subst (λ (k : Code). ChangesIn t range p q k) (sym tells.0) (moved-back range p q b d was is back a)
insert-changes t range p q b d (Err fault) code before after is back tells a = subst (λ (k : Code). ChangesIn t range p q k) (sym tells.0) (failed-back (Option ℕ) t range p q b d fault is back a)

-- and of a removal, which changes no word of a map without the key
pub removal-changes : (t : ℕ) (range : EnvyMap) (p q : Picture) (b d : Bool) (r : Result (Option ℕ) ChangeFault) (code : Code) (before after : ℕ) → (sheet_of p b).words ≡ live p.chart → Back q d → TellsDrop r code before after → Attempts range (sheet_of p b) r (sheet_of q d) → (r ≡ Ok None → (sheet_of q d).words ≡ (sheet_of p b).words) → ChangesIn t range p q code
removal-changes t range p q b d (Ok (Some v)) code before after is back tells a none = subst (λ (k : Code). ChangesIn t range p q k) (sym tells.0) (moved-back range p q b d (Some v) is back a)
removal-changes t range p q b d (Ok None) code before after is back tells a none = subst (λ (k : Code). ChangesIn t range p q k) (sym tells.0) (halted-back p q b d is back (record { on = a.on; started = a.started; kept = a.kept; words = none refl }))
removal-changes t range p q b d (Err fault) code before after is back tells a none = subst (λ (k : Code). ChangesIn t range p q k) (sym tells.0) (failed-back (Option ℕ) t range p q b d fault is back a)

-- and of a map that was made
pub made-changes : (t : ℕ) (range : EnvyMap) (left : ℕ) (p q : Picture) (b d : Bool) (r : Result Unit ChangeFault) (code : Code) → (sheet_of p b).words ≡ live p.chart → Back q d → left ≡ left_in p → IsRoomless left r → TellsMade r code → Attempts range (sheet_of p b) r (sheet_of q d) → (r ≡ Ok tt → (words_in range q ≡ marked (words_in range p)) × IsIndex (words_in range q) []) → CreatesIn t range p q code
made-changes t range left p q b d (Ok done) code is back room refused tells a map = subst (λ (k : Code). CreatesIn t range p q k) (sym tells) (moved-back range p q b d done is back a, (map refl).0, (map refl).1)
made-changes t range left p q b d (Err ChangeOff) code is back room refused tells a map = subst (λ (k : Code). CreatesIn t range p q k) (sym tells) a
made-changes t range left p q b d (Err ChangeBad) code is back room refused tells a map = subst (λ (k : Code). CreatesIn t range p q k) (sym tells) (failed-back Unit t range p q b d ChangeBad is back a)
made-changes t range left p q b d (Err ChangeFull) code is back room refused tells a map = absurd refused
made-changes t range left p q b d (Err ChangeRoom) code is back room refused tells a map = subst (λ (k : Code). CreatesIn t range p q k) (sym tells) (halted-back p q b d is back a, sym room ∙ refused)

-- which holds no pair then
pub made-map : (range : EnvyMap) (p q : Picture) (b d : Bool) (r : Result Unit ChangeFault) → IsRange range (length (sheet_of p b).words) → (sheet_of p b).words ≡ live p.chart → Back q d → Attempts range (sheet_of p b) r (sheet_of q d) → OnOk r ((view_of range (sheet_of q d)).words ≡ marked (view_of range (sheet_of p b)).words) → r ≡ Ok tt → (words_in range q ≡ marked (words_in range p)) × IsIndex (words_in range q) []
made-map range p q b d (Err fault) fits is back a marks done = absurd (let clash : Err fault ≡ Ok tt = done in cc)
made-map range p q b d (Ok unit) fits is back a marks done =
    let now : words_in range q ≡ marked (words_in range p) = sym (in-range range d q (words-live d q (back-held q d back a.on))) ∙ marks ∙ ap marked (in-range range b p is) in
    let size : 640 ≤ length (words_in range p) = subst (λ (ws : List ℕ). 640 ≤ length ws) (in-range range b p is) (least-in range (sheet_of p b) fits) in
    (now, subst (λ (ws : List ℕ). IsIndex ws []) (sym now) (marked-index (words_in range p) size))

-- ---- what a change asks

pub left-is : (p : Picture) (left : ℕ) → length p.owned.pairs + left ≡ p.chart.shape.shadows → left ≡ left_in p
left-is p left is = omega (arith, is)

-- the map that the program promises
pub held-map : (old : Option Picture) (whose : Whose) (range : EnvyMap) (p : Picture) (b : Bool) → Given old whose (Some range) p b → IsRange range (PAGE_WORDS * p.chart.shape.pages) → (sheet_of p b).words ≡ live p.chart → ForSome old (HoldsMapIn range) → (es : Pairs) × IsIndex (view_of range (sheet_of p b)).words es
held-map old whose range p b g fits is some =
    let m = (HoldsMapIn.map (some p g.is)) (on-held b p g.held) fits in
    (m.0, subst (λ (ws : List ℕ). IsIndex ws m.0) (sym (in-range range b p is)) m.1)

-- ---- what a change says of a map

crowded : (pages : ℕ → ℕ) (left more : ℕ) (ws us : List ℕ) → ws ≡ us → left ≡ more → IsCrowded pages left ws → IsCrowded pages more us
crowded pages left more ws us same is c = subst (λ (x : List ℕ). IsCrowded pages more x) same (subst (λ (n : ℕ). IsCrowded pages n ws) is c)

-- with the words of a range for those of its view
pub sets : (key value : ℕ) (es : Pairs) (range : EnvyMap) (left : ℕ) (p q : Picture) (b d : Bool) (r : Result (Option ℕ) ChangeFault) (code : Code) (before after : EnvyOld) → (sheet_of p b).words ≡ live p.chart → Back q d → left ≡ left_in p → TellsSet r code before after → InsertsWithin key value es insertion_pages left (view_of range (sheet_of p b)) r (view_of range (sheet_of q d)) → Sets key value after range es p q code
sets key value es range left p q b d (Ok was) code before after is back room tells (on, found, some, map) =
    subst (λ (k : Code). Sets key value after range es p q k) (sym tells.0) (
      tells.1 ∙ ap old_of found,
      (λ full. some (subst (λ (ws : List ℕ). IsFull ws key es) (sym (in-range range b p is)) full)),
      subst (λ (ws : List ℕ). IsIndex ws (with_pair key value es)) (in-range range d q (words-live d q (back-held q d back on))) map,
    )
sets key value es range left p q b d (Err ChangeOff) code before after is back room tells dark = subst (λ (k : Code). Sets key value after range es p q k) (sym tells.0) tt
sets key value es range left p q b d (Err ChangeFull) code before after is back room tells full =
    subst (λ (k : Code). Sets key value after range es p q k) (sym tells.0) (subst (λ (ws : List ℕ). IsFull ws key es) (in-range range b p is) full.1)
sets key value es range left p q b d (Err ChangeRoom) code before after is back room tells few =
    subst (λ (k : Code). Sets key value after range es p q k) (sym tells.0) (crowded insertion_pages left (left_in p) _ _ (in-range range b p is) room few.1)
sets key value es range left p q b d (Err ChangeBad) code before after is back room tells (on, rose, some) =
    subst (λ (k : Code). Sets key value after range es p q k) (sym tells.0) (λ full. some (subst (λ (ws : List ℕ). IsFull ws key es) (sym (in-range range b p is)) full))

pub drops : (key : ℕ) (es : Pairs) (range : EnvyMap) (left : ℕ) (p q : Picture) (b d : Bool) (r : Result (Option ℕ) ChangeFault) (code : Code) (before after : ℕ) → (sheet_of p b).words ≡ live p.chart → Back q d → left ≡ left_in p → TellsDrop r code before after → RemovesWithin key es removal_pages left (view_of range (sheet_of p b)) r (view_of range (sheet_of q d)) → Drops key after range es p q code
drops key es range left p q b d (Ok (Some v)) code before after is back room tells (on, found, map) =
    subst (λ (k : Code). Drops key after range es p q k) (sym tells.0) (
      sym found ∙ ap Some (sym tells.1),
      subst (λ (ws : List ℕ). IsIndex ws (without key es)) (in-range range d q (words-live d q (back-held q d back on))) map,
    )
drops key es range left p q b d (Ok None) code before after is back room tells (on, found, map) = subst (λ (k : Code). Drops key after range es p q k) (sym tells.0) (sym found)
drops key es range left p q b d (Err ChangeOff) code before after is back room tells dark = subst (λ (k : Code). Drops key after range es p q k) (sym tells.0) tt
drops key es range left p q b d (Err ChangeFull) code before after is back room tells never = absurd never
drops key es range left p q b d (Err ChangeRoom) code before after is back room tells few =
    subst (λ (k : Code). Drops key after range es p q k) (sym tells.0) (crowded removal_pages left (left_in p) _ _ (in-range range b p is) room few.1)
drops key es range left p q b d (Err ChangeBad) code before after is back room tells bad = subst (λ (k : Code). Drops key after range es p q k) (sym tells.0) tt

-- what isn't done isn't written

pub set-stays : (r : Result (Option ℕ) ChangeFault) (code : Code) (before after : EnvyOld) → TellsSet r code before after → code ≢ Done → after ≡ before
set-stays (Ok was) code before after tells other = absurd (other tells.0)
set-stays (Err fault) code before after tells other = tells.1

pub drop-stays : (r : Result (Option ℕ) ChangeFault) (code : Code) (before after : ℕ) → TellsDrop r code before after → code ≢ Done → after ≡ before
drop-stays (Ok (Some v)) code before after tells other = absurd (other tells.0)
drop-stays (Ok None) code before after tells other = tells.1
drop-stays (Err fault) code before after tells other = tells.1

-- ---- transactions

pub keeps-steady : (puts : ℕ) (p q : Picture) (b d : Bool) → SheetKeeps (sheet_of p b) (sheet_of q d) → Spends puts (sheet_of p b) (sheet_of q d) → Works puts p q
keeps-steady puts p q b d k spends = fixed-works puts p q b d k.fixed k.notes k.cuts k.bads k.cut spends

nothing-in : {A B : Type 0} (f : A → B) (xs : List A) → map f xs ≡ [] → xs ≡ []
nothing-in f [] is = refl
nothing-in f (x ∷ xs) is = absurd (let clash : length (map f (x ∷ xs)) ≡ 0 = ap length is in omega arith)

pub begun-code : (r : Result Unit OffNow) (code : Code) (before after : ℕ) → TellsBegun r code before after → code ≡ end_code r
begun-code (Ok done) code before after tells = tells.0
begun-code (Err off) code before after tells = tells.0

pub begun-slot : (r : Result Unit OffNow) (code : Code) (before after : ℕ) → TellsBegun r code before after → code ≡ Done → after ≡ 0
begun-slot (Ok done) code before after tells is = tells.1
begun-slot (Err off) code before after tells is = absurd (let clash : Off ≡ Done = sym tells.0 ∙ is in cc)

pub begun-stays : (r : Result Unit OffNow) (code : Code) (before after : ℕ) → TellsBegun r code before after → code ≢ Done → after ≡ before
begun-stays (Ok done) code before after tells other = absurd (other tells.0)
begun-stays (Err off) code before after tells other = tells.1

pub started-back : (p q : Picture) (b d : Bool) (r : Result Unit OffNow) → (sheet_of p b).words ≡ live p.chart → Back q d → SheetStarts (sheet_of p b) r (sheet_of q d) → Starts p q (end_code r)
started-back p q b d (Ok done) is back e = (back.opened e.1, sym (words-live d q (back-held q d back e.0)) ∙ e.2 ∙ is, e.3, nothing-in _ q.owned.pairs e.4)
started-back p q b d (Err off) is back e = (e.0, e.1)

pub finished-back : (t : ℕ) (p q : Picture) (b d : Bool) (r : Result Unit OffNow) → (sheet_of p b).words ≡ live p.chart → Back q d → Finishes (sheet_of p b) r (sheet_of q d) → Commits t p q (end_code r)
finished-back t p q b d (Ok done) is back e = (back.shut e.0 e.1, e.2 ∙ is)
finished-back t p q b d (Err off) is back e = (e.0, elim e.1 [ inl none ↦ inl none | inr all ↦ inr (all ∙ is) ])

pub undone-back : (t : ℕ) (p q : Picture) (b d : Bool) (r : Result Unit OffNow) → Back q d → Undoes (sheet_of p b) r (sheet_of q d) → Aborts t p q (end_code r)
undone-back t p q b d (Ok done) back e = (back.shut e.0 e.1, e.2)
undone-back t p q b d (Err off) back e = (e.0, e.1)

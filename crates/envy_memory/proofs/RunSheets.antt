-- Runs of words, as a memory with one transaction shows them.
use Rattle.std.proofs.Common.{◌≡◌, ◌≢◌, ◌⊎◌, inl, inr, ℕ, zero, suc, ◌+◌, ◌-◌, ◌*◌, ◌/◌, ◌%◌, ◌^◌, ◌<◌, ◌≤◌, Bool, true, false, List, length, take, drop, get_or, set, Option, None, Some, refl, sym, ◌∙◌, ap, subst, arith}
use Rattle.std.specs.Prelude.{◌↔◌, ◌&&◌, IsTrue, Result, Ok, Err, nat_lt, is_none, if◌then◌else◌, slice_index, slice_set}
use Rattle.std.proofs.Math.Logic.{∥∥₁_elim}
use Rattle.std.proofs.Props.{props}
use Rattle.std.proofs.lemmas.Bool.{cases_lt, lt-ltb}
use Rattle.std.proofs.lemmas.List.{ext_get_or, get_or-drop, get_or-take, length-drop, length-take}
use Rattle.std.proofs.lemmas.List.Edits.{paste_more, paste_none}
use Rattle.envy_array.specs.Array.{Array}
use Rattle.envy_array.specs.Words.{OnPage, PutsRun as SheetPutsRun, Sheet, Spends, Works as SheetWorks, has, pasted, run_at}
use Rattle.envy_array.proofs.Working.{OnPage-refl, OnPage-still, OnPage-trans, Spends-refl, Spends-then, Spends-trans, rose-low}
use Rattle.envy_base.specs.Counting.{Rose}
use Rattle.envy_base.specs.declared.board.Trouble.{Trouble}
use Rattle.envy_base.specs.declared.board.Trouble.TheVariants.{Off as TroubleOff, Bad as TroubleBad}
use Rattle.envy_map.specs.Fields.{Chart}
use Rattle.envy_meaning.specs.Stands.{Holds, Stands}
use Rattle.envy_soundness.specs.Words.{live}
use Rattle.envy_txn.specs.Owners.{Ownership, owner_of}
use Rattle.envy_memory.specs.Below.{PutsBelow, flush_erases, flush_programs}
use Rattle.envy_memory.specs.Calls.{HasFailed}
use Rattle.envy_memory.specs.Effects.{is_unowned}
use Rattle.envy_memory.specs.Faults.{IsNoRefusal, trouble_of}
use Rattle.envy_memory.specs.Lawful.{words_long}
use Rattle.envy_memory.specs.LoadRuns.{AreLive}
use Rattle.envy_memory.specs.Picture.{Picture}
use Rattle.envy_memory.specs.PutRuns.{EndsRun, PutsBy, PutsMore, PutsRun, PutsWord}
use Rattle.envy_memory.specs.Rooms.{LacksRoom, pages_within, unowned}
use Rattle.envy_memory.specs.Runs.{RunsPast, is_more, pages_met}
use Rattle.envy_memory.specs.Sheets.{IsHeld, sheet_of}
use Rattle.envy_memory.specs.declared.faults.PutFault.{PutFault}
use Rattle.envy_memory.specs.declared.faults.PutFault.TheVariants.{Off as PutOff, Range as PutRange, Closed as PutClosed, Held as PutHeld, Full as PutFull, Bad as PutBad}
use Rattle.envy_memory.proofs.Ended.{PutMeets, never-refused, put-answer, put-keeps, put-works}
use Rattle.envy_memory.proofs.Facts.{on-from}
use Rattle.envy_memory.proofs.Pricing.{sheet-spends}
use Rattle.envy_memory.proofs.Transacting.{put-kept, put-words, put-works-bad, owned-has, pages-long, words-held}

-- ---- loads

-- lists of one length whose words are the same
pub same-words : (xs ys : List ℕ) → length xs ≡ length ys → ((i : ℕ) → i < length xs → get_or xs i 0 ≡ get_or ys i 0) → xs ≡ ys
same-words xs ys long each = ext_get_or 0 xs ys long each

pub run-in-range : (p : Picture) (b : Bool) (a n : ℕ) → a + n ≤ length (sheet_of p b).words → RunsPast a n p → ⊥
run-in-range p b a n le (on, some, past) = let long = words_long (p.chart.on && b) p.chart in absurd (omega arith)

live-words : (p : Picture) (b : Bool) → IsTrue p.chart.on → IsHeld p.chart b → live p.chart ≡ (sheet_of p b).words
live-words p b on h = Holds.live (Stands.holds (IsHeld.stands h)) ∙ sym (words-held p b on h)

pub live-is : (p : Picture) (b : Bool) → IsTrue p.chart.on → ∥ (IsTrue p.chart.on → IsHeld p.chart b) ∥₁ → live p.chart ≡ (sheet_of p b).words
live-is p b on held = ∥∥₁_elim held (search props) (λ hold. live-words p b on (hold on))

-- the words of a run that was loaded
pub run-words : (p : Picture) (b : Bool) (a : ℕ) (run : List ℕ) → IsTrue p.chart.on → ∥ (IsTrue p.chart.on → IsHeld p.chart b) ∥₁ → a + length run ≤ length (sheet_of p b).words → AreLive p.chart a run → run ≡ run_at (sheet_of p b).words a (length run)
run-words p b a run on held within are = ∥∥₁_elim held (search props) (λ hold. same-words run (run_at (sheet_of p b).words a (length run)) long (λ i lt. at (hold on) i lt))
  where
    ws : List ℕ
    ws = (sheet_of p b).words

    long : length run ≡ length (run_at ws a (length run))
    long = let n = length-take (length run) (drop a ws) in let m = length-drop a ws in omega arith

    at : IsHeld p.chart b → (i : ℕ) → i < length run → get_or run i 0 ≡ get_or (run_at ws a (length run)) i 0
    at h i lt = are i lt ∙ ap (λ (xs : List ℕ). get_or xs (a + i) 0) (live-words p b on h) ∙ sym (get_or-drop a ws i 0) ∙ sym (get_or-take (length run) (drop a ws) i 0 lt)

-- ---- puts

-- what a run of puts of slot 0 within a page meets
pub record Meets (b : Bool) (a : ℕ) (list : List ℕ) (p : Picture) : Type 0 where
  pub on : IsTrue p.chart.on
  pub held : ∥ (IsTrue p.chart.on → IsHeld p.chart b) ∥₁
  pub within : a + length list ≤ length (sheet_of p b).words
  pub page : a % 32 + length list ≤ 32
  pub room : IsTrue (has (sheet_of p b).pages (a / 32)) ⊎ (length (sheet_of p b).pages < (sheet_of p b).room)

-- its first k words are put
record Ran (a k : ℕ) (list : List ℕ) (p r : Picture) : Type 0 where
  pub on : IsTrue r.chart.on
  pub held : ∥ (IsTrue r.chart.on → IsHeld r.chart true) ∥₁
  pub page : OnPage (a / 32) (sheet_of p true) (sheet_of r true)
  pub spends : Spends k (sheet_of p true) (sheet_of r true)
  pub words : (sheet_of r true).words ≡ pasted a list k (sheet_of p true).words

-- what the put of one word leaves
abbrev Did : Sheet → ℕ → ℕ → Result Unit Trouble → Sheet → Type 0
Did old a w (Ok done) new = IsTrue new.on × (new.words ≡ slice_set old.words a w)
Did old a w (Err TroubleOff) new = new.on ≡ false
Did old a w (Err TroubleBad) new = IsTrue new.on × (new.words ≡ old.words) × Rose old.bads new.bads

record Word (a at w : ℕ) (r : Result Unit PutFault) (x y : Picture) : Type 0 where
  pub fine : IsNoRefusal r
  pub held : ∥ (IsTrue y.chart.on → IsHeld y.chart true) ∥₁
  pub page : OnPage (a / 32) (sheet_of x true) (sheet_of y true)
  pub spends : Spends 1 (sheet_of x true) (sheet_of y true)
  pub did : Did (sheet_of x true) at w (trouble_of r) (sheet_of y true)

did-of : (r : Result Unit PutFault) (at w : ℕ) (x y : Picture) → IsNoRefusal r → Rattle.envy_array.specs.Words.Puts (sheet_of x true) at w (trouble_of r) (sheet_of y true) → Did (sheet_of x true) at w (trouble_of r) (sheet_of y true)
did-of (Ok done) at w x y fine p = (p.0, p.1)
did-of (Err PutOff) at w x y fine p = p
did-of (Err PutBad) at w x y fine p = (p.0, p.1, p.3)
did-of (Err PutRange) at w x y fine p = absurd fine
did-of (Err PutClosed) at w x y fine p = absurd fine
did-of (Err (PutHeld u)) at w x y fine p = absurd fine
did-of (Err PutFull) at w x y fine p = absurd fine

same-page : (a k n : ℕ) → a % 32 + n ≤ 32 → k < n → (a + k) / 32 ≡ a / 32
same-page a k n le lt = omega arith

-- the first word is put as any
first-word : (a k : ℕ) (list : List ℕ) (w : ℕ) (r : Result Unit PutFault) (p x y : Picture) → Meets true a list p → Ran a k list p x → k < length list → PutsWord 0 (a + k) w r x y → Word a (a + k) w r x y
first-word a k list w r p x y m ran lt puts = record {
  fine = fine;
  held = put-keeps x.chart y.chart true (a + k) w r refl ran.on ran.held puts.step puts.off;
  page = subst (λ (q : ℕ). OnPage q (sheet_of x true) (sheet_of y true)) here (put-works x y true (a + k) w r meets fine);
  spends = sheet-spends 1 (flush_programs x.chart.shape.rows) flush_erases x y true true (omega arith) (omega arith) (PutsBelow.works puts.below);
  did = did-of r (a + k) w x y fine (put-answer x y true (a + k) w r meets fine);
}
  where
    here : (a + k) / 32 ≡ a / 32
    here = same-page a k (length list) m.page lt

    meets : PutMeets x y true (a + k) w r
    meets = record {
      begun = refl;
      on = ran.on;
      held = ran.held;
      address = let long = SheetWorks.long (OnPage.works ran.page) in let within = m.within in omega (arith, lt);
      room = OnPage-still (a / 32) ((a + k) / 32) (sheet_of p true) (sheet_of x true) ran.page ran.on here m.room;
      step = puts.step;
      off = puts.off;
      cut = puts.cut;
      range = puts.range;
      closed = puts.closed;
      full = puts.full;
      bad = puts.bad;
      below = puts.below;
    }

    fine : IsNoRefusal r
    fine = never-refused x y true (a + k) w r meets

-- another goes straight into the frame
more-word : (a at w : ℕ) (r : Result Unit PutFault) (x y : Picture) → IsTrue x.chart.on → ∥ (IsTrue x.chart.on → IsHeld x.chart true) ∥₁ → PutsMore 0 at w r x y → (r ≡ Ok tt) ⊎ (r ≡ Err PutOff) → Word a at w r x y
more-word a at w r x y on held puts ends = record {
  fine = fine ends;
  held = put-keeps x.chart y.chart true at w r refl on held puts.step puts.off;
  page = put-works-bad 0 0 x y true (a / 32) puts.works puts.cut (put-kept x.chart y.chart at w r on held puts.step) (ap (λ (z : Picture). z.owned) puts.kept);
  spends = sheet-spends 1 0 0 x y true true (omega arith) (omega arith) puts.works;
  did = did ends;
}
  where
    fine : (r ≡ Ok tt) ⊎ (r ≡ Err PutOff) → IsNoRefusal r
    fine (inl e) = subst IsNoRefusal (sym e) tt
    fine (inr e) = subst IsNoRefusal (sym e) tt

    lit : r ≡ Ok tt → IsTrue y.chart.on
    lit e = on-from y.chart.on (λ dark. let clash : Ok tt ≡ Err PutOff = sym e ∙ puts.off.1 dark in cc)

    did : (r ≡ Ok tt) ⊎ (r ≡ Err PutOff) → Did (sheet_of x true) at w (trouble_of r) (sheet_of y true)
    did (inl e) = subst (λ (z : Result Unit PutFault). Did (sheet_of x true) at w (trouble_of z) (sheet_of y true)) (sym e) (lit e, put-words x y at w on (lit e) held (λ arr stands. subst (λ (z : Result Unit PutFault). Rattle.envy_memory.specs.Calls.Puts arr 0 at w z y.chart) e (puts.step arr stands)))
    did (inr e) = subst (λ (z : Result Unit PutFault). Did (sheet_of x true) at w (trouble_of z) (sheet_of y true)) (sym e) (puts.off.0 e)

more-of : (a k n : ℕ) → a % 32 + n ≤ 32 → suc k < n → is_more a (suc k) ≡ true
more-of a k n le lt =
    let some : nat_lt 0 (suc k) ≡ true = lt-ltb 0 (suc k) (omega arith) in
    let far : nat_lt 0 ((a + suc k) % 32) ≡ true = lt-ltb 0 ((a + suc k) % 32) (omega arith) in
    rw some far

-- word k
one-word : (a k : ℕ) (list : List ℕ) (w : ℕ) (r : Result Unit PutFault) (p x y : Picture) → Meets true a list p → Ran a k list p x → k < length list → PutsBy (is_more a k) 0 (a + k) w r x y → Word a (a + k) w r x y
one-word a zero list w r p x y m ran lt puts = first-word a zero list w r p x y m ran lt puts
one-word a (suc k) list w r p x y m ran lt puts =
    let more = subst (λ (b : Bool). PutsBy b 0 (a + suc k) w r x y) (more-of a k (length list) m.page lt) puts in
    more-word a (a + suc k) w r x y ran.on ran.held more (PutsMore.ends more)

-- words of a run, one after another
run-so : (a k : ℕ) (list : List ℕ) (p r : Picture) → Meets true a list p → k ≤ length list → PutsRun k list 0 a p r → Ran a k list p r
run-so a zero list p r m le same = subst (λ (x : Picture). Ran a zero list p x) (sym same) (record {
  on = m.on;
  held = m.held;
  page = OnPage-refl (a / 32) (sheet_of p true);
  spends = Spends-refl (sheet_of p true);
  words = paste_none (sheet_of p true).words a list;
})
run-so a (suc k) list p r m le (x, run, puts) =
    let ran = run-so a k list p x m (omega arith) run in
    let lt : k < length list = omega arith in
    let word = one-word a k list (slice_index list k) (Ok tt) p x r m ran lt puts in
    let next : k + 1 ≡ suc k = omega arith in
    let long = m.within in
    record {
      on = word.did.0;
      held = word.held;
      page = OnPage-trans (a / 32) (sheet_of p true) (sheet_of x true) (sheet_of r true) ran.page word.page;
      spends = subst (λ (n : ℕ). Spends n (sheet_of p true) (sheet_of r true)) next (Spends-trans k 1 (sheet_of p true) (sheet_of x true) (sheet_of r true) ran.spends word.spends);
      words = word.did.1 ∙ ap (λ (ws : List ℕ). set ws (a + k) (get_or list k 0)) ran.words ∙ paste_more (sheet_of p true).words a list k 0 (omega arith) lt ∙ ap (λ (n : ℕ). pasted a list n (sheet_of p true).words) next;
    }

-- what the whole run leaves
pub record RunLeaves (b : Bool) (a : ℕ) (list : List ℕ) (answer : Result Unit PutFault) (p q : Picture) : Type 0 where
  pub fine : IsNoRefusal answer
  pub held : ∥ (IsTrue q.chart.on → IsHeld q.chart b) ∥₁
  pub page : OnPage (a / 32) (sheet_of p b) (sheet_of q b)
  pub spends : Spends (length list) (sheet_of p b) (sheet_of q b)
  pub puts : SheetPutsRun (sheet_of p b) a list (trouble_of answer) (sheet_of q b)

run-puts : (a k : ℕ) (list : List ℕ) (answer : Result Unit PutFault) (p x q : Picture) → k < length list → answer ≢ Ok tt → Ran a k list p x → Word a (a + k) (slice_index list k) answer x q → SheetPutsRun (sheet_of p true) a list (trouble_of answer) (sheet_of q true)
run-puts a k list (Ok done) p x q lt other ran word = absurd (other refl)
run-puts a k list (Err PutOff) p x q lt other ran word = word.did
run-puts a k list (Err PutBad) p x q lt other ran word = (word.did.0, rose-from p.chart.bads x.chart.bads q.chart.bads (SheetWorks.bads (OnPage.works ran.page)) (SheetWorks.bads (OnPage.works word.page)) word.did.2, (k, omega arith, word.did.1 ∙ ran.words))
  where
    rose-from : (l m n : ℕ) → l ≤ m → m ≤ n → Rose m n → Rose l n
    rose-from l m n le ge rose few = elim (cases_lt m (2 ^ 64 - 1)) [ inl lt ↦ (let more : m < n = rose lt in omega arith) | inr most ↦ omega (arith, most) ]
run-puts a k list (Err PutRange) p x q lt other ran word = absurd word.fine
run-puts a k list (Err PutClosed) p x q lt other ran word = absurd word.fine
run-puts a k list (Err (PutHeld u)) p x q lt other ran word = absurd word.fine
run-puts a k list (Err PutFull) p x q lt other ran word = absurd word.fine

run-leaves : (a k : ℕ) (list : List ℕ) (answer : Result Unit PutFault) (p x q : Picture) → Meets true a list p → PutsRun k list 0 a p x → EndsRun x q 0 a list k answer → RunLeaves true a list answer p q
run-leaves a k list answer p x q m run (inl (all, same, done)) =
    let ran = run-so a k list p x m (omega arith) run in
    let left : RunLeaves true a list (Ok tt) p x = record {
      fine = tt;
      held = ran.held;
      page = ran.page;
      spends = subst (λ (n : ℕ). Spends n (sheet_of p true) (sheet_of x true)) all ran.spends;
      puts = (ran.on, ran.words ∙ ap (λ (n : ℕ). pasted a list n (sheet_of p true).words) all);
    } in
    subst (λ (r : Result Unit PutFault). RunLeaves true a list r p q) (sym done) (subst (λ (z : Picture). RunLeaves true a list (Ok tt) p z) (sym same) left)
run-leaves a k list answer p x q m run (inr (lt, other, puts)) =
    let ran = run-so a k list p x m (omega arith) run in
    let word = one-word a k list (slice_index list k) answer p x q m ran lt puts in
    record {
      fine = word.fine;
      held = word.held;
      page = OnPage-trans (a / 32) (sheet_of p true) (sheet_of x true) (sheet_of q true) ran.page word.page;
      spends = Spends-then k 1 (length list) (sheet_of p true) (sheet_of x true) (sheet_of q true) (omega arith) ran.spends word.spends;
      puts = run-puts a k list answer p x q lt other ran word;
    }

-- there is room for the one page that it meets
met-few : (a n : ℕ) → a % 32 + n ≤ 32 → pages_met a n ≤ 1
met-few a zero le = omega arith
met-few a (suc n) le = omega arith

run-has-room : (a : ℕ) (list : List ℕ) (p : Picture) → Meets true a list p → length p.owned.pairs ≤ p.chart.shape.shadows → LacksRoom 0 a (length list) p → ⊥
run-has-room a list p m few (on, active, lacks) = at (pages_within a (length list) p.chart.shape.pages) one lacks m.room
  where
    one : pages_within a (length list) p.chart.shape.pages ≤ 1
    one = let met = met-few a (length list) m.page in omega arith

    spent : (b : Bool) (s n : ℕ) → b ≡ false → s < n + ((if b then 1 else 0) + 0) → n ≤ s → ⊥
    spent true s n none lack le = let clash : true ≡ false = none in cc
    spent false s n none lack le = omega arith

    most : (b : Bool) (s n : ℕ) → s < n + ((if b then 1 else 0) + 0) → n < s → ⊥
    most true s n lack lt = omega arith
    most false s n lack lt = omega arith

    first : a / 32 + 0 ≡ a / 32
    first = omega arith

    at : (k : ℕ) → k ≤ 1 → p.chart.shape.shadows < length p.owned.pairs + unowned k (a / 32) p.owned → IsTrue (has (sheet_of p true).pages (a / 32)) ⊎ (length (sheet_of p true).pages < (sheet_of p true).room) → ⊥
    at zero le lack room = omega (arith, few)
    at (suc zero) le lack (inl there) = spent (is_unowned p.owned (a / 32 + 0)) p.chart.shape.shadows (length p.owned.pairs) (ap (is_unowned p.owned) first ∙ owned-has p.owned.pairs (a / 32) there) lack few
    at (suc zero) le lack (inr less) = let long = pages-long p.owned.pairs in most (is_unowned p.owned (a / 32 + 0)) p.chart.shape.shadows (length p.owned.pairs) lack (omega (arith, less))
    at (suc (suc k)) le lack room = omega arith

-- the run that an open transaction puts, of which no word is refused
pub run-answers : (b : Bool) (a k : ℕ) (list : List ℕ) (answer : Result Unit PutFault) (p q : Picture) → b ≡ true → Meets b a list p → length p.owned.pairs ≤ p.chart.shape.shadows → ((answer ≡ Err PutFull) ↔ LacksRoom 0 a (length list) p) → ((x : Picture) × PutsRun k list 0 a p x × (answer ≢ Err PutFull → EndsRun x q 0 a list k answer)) → RunLeaves b a list answer p q
run-answers b a k list answer p q begun m few full (x, run, ends) =
    let meets = subst (λ (z : Bool). Meets z a list p) begun m in
    subst (λ (z : Bool). RunLeaves z a list answer p q) (sym begun) (run-leaves a k list answer p x q meets run (ends (λ e. run-has-room a list p meets few (full.0 e))))

-- how many words there are stays
pub run-few : (p q : Picture) (b : Bool) (r : ℕ) → OnPage r (sheet_of p b) (sheet_of q b) → 32 * p.chart.shape.pages < 2 ^ 32 → 32 * q.chart.shape.pages < 2 ^ 32
run-few p q b r page few =
    let same = SheetWorks.long (OnPage.works page) in
    let old = words_long (p.chart.on && b) p.chart in
    let new = words_long (q.chart.on && b) q.chart in
    omega arith

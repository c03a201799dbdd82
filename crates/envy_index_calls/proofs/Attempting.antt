-- A change through a view of a range: what it leaves of the words below, and how it is settled.
use Rattle.std.proofs.Common.{◌≡◌, ◌⊎◌, inl, inr, ℕ, ◌+◌, ◌*◌, ◌≤◌, ◌<◌, ◌^◌, ◌-◌, Bool, true, false, IsTrue, List, ◌∷◌, ◌++◌, take, drop, length, refl, sym, ◌∙◌, ap, subst, arith}
use Rattle.std.specs.Prelude.{Result, Ok, Err, Option}
use Rattle.std.proofs.lemmas.Bool.{cases_lt}
use Rattle.std.proofs.lemmas.List.{drop-drop, length-map, take-append-drop}
use Rattle.envy_array.specs.Words.{Sheet, IsSheet, Works, Keeps, Spends, Undoes, Fails}
use Rattle.envy_base.specs.Counting.{Rose}
use Rattle.envy_base.specs.declared.board.Off.{Off as OffNow}
use Rattle.envy_base.specs.declared.board.Trouble.{Trouble}
use Rattle.envy_base.specs.declared.board.Trouble.TheVariants.{Off as TroubleOff, Bad as TroubleBad}
use Rattle.envy_range.specs.Ranges.{inside, outside, page_in, within, Stays}
use Rattle.envy_range.specs.Lawful.{inside-long}
use Rattle.envy_range.proofs.Parts.{front-same, rear-same}
use Rattle.envy_range.proofs.Staying.{stays}
use Rattle.envy_btree.specs.Answers.{IsFull}
use Rattle.envy_btree.specs.Depths.{insertion_pages, removal_pages}
use Rattle.envy_btree.specs.Index.{IsIndex}
use Rattle.envy_btree.specs.Within.{InsertsWithin, RemovesWithin, Refuses}
use Rattle.envy_btree.specs.declared.fault.ChangeFault.{ChangeFault}
use Rattle.envy_btree.specs.declared.fault.ChangeFault.TheVariants.{Off, Full, Room, Bad}
use Rattle.envy_index_calls.specs.Attempts.{Attempts, HasFailed, Halts, Moves, Settles, Steady, Undone, view_of}
use Rattle.envy_index_calls.specs.Ranges.{IsRange}
use Rattle.envy_index_calls.specs.declared.ranges.EnvyMap.{EnvyMap}

-- ---- lists in parts

-- words that agree in a range and outside it are the same
pub whole : (first count : ℕ) (xs ys : List ℕ) → first ≤ length xs → first ≤ length ys → inside first count xs ≡ inside first count ys → outside first count xs ≡ outside first count ys → xs ≡ ys
unfolding inside
whole first count xs ys long size mid rest =
    parts xs
    ∙ ap (λ (front : List ℕ). front ++ (take count (drop first xs) ++ drop (first + count) xs)) (front-same first count xs ys long size rest)
    ∙ ap (λ (m : List ℕ). take first ys ++ (m ++ drop (first + count) xs)) mid
    ∙ ap (λ (rear : List ℕ). take first ys ++ (take count (drop first ys) ++ rear)) (rear-same first count xs ys long size rest)
    ∙ sym (parts ys)
  where
    drop-more : (ws : List ℕ) → drop count (drop first ws) ≡ drop (first + count) ws
    drop-more ws = drop-drop count first ws

    parts : (ws : List ℕ) → ws ≡ take first ws ++ (take count (drop first ws) ++ drop (first + count) ws)
    parts ws = sym (ap (λ (rear : List ℕ). take first ws ++ rear) (ap (λ (rear : List ℕ). take count (drop first ws) ++ rear) (sym (drop-more ws)) ∙ take-append-drop count (drop first ws)) ∙ take-append-drop first ws)

-- ---- what work through a view leaves

pub record Viewed (range : EnvyMap) (old mid : Sheet) : Type 0 where
  pub stays : Stays range.first range.words old mid
  pub kept : mid.kept ≡ old.kept
  pub steady : Steady old mid

-- as many words as a range says lie in it
fits-in : (range : EnvyMap) (s : Sheet) → IsRange range (length s.words) → range.first + range.words ≤ length s.words
fits-in range s r = r.fits

pub size-in : (range : EnvyMap) (s : Sheet) → IsRange range (length s.words) → length (view_of range s).words ≤ 2 ^ 29
size-in range s r = omega (arith, r.most, inside-long range.first range.words s.words r.fits)

pub least-in : (range : EnvyMap) (s : Sheet) → IsRange range (length s.words) → 640 ≤ length (view_of range s).words
least-in range s r = omega (arith, r.least, inside-long range.first range.words s.words r.fits)

pub room-in : (range : EnvyMap) (s : Sheet) (left : ℕ) → length s.pages + left ≤ s.room → length (view_of range s).pages + left ≤ (view_of range s).room
room-in range s left room = omega (arith, room, length-map s.pages (page_in range.first range.words))

-- the view afterwards is one of the same range
pub viewed : (range : EnvyMap) (first count k : ℕ) (old mid : Sheet) → IsSheet old → IsSheet mid → IsRange range (length old.words) → Works k (view_of range old) (within first count mid) → Viewed range old mid
viewed range first count k old mid law then r w =
    let s = stays range.first range.words first count k old mid law then w in
    let same = s.2 in
    let inner : inside range.first range.words mid.kept ≡ inside range.first range.words old.kept = subst (λ (n : ℕ). inside n range.words mid.kept ≡ inside range.first range.words old.kept) s.0 (subst (λ (n : ℕ). inside first n mid.kept ≡ inside range.first range.words old.kept) s.1 w.kept) in
    let long : length mid.words ≡ length old.words = Stays.long same in
    record {
      stays = same;
      kept = whole range.first range.words mid.kept old.kept (omega (arith, r.fits, long, then.long)) (omega (arith, r.fits, law.long)) inner (Stays.kept same);
      steady = record { fixed = ap (λ (ns : List ℕ). drop 3 ns) w.fixed; notes = w.notes; cuts = w.cuts; bads = w.bads; cut = w.cut };
    }

-- the same view, by its own words
pub same-view : (range : EnvyMap) (first count k : ℕ) (old mid : Sheet) → IsSheet old → IsSheet mid → Works k (view_of range old) (within first count mid) → within first count mid ≡ view_of range mid
same-view range first count k old mid law then w =
    let s = stays range.first range.words first count k old mid law then w in
    ap (λ (n : ℕ). within n count mid) s.0 ∙ ap (λ (n : ℕ). within range.first n mid) s.1

-- a view of the range of the words
pub view-is : (range : EnvyMap) (first count : ℕ) (old below : Sheet) → first ≡ range.first → count ≡ range.words → below ≡ old → within first count below ≡ view_of range old
view-is range first count old below begins counts is =
    ap (λ (n : ℕ). within n count below) begins ∙ ap (λ (n : ℕ). within range.first n below) counts ∙ ap (view_of range) is

-- flash work through a view is that of the words below
pub spends-below : (n first count other size : ℕ) (old below mid : Sheet) → below ≡ old → Spends n (within first count below) (within other size mid) → Spends n old mid
spends-below n first count other size old below mid is s = subst (λ (x : Sheet). Spends n x mid) is (record { price = s.price; programs = s.programs; erases = s.erases })

-- work through a view of the range, whatever it is called
pub record Through (range : EnvyMap) (k : ℕ) (old mid view : Sheet) : Type 0 where
  pub viewed : Viewed range old mid
  pub works : Works k (view_of range old) (view_of range mid)
  pub same : view ≡ view_of range mid

pub through : (range : EnvyMap) (first count k : ℕ) (old mid ahead : Sheet) → ahead ≡ view_of range old → IsSheet old → IsSheet mid → IsRange range (length old.words) → Works k ahead (within first count mid) → Through range k old mid (within first count mid)
through range first count k old mid ahead is law then r w =
    let before = subst (λ (s : Sheet). Works k s (within first count mid)) is w in
    let same = same-view range first count k old mid law then before in
    record {
      viewed = viewed range first count k old mid law then r before;
      works = subst (λ (s : Sheet). Works k (view_of range old) s) same before;
      same = same;
    }

-- ---- the answer of a change within the transaction

-- what is known of it, whatever the change is
abbrev pub Saw : {T : Type 0} → Sheet → Result T ChangeFault → Sheet → Type 0
Saw old (Ok x) new = IsTrue new.on
Saw old (Err Off) new = new.on ≡ false
Saw old (Err Full) new = Refuses old new
Saw old (Err Room) new = Refuses old new
Saw old (Err Bad) new = IsTrue new.on × Rose old.bads new.bads

pub saw-insert : (key value : ℕ) (es : List (ℕ × ℕ)) (left : ℕ) (old new : Sheet) (r : Result (Option ℕ) ChangeFault) → InsertsWithin key value es insertion_pages left old r new → Saw old r new
saw-insert key value es left old new (Ok was) e = e.0
saw-insert key value es left old new (Err Off) e = e
saw-insert key value es left old new (Err Full) e = e.0
saw-insert key value es left old new (Err Room) e = e.0
saw-insert key value es left old new (Err Bad) e = (e.0, e.1)

pub saw-removal : (key : ℕ) (es : List (ℕ × ℕ)) (left : ℕ) (old new : Sheet) (r : Result (Option ℕ) ChangeFault) → RemovesWithin key es removal_pages left old r new → Saw old r new
saw-removal key es left old new (Ok was) e = e.0
saw-removal key es left old new (Err Off) e = e
saw-removal key es left old new (Err Full) e = absurd e
saw-removal key es left old new (Err Room) e = e.0
saw-removal key es left old new (Err Bad) e = (e.0, e.1)

-- the words outside the range
beside-stays : (range : EnvyMap) (old mid : Sheet) → IsTrue mid.on → Viewed range old mid → outside range.first range.words mid.words ≡ outside range.first range.words old.words
beside-stays range old mid on v = elim (Stays.words v.stays) [ inl same ↦ same | inr gone ↦ absurd (let clash : true ≡ false = sym on ∙ gone.0 in cc) ]

-- the words below, if those of the view stayed
pub all-stay : (range : EnvyMap) (old mid : Sheet) → IsRange range (length old.words) → IsTrue mid.on → Viewed range old mid → (view_of range mid).words ≡ (view_of range old).words → mid.words ≡ old.words
all-stay range old mid r on v same =
    let long : length mid.words ≡ length old.words = Stays.long v.stays in
    whole range.first range.words mid.words old.words (omega (arith, r.fits, long)) (omega (arith, r.fits)) same (beside-stays range old mid on v)

-- what a change leaves that was made
pub moved : {T : Type 0} (range : EnvyMap) (k : ℕ) (old mid : Sheet) (x : T) → IsTrue old.started → Viewed range old mid → Works k (view_of range old) (view_of range mid) → IsTrue mid.on → Attempts range old (Ok x) mid
moved range k old mid x begun v w on = record { on = on; started = w.still on ∙ begun; kept = v.kept; beside = beside-stays range old mid on v }

-- and one that wasn't, before it is settled
pub failed-below : (T : Type 0) (range : EnvyMap) (k : ℕ) (old mid : Sheet) (fault : ChangeFault) → IsTrue old.started → Works k (view_of range old) (view_of range mid) → Saw {T = T} (view_of range old) (Err fault) (view_of range mid) → HasFailed fault mid
failed-below T range k old mid Off begun w dark = dark
failed-below T range k old mid Full begun w e = w.still (e.0) ∙ begun
failed-below T range k old mid Room begun w e = w.still (e.0) ∙ begun
failed-below T range k old mid Bad begun w e = w.still (e.0) ∙ begun

halted : (range : EnvyMap) (k : ℕ) (old mid new : Sheet) → IsRange range (length old.words) → IsTrue old.started → Viewed range old mid → Works k (view_of range old) (view_of range mid) → Refuses (view_of range old) (view_of range mid) → new ≡ mid → Halts old new
halted range k old mid new r begun v w e is = subst (λ (s : Sheet). Halts old s) (sym is) (record { on = e.0; started = w.still (e.0) ∙ begun; kept = v.kept; words = all-stay range old mid r (e.0) v (e.1) })

rose-on : (a b c : ℕ) → Rose a b → b ≤ c → Rose a c
rose-on a b c rose le = λ lt. omega (arith, rose lt, le)

-- how it is settled
pub settled : (T : Type 0) (range : EnvyMap) (k : ℕ) (old mid new : Sheet) (fault answer : ChangeFault) → IsRange range (length old.words) → IsTrue old.started → Viewed range old mid → Works k (view_of range old) (view_of range mid) → Saw {T = T} (view_of range old) (Err fault) (view_of range mid) → Settles fault mid answer new → Steady mid new → Attempts {T = T} range old (Err answer) new
settled T range k old mid new fault Off r begun v w e s st = (s.0, s.1 ∙ v.kept)
settled T range k old mid new fault Full r begun v w e s st = halted range k old mid new r begun v w (subst (λ (f : ChangeFault). Saw {T = T} (view_of range old) (Err f) (view_of range mid)) s.0 e) s.1
settled T range k old mid new fault Room r begun v w e s st = halted range k old mid new r begun v w (subst (λ (f : ChangeFault). Saw {T = T} (view_of range old) (Err f) (view_of range mid)) s.0 e) s.1
settled T range k old mid new fault Bad r begun v w e s st =
    let bad = subst (λ (f : ChangeFault). Saw {T = T} (view_of range old) (Err f) (view_of range mid)) s.0 e in
    record { on = s.1; shut = s.2; kept = s.3 ∙ v.kept; rose = rose-on old.bads mid.bads new.bads bad.1 (Steady.bads st) }

-- what it says of a map then
pub settled-insert : (range : EnvyMap) (key value : ℕ) (es : List (ℕ × ℕ)) (left : ℕ) (old mid new : Sheet) (fault answer : ChangeFault) → Settles fault mid answer new → Steady mid new → InsertsWithin key value es insertion_pages left old (Err fault) (view_of range mid) → InsertsWithin key value es insertion_pages left old (Err answer) (view_of range new)
settled-insert range key value es left old mid new fault Off s st e = s.0
settled-insert range key value es left old mid new fault Full s st e = subst (λ (t : Sheet). InsertsWithin key value es insertion_pages left old (Err Full) (view_of range t)) (sym s.1) (subst (λ (f : ChangeFault). InsertsWithin key value es insertion_pages left old (Err f) (view_of range mid)) s.0 e)
settled-insert range key value es left old mid new fault Room s st e = subst (λ (t : Sheet). InsertsWithin key value es insertion_pages left old (Err Room) (view_of range t)) (sym s.1) (subst (λ (f : ChangeFault). InsertsWithin key value es insertion_pages left old (Err f) (view_of range mid)) s.0 e)
settled-insert range key value es left old mid new fault Bad s st e =
    let bad = subst (λ (f : ChangeFault). InsertsWithin key value es insertion_pages left old (Err f) (view_of range mid)) s.0 e in
    (s.1, rose-on old.bads mid.bads new.bads bad.1 (Steady.bads st), bad.2)

pub settled-removal : (range : EnvyMap) (key : ℕ) (es : List (ℕ × ℕ)) (left : ℕ) (old mid new : Sheet) (fault answer : ChangeFault) → Settles fault mid answer new → Steady mid new → RemovesWithin key es removal_pages left old (Err fault) (view_of range mid) → RemovesWithin key es removal_pages left old (Err answer) (view_of range new)
settled-removal range key es left old mid new fault Off s st e = s.0
settled-removal range key es left old mid new fault Full s st e = absurd (subst (λ (f : ChangeFault). RemovesWithin key es removal_pages left old (Err f) (view_of range mid)) s.0 e)
settled-removal range key es left old mid new fault Room s st e = subst (λ (t : Sheet). RemovesWithin key es removal_pages left old (Err Room) (view_of range t)) (sym s.1) (subst (λ (f : ChangeFault). RemovesWithin key es removal_pages left old (Err f) (view_of range mid)) s.0 e)
settled-removal range key es left old mid new fault Bad s st e =
    let bad = subst (λ (f : ChangeFault). RemovesWithin key es removal_pages left old (Err f) (view_of range mid)) s.0 e in
    (s.1, rose-on old.bads mid.bads new.bads bad.1 (Steady.bads st))

-- ---- in a row

pub steady-refl : (s : Sheet) → Steady s s
steady-refl s = record { fixed = refl; notes = refl; cuts = omega arith; bads = omega arith; cut = λ on dark. absurd (let clash : true ≡ false = sym on ∙ dark in cc) }

pub steady-keeps : (old new : Sheet) → Keeps old new → Steady old new
steady-keeps old new k = record { fixed = k.fixed; notes = k.notes; cuts = k.cuts; bads = k.bads; cut = k.cut }

-- power failed in the first part or in the second
pub steady-trans : (a b c : Sheet) → Steady a b → Steady b c → Steady a c
steady-trans a b c s t = record {
  fixed = t.fixed ∙ s.fixed;
  notes = t.notes ∙ s.notes;
  cuts = omega (arith, s.cuts, t.cuts);
  bads = omega (arith, s.bads, t.bads);
  cut = λ on dark lt. at b.on refl on dark lt;
}
  where
    at : (x : Bool) → b.on ≡ x → IsTrue a.on → c.on ≡ false → a.cuts < 2 ^ 64 - 1 → a.cuts < c.cuts
    at true is on dark lt = at_cases (cases_lt b.cuts (2 ^ 64 - 1))
      where
        at_cases : (b.cuts < 2 ^ 64 - 1) ⊎ (2 ^ 64 - 1 ≤ b.cuts) → a.cuts < c.cuts
        at_cases (inl less) = omega (arith, t.cut is dark less, s.cuts)
        at_cases (inr more) = omega (arith, lt, more, t.cuts)
    at false is on dark lt = omega (arith, s.cut on is lt, t.cuts)

-- the first word that a map needs beyond its front
pub front-in : (range : EnvyMap) (s : Sheet) → IsRange range (length s.words) → 5 ≤ length (view_of range s).words
front-in range s r = omega (arith, least-in range s r)

-- the answer of work, by what it was
pub dark-as : (T : Type 0) (old new : Sheet) (r : Result T Trouble) → r ≡ Err TroubleOff → Fails old r new → new.on ≡ false
dark-as T old new r is f = subst (λ (x : Result T Trouble). Fails old x new) is f

pub bad-as : (T : Type 0) (old new : Sheet) (r : Result T Trouble) → r ≡ Err TroubleBad → Fails old r new → IsTrue new.on × Rose old.bads new.bads
bad-as T old new r is f = subst (λ (x : Result T Trouble). Fails old x new) is f

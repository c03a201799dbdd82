-- A memory that was lent as words, and what the tree's calls say of it.
use Rattle.std.proofs.Common.{◌≡◌, ◌≢◌, ◌⊎◌, inl, inr, ℕ, ◌*◌, ◌^◌, ◌<◌, ◌≤◌, Bool, true, false, List, [], length, refl, sym, ◌∙◌, ap, subst, arith}
use Rattle.std.specs.Prelude.{◌&&◌, IsTrue, IfOk, Option, None, Some, Result, Ok, Err, replicate}
use Rattle.std.specs.Option.{ForSome}
use Rattle.std.proofs.lemmas.List.{ext_get_or, length-replicate, get_or-replicate}
use Rattle.envy_array.specs.Array.{Array, Saved, IsArray, slot_of}
use Rattle.envy_array.specs.Words.{Sheet, Works as SheetWorks, Spends, Keeps}
use Rattle.envy_base.specs.Counting.{Rose}
use Rattle.envy_base.specs.declared.board.Trouble.{Trouble}
use Rattle.envy_base.specs.declared.board.Trouble.TheVariants.{Off as TroubleOff, Bad as TroubleBad}
use Rattle.envy_base.specs.declared.page.TheConstants.{PAGE_WORDS}
use Rattle.envy_base.specs.declared.shape.Shape.{Shape}
use Rattle.envy_btree.specs.Answers.{IsFull, IsWritten, Gets as TreeGets, Counts as TreeCounts, Finds as TreeFinds, Inserts as TreeInserts, Removes as TreeRemoves}
use Rattle.envy_btree.specs.Index.{IsIndex}
use Rattle.envy_btree.specs.Looking.{Powers, Sees}
use Rattle.envy_btree.specs.Pairs.{with_pair, without}
use Rattle.envy_btree.specs.declared.fault.LookFault.{LookFault}
use Rattle.envy_btree.specs.declared.fault.LookFault.TheVariants.{Off as LookOff, Broken}
use Rattle.envy_btree.specs.declared.fault.TreeFault.{TreeFault}
use Rattle.envy_btree.specs.declared.fault.TreeFault.TheVariants.{Off as FaultOff, Full as FaultFull, Bad as FaultBad}
use Rattle.envy_btree.proofs.Felling.{without-missing}
use Rattle.envy_soundness.proofs.WordLists.{length-durable}
use Rattle.envy_meaning.specs.Stands.{Holds, Stands, slot_word}
use Rattle.envy_soundness.specs.Words.{durable}
use Rattle.envy_map.specs.Fields.{Chart, slot}
use Rattle.envy_memory.specs.Lawful.{words_long}
use Rattle.envy_memory.specs.Picture.{Picture}
use Rattle.envy_memory.specs.Sheets.{fixed_of, sheet_of, words_read}
use Rattle.envy_calls.specs.Codes.{number_of}
use Rattle.envy_calls.specs.declared.code.Code.{Code}
use Rattle.envy_calls.specs.declared.code.Code.TheVariants.{Done, Empty, Off, Range, Held, Full, Busy, Closed, Bad, NoMemory, Open, Zero, Dead, Powered, FlashSize, SramSize, ErasesSize, Policy, Unformatted, Older, OtherShape, Setup, Broken as CodeBroken, Small, ImageShort, ImageMark, ImageOther, ImageShape, Absent, MapFull, SlotOpen, MapSetup, BrokenMap, BadAborted}
use Rattle.envy_memory.specs.Opened.{HasOpenFrom}
use Rattle.envy_index_calls.specs.Scanned.{pairs_in}
use Rattle.envy_index_calls.specs.Indexed.{Pairs, HoldsMap, HoldsSomeMap, HoldsArray, IsShut, Serves, Rests, MayServe, Lends, Declines, Works, Asks, Looks, Leaves, LeavesOrMisses, Gets, Counts, Finds, Scans, Inserts, Removes, Blanks, Creates, DoesCreate, creation_puts, TellsValue, TellsCount, TellsPair, TellsInsert, TellsRemoval, made_code, look_code, old_of}
use Rattle.envy_index_calls.specs.declared.words.TheConstants.{MOST_MAP_PAGES}
use Rattle.envy_index_calls.specs.declared.pairs.EnvyPair.{EnvyPair}
use Rattle.envy_index_calls.specs.declared.pairs.EnvyOld.{EnvyOld}
use Rattle.envy_index_calls.proofs.Blanking.{blanked-index}

-- ---- lending

and-shut : (on b : Bool) → b ≡ false → (on && b) ≡ false
and-shut true b is = is
and-shut false b is = refl

-- no transaction is open: the words are the committed ones
words-shut : (p : Picture) (b : Bool) → b ≡ false → (sheet_of p b).words ≡ durable p.chart
words-shut p b shut = ap (λ (x : Bool). words_read x p.chart) (and-shut p.chart.on b shut)

-- what is lent, and what a call of the tree leaves and gives back
pub record Lent (old : Option Picture) (p : Picture) (b : Bool) : Type 0 where
  pub is : old ≡ Some p
  pub shut : b ≡ false
  pub may : MayServe p

-- what a memory lends is its own picture
pub lent : (old new : Option Picture) (p : Picture) (b : Bool) → Lends old new (Ok (p, b)) → Lent old p b
lent None new p b lends = absurd lends
lent (Some o) new p b (same, shut, may) = record { is = ap Some (sym same); shut = shut; may = subst MayServe (sym same) may }

-- a memory that holds some map lends one
pub some-map : (old : Option Picture) (p : Picture) (b : Bool) → Lent old p b → ForSome old HoldsSomeMap → (es : Pairs) × HoldsMap p es
some-map old p b l some = some p (Lent.is l)

-- the map is in the words that are lent
pub map-in : (old : Option Picture) (p : Picture) (b : Bool) (es : Pairs) → Lent old p b → HoldsMap p es → IsIndex (sheet_of p b).words es
map-in old p b es l h = subst (λ (ws : List ℕ). IsIndex ws es) (sym (words-shut p b (Lent.shut l))) (HoldsMap.map h)

-- none of a memory that is lent is open
pub started-in : (old : Option Picture) (p : Picture) (b : Bool) → Lent old p b → (sheet_of p b).started ≡ false
started-in old p b l = and-shut p.chart.on b (Lent.shut l)

-- they are few enough
pub size-in : (old : Option Picture) (p : Picture) (b : Bool) → Lent old p b → length (sheet_of p b).words ≤ 2 ^ 29
size-in old p b l = let n = words_long (p.chart.on && b) p.chart in let few = MayServe.few (Lent.may l) in omega arith

-- and enough
pub least-in : (old : Option Picture) (p : Picture) (b : Bool) → Lent old p b → 640 ≤ length (sheet_of p b).words
least-in old p b l = let n = words_long (p.chart.on && b) p.chart in let some = MayServe.pages (Lent.may l) in omega arith

shape-same : (s t : Shape) → s.segments ≡ t.segments → s.rows ≡ t.rows → s.pages ≡ t.pages → s.shadows ≡ t.shadows → s.frames ≡ t.frames → s.entries ≡ t.entries → s.reserves ≡ t.reserves → s.sums ≡ t.sums → s ≡ t
shape-same s t e1 e2 e3 e4 e5 e6 e7 e8 =
    ap (λ (n : ℕ). record s { segments = n }) e1
    ∙ ap (λ (n : ℕ). record s { segments = t.segments; rows = n }) e2
    ∙ ap (λ (n : ℕ). record s { segments = t.segments; rows = t.rows; pages = n }) e3
    ∙ ap (λ (n : ℕ). record s { segments = t.segments; rows = t.rows; pages = t.pages; shadows = n }) e4
    ∙ ap (λ (n : ℕ). record t { frames = n; entries = s.entries; reserves = s.reserves; sums = s.sums }) e5
    ∙ ap (λ (n : ℕ). record t { entries = n; reserves = s.reserves; sums = s.sums }) e6
    ∙ ap (λ (n : ℕ). record t { reserves = n; sums = s.sums }) e7
    ∙ ap (λ (n : ℕ). record t { sums = n }) e8

shape-fixed : (c d : Chart) → fixed_of d ≡ fixed_of c → d.shape ≡ c.shape
shape-fixed c d same = shape-same d.shape c.shape (cc) (cc) (cc) (cc) (cc) (cc) (cc) (cc)

-- what no call changes
pub fixed-works : (puts : ℕ) (p q : Picture) (b d : Bool) → fixed_of q.chart ≡ fixed_of p.chart → q.chart.notes ≡ p.chart.notes → p.chart.cuts ≤ q.chart.cuts → p.chart.bads ≤ q.chart.bads → (IsTrue p.chart.on → q.chart.on ≡ false → Rose p.chart.cuts q.chart.cuts) → Spends puts (sheet_of p b) (sheet_of q d) → Works puts p q
fixed-works puts p q b d same notes cuts bads cut s = record {
  shape = shape-fixed p.chart q.chart same;
  cuts = cuts;
  bads = bads;
  cut = cut;
  fixed = same;
  notes = notes;
  programs = s.programs;
  erases = s.erases;
}

-- what a call of the tree leaves, once it is back in its place
pub record Back (q : Picture) (d : Bool) : Type 0 where
  pub shut : (sheet_of q d).started ≡ false
  pub stands : IsTrue q.chart.on → (sheet_of q d).started ≡ false → IsShut q

shut-back : (q : Picture) (d : Bool) → Back q d → IsTrue q.chart.on → IsShut q
shut-back q d b on = Back.stands b on (Back.shut b)

serves-back : (q : Picture) (d : Bool) (es : Pairs) → Back q d → IsTrue q.chart.on → IsIndex (sheet_of q d).words es → Serves q es
serves-back q d es b on map = record { shut = shut-back q d b on; map = subst (λ (ws : List ℕ). IsIndex ws es) (ap (λ (x : Bool). words_read x q.chart) (Back.shut b)) map }

-- what the map did to the words the memory did
pub works-back : (p q : Picture) (b d : Bool) → SheetWorks 0 (sheet_of p b) (sheet_of q d) → Spends 0 (sheet_of p b) (sheet_of q d) → Works 0 p q
works-back p q b d w s = fixed-works 0 p q b d w.fixed w.notes w.cuts w.bads w.cut s

-- what leaves the words leaves the memory's answers
pub keeps-back : (puts : ℕ) (p q : Picture) (b d : Bool) → Keeps (sheet_of p b) (sheet_of q d) → Spends puts (sheet_of p b) (sheet_of q d) → Works puts p q
keeps-back puts p q b d w s = fixed-works puts p q b d w.fixed w.notes w.cuts w.bads w.cut s

rests-back : (p q : Picture) (b d : Bool) → SheetWorks 0 (sheet_of p b) (sheet_of q d) → Back q d → IsTrue q.chart.on → Rests p q
rests-back p q b d w back on = record { shut = shut-back q d back on; same = w.kept }

-- ---- places

-- no slot is open: so it is in the array
closed-slot : (c : Chart) (t : ℕ) (x : Option Saved) → t < 64 → slot c.fields t ≡ Some (slot_word x) → HasOpenFrom 0 c false → x ≡ None
closed-slot c t None lt is shut = refl
closed-slot c t (Some saved) lt is shut = absurd (shut t (omega arith) lt is)

closed-slots : (c : Chart) (m : Array) → Stands c m → HasOpenFrom 0 c false → m.slots ≡ replicate 64 None
closed-slots c m s shut =
    let h = Stands.holds s in
    let long = IsArray.slots (Holds.array h) in
    ext_get_or None m.slots (replicate 64 None) (long ∙ sym (length-replicate {A = Option Saved} 64 None)) (λ t lt. let few : t < 64 = subst (λ (n : ℕ). t < n) long lt in closed-slot c t (slot_of m t) few (Holds.slots h t few) shut ∙ sym (get_or-replicate {A = Option Saved} 64 t None None few))

-- a sound memory of enough pages with no transaction open may serve a map
pub may-serve : (p : Picture) (sh : Shape) (c d : Chart) (b : Bool) → HoldsArray p → c ≡ p.chart → d ≡ p.chart → sh ≡ c.shape → 20 ≤ sh.pages → sh.pages ≤ MOST_MAP_PAGES → 32 ≤ sh.shadows → b ≡ false → HasOpenFrom 0 d b → MayServe p
may-serve p sh c d b (m, stands) same same_too is pages few shadows closed shut =
    let its : sh ≡ p.chart.shape = is ∙ ap (λ (x : Chart). x.shape) same in
    let open_not = subst (λ (x : Chart). HasOpenFrom 0 x false) same_too (subst (λ (x : Bool). HasOpenFrom 0 d x) closed shut) in
    record {
      pages = subst (λ (x : Shape). 20 ≤ x.pages) its pages;
      shadows = subst (λ (x : Shape). 32 ≤ x.shadows) its shadows;
      few = subst (λ (x : Shape). x.pages ≤ MOST_MAP_PAGES) its few;
      array = m;
      stands = stands;
      slots = closed-slots p.chart m stands open_not;
    }

-- the call was made
pub asks : (puts : ℕ → ℕ) (Tells : Pairs → Picture → Picture → Code → Type 0) (old new : Option Picture) (p q : Picture) (b : Bool) (code : Code) → Lent old p b → new ≡ Some q → Works (puts (PAGE_WORDS * p.chart.shape.pages)) p q → ((es : Pairs) → HoldsMap p es → Tells es p q code) → Asks puts old new (number_of code) Tells
asks puts Tells old new p q b code l is works tells = subst (λ (o : Option Picture). Asks puts o new (number_of code) Tells) (sym (Lent.is l)) (q, code, is, refl, works, tells)

pub creates : (old new : Option Picture) (p q : Picture) (b : Bool) (code : Code) → Lent old p b → new ≡ Some q → Works creation_puts p q → Creates p q code → DoesCreate old new (number_of code)
creates old new p q b code l is works done = subst (λ (o : Option Picture). DoesCreate o new (number_of code)) (sym (Lent.is l)) (q, code, is, refl, works, done)

-- ---- calls that change no pair

-- the look-up was made
pub looks : (Left : Picture → Picture → Code → Type 0) (Tells : Pairs → Code → Type 0) (old new : Option Picture) (p q : Picture) (b : Bool) (code : Code) → Lent old p b → new ≡ Some q → Works 0 p q → Left p q code → ((es : Pairs) → HoldsMap p es → Tells es code) → Looks Left old new (number_of code) Tells
looks Left Tells old new p q b code l is works left tells = subst (λ (o : Option Picture). Looks Left o new (number_of code) Tells) (sym (Lent.is l)) (q, code, is, refl, works, left, tells)

-- a call that isn't made is refused for one of two reasons
declines-two : (p : Picture) (code : Code) → Declines p code → (code ≡ MapSetup) ⊎ (code ≡ SlotOpen)
declines-two p MapSetup why = inl refl
declines-two p SlotOpen why = inr refl
declines-two p Done why = absurd why
declines-two p Empty why = absurd why
declines-two p Off why = absurd why
declines-two p Range why = absurd why
declines-two p Held why = absurd why
declines-two p Full why = absurd why
declines-two p Busy why = absurd why
declines-two p Closed why = absurd why
declines-two p Bad why = absurd why
declines-two p NoMemory why = absurd why
declines-two p Open why = absurd why
declines-two p Zero why = absurd why
declines-two p Dead why = absurd why
declines-two p Powered why = absurd why
declines-two p FlashSize why = absurd why
declines-two p SramSize why = absurd why
declines-two p ErasesSize why = absurd why
declines-two p Policy why = absurd why
declines-two p Unformatted why = absurd why
declines-two p Older why = absurd why
declines-two p OtherShape why = absurd why
declines-two p (Setup f) why = absurd why
declines-two p (CodeBroken r) why = absurd why
declines-two p Small why = absurd why
declines-two p ImageShort why = absurd why
declines-two p ImageMark why = absurd why
declines-two p ImageOther why = absurd why
declines-two p (ImageShape f) why = absurd why
declines-two p Absent why = absurd why
declines-two p MapFull why = absurd why
declines-two p BrokenMap why = absurd why
declines-two p BadAborted why = absurd why

works-same : (p : Picture) → Works 0 p p
works-same p = record {
  shape = refl;
  cuts = omega arith;
  bads = omega arith;
  cut = λ on off. absurd (let e : true ≡ false = sym on ∙ off in cc);
  fixed = refl;
  notes = refl;
  programs = omega arith;
  erases = omega arith;
}

-- a look-up that isn't made leaves the place
pub declined : (Left : Picture → Picture → Code → Type 0) (Tells : Pairs → Code → Type 0) (old new : Option Picture) (code : Code) → ((p : Picture) → Declines p MapSetup → Left p p MapSetup) → ((p : Picture) → Declines p SlotOpen → Left p p SlotOpen) → ((es : Pairs) → Tells es MapSetup) → ((es : Pairs) → Tells es SlotOpen) → Lends old new (Err code) → Looks Left old new (number_of code) Tells
declined Left Tells None new code small open_left small_tells open_tells (is, empty) = (is, ap number_of empty)
declined Left Tells (Some p) new code small open_left small_tells open_tells (same, why) = (
  p,
  code,
  same,
  refl,
  works-same p,
  elim (declines-two p code why) [
    | inl is ↦ subst (Left p p) (sym is) (small p (subst (Declines p) is why))
    | inr is ↦ subst (Left p p) (sym is) (open_left p (subst (Declines p) is why))
  ],
  λ es h. elim (declines-two p code why) [
    | inl is ↦ subst (Tells es) (sym is) (small_tells es)
    | inr is ↦ subst (Tells es) (sym is) (open_tells es)
  ],
)

-- what it was told by the tree, and gives back
pub record Looked (old : Option Picture) (p q : Picture) (b d : Bool) : Type 0 where
  pub lent : Lent old p b
  pub works : SheetWorks 0 (sheet_of p b) (sheet_of q d)
  pub back : Back q d

rests : (old : Option Picture) (p q : Picture) (b d : Bool) → Looked old p q b d → IsTrue q.chart.on → Rests p q
rests old p q b d l on = rests-back p q b d l.works l.back on

-- a look-up that failed
fails : (T : Type 0) (old : Option Picture) (p q : Picture) (b d : Bool) (fault : LookFault) → Looked old p q b d → Powers {T = T} (Err fault) (sheet_of q d) → (fault ≡ Broken → HoldsSomeMap p → ⊥) → Leaves p q (look_code fault)
fails T old p q b d LookOff l dark bad = (dark, l.works.kept)
fails T old p q b d Broken l power bad = (rests old p q b d l (power (omega (arith, least-in old p b l.lent, l.works.long))), bad refl)

misses : (T : Type 0) (old : Option Picture) (p q : Picture) (b d : Bool) (fault : LookFault) → Looked old p q b d → Powers {T = T} (Err fault) (sheet_of q d) → (fault ≡ Broken → HoldsSomeMap p → ⊥) → LeavesOrMisses p q (look_code fault)
misses T old p q b d LookOff l dark bad = (dark, l.works.kept)
misses T old p q b d Broken l power bad = (rests old p q b d l (power (omega (arith, least-in old p b l.lent, l.works.long))), bad refl)

-- words that are broken are those of no map
pub bad-value : (key : ℕ) (old : Option Picture) (p q : Picture) (b d : Bool) (x : Result (Option ℕ) LookFault) → Lent old p b → ((es : Pairs) → IsIndex (sheet_of p b).words es → TreeGets key es (sheet_of p b) x (sheet_of q d)) → x ≡ Err Broken → HoldsSomeMap p → ⊥
bad-value key old p q b d x l says is (es, h) = subst (λ r. TreeGets key es (sheet_of p b) r (sheet_of q d)) is (says es (map-in old p b es l h))

pub bad-pair : (Is : Pairs → Option (ℕ × ℕ) → Type 0) (old : Option Picture) (p q : Picture) (b d : Bool) (x : Result (Option (ℕ × ℕ)) LookFault) → Lent old p b → ((es : Pairs) → IsIndex (sheet_of p b).words es → TreeFinds (Is es) es (sheet_of p b) x (sheet_of q d)) → x ≡ Err Broken → HoldsSomeMap p → ⊥
bad-pair Is old p q b d x l says is (es, h) = subst (λ r. TreeFinds (Is es) es (sheet_of p b) r (sheet_of q d)) is (says es (map-in old p b es l h))

pub bad-count : (old : Option Picture) (p q : Picture) (b d : Bool) (x : Result ℕ LookFault) → Lent old p b → ((es : Pairs) → IsIndex (sheet_of p b).words es → TreeCounts es (sheet_of p b) x (sheet_of q d)) → x ≡ Err Broken → HoldsSomeMap p → ⊥
bad-count old p q b d x l says is (es, h) = subst (λ r. TreeCounts es (sheet_of p b) r (sheet_of q d)) is (says es (map-in old p b es l h))

pub bad-scan : (P : Pairs → ℕ → Type 0) (old : Option Picture) (p : Picture) (b : Bool) (x : Result ℕ LookFault) → Lent old p b → ((es : Pairs) → IsIndex (sheet_of p b).words es → Sees (P es) x) → x ≡ Err Broken → HoldsSomeMap p → ⊥
bad-scan P old p b x l says is (es, h) = subst (λ r. Sees (P es) r) is (says es (map-in old p b es l h))

-- what a look-up leaves, by its answer: of a value,
pub value-left : (old : Option Picture) (p q : Picture) (b d : Bool) (x : Result (Option ℕ) LookFault) (code : Code) (before after : ℕ) → Looked old p q b d → TellsValue x code before after → Powers x (sheet_of q d) → (x ≡ Err Broken → HoldsSomeMap p → ⊥) → LeavesOrMisses p q code
value-left old p q b d (Ok (Some v)) code before after l (is, told) on bad = subst (LeavesOrMisses p q) (sym is) (rests old p q b d l on)
value-left old p q b d (Ok None) code before after l (is, told) on bad = subst (LeavesOrMisses p q) (sym is) (rests old p q b d l on)
value-left old p q b d (Err fault) code before after l (is, told) power bad = subst (LeavesOrMisses p q) (sym is) (misses (Option ℕ) old p q b d fault l power (λ e. bad (ap Err e)))

-- of a pair,
pub pair-left : (old : Option Picture) (p q : Picture) (b d : Bool) (x : Result (Option (ℕ × ℕ)) LookFault) (code : Code) (before after : EnvyPair) → Looked old p q b d → TellsPair x code before after → Powers x (sheet_of q d) → (x ≡ Err Broken → HoldsSomeMap p → ⊥) → LeavesOrMisses p q code
pair-left old p q b d (Ok (Some e)) code before after l (is, told) on bad = subst (LeavesOrMisses p q) (sym is) (rests old p q b d l on)
pair-left old p q b d (Ok None) code before after l (is, told) on bad = subst (LeavesOrMisses p q) (sym is) (rests old p q b d l on)
pair-left old p q b d (Err fault) code before after l (is, told) power bad = subst (LeavesOrMisses p q) (sym is) (misses (Option (ℕ × ℕ)) old p q b d fault l power (λ e. bad (ap Err e)))

-- and of a number of pairs
pub count-left : (old : Option Picture) (p q : Picture) (b d : Bool) (x : Result ℕ LookFault) (code : Code) (before after : ℕ) → Looked old p q b d → TellsCount x code before after → Powers x (sheet_of q d) → (x ≡ Err Broken → HoldsSomeMap p → ⊥) → Leaves p q code
count-left old p q b d (Ok n) code before after l (is, told) on bad = subst (Leaves p q) (sym is) (rests old p q b d l on)
count-left old p q b d (Err fault) code before after l (is, told) power bad = subst (Leaves p q) (sym is) (fails ℕ old p q b d fault l power (λ e. bad (ap Err e)))

-- what it tells of a map

pub gets : (key : ℕ) (es : Pairs) (s t : Sheet) (x : Result (Option ℕ) LookFault) (code : Code) (before after : ℕ) → TellsValue x code before after → TreeGets key es s x t → Gets key after es code
gets key es s t (Ok (Some v)) code before after (is, value) (on, found, map) = subst (Gets key after es) (sym is) (sym found ∙ ap Some (sym value))
gets key es s t (Ok None) code before after (is, value) (on, found, map) = subst (Gets key after es) (sym is) (sym found)
gets key es s t (Err LookOff) code before after (is, value) (dark, map) = subst (Gets key after es) (sym is) tt
gets key es s t (Err Broken) code before after told never = absurd never

pub counts : (es : Pairs) (s t : Sheet) (x : Result ℕ LookFault) (code : Code) (before after : ℕ) → TellsCount x code before after → TreeCounts es s x t → Counts after es code
counts es s t (Ok n) code before after (is, value) (on, found, map) = subst (Counts after es) (sym is) (value ∙ found)
counts es s t (Err LookOff) code before after (is, value) (dark, map) = subst (Counts after es) (sym is) tt
counts es s t (Err Broken) code before after told never = absurd never

pub finds : (Is : Pairs → Option (ℕ × ℕ) → Type 0) (es : Pairs) (p q : Picture) (b d : Bool) (x : Result (Option (ℕ × ℕ)) LookFault) (code : Code) (before after : EnvyPair) → TellsPair x code before after → TreeFinds (Is es) es (sheet_of p b) x (sheet_of q d) → Finds Is after es code
finds Is es p q b d (Ok (Some e)) code before after (is, pair) (on, says, map) = subst (Finds Is after es) (sym is) (subst (λ (a : EnvyPair). Is es (Some (a.key, a.value))) (sym pair) says)
finds Is es p q b d (Ok None) code before after (is, pair) (on, says, map) = subst (Finds Is after es) (sym is) says
finds Is es p q b d (Err LookOff) code before after (is, pair) (dark, map) = subst (Finds Is after es) (sym is) tt
finds Is es p q b d (Err Broken) code before after told never = absurd never

pub scans : (which : Pairs → Pairs) (was now : List EnvyPair) (es : Pairs) (x : Result ℕ LookFault) (code : Code) (before after : ℕ) → TellsCount x code before after → Sees (λ n. IsWritten (which es) (pairs_in was) (pairs_in now) n) x → Scans which was now after es code
scans which was now es (Ok n) code before after (is, value) says = subst (Scans which was now after es) (sym is) (subst (λ m. IsWritten (which es) (pairs_in was) (pairs_in now) m) (sym value) says)
scans which was now es (Err LookOff) code before after (is, value) says = subst (Scans which was now after es) (sym is) tt
scans which was now es (Err Broken) code before after told never = absurd never

-- what holds of a scan that was done, whatever the words are
pub done-within : (P : ℕ → Type 0) (x : Result ℕ LookFault) (code : Code) (before after : ℕ) → TellsCount x code before after → IfOk x P → code ≡ Done → P after
done-within P (Ok n) code before after (is, value) holds done = subst P (sym value) holds
done-within P (Err LookOff) code before after (is, value) holds done = absurd (let e : Off ≡ Done = sym is ∙ done in cc)
done-within P (Err Broken) code before after (is, value) holds done = absurd (let e : BrokenMap ≡ Done = sym is ∙ done in cc)

-- a scan ends with no transaction open, as it began
pub shut-after : (p q : Picture) (b d : Bool) → SheetWorks 0 (sheet_of p b) (sheet_of q d) → (sheet_of p b).started ≡ false → (sheet_of q d).started ≡ false
shut-after p q b d w shut = at q.chart.on refl
  where
    at : (on : Bool) → q.chart.on ≡ on → (sheet_of q d).started ≡ false
    at true is = w.still is ∙ shut
    at false is = ap (λ (x : Bool). x && d) is

-- what isn't done isn't written

-- an answer that isn't Done leaves the place of a value,
pub value-stays : (x : Result (Option ℕ) LookFault) (code : Code) (before after : ℕ) → TellsValue x code before after → code ≢ Done → after ≡ before
value-stays (Ok (Some v)) code before after tells other = absurd (other tells.0)
value-stays (Ok None) code before after tells other = tells.1
value-stays (Err off) code before after tells other = tells.1

-- of a count,
pub count-stays : (x : Result ℕ LookFault) (code : Code) (before after : ℕ) → TellsCount x code before after → code ≢ Done → after ≡ before
count-stays (Ok n) code before after tells other = absurd (other tells.0)
count-stays (Err off) code before after tells other = tells.1

-- of a pair,
pub pair-stays : (x : Result (Option (ℕ × ℕ)) LookFault) (code : Code) (before after : EnvyPair) → TellsPair x code before after → code ≢ Done → after ≡ before
pair-stays (Ok (Some e)) code before after tells other = absurd (other tells.0)
pair-stays (Ok None) code before after tells other = tells.1
pair-stays (Err off) code before after tells other = tells.1

-- of an old value,
pub old-stays : (x : Result (Option ℕ) TreeFault) (code : Code) (before after : EnvyOld) → TellsInsert x code before after → code ≢ Done → after ≡ before
old-stays (Ok was) code before after tells other = absurd (other tells.0)
old-stays (Err fault) code before after tells other = tells.1

-- and of one that was removed
pub removed-stays : (x : Result (Option ℕ) TreeFault) (code : Code) (before after : ℕ) → TellsRemoval x code before after → code ≢ Done → after ≡ before
removed-stays (Ok (Some v)) code before after tells other = absurd (other tells.0)
removed-stays (Ok None) code before after tells other = tells.1
removed-stays (Err fault) code before after tells other = tells.1

-- ---- calls that change pairs

full-in : (p : Picture) (b : Bool) (key : ℕ) (es : Pairs) → b ≡ false → IsFull (sheet_of p b).words key es → IsFull (durable p.chart) key es
full-in p b key es shut full = subst (λ (ws : List ℕ). IsFull ws key es) (words-shut p b shut) full

full-out : (p : Picture) (b : Bool) (key : ℕ) (es : Pairs) → b ≡ false → IsFull (durable p.chart) key es → IsFull (sheet_of p b).words key es
full-out p b key es shut full = subst (λ (ws : List ℕ). IsFull ws key es) (sym (words-shut p b shut)) full

pub inserts : (key value : ℕ) (es : Pairs) (old : Option Picture) (p q : Picture) (b d : Bool) (x : Result (Option ℕ) TreeFault) (code : Code) (before after : EnvyOld) → Lent old p b → Back q d → TellsInsert x code before after → TreeInserts key value es (sheet_of p b) x (sheet_of q d) → Inserts key value after es p q code
inserts key value es old p q b d (Ok was) code before after l back (is, told) (on, was_is, room, map) =
    subst (λ (k : Code). Inserts key value after es p q k) (sym is) (told ∙ ap old_of was_is, (λ full. room (full-out p b key es (Lent.shut l) full)), serves-back q d (with_pair key value es) back on map)
inserts key value es old p q b d (Err FaultOff) code before after l back (is, told) (dark, either) =
    subst (λ (k : Code). Inserts key value after es p q k) (sym is) (dark, either)
inserts key value es old p q b d (Err FaultFull) code before after l back (is, told) (on, full, map) =
    subst (λ (k : Code). Inserts key value after es p q k) (sym is) (full-in p b key es (Lent.shut l) full, serves-back q d es back on map)
inserts key value es old p q b d (Err FaultBad) code before after l back (is, told) (on, rose, room, map) =
    subst (λ (k : Code). Inserts key value after es p q k) (sym is) (rose, serves-back q d es back on map)

pub removes : (key : ℕ) (es : Pairs) (p q : Picture) (b d : Bool) (x : Result (Option ℕ) TreeFault) (code : Code) (before after : ℕ) → Back q d → TellsRemoval x code before after → TreeRemoves key es (sheet_of p b) x (sheet_of q d) → Removes key after es p q code
removes key es p q b d (Ok (Some v)) code before after back (is, value) (on, found, map) =
    subst (λ (k : Code). Removes key after es p q k) (sym is) (sym found ∙ ap Some (sym value), serves-back q d (without key es) back on map)
removes key es p q b d (Ok None) code before after back (is, value) (on, found, map) =
    subst (λ (k : Code). Removes key after es p q k) (sym is) (sym found, serves-back q d es back on (subst (λ (xs : Pairs). IsIndex (sheet_of q d).words xs) (without-missing key es (sym found)) map))
removes key es p q b d (Err FaultOff) code before after back (is, value) (dark, either) =
    subst (λ (k : Code). Removes key after es p q k) (sym is) (dark, either)
removes key es p q b d (Err FaultFull) code before after back (is, value) never = absurd never
removes key es p q b d (Err FaultBad) code before after back (is, value) (on, rose, map) =
    subst (λ (k : Code). Removes key after es p q k) (sym is) (rose, serves-back q d es back on map)

-- ---- a map begins

pub made : (old : Option Picture) (p q : Picture) (b d : Bool) (x : Result Unit Trouble) → Lent old p b → Back q d → Blanks (sheet_of p b) x (sheet_of q d) → Creates p q (made_code x)
made old p q b d (Ok done) l back (on, is) =
    let size = MayServe.pages (Lent.may l) in
    let long = length-durable p.chart in
    (record { shut = shut-back q d back on; map = subst (λ (ws : List ℕ). IsIndex ws []) (sym is) (blanked-index (durable p.chart) (omega arith)) }, is)
made old p q b d (Err TroubleOff) l back (dark, either) = (dark, either)
made old p q b d (Err TroubleBad) l back (on, rose, same) = (shut-back q d back on, rose, same)

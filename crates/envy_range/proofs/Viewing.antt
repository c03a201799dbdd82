-- What a view of a range keeps of the laws of the words below.
use Rattle.std.proofs.Common.{◌≡◌, ◌⊎◌, ℕ, zero, suc, ◌+◌, ◌/◌, ◌%◌, eqb, Fits, w32, ◌<◌, ◌≤◌, Bool, true, false, IsTrue, List, ◌∷◌, ◌++◌, length, get_or, map, refl, ap, sym, subst, ◌∙◌, inl, inr, Result, Ok, Err, arith}
use Rattle.std.proofs.lemmas.List.{length-map}
use Rattle.envy_base.specs.declared.board.Off.{Off}
use Rattle.envy_base.specs.declared.board.Trouble.{Trouble}
use Rattle.envy_base.specs.declared.board.Trouble.TheVariants.{Off as TroubleOff, Bad}
use Rattle.envy_array.specs.Words.{Sheet, IsSheet, Works, Spends, OnPage, Keeps, Loads, LoadsRun, Puts, PutsRun, Searches, Starts, Finishes, Undoes, has}
use Rattle.envy_array.specs.declared.words.KeyPlace.{KeyPlace}
use Rattle.envy_range.specs.Ranges.{inside, outside, page_in, within}
use Rattle.envy_range.proofs.Paged.{own-put, page-fits, page-of, put-own, still-there}
use Rattle.envy_range.specs.Lawful.{inside-long}
use Rattle.envy_range.proofs.Lengths.{apart-sizes}
use Rattle.envy_range.proofs.Parts.{inside-at, inside-set, outside-set, pasted-inside, pasted-outside, run-inside}

-- the further numbers stay with the number of words, and the further numbers below
pub fixed-view : (first count : ℕ) (s t : Sheet) → length t.words ≡ length s.words → t.fixed ≡ s.fixed → (within first count t).fixed ≡ (within first count s).fixed
fixed-view first count s t long fixed =
    ap (λ (n : ℕ). first ∷ count ∷ n ∷ t.fixed) long
    ∙ ap (λ (ns : List ℕ). first ∷ count ∷ length s.words ∷ ns) fixed

size-view : (first count : ℕ) (s t : Sheet) → first + count ≤ length s.words → length t.words ≡ length s.words → length (inside first count t.words) ≡ length (inside first count s.words)
size-view first count s t fits long = inside-long first count t.words (omega (arith, fits, long)) ∙ sym (inside-long first count s.words fits)

-- the words beside a view, by those outside and those beside the words below
beside-view : (first count : ℕ) (s t : Sheet) → IsSheet t → (IsTrue t.on → outside first count t.words ≡ outside first count s.words) → t.kept ≡ s.kept → t.kept_beside ≡ s.kept_beside → (t.beside ≡ s.beside) ⊎ ((t.on ≡ false) × (t.beside ≡ s.kept_beside)) → ((within first count t).beside ≡ (within first count s).beside) ⊎ ((t.on ≡ false) × ((within first count t).beside ≡ (within first count s).kept_beside))
beside-view first count s t law stay kept rest beside = elim (on_or_off t.on) [ inl on ↦ inl (lit on beside) | inr off ↦ inr (off, dark (law.off off)) ]
  where
    on_or_off : (b : Bool) → IsTrue b ⊎ (b ≡ false)
    on_or_off true = inl refl
    on_or_off false = inr refl

    lit : IsTrue t.on → (t.beside ≡ s.beside) ⊎ ((t.on ≡ false) × (t.beside ≡ s.kept_beside)) → (within first count t).beside ≡ (within first count s).beside
    lit on (inl same) = ap (λ (ws : List ℕ). ws ++ t.beside) (stay on) ∙ ap (λ (ws : List ℕ). outside first count s.words ++ ws) same
    lit on (inr gone) = absurd (let clash : true ≡ false = sym on ∙ gone.0 in cc)

    dark : t.started ≡ false → (within first count t).beside ≡ (within first count s).kept_beside
    dark shut = ap (λ (ws : List ℕ). outside first count ws ++ t.beside) (law.shut shut ∙ kept) ∙ ap (λ (ws : List ℕ). outside first count s.kept ++ ws) (law.shut_beside shut ∙ rest)

-- the words outside stay, as a call of the words below says for the words that it changes
pub works-view : (k first count : ℕ) (s t : Sheet) → first + count ≤ length s.words → IsSheet t → (IsTrue t.on → outside first count t.words ≡ outside first count s.words) → Works k s t → Works k (within first count s) (within first count t)
works-view k first count s t fits law stay w = record {
  long = size-view first count s t fits w.long;
  kept = ap (inside first count) w.kept;
  room = w.room;
  fixed = fixed-view first count s t w.long w.fixed;
  notes = w.notes;
  cuts = w.cuts;
  bads = w.bads;
  dark = w.dark;
  cut = w.cut;
  still = w.still;
  few = λ on. omega (arith, w.few on, length-map s.pages (page_in first count), length-map t.pages (page_in first count));
  seen = λ on. still-there (page_in first count) s.pages t.pages (w.seen on);
  beside = beside-view first count s t law stay w.kept w.kept_beside w.beside;
  kept_beside = ap (λ (ws : List ℕ). outside first count ws ++ t.kept_beside) w.kept ∙ ap (λ (ws : List ℕ). outside first count s.kept ++ ws) w.kept_beside;
}

-- a call that leaves what is outside if all of it is kept
pub keeps-view : (first count : ℕ) (s t : Sheet) → first + count ≤ length s.words → IsSheet s → (outside first count s.words ≡ outside first count s.kept → (outside first count t.words ≡ outside first count s.words) × (outside first count t.kept ≡ outside first count s.kept)) → Keeps s t → Keeps (within first count s) (within first count t)
keeps-view first count s t fits law stay k = record {
  long = size-view first count s t fits k.long;
  room = k.room;
  fixed = fixed-view first count s t k.long k.fixed;
  notes = k.notes;
  cuts = k.cuts;
  bads = k.bads;
  dark = k.dark;
  cut = k.cut;
  beside = λ calm. (
      let both = apart-sizes first count s.words s.beside s.kept s.kept_beside (sym law.long) calm in
      let here = stay both.0 in
      let there = k.beside both.1 in (
        ap (λ (ws : List ℕ). ws ++ t.beside) here.0 ∙ ap (λ (ws : List ℕ). outside first count s.words ++ ws) there.0,
        ap (λ (ws : List ℕ). ws ++ t.kept_beside) here.1 ∙ ap (λ (ws : List ℕ). outside first count s.kept ++ ws) there.1,
      )
      );
}

-- what start, finish and undo leave outside, if all of it is kept
pub start-outside : (first count : ℕ) (r : Result Unit Off) (s t : Sheet) → IsSheet t → Starts s r t → outside first count s.words ≡ outside first count s.kept → (outside first count t.words ≡ outside first count s.words) × (outside first count t.kept ≡ outside first count s.kept)
start-outside first count (Ok done) s t law e calm = (ap (outside first count) e.2, ap (outside first count) e.3)
start-outside first count (Err off) s t law e calm = (ap (outside first count) (law.shut (law.off e.0) ∙ e.1) ∙ sym calm, ap (outside first count) e.1)

pub finish-outside : (first count : ℕ) (r : Result Unit Off) (s t : Sheet) → IsSheet t → Finishes s r t → outside first count s.words ≡ outside first count s.kept → (outside first count t.words ≡ outside first count s.words) × (outside first count t.kept ≡ outside first count s.kept)
finish-outside first count (Ok done) s t law e calm = (ap (outside first count) (law.shut e.1 ∙ e.2), ap (outside first count) e.2 ∙ calm)
finish-outside first count (Err off) s t law e calm = elim e.1 [ inl k ↦ (ap (outside first count) (law.shut (law.off e.0) ∙ k) ∙ sym calm, ap (outside first count) k) | inr k ↦ (ap (outside first count) (law.shut (law.off e.0) ∙ k), ap (outside first count) k ∙ calm) ]

pub undo-outside : (first count : ℕ) (r : Result Unit Off) (s t : Sheet) → IsSheet t → Undoes s r t → outside first count s.words ≡ outside first count s.kept → (outside first count t.words ≡ outside first count s.words) × (outside first count t.kept ≡ outside first count s.kept)
undo-outside first count (Ok done) s t law e calm = (ap (outside first count) (law.shut e.1 ∙ e.2) ∙ sym calm, ap (outside first count) e.2)
undo-outside first count (Err off) s t law e calm = (ap (outside first count) (law.shut (law.off e.0) ∙ e.1) ∙ sym calm, ap (outside first count) e.1)

pub spends-view : (n first count : ℕ) (s t : Sheet) → Spends n s t → Spends n (within first count s) (within first count t)
spends-view n first count s t e = record { price = e.price; programs = e.programs; erases = e.erases }

pub loads-view : (first count a : ℕ) (r : Result ℕ Off) (s t : Sheet) → a < count → Loads s (first + a) r t → Loads (within first count s) a r (within first count t)
loads-view first count a (Ok v) s t lt l = (l.0, l.1 ∙ sym (inside-at first count a s.words lt), ap (inside first count) l.2, ap (map (page_in first count)) l.3)
loads-view first count a (Err off) s t lt l = l

-- what a call leaves outside, if its answer tells which words it changed
pub load-outside : (first count a : ℕ) (r : Result ℕ Off) (s t : Sheet) → Loads s a r t → IsTrue t.on → outside first count t.words ≡ outside first count s.words
load-outside first count a (Ok v) s t l on = ap (outside first count) l.2
load-outside first count a (Err off) s t l on = absurd (let clash : true ≡ false = sym on ∙ l in cc)

pub put-outside : (first count a w : ℕ) (r : Result Unit Trouble) (s t : Sheet) → a < count → Puts s (first + a) w r t → IsTrue t.on → outside first count t.words ≡ outside first count s.words
put-outside first count a w (Ok done) s t lt p on = ap (outside first count) p.1 ∙ outside-set first count a w s.words lt
put-outside first count a w (Err TroubleOff) s t lt p on = absurd (let clash : true ≡ false = sym on ∙ p in cc)
put-outside first count a w (Err Bad) s t lt p on = ap (outside first count) p.1

pub page-view : (first count a : ℕ) (s t : Sheet) → first % 32 ≡ 0 → count % 32 ≡ 0 → first + count ≤ length s.words → a < count → IsSheet t → (IsTrue t.on → outside first count t.words ≡ outside first count s.words) → OnPage ((first + a) / 32) s t → OnPage (a / 32) (within first count s) (within first count t)
page-view first count a s t starts whole fits lt law stay o = record {
  works = works-view 1 first count s t fits law stay o.works;
  again = λ h. works-view 0 first count s t fits law stay (o.again (at_below (own-put first count (a / 32) s.pages (page-fits count a whole lt) h)));
  put = λ on. elim (o.put on) [ inl h ↦ inl (put-own first count (a / 32) t.pages (from_below h)) | inr e ↦ inr (ap (map (page_in first count)) e) ];
}
  where
    at_below : IsTrue (has s.pages (first / 32 + a / 32)) → IsTrue (has s.pages ((first + a) / 32))
    at_below h = subst (λ (p : ℕ). IsTrue (has s.pages p)) (sym (page-of first a starts)) h

    from_below : IsTrue (has t.pages ((first + a) / 32)) → IsTrue (has t.pages (first / 32 + a / 32))
    from_below h = subst (λ (p : ℕ). IsTrue (has t.pages p)) (page-of first a starts) h

pub puts-view : (first count a w : ℕ) (r : Result Unit Trouble) (s t : Sheet) → first % 32 ≡ 0 → a < count → Puts s (first + a) w r t → Puts (within first count s) a w r (within first count t)
puts-view first count a w (Ok done) s t starts lt p = (
  p.0,
  ap (inside first count) p.1 ∙ inside-set first count a w s.words lt,
  put-own first count (a / 32) t.pages (subst (λ (n : ℕ). IsTrue (has t.pages n)) (page-of first a starts) p.2),
)
puts-view first count a w (Err TroubleOff) s t starts lt p = p
puts-view first count a w (Err Bad) s t starts lt p = (p.0, ap (inside first count) p.1, ap (map (page_in first count)) p.2, p.3)

-- runs
pub loads-run-view : (first count a : ℕ) (run : List ℕ) (r : Result Unit Off) (s t : Sheet) → a + length run ≤ count → LoadsRun s (first + a) run r t → LoadsRun (within first count s) a run r (within first count t)
loads-run-view first count a run (Ok done) s t le l = (l.0, l.1 ∙ sym (run-inside first count a (length run) s.words le), ap (inside first count) l.2, ap (map (page_in first count)) l.3)
loads-run-view first count a run (Err off) s t le l = l

pub load-run-outside : (first count a : ℕ) (run : List ℕ) (r : Result Unit Off) (s t : Sheet) → LoadsRun s a run r t → IsTrue t.on → outside first count t.words ≡ outside first count s.words
load-run-outside first count a run (Ok done) s t l on = ap (outside first count) l.2
load-run-outside first count a run (Err off) s t l on = absurd (let clash : true ≡ false = sym on ∙ l in cc)

-- the place of a key among words of a view
pub searches-view : (first count a n key low top : ℕ) (r : Result KeyPlace Off) (s t : Sheet) → a + n ≤ count → Searches s (first + a) n key low top r t → Searches (within first count s) a n key low top r (within first count t)
searches-view first count a n key low top (Ok x) s t le f = (
  f.0,
  record {
    within = f.1.within;
    above = f.1.above;
    below = f.1.below;
    first = f.1.first;
    bottom = λ i e. f.1.bottom i e ∙ seen i (omega (arith, e, f.1.within));
    last = f.1.last;
    ceiling = λ lt. sym (seen x.index lt) ∙ f.1.ceiling lt;
  },
  ap (inside first count) f.2,
  ap (map (page_in first count)) f.3,
)
  where
    seen : (i : ℕ) → i < n → get_or s.words (first + a + i) 0 ≡ get_or (inside first count s.words) (a + i) 0
    seen i lt = ap (λ j. get_or s.words j 0) (let e : first + a + i ≡ first + (a + i) = omega arith in e) ∙ sym (inside-at first count (a + i) s.words (omega (arith, le, lt)))
searches-view first count a n key low top (Err off) s t le f = f

pub search-outside : (first count a n key low top : ℕ) (r : Result KeyPlace Off) (s t : Sheet) → Searches s a n key low top r t → IsTrue t.on → outside first count t.words ≡ outside first count s.words
search-outside first count a n key low top (Ok x) s t f on = ap (outside first count) f.2
search-outside first count a n key low top (Err off) s t f on = absurd (let clash : true ≡ false = sym on ∙ f in cc)

pub puts-run-view : (first count a : ℕ) (list : List ℕ) (r : Result Unit Trouble) (s t : Sheet) → first + count ≤ length s.words → a + length list ≤ count → PutsRun s (first + a) list r t → PutsRun (within first count s) a list r (within first count t)
puts-run-view first count a list (Ok done) s t fits le p = (p.0, ap (inside first count) p.1 ∙ pasted-inside first count a (length list) list s.words fits (inside-long first count s.words fits) le (omega arith))
puts-run-view first count a list (Err TroubleOff) s t fits le p = p
puts-run-view first count a list (Err Bad) s t fits le (on, rose, (k, few, is)) = (on, rose, (k, few, ap (inside first count) is ∙ pasted-inside first count a k list s.words fits (inside-long first count s.words fits) (omega (arith, le, few)) few))

pub put-run-outside : (first count a : ℕ) (list : List ℕ) (r : Result Unit Trouble) (s t : Sheet) → first + count ≤ length s.words → a + length list ≤ count → PutsRun s (first + a) list r t → IsTrue t.on → outside first count t.words ≡ outside first count s.words
put-run-outside first count a list (Ok done) s t fits le p on = ap (outside first count) p.1 ∙ pasted-outside first count a (length list) list s.words fits le (omega arith)
put-run-outside first count a list (Err TroubleOff) s t fits le p on = absurd (let clash : true ≡ false = sym on ∙ p in cc)
put-run-outside first count a list (Err Bad) s t fits le (lit, rose, (k, few, is)) on = ap (outside first count) is ∙ pasted-outside first count a k list s.words fits (omega (arith, le, few)) few

-- room for a put through the view is room for it below
pub room-view : (first count a : ℕ) (s : Sheet) → first % 32 ≡ 0 → count % 32 ≡ 0 → a < count → IsTrue (has (within first count s).pages (a / 32)) ⊎ (length (within first count s).pages < s.room) → IsTrue (has s.pages ((first + a) / 32)) ⊎ (length s.pages < s.room)
room-view first count a s starts whole lt (inl h) = inl (subst (λ (p : ℕ). IsTrue (has s.pages p)) (sym (page-of first a starts)) (own-put first count (a / 32) s.pages (page-fits count a whole lt) h))
room-view first count a s starts whole lt (inr few) = inr (omega (arith, few, length-map s.pages (page_in first count)))

pub starts-view : (first count : ℕ) (r : Result Unit Off) (s t : Sheet) → Starts s r t → Starts (within first count s) r (within first count t)
starts-view first count (Ok done) s t e = (e.0, e.1, ap (inside first count) e.2, ap (inside first count) e.3, ap (map (page_in first count)) e.4)
starts-view first count (Err off) s t e = (e.0, ap (inside first count) e.1)

pub finishes-view : (first count : ℕ) (r : Result Unit Off) (s t : Sheet) → Finishes s r t → Finishes (within first count s) r (within first count t)
finishes-view first count (Ok done) s t e = (e.0, e.1, ap (inside first count) e.2)
finishes-view first count (Err off) s t e = (e.0, elim e.1 [ inl k ↦ inl (ap (inside first count) k) | inr k ↦ inr (ap (inside first count) k) ])

pub undoes-view : (first count : ℕ) (r : Result Unit Off) (s t : Sheet) → Undoes s r t → Undoes (within first count s) r (within first count t)
undoes-view first count (Ok done) s t e = (e.0, e.1, ap (inside first count) e.2)
undoes-view first count (Err off) s t e = (e.0, ap (inside first count) e.1)

-- addresses of the range are addresses below
pub own-address : (first count a : ℕ) (s : Sheet) → first + count ≤ length s.words → a < length (within first count s).words → a < count
own-address first count a s fits lt = omega (arith, lt, inside-long first count s.words fits)

pub address-below : (first count a : ℕ) (s : Sheet) → first + count ≤ length s.words → a < length (within first count s).words → first + a < length s.words
address-below first count a s fits lt = omega (arith, fits, own-address first count a s fits lt)

pub sum-fits : (first count a : ℕ) (s : Sheet) → first + count ≤ length s.words → IsSheet s → a < length (within first count s).words → Fits w32 (first + a)
sum-fits first count a s fits law lt = omega (arith, address-below first count a s fits lt, law.few)

pub size-below : (first count : ℕ) (s t : Sheet) → first + count ≤ length s.words → length t.words ≡ length s.words → first + count ≤ length t.words
size-below first count s t fits long = omega (arith, fits, long)

-- and runs of them
pub run-own : (first count a n : ℕ) (s : Sheet) → first + count ≤ length s.words → a + n ≤ length (within first count s).words → a + n ≤ count
run-own first count a n s fits le = omega (arith, le, inside-long first count s.words fits)

pub run-below : (first count a n : ℕ) (s : Sheet) → first + count ≤ length s.words → a + n ≤ length (within first count s).words → first + a + n ≤ length s.words
run-below first count a n s fits le = omega (arith, fits, run-own first count a n s fits le)

pub run-fits : (first count a n : ℕ) (s : Sheet) → first + count ≤ length s.words → IsSheet s → a + n ≤ length (within first count s).words → Fits w32 (first + a)
run-fits first count a n s fits law le = omega (arith, run-below first count a n s fits le, law.few)

-- there are some
pub some-of : (n : ℕ) → eqb n 0 ≡ false → 0 < n
some-of zero none = absurd (let clash : true ≡ false = none in cc)
some-of (suc n) none = omega arith

pub run-first : (first count a n : ℕ) (s : Sheet) → first + count ≤ length s.words → a + n ≤ length (within first count s).words → 0 < n → a < count
run-first first count a n s fits le some = omega (arith, run-own first count a n s fits le)

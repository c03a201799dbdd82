-- Rows that are kept as pages and marks: one written or cleared, and a range erased.
use Rattle.std.proofs.Common.{◌≡◌, ◌≢◌, ◌∙◌, ◌↔◌, inl, inr, IsTrue, ℕ, zero, suc, ◌+◌, ◌-◌, ◌^◌, ◌<◌, ◌≤◌, Bool, true, false, List, [], ◌∷◌, ◌++◌, length, take, drop, get_or, set, replicate, refl, sym, ap, subst, arith, length-append, append-nil}
use Rattle.std.specs.Prelude.{bit_and}
use Rattle.std.proofs.Math.Nat.{mod-eq_of_lt}
use Rattle.std.proofs.lemmas.Bool.{cases_eq, cases_lt, false≢true}
use Rattle.std.proofs.lemmas.List.{ext_get_or, get_or-set_same, get_or-set_other, get_or-replicate, get_or_read, length-set, length-replicate, set-append_right, append_assoc, take_at}
use Rattle.std.proofs.lemmas.Nat.{and_mask, and_comm}
use Rattle.envy_bank.specs.Kept.{ArePaged, kept_row, kept_rows, MarksRange, ErasesRange}
use Rattle.envy_base.specs.State.{IsPage, ands, ones}
use Rattle.envy_bank.proofs.LaneLaws.{length-ands, get_or-ands}

pub length-kept : (marks : List Bool) (pages : List (List ℕ)) → length (kept_rows marks pages) ≡ length marks
length-kept [] pages = refl
length-kept (m ∷ marks) [] = ap suc (length-kept marks [])
length-kept (m ∷ marks) (p ∷ pages) = ap suc (length-kept marks pages)

-- behind the first row

paged-rest : (m : Bool) (marks : List Bool) (p : List ℕ) (pages : List (List ℕ)) → ArePaged (m ∷ marks) (p ∷ pages) → ArePaged marks pages
paged-rest m marks p pages are = record { fits = let fits = are.fits in omega arith; beyond = λ q le lt. are.beyond (suc q) (omega arith) (omega arith) }

paged-none : (m : Bool) (marks : List Bool) → ArePaged (m ∷ marks) [] → ArePaged marks []
paged-none m marks are = record { fits = omega arith; beyond = λ q le lt. are.beyond (suc q) (omega arith) (omega arith) }

first-marked : (m : Bool) (marks : List Bool) → ArePaged (m ∷ marks) [] → m ≡ true
first-marked m marks are = are.beyond 0 (omega arith) (omega arith)

pub get_or-kept : (marks : List Bool) (pages : List (List ℕ)) → ArePaged marks pages → (q : ℕ) → get_or (kept_rows marks pages) q [] ≡ kept_row (get_or marks q false) (get_or pages q [])
get_or-kept [] [] are q = refl
get_or-kept [] (p ∷ pages) are q = absurd (let fits = are.fits in omega arith)
get_or-kept (m ∷ marks) [] are zero = ap (λ mark. kept_row mark []) (sym (first-marked m marks are))
get_or-kept (m ∷ marks) [] are (suc q) = get_or-kept marks [] (paged-none m marks are) q
get_or-kept (m ∷ marks) (p ∷ pages) are zero = refl
get_or-kept (m ∷ marks) (p ∷ pages) are (suc q) = get_or-kept marks pages (paged-rest m marks p pages are) q

-- a row written, and its mark taken away
pub kept-written : (marks : List Bool) (pages : List (List ℕ)) (q : ℕ) (page : List ℕ) → q < length pages → kept_rows (set marks q false) (set pages q page) ≡ set (kept_rows marks pages) q page
kept-written [] pages q page lt = refl
kept-written (m ∷ marks) [] q page lt = absurd (omega arith)
kept-written (m ∷ marks) (p ∷ pages) zero page lt = refl
kept-written (m ∷ marks) (p ∷ pages) (suc q) page lt = ap (λ rows. kept_row m p ∷ rows) (kept-written marks pages q page (omega arith))

-- a row written that has no mark
pub kept-changed : (marks : List Bool) (pages : List (List ℕ)) (q : ℕ) (page : List ℕ) → q < length pages → get_or marks q false ≡ false → kept_rows marks (set pages q page) ≡ set (kept_rows marks pages) q page
kept-changed [] pages q page lt e = refl
kept-changed (m ∷ marks) [] q page lt e = absurd (omega arith)
kept-changed (m ∷ marks) (p ∷ pages) zero page lt e = ap (λ mark. kept_row mark page ∷ kept_rows marks pages) e
kept-changed (m ∷ marks) (p ∷ pages) (suc q) page lt e = ap (λ rows. kept_row m p ∷ rows) (kept-changed marks pages q page (omega arith) e)

-- all marked, and no page yet
pub kept-replicate : (n : ℕ) → kept_rows (replicate n true) [] ≡ replicate n ones
kept-replicate zero = refl
kept-replicate (suc n) = ap (λ rows. ones ∷ rows) (kept-replicate n)

-- pages behind the last
pub kept-reached : (marks : List Bool) (pages : List (List ℕ)) (k : ℕ) (page : List ℕ) → ArePaged marks pages → kept_rows marks (pages ++ replicate k page) ≡ kept_rows marks pages
kept-reached [] pages k page are = refl
kept-reached (m ∷ marks) [] zero page are = refl
kept-reached (m ∷ marks) [] (suc k) page are = ap (λ mark. kept_row mark page ∷ kept_rows marks (replicate k page)) (first-marked m marks are) ∙ ap (λ rows. ones ∷ rows) (kept-reached marks [] k page (paged-none m marks are))
kept-reached (m ∷ marks) (p ∷ pages) k page are = ap (λ rows. kept_row m p ∷ rows) (kept-reached marks pages k page (paged-rest m marks p pages are))

-- the last of pages
last : (k : ℕ) (page blank : List ℕ) → replicate k blank ++ page ∷ [] ≡ set (replicate (suc k) blank) k page
last zero page blank = refl
last (suc k) page blank = ap (λ rows. blank ∷ rows) (last k page blank)

-- a page behind those that are there is the last that was reached for
pub behind : (pages : List (List ℕ)) (q : ℕ) (page blank : List ℕ) → length pages ≤ q
    → pages ++ replicate (q - length pages) blank ++ page ∷ [] ≡ set (pages ++ replicate (q + 1 - length pages) blank) q page
behind pages q page blank le =
    let more : q + 1 - length pages ≡ suc (q - length pages) = omega arith in
    rw more (append_assoc pages (replicate (q - length pages) blank) (page ∷ []) ∙ ap (λ rows. pages ++ rows) (last (q - length pages) page blank)
    ∙ sym (set-append_right pages (replicate (suc (q - length pages)) blank) (length pages) q page refl le))

-- so is the page next to the last
pub next : (pages : List (List ℕ)) (q : ℕ) (page blank : List ℕ) → q ≡ length pages → pages ++ page ∷ [] ≡ set (pages ++ replicate (q + 1 - length pages) blank) q page
next pages q page blank is =
    let none : q - length pages ≡ 0 = omega arith in
    let plain : pages ++ replicate (q - length pages) blank ≡ pages = ap (λ n. pages ++ replicate n blank) none ∙ append-nil pages in
    ap (λ rows. rows ++ page ∷ []) (sym plain) ∙ behind pages q page blank (omega arith)

pub paged-set : (marks : List Bool) (pages : List (List ℕ)) (q : ℕ) (page : List ℕ) → ArePaged marks pages → ArePaged marks (set pages q page)
paged-set marks pages q page are = let long = length-set pages q page in record { fits = let fits = are.fits in omega (arith, long); beyond = λ k le lt. are.beyond k (omega (arith, long)) lt }

pub paged-written : (marks : List Bool) (pages reached : List (List ℕ)) (q k : ℕ) (page blank : List ℕ) → ArePaged marks pages → reached ≡ pages ++ replicate k blank → k ≡ q + 1 - length pages → q < length marks → ArePaged (set marks q false) (set reached q page)
paged-written marks pages reached q k page blank are is more lt = record {
  fits = let fits = are.fits in omega (arith, long, long_set, long_marks);
  beyond = λ j le within. get_or-set_other marks q j false false (let ne : j ≢ q = omega (arith, long, long_set) in ne) ∙ are.beyond j (omega (arith, long, long_set)) (omega (arith, long_marks));
} where
  long : length reached ≡ length pages + k
  long = ap length is ∙ length-append pages (replicate k blank) ∙ ap (λ (n : ℕ). length pages + n) (length-replicate {A = List ℕ} k blank)

  long_set : length (set reached q page) ≡ length reached
  long_set = length-set reached q page

  long_marks : length (set marks q false) ≡ length marks
  long_marks = length-set marks q false

-- the row of an index, and the places where it stands

pub in_marks : (len : ℕ) (marks : List Bool) (pages s : List (List ℕ)) (q : ℕ) → len ≡ length marks → kept_rows marks pages ≡ s → q < length s → q < len
in_marks len marks pages s q long is lt = let all = length-kept marks pages in let seen = ap (λ rows. length rows) is in omega arith

-- a mark that was read, with false past the end
mark_read : (marks : List Bool) (pages s : List (List ℕ)) (q : ℕ) (mark : Bool) → kept_rows marks pages ≡ s → q < length s → mark ≡ get_or marks q mark → get_or marks q false ≡ mark
mark_read marks pages s q mark is lt read =
    let low : q < length marks = in_marks (length marks) marks pages s q refl is lt in
    sym (get_or_read marks q mark low read false)

-- a row without a mark has its page
pub in_pages : (len : ℕ) (marks : List Bool) (pages s : List (List ℕ)) (q : ℕ) (mark : Bool) → len ≡ length pages → ArePaged marks pages → kept_rows marks pages ≡ s → q < length s → mark ≡ get_or marks q mark → mark ≡ false → q < len
in_pages len marks pages s q mark long are is lt read clear = elim (cases_lt q (length pages)) [
  | inl below ↦ omega (arith, long)
  | inr beyond ↦
      let clean : get_or marks q false ≡ false = mark_read marks pages s q mark is lt read ∙ clear in
      let set : get_or marks q false ≡ true = are.beyond q beyond (in_marks (length marks) marks pages s q refl is lt) in
      let no : false ≡ true = sym clean ∙ set in
      absurd (false≢true no)
]

-- the row that a mark and a page, as they were read, make
pub row_seen : (marks : List Bool) (pages s : List (List ℕ)) (q : ℕ) (mark : Bool) → ArePaged marks pages → kept_rows marks pages ≡ s → get_or marks q false ≡ mark
    → get_or s q [] ≡ kept_row mark (get_or pages q [])
row_seen marks pages s q mark are is read =
    ap (λ rows. get_or rows q []) (sym is) ∙ get_or-kept marks pages are q ∙ ap (λ m. kept_row m (get_or pages q [])) read

-- marks below an end

pub marks_none : (first : ℕ) (marks : List Bool) → MarksRange first first marks marks
marks_none first marks = record { long = refl; before = λ q lt. refl; inside = λ q le lt. absurd (let no : first < first = omega arith in omega arith); behind = λ q le. refl }

pub marks_more : (first n : ℕ) (old now : List Bool) → MarksRange first n old now → first ≤ n → n < length now → MarksRange first (n + 1) old (set now n true)
marks_more first n old now so_far le lt = record {
  long = length-set now n true ∙ so_far.long;
  before = λ q low. let ne : q ≢ n = omega arith in get_or-set_other now n q true false ne ∙ so_far.before q low;
  inside = λ q from low. elim (cases_eq q n) [
    | inl e ↦ rw e (get_or-set_same now n true false lt)
    | inr ne ↦ get_or-set_other now n q true false ne ∙ so_far.inside q from (omega arith)
  ];
  behind = λ q high. let ne : q ≢ n = omega arith in get_or-set_other now n q true false ne ∙ so_far.behind q (omega arith);
}

-- the marks after a call over all of them as a slice
abbrev pub after : ℕ → List Bool → List Bool → List Bool
after len marks new = take len (new ++ drop (length new) marks)

pub paged-erased : (marks new : List Bool) (pages : List (List ℕ)) (first end : ℕ) → ArePaged marks pages → MarksRange first end marks new → ArePaged new pages
paged-erased marks new pages first end are marked = record {
  fits = let fits = are.fits in let long = marked.long in omega arith;
  beyond = λ q le lt. let long = marked.long in elim (cases_lt q first) [
    | inl before ↦ marked.before q before ∙ are.beyond q le (omega arith)
    | inr from ↦ elim (cases_lt q end) [
      | inl inside ↦ marked.inside q from inside
      | inr behind ↦ marked.behind q behind ∙ are.beyond q le (omega arith)
    ]
  ];
}

pub whole_after : (len : ℕ) (marks slice new : List Bool) (first end : ℕ) → len ≡ length marks → slice ≡ marks → MarksRange first end slice new → after len marks new ≡ new
whole_after len marks slice new first end long as_slice marked = take_at new (drop (length new) marks) len (marked.long ∙ ap length as_slice ∙ sym long)

pub erased_range : (len : ℕ) (marks slice new : List Bool) (pages s : List (List ℕ)) (first end : ℕ) → len ≡ length marks → slice ≡ marks → ArePaged marks pages → kept_rows marks pages ≡ s
    → end ≤ length s → MarksRange first end slice new → ErasesRange first end s (kept_rows (after len marks new) pages)
erased_range len marks slice new pages s first end long as_slice are is fits marked =
    let of_marks : MarksRange first end marks new = subst (λ (old : List Bool). MarksRange first end old new) as_slice marked in
    let are_new : ArePaged new pages = paged-erased marks new pages first end are of_marks in
    let whole : after len marks new ≡ new = whole_after len marks slice new first end long as_slice marked in
    let kept : (q : ℕ) (mark : Bool) → get_or new q false ≡ mark → get_or (kept_rows new pages) q [] ≡ kept_row mark (get_or pages q []) = (λ q mark e. get_or-kept new pages are_new q ∙ ap (λ m. kept_row m (get_or pages q [])) e) in
    let range : ErasesRange first end (kept_rows marks pages) (kept_rows new pages) = record {
      long = length-kept new pages ∙ of_marks.long ∙ sym (length-kept marks pages);
      before = λ q lt. kept q (get_or marks q false) (of_marks.before q lt) ∙ sym (get_or-kept marks pages are q);
      inside = λ q le lt. kept q true (of_marks.inside q le lt);
      behind = λ q le. kept q (get_or marks q false) (of_marks.behind q le) ∙ sym (get_or-kept marks pages are q);
    } in
    subst (λ (ms : List Bool). ErasesRange first end s (kept_rows ms pages)) (sym whole) (subst (λ (old : List (List ℕ)). ErasesRange first end old (kept_rows new pages)) is range)

-- the bits of a row cleared, word by word

pub cleared : (old page new : List ℕ) → length old ≡ 32 → length page ≡ 32 → length new ≡ 32 → ((k : ℕ) → k < 32 → get_or new k 0 ≡ bit_and (get_or old k 0) (get_or page k 0)) → new ≡ ands old page
cleared old page new long_o long_p long_n each =
    ext_get_or 0 new (ands old page) (long_n ∙ sym (length-ands old page (long_o ∙ sym long_p) ∙ long_o)) (λ k lt. each k (omega arith) ∙ sym (get_or-ands old page (long_o ∙ sym long_p) k))

pub cleared_held : (page new : List ℕ) (held : Bool) → length page ≡ 32 → length new ≡ 32 → (IsTrue held ↔ ((k : ℕ) → k < 32 → get_or new k 0 ≡ get_or page k 0)) → IsTrue held ↔ (new ≡ page)
cleared_held page new held long_p long_n each =
    (λ e. ext_get_or 0 new page (long_n ∙ sym long_p) (λ k lt. each.0 e k (omega arith)), λ e. each.1 (λ k lt. ap (λ row. get_or row k 0) e))

-- an erased row cleared to a page is the page
pub ands-ones : (page : List ℕ) → IsPage page → ands ones page ≡ page
ands-ones page is =
    let long : length ones ≡ length page = length-replicate {A = ℕ} 32 (2 ^ 64 - 1) ∙ sym is.long in
    ext_get_or 0 (ands ones page) page (length-ands ones page long ∙ long) (λ k lt.
    let low : k < 32 = (let all = length-ands ones page long ∙ long in let paged = is.long in omega arith) in
    get_or-ands ones page long k ∙ ap (λ n. bit_and n (get_or page k 0)) (get_or-replicate {A = ℕ} 32 k (2 ^ 64 - 1) 0 low) ∙ and_comm (2 ^ 64 - 1) (get_or page k 0) ∙ and_mask (get_or page k 0) 64 ∙ mod-eq_of_lt (is.words k))

-- a call's rows, by the marks and pages that it read

pub kept_new : (count : ℕ) (marks : List Bool) (pages : List (List ℕ)) → marks ≡ replicate count true → pages ≡ [] → kept_rows marks pages ≡ replicate count ones
kept_new count marks pages is none = rw (is, none) (kept-replicate count)

pub word_erased : (marks : List Bool) (pages s : List (List ℕ)) (q i : ℕ) (mark : Bool) → ArePaged marks pages → kept_rows marks pages ≡ s → q < length s → mark ≡ get_or marks q mark → mark ≡ true → i < 32
    → 18446744073709551615 ≡ get_or (get_or s q []) i 0
word_erased marks pages s q i mark are is lt read set low =
    sym (ap (λ row. get_or row i 0) (row_seen marks pages s q true are is (mark_read marks pages s q mark is lt read ∙ set)) ∙ get_or-replicate {A = ℕ} 32 i (2 ^ 64 - 1) 0 low)

pub word_kept : (marks : List Bool) (pages s : List (List ℕ)) (q i : ℕ) (mark : Bool) (page : List ℕ) → ArePaged marks pages → kept_rows marks pages ≡ s → q < length s → mark ≡ get_or marks q mark → mark ≡ false
    → page ≡ get_or pages q page → get_or page i 0 ≡ get_or (get_or s q []) i 0
word_kept marks pages s q i mark page are is lt read clear of_page =
    let low : q < length pages = in_pages (length pages) marks pages s q mark refl are is lt read clear in
    ap (λ row. get_or row i 0) (get_or_read pages q page low of_page [] ∙ sym (row_seen marks pages s q false are is (mark_read marks pages s q mark is lt read ∙ clear)))

-- the page of a row is there once it was reached for
pub reached_far : (pages reached : List (List ℕ)) (q k : ℕ) (blank : List ℕ) → reached ≡ pages ++ replicate k blank → k ≡ q + 1 - length pages → q < length reached
reached_far pages reached q k blank is more =
    let long = ap length is ∙ length-append pages (replicate k blank) ∙ ap (λ (n : ℕ). length pages + n) (length-replicate {A = List ℕ} k blank) in
    omega arith

pub kept_after_write : (marks : List Bool) (pages s reached : List (List ℕ)) (q k : ℕ) (page blank : List ℕ) → ArePaged marks pages → kept_rows marks pages ≡ s → reached ≡ pages ++ replicate k blank → k ≡ q + 1 - length pages
    → kept_rows (set marks q false) (set reached q page) ≡ set s q page
kept_after_write marks pages s reached q k page blank are is so more =
    kept-written marks reached q page (reached_far pages reached q k blank so more)
    ∙ ap (λ rows. set rows q page) (ap (kept_rows marks) so ∙ kept-reached marks pages k blank are ∙ is)

pub programmed_erased : (marks : List Bool) (pages s new : List (List ℕ)) (q : ℕ) (page : List ℕ) (mark : Bool) → ArePaged marks pages → kept_rows marks pages ≡ s → q < length s → mark ≡ get_or marks q mark → mark ≡ true
    → IsPage page → new ≡ set s q page → new ≡ set s q (ands (get_or s q []) page)
programmed_erased marks pages s new q page mark are is lt read is_set paged wrote =
    wrote ∙ ap (λ row. set s q row) (sym (ap (λ row. ands row page) (row_seen marks pages s q true are is (mark_read marks pages s q mark is lt read ∙ is_set)) ∙ ands-ones page paged))

pub programmed_kept : (marks : List Bool) (pages s : List (List ℕ)) (q : ℕ) (page : List ℕ) (mark : Bool) (row new : List ℕ) → ArePaged marks pages → kept_rows marks pages ≡ s → q < length s → mark ≡ get_or marks q mark → mark ≡ false
    → row ≡ get_or pages q row → new ≡ ands row page → kept_rows marks (set pages q new) ≡ set s q (ands (get_or s q []) page)
programmed_kept marks pages s q page mark row new are is lt read clear of_row made =
    let clean = mark_read marks pages s q mark is lt read ∙ clear in
    let low : q < length pages = in_pages (length pages) marks pages s q mark refl are is lt read clear in
    let seen : row ≡ get_or s q [] = get_or_read pages q row low of_row [] ∙ sym (row_seen marks pages s q false are is clean) in
    kept-changed marks pages q new low clean ∙ ap (λ rows. set rows q new) is ∙ ap (λ r. set s q r) (made ∙ ap (λ r. ands r page) seen)

pub programmed_holds : (marks : List Bool) (pages s : List (List ℕ)) (q : ℕ) (page : List ℕ) (mark : Bool) (new : List ℕ) (held : Bool) → ArePaged marks pages → kept_rows marks pages ≡ s → q < length s → mark ≡ get_or marks q mark
    → mark ≡ false → (IsTrue held ↔ (new ≡ page)) → IsTrue held ↔ (get_or (kept_rows marks (set pages q new)) q [] ≡ page)
programmed_holds marks pages s q page mark new held are is lt read clear holds =
    let clean = mark_read marks pages s q mark is lt read ∙ clear in
    let low : q < length pages = in_pages (length pages) marks pages s q mark refl are is lt read clear in
    let here : get_or (kept_rows marks (set pages q new)) q [] ≡ new = get_or-kept marks (set pages q new) (paged-set marks pages q new are) q ∙ ap (λ m. kept_row m (get_or (set pages q new) q [])) clean ∙ get_or-set_same pages q new [] low in
    (λ e. here ∙ holds.0 e, λ e. holds.1 (sym here ∙ e))

pub slice_reaches : (marks slice : List Bool) (pages s : List (List ℕ)) (end : ℕ) → slice ≡ marks → kept_rows marks pages ≡ s → end ≤ length s → end ≤ length slice
slice_reaches marks slice pages s end as_slice is fits =
    let all = length-kept marks pages in
    let seen = ap (λ rows. length rows) is in
    let whole = ap (λ ms. length ms) as_slice in
    omega arith

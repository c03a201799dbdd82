-- From bytes back to words, rows and boards.
use Rattle.std.proofs.Common.{◌≡◌, ◌⊎◌, inl, inr, ℕ, suc, ◌+◌, ◌*◌, ◌^◌, ◌<◌, ◌≤◌, ◌==◌, Bool, true, false, true≢false, List, [], ◌∷◌, ◌++◌, length, take, drop, get_or, refl, sym, ◌∙◌, ap, arith, length-append}
use Rattle.std.specs.Prelude.{slice_index_or, Option, None, Some, Result, Ok, Err}
use Rattle.std.specs.Int.{w32, w64, from_le_bytes}
use Rattle.std.proofs.Math.Seq.{take-append_seam, drop-append_seam}
use Rattle.std.proofs.lemmas.List.{append_assoc}
use Rattle.std.proofs.lemmas.Nat.{from_le_bytes-to_le_bytes_4, from_le_bytes-to_le_bytes_8}
use Rattle.envy_base.specs.Map.{words_of}
use Rattle.envy_base.specs.Shape.{IsShape, version_of}
use Rattle.envy_base.proofs.Versions.{version-known, plain-version}
use Rattle.envy_base.specs.State.{State, IsBoard, IsPage, AreWords}
use Rattle.envy_base.specs.declared.shape.Shape.{Shape}
use Rattle.envy_io.specs.Streams.{Feed, with_front}
use Rattle.envy_io.specs.Taking.{Taking}
use Rattle.envy_image.specs.Backwards.{HoldTheSame, BeginWithOneImage, GivesBack}
use Rattle.envy_image.specs.Image.{mark_of, word_bytes, words_bytes, rows_bytes, number_bytes, numbers_bytes, numbers_of, numbers_size, head_of, head_with, head_size, is_extended, body_of, image_of, FitNumbers}
use Rattle.envy_image.specs.Installing.{Goes, Installs, body_size}
use Rattle.envy_image.specs.declared.installation.InFault.{InFault}
use Rattle.envy_image.proofs.Programming.{length-words}

-- of two equal texts in two parts, where the fronts are equally long, the fronts are equal
pub same-front : (a b x y : List ℕ) → length a ≡ length b → a ++ x ≡ b ++ y → a ≡ b
same-front a b x y long same = sym (take-append_seam a x) ∙ (ap (take (length a)) same ∙ (ap (λ (n : ℕ). take n (b ++ y)) long ∙ take-append_seam b y))

-- and so are the rests
pub same-rest : (a b x y : List ℕ) → length a ≡ length b → a ++ x ≡ b ++ y → x ≡ y
same-rest a b x y long same = sym (drop-append_seam a x) ∙ (ap (drop (length a)) same ∙ (ap (λ (n : ℕ). drop n (b ++ y)) long ∙ drop-append_seam b y))

same-number : (m n : ℕ) → m < 2 ^ 32 → n < 2 ^ 32 → number_bytes m ≡ number_bytes n → m ≡ n
same-number m n lm ln same = sym (from_le_bytes-to_le_bytes_4 m lm) ∙ (ap (from_le_bytes w32) same ∙ from_le_bytes-to_le_bytes_4 n ln)

same-word : (v w : ℕ) → v < 2 ^ 64 → w < 2 ^ 64 → word_bytes v ≡ word_bytes w → v ≡ w
same-word v w lv lw same = sym (from_le_bytes-to_le_bytes_8 v lv) ∙ (ap (from_le_bytes w64) same ∙ from_le_bytes-to_le_bytes_8 w lw)

same-words : (vs ws : List ℕ) → length vs ≡ length ws → AreWords vs → AreWords ws → words_bytes vs ≡ words_bytes ws → vs ≡ ws
same-words [] [] long fv fw same = refl
same-words [] (w ∷ ws) long fv fw same = absurd (omega arith)
same-words (v ∷ vs) [] long fv fw same = absurd (omega arith)
same-words (v ∷ vs) (w ∷ ws) long fv fw same =
    let first : v ≡ w = same-word v w (fv 0) (fw 0) (same-front (word_bytes v) (word_bytes w) (words_bytes vs) (words_bytes ws) refl same) in
    let others : vs ≡ ws = same-words vs ws (omega arith) (λ i. fv (suc i)) (λ i. fw (suc i)) (same-rest (word_bytes v) (word_bytes w) (words_bytes vs) (words_bytes ws) refl same) in
    cc

-- every one of the first rows is a page
abbrev ArePages : List (List ℕ) → Type 0
ArePages rows = (q : ℕ) → q < length rows → IsPage (slice_index_or rows q [])

pub length-rows : (rows : List (List ℕ)) → ArePages rows → length (rows_bytes rows) ≡ 256 * length rows
length-rows [] pages = refl
length-rows (row ∷ rows) pages =
    let long = IsPage.long (pages 0 (omega arith)) in
    omega (arith, length-append (words_bytes row) (rows_bytes rows), length-words row, length-rows rows (λ q lt. pages (suc q) (omega arith)))

same-rows : (xs ys : List (List ℕ)) → length xs ≡ length ys → ArePages xs → ArePages ys → rows_bytes xs ≡ rows_bytes ys → xs ≡ ys
same-rows [] [] long px py same = refl
same-rows [] (y ∷ ys) long px py same = absurd (omega arith)
same-rows (x ∷ xs) [] long px py same = absurd (omega arith)
same-rows (x ∷ xs) (y ∷ ys) long px py same =
    let lx = IsPage.long (px 0 (omega arith)) in
    let ly = IsPage.long (py 0 (omega arith)) in
    let even : length (words_bytes x) ≡ length (words_bytes y) = omega (arith, length-words x, length-words y) in
    let first : x ≡ y = same-words x y (omega arith) (IsPage.words (px 0 (omega arith))) (IsPage.words (py 0 (omega arith))) (same-front (words_bytes x) (words_bytes y) (rows_bytes xs) (rows_bytes ys) even same) in
    let others : xs ≡ ys = same-rows xs ys (omega arith) (λ q lt. px (suc q) (omega arith)) (λ q lt. py (suc q) (omega arith)) (same-rest (words_bytes x) (words_bytes y) (rows_bytes xs) (rows_bytes ys) even same) in
    cc

length-with : (extended : Bool) (sh : Shape) → length (head_with extended sh) ≡ 8 + numbers_size extended
unfolding head_with
length-with false sh = refl
length-with true sh = refl

pub length-head : (sh : Shape) → length (head_of sh) ≡ head_size sh
length-head sh = length-with (is_extended sh) sh

-- the numbers of a shape that checks fit 32 bits
pub fit-numbers : (sh : Shape) → IsShape sh → FitNumbers sh
fit-numbers sh s =
    let a = s.few_segments in
    let b = s.few_rows in
    let c = s.few_pages in
    let d = s.few_frames in
    let e = s.few_entries in
    record { segments = omega arith; rows = omega arith; pages = omega arith; shadows = omega arith; frames = omega arith; entries = omega arith; reserves = omega (arith, s.reserves, s.few_segments); sums = omega (arith, s.unsummed) }

next-number : (m n : ℕ) (x y : List ℕ) → m < 2 ^ 32 → n < 2 ^ 32 → number_bytes m ++ x ≡ number_bytes n ++ y → (m ≡ n) × (x ≡ y)
next-number m n x y lm ln same = (same-number m n lm ln (same-front (number_bytes m) (number_bytes n) x y refl same), same-rest (number_bytes m) (number_bytes n) x y refl same)

same-shape : (s t : Shape) → s.segments ≡ t.segments → s.rows ≡ t.rows → s.pages ≡ t.pages → s.shadows ≡ t.shadows → s.frames ≡ t.frames → s.entries ≡ t.entries → s.reserves ≡ t.reserves → s.sums ≡ t.sums → s ≡ t
same-shape s t e1 e2 e3 e4 e5 e6 e7 e8 =
    ap (λ (n : ℕ). record s { segments = n }) e1
    ∙ ap (λ (n : ℕ). record s { segments = t.segments; rows = n }) e2
    ∙ ap (λ (n : ℕ). record s { segments = t.segments; rows = t.rows; pages = n }) e3
    ∙ ap (λ (n : ℕ). record s { segments = t.segments; rows = t.rows; pages = t.pages; shadows = n }) e4
    ∙ ap (λ (n : ℕ). record t { frames = n; entries = s.entries; reserves = s.reserves; sums = s.sums }) e5
    ∙ ap (λ (n : ℕ). record t { entries = n; reserves = s.reserves; sums = s.sums }) e6
    ∙ ap (λ (n : ℕ). record t { reserves = n; sums = s.sums }) e7
    ∙ ap (λ (n : ℕ). record t { sums = n }) e8

same-numbers : (extended : Bool) (s t : Shape) → FitNumbers s → FitNumbers t → (extended ≡ false → ((s.reserves ≡ 0) × (s.sums ≡ 0)) × ((t.reserves ≡ 0) × (t.sums ≡ 0)))
    → numbers_bytes (numbers_of extended s) ≡ numbers_bytes (numbers_of extended t) → s ≡ t
same-numbers false s t f g none same =
    let (a, r1) = next-number s.segments t.segments _ _ f.segments g.segments same in
    let (b, r2) = next-number s.rows t.rows _ _ f.rows g.rows r1 in
    let (c, r3) = next-number s.pages t.pages _ _ f.pages g.pages r2 in
    let (d, r4) = next-number s.shadows t.shadows _ _ f.shadows g.shadows r3 in
    let (e, r5) = next-number s.frames t.frames _ _ f.frames g.frames r4 in
    let (h, r6) = next-number s.entries t.entries _ _ f.entries g.entries r5 in
    let (ours, theirs) = none refl in
    same-shape s t a b c d e h (ours.0 ∙ sym theirs.0) (ours.1 ∙ sym theirs.1)
same-numbers true s t f g none same =
    let (a, r1) = next-number s.segments t.segments _ _ f.segments g.segments same in
    let (b, r2) = next-number s.rows t.rows _ _ f.rows g.rows r1 in
    let (c, r3) = next-number s.pages t.pages _ _ f.pages g.pages r2 in
    let (d, r4) = next-number s.shadows t.shadows _ _ f.shadows g.shadows r3 in
    let (e, r5) = next-number s.frames t.frames _ _ f.frames g.frames r4 in
    let (h, r6) = next-number s.entries t.entries _ _ f.entries g.entries r5 in
    let (i, r7) = next-number s.reserves t.reserves _ _ f.reserves g.reserves r6 in
    let (j, r8) = next-number s.sums t.sums _ _ f.sums g.sums r7 in
    same-shape s t a b c d e h i j

-- the mark tells whether an image is extended
same-mark : (a b : Bool) → mark_of a ≡ mark_of b → a ≡ b
same-mark false false same = refl
same-mark true true same = refl
same-mark false true same = absurd (omega (arith, ap (λ (l : List ℕ). get_or l 7 0) same))
same-mark true false same = absurd (omega (arith, ap (λ (l : List ℕ). get_or l 7 0) same))

mark-long : (a b : Bool) → length (mark_of a) ≡ length (mark_of b)
mark-long false false = refl
mark-long true true = refl
mark-long false true = refl
mark-long true false = refl

-- heads in front of equal bytes have one mark
pub same-extended : (a b : Bool) (s t : Shape) (x y : List ℕ) → head_with a s ++ x ≡ head_with b t ++ y → a ≡ b
unfolding head_with
same-extended a b s t x y same =
    same-mark a b (same-front (mark_of a) (mark_of b) _ _ (mark-long a b) (sym (append_assoc (mark_of a) (numbers_bytes (numbers_of a s)) x) ∙ (same ∙ append_assoc (mark_of b) (numbers_bytes (numbers_of b t)) y)))

-- a shape whose image isn't extended has no reserves and no sums
pub bare : (sh : Shape) → is_extended sh ≡ false → (sh.reserves ≡ 0) × (sh.sums ≡ 0)
bare sh is = either (version-known sh)
  where
    either : (version_of sh ≡ 2) ⊎ (version_of sh ≡ 3) → (sh.reserves ≡ 0) × (sh.sums ≡ 0)
    either (inl two) = plain-version sh two
    either (inr three) = absurd (true≢false (sym (ap (λ (v : ℕ). v == 3) three) ∙ is))

-- behind equal marks equal heads have equal numbers
behind-mark : (extended : Bool) (s t : Shape) → head_with extended s ≡ head_with extended t → numbers_bytes (numbers_of extended s) ≡ numbers_bytes (numbers_of extended t)
unfolding head_with
behind-mark extended s t heads = same-rest (mark_of extended) (mark_of extended) _ _ refl heads

same-with : (extended : Bool) (s t : Shape) (x y : List ℕ) → FitNumbers s → FitNumbers t → (extended ≡ false → ((s.reserves ≡ 0) × (s.sums ≡ 0)) × ((t.reserves ≡ 0) × (t.sums ≡ 0)))
    → head_with extended s ++ x ≡ head_with extended t ++ y → (s ≡ t) × (x ≡ y)
same-with extended s t x y fs ft none same =
    let heads = same-front (head_with extended s) (head_with extended t) x y even same in
    (same-numbers extended s t fs ft none (behind-mark extended s t heads), same-rest (head_with extended s) (head_with extended t) x y even same)
  where
    even : length (head_with extended s) ≡ length (head_with extended t)
    even = length-with extended s ∙ sym (length-with extended t)

-- the head of a board, and one that was read
module _ (s t : Shape) (x y : List ℕ) (fs : FitNumbers s) (ft : FitNumbers t) (same : head_of s ++ x ≡ head_of t ++ y) where
  extended : is_extended s ≡ is_extended t
  extended = same-extended (is_extended s) (is_extended t) s t x y same

  both : (s ≡ t) × (x ≡ y)
  both = same-with (is_extended s) s t x y fs ft (λ none. (bare s none, bare t (sym extended ∙ none))) (same ∙ ap (λ (b : Bool). head_with b t ++ y) (sym extended))

  -- equal heads say the same sizes
  pub same-head : s ≡ t
  same-head = both.0

  -- behind equal heads the same follows
  pub behind-head : x ≡ y
  behind-head = both.1

-- a mark in front of bytes that begin with the head of a board is that of its image
pub mark-told : (extended : Bool) (sh : Shape) (x y : List ℕ) → mark_of extended ++ x ≡ head_of sh ++ y → extended ≡ is_extended sh
unfolding head_with
mark-told extended sh x y same =
    same-mark extended (is_extended sh) (same-front (mark_of extended) (mark_of (is_extended sh)) _ _ (mark-long extended (is_extended sh)) (same ∙ append_assoc (mark_of (is_extended sh)) (numbers_bytes (numbers_of (is_extended sh) sh)) y))

-- the head of a board begins with the mark of its image
pub mark-first : (sh : Shape) (y : List ℕ) → head_of sh ++ y ≡ mark_of (is_extended sh) ++ (numbers_bytes (numbers_of (is_extended sh) sh) ++ y)
unfolding head_with
mark-first sh y = append_assoc (mark_of (is_extended sh)) (numbers_bytes (numbers_of (is_extended sh) sh)) y

pub some-numbers : (extended : Bool) → 24 ≤ numbers_size extended
some-numbers false = omega arith
some-numbers true = omega arith

-- a head whose mark is there isn't cut short
pub head-whole : (extended : Bool) (sh : Shape) (bytes behind left rest : List ℕ) → bytes ≡ mark_of extended ++ behind → length behind < numbers_size extended → bytes ++ left ≡ head_of sh ++ rest → length (head_of sh) ≤ length bytes → ⊥
head-whole extended sh bytes behind left rest is few same long =
    let whole : mark_of extended ++ (behind ++ left) ≡ head_of sh ++ rest = sym (append_assoc (mark_of extended) behind left) ∙ (ap (λ (xs : List ℕ). xs ++ left) (sym is) ∙ same) in
    let kind : extended ≡ is_extended sh = mark-told extended sh (behind ++ left) rest whole in
    let size : numbers_size extended ≡ numbers_size (is_extended sh) = ap numbers_size kind in
    let eight : length (mark_of extended) ≡ 8 = marked extended in
    omega (arith, size, eight, few, long, length-head sh, ap length is, length-append (mark_of extended) behind)
  where
    marked : (b : Bool) → length (mark_of b) ≡ 8
    marked false = refl
    marked true = refl

-- no board has an extended image without reserves and sums
pub never-bare : (s t : Shape) (x y : List ℕ) → FitNumbers s → FitNumbers t → version_of t ≡ 2 → head_of s ++ x ≡ head_with true t ++ y → ⊥
never-bare s t x y fs ft two same =
    let kind : is_extended s ≡ true = same-extended (is_extended s) true s t x y same in
    let one : s ≡ t = (same-with true s t x y fs ft (λ (none : true ≡ false). absurd (true≢false none)) (sym (ap (λ (b : Bool). head_with b s ++ x) kind) ∙ same)).0 in
    true≢false (sym kind ∙ (ap is_extended one ∙ ap (λ (v : ℕ). v == 3) two))

-- how long the bytes of a board are
pub length-body : (s : State) → IsBoard s → length (body_of s.flash s.sram) ≡ body_size s.shape
length-body s law =
    let rows = law.rows in
    let words = law.sram in
    length-append (rows_bytes s.flash) (words_bytes s.sram) ∙ omega (arith, length-rows s.flash law.pages, length-words s.sram)

pub length-image : (s : State) → IsBoard s → length (image_of s) ≡ head_size s.shape + body_size s.shape
unfolding image_of
length-image s law = omega (arith, length-append (head_of s.shape) (body_of s.flash s.sram), length-head s.shape, length-body s law)

-- equal bodies hold the same flash and SRAM
pub same-body : (s t : State) (x y : List ℕ) → IsBoard s → IsBoard t → s.shape ≡ t.shape → body_of s.flash s.sram ++ x ≡ body_of t.flash t.sram ++ y → HoldTheSame s t × (x ≡ y)
same-body s t x y ls lt shape same = (record { shape = shape; flash = flash; sram = sram }, same-rest (body_of s.flash s.sram) (body_of t.flash t.sram) x y even same)
  where
    even : length (body_of s.flash s.sram) ≡ length (body_of t.flash t.sram)
    even = length-body s ls ∙ (ap body_size shape ∙ sym (length-body t lt))

    bodies : rows_bytes s.flash ++ words_bytes s.sram ≡ rows_bytes t.flash ++ words_bytes t.sram
    bodies = same-front (body_of s.flash s.sram) (body_of t.flash t.sram) x y even same

    rows-even : length s.flash ≡ length t.flash
    rows-even = ls.rows ∙ (ap (λ (sh : Shape). sh.segments * sh.rows) shape ∙ sym lt.rows)

    bytes-even : length (rows_bytes s.flash) ≡ length (rows_bytes t.flash)
    bytes-even = length-rows s.flash ls.pages ∙ (ap (λ (n : ℕ). 256 * n) rows-even ∙ sym (length-rows t.flash lt.pages))

    flash : s.flash ≡ t.flash
    flash = same-rows s.flash t.flash rows-even ls.pages lt.pages (same-front (rows_bytes s.flash) (rows_bytes t.flash) (words_bytes s.sram) (words_bytes t.sram) bytes-even bodies)

    sram : s.sram ≡ t.sram
    sram = same-words s.sram t.sram (ls.sram ∙ (ap words_of shape ∙ sym lt.sram)) ls.words lt.words (same-rest (rows_bytes s.flash) (rows_bytes t.flash) (words_bytes s.sram) (words_bytes t.sram) bytes-even bodies)

-- no text begins with two images
pub one-image : BeginWithOneImage
unfolding image_of
one-image s t a b ls lt same =
    let heads : head_of s.shape ++ (body_of s.flash s.sram ++ a) ≡ head_of t.shape ++ (body_of t.flash t.sram ++ b) = sym (append_assoc (head_of s.shape) (body_of s.flash s.sram) a) ∙ (same ∙ append_assoc (head_of t.shape) (body_of t.flash t.sram) b) in
    let fs = fit-numbers s.shape ls.shape in
    let ft = fit-numbers t.shape lt.shape in
    same-body s t a b ls lt (same-head s.shape t.shape _ _ fs ft heads) (behind-head s.shape t.shape _ _ fs ft heads)

-- what is installed is what the image was made of
pub gives-back : (old new : State) (was now : Taking) (from to : Feed) (result : Result Unit InFault) → IsBoard new → Installs old was from result new now to → GivesBack old was from result new
gives-back old new was now from to (Err fault) law stops = λ b rest whole shape none left. tt
gives-back old new was now from to (Ok done) law i = λ b rest whole shape none left. at b rest whole shape none left to.left i.bytes.draws.left
  where
    at : (b : State) (rest : List ℕ) → IsBoard b → b.shape ≡ old.shape → was.held ≡ [] → from.left ≡ Some (body_of b.flash b.sram ++ rest) → (left : Option (List ℕ)) → from.left ≡ with_front i.bytes.got left → HoldTheSame new b
    at b rest whole shape none left None is = absurd (let never = sym left ∙ is in cc)
    at b rest whole shape none left (Some more) is =
        let got : i.bytes.got ≡ body_of new.flash new.sram ++ now.held = ap (λ (held : List ℕ). held ++ i.bytes.got) (sym none) ∙ i.bytes.all in
        let found : Some (body_of b.flash b.sram ++ rest) ≡ Some (i.bytes.got ++ more) = sym left ∙ is in
        let same : i.bytes.got ++ more ≡ body_of b.flash b.sram ++ rest = cc in
        let bodies : body_of new.flash new.sram ++ (now.held ++ more) ≡ body_of b.flash b.sram ++ rest = sym (append_assoc (body_of new.flash new.sram) now.held more) ∙ (ap (λ (xs : List ℕ). xs ++ more) (sym got) ∙ same) in
        (same-body new b (now.held ++ more) rest law whole (ap (λ (s : State). s.shape) (Goes.same i.goes) ∙ sym shape) bodies).0

-- 256 bytes and one row of 32 words are the same thing in two forms.
use Rattle.std.proofs.Common.{◌≡◌, ◌∙◌, inl, inr, ℕ, zero, suc, ◌+◌, ◌*◌, ◌/◌, ◌%◌, ◌<◌, ◌≤◌, List, [], ◌∷◌, length, take, drop, get_or, map, refl, sym, ap, arith}
use Rattle.std.specs.Prelude.{bit_and}
use Rattle.std.specs.List.{range_with_len}
use Rattle.std.specs.Int.{w64, to_le_bytes, from_le_bytes}
use Rattle.std.proofs.lemmas.Bool.{cases_lt}
use Rattle.std.proofs.lemmas.List.{ext_get_or, get_or-take, get_or-drop, get_or_past, length-take, length-drop}
use Rattle.std.proofs.lemmas.List.FromFn.{get_or-map-range_with_len, length-map-range_with_len}
use Rattle.std.proofs.lemmas.Nat.{le_bytes_8, from_le_bytes-to_le_bytes_8}
use Rattle.envy_bank.specs.Lanes.{lane_of, row_from}
use Rattle.envy_base.specs.State.{ands, IsPage}
use Rattle.envy_bank.proofs.Words.{AreBytes, from_le-ands, from_le_bytes-below}

-- the eight lanes of word i
abbrev pub eight : List ℕ → ℕ → List ℕ
eight ls i = take 8 (drop (8 * i) ls)

pub get_or-eight : (ls : List ℕ) (i k : ℕ) → k < 8 → get_or (eight ls i) k 0 ≡ get_or ls (8 * i + k) 0
get_or-eight ls i k lt = get_or-take 8 (drop (8 * i) ls) k 0 lt ∙ get_or-drop (8 * i) ls k 0

length-eight : (ls : List ℕ) (i : ℕ) → length ls ≡ 256 → i < 32 → length (eight ls i) ≡ 8
length-eight ls i long lt = simp (length-take, length-drop) (omega arith)

eight_past : (ls : List ℕ) (i k : ℕ) → 8 ≤ k → get_or (eight ls i) k 0 ≡ 0
eight_past ls i k le = get_or_past (eight ls i) k 0 (let long = length-take 8 (drop (8 * i) ls) in omega arith)

AreBytes-eight : (ls : List ℕ) (i : ℕ) → AreBytes ls → AreBytes (eight ls i)
AreBytes-eight ls i bytes k =
    elim (cases_lt k 8) [ inl lt ↦ rw (get_or-eight ls i k lt) (bytes (8 * i + k)) | inr ge ↦ rw (eight_past ls i k ge) (omega arith) ]

pub get_or-row_from : (ls : List ℕ) (i : ℕ) → i < 32 → get_or (row_from ls) i 0 ≡ from_le_bytes w64 (eight ls i)
unfolding row_from
get_or-row_from ls i lt = get_or-map-range_with_len (λ k. from_le_bytes w64 (eight ls k)) 0 32 i i 0 lt (omega arith)

pub length-row_from : (ls : List ℕ) → length (row_from ls) ≡ 32
unfolding row_from
length-row_from ls = length-map-range_with_len (λ k. from_le_bytes w64 (eight ls k)) 0 32

-- lane j of the row that bytes make is byte j
pub lane_of-row_from : (ls : List ℕ) → length ls ≡ 256 → AreBytes ls → (j : ℕ) → j < 256 → lane_of (row_from ls) j ≡ get_or ls j 0
unfolding lane_of
lane_of-row_from ls long bytes j lt =
    let word : get_or (row_from ls) (j / 8) 0 ≡ from_le_bytes w64 (eight ls (j / 8)) = get_or-row_from ls (j / 8) (omega arith) in
    let back : to_le_bytes w64 (get_or (row_from ls) (j / 8) 0) ≡ eight ls (j / 8) = le_bytes_8 (eight ls (j / 8)) _ (length-eight ls (j / 8) long (omega arith)) (AreBytes-eight ls (j / 8) bytes) word in
    ap (λ bs. get_or bs (j % 8) 0) back ∙ get_or-eight ls (j / 8) (j % 8) (omega arith) ∙ ap (λ n. get_or ls n 0) (omega arith)

-- the lanes of a page
unfoldable pub lanes_of : List ℕ → List ℕ
lanes_of page = map (lane_of page) (range_with_len 0 256)

pub length-lanes_of : (page : List ℕ) → length (lanes_of page) ≡ 256
unfolding lanes_of
length-lanes_of page = length-map-range_with_len (lane_of page) 0 256

pub get_or-lanes_of : (page : List ℕ) (j : ℕ) → j < 256 → get_or (lanes_of page) j 0 ≡ lane_of page j
unfolding lanes_of
get_or-lanes_of page j lt = get_or-map-range_with_len (lane_of page) 0 256 j j 0 lt (omega arith)

-- the lanes of a page make the page
pub row_from-lanes_of : (page : List ℕ) → IsPage page → row_from (lanes_of page) ≡ page
unfolding lane_of
row_from-lanes_of page is =
    ext_get_or 0 (row_from (lanes_of page)) page (length-row_from (lanes_of page) ∙ sym is.long) (λ i lt.
    let low : i < 32 = (let long = length-row_from (lanes_of page) in omega arith) in
    let eight_bytes : eight (lanes_of page) i ≡ to_le_bytes w64 (get_or page i 0) =
    ext_get_or 0 (eight (lanes_of page) i) (to_le_bytes w64 (get_or page i 0)) (length-eight (lanes_of page) i (length-lanes_of page) low) (λ k within.
    let small : k < 8 = (let long = length-eight (lanes_of page) i (length-lanes_of page) low in omega arith) in
    let word : (8 * i + k) / 8 ≡ i = omega arith in
    let byte : (8 * i + k) % 8 ≡ k = omega arith in
    get_or-eight (lanes_of page) i k small ∙ get_or-lanes_of page (8 * i + k) (omega arith) ∙ rw (word, byte) refl) in
    get_or-row_from (lanes_of page) i low ∙ ap (from_le_bytes w64) eight_bytes ∙ from_le_bytes-to_le_bytes_8 (get_or page i 0) (is.words i))

pub length-ands : (xs ys : List ℕ) → length xs ≡ length ys → length (ands xs ys) ≡ length xs
length-ands [] ys e = refl
length-ands (x ∷ xs) [] e = cc
length-ands (x ∷ xs) (y ∷ ys) e = ap suc (length-ands xs ys (omega arith))

pub get_or-ands : (xs ys : List ℕ) → length xs ≡ length ys → (i : ℕ) → get_or (ands xs ys) i 0 ≡ bit_and (get_or xs i 0) (get_or ys i 0)
get_or-ands [] [] e i = refl
get_or-ands [] (y ∷ ys) e i = absurd (let no : 0 ≡ suc (length ys) = e in cc)
get_or-ands (x ∷ xs) [] e i = absurd (let no : suc (length xs) ≡ 0 = e in cc)
get_or-ands (x ∷ xs) (y ∷ ys) e zero = refl
get_or-ands (x ∷ xs) (y ∷ ys) e (suc i) = get_or-ands xs ys (omega arith) i

-- the AND of each lane is the AND of each word
pub row_from-ands : (xs ys zs : List ℕ) → length zs ≡ 256 → length xs ≡ 256 → length ys ≡ 256 → AreBytes xs → AreBytes ys
    → ((j : ℕ) → j < 256 → get_or zs j 0 ≡ bit_and (get_or xs j 0) (get_or ys j 0)) → row_from zs ≡ ands (row_from xs) (row_from ys)
row_from-ands xs ys zs long long_x long_y p q is =
    let same : length (row_from xs) ≡ length (row_from ys) = length-row_from xs ∙ sym (length-row_from ys) in
    ext_get_or 0 (row_from zs) (ands (row_from xs) (row_from ys)) (length-row_from zs ∙ sym (length-row_from xs) ∙ sym (length-ands (row_from xs) (row_from ys) same)) (λ i lt.
    let low : i < 32 = (let long = length-row_from zs in omega arith) in
    let each : (k : ℕ) → get_or (eight zs i) k 0 ≡ bit_and (get_or (eight xs i) k 0) (get_or (eight ys i) k 0) = (λ k.
    elim (cases_lt k 8) [
      | inl small ↦ rw (get_or-eight zs i k small, get_or-eight xs i k small, get_or-eight ys i k small) (is (8 * i + k) (omega arith))
      | inr ge ↦ rw (eight_past zs i k ge, eight_past xs i k ge) refl
    ]) in
    get_or-row_from zs i low ∙ from_le-ands (eight xs i) (eight ys i) (eight zs i) (AreBytes-eight xs i p) (AreBytes-eight ys i q) each
    ∙ sym (get_or-ands (row_from xs) (row_from ys) same i ∙ rw (get_or-row_from xs i low, get_or-row_from ys i low) refl))

-- bytes make words
pub IsPage-row_from : (ls : List ℕ) → AreBytes ls → IsPage (row_from ls)
IsPage-row_from ls bytes = record {
  long = length-row_from ls;
  words = λ i. elim (cases_lt i 32) [
    | inl lt ↦ rw (get_or-row_from ls i lt) (from_le_bytes-below (eight ls i) (AreBytes-eight ls i bytes))
    | inr ge ↦ rw (get_or_past (row_from ls) i 0 (let long = length-row_from ls in omega arith)) (omega arith)
  ];
}

-- a word is known by its eight bytes
pub from_le-eight : (bs ls : List ℕ) (i : ℕ) → length bs ≡ 8 → length ls ≡ 256 → i < 32 → ((k : ℕ) → k < 8 → get_or bs k 0 ≡ get_or ls (8 * i + k) 0) → from_le_bytes w64 bs ≡ get_or (row_from ls) i 0
from_le-eight bs ls i long long_l lt each =
    let same : bs ≡ eight ls i = ext_get_or 0 bs (eight ls i) (long ∙ sym (length-eight ls i long_l lt)) (λ k within.
    let small : k < 8 = omega arith in
    each k small ∙ sym (get_or-eight ls i k small)) in
    ap (from_le_bytes w64) same ∙ sym (get_or-row_from ls i lt)

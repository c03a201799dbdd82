-- Rows that were anded word by word, and rows that were read word by word.
use Rattle.std.proofs.Common.{◌≡◌, ◌≢◌, inl, inr, ◌+◌, ◌-◌, ◌*◌, ◌<◌, ◌≤◌, ℕ, List, [], length, get_or, slice_index, subst, refl, sym, ◌∙◌, ap, arith}
use Rattle.std.proofs.Common.{rules, take, drop, min, slice_set, map}
use Rattle.std.proofs.lemmas.Grind.{same_number_lists}
use Rattle.std.proofs.lemmas.Bool.{cases_lt, cases_eq}
use Rattle.std.proofs.lemmas.Nat.{row_fits}
use Rattle.std.proofs.lemmas.List.{places, length-take, length-drop, map-set, get_or-set_same, get_or-set_other, get_or_past, get_or-map, length-map, length-set, ext_get_or}
use borrow.Rule.Slice.PartMut.{put_mid}
use Rattle.envy_base.specs.declared.shape.Shape.{Shape}
use Rattle.envy_base.specs.Counting.{up}
use Rattle.envy_base.specs.Map.{words_of}
use Rattle.envy_base.specs.Shape.{IsShape}
use Rattle.envy_base.specs.State.{ands, AreWords, Only, IsPage, IsBoard, with_row, IsPage as WholePage}
use Rattle.envy_part.specs.Part.{part_state, ArePages, HasZeros, MissesOnes, MissesPage}
use Rattle.envy_bank.specs.Lanes.{lane_of, row_from}
use Rattle.envy_bank.proofs.LaneLaws.{length-row_from, lanes_of, length-lanes_of, get_or-lanes_of, row_from-lanes_of}
use Rattle.envy_base.proofs.Rows.{block_of, inside_of}

-- the first n words are read
pub record Read (n : ℕ) (bytes found : List ℕ) : Type 0 where
  pub long : length found ≡ 32
  pub done : (j : ℕ) → j < n → slice_index found j ≡ slice_index (row_from bytes) j

pub read_all : (bytes found : List ℕ) → Read 32 bytes found → found ≡ row_from bytes
read_all bytes found is = same_number_lists found (row_from bytes) (is.long ∙ sym (length-row_from bytes)) (λ k lt. is.done k (omega (lt, is.long, arith)))

-- a part of the rows, from row a on, is these now
pub record Put (a k : ℕ) (old mid new : List (List ℕ)) : Type 0 where
  pub fits : a + k ≤ length old
  pub long : length new ≡ length old
  pub below : (q : ℕ) → q < a → get_or new q [] ≡ get_or old q []
  pub above : (q : ℕ) → a + k ≤ q → get_or new q [] ≡ get_or old q []
  pub inside : (q : ℕ) → a ≤ q → q < a + k → get_or new q [] ≡ get_or mid (q - a) []

-- rows put in the middle of others
pub put_there : (a k : ℕ) (old mid : List (List ℕ)) → a + k ≤ length old → length mid ≡ k → Put a k old mid (put_mid a k old mid)
put_there a k old mid fits long = record {
  fits = fits;
  long = search (rules, places);
  below = λ q lt. search (rules, places);
  above = λ q le. search (rules, places);
  inside = λ q le lt. search (rules, places);
}

-- a row that is read of a part
pub row_read : (flash : List (List ℕ)) (q : ℕ) → q < length flash → get_or (map row_from flash) q [] ≡ row_from (get_or flash q [])
row_read flash q lt = get_or-map row_from flash q [] [] lt

-- a programmed row leaves a board
pub programmed_board : (sh : Shape) (flash : List (List ℕ)) (sram erases : List ℕ) (begun bads begun' bads' q : ℕ) (row : List ℕ) → IsBoard (part_state sh flash sram erases begun bads) → IsPage (row_from row)
    → IsBoard (part_state sh (slice_set flash q row) sram erases begun' bads')
programmed_board sh flash sram erases begun bads begun' bads' q row is page =
    let same : map row_from (slice_set flash q row) ≡ slice_set (map row_from flash) q (row_from row) = map-set row_from flash q row in
    let long : length (slice_set (map row_from flash) q (row_from row)) ≡ length (map row_from flash) = length-set (map row_from flash) q (row_from row) in
    record {
      shape = is.shape;
      sram = is.sram;
      rows = ap length same ∙ long ∙ is.rows;
      pages = λ k lt.
          let low : k < length (map row_from flash) = (let e = ap length same ∙ long in omega arith) in
          subst IsPage (sym (ap (λ xs. get_or xs k []) same)) (elim (cases_eq k q) [
            | inl e ↦ subst IsPage (sym (ap (λ j. get_or (slice_set (map row_from flash) q (row_from row)) j []) e ∙ get_or-set_same (map row_from flash) q (row_from row) [] (rw (← e) low))) page
            | inr ne ↦ subst IsPage (sym (get_or-set_other (map row_from flash) q k (row_from row) [] ne)) (is.pages k low)
          ]);
      words = is.words;
      erases = is.erases;
    }

pub programmed_state : (sh : Shape) (flash : List (List ℕ)) (sram erases : List ℕ) (begun bads n q : ℕ) (row : List ℕ) → n ≡ up begun
    → part_state sh (slice_set flash q row) sram erases n bads ≡ with_row (part_state sh flash sram erases begun bads) q (row_from row)
programmed_state sh flash sram erases begun bads n q row more = rw (more, map-set row_from flash q row) refl

pub in_part : (flash : List (List ℕ)) (q : ℕ) → q < length (map row_from flash) → q < length flash
in_part flash q lt = (let e = length-map flash row_from in omega arith)

-- a row that is what was asked for
pub programmed_there : (sh : Shape) (flash : List (List ℕ)) (sram erases : List ℕ) (begun bads n q : ℕ) (row read both page : List ℕ) → n ≡ up begun → q < length (map row_from flash)
    → read ≡ row_from (get_or flash q []) → both ≡ ands read page → row_from row ≡ both
    → part_state sh (slice_set flash q row) sram erases n bads ≡ with_row (part_state sh flash sram erases begun bads) q (ands (get_or (map row_from flash) q []) page)
programmed_there sh flash sram erases begun bads n q row read both page more lt is anded held =
    let there : row_from row ≡ ands (get_or (map row_from flash) q []) page = held ∙ anded ∙ ap (λ xs. ands xs page) (is ∙ sym (row_read flash q (in_part flash q lt))) in
    programmed_state sh flash sram erases begun bads n q row more ∙ ap (with_row (part_state sh flash sram erases begun bads) q) there

-- a row that isn't what was asked for
pub programmed_missed : (flash : List (List ℕ)) (q : ℕ) (row read both page : List ℕ) → q < length (map row_from flash) → read ≡ row_from (get_or flash q []) → both ≡ ands read page → row_from row ≢ both
    → MissesPage flash q page (slice_set flash q row)
programmed_missed flash q row read both page lt is anded differs same =
    let now : row_from (get_or (slice_set flash q row) q []) ≡ row_from row = ap row_from (get_or-set_same flash q row [] (in_part flash q lt)) in
    let asked : both ≡ ands (row_from (get_or flash q [])) page = anded ∙ ap (λ xs. ands xs page) is in
    differs (sym now ∙ same ∙ sym asked)

-- the words of rows of which a part was put
same_words : (old new : List (List ℕ)) (q : ℕ) → length new ≡ length old → get_or new q [] ≡ get_or old q [] → get_or (map row_from new) q [] ≡ get_or (map row_from old) q []
same_words old new q long same = elim (cases_lt q (length old)) [
  | inl lt ↦ row_read new q (omega arith) ∙ ap row_from same ∙ sym (row_read old q lt)
  | inr ge ↦ get_or_past (map row_from new) q [] (let e = length-map new row_from in omega arith) ∙ sym (get_or_past (map row_from old) q [] (let e = length-map old row_from in omega arith))
]

put_words : (a k : ℕ) (old mid new : List (List ℕ)) (P : List ℕ → Type 0) (q : ℕ) → length mid ≡ k → Put a k old mid new → ((j : ℕ) → j < length mid → P (row_from (get_or mid j []))) → a ≤ q → q < a + k → q < length old → P (get_or (map row_from new) q [])
put_words a k old mid new P q long put each low high lt =
    let here : q < length new = (let e = put.long in omega arith) in
    subst P (sym (row_read new q here ∙ ap row_from (put.inside q low high))) (each (q - a) (omega arith))

-- rows put within a segment leave the others
pub only_put : (rows e k : ℕ) (old mid new : List (List ℕ)) (P : List ℕ → Type 0) → 1 ≤ rows → k ≡ rows → length mid ≡ k → Put (e * rows) k old mid new
    → ((j : ℕ) → j < length mid → P (row_from (get_or mid j []))) → Only rows e P (map row_from old) (map row_from new)
only_put rows e k old mid new P some is long put each = record {
  long = length-map new row_from ∙ put.long ∙ sym (length-map old row_from);
  others = λ q ne. same_words old new q put.long (elim (cases_lt q (e * rows)) [
    | inl lt ↦ put.below q lt
    | inr ge ↦ elim (cases_lt q (e * rows + k)) [ inl within ↦ absurd (ne (block_of rows e q ge (omega arith))) | inr past ↦ put.above q past ]
  ]);
  inside = λ q lt here. let at = inside_of rows e q some here in put_words (e * rows) k old mid new P q long put each at.0 (let high = at.1 in omega arith) (in_part old q lt);
}

-- a row that isn't all ones, of those that were put
pub put_missed : (rows e k : ℕ) (old mid new : List (List ℕ)) → k ≡ rows → length mid ≡ k → Put (e * rows) k old mid new → HasZeros mid → MissesOnes rows e new
put_missed rows e k old mid new whole long put (j, lt, zeros) =
    let a = e * rows in
    let within : j < rows = omega (lt, long, whole, arith) in
    let here : a + j < length new = (let fits = put.fits in let same = put.long in omega (fits, same, within, whole, arith)) in
    let at : a + j - a ≡ j = omega arith in
    let read : row_from (get_or new (a + j) []) ≡ row_from (get_or mid j []) = ap row_from (put.inside (a + j) (omega arith) (omega (within, whole, arith)) ∙ ap (λ n. get_or mid n []) at) in
    (a + j, here, block_of rows e (a + j) (omega arith) (omega (within, arith)), λ same. zeros (sym read ∙ same))

-- an erased segment leaves a board
pub put_board : (sh : Shape) (old mid new : List (List ℕ)) (sram erases counted : List ℕ) (a k begun bads begun' bads' e n : ℕ) → IsBoard (part_state sh old sram erases begun bads) → length mid ≡ k → Put a k old mid new → ArePages mid → counted ≡ slice_set erases e n
    → IsBoard (part_state sh new sram counted begun' bads')
put_board sh old mid new sram erases counted a k begun bads begun' bads' e n is long put pages count =
    let same : length (map row_from new) ≡ length (map row_from old) = length-map new row_from ∙ put.long ∙ sym (length-map old row_from) in
    record {
      shape = is.shape;
      sram = is.sram;
      rows = same ∙ is.rows;
      pages = λ q lt.
          let low : q < length (map row_from old) = omega arith in
          elim (cases_lt q a) [
            | inl before ↦ subst IsPage (sym (same_words old new q put.long (put.below q before))) (is.pages q low)
            | inr ge ↦ elim (cases_lt q (a + k)) [
              | inl within ↦ put_words a k old mid new IsPage q long put pages ge within (in_part old q low)
              | inr past ↦ subst IsPage (sym (same_words old new q put.long (put.above q past))) (is.pages q low)
            ]
          ];
      words = is.words;
      erases = ap length count ∙ length-set erases e n ∙ is.erases;
    }

-- what an erase puts in the place of a segment
pub segment_put : (sh : Shape) (flash mid : List (List ℕ)) (sram erases : List ℕ) (begun bads e k : ℕ) → IsBoard (part_state sh flash sram erases begun bads) → e < sh.segments → k ≡ sh.rows
    → length mid ≡ length (take k (drop (e * sh.rows) flash)) → (length mid ≡ k) × Put (e * sh.rows) k flash mid (put_mid (e * sh.rows) k flash mid)
segment_put sh flash mid sram erases begun bads e k is lt whole long =
    let fits : e * sh.rows + sh.rows ≤ sh.segments * sh.rows = row_fits e sh.rows sh.segments sh.rows lt (omega arith) in
    let all : length flash ≡ sh.segments * sh.rows = sym (length-map flash row_from) ∙ is.rows in
    let room : e * sh.rows + k ≤ length flash = omega (fits, all, whole, arith) in
    let mids : length mid ≡ min k (length flash - e * sh.rows) = long ∙ length-take k (drop (e * sh.rows) flash) ∙ ap (min k) (length-drop (e * sh.rows) flash) in
    let same : length mid ≡ k = omega (mids, room, arith) in
    (same, put_there (e * sh.rows) k flash mid room same)

-- memory of the sizes that a shape asks for makes a board
pub made_board : (sh : Shape) (flash : List (List ℕ)) (sram erases : List ℕ) → IsShape sh → ArePages flash → AreWords sram → length flash ≡ sh.segments * sh.rows → length sram ≡ words_of sh → length erases ≡ sh.segments
    → IsBoard (part_state sh flash sram erases 0 0)
made_board sh flash sram erases shape pages words rows long counts = record {
  shape = shape;
  sram = long;
  rows = length-map flash row_from ∙ rows;
  pages = λ q lt. subst IsPage (sym (row_read flash q (in_part flash q lt))) (pages q (in_part flash q lt));
  words = words;
  erases = counts;
}

-- bytes that are those of a page make the page
pub bytes_all : (page bytes : List ℕ) → WholePage page → length bytes ≡ 256 → ((k : ℕ) → k < 256 → slice_index bytes k ≡ lane_of page k) → row_from bytes ≡ page
bytes_all page bytes is long done =
    ap row_from (ext_get_or 0 bytes (lanes_of page) (long ∙ sym (length-lanes_of page)) (λ k lt. let small : k < 256 = omega arith in done k small ∙ sym (get_or-lanes_of page k small))) ∙ row_from-lanes_of page is

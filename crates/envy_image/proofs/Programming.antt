-- Rows and words that are written one after another, with what the bytes say.
use Rattle.std.proofs.Common.{◌≡◌, ℕ, zero, suc, ◌+◌, ◌*◌, ◌^◌, ◌<◌, List, [], ◌∷◌, ◌++◌, length, take, drop, get_or, set, replicate, refl, sym, ◌∙◌, ap, subst, arith, length-append}
use Rattle.std.specs.Prelude.{IsTrue, Ok}
use Rattle.std.proofs.lemmas.List.{append-nil, take_more_set, take-append-drop, get_or-set_other, length-set, length-take}
use Rattle.std.proofs.Math.Seq.{take-append-add}
use Rattle.std.proofs.lemmas.Grind.{flat_map-append}
use Rattle.envy_base.specs.Counting.{up}
use Rattle.envy_base.specs.State.{State, AreWords, IsPage, Programs, Puts, ands, ones, row_of, with_row, with_word}
use Rattle.envy_io.specs.Streams.{Feed}
use Rattle.envy_io.specs.Taking.{Taking}
use Rattle.envy_image.specs.Image.{word_bytes, words_bytes, rows_bytes}
use Rattle.envy_image.specs.Reading.{Consumes}
use Rattle.envy_image.specs.Installing.{IsWithin, Goes, Programmed, Filled, count_after}
use Rattle.envy_image.proofs.Consuming.{consumes-both, consumes-none}
use Rattle.envy_base.proofs.Rows.{ands_ones as ands-ones}

-- no program yet
pub count-none : (count : ℕ) → count ≡ count_after 0 count
unfolding count_after
count-none count = omega arith

-- one program more
pub count-more : (n count : ℕ) → up (count_after n count) ≡ count_after (n + 1) count
unfolding up count_after
count-more n count = omega arith

pub length-word : (w : ℕ) → length (word_bytes w) ≡ 8
length-word w = refl

pub length-words : (ws : List ℕ) → length (words_bytes ws) ≡ 8 * length ws
length-words [] = refl
length-words (w ∷ ws) = omega (arith, length-append (word_bytes w) (words_bytes ws), length-word w, length-words ws)

-- one row more
rows-more : (flash : List (List ℕ)) (n : ℕ) (page : List ℕ) → n < length flash → rows_bytes (take (n + 1) (set flash n page)) ≡ rows_bytes (take n flash) ++ words_bytes page
rows-more flash n page lt =
    ap rows_bytes (take_more_set flash n page lt) ∙ flat_map-append words_bytes (take n flash) (page ∷ []) ∙ ap (λ (r : List ℕ). rows_bytes (take n flash) ++ r) (append-nil (words_bytes page))

words-more : (sram : List ℕ) (n w : ℕ) → n < length sram → words_bytes (take (n + 1) (set sram n w)) ≡ words_bytes (take n sram) ++ word_bytes w
words-more sram n w lt =
    ap words_bytes (take_more_set sram n w lt) ∙ flat_map-append word_bytes (take n sram) (w ∷ []) ∙ ap (λ (r : List ℕ). words_bytes (take n sram) ++ r) (append-nil (word_bytes w))

pub words-set : (ws : List ℕ) (i w : ℕ) → w < 2 ^ 64 → AreWords ws → AreWords (set ws i w)
words-set [] i w lt words k = words k
words-set (x ∷ ws) zero w lt words zero = lt
words-set (x ∷ ws) zero w lt words (suc k) = words (suc k)
words-set (x ∷ ws) (suc i) w lt words zero = words 0
words-set (x ∷ ws) (suc i) w lt words (suc k) = words-set ws i w lt (λ j. words (suc j)) k

words-zero : (n k : ℕ) → get_or (replicate n 0) k 0 < 2 ^ 64
words-zero zero k = omega arith
words-zero (suc n) zero = omega arith
words-zero (suc n) (suc k) = words-zero n k

pub page-zero : IsPage (replicate 32 0)
page-zero = record { long = refl; words = words-zero 32 }

-- one word more of a page whose bytes are read
pub page-more : (page bytes : List ℕ) (i n w : ℕ) → IsPage page → length bytes ≡ 256 → i < 32 → n ≡ 8 → w < 2 ^ 64 → words_bytes (take i page) ≡ take (8 * i) bytes → word_bytes w ≡ take n (drop (8 * i) bytes) → IsPage (set page i w) × (words_bytes (take (i + 1) (set page i w)) ≡ take (8 * (i + 1)) bytes)
page-more page bytes i n w whole size lt eight fits before is = (
  record { long = length-set page i w ∙ whole.long; words = words-set page i w fits whole.words },
  words-more page i w (let long = whole.long in omega arith) ∙ (ap (λ (xs : List ℕ). xs ++ word_bytes w) before ∙ (ap (λ (xs : List ℕ). take (8 * i) bytes ++ xs) (is ∙ ap (λ (k : ℕ). take k (drop (8 * i) bytes)) eight) ∙ sym front)),
)
  where
    front : take (8 * (i + 1)) bytes ≡ take (8 * i) bytes ++ take 8 (drop (8 * i) bytes)
    front =
        let at : length (take (8 * i) bytes) + 8 ≡ 8 * (i + 1) = omega (arith, length-take (8 * i) bytes) in
        ap (take (8 * (i + 1))) (sym (take-append-drop (8 * i) bytes)) ∙ (ap (λ (k : ℕ). take k (take (8 * i) bytes ++ drop (8 * i) bytes)) (sym at) ∙ take-append-add (take (8 * i) bytes) (drop (8 * i) bytes) 8)

pub programmed-none : (s : State) (t : Taking) (feed : Feed) → IsTrue s.on → IsWithin t → Programmed 0 s t feed s t feed
programmed-none s t feed on within = record {
  on = on;
  same = refl;
  long = refl;
  others = λ q le. refl;
  begun = count-none s.begun;
  bytes = consumes-none t feed within;
  size = refl;
}

-- programming rows keeps power on and the sizes
pub programmed-goes : (n : ℕ) (old new : State) (was now : Taking) (from to : Feed) → Programmed n old was from new now to → Goes old new
programmed-goes n old new was now from to p = subst (λ (s : State). Goes old s) (sym p.same) (record { on = p.on; same = refl })

-- one row more is read and programmed
pub programmed-more : (n : ℕ) (old mid new : State) (was then now : Taking) (from feed to : Feed) (page : List ℕ) → n < length old.flash → row_of old n ≡ ones → length page ≡ 32 → AreWords page → Programmed n old was from mid then feed → Consumes then feed (words_bytes page) now to → Programs mid n page (Ok tt) new → Programmed (n + 1) old was from new now to
programmed-more n old mid new was then now from feed to page lt blank long words p read (on, is) =
    subst (λ (s : State). Programmed (n + 1) old was from s now to) (sym target) (record {
      on = p.on;
      same = refl;
      long = length-set mid.flash n page ∙ p.long;
      others = λ q le. get_or-set_other mid.flash n q page [] (omega arith) ∙ p.others q (omega arith);
      begun = ap up p.begun ∙ count-more n old.begun;
      bytes = subst (λ (bytes : List ℕ). Consumes was from bytes now to) (sym more) (consumes-both was then now from feed to (rows_bytes (take n mid.flash)) (words_bytes page) p.bytes read);
      size = ap length more ∙ (let before = p.size in omega (arith, length-append (rows_bytes (take n mid.flash)) (words_bytes page), length-words page));
    })
  where
    more : rows_bytes (take (n + 1) (set mid.flash n page)) ≡ rows_bytes (take n mid.flash) ++ words_bytes page
    more = let same = p.long in rows-more mid.flash n page (omega arith)

    holds : ands (row_of mid n) page ≡ page
    holds = ap (λ (row : List ℕ). ands row page) (p.others n (omega arith) ∙ blank) ∙ ands-ones 32 page long words

    target : new ≡ with_row (record old { flash = mid.flash; begun = mid.begun }) n page
    target = is ∙ ap (λ (row : List ℕ). with_row mid n row) holds ∙ ap (λ (s : State). with_row s n page) p.same

pub filled-none : (s : State) (t : Taking) (feed : Feed) → IsTrue s.on → IsWithin t → Filled 0 s t feed s t feed
filled-none s t feed on within = record {
  on = on;
  same = refl;
  long = refl;
  bytes = consumes-none t feed within;
  size = refl;
}

-- filling SRAM keeps power on and the sizes
pub filled-goes : (n : ℕ) (old new : State) (was now : Taking) (from to : Feed) → Filled n old was from new now to → Goes old new
filled-goes n old new was now from to f = subst (λ (s : State). Goes old s) (sym f.same) (record { on = f.on; same = refl })

-- one word more is read and put
pub filled-more : (n : ℕ) (old mid new : State) (was then now : Taking) (from feed to : Feed) (w : ℕ) → n < length old.sram → Filled n old was from mid then feed → Consumes then feed (word_bytes w) now to → Puts mid n w (Ok tt) new → Filled (n + 1) old was from new now to
filled-more n old mid new was then now from feed to w lt f read (on, is) =
    subst (λ (s : State). Filled (n + 1) old was from s now to) (sym (is ∙ ap (λ (s : State). with_word s n w) f.same)) (record {
      on = f.on;
      same = refl;
      long = length-set mid.sram n w ∙ f.long;
      bytes = subst (λ (bytes : List ℕ). Consumes was from bytes now to) (sym more) (consumes-both was then now from feed to (words_bytes (take n mid.sram)) (word_bytes w) f.bytes read);
      size = ap length more ∙ (let before = f.size in omega (arith, length-append (words_bytes (take n mid.sram)) (word_bytes w), length-word w));
    })
  where
    more : words_bytes (take (n + 1) (set mid.sram n w)) ≡ words_bytes (take n mid.sram) ++ word_bytes w
    more = let same = f.long in words-more mid.sram n w (omega arith)

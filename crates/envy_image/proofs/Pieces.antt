-- Words of SRAM that are written or read 32 at a time.
use Rattle.std.proofs.Common.{◌≡◌, ℕ, ◌+◌, ◌<◌, ◌≤◌, Bool, IsTrue, List, [], ◌∷◌, ◌++◌, length, take, drop, get_or, set, Ok, Err, refl, sym, ◌∙◌, ap, subst, arith, length-append}
use Rattle.std.proofs.lemmas.Bool.{false≢true}
use Rattle.std.proofs.lemmas.List.{append-nil, append_assoc, take_more, take_more_set, take_all, take-append-drop, length-take, length-drop, length-set}
use Rattle.std.proofs.Math.Seq.{take-append-add}
use Rattle.std.proofs.lemmas.Grind.{flat_map-append}
use Rattle.envy_base.specs.State.{State, Puts, with_word}
use Rattle.envy_io.specs.Streams.{Drain, Feed, WritesAll}
use Rattle.envy_io.specs.Taking.{Taking}
use Rattle.envy_image.specs.declared.writer.OutFault.{OutFault}
use Rattle.envy_image.specs.declared.writer.OutFault.TheVariants.{Off, Failed}
use Rattle.envy_image.specs.Image.{word_bytes, words_bytes}
use Rattle.envy_image.specs.Installing.{Goes, HasPut, Filled}
use Rattle.envy_image.specs.Reading.{Consumes}
use Rattle.envy_image.specs.Writing.{WritesOut}
use Rattle.envy_image.proofs.Consuming.{consumes-both}
use Rattle.envy_image.proofs.Joining.{written-more, written-failed}
use Rattle.envy_image.proofs.Programming.{length-words}

take-piece : (xs : List ℕ) (n k : ℕ) → n ≤ length xs → take (n + k) xs ≡ take n xs ++ take k (drop n xs)
take-piece xs n k fits =
    let at : n + k ≡ length (take n xs) + k = omega (arith, length-take n xs) in
    ap (take (n + k)) (sym (take-append-drop n xs)) ∙ (ap (λ (m : ℕ). take m (take n xs ++ drop n xs)) at ∙ take-append-add (take n xs) (drop n xs) k)

words-piece : (xs : List ℕ) (n k : ℕ) → n ≤ length xs → words_bytes (take (n + k) xs) ≡ words_bytes (take n xs) ++ words_bytes (take k (drop n xs))
words-piece xs n k fits = ap words_bytes (take-piece xs n k fits) ∙ flat_map-append word_bytes (take n xs) (take k (drop n xs))

words-all : (xs : List ℕ) (n k : ℕ) → words_bytes xs ≡ words_bytes (take n xs) ++ (words_bytes (take k (drop n xs)) ++ words_bytes (drop k (drop n xs)))
words-all xs n k =
    ap words_bytes (sym (take-append-drop n xs)) ∙ (flat_map-append word_bytes (take n xs) (drop n xs) ∙ ap (λ (r : List ℕ). words_bytes (take n xs) ++ r) (ap words_bytes (sym (take-append-drop k (drop n xs))) ∙ flat_map-append word_bytes (take k (drop n xs)) (drop k (drop n xs))))

-- a piece more is written
pub piece-more : (xs : List ℕ) (n next : ℕ) (old mid new : Drain) → next ≡ n + 32 → n ≤ length xs → WritesAll old (words_bytes (take n xs)) (Ok tt) mid → WritesAll mid (words_bytes (take 32 (drop n xs))) (Ok tt) new → WritesAll old (words_bytes (take next xs)) (Ok tt) new
piece-more xs n next old mid new is fits first second =
    subst (λ (bytes : List ℕ). WritesAll old bytes (Ok tt) new) (sym (ap (λ (m : ℕ). words_bytes (take m xs)) is ∙ words-piece xs n 32 fits)) (written-more _ _ old mid new first second)

-- a piece failed
pub piece-out : (xs : List ℕ) (n : ℕ) (on : Bool) (fault : OutFault) (old mid new : Drain) → IsTrue on → WritesAll old (words_bytes (take n xs)) (Ok tt) mid → WritesOut on mid (words_bytes (take 32 (drop n xs))) (Err fault) new → WritesOut on old (words_bytes xs) (Err fault) new
piece-out xs n on Off old mid new power first (dark, same) = absurd (false≢true (sym dark ∙ power))
piece-out xs n on Failed old mid new power first (_, failed, second) =
    (power, failed, subst (λ (bytes : List ℕ). WritesAll old bytes (Err failed) new) (sym (words-all xs n 32)) (written-failed _ _ (words_bytes (drop 32 (drop n xs))) failed old mid new first second))

pub put-none : (first : ℕ) (words : List ℕ) (s : State) → IsTrue s.on → HasPut first (take 0 words) s s
put-none first words s on = record {
  on = on;
  same = refl;
  long = refl;
  words_are = ap (λ (n : ℕ). take n s.sram) (omega arith) ∙ sym (append-nil (take first s.sram));
}

-- putting words keeps power on and the sizes
pub put-goes : (first : ℕ) (words : List ℕ) (old new : State) → HasPut first words old new → Goes old new
put-goes first words old new p = subst (λ (s : State). Goes old s) (sym p.same) (record { on = p.on; same = refl })

-- all words are put
pub put-all : (first n : ℕ) (words : List ℕ) (old new : State) → length words ≤ n → HasPut first (take n words) old new → HasPut first words old new
put-all first n words old new few p = subst (λ (ws : List ℕ). HasPut first ws old new) (take_all n words few) p

-- a word more is put
pub put-more : (first i w : ℕ) (words : List ℕ) (old mid new : State) → i < length words → first + length words ≤ length old.sram → w ≡ get_or words i 0 → HasPut first (take i words) old mid → Puts mid (first + i) w (Ok tt) new → HasPut first (take (i + 1) words) old new
put-more first i w words old mid new lt room word p (on, is) =
    subst (λ (s : State). HasPut first (take (i + 1) words) old s) (sym (is ∙ ap (λ (s : State). with_word s (first + i) w) p.same)) (record {
      on = p.on;
      same = refl;
      long = length-set mid.sram (first + i) w ∙ p.long;
      words_are = all-words;
    })
  where
    long-before : length (take i words) ≡ i
    long-before = omega (arith, length-take i words)

    before : take (first + i) mid.sram ≡ take first old.sram ++ take i words
    before = ap (λ (n : ℕ). take n mid.sram) (omega (arith, long-before)) ∙ p.words_are

    all-words : take (first + length (take (i + 1) words)) (set mid.sram (first + i) w) ≡ take first old.sram ++ take (i + 1) words
    all-words =
        ap (λ (n : ℕ). take n (set mid.sram (first + i) w)) (omega (arith, length-take (i + 1) words)) ∙ (take_more_set mid.sram (first + i) w (let long = p.long in omega arith) ∙ (ap (λ (xs : List ℕ). xs ++ w ∷ []) before ∙ (append_assoc (take first old.sram) (take i words) (w ∷ []) ∙ ap (λ (xs : List ℕ). take first old.sram ++ xs) (ap (λ (v : ℕ). take i words ++ v ∷ []) word ∙ sym (take_more words i 0 lt)))))

-- a piece more is filled
pub filled-piece : (n next : ℕ) (old mid new : State) (was then now : Taking) (from feed to : Feed) (words : List ℕ) → next ≡ n + 32 → length words ≡ 32 → Filled n old was from mid then feed → HasPut n words mid new → Consumes then feed (words_bytes words) now to → Filled next old was from new now to
filled-piece n next old mid new was then now from feed to words is long f p read = record {
  on = f.on;
  same = p.same ∙ ap (λ (s : State). record s { sram = new.sram }) f.same;
  long = p.long ∙ f.long;
  bytes = subst (λ (bytes : List ℕ). Consumes was from bytes now to) (sym more) (consumes-both was then now from feed to (words_bytes (take n mid.sram)) (words_bytes words) f.bytes read);
  size = ap length more ∙ (let before = f.size in omega (arith, length-append (words_bytes (take n mid.sram)) (words_bytes words), length-words words));
}
  where
    more : words_bytes (take next new.sram) ≡ words_bytes (take n mid.sram) ++ words_bytes words
    more =
        let at : next ≡ n + length words = omega arith in
        ap words_bytes (ap (λ (m : ℕ). take m new.sram) at ∙ p.words_are) ∙ flat_map-append word_bytes (take n mid.sram) words

pub piece-long : (xs : List ℕ) (n : ℕ) → n + 32 ≤ length xs → length (take 32 (drop n xs)) ≡ 32
piece-long xs n room = omega (arith, length-take 32 (drop n xs), length-drop n xs)

-- A word that is joined to the put or the run before it.
use Rattle.std.proofs.Common.{◌≡◌, ◌≢◌, ℕ, zero, suc, ◌+◌, ◌*◌, ◌^◌, ◌<◌, ◌≤◌, true, List, [], ◌∷◌, ◌++◌, length, get_or, take, drop, set, refl, sym, ◌∙◌, ap, subst, arith, append_assoc, length-append, length-drop, length-take, take-append-drop}
use Rattle.std.proofs.lemmas.Bool.{false≢true}
use Rattle.std.proofs.lemmas.List.{take_at, drop_at, take_all, take-take, take-append-le, drop-append-le, take-set, drop-set-lt, drop_more, get_or-set_same, length-set}
use Rattle.std.proofs.lemmas.Nat.{from_le_bytes-to_le_bytes_8}
use Rattle.std.proofs.Math.Seq.{take-add}
use Rattle.std.specs.Int.{w32, w64, from_le_bytes}
use Rattle.envy_journal.specs.declared.operation.Operation.{Operation}
use Rattle.envy_journal.specs.declared.operation.Operation.TheVariants.{Put}
use Rattle.envy_journal.specs.Joining.{Gains, IsLengthened, IsNext, words_at}
use Rattle.envy_journal.specs.Reading.{are_operations, behind_tag, breaks_off, bytes_of, puts, reading, word_bytes, words_in, Leads}
use Rattle.envy_journal.proofs.Counting.{not_mark, one_operation, operations_both}
use Rattle.envy_journal.proofs.Idle.{has_front, rest_over, some_behind}
use Rattle.envy_journal.proofs.Parsed.{breaks_over, leads_both, leads_to, puts_leads, skipped}
use Rattle.envy_journal.proofs.Words.{behind_words, puts_front, puts_one, puts_split, words_more}
use Rattle.envy_journal.proofs.Written.{put_read}

not_five : (tag : ℕ) → behind_tag tag ≢ 0 → tag ≢ 5
unfolding behind_tag words_in
not_five tag some is = some (ap behind_tag is)

-- Whole operations are read, and then what follows them.
step : (tag k : ℕ) (l x : List ℕ) (p : List Operation) → Leads true 0 (tag ∷ take k l) p true → k ≤ length l → reading true k (l ++ x) ≡ reading true k l ++ reading true 0 x → reading true 0 (tag ∷ l ++ x) ≡ reading true 0 (tag ∷ l) ++ reading true 0 x
step tag k l x p leads le behind =
    let all : l ++ x ≡ take k l ++ (drop k l ++ x) = ap (λ (m : List ℕ). m ++ x) (sym (take-append-drop k l)) ∙ append_assoc (take k l) (drop k l) x in
    let rest : reading true 0 (drop k l ++ x) ≡ reading true 0 (drop k l) ++ reading true 0 x =
    ap (λ (m : List ℕ). reading true 0 m) (sym (drop-append-le k l x le)) ∙ sym (skipped true k (l ++ x)) ∙ behind ∙ ap (λ (q : List Operation). q ++ reading true 0 x) (skipped true k l) in
    let first : reading true 0 (tag ∷ l) ≡ p ++ reading true 0 (drop k l) = ap (λ (m : List ℕ). reading true 0 (tag ∷ m)) (sym (take-append-drop k l)) ∙ leads.goes_on (drop k l) in
    ap (λ (m : List ℕ). reading true 0 (tag ∷ m)) all
    ∙ leads.goes_on (drop k l ++ x)
    ∙ ap (λ (q : List Operation). p ++ q) rest
    ∙ sym (append_assoc p (reading true 0 (drop k l)) (reading true 0 x))
    ∙ ap (λ (q : List Operation). q ++ reading true 0 x) (sym first)

reads_on : (skip : ℕ) (l x : List ℕ) → are_operations skip l ≡ true → reading true skip (l ++ x) ≡ reading true skip l ++ reading true 0 x
unfolding are_operations reading
reads_on zero [] x is = refl
reads_on (suc skip) [] x is = absurd (false≢true is)
reads_on (suc skip) (byte ∷ l) x is = reads_on skip l x is
reads_on zero (tag ∷ l) x is =
    let front = has_front tag l is in
    step tag (behind_tag tag) l x front.read front.leads front.fits (reads_on (behind_tag tag) l x (rest_over tag l is))

breaks_on : (skip : ℕ) (l x : List ℕ) → are_operations skip l ≡ true → breaks_off true skip (l ++ x) ≡ breaks_off true 0 x
unfolding are_operations breaks_off
breaks_on zero [] x is = refl
breaks_on (suc skip) [] x is = absurd (false≢true is)
breaks_on (suc skip) (byte ∷ l) x is = breaks_on skip l x is
breaks_on zero (tag ∷ l) x is =
    let some = some_behind tag l is in
    breaks_over tag (l ++ x) (not_five tag some) (not_mark tag some) some ∙ breaks_on (behind_tag tag) l x (rest_over tag l is)

pub operations_lead : (l : List ℕ) → are_operations 0 l ≡ true → Leads true 0 l (reading true 0 l) true
operations_lead l is = record { goes_on = λ x. reads_on 0 l x is; breaks_on = λ x. breaks_on 0 l x is }

-- A run behind whole operations, and one more word.
module _ (front part : List ℕ) (t n w v : ℕ) (is : are_operations 0 front ≡ true) (words : words_in t ≡ n) (some : 1 ≤ n) (few : n < 64) (long : length part ≡ 4 + 8 * n) (place : from_le_bytes w32 (take 4 part) + n ≡ w) (small : v < 2 ^ 64) where
  abbrev first : ℕ
  first = from_le_bytes w32 (take 4 part)

  abbrev run : List Operation
  run = puts first n (drop 4 part)

  abbrev longer : List ℕ
  longer = part ++ word_bytes v

  longer_length : length longer ≡ 4 + 8 * (n + 1)
  longer_length = let eight : length (word_bytes v) ≡ 8 = refl in omega (arith, length-append part (word_bytes v), long, eight)

  tagged : words_in (129 + n) ≡ n + 1
  tagged = words_more n some few

  behind_length : length (drop 4 part) ≡ 8 * n
  behind_length = omega (arith, length-drop 4 part, long)

  last_word : puts (first + n) 1 (word_bytes v) ≡ Put w v ∷ []
  last_word =
      puts_one (first + n) (word_bytes v)
      ∙ ap (λ (k : ℕ). Put k (from_le_bytes w64 (take 8 (word_bytes v))) ∷ []) place
      ∙ ap (λ (l : List ℕ). Put w (from_le_bytes w64 l) ∷ []) (take_all 8 (word_bytes v) (omega arith))
      ∙ ap (λ (k : ℕ). Put w k ∷ []) (from_le_bytes-to_le_bytes_8 v small)

  longer_run : puts (from_le_bytes w32 (take 4 longer)) (n + 1) (drop 4 longer) ≡ run ++ Put w v ∷ []
  longer_run =
      ap (λ (l : List ℕ). puts (from_le_bytes w32 l) (n + 1) (drop 4 longer)) (take-append-le 4 part (word_bytes v) (omega (arith, long)))
      ∙ ap (λ (l : List ℕ). puts first (n + 1) l) (drop-append-le 4 part (word_bytes v) (omega (arith, long)))
      ∙ puts_split n 1 first (drop 4 part ++ word_bytes v)
      ∙ ap (λ (p : List Operation). p ++ puts (first + n) 1 (drop (8 * n) (drop 4 part ++ word_bytes v))) (puts_front n first (drop 4 part) (word_bytes v) (omega (arith, behind_length)))
      ∙ ap (λ (l : List ℕ). run ++ puts (first + n) 1 l) (drop_at (drop 4 part) (word_bytes v) (8 * n) behind_length)
      ∙ ap (λ (p : List Operation). run ++ p) last_word

  longer_leads : Leads true 0 ((129 + n) ∷ longer) (run ++ Put w v ∷ []) true
  longer_leads = subst (λ (p : List Operation). Leads true 0 ((129 + n) ∷ longer) p true) longer_run (puts_leads longer (129 + n) (n + 1) tagged (λ none. omega (arith, none)) longer_length)

  shorter : (p : List Operation) → Leads true 0 (front ++ t ∷ part) p true → p ≡ reading true 0 front ++ run
  shorter p leads =
      sym (leads_to true true 0 (front ++ t ∷ part) p leads)
      ∙ leads_to true true 0 (front ++ t ∷ part) (reading true 0 front ++ run) (leads_both true true true 0 front (t ∷ part) (reading true 0 front) run (operations_lead front is) (puts_leads part t n words (λ none. omega (arith, none, some)) long))

  pub joined_gains : Gains (Put w v) (front ++ t ∷ part) (front ++ (129 + n) ∷ longer)
  joined_gains = record {
    reads = λ p leads.
        subst (λ (q : List Operation). Leads true 0 (front ++ (129 + n) ∷ longer) q true) (sym (append_assoc (reading true 0 front) run (Put w v ∷ [])) ∙ ap (λ (q : List Operation). q ++ Put w v ∷ []) (sym (shorter p leads)))
        (leads_both true true true 0 front ((129 + n) ∷ longer) (reading true 0 front) (run ++ Put w v ∷ []) (operations_lead front is) longer_leads);
    size = let alone : length (bytes_of (Put w v)) ≡ 13 = refl in omega (arith, length-append front (t ∷ part), length-append front ((129 + n) ∷ longer), longer_length, long, alone);
  }

  pub joined_whole : are_operations 0 (front ++ (129 + n) ∷ longer) ≡ true
  joined_whole =
      let any : words_in (129 + n) ≢ 0 = λ none. omega (arith, none, tagged) in
      let behind : behind_tag (129 + n) ≡ 4 + 8 * (n + 1) = behind_words (129 + n) any ∙ ap (λ (k : ℕ). 4 + 8 * k) tagged in
      operations_both 0 front ((129 + n) ∷ longer) is (one_operation (129 + n) longer (λ none. omega (arith, none, behind)) (longer_length ∙ sym behind))

-- a put whose bytes are added
pub added_gains : (w v : ℕ) (old new : List ℕ) → w < 2 ^ 32 → v < 2 ^ 64 → new ≡ old ++ bytes_of (Put w v) → Gains (Put w v) old new
added_gains w v old new small word is = record {
  reads = λ p leads. subst (λ (l : List ℕ). Leads true 0 l (p ++ Put w v ∷ []) true) (sym is) (leads_both true true true 0 old (bytes_of (Put w v)) p (Put w v ∷ []) leads (put_read w v small word));
  size = omega (arith, ap length is, length-append old (bytes_of (Put w v)));
}

-- bytes behind the first leave them
pub front_stays : (used n : ℕ) (was now bytes : List ℕ) → used ≤ length was → take (used + n) now ≡ take used was ++ bytes → take used now ≡ take used was
front_stays used n was now bytes le is =
    sym (take-take used (used + n) now (omega arith)) ∙ ap (λ (l : List ℕ). take used l) is ∙ take_at (take used was) bytes used (omega (arith, length-take {A = ℕ}, le))

-- The same in a buffer.
pub run_in : (buffer : List ℕ) (at n : ℕ) → at + 5 + 8 * n ≤ length buffer → take (at + 5 + 8 * n) buffer ≡ take at buffer ++ get_or buffer at 0 ∷ take (4 + 8 * n) (drop (at + 1) buffer)
run_in buffer at n fits =
    ap (λ (k : ℕ). take k buffer) {x = at + 5 + 8 * n} {y = at + suc (4 + 8 * n)} (omega arith)
    ∙ take-add at (suc (4 + 8 * n)) buffer
    ∙ ap (λ (l : List ℕ). take at buffer ++ take (suc (4 + 8 * n)) l) (drop_more buffer at 0 (omega (arith, fits)))

-- once its tag is another
pub run_tagged : (buffer : List ℕ) (at n tag : ℕ) → at + 5 + 8 * n ≤ length buffer → take (at + 5 + 8 * n) (set buffer at tag) ≡ take at buffer ++ tag ∷ take (4 + 8 * n) (drop (at + 1) buffer)
run_tagged buffer at n tag fits =
    let within : at < length buffer = omega (arith, fits) in
    let same : length (set buffer at tag) ≡ length buffer = length-set buffer at tag in
    run_in (set buffer at tag) at n (omega (arith, fits, same))
    ∙ ap (λ (l : List ℕ). l ++ get_or (set buffer at tag) at 0 ∷ take (4 + 8 * n) (drop (at + 1) (set buffer at tag))) (take-set buffer at tag)
    ∙ ap (λ (k : ℕ). take at buffer ++ k ∷ take (4 + 8 * n) (drop (at + 1) (set buffer at tag))) (get_or-set_same buffer at tag 0 within)
    ∙ ap (λ (l : List ℕ). take at buffer ++ tag ∷ take (4 + 8 * n) l) (drop-set-lt (at + 1) buffer at tag (omega arith))

-- and a word is written behind it
pub word_joined : (buffer now : List ℕ) (at used w v n : ℕ) → IsNext w at used buffer → used ≤ length buffer → n ≡ words_at at buffer → take (used + 8) now ≡ take used (set buffer at (129 + n)) ++ word_bytes v → IsLengthened at used v buffer now
word_joined buffer now at used w v n next le is wrote =
    let k = words_at at buffer in
    let part = take (4 + 8 * k) (drop (at + 1) buffer) in
    let last = next.last in
    record {
      written =
          wrote
          ∙ ap (λ (m : ℕ). take used (set buffer at (129 + m)) ++ word_bytes v) is
          ∙ ap (λ (m : ℕ). take m (set buffer at (129 + k)) ++ word_bytes v) last
          ∙ ap (λ (l : List ℕ). l ++ word_bytes v) (run_tagged buffer at k (129 + k) (omega (arith, last, le)))
          ∙ append_assoc (take at buffer) ((129 + k) ∷ part) (word_bytes v);
    }

-- So what a log holds gains the put.
module _ (front old new : List ℕ) (at used w v : ℕ) (next : IsNext w at used old) (fits : used ≤ length old) (longer : IsLengthened at used v old new) (whole : are_operations 0 (front ++ take at old) ≡ true) (small : v < 2 ^ 64) where
  abbrev k : ℕ
  k = words_at at old

  abbrev part : List ℕ
  part = take (4 + 8 * k) (drop (at + 1) old)

  enough : at + 5 + 8 * k ≤ length old
  enough = let last = next.last in omega (arith, last, fits)

  part_long : length part ≡ 4 + 8 * k
  part_long = omega (arith, length-take {A = ℕ}, length-drop (at + 1) old, enough)

  part_place : from_le_bytes w32 (take 4 part) + k ≡ w
  part_place = ap (λ (l : List ℕ). from_le_bytes w32 l + k) (take-take 4 (4 + 8 * k) (drop (at + 1) old) (omega arith)) ∙ next.place

  before : front ++ take used old ≡ (front ++ take at old) ++ get_or old at 0 ∷ part
  before =
      ap (λ (m : ℕ). front ++ take m old) next.last
      ∙ ap (λ (l : List ℕ). front ++ l) (run_in old at k enough)
      ∙ sym (append_assoc front (take at old) (get_or old at 0 ∷ part))

  behind : front ++ take (used + 8) new ≡ (front ++ take at old) ++ (129 + k) ∷ (part ++ word_bytes v)
  behind = ap (λ (l : List ℕ). front ++ l) longer.written ∙ sym (append_assoc front (take at old) ((129 + k) ∷ (part ++ word_bytes v)))

  pub buffer_gains : Gains (Put w v) (front ++ take used old) (front ++ take (used + 8) new)
  buffer_gains =
      subst (λ (l : List ℕ). Gains (Put w v) l (front ++ take (used + 8) new)) (sym before)
      (subst (λ (l : List ℕ). Gains (Put w v) ((front ++ take at old) ++ get_or old at 0 ∷ part) l) (sym behind)
      (joined_gains (front ++ take at old) part (get_or old at 0) k w v whole refl next.some next.few part_long part_place small))

  pub buffer_whole : are_operations 0 (front ++ take (used + 8) new) ≡ true
  buffer_whole = ap (λ (l : List ℕ). are_operations 0 l) behind ∙ joined_whole (front ++ take at old) part (get_or old at 0) k w v whole refl next.some next.few part_long part_place small

  -- and the run begins where it did
  pub buffer_front : take at new ≡ take at old
  buffer_front =
      let last = next.last in
      sym (take-take at (used + 8) new (omega (arith, last)))
      ∙ ap (λ (l : List ℕ). take at l) longer.written
      ∙ take_at (take at old) ((129 + k) ∷ (part ++ word_bytes v)) at (omega (arith, length-take {A = ℕ}, enough))

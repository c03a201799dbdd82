-- Tags of puts, and puts in a row.
use Rattle.std.proofs.Common.{◌≡◌, ◌≢◌, ℕ, zero, suc, ◌+◌, ◌-◌, ◌*◌, ◌<◌, ◌≤◌, ◌==◌, nat_lt, true, false, List, [], ◌∷◌, ◌++◌, length, take, drop, refl, sym, ◌∙◌, ap, subst, arith, length-drop}
use Rattle.std.proofs.lemmas.Bool.{cond-true, cond-false, eq-eqb, ne_eqb, le-ltb}
use Rattle.std.proofs.lemmas.List.{drop-append-le, take-append-le, drop-drop}
use Rattle.std.specs.Int.{w64, from_le_bytes}
use Rattle.std.specs.List.{Contains}
use Rattle.std.proofs.lemmas.List.Elements.{Contains-append_left, Contains-append_right}
use Rattle.envy_journal.specs.declared.operation.Operation.{Operation}
use Rattle.envy_journal.specs.declared.operation.Operation.TheVariants.{Put}
use Rattle.envy_journal.specs.Reading.{behind_tag, puts, words_in}

-- a tag of puts is none of the others
pub not_stop : (tag : ℕ) → words_in tag ≢ 0 → tag ≢ 5
unfolding words_in
not_stop tag some is = some (ap words_in is)

pub not_total : (tag : ℕ) → words_in tag ≢ 0 → tag ≢ 7
unfolding words_in
not_total tag some is = some (ap words_in is)

pub not_program : (tag : ℕ) → words_in tag ≢ 0 → tag ≢ 2
unfolding words_in
not_program tag some is = some (ap words_in is)

pub not_erase : (tag : ℕ) → words_in tag ≢ 0 → tag ≢ 3
unfolding words_in
not_erase tag some is = some (ap words_in is)

-- how many words a tag puts
pub words_one : words_in 1 ≡ 1
unfolding words_in
words_one = refl

pub words_put : (tag : ℕ) → tag ≡ 1 → words_in tag ≡ 1
unfolding words_in
words_put tag is = ap words_in is

pub words_low : (tag : ℕ) → tag ≢ 1 → nat_lt tag 130 ≡ true → words_in tag ≡ 0
unfolding words_in
words_low tag one low = cond-false (tag == 1) 1 _ (ne_eqb tag 1 one) ∙ cond-true (nat_lt tag 130) 0 _ low

pub words_high : (tag : ℕ) → tag ≢ 1 → nat_lt tag 130 ≡ false → nat_lt 192 tag ≡ true → words_in tag ≡ 0
unfolding words_in
words_high tag one low high = cond-false (tag == 1) 1 _ (ne_eqb tag 1 one) ∙ cond-false (nat_lt tag 130) 0 _ low ∙ cond-true (nat_lt 192 tag) 0 _ high

pub words_run : (tag : ℕ) → tag ≢ 1 → nat_lt tag 130 ≡ false → nat_lt 192 tag ≡ false → words_in tag ≡ tag - 128
unfolding words_in
words_run tag one low high = cond-false (tag == 1) 1 _ (ne_eqb tag 1 one) ∙ cond-false (nat_lt tag 130) 0 _ low ∙ cond-false (nat_lt 192 tag) 0 _ high

-- a run of one word more
pub words_more : (n : ℕ) → 1 ≤ n → n < 64 → words_in (129 + n) ≡ n + 1
words_more n some few =
    words_run (129 + n) (λ is. omega (arith, is, some)) (le-ltb (129 + n) 130 (omega (arith, some))) (le-ltb 192 (129 + n) (omega (arith, few))) ∙ omega arith

-- how many bytes follow a tag
pub behind_words : (tag : ℕ) → words_in tag ≢ 0 → behind_tag tag ≡ 4 + 8 * words_in tag
unfolding behind_tag
behind_words tag some =
    cond-false (tag == 2) 260 _ (ne_eqb tag 2 (not_program tag some)) ∙ cond-false (tag == 3) 4 _ (ne_eqb tag 3 (not_erase tag some))
    ∙ cond-false (words_in tag == 0) 0 (4 + 8 * words_in tag) (ne_eqb (words_in tag) 0 some)

pub behind_program : (tag : ℕ) → tag ≡ 2 → behind_tag tag ≡ 260
unfolding behind_tag
behind_program tag is = ap behind_tag is

pub behind_erase : (tag : ℕ) → tag ≡ 3 → behind_tag tag ≡ 4
unfolding behind_tag
behind_erase tag is = ap behind_tag is

pub behind_other : (tag : ℕ) → words_in tag ≡ 0 → tag ≢ 2 → tag ≢ 3 → behind_tag tag ≡ 0
unfolding behind_tag
behind_other tag none program erase =
    cond-false (tag == 2) 260 _ (ne_eqb tag 2 program) ∙ cond-false (tag == 3) 4 _ (ne_eqb tag 3 erase) ∙ cond-true (words_in tag == 0) 0 (4 + 8 * words_in tag) (eq-eqb (words_in tag) 0 none)

-- the puts of a run stand in so many of its bytes
pub puts_front : (n w : ℕ) (part rest : List ℕ) → 8 * n ≤ length part → puts w n (part ++ rest) ≡ puts w n part
unfolding puts
puts_front zero w part rest le = refl
puts_front (suc n) w part rest le =
    ap (λ (l : List ℕ). Put w (from_le_bytes w64 l) ∷ puts (suc w) n (drop 8 (part ++ rest))) (take-append-le 8 part rest (omega (arith, le)))
    ∙ ap (λ (l : List Operation). Put w (from_le_bytes w64 (take 8 part)) ∷ l)
    (ap (λ (l : List ℕ). puts (suc w) n l) (drop-append-le 8 part rest (omega (arith, le))) ∙ puts_front n (suc w) (drop 8 part) rest (omega (arith, le, length-drop 8 part)))

-- they are the first ones, and then the others
pub puts_split : (n m w : ℕ) (bytes : List ℕ) → puts w (n + m) bytes ≡ puts w n bytes ++ puts (w + n) m (drop (8 * n) bytes)
unfolding puts
puts_split zero m w bytes = ap (λ (k : ℕ). puts w k bytes) {x = 0 + m} {y = m} (omega arith) ∙ ap (λ (k : ℕ). puts k m bytes) {x = w} {y = w + 0} (omega arith)
puts_split (suc n) m w bytes =
    ap (λ (k : ℕ). puts w k bytes) {x = suc n + m} {y = suc (n + m)} (omega arith)
    ∙ ap (λ (l : List Operation). Put w (from_le_bytes w64 (take 8 bytes)) ∷ l)
    (puts_split n m (suc w) (drop 8 bytes)
    ∙ ap (λ (k : ℕ). puts (suc w) n (drop 8 bytes) ++ puts k m (drop (8 * n) (drop 8 bytes))) {x = suc w + n} {y = w + suc n} (omega arith)
    ∙ ap (λ (l : List ℕ). puts (suc w) n (drop 8 bytes) ++ puts (w + suc n) m l) (drop-drop (8 * n) 8 bytes ∙ ap (λ (k : ℕ). drop k bytes) {x = 8 + 8 * n} {y = 8 * suc n} (omega arith)))

pub puts_long : (n w : ℕ) (bytes : List ℕ) → length (puts w n bytes) ≡ n
unfolding puts
puts_long zero w bytes = refl
puts_long (suc n) w bytes = ap suc (puts_long n (suc w) (drop 8 bytes))

-- one more
pub puts_one : (w : ℕ) (bytes : List ℕ) → puts w 1 bytes ≡ Put w (from_le_bytes w64 (take 8 bytes)) ∷ []
unfolding puts
puts_one w bytes = refl

-- one more put of a run
pub puts_next : (w n : ℕ) (bytes : List ℕ) (v : ℕ) → v ≡ from_le_bytes w64 (take 8 (drop (5 + 8 * n) bytes)) → puts w (n + 1) (drop 5 bytes) ≡ puts w n (drop 5 bytes) ++ Put (w + n) v ∷ []
puts_next w n bytes v is =
    puts_split n 1 w (drop 5 bytes)
    ∙ ap (λ (p : List Operation). puts w n (drop 5 bytes) ++ p) (puts_one (w + n) (drop (8 * n) (drop 5 bytes)))
    ∙ ap (λ (k : ℕ). puts w n (drop 5 bytes) ++ Put (w + n) k ∷ []) (ap (λ (l : List ℕ). from_le_bytes w64 (take 8 l)) (drop-drop (8 * n) 5 bytes) ∙ sym is)

-- which is one of its puts
pub put_in : (w n count : ℕ) (bytes : List ℕ) (v : ℕ) → n < count → v ≡ from_le_bytes w64 (take 8 (drop (5 + 8 * n) bytes)) → Contains (puts w count (drop 5 bytes)) (Put (w + n) v)
put_in w n count bytes v lt is =
    let more = count - (n + 1) in
    let split : puts w count (drop 5 bytes) ≡ (puts w n (drop 5 bytes) ++ Put (w + n) v ∷ []) ++ puts (w + (n + 1)) more (drop (8 * (n + 1)) (drop 5 bytes)) =
    ap (λ (k : ℕ). puts w k (drop 5 bytes)) {x = count} {y = n + 1 + more} (omega (arith, lt))
    ∙ puts_split (n + 1) more w (drop 5 bytes)
    ∙ ap (λ (p : List Operation). p ++ puts (w + (n + 1)) more (drop (8 * (n + 1)) (drop 5 bytes))) (puts_next w n bytes v is) in
    subst (λ (p : List Operation). Contains p (Put (w + n) v)) (sym split)
    (Contains-append_left (puts w n (drop 5 bytes) ++ Put (w + n) v ∷ []) (puts (w + (n + 1)) more (drop (8 * (n + 1)) (drop 5 bytes))) (Put (w + n) v)
    (Contains-append_right (puts w n (drop 5 bytes)) (Put (w + n) v ∷ []) (Put (w + n) v) (0, omega arith, refl)))

pub puts_none : (w : ℕ) (bytes : List ℕ) → puts w 0 bytes ≡ []
unfolding puts
puts_none w bytes = refl

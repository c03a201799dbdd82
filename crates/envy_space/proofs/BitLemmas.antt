-- Flags as the bits of words, and the lowest and the highest of a run.
use Rattle.std.proofs.Common.{◌≡◌, ◌≢◌, ◌⊎◌, inl, inr, ℕ, ◌+◌, ◌-◌, ◌*◌, ◌/◌, ◌%◌, ◌^◌, ◌<◌, ◌≤◌, List, length, get_or, set, Option, None, Some, sym, ◌∙◌, ap, arith}
use Rattle.std.specs.Prelude.{replicate}
use Rattle.std.specs.Int.{bit_at}
use Rattle.std.proofs.lemmas.Bool.{cases_lt, cases_eq}
use Rattle.std.proofs.lemmas.Nat.Bits.{bit_at-zero}
use Rattle.std.proofs.lemmas.List.{ext_get_or, length-set, get_or-set_same, get_or-set_other, get_or_past, length-replicate, get_or-replicate}
use Rattle.std.proofs.lemmas.List.FromFn.{get_or-map-range_with_len, length-map-range_with_len}
use Rattle.envy_space.specs.Bits.{IsTurned, AreBits, bit_of, bits_of}
use Rattle.envy_space.specs.Winners.{IsLowest, IsHighest, Lowest, Highest, flag}

-- ---- flags are bits

pub length-bits : (n : ℕ) (words : List ℕ) → length (bits_of n words) ≡ n
length-bits n words = length-map-range_with_len (bit_of words) 0 n

pub flag-bit : (n top : ℕ) (words : List ℕ) → AreBits n top words → (k : ℕ) → get_or (bits_of n words) k 0 ≡ bit_of words k
flag-bit n top words are k = at (cases_lt k n)
  where
    at : (k < n) ⊎ (n ≤ k) → get_or (bits_of n words) k 0 ≡ bit_of words k
    at (inl lt) = get_or-map-range_with_len (bit_of words) 0 n k k 0 lt (omega arith)
    at (inr ge) = get_or_past (bits_of n words) k 0 (let long = length-bits n words in omega arith) ∙ sym (are.none k ge)

-- as a list of flags has them
pub seen-long : (n : ℕ) (words flags : List ℕ) → bits_of n words ≡ flags → length flags ≡ n
seen-long n words flags view = ap length (sym view) ∙ length-bits n words

pub seen : (n top : ℕ) (words flags : List ℕ) → AreBits n top words → bits_of n words ≡ flags → (k : ℕ) → bit_of words k ≡ get_or flags k 0
seen n top words flags are view k = sym (flag-bit n top words are k) ∙ ap (λ (xs : List ℕ). get_or xs k 0) view

-- the bits of a word
bit-in : (words : List ℕ) (b j : ℕ) → 64 * b ≤ j → j < 64 * b + 64 → bit_of words j ≡ bit_at (get_or words b 0) (j - 64 * b)
bit-in words b j low high =
    let q : j / 64 ≡ b = omega arith in
    let m : j % 64 ≡ j - 64 * b = omega arith in
    (λ t. bit_at (get_or words (q t) 0) (m t))

-- a word that top doesn't tell of has no bit, and one that it tells of has some
none-top : (n top : ℕ) (words : List ℕ) → AreBits n top words → (b j : ℕ) → b < 64 → bit_at top b ≡ 0 → 64 * b ≤ j → j < 64 * b + 64 → bit_of words j ≡ 0
none-top n top words are b j within none low high =
    let tells = are.tops b within in
    let empty : get_or words b 0 ≡ 0 = omega arith in
    bit-in words b j low high ∙ ap (λ (m : ℕ). bit_at m (j - 64 * b)) empty ∙ bit_at-zero (j - 64 * b)

pub some-top : (n top : ℕ) (words : List ℕ) → AreBits n top words → (b : ℕ) → b < 64 → 0 < bit_at top b → 0 < get_or words b 0
some-top n top words are b within some = let tells = are.tops b within in omega arith

-- ---- the lowest

pub Lowest-same : (f g : ℕ → ℕ) (first end : ℕ) (answer : Option ℕ) → ((k : ℕ) → f k ≡ g k) → Lowest f first end answer → Lowest g first end answer
Lowest-same f g first end None same lowest = λ j low high. sym (same j) ∙ lowest j low high
Lowest-same f g first end (Some k) same lowest = record {
  above = lowest.above;
  below = lowest.below;
  some = let here = same k in let some = lowest.some in omega arith;
  none = λ j low high. sym (same j) ∙ lowest.none j low high;
}

-- the lowest of a run that ends elsewhere
pub IsLowest-cut : (f : ℕ → ℕ) (first mid end k : ℕ) → IsLowest f first mid k → k < end → IsLowest f first end k
IsLowest-cut f first mid end k lowest lt = record { above = lowest.above; below = lt; some = lowest.some; none = lowest.none }

-- among the bits of one word
pub IsLowest-word : (words : List ℕ) (first i : ℕ) → IsLowest (bit_at (get_or words (first / 64) 0)) (first % 64) 64 i → IsLowest (bit_of words) first (64 * (first / 64) + 64) (64 * (first / 64) + i)
IsLowest-word words first i lowest =
    let above = lowest.above in
    let below = lowest.below in
    let some = lowest.some in
    let here = bit-in words (first / 64) (64 * (first / 64) + i) (omega arith) (omega arith) in
    let at : 64 * (first / 64) + i - 64 * (first / 64) ≡ i = omega arith in
    let same : bit_of words (64 * (first / 64) + i) ≡ bit_at (get_or words (first / 64) 0) i = here ∙ ap (bit_at (get_or words (first / 64) 0)) at in
    record {
      above = omega arith;
      below = omega arith;
      some = omega arith;
      none = λ j low high. bit-in words (first / 64) j (omega arith) (omega arith) ∙ lowest.none (j - 64 * (first / 64)) (omega arith) (omega arith);
    }

-- a word that has none from the first on
pub Lowest-next : (words : List ℕ) (first end : ℕ) (answer : Option ℕ) → ((j : ℕ) → first % 64 ≤ j → j < 64 → bit_at (get_or words (first / 64) 0) j ≡ 0)
    → Lowest (bit_of words) (64 * (first / 64 + 1)) end answer → Lowest (bit_of words) first end answer
Lowest-next words first end None none rest = λ j low high. at j low high (cases_lt j (64 * (first / 64 + 1)))
  where
    at : (j : ℕ) → first ≤ j → j < end → (j < 64 * (first / 64 + 1)) ⊎ (64 * (first / 64 + 1) ≤ j) → bit_of words j ≡ 0
    at j low high (inl lt) = bit-in words (first / 64) j (omega arith) (omega arith) ∙ none (j - 64 * (first / 64)) (omega arith) (omega arith)
    at j low high (inr ge) = rest j ge high
Lowest-next words first end (Some k) none rest =
    let above = rest.above in
    record {
      above = omega arith;
      below = rest.below;
      some = rest.some;
      none = λ j low high. at j low high (cases_lt j (64 * (first / 64 + 1)));
    }
  where
    at : (j : ℕ) → first ≤ j → j < k → (j < 64 * (first / 64 + 1)) ⊎ (64 * (first / 64 + 1) ≤ j) → bit_of words j ≡ 0
    at j low high (inl lt) = bit-in words (first / 64) j (omega arith) (omega arith) ∙ none (j - 64 * (first / 64)) (omega arith) (omega arith)
    at j low high (inr ge) = rest.none j ge high

-- words that have none
pub Lowest-none : (n top : ℕ) (words : List ℕ) → AreBits n top words → (word end : ℕ) → end ≤ n → ((b : ℕ) → word ≤ b → b < 64 → bit_at top b ≡ 0) → (j : ℕ) → 64 * word ≤ j → j < end → bit_of words j ≡ 0
Lowest-none n top words are word end within none j low high =
    let few = are.few in
    none-top n top words are (j / 64) j (omega arith) (none (j / 64) (omega arith) (omega arith)) (omega arith) (omega arith)

-- the lowest word that has one, and its lowest bit
pub IsLowest-words : (n top : ℕ) (words : List ℕ) → AreBits n top words → (word next i : ℕ) → IsLowest (bit_at top) word 64 next → IsLowest (bit_at (get_or words next 0)) 0 64 i → IsLowest (bit_of words) (64 * word) (64 * next + 64) (64 * next + i)
IsLowest-words n top words are word next i lowest inner =
    let above = lowest.above in
    let below = lowest.below in
    let inside = inner.below in
    let some = inner.some in
    let here = bit-in words next (64 * next + i) (omega arith) (omega arith) in
    let at : 64 * next + i - 64 * next ≡ i = omega arith in
    let same : bit_of words (64 * next + i) ≡ bit_at (get_or words next 0) i = here ∙ ap (bit_at (get_or words next 0)) at in
    record {
      above = omega arith;
      below = omega arith;
      some = omega arith;
      none = λ j low high. none j low high (cases_lt j (64 * next));
    }
  where
    none : (j : ℕ) → 64 * word ≤ j → j < 64 * next + i → (j < 64 * next) ⊎ (64 * next ≤ j) → bit_of words j ≡ 0
    none j low high (inl lt) =
        let below = lowest.below in
        none-top n top words are (j / 64) j (omega arith) (lowest.none (j / 64) (omega arith) (omega arith)) (omega arith) (omega arith)
    none j low high (inr ge) = let inside = inner.below in bit-in words next j ge (omega arith) ∙ inner.none (j - 64 * next) (omega arith) (omega arith)

-- ---- the highest

pub Highest-same : (f g : ℕ → ℕ) (first end : ℕ) (answer : Option ℕ) → ((k : ℕ) → f k ≡ g k) → Highest f first end answer → Highest g first end answer
Highest-same f g first end None same highest = λ j low high. sym (same j) ∙ highest j low high
Highest-same f g first end (Some k) same highest = record {
  above = highest.above;
  below = highest.below;
  some = let here = same k in let some = highest.some in omega arith;
  none = λ j low high. sym (same j) ∙ highest.none j low high;
}

pub IsHighest-cut : (f : ℕ → ℕ) (mid first end k : ℕ) → IsHighest f mid end k → first ≤ k → IsHighest f first end k
IsHighest-cut f mid first end k highest le = record { above = le; below = highest.below; some = highest.some; none = highest.none }

pub IsHighest-word : (words : List ℕ) (end i : ℕ) → 0 < end → IsHighest (bit_at (get_or words ((end - 1) / 64) 0)) 0 ((end - 1) % 64 + 1) i → IsHighest (bit_of words) (64 * ((end - 1) / 64)) end (64 * ((end - 1) / 64) + i)
IsHighest-word words end i some_end highest =
    let b = (end - 1) / 64 in
    let below = highest.below in
    let some = highest.some in
    let here = bit-in words ((end - 1) / 64) (64 * ((end - 1) / 64) + i) (omega arith) (omega arith) in
    let at : 64 * ((end - 1) / 64) + i - 64 * ((end - 1) / 64) ≡ i = omega arith in
    let same : bit_of words (64 * ((end - 1) / 64) + i) ≡ bit_at (get_or words ((end - 1) / 64) 0) i = here ∙ ap (bit_at (get_or words ((end - 1) / 64) 0)) at in
    record {
      above = omega arith;
      below = omega arith;
      some = omega arith;
      none = λ j low high. bit-in words ((end - 1) / 64) j (omega arith) (omega arith) ∙ highest.none (j - 64 * ((end - 1) / 64)) (omega arith) (omega arith);
    }

pub Highest-next : (words : List ℕ) (first end : ℕ) (answer : Option ℕ) → 0 < end → ((j : ℕ) → 0 ≤ j → j < (end - 1) % 64 + 1 → bit_at (get_or words ((end - 1) / 64) 0) j ≡ 0)
    → Highest (bit_of words) first (64 * ((end - 1) / 64)) answer → Highest (bit_of words) first end answer
Highest-next words first end None some_end none rest = λ j low high. at j low high (cases_lt j (64 * ((end - 1) / 64)))
  where
    at : (j : ℕ) → first ≤ j → j < end → (j < 64 * ((end - 1) / 64)) ⊎ (64 * ((end - 1) / 64) ≤ j) → bit_of words j ≡ 0
    at j low high (inl lt) = rest j low lt
    at j low high (inr ge) = bit-in words ((end - 1) / 64) j ge (omega arith) ∙ none (j - 64 * ((end - 1) / 64)) (omega arith) (omega arith)
Highest-next words first end (Some k) some_end none rest =
    let below = rest.below in
    record {
      above = rest.above;
      below = omega arith;
      some = rest.some;
      none = λ j low high. at j low high (cases_lt j (64 * ((end - 1) / 64)));
    }
  where
    at : (j : ℕ) → k < j → j < end → (j < 64 * ((end - 1) / 64)) ⊎ (64 * ((end - 1) / 64) ≤ j) → bit_of words j ≡ 0
    at j low high (inl lt) = rest.none j low lt
    at j low high (inr ge) = bit-in words ((end - 1) / 64) j ge (omega arith) ∙ none (j - 64 * ((end - 1) / 64)) (omega arith) (omega arith)

pub Highest-none : (n top : ℕ) (words : List ℕ) → AreBits n top words → (word : ℕ) → word ≤ 64 → ((b : ℕ) → b < word → bit_at top b ≡ 0) → (j : ℕ) → j < 64 * word → bit_of words j ≡ 0
Highest-none n top words are word within none j high =
    none-top n top words are (j / 64) j (omega arith) (none (j / 64) (omega arith)) (omega arith) (omega arith)

pub IsHighest-words : (n top : ℕ) (words : List ℕ) → AreBits n top words → (word next i : ℕ) → word ≤ 64 → IsHighest (bit_at top) 0 word next → IsHighest (bit_at (get_or words next 0)) 0 64 i → IsHighest (bit_of words) 0 (64 * word) (64 * next + i)
IsHighest-words n top words are word next i within highest inner =
    let below = highest.below in
    let inside = inner.below in
    let some = inner.some in
    let here = bit-in words next (64 * next + i) (omega arith) (omega arith) in
    let at : 64 * next + i - 64 * next ≡ i = omega arith in
    let same : bit_of words (64 * next + i) ≡ bit_at (get_or words next 0) i = here ∙ ap (bit_at (get_or words next 0)) at in
    record {
      above = omega arith;
      below = omega arith;
      some = omega arith;
      none = λ j low high. none j low high (cases_lt j (64 * next + 64));
    }
  where
    none : (j : ℕ) → 64 * next + i < j → j < 64 * word → (j < 64 * next + 64) ⊎ (64 * next + 64 ≤ j) → bit_of words j ≡ 0
    none j low high (inl lt) = bit-in words next j (omega arith) lt ∙ inner.none (j - 64 * next) (omega arith) (omega arith)
    none j low high (inr ge) = none-top n top words are (j / 64) j (omega arith) (highest.none (j / 64) (omega arith) (omega arith)) (omega arith) (omega arith)

-- ---- a flag is turned

turned-here : (words : List ℕ) (place bits : ℕ) → place / 64 < length words → IsTurned (get_or words (place / 64) 0) (place % 64) bits → bit_of (set words (place / 64) bits) place ≡ 1 - bit_of words place
turned-here words place bits within turned = ap (λ (m : ℕ). bit_at m (place % 64)) (get_or-set_same words (place / 64) bits 0 within) ∙ turned.here

turned-other : (words : List ℕ) (place bits k : ℕ) → place / 64 < length words → k ≢ place → IsTurned (get_or words (place / 64) 0) (place % 64) bits → bit_of (set words (place / 64) bits) k ≡ bit_of words k
turned-other words place bits k within apart turned = at (cases_eq (k / 64) (place / 64))
  where
    at : ((k / 64) ≡ place / 64) ⊎ ((k / 64) ≢ place / 64) → bit_of (set words (place / 64) bits) k ≡ bit_of words k
    at (inl e) =
        ap (λ (b : ℕ). bit_at (get_or (set words (place / 64) bits) b 0) (k % 64)) e
        ∙ ap (λ (m : ℕ). bit_at m (k % 64)) (get_or-set_same words (place / 64) bits 0 within)
        ∙ turned.others (k % 64) (λ same. apart (omega arith))
        ∙ ap (λ (b : ℕ). bit_at (get_or words b 0) (k % 64)) (sym e)
    at (inr ne) = ap (λ (m : ℕ). bit_at m (k % 64)) (get_or-set_other words (place / 64) (k / 64) bits 0 ne)

pub AreBits-turned : (n top : ℕ) (words : List ℕ) (place bits top' : ℕ) → AreBits n top words → place < n → bits < 2 ^ 64 → IsTurned (get_or words (place / 64) 0) (place % 64) bits
    → bit_at top' (place / 64) ≡ flag bits → ((b : ℕ) → b ≢ place / 64 → bit_at top' b ≡ bit_at top b) → AreBits n top' (set words (place / 64) bits)
AreBits-turned n top words place bits top' are low fits turned tells others =
    let few = are.few in
    let long = are.long in
    record {
      few = few;
      long = length-set words (place / 64) bits ∙ long;
      fit = λ b. fit b (cases_eq b (place / 64));
      none = λ k ge. turned-other words place bits k (omega arith) (λ same. absurd (omega arith)) turned ∙ are.none k ge;
      tops = λ b within. tops b within (cases_eq b (place / 64));
    }
  where
    fit : (b : ℕ) → (b ≡ place / 64) ⊎ (b ≢ place / 64) → get_or (set words (place / 64) bits) b 0 < 2 ^ 64
    fit b (inl e) = let few = are.few in let long = are.long in let here = ap (λ (i : ℕ). get_or (set words (place / 64) bits) i 0) e ∙ get_or-set_same words (place / 64) bits 0 (omega arith) in omega arith
    fit b (inr ne) = let other = get_or-set_other words (place / 64) b bits 0 ne in let was = are.fit b in omega arith

    tops : (b : ℕ) → b < 64 → (b ≡ place / 64) ⊎ (b ≢ place / 64) → bit_at top' b ≡ flag (get_or (set words (place / 64) bits) b 0)
    tops b within (inl e) =
        let few = are.few in
        let long = are.long in
        ap (bit_at top') e ∙ tells ∙ ap flag (sym (ap (λ (i : ℕ). get_or (set words (place / 64) bits) i 0) e ∙ get_or-set_same words (place / 64) bits 0 (omega arith)))
    tops b within (inr ne) = others b ne ∙ are.tops b within ∙ ap flag (sym (get_or-set_other words (place / 64) b bits 0 ne))

pub bits-turned : (n top : ℕ) (words : List ℕ) (place bits top' : ℕ) → AreBits n top words → AreBits n top' (set words (place / 64) bits) → place < n → IsTurned (get_or words (place / 64) 0) (place % 64) bits
    → bits_of n (set words (place / 64) bits) ≡ set (bits_of n words) place (1 - get_or (bits_of n words) place 0)
bits-turned n top words place bits top' are now low turned =
    let long = length-bits n words in
    ext_get_or 0 _ _ (length-bits n (set words (place / 64) bits) ∙ sym (length-set (bits_of n words) place (1 - get_or (bits_of n words) place 0) ∙ long))
    (λ k lt. flag-bit n top' (set words (place / 64) bits) now k ∙ at k (cases_eq k place))
  where
    at : (k : ℕ) → (k ≡ place) ⊎ (k ≢ place) → bit_of (set words (place / 64) bits) k ≡ get_or (set (bits_of n words) place (1 - get_or (bits_of n words) place 0)) k 0
    at k (inl e) =
        let few = are.few in
        let words_long = are.long in
        let long = length-bits n words in
        ap (bit_of (set words (place / 64) bits)) e ∙ turned-here words place bits (omega arith) turned
        ∙ ap (λ (v : ℕ). 1 - v) (sym (flag-bit n top words are place))
        ∙ sym (ap (λ (i : ℕ). get_or (set (bits_of n words) place (1 - get_or (bits_of n words) place 0)) i 0) e
        ∙ get_or-set_same (bits_of n words) place (1 - get_or (bits_of n words) place 0) 0 (omega arith))
    at k (inr ne) =
        let few = are.few in
        let words_long = are.long in
        turned-other words place bits k (omega arith) ne turned ∙ sym (flag-bit n top words are k)
        ∙ sym (get_or-set_other (bits_of n words) place k (1 - get_or (bits_of n words) place 0) 0 ne)

-- words without a bit
pub AreBits-empty : (n : ℕ) → n ≤ 4096 → AreBits n 0 (replicate 64 0)
AreBits-empty n few = record {
  few = few;
  long = length-replicate {A = ℕ} 64 0;
  fit = λ b. let none = zero_at b in omega arith;
  none = λ k ge. ap (λ (m : ℕ). bit_at m (k % 64)) (zero_at (k / 64)) ∙ bit_at-zero (k % 64);
  tops = λ b within. bit_at-zero b ∙ ap flag (sym (zero_at b));
}
  where
    zero_at : (b : ℕ) → ◌≡◌ {A = ℕ} (get_or (replicate 64 0) b 0) 0
    zero_at b = at (cases_lt b 64)
      where
        at : (b < 64) ⊎ (64 ≤ b) → ◌≡◌ {A = ℕ} (get_or (replicate 64 0) b 0) 0
        at (inl lt) = get_or-replicate 64 b 0 0 lt
        at (inr ge) = get_or_past (replicate 64 0) b 0 (let long = length-replicate {A = ℕ} 64 0 in omega arith)

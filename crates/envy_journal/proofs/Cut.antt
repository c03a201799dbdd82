-- Steps of the search for a batch in what opening a file cuts off.
use Rattle.std.proofs.Common.{◌≡◌, ◌≢◌, ℕ, zero, suc, ◌+◌, ◌<◌, ◌≤◌, ◌==◌, Bool, true, false, List, [], ◌∷◌, length, get_or, drop, refl, sym, ◌∙◌, ap, arith, inl, inr}
use Rattle.std.proofs.lemmas.Bool.{cond-true, cond-false, eq-eqb, ne_eqb}
use Rattle.std.proofs.lemmas.List.{drop-drop, drop_all, drop_more}
use Rattle.envy_journal.specs.Reading.{behind_tag, is_open, whole}
use Rattle.envy_journal.specs.Cutting.{begins_batch, cut_batch, ends_batch, has_batch, unread}

pub unread_skip : (within : Bool) (skip : ℕ) (l : List ℕ) → unread within skip l ≡ unread within 0 (drop skip l)
unfolding unread
unread_skip within zero l = refl
unread_skip within (suc skip) [] = refl
unread_skip within (suc skip) (byte ∷ rest) = unread_skip within skip rest

pub unread_none : (within : Bool) → unread within 0 [] ≡ []
unfolding unread
unread_none within = refl

gate_open : (gate : ℕ) (rest : List ℕ) → is_open gate rest ≡ true → unread false 0 (gate ∷ rest) ≡ unread true 0 rest
unfolding unread
gate_open gate rest is = cond-true (is_open gate rest) (unread true 0 rest) (gate ∷ rest) is

gate_shut : (gate : ℕ) (rest : List ℕ) → is_open gate rest ≡ false → unread false 0 (gate ∷ rest) ≡ gate ∷ rest
unfolding unread
gate_shut gate rest not = cond-false (is_open gate rest) (unread true 0 rest) (gate ∷ rest) not

tag_stop : (tag : ℕ) (rest : List ℕ) → tag ≡ 5 → unread true 0 (tag ∷ rest) ≡ unread false 0 rest
unfolding unread
tag_stop tag rest is = cond-true (tag == 5) _ _ (eq-eqb tag 5 is)

tag_total : (tag : ℕ) (rest : List ℕ) → tag ≢ 5 → tag ≡ 7 → unread true 0 (tag ∷ rest) ≡ unread false 8 rest
unfolding unread
tag_total tag rest five is = cond-false (tag == 5) _ _ (ne_eqb tag 5 five) ∙ cond-true (tag == 7) _ _ (eq-eqb tag 7 is)

tag_none : (tag : ℕ) (rest : List ℕ) → tag ≢ 5 → tag ≢ 7 → behind_tag tag ≡ 0 → unread true 0 (tag ∷ rest) ≡ []
unfolding unread
tag_none tag rest five seven none =
    cond-false (tag == 5) _ _ (ne_eqb tag 5 five) ∙ cond-false (tag == 7) _ _ (ne_eqb tag 7 seven) ∙ cond-true (behind_tag tag == 0) [] (unread true (behind_tag tag) rest) (eq-eqb (behind_tag tag) 0 none)

tag_over : (tag : ℕ) (rest : List ℕ) → tag ≢ 5 → tag ≢ 7 → behind_tag tag ≢ 0 → unread true 0 (tag ∷ rest) ≡ unread true (behind_tag tag) rest
unfolding unread
tag_over tag rest five seven some =
    cond-false (tag == 5) _ _ (ne_eqb tag 5 five) ∙ cond-false (tag == 7) _ _ (ne_eqb tag 7 seven) ∙ cond-false (behind_tag tag == 0) [] (unread true (behind_tag tag) rest) (ne_eqb (behind_tag tag) 0 some)

module _ (bytes : List ℕ) (at : ℕ) (lt : at < length bytes) where
  abbrev tag : ℕ
  tag = get_or bytes at 0

  abbrev rest : List ℕ
  rest = drop (at + 1) bytes

  front : drop at bytes ≡ tag ∷ rest
  front = drop_more bytes at 0 lt

  at_tag : (within : Bool) → unread within 0 (drop at bytes) ≡ unread within 0 (tag ∷ rest)
  at_tag within = ap (λ (l : List ℕ). unread within 0 l) front

  behind : (size : ℕ) → drop size rest ≡ drop (at + (size + 1)) bytes
  behind size = drop-drop size (at + 1) bytes ∙ ap (λ (k : ℕ). drop k bytes) (omega arith)

  pub passes_gate : is_open tag rest ≡ true → unread false 0 (drop at bytes) ≡ unread true 0 rest
  passes_gate is = at_tag false ∙ gate_open tag rest is

  pub stays_at : is_open tag rest ≡ false → drop at bytes ≡ unread false 0 (drop at bytes)
  stays_at not = front ∙ sym (at_tag false ∙ gate_shut tag rest not)

  pub passes_stop : tag ≡ 5 → unread true 0 (drop at bytes) ≡ unread false 0 rest
  passes_stop is = at_tag true ∙ tag_stop tag rest is

  pub passes_total : tag ≢ 5 → tag ≡ 7 → unread true 0 (drop at bytes) ≡ unread false 0 (drop (at + 9) bytes)
  passes_total five is = at_tag true ∙ tag_total tag rest five is ∙ unread_skip false 8 rest ∙ ap (λ (l : List ℕ). unread false 0 l) (behind 8)

  pub breaks : tag ≢ 5 → tag ≢ 7 → behind_tag tag ≡ 0 → unread true 0 (drop at bytes) ≡ []
  breaks five seven none = at_tag true ∙ tag_none tag rest five seven none

  pub passes_operation : (size : ℕ) → size ≡ behind_tag tag → tag ≢ 5 → tag ≢ 7 → size ≢ 0 → unread true 0 (drop at bytes) ≡ unread true 0 (drop (at + (size + 1)) bytes)
  passes_operation size is five seven some =
      at_tag true
      ∙ tag_over tag rest five seven (λ none. some (is ∙ none))
      ∙ ap (λ (k : ℕ). unread true k rest) (sym is)
      ∙ unread_skip true size rest
      ∙ ap (λ (l : List ℕ). unread true 0 l) (behind size)

  -- the end of a batch
  ends_at : (n : ℕ) → ends_batch n (drop at bytes) ≡ ends_batch n (tag ∷ rest)
  ends_at n = ap (λ (l : List ℕ). ends_batch n l) front

  pub ends_here : tag ≡ 5 → ends_batch 0 (drop at bytes) ≡ true
  unfolding ends_batch
  ends_here is = ends_at 0 ∙ cond-true (tag == 5) true _ (eq-eqb tag 5 is)

  pub ends_never : tag ≢ 5 → behind_tag tag ≡ 0 → ends_batch 0 (drop at bytes) ≡ false
  unfolding ends_batch
  ends_never five none = ends_at 0 ∙ cond-false (tag == 5) true _ (ne_eqb tag 5 five) ∙ cond-true (behind_tag tag == 0) false (ends_batch (behind_tag tag) rest) (eq-eqb (behind_tag tag) 0 none)

  -- a batch further on
  pub has_here : begins_batch (drop at bytes) ≡ true → has_batch (drop at bytes) ≡ true
  unfolding has_batch
  has_here is = ap has_batch front ∙ cond-true (begins_batch (tag ∷ rest)) true (has_batch rest) (ap begins_batch (sym front) ∙ is)

  pub has_further : begins_batch (drop at bytes) ≡ false → has_batch (drop at bytes) ≡ has_batch rest
  unfolding has_batch
  has_further not = ap has_batch front ∙ cond-false (begins_batch (tag ∷ rest)) true (has_batch rest) (ap begins_batch (sym front) ∙ not)

pub ends_skip : (skip : ℕ) (l : List ℕ) → ends_batch skip l ≡ ends_batch 0 (drop skip l)
unfolding ends_batch
ends_skip zero l = refl
ends_skip (suc skip) [] = refl
ends_skip (suc skip) (byte ∷ rest) = ends_skip skip rest

pub ends_further : (bytes : List ℕ) (at : ℕ) → at < length bytes → (size : ℕ) → size ≡ behind_tag (get_or bytes at 0) → get_or bytes at 0 ≢ 5 → size ≢ 0 → ends_batch 0 (drop at bytes) ≡ ends_batch 0 (drop (at + (size + 1)) bytes)
unfolding ends_batch
ends_further bytes at lt size is five some =
    let tag = get_or bytes at 0 in
    let rest = drop (at + 1) bytes in
    ap (λ (l : List ℕ). ends_batch 0 l) (drop_more bytes at 0 lt)
    ∙ cond-false (tag == 5) true _ (ne_eqb tag 5 five)
    ∙ cond-false (behind_tag tag == 0) false (ends_batch (behind_tag tag) rest) (ne_eqb (behind_tag tag) 0 (λ none. some (is ∙ none)))
    ∙ ap (λ (k : ℕ). ends_batch k rest) (sym is)
    ∙ ends_skip size rest
    ∙ ap (λ (l : List ℕ). ends_batch 0 l) (drop-drop size (at + 1) bytes ∙ ap (λ (k : ℕ). drop k bytes) (omega arith))

pub ends_past : (bytes : List ℕ) (at : ℕ) → length bytes ≤ at → ends_batch 0 (drop at bytes) ≡ false
unfolding ends_batch
ends_past bytes at past = ap (λ (l : List ℕ). ends_batch 0 l) (drop_all at bytes past)

pub has_past : (bytes : List ℕ) (at : ℕ) → length bytes ≤ at → has_batch (drop at bytes) ≡ false
unfolding has_batch
has_past bytes at past = ap has_batch (drop_all at bytes past)

pub unread_past : (within : Bool) (bytes : List ℕ) (at : ℕ) → length bytes ≤ at → unread within 0 (drop at bytes) ≡ []
unread_past within bytes at past = ap (λ (l : List ℕ). unread within 0 l) (drop_all at bytes past) ∙ unread_none within

-- a batch at the front
pub begins_short : (bytes : List ℕ) → length bytes < 2 → begins_batch bytes ≡ false
unfolding begins_batch
begins_short [] lt = refl
begins_short (gate ∷ []) lt = refl
begins_short (gate ∷ tag ∷ rest) lt = absurd (omega (arith, lt))

pub begins_open : (bytes : List ℕ) → 2 ≤ length bytes → get_or bytes 0 0 ≡ 4 → get_or bytes 1 0 ≢ 5 → begins_batch bytes ≡ ends_batch 0 (drop 1 bytes)
unfolding begins_batch
begins_open [] le four five = absurd (omega (arith, le))
begins_open (gate ∷ []) le four five = absurd (omega (arith, le))
begins_open (gate ∷ tag ∷ rest) le four five = cond-true (gate == 4) _ _ (eq-eqb gate 4 four) ∙ cond-false (tag == 5) false (ends_batch 0 (tag ∷ rest)) (ne_eqb tag 5 five)

pub begins_empty : (bytes : List ℕ) → 2 ≤ length bytes → get_or bytes 0 0 ≡ 4 → get_or bytes 1 0 ≡ 5 → begins_batch bytes ≡ false
unfolding begins_batch
begins_empty [] le four five = absurd (omega (arith, le))
begins_empty (gate ∷ []) le four five = absurd (omega (arith, le))
begins_empty (gate ∷ tag ∷ rest) le four five = cond-true (gate == 4) _ _ (eq-eqb gate 4 four) ∙ cond-true (tag == 5) false (ends_batch 0 (tag ∷ rest)) (eq-eqb tag 5 five)

pub begins_counted : (bytes : List ℕ) → 2 ≤ length bytes → get_or bytes 0 0 ≢ 4 → get_or bytes 0 0 ≡ 6 → begins_batch bytes ≡ whole 0 0 (drop 1 bytes)
unfolding begins_batch
begins_counted [] le ne six = absurd (omega (arith, le))
begins_counted (gate ∷ []) le ne six = absurd (omega (arith, le))
begins_counted (gate ∷ tag ∷ rest) le ne six = cond-false (gate == 4) _ _ (ne_eqb gate 4 ne) ∙ cond-true (gate == 6) (whole 0 0 (tag ∷ rest)) false (eq-eqb gate 6 six)

pub begins_other : (bytes : List ℕ) → 2 ≤ length bytes → get_or bytes 0 0 ≢ 4 → get_or bytes 0 0 ≢ 6 → begins_batch bytes ≡ false
unfolding begins_batch
begins_other [] le ne six = absurd (omega (arith, le))
begins_other (gate ∷ []) le ne six = absurd (omega (arith, le))
begins_other (gate ∷ tag ∷ rest) le ne six = cond-false (gate == 4) _ _ (ne_eqb gate 4 ne) ∙ cond-false (gate == 6) (whole 0 0 (tag ∷ rest)) false (ne_eqb gate 6 six)

-- what is cut
pub cut_some : (file cut : List ℕ) → cut ≡ unread false 33 file → has_batch cut ≡ true → length cut ≡ cut_batch file
cut_some file cut is has =
    let more = ap has_batch (sym is) ∙ has in
    ap length is ∙ sym (cond-true (has_batch (unread false 33 file)) (length (unread false 33 file)) 0 more)

pub cut_none : (file cut : List ℕ) → cut ≡ unread false 33 file → has_batch cut ≡ false → 0 ≡ cut_batch file
cut_none file cut is none =
    let no = ap has_batch (sym is) ∙ none in
    sym (cond-false (has_batch (unread false 33 file)) (length (unread false 33 file)) 0 no)

pub cut_short : (file : List ℕ) → length file < 33 → 0 ≡ cut_batch file
unfolding has_batch
cut_short file short = cut_none file [] (sym (unread_skip false 33 file ∙ unread_past false file 33 (omega (arith, short)))) refl

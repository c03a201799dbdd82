-- Steps of a generator, and rows of its words.
use Rattle.std.proofs.Common.{◌≡◌, ◌≢◌, ◌∙◌, ℕ, zero, suc, ◌+◌, ◌<◌, List, length, get_or, set, refl, sym, ap, add-one, add-zero, add-suc, arith, below_more, get_or-set_same, get_or-set_other}
use Rattle.std.proofs.lemmas.List.FromFn.{fill_by_all}
use Rattle.envy_bench.specs.TornRows.{after_steps, next_words}

module _ {G : Type 0} (step : G → ℕ × G) where
  pub after_none : (t : G) → after_steps step 0 t ≡ t
  unfolding after_steps
  after_none t = refl

  -- one step more
  pub after_more : (n : ℕ) (t : G) → after_steps step (n + 1) t ≡ (step (after_steps step n t)).1
  unfolding after_steps
  after_more n t = rw add-one refl

  -- some steps and some more
  pub after_both : (m n : ℕ) (t : G) → after_steps step n (after_steps step m t) ≡ after_steps step (m + n) t
  unfolding after_steps
  after_both m zero t = rw add-zero refl
  after_both m (suc n) t = rw add-suc (ap (λ (u : G). (step u).1) (after_both m n t))

-- the first n words of a row were drawn one by one from t, and now stands after them
pub record IsDrawn {G : Type 0} (step : G → ℕ × G) (t now : G) (row : List ℕ) (n : ℕ) : Type 0 where
  pub rest : now ≡ after_steps step n t
  pub drawn : (k : ℕ) → k < n → get_or row k 0 ≡ (step (after_steps step k t)).0

module _ {G : Type 0} (step : G → ℕ × G) where
  pub IsDrawn-none : (t : G) (row : List ℕ) → IsDrawn step t t row 0
  IsDrawn-none t row = record { rest = sym (after_none step t); drawn = λ k lt. absurd (omega arith) }

  -- one word more is drawn
  pub IsDrawn-more : (t now new : G) (row : List ℕ) (n w : ℕ) → n < length row → (w, new) ≡ step now → IsDrawn step t now row n → IsDrawn step t new (set row n w) (n + 1)
  IsDrawn-more t now new row n w lt is so_far =
      let here : (w, new) ≡ step (after_steps step n t) = is ∙ ap step so_far.rest in
      record {
        rest = ap (λ (p : ℕ × G). p.1) here ∙ sym (after_more step n t);
        drawn = below_more _ _
            (λ k h. let ne : k ≢ n = omega arith in get_or-set_other row n k w 0 ne ∙ so_far.drawn k h)
            (get_or-set_same row n w 0 lt ∙ ap (λ (p : ℕ × G). p.0) here);
      }

  -- a row of drawn words
  pub IsDrawn-all : (t now : G) (row : List ℕ) (n : ℕ) → n ≡ 32 → length row ≡ 32 → IsDrawn step t now row n → row ≡ next_words step t
  unfolding next_words
  IsDrawn-all t now row n all long is = fill_by_all (λ i. (step (after_steps step i t)).0) row 32 0 long (λ k lt. is.drawn k (omega arith))

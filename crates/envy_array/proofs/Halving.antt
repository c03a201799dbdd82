-- The search among words that are halved.
use Rattle.std.proofs.Common.{◌≡◌, ℕ, ◌+◌, ◌-◌, ◌<◌, ◌≤◌, refl, ◌∙◌, ap, sym, arith}
use Rattle.envy_array.specs.Words.{IsPlaceIn}

-- the place lies from index to end
pub record Narrow (word : ℕ → ℕ) (count key low top index new_low new_top end : ℕ) : Type 0 where
  pub order : index ≤ end
  pub few : end ≤ count
  pub above : new_low ≤ key
  pub below : key ≤ new_top
  pub first : index ≡ 0 → new_low ≡ low
  pub bottom : (i : ℕ) → index ≡ i + 1 → new_low ≡ word i
  pub last : end ≡ count → new_top ≡ top
  pub ceiling : end < count → word end ≡ new_top + 1

pub narrow-whole : (at : ℕ → ℕ) (count key low top : ℕ) → low ≤ key → key ≤ top → Narrow at count key low top 0 low top count
narrow-whole at count key low top le ge = record {
  order = omega arith;
  few = omega arith;
  above = le;
  below = ge;
  first = λ e. refl;
  bottom = λ i e. absurd (omega arith);
  last = λ e. refl;
  ceiling = λ lt. absurd (omega arith);
}

-- the word in the middle is above the key
pub narrow-front : (at : ℕ → ℕ) (count key low top index new_low new_top end middle word : ℕ) → Narrow at count key low top index new_low new_top end → index ≤ middle → middle < end → word ≡ at middle → key < word → Narrow at count key low top index new_low (word - 1) middle
narrow-front at count key low top index new_low new_top end middle word n le lt is more = record {
  order = le;
  few = omega (arith, n.few);
  above = n.above;
  below = omega arith;
  first = n.first;
  bottom = n.bottom;
  last = λ e. absurd (omega (arith, n.few));
  ceiling = λ less. omega (arith, is, more);
}

-- or it isn't
pub narrow-rear : (at : ℕ → ℕ) (count key low top index new_low new_top end middle word : ℕ) → Narrow at count key low top index new_low new_top end → index ≤ middle → middle < end → word ≡ at middle → word ≤ key → Narrow at count key low top (middle + 1) word new_top end
narrow-rear at count key low top index new_low new_top end middle word n le lt is few = record {
  order = omega arith;
  few = n.few;
  above = few;
  below = n.below;
  first = λ e. absurd (omega arith);
  bottom = λ i e. is ∙ ap (λ j. at j) (let h : middle ≡ i = omega arith in h);
  last = n.last;
  ceiling = n.ceiling;
}

pub narrow-done : (at : ℕ → ℕ) (count key low top index new_low new_top end : ℕ) → Narrow at count key low top index new_low new_top end → end ≤ index → IsPlaceIn at count key low top index new_low new_top
narrow-done at count key low top index new_low new_top end n done =
    let same : end ≡ index = omega (arith, n.order) in
    record {
      within = omega (arith, n.order, n.few);
      above = n.above;
      below = n.below;
      first = n.first;
      bottom = n.bottom;
      last = λ e. n.last (same ∙ e);
      ceiling = λ lt. ap (λ j. at j) (sym same) ∙ n.ceiling (omega arith);
    }

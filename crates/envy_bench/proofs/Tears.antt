-- Rows of a block that are filled one after another.
use Rattle.std.proofs.Common.{◌≡◌, ◌≢◌, ◌∙◌, ℕ, ◌+◌, ◌*◌, ◌/◌, ◌<◌, List, [], length, get_or, set, refl, ap, arith, below_more, get_or-set_same, get_or-set_other, length-set}
use Rattle.std.proofs.lemmas.Nat.{div-mul-add}
use Rattle.envy_bench.specs.Draws.{seeded, next_word}
use Rattle.envy_bench.specs.TornRows.{after_steps, torn_row}
use Rattle.envy_bench.proofs.Draws.{after_both}

-- the first n rows of the block are filled
pub record TearsUpTo (rows e g n : ℕ) (old new : List (List ℕ)) : Type 0 where
  pub long : length new ≡ length old
  pub others : (q : ℕ) → q / rows ≢ e → get_or new q [] ≡ get_or old q []
  pub inside : (r : ℕ) → r < n → get_or new (e * rows + r) [] ≡ torn_row g r

pub TearsUpTo-none : (rows e g : ℕ) (flash : List (List ℕ)) → TearsUpTo rows e g 0 flash flash
TearsUpTo-none rows e g flash = record { long = refl; others = λ q ne. refl; inside = λ r lt. absurd (omega arith) }

-- one row more is torn
pub TearsUpTo-more : (rows e g n : ℕ) (old now : List (List ℕ)) (row : List ℕ) → n < rows → e * rows + n < length now → row ≡ torn_row g n → TearsUpTo rows e g n old now → TearsUpTo rows e g (n + 1) old (set now (e * rows + n) row)
TearsUpTo-more rows e g n old now row lt room is so_far =
    let here : (e * rows + n) / rows ≡ e = div-mul-add e rows n lt in
    record {
      long = length-set now (e * rows + n) row ∙ so_far.long;
      others = λ q ne.
          let apart : q ≢ e * rows + n = λ same. ne (ap (λ k. k / rows) same ∙ here) in
          get_or-set_other now (e * rows + n) q row [] apart ∙ so_far.others q ne;
      inside = below_more _ _
          (λ r h. let apart : e * rows + r ≢ e * rows + n = omega arith in get_or-set_other now (e * rows + n) (e * rows + r) row [] apart ∙ so_far.inside r h)
          (get_or-set_same now (e * rows + n) row [] room ∙ is);
    }

-- the row of the next words, and the generator after them
pub torn_row-next : (g n : ℕ) → after_steps next_word 32 (after_steps next_word (32 * n) (seeded g)) ≡ after_steps next_word (32 * (n + 1)) (seeded g)
torn_row-next g n = let more : 32 * n + 32 ≡ 32 * (n + 1) = omega arith in after_both next_word (32 * n) 32 (seeded g) ∙ ap (λ k. after_steps next_word k (seeded g)) more

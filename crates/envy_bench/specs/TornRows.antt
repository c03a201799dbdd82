-- What a disturbed flash operation leaves in its rows: words drawn from a number, in order.
use Rattle.std.specs.Prelude.{◌≡◌, ◌≢◌, ℕ, zero, suc, ◌*◌, ◌/◌, ◌%◌, ◌<◌, List, [], map, length, slice_index_or}
use Rattle.std.specs.List.{range_with_len}
use Rattle.envy_bench.specs.Draws.{seeded, next_word}
use Rattle.envy_base.specs.declared.page.TheConstants.{PAGE_WORDS}

-- a generator after n steps, each of which gives a word and the generator after it
unfoldable pub after_steps : {G : Type 0} → (G → ℕ × G) → ℕ → G → G
after_steps step zero generator = generator
after_steps step (suc n) generator = (step (after_steps step n generator)).1

-- the next 32 words, as a row
unfoldable pub next_words : {G : Type 0} → (G → ℕ × G) → G → List ℕ
next_words step generator = map (λ i. (step (after_steps step i generator)).0) (range_with_len 0 PAGE_WORDS)

-- row r, from 0, of the rows that are filled with the words of g
abbrev pub torn_row : ℕ → ℕ → List ℕ
torn_row g r = next_words next_word (after_steps next_word (PAGE_WORDS * r) (seeded g))

-- the rows of segment e are filled in order, and the others are as before
pub record TearsRows (rows e g : ℕ) (old new : List (List ℕ)) : Type 0 where
  pub long : length new ≡ length old
  pub others : (q : ℕ) → q / rows ≢ e → slice_index_or new q [] ≡ slice_index_or old q []
  pub inside : (q : ℕ) → q < length old → q / rows ≡ e → slice_index_or new q [] ≡ torn_row g (q % rows)

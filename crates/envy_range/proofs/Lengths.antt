-- How many words are outside a range, and what follows for lists in which they stand first.
use Rattle.std.proofs.Common.{◌≡◌, ℕ, ◌+◌, ◌-◌, List, ◌++◌, length, take, drop, min, refl, ap, sym, ◌∙◌}
use Rattle.std.proofs.lemmas.List.{length-append, length-drop, length-take, take_at, drop_at}
use Rattle.envy_range.specs.Ranges.{outside}

-- how many words are outside is told by how many there are
pub outside-long : (first count : ℕ) (ws : List ℕ) → length (outside first count ws) ≡ min first (length ws) + (length ws - (first + count))
unfolding outside
outside-long first count ws = length-append (take first ws) (drop (first + count) ws) ∙ ap (λ (n : ℕ). n + length (drop (first + count) ws)) (length-take first ws) ∙ ap (λ (n : ℕ). min first (length ws) + n) (length-drop (first + count) ws)

pub outside-size : (first count : ℕ) (xs ys : List ℕ) → length xs ≡ length ys → length (outside first count xs) ≡ length (outside first count ys)
outside-size first count xs ys long = outside-long first count xs ∙ ap (λ (n : ℕ). min first n + (n - (first + count))) long ∙ sym (outside-long first count ys)

-- two lists in one after another, by the length of the first
pub fronts : (xs ys us vs : List ℕ) → length xs ≡ length us → xs ++ ys ≡ us ++ vs → (xs ≡ us) × (ys ≡ vs)
fronts xs ys us vs long same = (
  sym (take_at xs ys (length us) long) ∙ ap (take (length us)) same ∙ take_at us vs (length us) refl,
  sym (drop_at xs ys (length us) long) ∙ ap (drop (length us)) same ∙ drop_at us vs (length us) refl,
)

-- lists in one after another, the first of which are of one length
pub apart-sizes : (first count : ℕ) (xs ys us vs : List ℕ) → length xs ≡ length us → outside first count xs ++ ys ≡ outside first count us ++ vs → (outside first count xs ≡ outside first count us) × (ys ≡ vs)
apart-sizes first count xs ys us vs long same = fronts (outside first count xs) ys (outside first count us) vs (outside-size first count xs us long) same

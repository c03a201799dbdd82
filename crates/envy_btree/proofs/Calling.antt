-- The calls that find the nearest pair, as one relation by cases.
use Rattle.std.proofs.Common.{ℕ, ◌^◌, ◌<◌, ◌≤◌, List, None}
use Rattle.std.proofs.lemmas.List.Elements.{All-weaker}
use Rattle.envy_btree.specs.Index.{IsIndex}
use Rattle.envy_btree.specs.Nearest.{IsLeastFrom, IsGreatestTo, first_from, last_to}
use Rattle.envy_btree.proofs.Calls.{planted-rising}
use Rattle.envy_btree.proofs.Nearest.{first-is, last-is}
use Rattle.envy_btree.proofs.Trees.{Rising-within}

pub least-of : (ws : List ℕ) (es : List (ℕ × ℕ)) (key : ℕ) → IsIndex ws es → IsLeastFrom key es (first_from key es)
least-of ws es key x = first-is key 0 (2 ^ 64) es (planted-rising ws es x.planted)

pub greatest-of : (ws : List ℕ) (es : List (ℕ × ℕ)) (key : ℕ) → IsIndex ws es → IsGreatestTo key es (last_to key es)
greatest-of ws es key x = last-is key 0 (2 ^ 64) es (planted-rising ws es x.planted)

-- no key is so great
pub all-below : (ws : List ℕ) (es : List (ℕ × ℕ)) → IsIndex ws es → IsLeastFrom (2 ^ 64) es None
all-below ws es x = All-weaker (λ (e : ℕ × ℕ). (0 ≤ e.0) × (e.0 < 2 ^ 64)) (λ (e : ℕ × ℕ). e.0 < 2 ^ 64) (λ e h. h.1) es (Rising-within 0 (2 ^ 64) es (planted-rising ws es x.planted))

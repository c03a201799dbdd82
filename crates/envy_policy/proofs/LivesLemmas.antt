-- What is noted of lives keeps its sizes.
use Rattle.std.proofs.Common.{◌≡◌, ℕ, ◌<◌, Option, None, Some, IfSome, length, refl, sym, ap, ap₂, ◌∙◌, arith}
use Rattle.std.specs.Option.{option_map}
use Rattle.std.proofs.Math.ListN.{length-replicate}
use Rattle.std.proofs.lemmas.List.{length-set}
use Rattle.envy_policy.specs.declared.setup.Policy.{Policy}
use Rattle.envy_policy.specs.declared.setup.Policy.TheVariants.{Greedy, Fifo, Locality, Hybrid, Lifetime}
use Rattle.envy_policy.specs.History.{AreLives, lives_of}
use Rattle.envy_policy.specs.Notes.{Notes, noted_flush, noted_clean, unnoted}

pub AreLives-start : (policy : Policy) (pages positions : ℕ) → AreLives policy pages positions (lives_of policy pages positions)
AreLives-start Greedy pages positions = λ e. cc
AreLives-start Fifo pages positions = λ e. cc
AreLives-start Locality pages positions = λ e. cc
AreLives-start (Hybrid part) pages positions = λ e. cc
AreLives-start Lifetime pages positions = (refl, length-replicate pages 0, length-replicate positions 0)

-- noting a flush keeps the notes' sizes,
pub AreLives-claim : (policy : Policy) (pages positions k page : ℕ) (l : Option Notes) → AreLives policy pages positions l → AreLives policy pages positions (option_map (noted_flush k page) l)
AreLives-claim policy pages positions k page None are = are
AreLives-claim policy pages positions k page (Some n) are = (are.0, length-set n.born page _ ∙ are.1, are.2)

-- and noting a cleaning
pub AreLives-clean : (policy : Policy) (pages positions k : ℕ) (l : Option Notes) → AreLives policy pages positions l → AreLives policy pages positions (option_map (noted_clean k) l)
AreLives-clean policy pages positions k None are = are
AreLives-clean policy pages positions k (Some n) are = (are.0, are.1, length-set n.cleaned k _ ∙ are.2)

-- a position and a page are ones that are noted
pub noted-position : (policy : Policy) (pages positions k : ℕ) (l : Option Notes) → AreLives policy pages positions l → k < positions → IfSome l (λ n. k < length n.cleaned)
noted-position policy pages positions k None are below = tt
noted-position policy pages positions k (Some n) are below = omega (arith, are.2)

-- both at one position
pub noted-both : (policy : Policy) (pages positions k page : ℕ) (l : Option Notes) → AreLives policy pages positions l → k < positions → page < pages → IfSome l (λ n. (k < length n.cleaned) × (page < length n.born))
noted-both policy pages positions k page None are below inside = tt
noted-both policy pages positions k page (Some n) are below inside = (omega (arith, are.2), omega (arith, are.1))

-- after a reset it is as at the start
pub lives-reset : (policy : Policy) (pages positions : ℕ) (l : Option Notes) → AreLives policy pages positions l → option_map (λ n. unnoted (length n.born) (length n.cleaned)) l ≡ lives_of policy pages positions
lives-reset Greedy pages positions None are = refl
lives-reset Fifo pages positions None are = refl
lives-reset Locality pages positions None are = refl
lives-reset (Hybrid part) pages positions None are = refl
lives-reset Lifetime pages positions None are = absurd (are refl)
lives-reset policy pages positions (Some n) are =
    ap (λ (x : Notes). Some x) (ap₂ unnoted are.1 are.2) ∙ ap (λ (p : Policy). lives_of p pages positions) (sym are.0)

use Rattle.std.proofs.Common.{◌∙◌, ℕ, List, sym, ap, subst}
use Rattle.std.specs.Prelude.{replicate}
use Rattle.envy_space.specs.Bits.{AreBits}
use Rattle.envy_space.specs.Winners.{flag}
use Rattle.envy_space.proofs.BitLemmas.{AreBits-empty, length-bits}
use Rattle.envy_space.proofs.flags.Flags.new.Goals as goal

pub invariant_of-flags : goal.invariant_of-flags
invariant_of-flags c =
    subst (λ (words : List ℕ). AreBits c.args.places 0 words) (sym (c.in_ok-words.ensures.items_if_clones_equal (λ y e. e)))
    (AreBits-empty c.args.places c.requires.few)

pub returns : goal.returns
returns c = c.fill.ensures ∙ ap (λ (n : ℕ). replicate n (flag c.args.rows)) (length-bits c.args.places c.in_ok-words.words.items)

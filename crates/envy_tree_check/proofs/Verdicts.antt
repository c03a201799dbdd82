-- What a check of a tree, and of all words, tells by its answers.
use Rattle.std.proofs.Common.{◌≡◌, ◌≢◌, ◌⊎◌, ℕ, ◌+◌, ◌-◌, ◌^◌, ◌<◌, ◌≤◌, Bool, true, IsTrue, List, length, get_or, Result, Ok, Err, IfOk, IfErr, OnOk, refl, sym, subst, ◌∙◌, inl, inr, arith}
use Rattle.envy_array.specs.Words.{Sheet}
use Rattle.envy_heap.specs.Pieces.{IsHeap}
use Rattle.envy_btree.specs.Index.{IsIndex}
use Rattle.envy_btree.specs.Rules.{pairs_under}
use Rattle.envy_tree_check.specs.Faults.{Ails, Causes, Sickens}
use Rattle.envy_tree_check.specs.Grown.{AreLevels, Grows, IsSeen, Powers, capped, nodes_under}
use Rattle.envy_tree_check.specs.declared.fault.MapFault.{MapFault}
use Rattle.envy_tree_check.specs.declared.fault.MapFault.TheVariants.{Off}
use Rattle.envy_tree_check.specs.declared.tree.Tally.{Tally}
use Rattle.envy_tree_check.proofs.Faulting.{ails-cause, sick-ails}
use Rattle.envy_tree_check.proofs.Refusing.{no-map}

-- a tree was seen
pub seen-of : (ws free : List ℕ) (levels root : ℕ) (r : Result Tally MapFault) → get_or ws 0 0 ≡ root + 1 → OnOk r (Grows ws free true 0 (2 ^ 64) levels root) → IfOk r (λ x. x.nodes ≡ capped (0 + nodes_under levels ws root)) → IfOk r (λ x. x.pairs ≡ capped (0 + pairs_under levels ws root)) → IfOk r (λ x. IsSeen ws free x.nodes x.pairs)
seen-of ws free levels root (Err e) named g n p = tt
seen-of ws free levels root (Ok x) named g n p = inr (record {
  root = root;
  depth = levels;
  named = named;
  grows = g;
  nodes_are = n ∙ less (nodes_under levels ws root);
  pairs_are = p ∙ less (pairs_under levels ws root);
})
  where
    less : (n : ℕ) → capped (0 + n) ≡ capped n
    less n = omega arith

-- or it ails
pub causes-of : {T : Type 0} (ws free : List ℕ) (levels root : ℕ) (r : Result T MapFault) → IsHeap ws free → get_or ws 0 0 ≡ root + 1 → AreLevels ws root levels → IfErr r (λ e. Sickens ws free true 0 (2 ^ 64) levels root e) → IfErr r (λ e. Causes ws e)
causes-of ws free levels root (Ok x) heap named l s = tt
causes-of ws free levels root (Err e) heap named l s = ails-cause ws free root e heap named (sick-ails ws free levels root e l s)

-- a cause rules out every map
pub cause-none : (ws : List ℕ) (fault : MapFault) → length ws ≤ 2 ^ 29 → Causes ws fault → fault ≢ Off → (es : List (ℕ × ℕ)) → IsIndex ws es → ⊥
cause-none ws fault small c ne es i = no-map ws es fault small c ne i

-- The same of words that are these

pub powers-same : {T : Type 0} (ws one : List ℕ) (r : Result T MapFault) (s : Sheet) → one ≡ ws → Powers one r s → Powers ws r s
powers-same {T = T} ws one r s e p = subst (λ w. Powers {T = T} w r s) e p

pub seen-from : (ws one free : List ℕ) (levels root : ℕ) (r : Result Tally MapFault) → one ≡ ws → get_or ws 0 0 ≡ root + 1 → OnOk r (Grows one free true 0 (2 ^ 64) levels root) → IfOk r (λ x. x.nodes ≡ capped (0 + nodes_under levels one root)) → IfOk r (λ x. x.pairs ≡ capped (0 + pairs_under levels one root)) → IfOk r (λ x. IsSeen ws free x.nodes x.pairs)
seen-from ws one free levels root r e named g n p =
    seen-of ws free levels root r named
    (subst (λ w. OnOk r (Grows w free true 0 (2 ^ 64) levels root)) e g)
    (subst (λ w. IfOk r (λ x. x.nodes ≡ capped (0 + nodes_under levels w root))) e n)
    (subst (λ w. IfOk r (λ x. x.pairs ≡ capped (0 + pairs_under levels w root))) e p)

pub causes-from : {T : Type 0} (ws one free : List ℕ) (levels root : ℕ) (r : Result T MapFault) → one ≡ ws → IsHeap ws free → get_or ws 0 0 ≡ root + 1 → AreLevels ws root levels → IfErr r (λ e. Sickens one free true 0 (2 ^ 64) levels root e) → IfErr r (λ e. Causes ws e)
causes-from ws one free levels root r e heap named l s = causes-of ws free levels root r heap named l (subst (λ w. IfErr r (λ x. Sickens w free true 0 (2 ^ 64) levels root x)) e s)

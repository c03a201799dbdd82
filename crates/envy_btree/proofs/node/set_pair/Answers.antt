use Rattle.std.proofs.Common.{◌≡◌, ◌≢◌, ◌⊎◌, ◌-◌, ◌∙◌, ap, sym, subst, arith, length, set, get_or, inl, inr, ℕ}
use Rattle.std.specs.List.{insert}
use Rattle.std.proofs.lemmas.List.{length-map}
use Rattle.envy_btree.specs.Nodes.{Ranks}
use Rattle.envy_btree.proofs.Setting.{Set-found, Set-missing}
use Rattle.envy_btree.proofs.node.set_pair.Goals as goal
use Rattle.envy_btree.proofs.node.set_pair.Goals.{else-i-gt0-via-then-i-gt0+else-key, else-i-gt0-via-else-i-gt0}

pub returns-then-key-clause-pairs : goal.returns-then-key-clause-pairs
returns-then-key-clause-pairs c low high es r keys slots =
    let lt = c.requires.place.within in
    let f = Set-found low high c.args.key c.args.value (c.args.i - 1) es (omega (arith, lt, ap length keys, length-map es (λ (e : ℕ × ℕ). e.0), c.if-i-gt0.true)) r (ap (λ x. get_or x (c.args.i - 1) 0) (sym keys) ∙ sym c.key.ensures ∙ c.if-key.true) in
    record {
      front = c.set_slot.ensures.keys ∙ keys ∙ f.front;
      back = c.set_slot.ensures.slots ∙ ap (λ x. set x (c.args.i - 1) c.args.value) slots ∙ f.back;
    }

pub returns-clause-pairs : goal.returns-clause-pairs
returns-clause-pairs c low high es r keys slots =
    let other : (c.args.i ≡ 0) ⊎ (get_or c.args.node.now.keys.items (c.args.i - 1) 0 ≢ c.args.key) = elim c.else-i-gt0.branch [
      | else-i-gt0-via-then-i-gt0+else-key w ↦ inr (λ e. w.if-key.false (w.key.ensures ∙ e))
      | else-i-gt0-via-else-i-gt0 w ↦ inl (omega (arith, w.if-i-gt0.false))
    ] in
    let f = Set-missing low high c.args.key c.args.value c.args.i es r (subst (λ x. Ranks c.args.key x c.args.i) keys c.requires.place) (subst (λ x. (c.args.i ≡ 0) ⊎ (get_or x (c.args.i - 1) 0 ≢ c.args.key)) keys other) in
    record {
      front = c.insert.ensures.items ∙ ap (λ x. insert x c.args.i c.args.key) keys ∙ f.front;
      back = c.insert-2.ensures.items ∙ ap (λ x. insert x c.args.i c.args.value) slots ∙ f.back;
    }

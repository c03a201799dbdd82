use Rattle.std.proofs.Common.{◌≡◌, ◌≢◌, ◌⊎◌, ◌-◌, ◌∙◌, ap, sym, subst, arith, length, get_or, inl, inr, ℕ}
use Rattle.std.specs.List.{remove}
use Rattle.std.proofs.lemmas.List.{length-map}
use Rattle.envy_btree.specs.Nodes.{Ranks}
use Rattle.envy_btree.proofs.Setting.{Dropped-found, Dropped-missing}
use Rattle.envy_btree.proofs.node.drop_pair.Goals as goal
use Rattle.envy_btree.proofs.node.drop_pair.Goals.{else-i-gt0-via-then-i-gt0+else-key, else-i-gt0-via-else-i-gt0}

pub returns-then-key-clause-pairs : goal.returns-then-key-clause-pairs
returns-then-key-clause-pairs c low high es r keys slots =
    let lt = c.requires.place.within in
    let f = Dropped-found low high c.args.key (c.args.i - 1) es (omega (arith, lt, ap length keys, length-map es (λ (e : ℕ × ℕ). e.0), c.if-i-gt0.true)) r (ap (λ x. get_or x (c.args.i - 1) 0) (sym keys) ∙ sym c.key.ensures ∙ c.if-key.true) in
    record {
      front = c.remove.ensures.items ∙ ap (λ x. remove x (c.args.i - 1)) keys ∙ f.front;
      back = c.remove-then-key.ensures.items ∙ ap (λ x. remove x (c.args.i - 1)) slots ∙ f.back;
    }

pub returns-else-i-gt0-clause-pairs : goal.returns-else-i-gt0-clause-pairs
returns-else-i-gt0-clause-pairs c low high es r keys slots =
    let other : (c.args.i ≡ 0) ⊎ (get_or c.args.node.now.keys.items (c.args.i - 1) 0 ≢ c.args.key) = elim c.else-i-gt0.branch [
      | else-i-gt0-via-then-i-gt0+else-key w ↦ inr (λ e. w.if-key.false (w.key.ensures ∙ e))
      | else-i-gt0-via-else-i-gt0 w ↦ inl (omega (arith, w.if-i-gt0.false))
    ] in
    let f = Dropped-missing low high c.args.key c.args.i es r (subst (λ x. Ranks c.args.key x c.args.i) keys c.requires.place) (subst (λ x. (c.args.i ≡ 0) ⊎ (get_or x (c.args.i - 1) 0 ≢ c.args.key)) keys other) in
    record { front = keys ∙ f.front; back = slots ∙ f.back }

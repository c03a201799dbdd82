use Rattle.std.proofs.Common.{rules, ◌≡◌, ◌<◌, ◌≤◌, ◌∙◌, true, false, ℕ, List, length, subst, sym}
use Rattle.std.proofs.lemmas.List.{take_rest}
use Rattle.envy_journal.specs.Cutting.{begins_batch}
use Rattle.envy_journal.proofs.Cut.{has_further, has_here, has_past}
use Rattle.envy_journal.proofs.cut_end.has_batch.Goals as goal

pub returns-then-begins_batch : goal.returns-then-begins_batch
returns-then-begins_batch c =
    let bytes = c.args.bytes.now in
    let lt : c.loop-at.at < length bytes = search rules in
    let is = subst (λ (l : List ℕ). begins_batch l ≡ true) (take_rest bytes c.loop-at.at) (sym c.begins_batch.ensures ∙ c.if-begins_batch.true) in
    sym (has_here bytes c.loop-at.at lt is) ∙ c.loop-at.invariant

pub loop-at-preserved : goal.loop-at-preserved
loop-at-preserved c =
    let bytes = c.args.bytes.now in
    let lt : c.loop-at.at < length bytes = search rules in
    let not = subst (λ (l : List ℕ). begins_batch l ≡ false) (take_rest bytes c.loop-at.at) (sym c.begins_batch.ensures ∙ c.if-begins_batch.false) in
    sym (has_further bytes c.loop-at.at lt not) ∙ c.loop-at.invariant

pub returns : goal.returns
returns c =
    let past : length c.args.bytes.now ≤ c.loop-at.at = search rules in
    sym (has_past c.args.bytes.now c.loop-at.at past) ∙ c.loop-at.invariant

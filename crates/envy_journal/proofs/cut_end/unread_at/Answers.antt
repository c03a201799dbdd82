use Rattle.std.proofs.Common.{rules, ◌≡◌, ◌<◌, ◌≤◌, ◌+◌, ◌∙◌, Bool, true, false, ℕ, List, get_or, length, drop, subst, sym, arith}
use Rattle.std.proofs.lemmas.List.{take_rest, drop_all}
use Rattle.envy_journal.specs.Cutting.{unread}
use Rattle.envy_journal.specs.Reading.{is_open}
use Rattle.envy_journal.proofs.Cut.{breaks, passes_gate, passes_operation, passes_stop, passes_total, stays_at, unread_past, unread_skip}
use Rattle.envy_journal.proofs.cut_end.unread_at.Goals as goal

at_gate : (bytes : List ℕ) (at : ℕ) (within known : Bool) → within ≡ known → unread within 0 (drop at bytes) ≡ unread false 33 bytes → unread known 0 (drop at bytes) ≡ unread false 33 bytes
at_gate bytes at within known is so_far = subst (λ (w : Bool). unread w 0 (drop at bytes) ≡ unread false 33 bytes) is so_far

pub loop-at-init : goal.loop-at-init
loop-at-init c = sym (unread_skip false 33 c.args.bytes.now)

pub returns-then-not-is_open-clause-from : goal.returns-then-not-is_open-clause-from
returns-then-not-is_open-clause-from c =
    let bytes = c.args.bytes.now in
    let at = c.loop-at.at in
    let gate : c.loop-at.within ≡ false = search rules in
    let lt : at < length bytes = search rules in
    let not = subst (λ (l : List ℕ). is_open (get_or bytes at 0) l ≡ false) (take_rest bytes (at + 1)) (sym c.is_open.ensures ∙ c.if-not-is_open.true) in
    stays_at bytes at lt not ∙ at_gate bytes at c.loop-at.within false gate c.loop-at.invariant

pub loop-at-preserved-then-not-within : goal.loop-at-preserved-then-not-within
loop-at-preserved-then-not-within c =
    let bytes = c.args.bytes.now in
    let at = c.loop-at.at in
    let gate : c.loop-at.within ≡ false = search rules in
    let lt : at < length bytes = search rules in
    let is = subst (λ (l : List ℕ). is_open (get_or bytes at 0) l ≡ true) (take_rest bytes (at + 1)) (sym c.is_open.ensures ∙ c.if-not-is_open.false) in
    sym (passes_gate bytes at lt is) ∙ at_gate bytes at c.loop-at.within false gate c.loop-at.invariant

pub loop-at-preserved-then-tag-eq-STOP : goal.loop-at-preserved-then-tag-eq-STOP
loop-at-preserved-then-tag-eq-STOP c =
    let bytes = c.args.bytes.now in
    let at = c.loop-at.at in
    let batch : c.loop-at.within ≡ true = search rules in
    let lt : at < length bytes = search rules in
    sym (passes_stop bytes at lt c.if-tag-eq-STOP.true) ∙ at_gate bytes at c.loop-at.within true batch c.loop-at.invariant

pub loop-at-preserved-then-tag-eq-TOTAL : goal.loop-at-preserved-then-tag-eq-TOTAL
loop-at-preserved-then-tag-eq-TOTAL c =
    let bytes = c.args.bytes.now in
    let at = c.loop-at.at in
    let batch : c.loop-at.within ≡ true = search rules in
    let lt : at < length bytes = search rules in
    sym (passes_total bytes at lt c.if-tag-eq-STOP.false c.if-tag-eq-TOTAL.true) ∙ at_gate bytes at c.loop-at.within true batch c.loop-at.invariant

pub returns-then-size-eq0-clause-from : goal.returns-then-size-eq0-clause-from
returns-then-size-eq0-clause-from c =
    let bytes = c.args.bytes.now in
    let at = c.loop-at.at in
    let batch : c.loop-at.within ≡ true = search rules in
    let lt : at < length bytes = search rules in
    drop_all (length bytes) bytes (omega arith)
    ∙ sym (breaks bytes at lt c.if-tag-eq-STOP.false c.if-tag-eq-TOTAL.false (sym c.size_behind-size.ensures.value ∙ c.if-size-eq0.true))
    ∙ at_gate bytes at c.loop-at.within true batch c.loop-at.invariant

pub loop-at-preserved : goal.loop-at-preserved
loop-at-preserved c =
    let bytes = c.args.bytes.now in
    let at = c.loop-at.at in
    let batch : c.loop-at.within ≡ true = search rules in
    let lt : at < length bytes = search rules in
    subst (λ (w : Bool). unread w 0 (drop (at + (c.size_behind-size.result + 1)) bytes) ≡ unread false 33 bytes) (sym batch)
    (sym (passes_operation bytes at lt c.size_behind-size.result c.size_behind-size.ensures.value c.if-tag-eq-STOP.false c.if-tag-eq-TOTAL.false c.if-size-eq0.false) ∙ at_gate bytes at c.loop-at.within true batch c.loop-at.invariant)

pub returns-clause-from : goal.returns-clause-from
returns-clause-from c =
    let bytes = c.args.bytes.now in
    let past : length bytes ≤ c.loop-at.at = search rules in
    drop_all (length bytes) bytes (omega arith) ∙ sym (unread_past c.loop-at.within bytes c.loop-at.at past) ∙ c.loop-at.invariant

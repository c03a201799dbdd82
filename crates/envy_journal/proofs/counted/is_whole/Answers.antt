use Rattle.std.proofs.Common.{◌∙◌, ◌+◌, ◌<◌, ◌≤◌, ℕ, List, length, take, drop, sym, ap, subst, arith, length-drop, length-take}
use Rattle.std.proofs.lemmas.Bool.{lt-leb}
use Rattle.std.proofs.lemmas.List.{take_rest}
use Rattle.std.specs.Int.{w64, from_le_bytes}
use Rattle.envy_journal.specs.Reading.{whole, zeros}
use Rattle.envy_journal.proofs.Front.{total_found, total_short, none_found, cut_found, operation_found, none_behind}
use Rattle.envy_journal.proofs.counted.is_whole.Goals.{then-size-eq0-via-then-size-eq0, then-size-eq0-via-else-size-eq0+then-size-rest}
use Rattle.envy_journal.proofs.counted.is_whole.Goals as goal

pub returns-then-rest-ge8 : goal.returns-then-rest-ge8
returns-then-rest-ge8 c =
    let bytes = c.args.bytes.now in
    let at = c.loop-at.at in
    let rest = take_rest bytes (at + 1) in
    total_found bytes at c.loop-at.count c.loop-at-test.true c.word_at.result c.if-bytes-at-eq-TOTAL.true (subst (λ (l : List ℕ). 8 ≤ length l) rest c.if-rest-ge8.true)
    (c.word_at.ensures ∙ ap (λ (l : List ℕ). from_le_bytes w64 (take 8 l)) rest)
    ∙ sym c.loop-at.invariant.0

pub returns-else-rest-ge8 : goal.returns-else-rest-ge8
returns-else-rest-ge8 c =
    let bytes = c.args.bytes.now in
    let at = c.loop-at.at in
    let short = subst (λ (l : List ℕ). length l < 8) (take_rest bytes (at + 1)) c.if-rest-ge8.false in
    lt-leb 8 _ c.if-rest-ge8.false ∙ sym (total_short bytes at c.loop-at.count c.loop-at-test.true c.if-bytes-at-eq-TOTAL.true short) ∙ sym c.loop-at.invariant.0

pub returns-then-size-eq0 : goal.returns-then-size-eq0
returns-then-size-eq0 c =
    let bytes = c.args.bytes.now in
    let at = c.loop-at.at in
    let is = c.size_behind-size.ensures.value in
    elim c.then-size-eq0.branch [
      | then-size-eq0-via-then-size-eq0 w ↦ sym (c.loop-at.invariant.0 ∙ none_found bytes at c.loop-at.count c.loop-at-test.true c.size_behind-size.result c.if-bytes-at-eq-TOTAL.false is w.if-size-eq0.true)
      | then-size-eq0-via-else-size-eq0+then-size-rest w ↦
          let short = subst (λ (l : List ℕ). length l < c.size_behind-size.result) (take_rest bytes (at + 1)) w.if-size-rest.true in
          sym (c.loop-at.invariant.0 ∙ cut_found bytes at c.loop-at.count c.loop-at-test.true c.size_behind-size.result is w.if-size-eq0.false short)
    ]

pub loop-at-preserved : goal.loop-at-preserved
loop-at-preserved c =
    let bytes = c.args.bytes.now in
    let at = c.loop-at.at in
    let size = c.size_behind-size.result in
    let n = c.loop-at.count in
    let rest = take_rest bytes (at + 1) in
    let fits = subst (λ (l : List ℕ). size ≤ length l) rest c.if-size-rest.false in
    let counted = c.zeros-count.ensures.value ∙ ap (λ (l : List ℕ). zeros (take size l)) rest in
    let few = c.zeros-count.ensures.few in (
      c.loop-at.invariant.0
          ∙ operation_found bytes at n c.loop-at-test.true size c.size_behind-size.ensures.value c.if-size-eq0.false fits
          ∙ ap (λ (k : ℕ). whole (n + k) 0 (drop (at + (size + 1)) bytes)) (sym counted),
      omega (arith, few, length-take {A = ℕ}, c.loop-at.invariant.1),
      omega (arith, fits, length-drop (at + 1) bytes, c.loop-at-test.true),
    )

pub returns : goal.returns
returns c =
    let bytes = c.args.bytes.now in
    sym (c.loop-at.invariant.0 ∙ none_behind bytes c.loop-at.at c.loop-at.count c.loop-at-test.false)

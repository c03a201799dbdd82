use Rattle.std.proofs.Common.{sym, ◌∙◌, ◌/◌, ◌<◌, length, get_or, subst, ℕ}
use Rattle.envy_plain.proofs.Turns.{blank, release_taken, release_none, release_skip}
use Rattle.envy_plain.proofs.saved_word.release.Goals as goal
use Rattle.envy_plain.proofs.saved_word.release.Goals.{then-word-slot+then-is_some, else-word-slot, else-word-slot-via-then-word-slot+else-is_some, else-word-slot-via-else-word-slot}

pub loop-word-preserved : goal.loop-word-preserved
loop-word-preserved c =
    let old = c.args.owners.now in
    let now = c.loop-word.owners in
    let xs = c.args.saved.now in
    let i = c.loop-word.word-index in
    let lt = c.loop-word-test.true in
    let room : (get_or xs i blank).address / 32 < length now = subst (λ (n : ℕ). (get_or xs i blank).address / 32 < n) (sym c.loop-word.auto.owners) (c.requires.in_range i blank lt) in
    elim c.if-word-slot.branch [
      | then-word-slot+then-is_some w ↦ release_taken old now _ c.args.slot xs i c.loop-word.pages _ lt w.if-word-slot.true room (sym w.is_some.ensures ∙ w.if-is_some.true) c.loop-word.invariant w.owners-is w.pages-is
      | else-word-slot w ↦ elim w.else-word-slot.branch [
        | else-word-slot-via-then-word-slot+else-is_some v ↦ release_none old now _ c.args.slot xs i c.loop-word.pages _ lt v.if-word-slot.true (sym v.is_some.ensures ∙ v.if-is_some.false) c.loop-word.invariant w.owners-is w.pages-is
        | else-word-slot-via-else-word-slot v ↦ release_skip old now _ c.args.slot xs i c.loop-word.pages _ lt v.if-word-slot.false c.loop-word.invariant w.owners-is w.pages-is
      ]
    ]

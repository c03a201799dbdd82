use Rattle.std.proofs.Common.{◌≡◌, ℕ, ◌+◌, ◌*◌, List, [], ◌∷◌, length, take, drop, subst, arith}
use Rattle.std.specs.Int.{w32, from_le_bytes}
use Rattle.std.proofs.lemmas.List.{take_rest}
use Rattle.envy_journal.specs.declared.replay.Item.TheVariants.{Open, Close, Run, Operation as Whole, End}
use Rattle.envy_journal.specs.Found.{Finds, run_at}
use Rattle.envy_journal.proofs.Undone.{behind_head, behind_gate, behind_batch, some_done, none_done}
use Rattle.envy_journal.proofs.Words.{puts_long}
use Rattle.envy_journal.proofs.replay.has_operations.Goals as goal

pub loop-at-init : goal.loop-at-init
loop-at-init c = behind_head c.args.bytes.now c.requires

pub loop-at-preserved-in-Open : goal.loop-at-preserved-in-Open
loop-at-preserved-in-Open c =
    let bytes = c.args.bytes.now in
    let found = subst (λ (l : List ℕ). Finds c.loop-at.within l Open) (take_rest bytes c.loop-at.at) c.in-Open.ensures.finds in
    behind_gate bytes c.loop-at.at c.loop-at.within c.loop-at.invariant found.0 found.1 found.2

pub loop-at-preserved : goal.loop-at-preserved
loop-at-preserved c =
    let bytes = c.args.bytes.now in
    let item = c.in-Close in
    let found = subst (λ (l : List ℕ). Finds c.loop-at.within l (Close item.size)) (take_rest bytes c.loop-at.at) item.ensures.finds in
    behind_batch bytes c.loop-at.at c.loop-at.within c.loop-at.invariant item.size found.0 found.2 found.3

pub returns-in-Operation-clause-some : goal.returns-in-Operation-clause-some
returns-in-Operation-clause-some c = λ is.
    let bytes = c.args.bytes.now in
    let item = c.in-Operation in
    let found = subst (λ (l : List ℕ). Finds c.loop-at.within l (Whole item.field-0 item.field-1)) (take_rest bytes c.loop-at.at) item.ensures.finds in
    some_done bytes c.loop-at.at c.loop-at.within c.loop-at.invariant (item.field-0 ∷ []) item.field-1 (λ none. omega (arith, none)) found.0 found.3

pub returns-in-End-clause-none : goal.returns-in-End-clause-none
returns-in-End-clause-none c = λ is.
    let bytes = c.args.bytes.now in
    let ends = subst (λ (l : List ℕ). Finds c.loop-at.within l End) (take_rest bytes c.loop-at.at) c.in-End.ensures.finds in
    none_done bytes c.loop-at.at c.loop-at.within c.loop-at.invariant ends

pub returns-in-Run-clause-some : goal.returns-in-Run-clause-some
returns-in-Run-clause-some c = λ is.
    let bytes = c.args.bytes.now in
    let at = c.loop-at.at in
    let n = c.in-Run.field-0 in
    let found = subst (λ (l : List ℕ). Finds c.loop-at.within l (Run n)) (take_rest bytes at) c.in-Run.ensures.finds in
    let back = drop at bytes in
    let long : length (run_at n back) ≡ n = puts_long n (from_le_bytes w32 (take 4 (drop 1 back))) (drop 5 back) in
    some_done bytes at c.loop-at.within c.loop-at.invariant (run_at n back) (5 + 8 * n) (λ none. omega (arith, none, long, found.1)) found.0 found.3

use Rattle.std.proofs.Common.{rules, ◌≡◌, ◌+◌, ◌*◌, ◌≤◌, Bool, true, ℕ, List, length, drop, subst, sym, arith}
use Rattle.std.specs.List.{All}
use Rattle.envy_journal.specs.Content.{after, content_of, HasMisfit, IsWithin}
use Rattle.std.proofs.lemmas.List.{take_rest}
use Rattle.envy_journal.specs.declared.replay.Item.TheVariants.{Open, Close, Run, Operation as Whole, End}
use Rattle.envy_journal.specs.Found.{Counts, Finds, IsDamaged, Stops, run_at}
use Rattle.envy_journal.proofs.Replayed.{HasDone, all_fit, at_gate, done_none, done_open, done_close, done_more, done_these, in_batch, misfit_found, misfits_found}
use Rattle.envy_journal.proofs.replay.replay_file.Goals as goal

pub loop-at-preserved-in-Open : goal.loop-at-preserved-in-Open
loop-at-preserved-in-Open g c =
    let s = g.B.Board.state in
    let bytes = c.args.bytes.now in
    let found = subst (λ (l : List ℕ). Finds c.loop-at.within l Open) (take_rest bytes c.loop-at.at) c.in-Open.ensures.finds in
    done_open (s c.args.board.now) (s c.loop-at.board) bytes c.loop-at.at c.loop-at.within c.loop-at.invariant found.0 found.1 found.2

pub loop-at-preserved-in-Close : goal.loop-at-preserved-in-Close
loop-at-preserved-in-Close g c =
    let s = g.B.Board.state in
    let bytes = c.args.bytes.now in
    let item = c.in-Close in
    let found = subst (λ (l : List ℕ). Finds c.loop-at.within l (Close item.size)) (take_rest bytes c.loop-at.at) item.ensures.finds in
    let counts = subst (λ (l : List ℕ). Counts l (Close item.size)) (take_rest bytes c.loop-at.at) (item.ensures.counts found.0) in
    done_close (s c.args.board.now) (s c.loop-at.board) bytes c.loop-at.at c.loop-at.within c.loop-at.invariant item.size found.0 found.2 found.3 counts

pub loop-at-preserved : goal.loop-at-preserved
loop-at-preserved g c =
    let s = g.B.Board.state in
    let bytes = c.args.bytes.now in
    let item = c.in-Operation in
    let found = subst (λ (l : List ℕ). Finds c.loop-at.within l (Whole item.operation item.size)) (take_rest bytes c.loop-at.at) item.ensures.finds in
    let counts = subst (λ (l : List ℕ). Counts l (Whole item.operation item.size)) (take_rest bytes c.loop-at.at) (item.ensures.counts found.0) in
    let more = done_more (s c.args.board.now) (s c.loop-at.board) bytes c.loop-at.at c.loop-at.within c.loop-at.invariant (s c.redo.new.board) item.operation item.size found.0 found.1 found.2 found.3 counts c.in-Ok-redo.ensures.within c.redo.ensures.shape c.in-Ok-redo.ensures.ok in
    subst (λ (w : Bool). HasDone (s c.args.board.now) (s c.redo.new.board) bytes (c.loop-at.at + item.size) w) (sym found.0) more

pub loop-at-init : goal.loop-at-init
loop-at-init g c = done_none (g.B.Board.state c.args.board.now) c.args.bytes.now c.requires

pub returns-in-Err-redo-clause-misfit : goal.returns-in-Err-redo-clause-misfit
returns-in-Err-redo-clause-misfit g c = λ is.
    let s = g.B.Board.state in
    let bytes = c.args.bytes.now in
    let item = c.in-Operation in
    let found = subst (λ (l : List ℕ). Finds c.loop-at.within l (Whole item.operation item.size)) (take_rest bytes c.loop-at.at) item.ensures.finds in
    misfit_found (s c.args.board.now) (s c.loop-at.board) bytes c.loop-at.at c.loop-at.within c.loop-at.invariant item.operation item.size found.0 found.3 c.in-Err-redo.ensures.misfit

pub returns-then-within-clause-damaged : goal.returns-then-within-clause-damaged
returns-then-within-clause-damaged g c = λ place is.
    let s = g.B.Board.state in
    let bytes = c.args.bytes.now in
    let at = c.loop-at.at in
    let here : at ≡ place = search rules in
    let rest = take_rest bytes at in
    let ends = subst (λ (l : List ℕ). Finds c.loop-at.within l End) rest c.in-End.ensures.finds in
    let stops = subst (λ (l : List ℕ). Stops c.loop-at.within l End) rest c.in-End.ensures.stops in
    let counts : c.loop-at.within ≡ true → (n : ℕ) → _ = λ batch. subst (λ (l : List ℕ). Counts l End) rest (c.in-End.ensures.counts batch) in
    let has = c.loop-at.invariant in (
      all_fit (s c.args.board.now) (s c.loop-at.board) bytes at c.loop-at.within has ends,
      subst (λ (k : ℕ). IsDamaged k bytes) here (in_batch (s c.args.board.now) (s c.loop-at.board) bytes at c.loop-at.within has c.if-within.true ends counts stops),
    )

pub returns-else-within-clause-end : goal.returns-else-within-clause-end
returns-else-within-clause-end g c =
    let s = g.B.Board.state in
    let bytes = c.args.bytes.now in
    let at = c.loop-at.at in
    let rest = take_rest bytes at in
    let ends = subst (λ (l : List ℕ). Finds c.loop-at.within l End) rest c.in-End.ensures.finds in
    let stops = subst (λ (l : List ℕ). Stops c.loop-at.within l End) rest c.in-End.ensures.stops in
    at_gate (s c.args.board.now) (s c.loop-at.board) bytes at c.loop-at.within c.loop-at.invariant c.if-within.false ends stops

pub returns-else-within-clause-within : goal.returns-else-within-clause-within
returns-else-within-clause-within g c =
    let s = g.B.Board.state in
    let bytes = c.args.bytes.now in
    let ends = subst (λ (l : List ℕ). Finds c.loop-at.within l End) (take_rest bytes c.loop-at.at) c.in-End.ensures.finds in
    all_fit (s c.args.board.now) (s c.loop-at.board) bytes c.loop-at.at c.loop-at.within c.loop-at.invariant ends

-- a run, whose puts are done one after another
pub loop-at-preserved-in-Run : goal.loop-at-preserved-in-Run
loop-at-preserved-in-Run g c =
    let s = g.B.Board.state in
    let bytes = c.args.bytes.now in
    let at = c.loop-at.at in
    let item = c.in-Run in
    let rest = take_rest bytes at in
    let found = subst (λ (l : List ℕ). Finds c.loop-at.within l (Run item.count)) rest item.ensures.finds in
    let counts = subst (λ (l : List ℕ). Counts l (Run item.count)) rest (item.ensures.counts found.0) in
    let did = c.in-Ok.ensures in
    let fits = subst (λ (l : List ℕ). All (IsWithin (s c.loop-at.board).shape) (run_at item.count l)) rest did.within in
    let content = subst (λ (l : List ℕ). content_of (s c.redo_run.new.board) ≡ after (s c.loop-at.board).shape.rows (run_at item.count l) (content_of (s c.loop-at.board))) rest did.ok in
    let more = done_these (s c.args.board.now) (s c.loop-at.board) bytes at c.loop-at.within c.loop-at.invariant (s c.redo_run.new.board) (run_at item.count (drop at bytes)) (5 + 8 * item.count) found.0 (omega arith) found.2 found.3 counts fits c.redo_run.ensures.shape content in
    subst (λ (w : Bool). HasDone (s c.args.board.now) (s c.redo_run.new.board) bytes (at + (5 + 8 * item.count)) w) (sym found.0) more

pub returns-in-Err-clause-misfit : goal.returns-in-Err-clause-misfit
returns-in-Err-clause-misfit g c = λ is.
    let s = g.B.Board.state in
    let bytes = c.args.bytes.now in
    let at = c.loop-at.at in
    let item = c.in-Run in
    let rest = take_rest bytes at in
    let found = subst (λ (l : List ℕ). Finds c.loop-at.within l (Run item.count)) rest item.ensures.finds in
    let misfit = subst (λ (l : List ℕ). HasMisfit (s c.loop-at.board).shape (run_at item.count l)) rest c.in-Err.ensures.misfit in
    misfits_found (s c.args.board.now) (s c.loop-at.board) bytes at c.loop-at.within c.loop-at.invariant (run_at item.count (drop at bytes)) (5 + 8 * item.count) found.0 found.3 misfit

pub redo_run-requires : goal.redo_run-requires
redo_run-requires g c =
    let found = subst (λ (l : List ℕ). Finds c.loop-at.within l (Run c.in-Run.count)) (take_rest c.args.bytes.now c.loop-at.at) c.in-Run.ensures.finds in
    subst (λ (l : List ℕ). 5 + 8 * c.in-Run.count ≤ length l) (sym (take_rest c.args.bytes.now c.loop-at.at)) found.2

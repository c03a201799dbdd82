use Rattle.std.proofs.Common.{◌≡◌, inl, inr, ℕ, ◌-◌, ◌*◌, Option, ap, subst, arith}
use Rattle.std.proofs.lemmas.Bool.{cases_lt}
use Rattle.envy_base.specs.Shape.{IsShape}
use Rattle.envy_base.specs.State.{IsBoard}
use Rattle.envy_base.specs.declared.shape.Shape.{Shape}
use Rattle.envy_map.specs.Fields.{chart}
use Rattle.envy_soundness.specs.declared.rows.Kept.{Kept}
use Rattle.envy_soundness.specs.Naming.{Keeps}
use Rattle.envy_soundness.specs.Sound.{Sound, Numbers, Names}
use Rattle.envy_soundness.proofs.Claimed.{row-range}
use Rattle.envy_soundness.proofs.NamingLemmas.{Names-named}
use Rattle.envy_reloc.proofs.CopyLemmas.{kept-within, segment-of, not-below, below-unless}
use Rattle.envy_reloc.proofs.Exits.{none-if}
use Rattle.envy_reloc.proofs.row_copy.next_kept.Goals as goal

pub returns-in-Some-clause-next : goal.returns-in-Some-clause-next
returns-in-Some-clause-next g c =
    let now = chart (g.B.Board.state c.args.board.now) in
    let row = c.loop-row.row in
    let inv = c.loop-row.invariant in
    let keeps = subst (λ (k : Option Kept). Keeps now.shape now.fields row k) c.in-Some.is c.in_ok-kept.ensures.keeps in
    let fits = Numbers.fills_fit (Sound.numbers c.requires.sound) c.args.segment in
    let claimed = c.requires.claimed in
    let less = c.loop-row-test.true in
    let first : c.args.segment * c.shape.result.rows ≡ c.args.segment * now.shape.rows = ap (λ (sh : Shape). c.args.segment * sh.rows) c.shape.ensures in
    let above = inv.above in (
      segment-of now.shape.rows c.args.segment row above (omega arith),
      inv.marked,
      (c.in-Some.kept.page, Names-named now.fields c.in-Some.kept.page row c.in-Some.kept.undo keeps.2),
      keeps.1,
      keeps.0,
      λ p q names here le. not-below q row (inv.none p q names here le),
    )

pub returns-clause-next : goal.returns-clause-next
returns-clause-next g c = λ p q names here.
    let now = chart (g.B.Board.state c.args.board.now) in
    let some = IsShape.rows (IsBoard.shape (g.met.B.Board.lawful c.args.board.now)) in
    let within = kept-within now.shape now.fields now.flash p q c.args.segment c.requires.sound (omega arith) names here in
    let claimed = c.requires.claimed in
    let end = c.loop-row-test.false in
    let first : c.args.segment * c.shape.result.rows ≡ c.args.segment * now.shape.rows = ap (λ (sh : Shape). c.args.segment * sh.rows) c.shape.ensures in
    let low = within.1 in
    below-unless q c.args.mark (λ le. c.loop-row.invariant.none p q names here le (omega arith))

pub overflow_mul-first : goal.overflow_mul-first
overflow_mul-first g c =
    let now = chart (g.B.Board.state c.args.board.now) in
    let first : c.args.segment * c.shape.result.rows ≡ c.args.segment * now.shape.rows = ap (λ (sh : Shape). c.args.segment * sh.rows) c.shape.ensures in
    let two = IsShape.rows (IsBoard.shape (g.met.B.Board.lawful c.args.board.now)) in
    let few = IsShape.few (IsBoard.shape (g.met.B.Board.lawful c.args.board.now)) in
    let range = row-range now.shape c.args.segment 0 c.requires.segment (omega arith) in
    omega arith

pub overflow_add-row-end : goal.overflow_add-row-end
overflow_add-row-end g c =
    let now = chart (g.B.Board.state c.args.board.now) in
    let first : c.args.segment * c.shape.result.rows ≡ c.args.segment * now.shape.rows = ap (λ (sh : Shape). c.args.segment * sh.rows) c.shape.ensures in
    let two = IsShape.rows (IsBoard.shape (g.met.B.Board.lawful c.args.board.now)) in
    let few = IsShape.few (IsBoard.shape (g.met.B.Board.lawful c.args.board.now)) in
    let fits = Numbers.fills_fit (Sound.numbers c.requires.sound) c.args.segment in
    let claimed = c.requires.claimed in
    let range = row-range now.shape c.args.segment (now.shape.rows - 1) c.requires.segment (omega arith) in
    omega arith

pub loop-row-init : goal.loop-row-init
loop-row-init g c =
    let now = chart (g.B.Board.state c.args.board.now) in
    let first : c.args.segment * c.shape.result.rows ≡ c.args.segment * now.shape.rows = ap (λ (sh : Shape). c.args.segment * sh.rows) c.shape.ensures in
    let two = IsShape.rows (IsBoard.shape (g.met.B.Board.lawful c.args.board.now)) in
    record {
      above = omega arith;
      marked = omega arith;
      none = λ p q names here le lt.
          let low = (kept-within now.shape now.fields now.flash p q c.args.segment c.requires.sound (omega arith) names here).0 in
          absurd (omega arith);
    }

pub row_owner-requires-clause-row : goal.row_owner-requires-clause-row
row_owner-requires-clause-row g c =
    let now = chart (g.B.Board.state c.args.board.now) in
    let first : c.args.segment * c.shape.result.rows ≡ c.args.segment * now.shape.rows = ap (λ (sh : Shape). c.args.segment * sh.rows) c.shape.ensures in
    let two = IsShape.rows (IsBoard.shape (g.met.B.Board.lawful c.args.board.now)) in
    let fits = Numbers.fills_fit (Sound.numbers c.requires.sound) c.args.segment in
    let claimed = c.requires.claimed in
    let above = c.loop-row.invariant.above in
    let less = c.loop-row-test.true in
    let range = row-range now.shape c.args.segment (c.loop-row.row - c.args.segment * now.shape.rows) c.requires.segment (omega arith) in
    omega arith

pub returns-in_err-kept-clause-next : goal.returns-in_err-kept-clause-next
returns-in_err-kept-clause-next g c = none-if c.from_residual.result _ _ c.from_residual.ensures.1

pub loop-row-preserved : goal.loop-row-preserved
loop-row-preserved g c =
    let now = chart (g.B.Board.state c.args.board.now) in
    let inv = c.loop-row.invariant in
    let keeps = subst (λ (k : Option Kept). Keeps now.shape now.fields c.loop-row.row k) c.in_default.is c.in_ok-kept.ensures.keeps in
    let above = inv.above in
    let marked = inv.marked in
    record {
      above = omega arith;
      marked = omega arith;
      none = λ p q names here le lt. elim (cases_lt q c.loop-row.row) [
        | inl less ↦ inv.none p q names here le less
        | inr more ↦ (let same : q ≡ c.loop-row.row = omega arith in keeps p (subst (λ (r : ℕ). Names now.fields p r) same names))
      ];
    }

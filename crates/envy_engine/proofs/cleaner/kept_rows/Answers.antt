use Rattle.std.proofs.Common.{◌≡◌, ◌*◌, ◌+◌, ◌/◌, ◌<◌, ◌≤◌, ◌∷◌, ◌++◌, [], ℕ, List, get_or, length, ap, ◌∙◌, sym, subst, arith}
use Rattle.std.proofs.lemmas.Bool.{eqb-true, eqb-false}
use Rattle.std.proofs.lemmas.Nat.{mul-add-lt}
use Rattle.envy_base.specs.State.{IsBoard}
use Rattle.envy_base.specs.declared.shape.Shape.{Shape}
use Rattle.envy_map.specs.Fields.{chart}
use Rattle.envy_engine.specs.Agreement.{Fits}
use Rattle.envy_engine.specs.Cleaning.{AreLowestKept}
use Rattle.envy_soundness.proofs.References.{row-of}
use Rattle.envy_engine.proofs.CleanLemmas.{All-push}
use Rattle.envy_engine.proofs.KeptLemmas.{Found, Found-start, Found-kept, Found-dead, Found-four, Found-whole, kept-found, dead-found}
use Rattle.envy_reloc.proofs.Exits.{unpowered}
use Rattle.envy_engine.proofs.cleaner.kept_rows.Goals.{then-is_some, else-is_some}
use Rattle.envy_engine.proofs.cleaner.kept_rows.Goals as goal

pub loop-i-init : goal.loop-i-init
loop-i-init g c =
    let old = chart (g.B.Board.state c.args.board.now) in
    let s = c.segment_at-segment.result in
    let shape : c.shape.result.rows ≡ old.shape.rows = ap (λ (sh : Shape). sh.rows) c.shape.ensures in
    let start : s * old.shape.rows ≡ s * c.shape.result.rows + 0 = rw shape (omega arith) in
    record {
      rows = λ k d lt. absurd (let none = ap length c.new-rows.ensures in omega arith);
      found = subst (λ (xs : List ℕ). Found old.shape old.fields s (s * c.shape.result.rows + 0) xs) (sym c.new-rows.ensures) (subst (λ (m : ℕ). Found old.shape old.fields s m []) start (Found-start old.shape old.fields s));
      few = let none = ap length c.new-rows.ensures in omega arith;
    }

pub loop-i-preserved : goal.loop-i-preserved
loop-i-preserved g c =
    let n = (g.B.Board.state c.args.board.now).shape.rows in
    let old = chart (g.B.Board.state c.args.board.now) in
    let s = c.segment_at-segment.result in
    elim c.if-is_some.branch [
      | then-is_some w ↦
          let pool : get_or c.args.parts.now.space.fills s 0 ≤ c.args.parts.now.space.shape.rows = c.fill-i-end.ensures.pool.fills_fit s in
          let rows : c.args.parts.now.space.shape.rows ≡ n = ap (λ (sh : Shape). sh.rows) (Fits.pool c.requires.ready.fits) in
          let test = c.loop-i-test.true in
          let fill = c.fill-i-end.ensures.fill in
          let small : c.loop-i.i < n = omega arith in
          let shape : c.shape.result.rows ≡ n = ap (λ (sh : Shape). sh.rows) c.shape.ensures in
          let m = s * c.shape.result.rows + c.loop-i.i in
          let own : m / n ≡ s = rw shape (row-of n s c.loop-i.i small).0 in
          let next : m + 1 ≡ s * c.shape.result.rows + (c.loop-i.i + 1) = omega arith in
          record {
            found = rw (w.rows-is, w.push.ensures.items) (subst (λ (k : ℕ). Found old.shape old.fields s k (c.loop-i.rows.items ++ m ∷ [])) next (Found-kept old.shape old.fields s m c.loop-i.rows.items own (kept-found old.shape old.fields m c.in_ok-row_owner.field-0 c.in_ok-row_owner.ensures.keeps (sym c.is_some.ensures ∙ w.if-is_some.true)) c.loop-i.invariant.found));
            rows = rw (w.rows-is, w.push.ensures.items, shape) (All-push (λ (q : ℕ). q / n ≡ s) c.loop-i.rows.items (s * n + c.loop-i.i) c.loop-i.invariant.rows (row-of n s c.loop-i.i small).0);
            few = rw w.rows-is (let more = w.push.ensures.len in let others = eqb-false (length c.loop-i.rows.items) 4 (sym c.is_full.ensures.value ∙ c.if-is_full.false) in let low = c.loop-i.invariant.few in omega arith);
          }
      | else-is_some w ↦
          let m = s * c.shape.result.rows + c.loop-i.i in
          let next : m + 1 ≡ s * c.shape.result.rows + (c.loop-i.i + 1) = omega arith in
          record {
            found = rw w.rows-is (subst (λ (k : ℕ). Found old.shape old.fields s k c.loop-i.rows.items) next (Found-dead old.shape old.fields s m c.loop-i.rows.items (dead-found old.shape old.fields m c.in_ok-row_owner.field-0 c.in_ok-row_owner.ensures.keeps (sym c.is_some.ensures ∙ w.if-is_some.false)) c.loop-i.invariant.found));
            rows = rw w.rows-is c.loop-i.invariant.rows;
            few = rw w.rows-is c.loop-i.invariant.few;
          }
    ]

pub returns-then-is_full-clause-lowest : goal.returns-then-is_full-clause-lowest
returns-then-is_full-clause-lowest g c =
    let old = chart (g.B.Board.state c.args.board.now) in
    let s = c.segment_at-segment.result in
    let own : s ≡ get_or old.fields.positions c.args.position 0 = c.segment_at-segment.ensures.segment ∙ ap (λ (xs : List ℕ). get_or xs c.args.position 0) c.requires.ready.agrees.pool.positions in
    let four : length c.loop-i.rows.items ≡ 4 = eqb-true (length c.loop-i.rows.items) 4 (sym c.is_full.ensures.value ∙ c.if-is_full.true) in
    subst (λ (v : ℕ). AreLowestKept old.shape old.fields v c.loop-i.rows.items) own (Found-four old.shape old.fields s (s * c.shape.result.rows + c.loop-i.i) c.loop-i.rows.items four c.loop-i.invariant.found)

pub returns-clause-lowest : goal.returns-clause-lowest
returns-clause-lowest g c =
    let old = chart (g.B.Board.state c.args.board.now) in
    let s = c.segment_at-segment.result in
    let pool = c.requires.ready.agrees.pool in
    let shape : c.shape.result.rows ≡ old.shape.rows = ap (λ (sh : Shape). sh.rows) c.shape.ensures in
    let own : s ≡ get_or old.fields.positions c.args.position 0 = c.segment_at-segment.ensures.segment ∙ ap (λ (xs : List ℕ). get_or xs c.args.position 0) pool.positions in
    let fill : c.fill-i-end.result ≡ get_or old.fields.fills s 0 = c.fill-i-end.ensures.fill ∙ ap (λ (xs : List ℕ). get_or xs s 0) pool.fills in
    let past = c.loop-i-test.false in
    let end : s * old.shape.rows + get_or old.fields.fills s 0 ≤ s * c.shape.result.rows + c.loop-i.i = rw shape (omega arith) in
    let some = IsBoard.shape (g.met.B.Board.lawful c.args.board.now) in
    subst (λ (v : ℕ). AreLowestKept old.shape old.fields v c.loop-i.rows.items) own
    (Found-whole old s (s * c.shape.result.rows + c.loop-i.i) c.loop-i.rows.items c.requires.ready.sound (omega arith) end c.loop-i.invariant.few c.loop-i.invariant.found)

pub returns-then-is_full-clause-rows : goal.returns-then-is_full-clause-rows
returns-then-is_full-clause-rows g c = λ k d lt. c.loop-i.invariant.rows k d lt ∙ c.segment_at-segment.ensures.segment

pub returns-clause-rows : goal.returns-clause-rows
returns-clause-rows g c = λ k d lt. c.loop-i.invariant.rows k d lt ∙ c.segment_at-segment.ensures.segment

pub row_owner-requires-clause-row : goal.row_owner-requires-clause-row
row_owner-requires-clause-row g c =
    let n = (g.B.Board.state c.args.board.now).shape.rows in
    let m = (g.B.Board.state c.args.board.now).shape.segments in
    let s = c.segment_at-segment.result in
    let shape : c.shape.result.rows ≡ n = ap (λ (sh : Shape). sh.rows) c.shape.ensures in
    let pool : get_or c.args.parts.now.space.fills s 0 ≤ c.args.parts.now.space.shape.rows = c.fill-i-end.ensures.pool.fills_fit s in
    let rows : c.args.parts.now.space.shape.rows ≡ n = ap (λ (sh : Shape). sh.rows) (Fits.pool c.requires.ready.fits) in
    let segments : c.args.parts.now.space.shape.segments ≡ m = ap (λ (sh : Shape). sh.segments) (Fits.pool c.requires.ready.fits) in
    let test = c.loop-i-test.true in
    let fill = c.fill-i-end.ensures.fill in
    let small : c.loop-i.i < n = omega (arith, pool, rows, test, fill) in
    let own = c.segment_at-segment.ensures.segment in
    let place = c.requires.position in
    let at = c.segment_at-segment.ensures.pool.positions_fit c.args.position (omega (arith, segments, place)) in
    let low : s < m = omega (arith, at, own, segments) in
    rw shape (omega (arith, mul-add-lt s n c.loop-i.i m low small))

pub row_owner-requires-clause-sound : goal.row_owner-requires-clause-sound
row_owner-requires-clause-sound g c = c.requires.ready.sound

pub returns-in_err-row_owner : goal.returns-in_err-row_owner
returns-in_err-row_owner g c = unpowered (g.B.Board.state c.args.board.now).on c.in_err-row_owner.ensures.power c.requires.ready.on

pub returns-then-is_full-clause-off : goal.returns-then-is_full-clause-off
returns-then-is_full-clause-off g c = tt

pub returns-clause-off : goal.returns-clause-off
returns-clause-off g c = tt

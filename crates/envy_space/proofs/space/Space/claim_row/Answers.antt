use Rattle.std.proofs.Common.{◌≡◌, ◌∙◌, ℕ, ◌+◌, ◌*◌, ◌<◌, ◌≤◌, List, get_or, sym, ap, subst, arith}
use Rattle.std.proofs.lemmas.Bool.{false≢true}
use Rattle.std.proofs.lemmas.Nat.{mul-add-lt, div-mul-add, mod-mul-add}
use Rattle.envy_base.specs.Shape.{IsShape}
use Rattle.envy_base.specs.declared.shape.Shape.{Shape}
use Rattle.envy_map.specs.Fields.{Chart, Fields, chart, with_fields}
use Rattle.envy_map.specs.Writes.{with_back, with_fill}
use Rattle.envy_soundness.specs.Claims.{IsUsable}
use Rattle.envy_soundness.specs.Sound.{IsFree}
use Rattle.envy_soundness.proofs.Sames.{same_then}
use Rattle.envy_space.specs.Pool.{Pool, IsPool, IsPoolOf, with_filled}
use Rattle.envy_space.proofs.PoolLemmas.{PoolAgrees-claimed, Claimed-made}
use Rattle.envy_space.proofs.space.Space.claim_row.Goals as goal

pub returns-clause-agrees : goal.returns-clause-agrees
returns-clause-agrees g c on =
    let before = chart (g.B.Board.state c.args.board.now) in
    let back = c.in_ok-claim_back.ensures.fields in
    PoolAgrees-claimed before (chart (g.B.Board.state c.raise_fill.new.board)) c.args.self.now c.set_fill.new.self c.args.segment (c.args.segment * c.shape.result.rows + c.fill-fill.result) c.args.page (c.fill-fill.result + 1)
    c.requires.ready.agrees
    (c.in_ok-raise_fill.ensures.fields ∙ ap (λ (x : Chart). with_fields x (with_fill c.args.segment (c.fill-fill.result + 1) x.fields)) back)
    c.set_fill.ensures

pub returns-clause-claims : goal.returns-clause-claims
returns-clause-claims g c =
    let before = chart (g.B.Board.state c.args.board.now) in
    let after = chart (g.B.Board.state c.raise_fill.new.board) in
    let back = c.in_ok-claim_back.ensures.fields in
    let agrees = c.requires.ready.agrees in
    let same = c.requires.shape in
    let segments : c.args.self.now.shape.segments ≡ before.shape.segments = ap (λ (x : Shape). x.segments) same in
    let rows : c.args.self.now.shape.rows ≡ before.shape.rows = ap (λ (x : Shape). x.rows) same in
    let fill : get_or before.fields.fills c.args.segment 0 ≡ c.fill-fill.result = ap (λ (xs : List ℕ). get_or xs c.args.segment 0) (sym (IsPoolOf.fills agrees)) ∙ sym c.fill-fill.ensures.fill in
    let row = c.args.segment * c.shape.result.rows + c.fill-fill.result in
    let here : row ≡ c.args.segment * before.shape.rows + c.fill-fill.result = ap (λ (x : Shape). c.args.segment * x.rows + c.fill-fill.result) c.shape.ensures in
    let raised : after ≡ with_fields before (with_fill c.args.segment (c.fill-fill.result + 1) (with_back row c.args.page before.fields)) = c.in_ok-raise_fill.ensures.fields ∙ ap (λ (x : Chart). with_fields x (with_fill c.args.segment (c.fill-fill.result + 1) x.fields)) back in
    let room = c.requires.room in
    let read = c.fill-fill.ensures.fill in
    record {
      claims = record {
        row = here ∙ ap (λ (n : ℕ). c.args.segment * before.shape.rows + n) (sym fill);
        fields = raised ∙ ap (λ (n : ℕ). with_fields before (with_fill c.args.segment (n + 1) (with_back row c.args.page before.fields))) (sym fill);
      };
      claimed = Claimed-made before after c.args.segment c.args.page c.fill-fill.result row c.requires.ready.sound (omega arith) (omega arith) fill here c.requires.ready.usable raised;
      pool = c.set_fill.ensures ∙ ap (λ (n : ℕ). with_filled c.args.segment (n + 1) c.args.self.now) c.fill-fill.ensures.fill;
    }

-- the row at a segment's fill is the flash's, its number fits, and it is free
row-within : (sh : Shape) (s n : ℕ) → s < sh.segments → n < sh.rows → s * sh.rows + n < sh.segments * sh.rows
row-within sh s n lt room = let less = mul-add-lt s sh.rows n sh.segments lt room in omega arith

row-fits : (sh own : Shape) (s n : ℕ) → sh ≡ own → IsShape own → s < own.segments → n < own.rows → s * sh.rows + n < 4294967296
row-fits sh own s n same shape lt room =
    let less = row-within own s n lt room in
    let few = IsShape.few shape in
    subst (λ (x : Shape). s * x.rows + n < 4294967296) (sym same) (omega arith)

times-fits : (a b : ℕ) → a + b < 4294967296 → a < 4294967296
times-fits a b fits = omega arith

free-here : (sh : Shape) (f : Fields) (s n : ℕ) → get_or f.fills s 0 ≡ n → n < sh.rows → IsFree sh f (s * sh.rows + n)
free-here sh f s n is room =
    rw (div-mul-add s sh.rows n room, mod-mul-add s sh.rows n room) (omega arith)

same-rises : (xs ys : List ℕ) (s : ℕ) → ys ≡ xs → get_or xs s 0 ≤ get_or ys s 0
same-rises xs ys s same = rw same (omega arith)

room-read : (n b rows : ℕ) → n ≡ b → b < rows → n < rows
room-read n b rows is lt = omega arith

next-fits : (n b rows : ℕ) → n ≡ b → b < rows → n + 1 ≤ rows
next-fits n b rows is lt = omega arith

next-small : (n rows : ℕ) → n < rows → rows ≤ 65536 → n + 1 < 4294967296
next-small n rows lt few = omega arith

below-next : (a b n : ℕ) → a ≤ b → n ≡ b → a ≤ n + 1
below-next a b n le is = omega arith

pub fill-fill-requires : goal.fill-fill-requires
fill-fill-requires g c = c.requires.segment

pub overflow_mul-row : goal.overflow_mul-row
overflow_mul-row g c =
    let own = c.args.self.now in
    let room = room-read c.fill-fill.result (get_or own.fills c.args.segment 0) own.shape.rows c.fill-fill.ensures.fill c.requires.room in
    record {
      fits = times-fits (c.args.segment * c.shape.result.rows) c.fill-fill.result
          (row-fits c.shape.result own.shape c.args.segment c.fill-fill.result (c.shape.ensures ∙ sym c.requires.shape) (IsPool.shape c.fill-fill.ensures.pool) c.requires.segment room);
    }

pub overflow_add-row : goal.overflow_add-row
overflow_add-row g c =
    let own = c.args.self.now in
    let room = room-read c.fill-fill.result (get_or own.fills c.args.segment 0) own.shape.rows c.fill-fill.ensures.fill c.requires.room in
    record { fits = row-fits c.shape.result own.shape c.args.segment c.fill-fill.result (c.shape.ensures ∙ sym c.requires.shape) (IsPool.shape c.fill-fill.ensures.pool) c.requires.segment room }

pub claim_back-requires-clause-sound : goal.claim_back-requires-clause-sound
claim_back-requires-clause-sound g c = c.requires.ready.sound

pub claim_back-requires-clause-row : goal.claim_back-requires-clause-row
claim_back-requires-clause-row g c =
    let sh = (g.B.Board.state c.args.board.now).shape in
    let own = c.args.self.now in
    let room = room-read c.fill-fill.result (get_or own.fills c.args.segment 0) own.shape.rows c.fill-fill.ensures.fill c.requires.room in
    subst (λ (x : Shape). c.args.segment * x.rows + c.fill-fill.result < sh.segments * sh.rows) (sym c.shape.ensures)
    (subst (λ (x : Shape). c.args.segment * x.rows + c.fill-fill.result < x.segments * x.rows) c.requires.shape
    (row-within own.shape c.args.segment c.fill-fill.result c.requires.segment room))

pub claim_back-requires-clause-page : goal.claim_back-requires-clause-page
claim_back-requires-clause-page g c = subst (λ (x : Shape). c.args.page < x.pages) c.requires.shape c.requires.page

pub claim_back-requires-clause-free : goal.claim_back-requires-clause-free
claim_back-requires-clause-free g c on =
    let before = chart (g.B.Board.state c.args.board.now) in
    let own = c.args.self.now in
    let room = room-read c.fill-fill.result (get_or own.fills c.args.segment 0) own.shape.rows c.fill-fill.ensures.fill c.requires.room in
    let fill = ap (λ (xs : List ℕ). get_or xs c.args.segment 0) (sym (IsPoolOf.fills c.requires.ready.agrees)) ∙ sym c.fill-fill.ensures.fill in
    subst (λ (x : Shape). IsFree before.shape before.fields (c.args.segment * x.rows + c.fill-fill.result)) (sym c.shape.ensures)
    (free-here before.shape before.fields c.args.segment c.fill-fill.result fill
    (subst (λ (x : Shape). c.fill-fill.result < x.rows) c.requires.shape room))

pub returns-in_err-claim_back-clause-same : goal.returns-in_err-claim_back-clause-same
returns-in_err-claim_back-clause-same g c = c.in_err-claim_back.ensures.same

pub returns-in_err-claim_back-clause-agrees : goal.returns-in_err-claim_back-clause-agrees
returns-in_err-claim_back-clause-agrees g c on = absurd (false≢true (sym c.in_err-claim_back.ensures.power ∙ on))

pub returns-in_err-claim_back-clause-rises : goal.returns-in_err-claim_back-clause-rises
returns-in_err-claim_back-clause-rises g c s =
    let before = chart (g.B.Board.state c.args.board.now) in
    let after = chart (g.B.Board.state c.claim_back.new.board) in
    same-rises before.fields.fills after.fields.fills s c.in_err-claim_back.ensures.fills

pub raise_fill-requires-clause-sound : goal.raise_fill-requires-clause-sound
raise_fill-requires-clause-sound g c = c.in_ok-claim_back.ensures.same.stays.sound

pub raise_fill-requires-clause-segment : goal.raise_fill-requires-clause-segment
raise_fill-requires-clause-segment g c =
    subst (λ (x : Shape). c.args.segment < x.segments) (c.requires.shape ∙ sym c.in_ok-claim_back.ensures.same.stays.framed.shape) c.requires.segment

pub raise_fill-requires-clause-room : goal.raise_fill-requires-clause-room
raise_fill-requires-clause-room g c =
    let own = c.args.self.now in
    let room = room-read c.fill-fill.result (get_or own.fills c.args.segment 0) own.shape.rows c.fill-fill.ensures.fill c.requires.room in
    subst (λ (x : Shape). c.fill-fill.result < x.rows) (c.requires.shape ∙ sym c.in_ok-claim_back.ensures.same.stays.framed.shape) room

pub raise_fill-requires-clause-filled : goal.raise_fill-requires-clause-filled
raise_fill-requires-clause-filled g c on =
    ap (λ (xs : List ℕ). get_or xs c.args.segment 0) (c.in_ok-claim_back.ensures.fills ∙ sym (IsPoolOf.fills c.requires.ready.agrees)) ∙ sym c.fill-fill.ensures.fill

pub raise_fill-requires-clause-usable : goal.raise_fill-requires-clause-usable
raise_fill-requires-clause-usable g c on =
    subst (λ (x : Chart). IsUsable x.shape x.fields c.args.segment) (sym c.in_ok-claim_back.ensures.fields) c.requires.ready.usable

pub returns-in_err-raise_fill-clause-same : goal.returns-in_err-raise_fill-clause-same
returns-in_err-raise_fill-clause-same g c =
    same_then 0 0 (chart (g.B.Board.state c.args.board.now)) (chart (g.B.Board.state c.claim_back.new.board)) (chart (g.B.Board.state c.raise_fill.new.board))
    c.in_ok-claim_back.ensures.same c.in_err-raise_fill.ensures.same

pub returns-in_err-raise_fill-clause-agrees : goal.returns-in_err-raise_fill-clause-agrees
returns-in_err-raise_fill-clause-agrees g c on = absurd (false≢true (sym c.in_err-raise_fill.ensures.power ∙ on))

pub returns-in_err-raise_fill-clause-rises : goal.returns-in_err-raise_fill-clause-rises
returns-in_err-raise_fill-clause-rises g c s =
    let after = chart (g.B.Board.state c.raise_fill.new.board) in
    subst (λ (xs : List ℕ). get_or xs s 0 ≤ get_or after.fields.fills s 0) c.in_ok-claim_back.ensures.fills (c.in_err-raise_fill.ensures.rises s)

pub overflow_add-fill : goal.overflow_add-fill
overflow_add-fill g c =
    let own = c.args.self.now in
    let room = room-read c.fill-fill.result (get_or own.fills c.args.segment 0) own.shape.rows c.fill-fill.ensures.fill c.requires.room in
    record { fits = next-small c.fill-fill.result own.shape.rows room (IsShape.few_rows (IsPool.shape c.fill-fill.ensures.pool)) }

pub set_fill-requires-clause-segment : goal.set_fill-requires-clause-segment
set_fill-requires-clause-segment g c = c.requires.segment

pub set_fill-requires-clause-fits : goal.set_fill-requires-clause-fits
set_fill-requires-clause-fits g c =
    next-fits c.fill-fill.result (get_or c.args.self.now.fills c.args.segment 0) c.args.self.now.shape.rows c.fill-fill.ensures.fill c.requires.room

pub set_fill-requires-clause-kept : goal.set_fill-requires-clause-kept
set_fill-requires-clause-kept g c =
    below-next (get_or c.args.self.now.kept c.args.segment 0) (get_or c.args.self.now.fills c.args.segment 0) c.fill-fill.result
    (IsPool.kept_fit c.fill-fill.ensures.pool c.args.segment) c.fill-fill.ensures.fill

pub returns-clause-same : goal.returns-clause-same
returns-clause-same g c =
    same_then 0 0 (chart (g.B.Board.state c.args.board.now)) (chart (g.B.Board.state c.claim_back.new.board)) (chart (g.B.Board.state c.raise_fill.new.board))
    c.in_ok-claim_back.ensures.same c.in_ok-raise_fill.ensures.same

pub returns-clause-shape : goal.returns-clause-shape
returns-clause-shape g c = ap (λ (x : Pool). x.shape) c.set_fill.ensures

pub returns-clause-rises : goal.returns-clause-rises
returns-clause-rises g c s =
    let after = chart (g.B.Board.state c.raise_fill.new.board) in
    subst (λ (xs : List ℕ). get_or xs s 0 ≤ get_or after.fields.fills s 0) c.in_ok-claim_back.ensures.fills (c.in_ok-raise_fill.ensures.rises s)

pub returns-clause-power : goal.returns-clause-power
returns-clause-power g c = c.in_ok-raise_fill.ensures.power

use Rattle.std.proofs.Common.{◌∙◌, ◌+◌, ◌*◌, ◌<◌, ℕ, [], inl, Err, get_or, sym, ap, subst, arith}
use Rattle.envy_base.specs.declared.board.Trouble.{Trouble}
use Rattle.envy_base.specs.declared.shape.Shape.{Shape}
use Rattle.envy_map.specs.Fields.{Fields, Chart, chart}
use Rattle.envy_base.specs.Counting.{up}
use Rattle.envy_map.specs.Writes.{with_back, with_fill}
use Rattle.envy_soundness.specs.Same.{Same, Stays, Framed}
use Rattle.envy_soundness.specs.Sound.{Sound, Numbers}
use Rattle.envy_soundness.proofs.Claimed.{unswitched-copying}
use Rattle.envy_space.specs.Pool.{PoolAgrees}
use Rattle.envy_reloc.proofs.Exits.{unpowered, off-after, off-if, off-bad, err-after, err-if, err-bad}
use Rattle.envy_soundness.proofs.Sames.{same_then, same_within, tally_still, tally_then}
use Rattle.envy_reloc.proofs.row_move.program_move.Goals as goal

pub claim-requires-clause-ready : goal.claim-requires-clause-ready
claim-requires-clause-ready g c on = record { sound = c.requires.sound; agrees = c.requires.pool; usable = inl c.requires.target.placed }

pub returns-in_err-target-clause-same : goal.returns-in_err-target-clause-same
returns-in_err-target-clause-same g c =
    let old = chart (g.B.Board.state c.args.board.now) in
    let claimed = chart (g.B.Board.state c.claim.new.board) in
    same_within 1 0 old claimed (c.claim.ensures.same c.requires.sound)

pub returns-in_err-target-clause-counts : goal.returns-in_err-target-clause-counts
returns-in_err-target-clause-counts g c =
    let old = chart (g.B.Board.state c.args.board.now) in
    let claimed = chart (g.B.Board.state c.claim.new.board) in
    tally_still c.args.moved.now old claimed (c.claim.ensures.same c.requires.sound)

pub returns-in_err-read_row-clause-same : goal.returns-in_err-read_row-clause-same
returns-in_err-read_row-clause-same g c =
    let old = chart (g.B.Board.state c.args.board.now) in
    let claimed = chart (g.B.Board.state c.claim.new.board) in
    same_within 1 0 old claimed (c.claim.ensures.same c.requires.sound)

pub returns-in_err-read_row-clause-counts : goal.returns-in_err-read_row-clause-counts
returns-in_err-read_row-clause-counts g c =
    let old = chart (g.B.Board.state c.args.board.now) in
    let claimed = chart (g.B.Board.state c.claim.new.board) in
    tally_still c.args.moved.now old claimed (c.claim.ensures.same c.requires.sound)

pub returns-in_err-program_counted-clause-same : goal.returns-in_err-program_counted-clause-same
returns-in_err-program_counted-clause-same g c =
    let old = chart (g.B.Board.state c.args.board.now) in
    let claimed = chart (g.B.Board.state c.claim.new.board) in
    let new = chart (g.B.Board.state c.program_counted.new.board) in
    same_then 1 0 old claimed new (c.claim.ensures.same c.requires.sound) c.program_counted.ensures.same

pub returns-in_err-program_counted-clause-counts : goal.returns-in_err-program_counted-clause-counts
returns-in_err-program_counted-clause-counts g c =
    let old = chart (g.B.Board.state c.args.board.now) in
    let claimed = chart (g.B.Board.state c.claim.new.board) in
    let new = chart (g.B.Board.state c.program_counted.new.board) in
    tally_then c.args.moved.now c.program_counted.new.count old claimed new (c.claim.ensures.same c.requires.sound) c.program_counted.ensures.counts.1

pub returns-clause-same : goal.returns-clause-same
returns-clause-same g c =
    let old = chart (g.B.Board.state c.args.board.now) in
    let claimed = chart (g.B.Board.state c.claim.new.board) in
    let new = chart (g.B.Board.state c.program_counted.new.board) in
    same_then 1 0 old claimed new (c.claim.ensures.same c.requires.sound) c.program_counted.ensures.same

pub returns-clause-counts : goal.returns-clause-counts
returns-clause-counts g c =
    let old = chart (g.B.Board.state c.args.board.now) in
    let claimed = chart (g.B.Board.state c.claim.new.board) in
    let new = chart (g.B.Board.state c.program_counted.new.board) in
    tally_then c.args.moved.now c.program_counted.new.count old claimed new (c.claim.ensures.same c.requires.sound) c.program_counted.ensures.counts.1

pub claim-requires-clause-shape : goal.claim-requires-clause-shape
claim-requires-clause-shape g c = c.requires.pool.shape

pub claim-requires-clause-page : goal.claim-requires-clause-page
claim-requires-clause-page g c = subst (λ (sh : Shape). c.args.page < sh.pages) (sym c.requires.pool.shape) c.requires.kept.page

pub claim-requires-clause-room : goal.claim-requires-clause-room
claim-requires-clause-room g c = c.requires.target.room

pub returns-in_err-target-clause-follow : goal.returns-in_err-target-clause-follow
returns-in_err-target-clause-follow g c = record { pool = c.claim.ensures.agrees; shape = c.claim.ensures.shape }

pub returns-in_err-target-clause-power : goal.returns-in_err-target-clause-power
returns-in_err-target-clause-power g c = off-after c.from_residual.result (g.B.Board.state c.claim.new.board).on c.in_err-target.ensures.power c.from_residual.ensures.1

pub returns-in_err-target-clause-claims : goal.returns-in_err-target-clause-claims
returns-in_err-target-clause-claims g c on = unpowered (g.B.Board.state c.claim.new.board).on c.in_err-target.ensures.power on

pub returns-in_err-target-clause-copy : goal.returns-in_err-target-clause-copy
returns-in_err-target-clause-copy g c = off-if c.from_residual.result _ c.from_residual.ensures.1

pub returns-in_err-target-clause-bad : goal.returns-in_err-target-clause-bad
returns-in_err-target-clause-bad g c bad = off-bad c.from_residual.result c.from_residual.ensures.1 bad

pub read_row-requires : goal.read_row-requires
read_row-requires g c =
    let same = Framed.shape (Stays.framed (Same.stays (c.claim.ensures.same c.requires.sound))) in
    subst (λ (sh : Shape). c.args.row < sh.segments * sh.rows) (sym same) c.requires.kept.row

pub returns-in_err-read_row-clause-follow : goal.returns-in_err-read_row-clause-follow
returns-in_err-read_row-clause-follow g c = record { pool = c.claim.ensures.agrees; shape = c.claim.ensures.shape }

pub returns-in_err-read_row-clause-power : goal.returns-in_err-read_row-clause-power
returns-in_err-read_row-clause-power g c = off-after c.from_residual-in_err-read_row.result (g.B.Board.state c.claim.new.board).on c.in_err-read_row.ensures.power c.from_residual-in_err-read_row.ensures.1

pub returns-in_err-read_row-clause-claims : goal.returns-in_err-read_row-clause-claims
returns-in_err-read_row-clause-claims g c on = unpowered (g.B.Board.state c.claim.new.board).on c.in_err-read_row.ensures.power on

pub returns-in_err-read_row-clause-copy : goal.returns-in_err-read_row-clause-copy
returns-in_err-read_row-clause-copy g c = off-if c.from_residual-in_err-read_row.result _ c.from_residual-in_err-read_row.ensures.1

pub returns-in_err-read_row-clause-bad : goal.returns-in_err-read_row-clause-bad
returns-in_err-read_row-clause-bad g c bad = off-bad c.from_residual-in_err-read_row.result c.from_residual-in_err-read_row.ensures.1 bad

pub program_counted-requires-clause-sound : goal.program_counted-requires-clause-sound
program_counted-requires-clause-sound g c = Stays.sound (Same.stays (c.claim.ensures.same c.requires.sound))

pub program_counted-requires-clause-on : goal.program_counted-requires-clause-on
program_counted-requires-clause-on g c = c.in_ok-target.ensures.power

pub program_counted-requires-clause-row : goal.program_counted-requires-clause-row
program_counted-requires-clause-row g c = c.in_ok-target.ensures.claims.claimed.range

pub program_counted-requires-clause-may : goal.program_counted-requires-clause-may
program_counted-requires-clause-may g c =
    let claimed = c.in_ok-target.ensures.claims.claimed in
    let job = ap (λ (x : Chart). x.fields.job) c.in_ok-target.ensures.claims.claims.fields ∙ c.requires.target.copying in
    record {
      filled = claimed.filled;
      unnamed = claimed.unnamed;
      unswitched = λ v is placed spare. absurd (unswitched-copying (chart (g.B.Board.state c.claim.new.board)).fields c.requires.target.v v job is);
    }

pub program_counted-requires-clause-erased : goal.program_counted-requires-clause-erased
program_counted-requires-clause-erased g c = c.in_ok-target.ensures.claims.claimed.erased

pub returns-in_err-program_counted-clause-power : goal.returns-in_err-program_counted-clause-power
returns-in_err-program_counted-clause-power g c =
    err-after (Unit {0}) c.from_residual-in_err-program_counted.result (g.B.Board.state c.program_counted.new.board).on c.in_err-program_counted.field-0.0 c.in_err-program_counted.ensures.power c.from_residual-in_err-program_counted.ensures.1

pub returns-in_err-program_counted-clause-copy : goal.returns-in_err-program_counted-clause-copy
returns-in_err-program_counted-clause-copy g c = err-if c.from_residual-in_err-program_counted.result _ c.in_err-program_counted.field-0.0 c.from_residual-in_err-program_counted.ensures.1

pub returns-in_err-program_counted-clause-bad : goal.returns-in_err-program_counted-clause-bad
returns-in_err-program_counted-clause-bad g c bad =
    let was = c.in_err-program_counted.ensures.bad (ap (λ (e : Trouble). Err e) (err-bad c.from_residual-in_err-program_counted.result c.in_err-program_counted.field-0.0 c.from_residual-in_err-program_counted.ensures.1 bad)) in
    was ∙ ap (λ (x : Chart). up x.bads) c.in_ok-target.ensures.claims.claims.fields

pub returns-clause-follow : goal.returns-clause-follow
returns-clause-follow g c =
    let new = chart (g.B.Board.state c.program_counted.new.board) in
    let mid = chart (g.B.Board.state c.claim.new.board) in
    let same = Framed.shape (Stays.framed (Same.stays c.program_counted.ensures.same)) in
    record {
      pool = λ on. subst (λ (sh : Shape). PoolAgrees sh new.fields c.claim.new.self) (sym same)
          (subst (λ (f : Fields). PoolAgrees mid.shape f c.claim.new.self) (sym c.program_counted.ensures.fields) (c.claim.ensures.agrees c.in_ok-target.ensures.power));
      shape = c.claim.ensures.shape;
    }

pub returns-clause-claims : goal.returns-clause-claims
returns-clause-claims g c on =
    let old = chart (g.B.Board.state c.args.board.now) in
    let s = c.args.segment in
    let claims = c.in_ok-target.ensures.claims.claims in
    record {
      fields = c.program_counted.ensures.fields ∙ ap (λ (x : Chart). x.fields) claims.fields ∙ ap (λ (q : ℕ). with_fill s (get_or old.fields.fills s 0 + 1) (with_back q c.args.page old.fields)) claims.row;
      others = λ r other. c.program_counted.ensures.others r (λ is. other (is ∙ claims.row)) ∙ ap (λ (x : Chart). get_or x.flash r []) claims.fields;
      counted = c.program_counted.ensures.counts.0;
    }

pub returns-clause-copy : goal.returns-clause-copy
returns-clause-copy g c =
    let new = chart (g.B.Board.state c.program_counted.new.board) in
    let claims = c.in_ok-target.ensures.claims.claims in
    record {
      is = claims.row;
      copy = ap (λ (q : ℕ). get_or new.flash q []) (sym claims.row) ∙ c.in_ok-program_counted.ensures.written ∙ c.in_ok-read_row.ensures.words ∙ ap (λ (x : Chart). get_or x.flash c.args.row []) claims.fields;
    }

pub returns-clause-bad : goal.returns-clause-bad
returns-clause-bad g c bad = absurd (cc)

pub claim-requires-clause-segment : goal.claim-requires-clause-segment
claim-requires-clause-segment g c =
    let old = chart (g.B.Board.state c.args.board.now) in
    let placed = c.requires.target.placed in
    let fits = Numbers.positions_fit (Sound.numbers c.requires.sound) placed.0 (omega (arith, placed.1)) in
    subst (λ (s : ℕ). s < c.args.space.now.shape.segments) placed.2 (subst (λ (sh : Shape). get_or old.fields.positions placed.0 0 < sh.segments) (sym c.requires.pool.shape) fits)

pub returns-clause-power : goal.returns-clause-power
returns-clause-power g c = c.in_ok-program_counted.ensures.power

pub returns-in_err-program_counted-clause-follow : goal.returns-in_err-program_counted-clause-follow
returns-in_err-program_counted-clause-follow g c =
    let new = chart (g.B.Board.state c.program_counted.new.board) in
    let mid = chart (g.B.Board.state c.claim.new.board) in
    let same = Framed.shape (Stays.framed (Same.stays c.program_counted.ensures.same)) in
    record {
      pool = λ on. subst (λ (sh : Shape). PoolAgrees sh new.fields c.claim.new.self) (sym same)
          (subst (λ (f : Fields). PoolAgrees mid.shape f c.claim.new.self) (sym c.program_counted.ensures.fields) (c.claim.ensures.agrees c.in_ok-target.ensures.power));
      shape = c.claim.ensures.shape;
    }

pub returns-in_err-program_counted-clause-claims : goal.returns-in_err-program_counted-clause-claims
returns-in_err-program_counted-clause-claims g c on =
    let old = chart (g.B.Board.state c.args.board.now) in
    let s = c.args.segment in
    let claims = c.in_ok-target.ensures.claims.claims in
    record {
      fields = c.program_counted.ensures.fields ∙ ap (λ (x : Chart). x.fields) claims.fields ∙ ap (λ (q : ℕ). with_fill s (get_or old.fields.fills s 0 + 1) (with_back q c.args.page old.fields)) claims.row;
      others = λ r other. c.program_counted.ensures.others r (λ is. other (is ∙ claims.row)) ∙ ap (λ (x : Chart). get_or x.flash r []) claims.fields;
      counted = c.program_counted.ensures.counts.0;
    }

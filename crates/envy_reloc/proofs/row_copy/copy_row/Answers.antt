use Rattle.std.proofs.Common.{◌≡◌, ◌∙◌, inr, ℕ, ◌*◌, ◌<◌, List, [], get_or, refl, sym, ap, subst, arith}
use Rattle.envy_base.specs.Counting.{up}
use Rattle.envy_base.specs.Shape.{IsShape}
use Rattle.envy_base.specs.State.{IsBoard}
use Rattle.envy_base.specs.declared.shape.Shape.{Shape}
use Rattle.envy_map.specs.Fields.{Fields, Chart, chart}
use Rattle.envy_soundness.specs.Claims.{IsUsable}
use Rattle.envy_soundness.specs.Same.{Same, Stays, Framed}
use Rattle.envy_soundness.specs.Sound.{Sound, Numbers}
use Rattle.envy_space.specs.Pool.{IsPoolOf, PoolAgrees}
use Rattle.envy_reloc.specs.Rows.{IsLeft}
use Rattle.envy_soundness.proofs.KeptLemmas.{Names-range}
use Rattle.envy_soundness.proofs.Claimed.{unswitched-copying}
use Rattle.envy_reloc.proofs.CopyLemmas.{room-left, claims-row, ClaimsCopy-made}
use Rattle.envy_reloc.proofs.Exits.{unpowered, off-after, off-if, off-bad}
use Rattle.envy_reloc.proofs.SettleLemmas.{ok-map}
use Rattle.envy_soundness.proofs.Sames.{same_then, same_within, tally_still, tally_then}
use Rattle.envy_reloc.proofs.row_copy.copy_row.Goals as goal

pub note_origin-requires-clause-place : goal.note_origin-requires-clause-place
note_origin-requires-clause-place g c =
    let old = chart (g.B.Board.state c.args.board.now) in
    let shape = IsBoard.shape (g.met.B.Board.lawful c.args.board.now) in
    let some = IsShape.rows shape in
    let room = room-left old.shape old.fields old.flash c.requires.copy.v c.args.spare c.args.left.row c.requires.sound (omega arith) c.requires.copy.copies c.requires.copy.segment (IsLeft.uncopied c.requires.copy.left) in
    let fill : c.fill-filled.result ≡ get_or old.fields.fills c.args.spare 0 = c.fill-filled.ensures.fill ∙ ap (λ (xs : List ℕ). get_or xs c.args.spare 0) (IsPoolOf.fills c.requires.pool) in
    omega arith

pub claim-requires-clause-ready : goal.claim-requires-clause-ready
claim-requires-clause-ready g c on =
    let old = chart (g.B.Board.state c.args.board.now) in
    let fields = c.in_ok-note_origin.ensures.fields in
    record {
      sound = Stays.sound (Same.stays c.note_origin.ensures.same);
      agrees = subst (λ (x : Chart). PoolAgrees x.shape x.fields c.args.space.now) (sym fields) c.requires.pool;
      usable = subst (λ (x : Chart). IsUsable x.shape x.fields c.args.spare) (sym fields) (inr ((c.requires.copy.v, c.requires.copy.copying), c.requires.copy.spare));
    }

pub claim-requires-clause-room : goal.claim-requires-clause-room
claim-requires-clause-room g c =
    let old = chart (g.B.Board.state c.args.board.now) in
    let shape = IsBoard.shape (g.met.B.Board.lawful c.args.board.now) in
    let some = IsShape.rows shape in
    let room = room-left old.shape old.fields old.flash c.requires.copy.v c.args.spare c.args.left.row c.requires.sound (omega arith) c.requires.copy.copies c.requires.copy.segment (IsLeft.uncopied c.requires.copy.left) in
    let fill : get_or c.args.space.now.fills c.args.spare 0 ≡ get_or old.fields.fills c.args.spare 0 = ap (λ (xs : List ℕ). get_or xs c.args.spare 0) (IsPoolOf.fills c.requires.pool) in
    let rows : c.args.space.now.shape.rows ≡ old.shape.rows = ap (λ (sh : Shape). sh.rows) (IsPoolOf.shape c.requires.pool) in
    omega arith

pub read_row-requires : goal.read_row-requires
read_row-requires g c =
    let old = chart (g.B.Board.state c.args.board.now) in
    let long = IsBoard.rows (g.met.B.Board.lawful c.claim.new.board) in
    let same = Framed.shape (Stays.framed (Same.stays c.note_origin.ensures.same)) in
    let again = Framed.shape (Stays.framed (Same.stays (c.claim.ensures.same (Stays.sound (Same.stays c.note_origin.ensures.same))))) in
    let kept = IsLeft.kept c.requires.copy.left in
    let range = Names-range old.shape old.fields old.flash kept.0 c.args.left.row c.requires.sound kept.1 in
    let size = long ∙ ap (λ (sh : Shape). sh.segments * sh.rows) (again ∙ same) in
    omega arith

pub returns-clause-same : goal.returns-clause-same
returns-clause-same g c =
    let old = chart (g.B.Board.state c.args.board.now) in
    let mid = chart (g.B.Board.state c.note_origin.new.board) in
    let claimed = chart (g.B.Board.state c.claim.new.board) in
    let new = chart (g.B.Board.state c.program_counted.new.board) in
    same_then 1 0 old mid new c.note_origin.ensures.same (same_then 1 0 mid claimed new (c.claim.ensures.same (Stays.sound (Same.stays c.note_origin.ensures.same))) c.program_counted.ensures.same)

pub returns-in_err-note_origin-clause-same : goal.returns-in_err-note_origin-clause-same
returns-in_err-note_origin-clause-same g c =
    let old = chart (g.B.Board.state c.args.board.now) in
    let mid = chart (g.B.Board.state c.note_origin.new.board) in
    same_within 1 0 old mid c.note_origin.ensures.same

pub returns-in_err-note_origin-clause-counts : goal.returns-in_err-note_origin-clause-counts
returns-in_err-note_origin-clause-counts g c =
    let old = chart (g.B.Board.state c.args.board.now) in
    let mid = chart (g.B.Board.state c.note_origin.new.board) in
    tally_still c.args.copied.now old mid c.note_origin.ensures.same

pub returns-in_err-target-clause-same : goal.returns-in_err-target-clause-same
returns-in_err-target-clause-same g c =
    let old = chart (g.B.Board.state c.args.board.now) in
    let mid = chart (g.B.Board.state c.note_origin.new.board) in
    let claimed = chart (g.B.Board.state c.claim.new.board) in
    let still = same_then 0 0 old mid claimed c.note_origin.ensures.same (c.claim.ensures.same (Stays.sound (Same.stays c.note_origin.ensures.same))) in
    same_within 1 0 old claimed still

pub returns-in_err-target-clause-counts : goal.returns-in_err-target-clause-counts
returns-in_err-target-clause-counts g c =
    let old = chart (g.B.Board.state c.args.board.now) in
    let mid = chart (g.B.Board.state c.note_origin.new.board) in
    let claimed = chart (g.B.Board.state c.claim.new.board) in
    let still = same_then 0 0 old mid claimed c.note_origin.ensures.same (c.claim.ensures.same (Stays.sound (Same.stays c.note_origin.ensures.same))) in
    tally_still c.args.copied.now old claimed still

pub returns-in_err-read_row-clause-same : goal.returns-in_err-read_row-clause-same
returns-in_err-read_row-clause-same g c =
    let old = chart (g.B.Board.state c.args.board.now) in
    let mid = chart (g.B.Board.state c.note_origin.new.board) in
    let claimed = chart (g.B.Board.state c.claim.new.board) in
    let still = same_then 0 0 old mid claimed c.note_origin.ensures.same (c.claim.ensures.same (Stays.sound (Same.stays c.note_origin.ensures.same))) in
    same_within 1 0 old claimed still

pub returns-in_err-read_row-clause-counts : goal.returns-in_err-read_row-clause-counts
returns-in_err-read_row-clause-counts g c =
    let old = chart (g.B.Board.state c.args.board.now) in
    let mid = chart (g.B.Board.state c.note_origin.new.board) in
    let claimed = chart (g.B.Board.state c.claim.new.board) in
    let still = same_then 0 0 old mid claimed c.note_origin.ensures.same (c.claim.ensures.same (Stays.sound (Same.stays c.note_origin.ensures.same))) in
    tally_still c.args.copied.now old claimed still

pub returns-clause-counts : goal.returns-clause-counts
returns-clause-counts g c =
    let old = chart (g.B.Board.state c.args.board.now) in
    let mid = chart (g.B.Board.state c.note_origin.new.board) in
    let claimed = chart (g.B.Board.state c.claim.new.board) in
    let still = same_then 0 0 old mid claimed c.note_origin.ensures.same (c.claim.ensures.same (Stays.sound (Same.stays c.note_origin.ensures.same))) in
    let new = chart (g.B.Board.state c.program_counted.new.board) in
    tally_then c.args.copied.now c.program_counted.new.count old claimed new still c.program_counted.ensures.counts.1

pub returns-in_err-note_origin-clause-follow : goal.returns-in_err-note_origin-clause-follow
returns-in_err-note_origin-clause-follow g c = record { pool = λ on. unpowered (g.B.Board.state c.note_origin.new.board).on c.in_err-note_origin.ensures.power on; shape = refl }

pub returns-in_err-note_origin-clause-power : goal.returns-in_err-note_origin-clause-power
returns-in_err-note_origin-clause-power g c = off-after c.from_residual.result (g.B.Board.state c.note_origin.new.board).on c.in_err-note_origin.ensures.power c.from_residual.ensures.1

pub returns-in_err-note_origin-clause-claims : goal.returns-in_err-note_origin-clause-claims
returns-in_err-note_origin-clause-claims g c on = unpowered (g.B.Board.state c.note_origin.new.board).on c.in_err-note_origin.ensures.power on

pub returns-in_err-note_origin-clause-copy : goal.returns-in_err-note_origin-clause-copy
returns-in_err-note_origin-clause-copy g c = off-if c.from_residual.result _ c.from_residual.ensures.1

pub returns-in_err-note_origin-clause-bad : goal.returns-in_err-note_origin-clause-bad
returns-in_err-note_origin-clause-bad g c bad = off-bad c.from_residual.result c.from_residual.ensures.1 bad

pub returns-in_err-target-clause-follow : goal.returns-in_err-target-clause-follow
returns-in_err-target-clause-follow g c = record { pool = c.claim.ensures.agrees; shape = c.claim.ensures.shape }

pub returns-in_err-target-clause-power : goal.returns-in_err-target-clause-power
returns-in_err-target-clause-power g c = off-after c.from_residual-in_err-target.result (g.B.Board.state c.claim.new.board).on c.in_err-target.ensures.power c.from_residual-in_err-target.ensures.1

pub returns-in_err-target-clause-claims : goal.returns-in_err-target-clause-claims
returns-in_err-target-clause-claims g c on = unpowered (g.B.Board.state c.claim.new.board).on c.in_err-target.ensures.power on

pub returns-in_err-target-clause-copy : goal.returns-in_err-target-clause-copy
returns-in_err-target-clause-copy g c = off-if c.from_residual-in_err-target.result _ c.from_residual-in_err-target.ensures.1

pub returns-in_err-target-clause-bad : goal.returns-in_err-target-clause-bad
returns-in_err-target-clause-bad g c bad = off-bad c.from_residual-in_err-target.result c.from_residual-in_err-target.ensures.1 bad

pub returns-in_err-read_row-clause-follow : goal.returns-in_err-read_row-clause-follow
returns-in_err-read_row-clause-follow g c = record { pool = c.claim.ensures.agrees; shape = c.claim.ensures.shape }

pub returns-in_err-read_row-clause-power : goal.returns-in_err-read_row-clause-power
returns-in_err-read_row-clause-power g c = off-after c.from_residual-in_err-read_row.result (g.B.Board.state c.claim.new.board).on c.in_err-read_row.ensures.power c.from_residual-in_err-read_row.ensures.1

pub returns-in_err-read_row-clause-claims : goal.returns-in_err-read_row-clause-claims
returns-in_err-read_row-clause-claims g c on = unpowered (g.B.Board.state c.claim.new.board).on c.in_err-read_row.ensures.power on

pub returns-in_err-read_row-clause-copy : goal.returns-in_err-read_row-clause-copy
returns-in_err-read_row-clause-copy g c = off-if c.from_residual-in_err-read_row.result _ c.from_residual-in_err-read_row.ensures.1

pub returns-in_err-read_row-clause-bad : goal.returns-in_err-read_row-clause-bad
returns-in_err-read_row-clause-bad g c bad = off-bad c.from_residual-in_err-read_row.result c.from_residual-in_err-read_row.ensures.1 bad

pub fill-filled-requires : goal.fill-filled-requires
fill-filled-requires g c = subst (λ (sh : Shape). c.args.spare < sh.segments) (sym c.requires.pool.shape) c.requires.copy.spare.segment

pub note_origin-requires-clause-sound : goal.note_origin-requires-clause-sound
note_origin-requires-clause-sound g c = c.requires.sound

pub note_origin-requires-clause-row : goal.note_origin-requires-clause-row
note_origin-requires-clause-row g c =
    let old = chart (g.B.Board.state c.args.board.now) in
    let kept = IsLeft.kept c.requires.copy.left in
    Names-range old.shape old.fields old.flash kept.0 c.args.left.row c.requires.sound kept.1

pub note_origin-requires-clause-copying : goal.note_origin-requires-clause-copying
note_origin-requires-clause-copying g c = λ on. (c.requires.copy.v, c.requires.copy.copying)

pub claim-requires-clause-shape : goal.claim-requires-clause-shape
claim-requires-clause-shape g c = c.requires.pool.shape ∙ sym (Framed.shape (Stays.framed (Same.stays c.note_origin.ensures.same)))

pub claim-requires-clause-segment : goal.claim-requires-clause-segment
claim-requires-clause-segment g c = subst (λ (sh : Shape). c.args.spare < sh.segments) (sym c.requires.pool.shape) c.requires.copy.spare.segment

pub program_counted-requires-clause-sound : goal.program_counted-requires-clause-sound
program_counted-requires-clause-sound g c = Stays.sound (Same.stays (c.claim.ensures.same (Stays.sound (Same.stays c.note_origin.ensures.same))))

pub program_counted-requires-clause-on : goal.program_counted-requires-clause-on
program_counted-requires-clause-on g c = c.in_ok-target.ensures.power

pub program_counted-requires-clause-row : goal.program_counted-requires-clause-row
program_counted-requires-clause-row g c = c.in_ok-target.ensures.claims.claimed.range

pub program_counted-requires-clause-may : goal.program_counted-requires-clause-may
program_counted-requires-clause-may g c =
    let claimed = c.in_ok-target.ensures.claims.claimed in
    let new = chart (g.B.Board.state c.claim.new.board) in
    let job = ap (λ (x : Chart). x.fields.job) c.in_ok-target.ensures.claims.claims.fields ∙ ap (λ (x : Chart). x.fields.job) c.in_ok-note_origin.ensures.fields ∙ c.requires.copy.copying in
    record {
      filled = claimed.filled;
      unnamed = claimed.unnamed;
      unswitched = λ v is placed spare. absurd (unswitched-copying new.fields c.requires.copy.v v job is);
    }

pub program_counted-requires-clause-erased : goal.program_counted-requires-clause-erased
program_counted-requires-clause-erased g c = c.in_ok-target.ensures.claims.claimed.erased

pub returns-clause-follow : goal.returns-clause-follow
returns-clause-follow g c =
    let claimed = chart (g.B.Board.state c.claim.new.board) in
    let new = chart (g.B.Board.state c.program_counted.new.board) in
    let same = Framed.shape (Stays.framed (Same.stays c.program_counted.ensures.same)) in
    record {
      pool = λ on. subst (λ (sh : Shape). PoolAgrees sh new.fields c.claim.new.self) (sym same)
          (subst (λ (f : Fields). PoolAgrees claimed.shape f c.claim.new.self) (sym c.program_counted.ensures.fields) (c.claim.ensures.agrees c.in_ok-target.ensures.power));
      shape = c.claim.ensures.shape;
    }

pub returns-clause-power : goal.returns-clause-power
returns-clause-power g c = c.program_counted.ensures.power

pub returns-clause-claims : goal.returns-clause-claims
returns-clause-claims g c on =
    let old = chart (g.B.Board.state c.args.board.now) in
    let mid = chart (g.B.Board.state c.note_origin.new.board) in
    let claimed = chart (g.B.Board.state c.claim.new.board) in
    let new = chart (g.B.Board.state c.program_counted.new.board) in
    let fill : c.fill-filled.result ≡ get_or old.fields.fills c.args.spare 0 = c.fill-filled.ensures.fill ∙ ap (λ (xs : List ℕ). get_or xs c.args.spare 0) c.requires.pool.fills in
    ClaimsCopy-made old mid claimed new c.args.spare c.fill-filled.result c.in_ok-target.target c.args.left.page c.args.left.row c.args.copied.now c.program_counted.new.count
    c.in_ok-note_origin.ensures.fields fill c.in_ok-target.ensures.claims.claims c.requires.copy.page c.program_counted.ensures.fields c.program_counted.ensures.others c.program_counted.ensures.counts.0

pub returns-clause-copy : goal.returns-clause-copy
returns-clause-copy g c =
    let old = chart (g.B.Board.state c.args.board.now) in
    let mid = chart (g.B.Board.state c.note_origin.new.board) in
    let claimed = chart (g.B.Board.state c.claim.new.board) in
    let new = chart (g.B.Board.state c.program_counted.new.board) in
    let noted = c.in_ok-note_origin.ensures.fields in
    let claims = c.in_ok-target.ensures.claims.claims in
    let row = claims-row old mid claimed c.args.spare c.fill-filled.result c.in_ok-target.target c.args.left.page c.args.left.row noted claims in
    let kept = c.in_ok-read_row.ensures.words ∙ ap (λ (x : Chart). get_or x.flash c.args.left.row []) claims.fields ∙ ap (λ (x : Chart). get_or x.flash c.args.left.row []) noted in
    ok-map c.program_counted.result _ _ c.program_counted.ensures.written (λ is. ap (λ (q : ℕ). get_or new.flash q []) (sym row) ∙ is ∙ kept)

pub returns-clause-bad : goal.returns-clause-bad
returns-clause-bad g c bad = c.program_counted.ensures.bad bad ∙ ap (λ (x : Chart). up x.bads) c.in_ok-target.ensures.claims.claims.fields ∙ ap (λ (x : Chart). up x.bads) c.in_ok-note_origin.ensures.fields

pub claim-requires-clause-page : goal.claim-requires-clause-page
claim-requires-clause-page g c =
    let old = chart (g.B.Board.state c.args.board.now) in
    let kept = IsLeft.kept c.requires.copy.left in
    let range = Names-range old.shape old.fields old.flash kept.0 c.args.left.row c.requires.sound kept.1 in
    let fits = Numbers.backs_fit (Sound.numbers c.requires.sound) c.args.left.row range in
    subst (λ (sh : Shape). c.args.left.page < sh.pages) (sym c.requires.pool.shape) (subst (λ (p : ℕ). p < old.shape.pages) c.requires.copy.page fits)

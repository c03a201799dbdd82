use Rattle.std.specs.Prelude.{IsTrue}
use Rattle.std.proofs.Common.{◌≡◌, ◌∙◌, ℕ, ◌+◌, ◌*◌, ◌<◌, List, [], Err, get_or, refl, sym, ap, subst, arith}
use Rattle.envy_base.specs.declared.board.Trouble.{Trouble}
use Rattle.envy_base.specs.declared.shape.Shape.{Shape}
use Rattle.envy_map.specs.Fields.{Fields, Chart, chart}
use Rattle.envy_map.specs.Writes.{with_back, with_fill}
use Rattle.envy_soundness.specs.May.{MayName}
use Rattle.envy_soundness.specs.Power.{power_after}
use Rattle.envy_table.specs.Agreement.{AreCurrent}
use Rattle.envy_table.proofs.HitLemmas.{Rests-refl}
use Rattle.envy_soundness.proofs.KeptLemmas.{Names-range}
use Rattle.envy_soundness.proofs.NamingLemmas.{Names-named}
use Rattle.envy_soundness.specs.Same.{Same, Stays, Framed}
use Rattle.envy_soundness.specs.Sound.{Names}
use Rattle.envy_space.specs.Pool.{IsPool, IsPoolOf}
use Rattle.envy_reloc.specs.Keeping.{ClaimsTarget, CopiesTo, WastesRow}
use Rattle.envy_reloc.specs.Phases.{MovesRow}
use Rattle.envy_soundness.specs.Naming.{IsNamed, with_named, AreParted}
use Rattle.envy_reloc.specs.Rows.{HasRoom}
use Rattle.envy_soundness.proofs.Claimed.{MayName-claimed, unnamed-claimed, unswitched-copying}
use Rattle.envy_soundness.proofs.Sames.{then_same, tally_end}
use Rattle.envy_reloc.proofs.Exits.{off-after, off-if, off-bad, err-after, err-if, err-bad}
use Rattle.envy_reloc.proofs.row_move.move_row.Goals as goal

pub program_move-requires-clause-target : goal.program_move-requires-clause-target
program_move-requires-clause-target g c =
    let old = chart (g.B.Board.state c.args.board.now) in
    let pool = c.args.space.now in
    let next = c.requires.next in
    let here = c.segment_at-segment.ensures.segment in
    let segments : pool.shape.segments ≡ old.shape.segments = ap (λ (sh : Shape). sh.segments) (IsPoolOf.shape c.requires.agree.pool) in
    let reserves : pool.shape.reserves ≡ old.shape.reserves = ap (λ (sh : Shape). sh.reserves) (IsPoolOf.shape c.requires.agree.pool) in
    let position = next.position in
    record {
      placed = (c.args.next.position, (omega arith), ap (λ (xs : List ℕ). get_or xs c.args.next.position 0) (sym (IsPoolOf.positions c.requires.agree.pool)) ∙ sym here);
      v = next.v;
      copying = next.copying;
      other = λ same. HasRoom.other next.room (sym here ∙ sym same);
      room = subst (λ (x : ℕ). get_or pool.fills x 0 < pool.shape.rows) (sym here) (HasRoom.room next.room);
    }

pub program_move-requires-clause-kept : goal.program_move-requires-clause-kept
program_move-requires-clause-kept g c =
    let old = chart (g.B.Board.state c.args.board.now) in
    let next = c.requires.next in
    let names = Names-named old.fields c.args.next.kept.page c.args.next.row c.args.next.kept.undo next.named in
    record {
      row = Names-range old.shape old.fields old.flash c.args.next.kept.page c.args.next.row c.requires.sound names;
      page = next.page;
      kept = (c.args.next.kept.page, names);
    }

pub rename-requires-clause-agree : goal.rename-requires-clause-agree
rename-requires-clause-agree g c =
    let old = chart (g.B.Board.state c.args.board.now) in
    let mid = chart (g.B.Board.state c.program_move.new.board) in
    let on = c.in_ok-target.ensures.power in
    let fields = ClaimsTarget.fields (c.program_move.ensures.claims on) in
    let shape = Framed.shape (Stays.framed (Same.stays c.program_move.ensures.same)) in
    record {
      pool = c.program_move.ensures.follow.pool on;
      cache = subst (λ (sh : Shape). AreCurrent sh.pages mid.fields.places c.args.cache.now.entries) (sym shape)
          (subst (λ (f : Fields). AreCurrent old.shape.pages f.places c.args.cache.now.entries) (sym fields) c.requires.agree.cache);
      parted = subst (λ (f : Fields). AreParted f.slots f.undos f.places) (sym fields) c.requires.agree.parted;
    }

pub returns-in_err-target-clause-follow : goal.returns-in_err-target-clause-follow
returns-in_err-target-clause-follow g c =
    let old = chart (g.B.Board.state c.args.board.now) in
    let mid = chart (g.B.Board.state c.program_move.new.board) in
    let fields = λ (on : IsTrue mid.on). ClaimsTarget.fields (c.program_move.ensures.claims on) in
    let shape = Framed.shape (Stays.framed (Same.stays c.program_move.ensures.same)) in
    record {
      pool = c.program_move.ensures.follow.pool;
      cache = λ on. subst (λ (sh : Shape). AreCurrent sh.pages mid.fields.places c.args.cache.now.entries) (sym shape)
          (subst (λ (f : Fields). AreCurrent old.shape.pages f.places c.args.cache.now.entries) (sym (fields on)) c.requires.agree.cache);
      parted = λ on. subst (λ (f : Fields). AreParted f.slots f.undos f.places) (sym (fields on)) c.requires.agree.parted;
      shape = c.program_move.ensures.follow.shape;
      rests = Rests-refl _;
    }

pub returns-in_err-rename-clause-follow : goal.returns-in_err-rename-clause-follow
returns-in_err-rename-clause-follow g c =
    let follow = c.rename.ensures.follow in
    record { pool = follow.pool; cache = follow.cache; parted = follow.parted; shape = follow.shape ∙ c.program_move.ensures.follow.shape; rests = follow.rests }

pub returns-clause-follow : goal.returns-clause-follow
returns-clause-follow g c =
    let follow = c.rename.ensures.follow in
    record { pool = follow.pool; cache = follow.cache; parted = follow.parted; shape = follow.shape ∙ c.program_move.ensures.follow.shape; rests = follow.rests }

pub rename-requires-clause-may : goal.rename-requires-clause-may
rename-requires-clause-may g c =
    let old = chart (g.B.Board.state c.args.board.now) in
    let mid = chart (g.B.Board.state c.program_move.new.board) in
    let s = c.segment_at-segment.result in
    let n = get_or old.fields.fills s 0 in
    let pool = c.args.space.now in
    let here = c.segment_at-segment.ensures.segment in
    let rows : pool.shape.rows ≡ old.shape.rows = ap (λ (sh : Shape). sh.rows) (IsPoolOf.shape c.requires.agree.pool) in
    let segments : pool.shape.segments ≡ old.shape.segments = ap (λ (sh : Shape). sh.segments) (IsPoolOf.shape c.requires.agree.pool) in
    let reserves : pool.shape.reserves ≡ old.shape.reserves = ap (λ (sh : Shape). sh.reserves) (IsPoolOf.shape c.requires.agree.pool) in
    let room = HasRoom.room c.requires.next.room in
    let fill : get_or pool.fills (get_or pool.positions c.args.next.position 0) 0 ≡ n = ap (λ (x : ℕ). get_or pool.fills x 0) (sym here) ∙ ap (λ (xs : List ℕ). get_or xs s 0) (IsPoolOf.fills c.requires.agree.pool) in
    let bound = IsPool.positions_fit c.segment_at-segment.ensures.pool c.args.next.position (omega (arith, c.requires.next.position)) in
    let position = c.requires.next.position in
    let may = MayName-claimed old.shape old.fields old.flash s n c.args.next.kept.page c.requires.sound (omega arith) refl (omega arith)
    (c.args.next.position, (omega arith), ap (λ (xs : List ℕ). get_or xs c.args.next.position 0) (sym (IsPoolOf.positions c.requires.agree.pool)) ∙ sym here) (unswitched-copying old.fields c.requires.next.v s c.requires.next.copying) in
    subst (λ (sh : Shape). MayName sh mid.fields c.args.next.kept.page c.in_ok-target.target) (sym (Framed.shape (Stays.framed (Same.stays c.program_move.ensures.same))))
    (subst (λ (f : Fields). MayName old.shape f c.args.next.kept.page c.in_ok-target.target) (sym (ClaimsTarget.fields (c.program_move.ensures.claims c.in_ok-target.ensures.power)))
    (subst (λ (t : ℕ). MayName old.shape (with_fill s (n + 1) (with_back (s * old.shape.rows + n) c.args.next.kept.page old.fields)) c.args.next.kept.page t) (sym (CopiesTo.is c.in_ok-target.ensures.copy)) may))

pub rename-requires-clause-free : goal.rename-requires-clause-free
rename-requires-clause-free g c = λ r names.
    let old = chart (g.B.Board.state c.args.board.now) in
    let s = c.segment_at-segment.result in
    let n = get_or old.fields.fills s 0 in
    let pool = c.args.space.now in
    let here = c.segment_at-segment.ensures.segment in
    let rows : pool.shape.rows ≡ old.shape.rows = ap (λ (sh : Shape). sh.rows) (IsPoolOf.shape c.requires.agree.pool) in
    let room = HasRoom.room c.requires.next.room in
    let fill : get_or pool.fills (get_or pool.positions c.args.next.position 0) 0 ≡ n = ap (λ (x : ℕ). get_or pool.fills x 0) (sym here) ∙ ap (λ (xs : List ℕ). get_or xs s 0) (IsPoolOf.fills c.requires.agree.pool) in
    let named : Names (with_fill s (n + 1) (with_back (s * old.shape.rows + n) c.args.next.kept.page old.fields)) r (s * old.shape.rows + n) =
    subst (λ (t : ℕ). Names (with_fill s (n + 1) (with_back (s * old.shape.rows + n) c.args.next.kept.page old.fields)) r t) (CopiesTo.is c.in_ok-target.ensures.copy) (subst (λ (f : Fields). Names f r c.in_ok-target.target) (ClaimsTarget.fields (c.program_move.ensures.claims c.in_ok-target.ensures.power)) names) in
    unnamed-claimed old.shape old.fields old.flash s n r c.requires.sound refl (omega arith) named

pub returns-in_err-rename-clause-same : goal.returns-in_err-rename-clause-same
returns-in_err-rename-clause-same g c = then_same 1 0 (chart (g.B.Board.state c.args.board.now)) (chart (g.B.Board.state c.program_move.new.board)) (chart (g.B.Board.state c.rename.new.board)) c.program_move.ensures.same c.rename.ensures.same

pub returns-clause-same : goal.returns-clause-same
returns-clause-same g c = then_same 1 0 (chart (g.B.Board.state c.args.board.now)) (chart (g.B.Board.state c.program_move.new.board)) (chart (g.B.Board.state c.rename.new.board)) c.program_move.ensures.same c.rename.ensures.same

pub returns-clause-moves : goal.returns-clause-moves
returns-clause-moves g c =
    let old = chart (g.B.Board.state c.args.board.now) in
    let mid = chart (g.B.Board.state c.program_move.new.board) in
    let new = chart (g.B.Board.state c.rename.new.board) in
    let s = c.segment_at-segment.result in
    let t = s * old.shape.rows + get_or old.fields.fills s 0 in
    let next = c.args.next in
    let renamed = c.in_ok-rename.ensures.fields in
    let on = c.in_ok-target.ensures.power in
    let flash : new.flash ≡ mid.flash = ap (λ (x : Chart). x.flash) renamed in
    subst (λ (x : ℕ). MovesRow old x next new) c.segment_at-segment.ensures.segment (record {
      named = c.requires.next.named;
      fields = ap (λ (x : Chart). x.fields) renamed ∙ ap (λ (f : Fields). with_named next.kept.page c.in_ok-target.target next.kept.undo f) (ClaimsTarget.fields (c.program_move.ensures.claims on))
          ∙ ap (λ (x : ℕ). with_named next.kept.page x next.kept.undo (with_fill s (get_or old.fields.fills s 0 + 1) (with_back t next.kept.page old.fields))) (CopiesTo.is c.in_ok-target.ensures.copy);
      copy = ap (λ (xs : List (List ℕ)). get_or xs t []) flash ∙ CopiesTo.copy c.in_ok-target.ensures.copy;
      others = λ r other. ap (λ (xs : List (List ℕ)). get_or xs r []) flash ∙ ClaimsTarget.others (c.program_move.ensures.claims on) r other;
    })

pub returns-in_err-target-clause-same : goal.returns-in_err-target-clause-same
returns-in_err-target-clause-same g c =
    c.program_move.ensures.same

pub returns-in_err-target-clause-counts : goal.returns-in_err-target-clause-counts
returns-in_err-target-clause-counts g c =
    c.program_move.ensures.counts

pub returns-in_err-rename-clause-counts : goal.returns-in_err-rename-clause-counts
returns-in_err-rename-clause-counts g c =
    let old = chart (g.B.Board.state c.args.board.now) in
    let mid = chart (g.B.Board.state c.program_move.new.board) in
    let new = chart (g.B.Board.state c.rename.new.board) in
    tally_end c.args.moved.now c.program_move.new.moved old mid new c.program_move.ensures.counts c.rename.ensures.same

pub returns-clause-counts : goal.returns-clause-counts
returns-clause-counts g c =
    let old = chart (g.B.Board.state c.args.board.now) in
    let mid = chart (g.B.Board.state c.program_move.new.board) in
    let new = chart (g.B.Board.state c.rename.new.board) in
    tally_end c.args.moved.now c.program_move.new.moved old mid new c.program_move.ensures.counts c.rename.ensures.same

pub returns-in_err-target-clause-counted : goal.returns-in_err-target-clause-counted
returns-in_err-target-clause-counted g c =
    λ on. ClaimsTarget.counted (c.program_move.ensures.claims on)

pub returns-clause-counted : goal.returns-clause-counted
returns-clause-counted g c =
    λ on. ClaimsTarget.counted (c.program_move.ensures.claims c.in_ok-target.ensures.power)

pub returns-in_err-target-clause-moves : goal.returns-in_err-target-clause-moves
returns-in_err-target-clause-moves g c = err-if c.from_residual.result _ c.in_err-target.field-0.0 c.from_residual.ensures.1

pub returns-in_err-target-clause-power : goal.returns-in_err-target-clause-power
returns-in_err-target-clause-power g c = err-after ℕ c.from_residual.result (g.B.Board.state c.program_move.new.board).on c.in_err-target.field-0.0 c.in_err-target.ensures.power c.from_residual.ensures.1

pub returns-in_err-target-clause-fails : goal.returns-in_err-target-clause-fails
returns-in_err-target-clause-fails g c bad =
    let old = chart (g.B.Board.state c.args.board.now) in
    let mid = chart (g.B.Board.state c.program_move.new.board) in
    let is = err-bad c.from_residual.result c.in_err-target.field-0.0 c.from_residual.ensures.1 bad in
    let claims = c.program_move.ensures.claims (c.in_err-target.ensures.power ∙ ap (λ (e : Trouble). power_after {A = ℕ} (Err e)) is) in
    subst (λ (s : ℕ). WastesRow old s c.args.next.kept.page mid) c.segment_at-segment.ensures.segment
    (record { fields = claims.fields; others = claims.others; bad = c.in_err-target.ensures.bad (ap (λ (e : Trouble). Err e) is) })

pub rename-requires-clause-sound : goal.rename-requires-clause-sound
rename-requires-clause-sound g c = Stays.sound (Same.stays c.program_move.ensures.same)

pub rename-requires-clause-page : goal.rename-requires-clause-page
rename-requires-clause-page g c = subst (λ (sh : Shape). c.args.next.kept.page < sh.pages) (sym (Framed.shape (Stays.framed (Same.stays c.program_move.ensures.same)))) c.requires.next.page

pub rename-requires-clause-named : goal.rename-requires-clause-named
rename-requires-clause-named g c =
    let claims = c.program_move.ensures.claims c.in_ok-target.ensures.power in
    subst (λ (f : Fields). IsNamed f c.args.next.kept.page c.args.next.row c.args.next.kept.undo) (sym (ClaimsTarget.fields claims)) c.requires.next.named

pub rename-requires-clause-copy : goal.rename-requires-clause-copy
rename-requires-clause-copy g c =
    let old = chart (g.B.Board.state c.args.board.now) in
    let mid = chart (g.B.Board.state c.program_move.new.board) in
    let s = c.segment_at-segment.result in
    let n = get_or old.fields.fills s 0 in
    let pool = c.args.space.now in
    let here = c.segment_at-segment.ensures.segment in
    let rows : pool.shape.rows ≡ old.shape.rows = ap (λ (sh : Shape). sh.rows) (IsPoolOf.shape c.requires.agree.pool) in
    let room = HasRoom.room c.requires.next.room in
    let fill : get_or pool.fills (get_or pool.positions c.args.next.position 0) 0 ≡ n = ap (λ (x : ℕ). get_or pool.fills x 0) (sym here) ∙ ap (λ (xs : List ℕ). get_or xs s 0) (IsPoolOf.fills c.requires.agree.pool) in
    let names = Names-named old.fields c.args.next.kept.page c.args.next.row c.args.next.kept.undo c.requires.next.named in
    let claims = c.program_move.ensures.claims c.in_ok-target.ensures.power in
    let copy = c.in_ok-target.ensures.copy in
    let apart = ClaimsTarget.others claims c.args.next.row (λ same. unnamed-claimed old.shape old.fields old.flash s n c.args.next.kept.page c.requires.sound refl (omega arith) (subst (λ (q : ℕ). Names old.fields c.args.next.kept.page q) same names)) in
    ap (λ (q : ℕ). get_or mid.flash q []) (CopiesTo.is copy) ∙ CopiesTo.copy copy ∙ sym apart

pub returns-in_err-rename-clause-moves : goal.returns-in_err-rename-clause-moves
returns-in_err-rename-clause-moves g c = off-if c.from_residual-in_err-rename.result _ c.from_residual-in_err-rename.ensures.1

pub returns-in_err-rename-clause-power : goal.returns-in_err-rename-clause-power
returns-in_err-rename-clause-power g c = off-after c.from_residual-in_err-rename.result (g.B.Board.state c.rename.new.board).on c.in_err-rename.ensures.power c.from_residual-in_err-rename.ensures.1

pub returns-in_err-rename-clause-fails : goal.returns-in_err-rename-clause-fails
returns-in_err-rename-clause-fails g c bad = off-bad c.from_residual-in_err-rename.result c.from_residual-in_err-rename.ensures.1 bad

pub returns-clause-fails : goal.returns-clause-fails
returns-clause-fails g c bad = absurd (cc)

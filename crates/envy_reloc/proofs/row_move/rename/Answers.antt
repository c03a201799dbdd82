use Rattle.std.proofs.Common.{◌*◌, ◌<◌, refl, sym, ap, subst}
use Rattle.envy_base.specs.declared.shape.Shape.{Shape}
use Rattle.envy_map.specs.Fields.{Chart, chart}
use Rattle.envy_soundness.specs.Same.{Same, Stays}
use Rattle.envy_soundness.specs.May.{MayName}
use Rattle.envy_soundness.specs.Sound.{IsSound}
use Rattle.envy_space.specs.Pool.{Pool, IsPoolOf, PoolAgrees}
use Rattle.envy_soundness.specs.Naming.{AreParted}
use Rattle.envy_soundness.specs.Naming.{with_named}
use Rattle.envy_table.specs.Agreement.{AreCurrent}
use Rattle.envy_soundness.proofs.NamingLemmas.{AreParted-named, Names-named}
use Rattle.envy_soundness.proofs.KeptLemmas.{Names-range}
use Rattle.envy_table.proofs.HitLemmas.{Rests-refl}
use Rattle.envy_reloc.proofs.Exits.{unpowered}
use Rattle.envy_space.specs.Following.{Followed}
use Rattle.envy_space.proofs.FollowLemmas.{Followed-named}
use Rattle.envy_reloc.proofs.row_move.rename.Goals as goal

pub follow-requires-clause-some : goal.follow-requires-clause-some
follow-requires-clause-some g c =
    let old = chart (g.B.Board.state c.args.board.now) in
    let sound = subst (λ (x : Chart). IsSound x) c.in_ok-name_row.ensures.fields (Stays.sound (Same.stays c.name_row.ensures.same)) in
    Followed.some (Followed-named old.shape old.fields old.flash c.args.kept.page c.args.row c.args.target c.args.kept.undo c.args.space.now c.requires.sound c.requires.agree.parted c.requires.agree.pool c.requires.named (c.requires.free c.args.kept.page)
    (MayName.range c.requires.may) sound)

pub follow-requires-clause-room : goal.follow-requires-clause-room
follow-requires-clause-room g c =
    let old = chart (g.B.Board.state c.args.board.now) in
    let sound = subst (λ (x : Chart). IsSound x) c.in_ok-name_row.ensures.fields (Stays.sound (Same.stays c.name_row.ensures.same)) in
    Followed.room (Followed-named old.shape old.fields old.flash c.args.kept.page c.args.row c.args.target c.args.kept.undo c.args.space.now c.requires.sound c.requires.agree.parted c.requires.agree.pool c.requires.named (c.requires.free c.args.kept.page)
    (MayName.range c.requires.may) sound)

pub returns-clause-follow : goal.returns-clause-follow
returns-clause-follow g c =
    let old = chart (g.B.Board.state c.args.board.now) in
    let is = c.in_ok-name_row.ensures.fields in
    let sound = subst (λ (x : Chart). IsSound x) is (Stays.sound (Same.stays c.name_row.ensures.same)) in
    let followed = Followed-named old.shape old.fields old.flash c.args.kept.page c.args.row c.args.target c.args.kept.undo c.args.space.now c.requires.sound c.requires.agree.parted c.requires.agree.pool c.requires.named (c.requires.free c.args.kept.page)
    (MayName.range c.requires.may) sound in
    record {
      pool = λ on. subst (λ (x : Chart). PoolAgrees x.shape x.fields c.follow.new.space) (sym is)
          (subst (λ (p : Pool). PoolAgrees old.shape (with_named c.args.kept.page c.args.target c.args.kept.undo old.fields) p) (sym c.follow.ensures.space) (Followed.agrees followed));
      cache = λ on. subst (λ (x : Chart). AreCurrent x.shape.pages x.fields.places c.follow.new.cache.entries) (sym is) (c.follow.ensures.cache old.shape.pages old.fields c.requires.agree.cache);
      parted = λ on. subst (λ (x : Chart). AreParted x.fields.slots x.fields.undos x.fields.places) (sym is)
          (AreParted-named old.shape old.fields old.flash c.args.kept.page c.args.row c.args.target c.args.kept.undo c.requires.sound c.requires.agree.parted c.requires.page c.requires.named (c.requires.free c.args.kept.page));
      shape = ap (λ (p : Pool). p.shape) c.follow.ensures.space;
      rests = c.follow.ensures.rests;
    }

pub follow-requires-clause-row : goal.follow-requires-clause-row
follow-requires-clause-row g c =
    let old = chart (g.B.Board.state c.args.board.now) in
    subst (λ (sh : Shape). c.args.row < sh.segments * sh.rows) (sym (IsPoolOf.shape c.requires.agree.pool)) (Names-range old.shape old.fields old.flash c.args.kept.page c.args.row c.requires.sound (Names-named old.fields c.args.kept.page c.args.row c.args.kept.undo c.requires.named))

pub follow-requires-clause-copy : goal.follow-requires-clause-copy
follow-requires-clause-copy g c =
    let old = chart (g.B.Board.state c.args.board.now) in
    subst (λ (sh : Shape). c.args.target < sh.segments * sh.rows) (sym (IsPoolOf.shape c.requires.agree.pool)) (MayName.range c.requires.may)

pub returns-in_err-name_row-clause-same : goal.returns-in_err-name_row-clause-same
returns-in_err-name_row-clause-same g c =
    c.name_row.ensures.same

pub returns-clause-same : goal.returns-clause-same
returns-clause-same g c =
    c.name_row.ensures.same

pub returns-clause-fields : goal.returns-clause-fields
returns-clause-fields g c =
    c.in_ok-name_row.ensures.fields

pub returns-in_err-name_row-clause-follow : goal.returns-in_err-name_row-clause-follow
returns-in_err-name_row-clause-follow g c =
    let off = c.in_err-name_row.ensures.power in
    record { pool = λ on. unpowered _ off on; cache = λ on. unpowered _ off on; parted = λ on. unpowered _ off on; shape = refl; rests = Rests-refl _ }

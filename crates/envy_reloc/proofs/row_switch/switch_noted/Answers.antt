use Rattle.std.proofs.Common.{ℕ, ◌+◌, ◌*◌, ◌<◌, List, Option, refl, sym, ap, subst}
use Rattle.envy_base.specs.declared.shape.Shape.{Shape}
use Rattle.envy_map.specs.Fields.{Fields, chart}
use Rattle.envy_soundness.specs.Naming.{AreParted}
use Rattle.envy_soundness.proofs.Claimed.{row-range}
use Rattle.envy_soundness.proofs.KeptLemmas.{Names-range}
use Rattle.envy_soundness.proofs.NamingLemmas.{Names-named}
use Rattle.envy_soundness.specs.Same.{Same, Stays, Framed}
use Rattle.envy_soundness.specs.Sound.{Sound}
use Rattle.envy_space.specs.Pool.{Pool, PoolAgrees}
use Rattle.envy_table.specs.Agreement.{AreCurrent}
use Rattle.envy_reloc.specs.declared.row_switch.Switched.{Switched}
use Rattle.envy_reloc.specs.Switching.{SwitchesRow}
use Rattle.envy_space.specs.Following.{Followed}
use Rattle.envy_reloc.proofs.SwitchLemmas.{Followed-switched, AreParted-switched, AreCurrent-switched}
use Rattle.envy_table.proofs.HitLemmas.{Rests-refl}
use Rattle.envy_reloc.proofs.Exits.{unpowered, none-if}
use Rattle.envy_reloc.proofs.row_switch.switch_noted.Goals as goal

pub follow-requires-clause-some : goal.follow-requires-clause-some
follow-requires-clause-some g c =
    let old = chart (g.B.Board.state c.args.board.now) in
    let new = chart (g.B.Board.state c.switch_row.new.board) in
    let shape = Framed.shape (Stays.framed (Same.stays c.switch_row.ensures.same)) in
    let sound = subst (λ (fl : List (List ℕ)). Sound old.shape new.fields fl) c.in_ok-switched.ensures.flash (subst (λ (sh : Shape). Sound sh new.fields new.flash) shape (Stays.sound (Same.stays c.switch_row.ensures.same))) in
    let switches = subst (λ (s : Option Switched). SwitchesRow old.shape old.fields c.args.spare c.args.i s new.fields) c.in-Some.is c.in_ok-switched.ensures.switches in
    Followed.some (Followed-switched old.shape old.fields new.fields old.flash c.args.spare c.args.i (c.args.spare * c.shape.result.rows + c.args.i) c.in-Some.switched c.args.space.now c.requires.sound sound c.requires.agree.parted c.requires.agree.pool c.requires.copied c.requires.spare c.requires.row (ap (λ (sh : Shape). c.args.spare * sh.rows + c.args.i) c.shape.ensures) switches)

pub follow-requires-clause-room : goal.follow-requires-clause-room
follow-requires-clause-room g c =
    let old = chart (g.B.Board.state c.args.board.now) in
    let new = chart (g.B.Board.state c.switch_row.new.board) in
    let shape = Framed.shape (Stays.framed (Same.stays c.switch_row.ensures.same)) in
    let sound = subst (λ (fl : List (List ℕ)). Sound old.shape new.fields fl) c.in_ok-switched.ensures.flash (subst (λ (sh : Shape). Sound sh new.fields new.flash) shape (Stays.sound (Same.stays c.switch_row.ensures.same))) in
    let switches = subst (λ (s : Option Switched). SwitchesRow old.shape old.fields c.args.spare c.args.i s new.fields) c.in-Some.is c.in_ok-switched.ensures.switches in
    Followed.room (Followed-switched old.shape old.fields new.fields old.flash c.args.spare c.args.i (c.args.spare * c.shape.result.rows + c.args.i) c.in-Some.switched c.args.space.now c.requires.sound sound c.requires.agree.parted c.requires.agree.pool c.requires.copied c.requires.spare c.requires.row (ap (λ (sh : Shape). c.args.spare * sh.rows + c.args.i) c.shape.ensures) switches)

pub returns-clause-follow : goal.returns-clause-follow
returns-clause-follow g c =
    let old = chart (g.B.Board.state c.args.board.now) in
    let new = chart (g.B.Board.state c.switch_row.new.board) in
    let copy = c.args.spare * c.shape.result.rows + c.args.i in
    let is = ap (λ (sh : Shape). c.args.spare * sh.rows + c.args.i) c.shape.ensures in
    let shape = Framed.shape (Stays.framed (Same.stays c.switch_row.ensures.same)) in
    let sound = subst (λ (fl : List (List ℕ)). Sound old.shape new.fields fl) c.in_ok-switched.ensures.flash (subst (λ (sh : Shape). Sound sh new.fields new.flash) shape (Stays.sound (Same.stays c.switch_row.ensures.same))) in
    let switches = subst (λ (s : Option Switched). SwitchesRow old.shape old.fields c.args.spare c.args.i s new.fields) c.in-Some.is c.in_ok-switched.ensures.switches in
    let followed = Followed-switched old.shape old.fields new.fields old.flash c.args.spare c.args.i copy c.in-Some.switched c.args.space.now c.requires.sound sound c.requires.agree.parted c.requires.agree.pool c.requires.copied c.requires.spare c.requires.row is switches in
    record {
      pool = λ on. subst (λ (sh : Shape). PoolAgrees sh new.fields c.follow.new.space) (sym shape) (subst (λ (p : Pool). PoolAgrees old.shape new.fields p) (sym c.follow.ensures.space) (Followed.agrees followed));
      cache = λ on. subst (λ (sh : Shape). AreCurrent sh.pages new.fields.places c.follow.new.cache.entries) (sym shape)
          (AreCurrent-switched old.shape old.fields new.fields c.args.spare c.args.i copy old.shape.pages c.in-Some.switched c.args.cache.now.entries c.follow.new.cache.entries is switches c.requires.agree.cache c.follow.ensures.cache);
      parted = λ on. AreParted-switched old.shape old.fields new.fields old.flash c.args.spare c.args.i c.in-Some.switched c.requires.sound c.requires.agree.parted c.requires.copied switches;
      shape = ap (λ (p : Pool). p.shape) c.follow.ensures.space;
      rests = c.follow.ensures.rests;
    }

pub returns-in_err-switched-clause-follow : goal.returns-in_err-switched-clause-follow
returns-in_err-switched-clause-follow g c =
    let off = c.in_err-switched.ensures.power in
    let lit = (g.B.Board.state c.switch_row.new.board).on in
    record {
      pool = λ on. unpowered lit off on;
      cache = λ on. unpowered lit off on;
      parted = λ on. unpowered lit off on;
      shape = refl;
      rests = Rests-refl c.args.cache.now;
    }

pub returns-in_err-switched-clause-switches : goal.returns-in_err-switched-clause-switches
returns-in_err-switched-clause-switches g c = none-if c.from_residual.result _ _ c.from_residual.ensures.1

pub returns-in_err-switched-clause-flash : goal.returns-in_err-switched-clause-flash
returns-in_err-switched-clause-flash g c = none-if c.from_residual.result _ _ c.from_residual.ensures.1

pub returns-in_default-clause-follow : goal.returns-in_default-clause-follow
returns-in_default-clause-follow g c =
    let old = chart (g.B.Board.state c.args.board.now) in
    let new = chart (g.B.Board.state c.switch_row.new.board) in
    let shape = Framed.shape (Stays.framed (Same.stays c.switch_row.ensures.same)) in
    let fields = (subst (λ (s : Option Switched). SwitchesRow old.shape old.fields c.args.spare c.args.i s new.fields) c.in_default.is c.in_ok-switched.ensures.switches).0 in
    let agree = c.requires.agree in
    record {
      pool = λ on. subst (λ (sh : Shape). PoolAgrees sh new.fields c.args.space.now) (sym shape) (subst (λ (f : Fields). PoolAgrees old.shape f c.args.space.now) (sym fields) agree.pool);
      cache = λ on. subst (λ (sh : Shape). AreCurrent sh.pages new.fields.places c.args.cache.now.entries) (sym shape) (subst (λ (f : Fields). AreCurrent old.shape.pages f.places c.args.cache.now.entries) (sym fields) agree.cache);
      parted = λ on. subst (λ (f : Fields). AreParted f.slots f.undos f.places) (sym fields) agree.parted;
      shape = refl;
      rests = Rests-refl c.args.cache.now;
    }

pub returns-in_default-clause-switches : goal.returns-in_default-clause-switches
returns-in_default-clause-switches g c = (c.in_ok-switched.field-0, c.in_ok-switched.ensures.switches)

pub returns-clause-switches : goal.returns-clause-switches
returns-clause-switches g c = (c.in_ok-switched.field-0, c.in_ok-switched.ensures.switches)

pub follow-requires-clause-row : goal.follow-requires-clause-row
follow-requires-clause-row g c =
    let old = chart (g.B.Board.state c.args.board.now) in
    let new = chart (g.B.Board.state c.switch_row.new.board) in
    let s = c.in-Some.switched in
    let switches = subst (λ (x : Option Switched). SwitchesRow old.shape old.fields c.args.spare c.args.i x new.fields) c.in-Some.is c.in_ok-switched.ensures.switches in
    let range = Names-range old.shape old.fields old.flash s.kept.page s.row c.requires.sound (Names-named old.fields s.kept.page s.row s.kept.undo switches.2) in
    subst (λ (sh : Shape). s.row < sh.segments * sh.rows) (sym c.requires.agree.pool.shape) range

pub follow-requires-clause-copy : goal.follow-requires-clause-copy
follow-requires-clause-copy g c =
    let old = chart (g.B.Board.state c.args.board.now) in
    let copy = c.args.spare * c.shape.result.rows + c.args.i in
    let range = row-range old.shape c.args.spare c.args.i c.requires.spare c.requires.row in
    let is = ap (λ (sh : Shape). c.args.spare * sh.rows + c.args.i) c.shape.ensures in
    subst (λ (sh : Shape). copy < sh.segments * sh.rows) (sym c.requires.agree.pool.shape) (subst (λ (q : ℕ). q < old.shape.segments * old.shape.rows) (sym is) range)

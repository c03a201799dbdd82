use Rattle.std.proofs.Common.{◌≡◌, ◌∙◌, ℕ, ◌+◌, ◌<◌, List, get_or, refl, sym, ap, subst, arith}
use Rattle.envy_base.specs.declared.shape.Shape.{Shape}
use Rattle.envy_map.specs.Fields.{Chart, chart}
use Rattle.envy_soundness.specs.Same.{Same, Stays, Framed}
use Rattle.envy_soundness.specs.Naming.{AreParted}
use Rattle.envy_soundness.specs.Sound.{Sound, Numbers}
use Rattle.envy_soundness.proofs.Composition.{Same-refl}
use Rattle.envy_space.specs.Pool.{IsPoolOf, PoolAgrees}
use Rattle.envy_table.specs.Agreement.{AreCurrent}
use Rattle.envy_soundness.proofs.Sames.{then_same}
use Rattle.envy_table.proofs.HitLemmas.{Rests-refl, Rests-trans}
use Rattle.envy_reloc.specs.Switching.{SwitchesRows}
use Rattle.envy_reloc.proofs.SwitchLemmas.{IsCopied-going, SwitchesRows-none, SwitchesRows-next, SwitchesAll-made}
use Rattle.envy_reloc.proofs.Exits.{unpowered, none-if, none-power}
use Rattle.envy_reloc.proofs.row_switch.switch_segment.Goals as goal

pub returns-in_err-switch_noted-clause-same : goal.returns-in_err-switch_noted-clause-same
returns-in_err-switch_noted-clause-same g c =
    let old = chart (g.B.Board.state c.args.board.now) in
    let begin = chart (g.B.Board.state c.begin_switch.new.board) in
    let now = chart (g.B.Board.state c.loop-i.board) in
    then_same 0 0 old now (chart (g.B.Board.state c.switch_noted.new.board)) (then_same 0 0 old begin now c.begin_switch.ensures.same c.loop-i.invariant.same) c.switch_noted.ensures.same

pub loop-i-preserved : goal.loop-i-preserved
loop-i-preserved g c =
    let old = chart (g.B.Board.state c.args.board.now) in
    let begin = chart (g.B.Board.state c.begin_switch.new.board) in
    let now = chart (g.B.Board.state c.loop-i.board) in
    let new = chart (g.B.Board.state c.switch_noted.new.board) in
    let inv = c.loop-i.invariant in
    let begun = Framed.shape (Stays.framed (Same.stays c.begin_switch.ensures.same)) in
    let going = Framed.shape (Stays.framed (Same.stays inv.same)) in
    let shape = Framed.shape (Stays.framed (Same.stays c.switch_noted.ensures.same)) in
    let switches = c.in_ok-switch_noted.ensures.switches in
    let less = c.loop-i-test.true in
    let fill : c.fill-i-end.result ≡ get_or old.fields.fills c.args.spare 0 = c.fill-i-end.ensures.fill ∙ ap (λ (xs : List ℕ). get_or xs c.args.spare 0) (IsPoolOf.fills c.requires.agree.pool) in
    let copied = IsCopied-going old begin now c.args.segment c.args.spare c.loop-i.i c.loop-i.i c.requires.sound c.requires.copying c.requires.spare c.in_ok-begin_switch.ensures.fields (going ∙ begun) inv.rows (omega arith) in
    let sound = subst (λ (fl : List (List ℕ)). Sound now.shape new.fields fl) c.in_ok-switch_noted.ensures.flash (subst (λ (sh : Shape). Sound sh new.fields new.flash) shape (Stays.sound (Same.stays c.switch_noted.ensures.same))) in
    record {
      same = then_same 0 0 begin now new inv.same c.switch_noted.ensures.same;
      on = c.in_ok-switch_noted.ensures.power;
      flash = c.in_ok-switch_noted.ensures.flash ∙ inv.flash;
      pool = c.switch_noted.ensures.follow.pool c.in_ok-switch_noted.ensures.power;
      cache = c.switch_noted.ensures.follow.cache c.in_ok-switch_noted.ensures.power;
      parted = c.switch_noted.ensures.follow.parted c.in_ok-switch_noted.ensures.power;
      rests = Rests-trans _ _ _ inv.rests c.switch_noted.ensures.follow.rests;
      shape = c.switch_noted.ensures.follow.shape ∙ inv.shape;
      rows = subst (λ (sh : Shape). SwitchesRows sh c.args.spare (c.loop-i.i + 1) begin.fields new.fields) (sym shape) (SwitchesRows-next now.shape begin.fields now.fields new.fields now.flash c.args.spare c.loop-i.i switches.0 (Stays.sound (Same.stays inv.same)) inv.parted copied inv.rows switches.1);
    }

pub returns-clause-switches : goal.returns-clause-switches
returns-clause-switches g c =
    let old = chart (g.B.Board.state c.args.board.now) in
    let begin = chart (g.B.Board.state c.begin_switch.new.board) in
    let new = chart (g.B.Board.state c.loop-i.board) in
    let inv = c.loop-i.invariant in
    let begun = Framed.shape (Stays.framed (Same.stays c.begin_switch.ensures.same)) in
    let going = Framed.shape (Stays.framed (Same.stays inv.same)) in
    let fill : c.fill-i-end.result ≡ get_or old.fields.fills c.args.spare 0 = c.fill-i-end.ensures.fill ∙ ap (λ (xs : List ℕ). get_or xs c.args.spare 0) (IsPoolOf.fills c.requires.agree.pool) in
    let end = c.loop-i-test.false in
    let within = c.loop-i.auto.i-end in
    SwitchesAll-made old begin new c.args.segment c.args.spare c.loop-i.i c.requires.sound (c.requires.copied c.args.spare c.requires.spare) c.requires.copying c.requires.spare c.in_ok-begin_switch.ensures.fields (going ∙ begun) (subst (λ (sh : Shape). SwitchesRows sh c.args.spare c.loop-i.i begin.fields new.fields) (going ∙ begun) inv.rows) (omega arith)

pub returns-in_err-switch_noted-clause-follow : goal.returns-in_err-switch_noted-clause-follow
returns-in_err-switch_noted-clause-follow g c =
    let follow = c.switch_noted.ensures.follow in
    record {
      pool = follow.pool;
      cache = follow.cache;
      parted = follow.parted;
      shape = follow.shape ∙ c.loop-i.invariant.shape;
      rests = Rests-trans _ _ _ c.loop-i.invariant.rests follow.rests;
    }

pub begin_switch-requires-clause-copied : goal.begin_switch-requires-clause-copied
begin_switch-requires-clause-copied g c = λ on. c.requires.copied

pub returns-in_err-begin_switch-clause-follow : goal.returns-in_err-begin_switch-clause-follow
returns-in_err-begin_switch-clause-follow g c =
    let off = c.in_err-begin_switch.ensures.power in
    let lit = (g.B.Board.state c.begin_switch.new.board).on in
    record {
      pool = λ on. unpowered lit off on;
      cache = λ on. unpowered lit off on;
      parted = λ on. unpowered lit off on;
      shape = refl;
      rests = Rests-refl c.args.cache.now;
    }

pub returns-in_err-begin_switch-clause-switches : goal.returns-in_err-begin_switch-clause-switches
returns-in_err-begin_switch-clause-switches g c = none-if c.from_residual.result _ _ c.from_residual.ensures.1

pub returns-in_err-begin_switch-clause-flash : goal.returns-in_err-begin_switch-clause-flash
returns-in_err-begin_switch-clause-flash g c = none-if c.from_residual.result _ _ c.from_residual.ensures.1

pub returns-in_err-begin_switch-clause-power : goal.returns-in_err-begin_switch-clause-power
returns-in_err-begin_switch-clause-power g c = none-power c.from_residual.result _ (g.B.Board.state c.begin_switch.new.board).on c.in_err-begin_switch.ensures.power c.from_residual.ensures.1

pub loop-i-init : goal.loop-i-init
loop-i-init g c =
    let begin = chart (g.B.Board.state c.begin_switch.new.board) in
    let fields = c.in_ok-begin_switch.ensures.fields in
    record {
      same = Same-refl begin (Stays.sound (Same.stays c.begin_switch.ensures.same));
      on = c.in_ok-begin_switch.ensures.power;
      flash = refl;
      pool = subst (λ (x : Chart). PoolAgrees x.shape x.fields c.args.space.now) (sym fields) c.requires.agree.pool;
      cache = subst (λ (x : Chart). AreCurrent x.shape.pages x.fields.places c.args.cache.now.entries) (sym fields) c.requires.agree.cache;
      parted = subst (λ (x : Chart). AreParted x.fields.slots x.fields.undos x.fields.places) (sym fields) c.requires.agree.parted;
      rests = Rests-refl c.args.cache.now;
      shape = refl;
      rows = SwitchesRows-none begin.shape c.args.spare begin.fields;
    }

pub switch_noted-requires-clause-agree : goal.switch_noted-requires-clause-agree
switch_noted-requires-clause-agree g c =
    let inv = c.loop-i.invariant in
    record { pool = inv.pool; cache = inv.cache; parted = inv.parted }

pub switch_noted-requires-clause-row : goal.switch_noted-requires-clause-row
switch_noted-requires-clause-row g c =
    let old = chart (g.B.Board.state c.args.board.now) in
    let now = chart (g.B.Board.state c.loop-i.board) in
    let begun = Framed.shape (Stays.framed (Same.stays c.begin_switch.ensures.same)) in
    let going = Framed.shape (Stays.framed (Same.stays c.loop-i.invariant.same)) in
    let rows : now.shape.rows ≡ old.shape.rows = ap (λ (sh : Shape). sh.rows) (going ∙ begun) in
    let fits = Numbers.fills_fit (Sound.numbers c.requires.sound) c.args.spare in
    let fill : c.fill-i-end.result ≡ get_or old.fields.fills c.args.spare 0 = c.fill-i-end.ensures.fill ∙ ap (λ (xs : List ℕ). get_or xs c.args.spare 0) (IsPoolOf.fills c.requires.agree.pool) in
    let less = c.loop-i-test.true in
    omega arith

pub switch_noted-requires-clause-spare : goal.switch_noted-requires-clause-spare
switch_noted-requires-clause-spare g c =
    let begun = Framed.shape (Stays.framed (Same.stays c.begin_switch.ensures.same)) in
    let going = Framed.shape (Stays.framed (Same.stays c.loop-i.invariant.same)) in
    subst (λ (sh : Shape). c.args.spare < sh.segments) (sym (going ∙ begun)) c.requires.spare.segment

pub switch_noted-requires-clause-copied : goal.switch_noted-requires-clause-copied
switch_noted-requires-clause-copied g c =
    let old = chart (g.B.Board.state c.args.board.now) in
    let begin = chart (g.B.Board.state c.begin_switch.new.board) in
    let now = chart (g.B.Board.state c.loop-i.board) in
    let begun = Framed.shape (Stays.framed (Same.stays c.begin_switch.ensures.same)) in
    let going = Framed.shape (Stays.framed (Same.stays c.loop-i.invariant.same)) in
    let less = c.loop-i-test.true in
    let fill : c.fill-i-end.result ≡ get_or old.fields.fills c.args.spare 0 = c.fill-i-end.ensures.fill ∙ ap (λ (xs : List ℕ). get_or xs c.args.spare 0) (IsPoolOf.fills c.requires.agree.pool) in
    IsCopied-going old begin now c.args.segment c.args.spare c.loop-i.i c.loop-i.i c.requires.sound c.requires.copying c.requires.spare c.in_ok-begin_switch.ensures.fields (going ∙ begun) c.loop-i.invariant.rows (omega arith)

pub returns-in_err-switch_noted-clause-switches : goal.returns-in_err-switch_noted-clause-switches
returns-in_err-switch_noted-clause-switches g c = none-if c.from_residual-in_err-switch_noted.result _ _ c.from_residual-in_err-switch_noted.ensures.1

pub returns-in_err-switch_noted-clause-flash : goal.returns-in_err-switch_noted-clause-flash
returns-in_err-switch_noted-clause-flash g c = none-if c.from_residual-in_err-switch_noted.result _ _ c.from_residual-in_err-switch_noted.ensures.1

pub returns-in_err-switch_noted-clause-power : goal.returns-in_err-switch_noted-clause-power
returns-in_err-switch_noted-clause-power g c = none-power c.from_residual-in_err-switch_noted.result _ (g.B.Board.state c.switch_noted.new.board).on c.in_err-switch_noted.ensures.power c.from_residual-in_err-switch_noted.ensures.1

pub returns-clause-same : goal.returns-clause-same
returns-clause-same g c =
    let old = chart (g.B.Board.state c.args.board.now) in
    let begin = chart (g.B.Board.state c.begin_switch.new.board) in
    then_same 0 0 old begin (chart (g.B.Board.state c.loop-i.board)) c.begin_switch.ensures.same c.loop-i.invariant.same

pub returns-clause-follow : goal.returns-clause-follow
returns-clause-follow g c =
    let inv = c.loop-i.invariant in
    record { pool = λ on. inv.pool; cache = λ on. inv.cache; parted = λ on. inv.parted; shape = inv.shape; rests = inv.rests }

pub returns-clause-flash : goal.returns-clause-flash
returns-clause-flash g c = c.loop-i.invariant.flash ∙ ap (λ (x : Chart). x.flash) c.in_ok-begin_switch.ensures.fields

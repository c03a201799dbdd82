use Rattle.std.proofs.Common.{◌∙◌, ℕ, ◌+◌, [], Some, Err, get_or, refl, sym, ap, subst, arith}
use Rattle.envy_base.specs.Counting.{Tally}
use Rattle.envy_base.specs.Shape.{IsShape}
use Rattle.envy_base.specs.State.{IsBoard}
use Rattle.envy_base.specs.declared.board.Trouble.{Trouble}
use Rattle.envy_base.specs.declared.fields.Job.TheVariants.{Erase}
use Rattle.envy_map.specs.Fields.{Fields, Chart, chart}
use Rattle.envy_map.specs.Writes.{with_job}
use Rattle.envy_soundness.specs.Naming.{AreParted}
use Rattle.envy_soundness.specs.Same.{Same, Stays, Framed}
use Rattle.envy_reloc.specs.Plan.{Plan}
use Rattle.envy_reloc.specs.Rows.{IsLowestLeft}
use Rattle.envy_reloc.proofs.CopyLemmas.{LowestLeft-next, Plan-copied}
use Rattle.envy_soundness.proofs.KeptLemmas.{Names-range}
use Rattle.envy_soundness.proofs.Sames.{then_same, tally_end}
use Rattle.envy_soundness.specs.Power.{power_after}
use Rattle.envy_space.specs.Pool.{PoolAgrees}
use Rattle.envy_reloc.proofs.Exits.{unpowered}
use Rattle.envy_reloc.proofs.KeepLemmas.{counted-copy, wasted-copy}
use Rattle.envy_reloc.proofs.SettleLemmas.{ok-map}
use Rattle.envy_reloc.proofs.reloc.Reloc.copy_left.Goals as goal

pub copy_row-requires-clause-copy : goal.copy_row-requires-clause-copy
copy_row-requires-clause-copy g c =
    let old = chart (g.B.Board.state c.args.board.now) in
    let v = c.requires.left.0 in
    let job = c.requires.left.1 in
    let next = c.requires.left.2 in
    let plan = c.requires.ready.plan in
    record {
      v = v;
      copying = job;
      segment = next.0;
      copies = plan.prepared.copies v c.args.spare job c.requires.spare;
      spare = c.requires.spare;
      left = IsLowestLeft.left (LowestLeft-next old.shape old.fields v c.args.spare c.args.self.now.mark c.args.left job c.requires.spare plan.marked next);
      page = next.3;
    }

pub returns-in-Ok-clause-follow : goal.returns-in-Ok-clause-follow
returns-in-Ok-clause-follow g c =
    let old = chart (g.B.Board.state c.args.board.now) in
    let new = chart (g.B.Board.state c.copy_row.new.board) in
    let some = IsShape.rows (IsBoard.shape (g.met.B.Board.lawful c.args.board.now)) in
    let follow = c.copy_row.ensures.follow in
    let claims = c.copy_row.ensures.claims in
    record {
      pool = follow.pool;
      plan = λ on. Plan-copied old new c.requires.left.0 c.args.spare c.args.left c.args.self.now _ c.requires.ready.sound (omega arith) c.requires.ready.plan c.requires.left.1 c.requires.spare c.requires.left.2
          (Framed.shape (Stays.framed (Same.stays c.copy_row.ensures.same)))
          (record { fields = (claims on).fields; copy = c.in-Ok.ensures.copy; others = (claims on).others })
          (ap (λ (p : Plan). p.moves) c.self.view_is ∙ c.requires.done)
          (ap (λ (p : Plan). p.aside) c.self.view_is)
          refl;
      parted = λ on. subst (λ (f : Fields). AreParted f.slots f.undos f.places) (sym (claims on).fields) c.requires.ready.parted;
      shape = follow.shape;
    }

pub returns-in-Err-Bad-clause-same : goal.returns-in-Err-Bad-clause-same
returns-in-Err-Bad-clause-same g c = then_same 1 0 (chart (g.B.Board.state c.args.board.now)) (chart (g.B.Board.state c.copy_row.new.board)) (chart (g.B.Board.state c.give_up.new.board)) c.copy_row.ensures.same c.give_up.ensures.same

pub copy_row-requires-clause-sound : goal.copy_row-requires-clause-sound
copy_row-requires-clause-sound g c = c.requires.ready.sound

pub copy_row-requires-clause-pool : goal.copy_row-requires-clause-pool
copy_row-requires-clause-pool g c = c.requires.ready.pool

pub give_up-requires-clause-sound : goal.give_up-requires-clause-sound
give_up-requires-clause-sound g c = Stays.sound (Same.stays c.copy_row.ensures.same)

pub give_up-requires-clause-copying : goal.give_up-requires-clause-copying
give_up-requires-clause-copying g c =
    let on = c.in-Err-Bad.ensures.power ∙ ap (λ (e : Trouble). power_after {A = Unit {0}} (Err e)) c.in-Err-Bad.field-0-is in
    let claims = c.copy_row.ensures.claims on in
    (c.requires.left.0, ap (λ (f : Fields). f.job) claims.fields ∙ c.requires.left.1)

pub give_up-requires-clause-parted : goal.give_up-requires-clause-parted
give_up-requires-clause-parted g c =
    let on = c.in-Err-Bad.ensures.power ∙ ap (λ (e : Trouble). power_after {A = Unit {0}} (Err e)) c.in-Err-Bad.field-0-is in
    let claims = c.copy_row.ensures.claims on in
    subst (λ (f : Fields). AreParted f.slots f.undos f.places) (sym claims.fields) c.requires.ready.parted

pub returns-in-Ok-clause-same : goal.returns-in-Ok-clause-same
returns-in-Ok-clause-same g c = c.copy_row.ensures.same

pub returns-in-Ok-clause-copies : goal.returns-in-Ok-clause-copies
returns-in-Ok-clause-copies g c =
    let claims = c.copy_row.ensures.claims c.in-Ok.ensures.power in
    record {
      copied = record { fields = claims.fields; copy = c.in-Ok.ensures.copy; others = claims.others };
      becomes = counted-copy _ c.args.self.now (c.args.left.row + 1) c.copy_row.new.copied c.self.view_is claims.counted;
    }

pub returns-in-Ok-clause-places : goal.returns-in-Ok-clause-places
returns-in-Ok-clause-places g c on = ap (λ (f : Fields). f.places) (c.copy_row.ensures.claims on).fields

pub returns-in-Ok-clause-counts : goal.returns-in-Ok-clause-counts
returns-in-Ok-clause-counts g c =
    let old = chart (g.B.Board.state c.args.board.now) in
    let new = chart (g.B.Board.state c.copy_row.new.board) in
    record {
      copied = subst (λ (n : ℕ). Tally old.begun n new.begun c.copy_row.new.copied) (ap (λ (p : Plan). p.copied) c.self.view_is) c.copy_row.ensures.counts;
      moved = ap (λ (p : Plan). p.moved) c.self.view_is;
      erased = ap (λ (p : Plan). p.erased) c.self.view_is;
      since = ap (λ (p : Plan). p.since) c.self.view_is;
    }

pub returns-in-Err-Off-clause-same : goal.returns-in-Err-Off-clause-same
returns-in-Err-Off-clause-same g c = c.copy_row.ensures.same

pub returns-in-Err-Off-clause-follow : goal.returns-in-Err-Off-clause-follow
returns-in-Err-Off-clause-follow g c =
    let off = c.in-Err-Off.ensures.power ∙ ap (λ (e : Trouble). power_after {A = Unit {0}} (Err e)) c.in-Err-Off.field-0-is in
    record {
      pool = c.copy_row.ensures.follow.pool;
      plan = λ on. unpowered (g.B.Board.state c.copy_row.new.board).on off on;
      parted = λ on. unpowered (g.B.Board.state c.copy_row.new.board).on off on;
      shape = c.copy_row.ensures.follow.shape;
    }

pub returns-in-Err-Off-clause-places : goal.returns-in-Err-Off-clause-places
returns-in-Err-Off-clause-places g c on =
    let off = c.in-Err-Off.ensures.power ∙ ap (λ (e : Trouble). power_after {A = Unit {0}} (Err e)) c.in-Err-Off.field-0-is in
    unpowered (g.B.Board.state c.copy_row.new.board).on off on

pub returns-in-Err-Off-clause-counts : goal.returns-in-Err-Off-clause-counts
returns-in-Err-Off-clause-counts g c =
    let old = chart (g.B.Board.state c.args.board.now) in
    let new = chart (g.B.Board.state c.copy_row.new.board) in
    record {
      copied = subst (λ (n : ℕ). Tally old.begun n new.begun c.copy_row.new.copied) (ap (λ (p : Plan). p.copied) c.self.view_is) c.copy_row.ensures.counts;
      moved = ap (λ (p : Plan). p.moved) c.self.view_is;
      erased = ap (λ (p : Plan). p.erased) c.self.view_is;
      since = ap (λ (p : Plan). p.since) c.self.view_is;
    }

pub returns-in-Err-Bad-clause-follow : goal.returns-in-Err-Bad-clause-follow
returns-in-Err-Bad-clause-follow g c =
    let on = c.in-Err-Bad.ensures.power ∙ ap (λ (e : Trouble). power_after {A = Unit {0}} (Err e)) c.in-Err-Bad.field-0-is in
    record {
      pool = λ lit. subst (λ (x : Chart). PoolAgrees x.shape x.fields c.copy_row.new.space) (sym (c.give_up.ensures.fields lit)) (c.copy_row.ensures.follow.pool on);
      plan = c.give_up.ensures.plan;
      parted = c.give_up.ensures.parted;
      shape = c.copy_row.ensures.follow.shape;
    }

pub returns-in-Err-Bad-clause-power : goal.returns-in-Err-Bad-clause-power
returns-in-Err-Bad-clause-power g c = c.give_up.ensures.power

pub returns-in-Err-Bad-clause-copies : goal.returns-in-Err-Bad-clause-copies
returns-in-Err-Bad-clause-copies g c = ok-map c.give_up.result _ _ c.give_up.ensures.never (λ no. absurd no)

pub returns-in-Err-Bad-clause-fails : goal.returns-in-Err-Bad-clause-fails
returns-in-Err-Bad-clause-fails g c bad =
    let on = c.in-Err-Bad.ensures.power ∙ ap (λ (e : Trouble). power_after {A = Unit {0}} (Err e)) c.in-Err-Bad.field-0-is in
    let claims = c.copy_row.ensures.claims on in
    let given = c.give_up.ensures.fields (c.give_up.ensures.power ∙ ap power_after bad) in
    record {
      spoilt = record {
        fields = ap (λ (x : Chart). x.fields) given ∙ ap (λ (f : Fields). with_job (Some Erase) f) claims.fields;
        others = λ r other. ap (λ (x : Chart). get_or x.flash r []) given ∙ claims.others r other;
      };
      becomes = c.give_up.ensures.becomes ∙ wasted-copy _ c.args.self.now c.copy_row.new.copied c.self.view_is claims.counted;
      bad = ap (λ (x : Chart). x.bads) given ∙ c.in-Err-Bad.ensures.bad (ap (λ (e : Trouble). Err e) c.in-Err-Bad.field-0-is);
    }

pub returns-in-Err-Bad-clause-places : goal.returns-in-Err-Bad-clause-places
returns-in-Err-Bad-clause-places g c lit =
    let on = c.in-Err-Bad.ensures.power ∙ ap (λ (e : Trouble). power_after {A = Unit {0}} (Err e)) c.in-Err-Bad.field-0-is in
    ap (λ (x : Chart). x.fields.places) (c.give_up.ensures.fields lit) ∙ ap (λ (f : Fields). f.places) (c.copy_row.ensures.claims on).fields

pub returns-in-Err-Bad-clause-counts : goal.returns-in-Err-Bad-clause-counts
returns-in-Err-Bad-clause-counts g c =
    let old = chart (g.B.Board.state c.args.board.now) in
    let mid = chart (g.B.Board.state c.copy_row.new.board) in
    let new = chart (g.B.Board.state c.give_up.new.board) in
    let becomes = c.give_up.ensures.becomes in
    let counts = subst (λ (n : ℕ). Tally old.begun n mid.begun c.copy_row.new.copied) (ap (λ (p : Plan). p.copied) c.self.view_is) c.copy_row.ensures.counts in
    record {
      copied = subst (λ (n : ℕ). Tally old.begun c.args.self.now.copied new.begun n) (sym (ap (λ (p : Plan). p.copied) becomes)) (tally_end c.args.self.now.copied c.copy_row.new.copied old mid new counts c.give_up.ensures.same);
      moved = ap (λ (p : Plan). p.moved) becomes ∙ ap (λ (p : Plan). p.moved) c.self.view_is;
      erased = ap (λ (p : Plan). p.erased) becomes ∙ ap (λ (p : Plan). p.erased) c.self.view_is;
      since = ap (λ (p : Plan). p.since) becomes ∙ ap (λ (p : Plan). p.since) c.self.view_is;
    }

pub overflow_add-self : goal.overflow_add-self
overflow_add-self g c =
    let old = chart (g.B.Board.state c.args.board.now) in
    let kept = c.requires.left.2.2 in
    let range = Names-range old.shape old.fields old.flash kept.0 c.args.left.row c.requires.ready.sound kept.1 in
    let few = IsShape.few (IsBoard.shape (g.met.B.Board.lawful c.args.board.now)) in
    omega arith

pub give_up-requires-clause-on : goal.give_up-requires-clause-on
give_up-requires-clause-on g c = c.in-Err-Bad.ensures.power ∙ ap (λ (e : Trouble). power_after {A = Unit {0}} (Err e)) c.in-Err-Bad.field-0-is

pub returns-in-Ok-clause-power : goal.returns-in-Ok-clause-power
returns-in-Ok-clause-power g c = c.in-Ok.ensures.power

pub returns-in-Ok-clause-fails : goal.returns-in-Ok-clause-fails
returns-in-Ok-clause-fails g c bad = absurd (cc)

pub returns-in-Err-Off-clause-power : goal.returns-in-Err-Off-clause-power
returns-in-Err-Off-clause-power g c = c.in-Err-Off.ensures.power ∙ ap (λ (e : Trouble). power_after {A = Unit {0}} (Err e)) c.in-Err-Off.field-0-is

pub returns-in-Err-Off-clause-fails : goal.returns-in-Err-Off-clause-fails
returns-in-Err-Off-clause-fails g c bad = absurd (cc)

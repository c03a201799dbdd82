use Rattle.std.proofs.Common.{◌∙◌, inr, refl, sym, subst, ap}
use Rattle.envy_base.specs.State.{IsBoard}
use Rattle.envy_base.specs.declared.shape.Shape.{Shape}
use Rattle.envy_map.specs.Fields.{chart}
use Rattle.envy_soundness.specs.Same.{Kept}
use Rattle.envy_soundness.proofs.Composition.{cause}
use Rattle.envy_engine.specs.Agreement.{Fits, Ready}
use Rattle.envy_engine.specs.declared.parts.Parts.{Parts}
use Rattle.envy_policy.specs.Setup.{IsSetup}
use Rattle.envy_txn.specs.Owners.{Ownership}
use Rattle.envy_memory.specs.Attaching.{MayAttach}
use Rattle.envy_memory.specs.Making.{StartsAnew}
use Rattle.envy_memory.proofs.Shutting.{shut-none}
use Rattle.envy_memory.proofs.AttachLemmas.{Fits-attached, kept-shape, IsMemory-settled, IsStarted-anew, Stands-settled}
use Rattle.envy_engine.proofs.WearLemmas.{IsQuiet-none}
use Rattle.envy_memory.proofs.memory.Memory.attach.Goals as goal

pub take_up-requires-clause-fits : goal.take_up-requires-clause-fits
take_up-requires-clause-fits g c =
    let old = chart (g.B.Board.state c.args.board) in
    let may = c.in_default.ensures.reason in
    let board = g.met.B.Board.lawful c.args.board in
    subst (λ (x : Parts). Fits old.shape x) (sym c.in-Ok.ensures.parts) (Fits-attached old c.args.setup (IsBoard.shape board) (c.requires (MayAttach.on may) (MayAttach.formatted may)) may)

pub invariant_of-result : goal.invariant_of-result
invariant_of-result g c =
    let old = chart (g.B.Board.state c.args.board) in
    let new = chart (g.B.Board.state c.take_up.new.board) in
    let may = c.in_default.ensures.reason in
    let sound = c.requires (MayAttach.on may) (MayAttach.formatted may) in
    let board = g.met.B.Board.lawful c.args.board in
    let sizes = c.in_default.ensures.sizes refl in
    let o = c.in-Ok-take_up.ensures in
    let shape = Kept.shape o.kept ∙ kept-shape old c.args.setup.shape (IsBoard.shape board) sound (MayAttach.shape may) in (
      IsMemory-settled new c.take_up.new.parts c.in-Ok.owned c.args.setup.limit c.args.setup.mark (Kept.magic o.kept ∙ (MayAttach.formatted may).0) o.version o.ready o.settled
          (ap (λ (z : Ownership). z.pairs) c.in-Ok.ensures.owned) (ap (λ (z : Ownership). z.limit) c.in-Ok.ensures.owned ∙ ap (λ (sh : Shape). sh.shadows) (sym shape)) (IsSetup.limit sizes) (IsSetup.mark sizes),
      λ on. IsQuiet-none new.shape new.fields c.args.setup.limit c.take_up.new.parts.reloc.since 0 refl,
      λ on. shut-none new,
    )

pub returns-in-Ok-take_up : goal.returns-in-Ok-take_up
returns-in-Ok-take_up g c =
    let old = chart (g.B.Board.state c.args.board) in
    let new = chart (g.B.Board.state c.take_up.new.board) in
    let may = c.in_default.ensures.reason in
    let o = c.in-Ok-take_up.ensures in
    let starts = subst (λ (x : Parts). StartsAnew x new c.take_up.new.parts) c.in-Ok.ensures.parts o.starts in
    record {
      may = may;
      stands = Stands-settled old new (Ready.on o.ready) (Kept.magic o.kept ∙ (MayAttach.formatted may).0) o.version (Kept.sound o.kept) o.settled (Kept.shape o.kept) (Kept.durable o.kept) o.live;
      kept = o.kept;
      taken = o.taken;
      begins = IsStarted-anew c.args.setup new c.take_up.new.parts c.in-Ok.owned starts (ap (λ (z : Ownership). z.pairs) c.in-Ok.ensures.owned);
    }

pub returns-in-Err : goal.returns-in-Err
returns-in-Err g c =
    let old = chart (g.B.Board.state c.args.board) in
    let new = chart (g.B.Board.state c.take_up.new.board) in
    let may = c.in_default.ensures.reason in
    let e = c.in-Err.ensures in
    (e.off, inr (may, e.kept, cause 0 0 old new (Kept.counted e.kept) (MayAttach.on may) e.off))

pub take_up-requires-clause-sound : goal.take_up-requires-clause-sound
take_up-requires-clause-sound g c = let may = c.in_default.ensures.reason in c.requires (MayAttach.on may) (MayAttach.formatted may)

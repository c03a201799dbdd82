use Rattle.std.proofs.Common.{◌∙◌, inr, refl, sym, subst, ap}
use Rattle.envy_base.specs.declared.shape.Shape.{Shape}
use Rattle.envy_map.specs.Fields.{chart}
use Rattle.envy_soundness.proofs.Composition.{cause}
use Rattle.envy_engine.specs.Agreement.{Fits}
use Rattle.envy_engine.specs.Starting.{started_parts}
use Rattle.envy_engine.specs.declared.parts.Parts.{Parts}
use Rattle.envy_engine.proofs.WearLemmas.{IsQuiet-none}
use Rattle.envy_policy.specs.Setup.{IsSetup}
use Rattle.envy_txn.specs.Owners.{Ownership}
use Rattle.envy_memory.specs.Formats.{MayFormat}
use Rattle.envy_memory.specs.Making.{StartsAnew}
use Rattle.envy_memory.proofs.Shutting.{shut-none}
use Rattle.envy_memory.proofs.AttachLemmas.{Fits-new, IsMemory-settled, IsStarted-anew}
use Rattle.envy_memory.proofs.FormatLemmas.{Holds-empty, between, empty-own, settled}
use Rattle.envy_memory.proofs.memory.Memory.format.Goals as goal

pub lay_out-requires : goal.lay_out-requires
lay_out-requires g c =
    let old = g.B.Board.state c.args.board in
    let may = c.in_default.ensures.reason in
    record { fits = subst (λ (x : Parts). Fits old.shape x) (sym c.in-Ok.ensures.parts) (subst (λ (sh : Shape). Fits sh (started_parts c.args.setup)) (sym (MayFormat.shape may)) (Fits-new c.args.setup)) }

pub invariant_of-result : goal.invariant_of-result
invariant_of-result g c =
    let old = g.B.Board.state c.args.board in
    let new = chart (g.B.Board.state c.lay_out.new.board) in
    let o = c.in-Ok-lay_out.ensures in
    let may = c.in_default.ensures.reason in
    let e = empty-own old.shape new o.shape o.formats.1 in
    let sizes = c.in_default.ensures.sizes refl in (
      IsMemory-settled new c.lay_out.new.parts c.in-Ok.owned c.args.setup.limit c.args.setup.mark e.magic e.version_is o.ready (settled new e)
          (ap (λ (z : Ownership). z.pairs) c.in-Ok.ensures.owned)
          (ap (λ (z : Ownership). z.limit) c.in-Ok.ensures.owned ∙ ap (λ (sh : Shape). sh.shadows) (sym (o.shape ∙ MayFormat.shape may)))
          (IsSetup.limit sizes) (IsSetup.mark sizes),
      λ on. IsQuiet-none new.shape new.fields c.args.setup.limit c.lay_out.new.parts.reloc.since 0 refl,
      λ on. shut-none new,
    )

pub returns-in-Ok-lay_out-clause-made : goal.returns-in-Ok-lay_out-clause-made
returns-in-Ok-lay_out-clause-made g c =
    let old = g.B.Board.state c.args.board in
    let new = chart (g.B.Board.state c.lay_out.new.board) in
    let o = c.in-Ok-lay_out.ensures in
    let e = empty-own old.shape new o.shape o.formats.1 in
    let starts = subst (λ (x : Parts). StartsAnew x new c.lay_out.new.parts) c.in-Ok.ensures.parts o.starts in
    record {
      may = c.in_default.ensures.reason;
      fresh = record { stands = record { on = o.formats.0; holds = Holds-empty new e }; empty = e };
      begins = IsStarted-anew c.args.setup new c.lay_out.new.parts c.in-Ok.owned starts (ap (λ (z : Ownership). z.pairs) c.in-Ok.ensures.owned);
      once = o.erases;
      aside = o.formats.2;
    }

pub returns-in-Err-Off-clause-made : goal.returns-in-Err-Off-clause-made
returns-in-Err-Off-clause-made g c =
    let old = g.B.Board.state c.args.board in
    let new = g.B.Board.state c.lay_out.new.board in
    let e = rw c.in-Err-Off.field-0-is at c.in-Err-Off.ensures in
    let may = c.in_default.ensures.reason in
    (e.formats.0, inr (may, between old new e.shape e.formats.1, cause 0 _ (chart old) (chart new) e.counts (MayFormat.on may) e.formats.0))

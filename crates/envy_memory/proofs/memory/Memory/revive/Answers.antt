use Rattle.std.proofs.Common.{◌≡◌, ◌∙◌, ◌-◌, ◌^◌, ◌<◌, refl, sym, subst, ap}
use Rattle.std.specs.Prelude.{IsTrue}
use Rattle.envy_base.specs.State.{State, lit as lit_state}
use Rattle.envy_base.specs.Shape.{version_of}
use Rattle.envy_base.specs.declared.shape.Shape.{Shape}
use Rattle.envy_map.specs.Fields.{chart}
use Rattle.envy_soundness.specs.Same.{SameDurable}
use Rattle.envy_meaning.specs.Stands.{Stands}
use Rattle.envy_soundness.specs.Words.{durable}
use Rattle.envy_soundness.proofs.Composition.{cause}
use Rattle.envy_txn.specs.Owners.{Ownership}
use Rattle.envy_memory.specs.Calls.{fresh}
use Rattle.envy_memory.specs.Picture.{Picture}
use Rattle.envy_memory.proofs.Shutting.{shut-none}
use Rattle.envy_memory.proofs.AttachLemmas.{IsMemory-settled, Stands-settled}
use Rattle.envy_engine.proofs.WearLemmas.{IsQuiet-none}
use Rattle.envy_memory.proofs.memory.Memory.revive.Goals as goal

pub returns-in_err-restart-clause-cut : goal.returns-in_err-restart-clause-cut
returns-in_err-restart-clause-cut g c is =
    let old = g.B.Board.state c.self.inside.board in
    let mid = g.B.Board.state c.power_on.new.self in
    let new = chart (g.B.Board.state c.restart.new.board) in
    let lights : mid ≡ lit_state old = c.if-not-power_on.ensures.state in
    let on : IsTrue mid.on = subst (λ (s : State). IsTrue s.on) (sym lights) refl in
    let e = c.in_err-restart.ensures in
    let rose = cause 0 0 (chart mid) new (SameDurable.counted e.durable) on e.power in
    subst (λ (p : Picture). p.chart.cuts < 2 ^ 64 - 1 → p.chart.cuts < new.cuts) c.self.view_is
    (subst (λ (s : State). s.cuts < 2 ^ 64 - 1 → s.cuts < new.cuts) lights rose)

pub invariant_of-self-2 : goal.invariant_of-self-2
invariant_of-self-2 g c =
    let old = g.B.Board.state c.self.inside.board in
    let mid = g.B.Board.state c.power_on.new.self in
    let new = chart (g.B.Board.state c.restart.new.board) in
    let lights : mid ≡ lit_state old = c.if-not-power_on.ensures.state in
    let o = c.in_ok-restart.ensures in
    let i = c.self.invariant.0 in
    let magic = SameDurable.magic o.durable ∙ ap (λ (s : State). (chart s).fields.magic) lights ∙ i.magic in
    let version = SameDurable.version o.durable ∙ ap (λ (s : State). (chart s).fields.version) lights ∙ i.version ∙ ap (λ (s : State). version_of s.shape) (sym lights) ∙ ap version_of (sym (SameDurable.shape o.durable)) in
    let shape = SameDurable.shape o.durable ∙ ap (λ (s : State). s.shape) lights in
    let none = ap (λ (z : Ownership). z.pairs) c.forget.ensures in
    let shadows = ap (λ (z : Ownership). z.limit) c.forget.ensures ∙ i.shadows ∙ ap (λ (sh : Shape). sh.shadows) (sym shape) in (
      IsMemory-settled new c.restart.new.parts c.forget.new.self c.self.inside.limit c.self.inside.mark magic version o.ready o.restarts.settled none shadows i.some_limit i.some,
      λ on. IsQuiet-none new.shape new.fields c.self.inside.limit c.restart.new.parts.reloc.since 0 refl,
      λ on. shut-none new,
    )

pub returns-clause-ok : goal.returns-clause-ok
returns-clause-ok g c =
    let old = g.B.Board.state c.self.inside.board in
    let mid = g.B.Board.state c.power_on.new.self in
    let new = chart (g.B.Board.state c.restart.new.board) in
    let lights : mid ≡ lit_state old = c.if-not-power_on.ensures.state in
    let o = c.in_ok-restart.ensures in
    let i = c.self.invariant.0 in
    let magic = SameDurable.magic o.durable ∙ ap (λ (s : State). (chart s).fields.magic) lights ∙ i.magic in
    let version = SameDurable.version o.durable ∙ ap (λ (s : State). (chart s).fields.version) lights ∙ i.version ∙ ap (λ (s : State). version_of s.shape) (sym lights) ∙ ap version_of (sym (SameDurable.shape o.durable)) in
    let stands = Stands-settled (chart mid) new o.power magic version (SameDurable.sound o.durable) o.restarts.settled (SameDurable.shape o.durable) (SameDurable.durable o.durable) o.restarts.live in
    subst (λ (p : Picture). Stands new (fresh p.chart.shape.shadows (durable p.chart))) c.self.view_is
    (subst (λ (s : State). Stands new (fresh (chart s).shape.shadows (durable (chart s)))) lights stands)

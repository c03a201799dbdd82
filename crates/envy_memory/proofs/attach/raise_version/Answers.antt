use Rattle.std.proofs.Common.{◌∙◌, inl, inr, refl, sym}
use Rattle.envy_map.specs.Fields.{chart}
use Rattle.envy_engine.proofs.FlushLemmas.{on-ok}
use Rattle.envy_memory.proofs.AttachLemmas.{version-own, version-up}
use Rattle.envy_memory.proofs.attach.raise_version.Goals as goal

pub returns-then-branch-ne1-clause-version : goal.returns-then-branch-ne1-clause-version
returns-then-branch-ne1-clause-version g c =
    version-own (chart (g.B.Board.state c.args.board.now)) c.requires.sound (λ one. c.if-branch-ne1.true (c.in_ok-version.ensures.1 ∙ one))

pub returns-then-branch-ne1-clause-raises : goal.returns-then-branch-ne1-clause-raises
returns-then-branch-ne1-clause-raises g c =
    inl (version-own (chart (g.B.Board.state c.args.board.now)) c.requires.sound (λ one. c.if-branch-ne1.true (c.in_ok-version.ensures.1 ∙ one)), refl)

pub returns-clause-version : goal.returns-clause-version
returns-clause-version g c =
    let old = chart (g.B.Board.state c.args.board.now) in
    let new = chart (g.B.Board.state c.upgrade.new.board) in
    on-ok c.upgrade.result _ _ (λ is. version-up old new c.requires.sound (sym c.in_ok-version.ensures.1 ∙ c.if-branch-ne1.false) is) c.upgrade.ensures.fields

pub returns-clause-raises : goal.returns-clause-raises
returns-clause-raises g c =
    on-ok c.upgrade.result _ _ (λ is. inr (sym c.in_ok-version.ensures.1 ∙ c.if-branch-ne1.false, is)) c.upgrade.ensures.fields

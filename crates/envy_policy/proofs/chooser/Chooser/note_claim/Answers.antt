use Rattle.std.proofs.Common.{◌∙◌, ap, arith, Option, sym, subst}
use Rattle.envy_policy.specs.History.{History, AreLives}
use Rattle.envy_policy.specs.Notes.{Notes}
use Rattle.envy_policy.proofs.HistoryLemmas.{IsHistory-lives}
use Rattle.envy_policy.proofs.LivesLemmas.{AreLives-claim, noted-both}
use Rattle.envy_policy.proofs.Within.{flushed-sizes}
use Rattle.envy_policy.proofs.chooser.Chooser.note_claim.Goals as goal

pub note_claim-requires : goal.note_claim-requires
note_claim-requires c =
    let same = flushed-sizes c.args.self.now c.args.position in
    let positions = ap (λ (k : History). k.positions) (c.self.view_is ∙ c.note_flush.ensures) ∙ same.positions in
    let pages = ap (λ (k : History). k.pages) (c.self.view_is ∙ c.note_flush.ensures) ∙ same.pages in
    noted-both c.self.inside.policy c.self.inside.pages c.self.inside.positions c.args.position c.args.page c.self.inside.lives c.self.invariant.0.lives (omega (arith, positions, c.requires.position)) (omega (arith, pages, c.requires.page))

pub invariant_of-self : goal.invariant_of-self
invariant_of-self c =
    let h : History = record { policy = c.self.inside.policy; pages = c.self.inside.pages; positions = c.self.inside.positions; heats = c.self.inside.heats.heats; turns = c.self.inside.turns.items; flushes = c.self.inside.heats.flushes; lives = c.self.inside.lives } in (
      IsHistory-lives h h.turns _ c.self.invariant.0
          (subst (λ (l : Option Notes). AreLives h.policy h.pages h.positions l) (sym c.note_claim.ensures) (AreLives-claim h.policy h.pages h.positions c.args.position c.args.page h.lives c.self.invariant.0.lives)),
      c.self.invariant.1,
    )

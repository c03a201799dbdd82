use Rattle.std.proofs.Common.{◌≡◌, [], List, None, Some, sym, ◌∙◌, ap}
use Rattle.std.specs.Option.{is_some}
use Rattle.std.specs.Prelude.{slice_get}
use Rattle.envy_frames.specs.declared.held.Held.{Held}
use Rattle.envy_frames.specs.Order.{Order}
use Rattle.envy_frames.proofs.Live.{first-held, none-held}
use Rattle.envy_frames.proofs.frames.Frames.oldest.Goals as goal

pub returns-in_err-entry-clause-first : goal.returns-in_err-entry-clause-first
returns-in_err-entry-clause-first c =
    let none : slice_get c.self.inside.entries.items 0 ≡ None = sym c.front.ensures ∙ sym c.copied.ensures ∙ c.in_err-entry.was in
    let empty : c.args.self.now.held ≡ [] = ap (λ (o : Order). o.held) (sym c.self.view_is) ∙ none-held c.self.inside.stamps.items c.self.inside.entries.items none in
    c.from_residual.ensures ∙ ap (λ (hs : List Held). slice_get hs 0) (sym empty)

pub returns-in_err-entry-clause-none : goal.returns-in_err-entry-clause-none
returns-in_err-entry-clause-none c =
    let none : slice_get c.self.inside.entries.items 0 ≡ None = sym c.front.ensures ∙ sym c.copied.ensures ∙ c.in_err-entry.was in
    let empty : c.args.self.now.held ≡ [] = ap (λ (o : Order). o.held) (sym c.self.view_is) ∙ none-held c.self.inside.stamps.items c.self.inside.entries.items none in
    (λ is. empty, λ is. ap is_some c.from_residual.ensures)

pub returns-clause-first : goal.returns-clause-first
returns-clause-first c =
    let some : slice_get c.self.inside.entries.items 0 ≡ Some c.in_ok-entry.entry = sym c.front.ensures ∙ sym c.copied.ensures ∙ c.in_ok-entry.was in
    sym (ap (λ (o : Order). slice_get o.held 0) (sym c.self.view_is) ∙ first-held c.self.inside.stamps.items c.self.inside.entries.items c.in_ok-entry.entry c.self.invariant.1.live some)

pub returns-clause-none : goal.returns-clause-none
returns-clause-none c =
    let some : Some c.in_ok-entry.entry.held ≡ slice_get c.args.self.now.held 0 = returns-clause-first c in
    (λ is. cc, λ empty. let no : Some c.in_ok-entry.entry.held ≡ None = some ∙ ap (λ (hs : List Held). slice_get hs 0) empty in cc)

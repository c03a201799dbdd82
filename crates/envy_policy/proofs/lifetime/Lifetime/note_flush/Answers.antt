use Rattle.std.proofs.Common.{◌<◌, length, slice_set, subst, sym}
use Rattle.envy_policy.specs.declared.class.OpenPositions.{OpenPositions}
use Rattle.envy_policy.specs.Notes.{Notes, IsNotes}
use Rattle.envy_policy.proofs.Noting.{notes-flush}
use Rattle.envy_policy.proofs.lifetime.Lifetime.note_flush.Goals as goal

pub invariant_of-self : goal.invariant_of-self
invariant_of-self c =
    let clock = c.one_more-self-inside.result in
    let was : Notes = record { clock = c.self.inside.clock; born = c.self.inside.born.items; cleaned = c.self.inside.cleaned.items; opened = c.self.inside.opened } in
    let below : c.args.position < length was.cleaned = subst (λ (n : Notes). c.args.position < length n.cleaned) (sym c.self.view_is) c.requires.position in
    let inside : c.args.page < length was.born = subst (λ (n : Notes). c.args.page < length n.born) (sym c.self.view_is) c.requires.page in
    subst (λ (o : OpenPositions). IsNotes (record { clock = clock; born = slice_set was.born c.args.page clock; cleaned = was.cleaned; opened = o })) (sym c.with-self-inside.ensures) (notes-flush was c.class_of-class.result c.args.position c.args.page clock c.self.invariant c.one_more-self-inside.ensures.more c.one_more-self-inside.type_inv below inside)

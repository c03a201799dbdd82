use Rattle.std.proofs.Common.{◌∙◌, subst, ap, ◌≡◌, length, ◌*◌}
use Rattle.envy_array.specs.Array.{Array, pages}
use Rattle.envy_array.proofs.Owning.{owners}
use Rattle.envy_plain.proofs.Readers.{owner-read}
use Rattle.envy_plain.proofs.plain.Plain.owner_at.Goals as goal

pub returns : goal.returns
returns c =
    let m = c.args.self.now in
    let i = c.self.invariant in
    let table = c.deref.ensures.value ∙ i.table ∙ ap owners c.self.view_is in
    let whole = subst (λ (n : Array). length n.words ≡ 32 * pages n) c.self.view_is i.array.whole in
    rw c.ok_or.ensures.value (owner-read m c.args.a c.deref.result.now c.get.result c.copied.result whole table c.get.ensures.lookup c.copied.ensures)

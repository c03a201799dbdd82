use Rattle.std.proofs.Common.{◌≡◌, Option, ℕ, sym, ◌∙◌, ap, subst}
use Rattle.std.specs.Prelude.{IsNone, ◌↔◌, ◌≢◌}
use Rattle.std.specs.List.{All}
use Rattle.envy_txn.specs.Owners.{Ownership, owner_of}
use Rattle.envy_txn.proofs.OwnerLemmas.{none-owner_of}
use Rattle.envy_txn.proofs.owned.Owned.owner.Goals as goal

pub returns-clause-none : goal.returns-clause-none
returns-clause-none c =
    let value : c.owner.result ≡ owner_of c.args.self.now.pairs c.args.page = c.owner.ensures ∙ ap (λ (o : Ownership). owner_of o.pairs c.args.page) c.self.view_is in
    subst (λ (x : Option ℕ). IsNone x ↔ All (λ e. e.page ≢ c.args.page) c.args.self.now.pairs) (sym value) (none-owner_of c.args.self.now.pairs c.args.page)

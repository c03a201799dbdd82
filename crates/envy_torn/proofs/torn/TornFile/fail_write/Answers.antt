use Rattle.std.proofs.Common.{rules, ◌≡◌, inl, inr}
use Rattle.envy_torn.proofs.torn.TornFile.fail_write.Goals as goal

pub returns-in-Ok-clause-call : goal.returns-in-Ok-clause-call
returns-in-Ok-clause-call c =
    let same : c.in-Ok.copy.items ≡ c.args.bytes.now = search rules in
    elim c.fail.ensures.call [
      | inl noted ↦ inl (c.in-Ok.copy, same, noted)
      | inr kept ↦ inr kept
    ]

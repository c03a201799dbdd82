use Rattle.std.proofs.Common.{◌∷◌, [], ap, arith, length, length-append}
use Rattle.envy_torn.proofs.Written.{seen_grown}
use Rattle.envy_torn.proofs.torn.TornFile.finish.Goals as goal

pub invariant_of-self-2 : goal.invariant_of-self-2
invariant_of-self-2 c =
    let old = c.args.self.now in
    let more = c.add_call.ensures.added c.if-not-add_call.false in
    record {
      seen = seen_grown old c.args.call c.add_call.new.calls.items c.args.next.items more c.requires;
      synced_before = omega (arith, old.synced_before, ap length more, length-append old.calls.items (c.args.call ∷ []));
    }

use Rattle.envy_torn.proofs.Written.{seen_added, synced_added}
use Rattle.envy_torn.proofs.torn.TornFile.fail.Goals as goal

pub invariant_of-self : goal.invariant_of-self
invariant_of-self c =
    let added = c.add_call.ensures in
    record {
      seen = seen_added c.args.self.now c.args.call c.add_call.new.calls.items c.requires c.add_call.result added.added added.full;
      synced_before = synced_added c.args.self.now c.args.call c.add_call.new.calls.items c.requires c.add_call.result added.added added.full;
    }

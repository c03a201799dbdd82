use Rattle.std.proofs.Common.{rules, ◌∙◌, ap, arith}
use Rattle.envy_torn.specs.Calls.{syncs_in}
use Rattle.envy_torn.specs.declared.call.Call.TheVariants.{Sync}
use Rattle.envy_torn.proofs.Written.{syncs_kept, syncs_more, sync_seen, sync_only, sync_crash, sync_time}
use Rattle.envy_torn.proofs.torn.TornFileDevice.sync.Goals as goal

pub invariant_of-self-2 : goal.invariant_of-self-2
invariant_of-self-2 c =
    let mid = c.may_pass.new.self in
    record {
      seen = sync_seen c.args.self.now mid c.may_pass.ensures.kept c.add_call.new.calls.items (c.add_call.ensures.added c.if-not-add_call.false);
      synced_before = search rules;
    }

pub returns-clause-durable : goal.returns-clause-durable
returns-clause-durable c = sync_only c.args.self.now c.may_pass.new.self c.may_pass.ensures.kept c.add_call.new.calls.items (c.add_call.ensures.added c.if-not-add_call.false)

pub returns-clause-crash : goal.returns-clause-crash
returns-clause-crash c = sync_crash c.args.self.now c.may_pass.new.self c.may_pass.ensures.kept c.add_call.new.calls.items (c.add_call.ensures.added c.if-not-add_call.false)

pub returns-clause-time : goal.returns-clause-time
returns-clause-time c = sync_time c.args.self.now c.may_pass.new.self c.may_pass.ensures.kept c.add_call.new.calls.items (c.add_call.ensures.added c.if-not-add_call.false)

pub returns-clause-syncs : goal.returns-clause-syncs
returns-clause-syncs c =
    let mid = c.may_pass.new.self in
    let more = ap syncs_in (c.add_call.ensures.added c.if-not-add_call.false) ∙ syncs_more mid.calls.items Sync in
    let same = syncs_kept c.args.self.now mid c.may_pass.ensures.kept in
    omega (arith, more, same)

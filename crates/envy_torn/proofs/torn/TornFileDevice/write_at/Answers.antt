use Rattle.std.proofs.Common.{◌∙◌, ℕ, List, length, refl, sym, ap, subst}
use Rattle.envy_device.specs.Device.{Torn, Mixed}
use Rattle.envy_torn.specs.declared.call.Call.TheVariants.{Write}
use Rattle.envy_torn.specs.Calls.{written}
use Rattle.envy_torn.specs.Torn.{file_bytes}
use Rattle.envy_torn.proofs.Written.{syncs_finished, syncs_unwritten, torn_none, mixed_none, tears_torn, tears_mixed, bytes_kept, time_finished, synced_finished, bytewise_finished, crash_finished, bytes_finished, same_finished, serves_finished, torn_unwritten, crash_unwritten, time_unwritten, synced_unwritten, bytewise_unwritten}
use Rattle.envy_torn.proofs.torn.TornFileDevice.write_at.Goals as goal

pub finish-requires : goal.finish-requires
finish-requires c =
    let p = c.in-Some.ensures.passes in
    let old = c.args.self.now in
    let mid = c.planned_write.new.self in
    let at = c.args.at in
    p.2
    ∙ ap (λ (b : List ℕ). written b at c.args.bytes.now) (sym (bytes_kept old mid c.planned_write.ensures.kept))
    ∙ ap (λ (b : List ℕ). written (file_bytes mid) at b) (sym p.1)

pub returns-in-Some-clause-written : goal.returns-in-Some-clause-written
returns-in-Some-clause-written c = bytes_finished (Write c.args.at c.in-Some.copy) c.args.self.now c.planned_write.new.self c.finish.new.self c.finish.result (written (file_bytes c.args.self.now) c.args.at c.args.bytes.now) c.planned_write.ensures.kept c.finish.ensures (ap (λ (b : List ℕ). written (file_bytes c.args.self.now) c.args.at b) c.in-Some.ensures.passes.1)

pub returns-in-Some-clause-torn : goal.returns-in-Some-clause-torn
returns-in-Some-clause-torn c = same_finished (Write c.args.at c.in-Some.copy) c.args.self.now c.planned_write.new.self c.finish.new.self c.finish.result (Torn c.args.at (length c.args.bytes.now)) c.planned_write.ensures.kept c.finish.ensures (torn_none c.args.at (length c.args.bytes.now) (file_bytes c.args.self.now))

pub returns-in-Some-clause-crash : goal.returns-in-Some-clause-crash
returns-in-Some-clause-crash c = crash_finished (Write c.args.at c.in-Some.copy) c.args.self.now c.planned_write.new.self c.finish.new.self c.finish.result (Torn c.args.at (length c.args.bytes.now)) c.planned_write.ensures.kept c.finish.ensures (λ d x is. subst (λ (b : List ℕ). Torn c.args.at (length b) d x) c.in-Some.ensures.passes.1 (tears_torn c.args.self.now.bytewise c.args.at c.in-Some.copy.items d x is)) (λ x was. torn_none c.args.at (length c.args.bytes.now) x)

pub returns-in-Some-clause-time : goal.returns-in-Some-clause-time
returns-in-Some-clause-time c = time_finished (Write c.args.at c.in-Some.copy) c.args.self.now c.planned_write.new.self c.finish.new.self c.finish.result c.planned_write.ensures.kept c.finish.ensures

pub returns-in-Some-clause-synced : goal.returns-in-Some-clause-synced
returns-in-Some-clause-synced c = synced_finished (Write c.args.at c.in-Some.copy) c.args.self.now c.planned_write.new.self c.finish.new.self c.finish.result c.planned_write.ensures.kept c.finish.ensures

pub returns-in-Some-clause-cause : goal.returns-in-Some-clause-cause
returns-in-Some-clause-cause c = serves_finished (Write c.args.at c.in-Some.copy) c.args.self.now c.planned_write.new.self c.finish.new.self c.finish.result c.finish.ensures c.planned_write.ensures.failed c.in-Some.ensures.passes.0

pub returns-in-Some-clause-mixed : goal.returns-in-Some-clause-mixed
returns-in-Some-clause-mixed c trusted = crash_finished (Write c.args.at c.in-Some.copy) c.args.self.now c.planned_write.new.self c.finish.new.self c.finish.result (Mixed c.args.at c.args.bytes.now) c.planned_write.ensures.kept c.finish.ensures (λ d x is. subst (λ (b : List ℕ). Mixed c.args.at b d x) c.in-Some.ensures.passes.1 (tears_mixed c.args.self.now.bytewise c.args.at c.in-Some.copy.items d x trusted is)) (λ x was. mixed_none c.args.at c.args.bytes.now x)

pub returns-in-Some-clause-bytewise : goal.returns-in-Some-clause-bytewise
returns-in-Some-clause-bytewise c = bytewise_finished (Write c.args.at c.in-Some.copy) c.args.self.now c.planned_write.new.self c.finish.new.self c.finish.result c.planned_write.ensures.kept c.finish.ensures

pub returns-in-None-clause-torn : goal.returns-in-None-clause-torn
returns-in-None-clause-torn c = torn_unwritten c.args.at c.args.bytes.now c.args.self.now c.planned_write.new.self c.fail_write.new.self c.planned_write.ensures.kept c.fail_write.ensures.call

pub returns-in-None-clause-crash : goal.returns-in-None-clause-crash
returns-in-None-clause-crash c = crash_unwritten c.args.at c.args.bytes.now c.args.self.now c.planned_write.new.self c.fail_write.new.self c.planned_write.ensures.kept (Torn c.args.at (length c.args.bytes.now)) (λ d x is. tears_torn c.args.self.now.bytewise c.args.at c.args.bytes.now d x is) (λ x was. torn_none c.args.at (length c.args.bytes.now) x) c.fail_write.ensures.call

pub returns-in-None-clause-mixed : goal.returns-in-None-clause-mixed
returns-in-None-clause-mixed c trusted = crash_unwritten c.args.at c.args.bytes.now c.args.self.now c.planned_write.new.self c.fail_write.new.self c.planned_write.ensures.kept (Mixed c.args.at c.args.bytes.now) (λ d x is. tears_mixed c.args.self.now.bytewise c.args.at c.args.bytes.now d x trusted is) (λ x was. mixed_none c.args.at c.args.bytes.now x) c.fail_write.ensures.call

pub returns-in-None-clause-bytewise : goal.returns-in-None-clause-bytewise
returns-in-None-clause-bytewise c = bytewise_unwritten c.args.at c.args.bytes.now c.args.self.now c.planned_write.new.self c.fail_write.new.self c.planned_write.ensures.kept c.fail_write.ensures.call

pub returns-in-None-clause-time : goal.returns-in-None-clause-time
returns-in-None-clause-time c = time_unwritten c.args.at c.args.bytes.now c.args.self.now c.planned_write.new.self c.fail_write.new.self c.planned_write.ensures.kept c.fail_write.ensures.call

pub returns-in-None-clause-synced : goal.returns-in-None-clause-synced
returns-in-None-clause-synced c = synced_unwritten c.args.at c.args.bytes.now c.args.self.now c.planned_write.new.self c.fail_write.new.self c.planned_write.ensures.kept c.fail_write.ensures.call

pub returns-in-Some-clause-syncs : goal.returns-in-Some-clause-syncs
returns-in-Some-clause-syncs c = syncs_finished (Write c.args.at c.in-Some.copy) c.args.self.now c.planned_write.new.self c.finish.new.self c.finish.result refl c.planned_write.ensures.kept c.finish.ensures

pub returns-in-None-clause-syncs : goal.returns-in-None-clause-syncs
returns-in-None-clause-syncs c = syncs_unwritten c.args.at c.args.bytes.now c.args.self.now c.planned_write.new.self c.fail_write.new.self c.planned_write.ensures.kept c.fail_write.ensures.call

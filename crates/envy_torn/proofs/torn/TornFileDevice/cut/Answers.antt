use Rattle.std.proofs.Common.{◌∙◌, ℕ, List, take, refl, sym, ap, subst}
use Rattle.envy_device.specs.Device.{Cut}
use Rattle.envy_torn.specs.declared.call.Call.TheVariants.{Cut as CutCall, BadCut}
use Rattle.envy_torn.specs.Torn.{file_bytes}
use Rattle.envy_torn.proofs.Written.{syncs_finished, syncs_failed, cut_none, bytes_kept, time_finished, synced_finished, bytewise_finished, crash_finished, time_failed, synced_failed, bytewise_failed, bytes_failed, crash_failed, bytes_finished, same_finished, serves_finished}
use Rattle.envy_torn.proofs.torn.TornFileDevice.cut.Goals as goal

pub finish-requires : goal.finish-requires
finish-requires c =
    let p = c.in-Some.ensures.passes in
    let old = c.args.self.now in
    let mid = c.planned_cut.new.self in
    p.1 ∙ ap (λ (b : List ℕ). take c.args.len b) (sym (bytes_kept old mid c.planned_cut.ensures.kept))

pub returns-in-Some-clause-cut : goal.returns-in-Some-clause-cut
returns-in-Some-clause-cut c = bytes_finished (CutCall c.args.len) c.args.self.now c.planned_cut.new.self c.finish.new.self c.finish.result (take c.args.len (file_bytes c.args.self.now)) c.planned_cut.ensures.kept c.finish.ensures refl

pub returns-in-Some-clause-torn : goal.returns-in-Some-clause-torn
returns-in-Some-clause-torn c = same_finished (CutCall c.args.len) c.args.self.now c.planned_cut.new.self c.finish.new.self c.finish.result (Cut c.args.len) c.planned_cut.ensures.kept c.finish.ensures (cut_none c.args.len (file_bytes c.args.self.now))

pub returns-in-Some-clause-crash : goal.returns-in-Some-clause-crash
returns-in-Some-clause-crash c = crash_finished (CutCall c.args.len) c.args.self.now c.planned_cut.new.self c.finish.new.self c.finish.result (Cut c.args.len) c.planned_cut.ensures.kept c.finish.ensures (λ d x is. is) (λ x was. cut_none c.args.len x)

pub returns-in-Some-clause-time : goal.returns-in-Some-clause-time
returns-in-Some-clause-time c = time_finished (CutCall c.args.len) c.args.self.now c.planned_cut.new.self c.finish.new.self c.finish.result c.planned_cut.ensures.kept c.finish.ensures

pub returns-in-Some-clause-synced : goal.returns-in-Some-clause-synced
returns-in-Some-clause-synced c = synced_finished (CutCall c.args.len) c.args.self.now c.planned_cut.new.self c.finish.new.self c.finish.result c.planned_cut.ensures.kept c.finish.ensures

pub returns-in-Some-clause-cause : goal.returns-in-Some-clause-cause
returns-in-Some-clause-cause c = serves_finished (CutCall c.args.len) c.args.self.now c.planned_cut.new.self c.finish.new.self c.finish.result c.finish.ensures c.planned_cut.ensures.failed c.in-Some.ensures.passes.0

pub returns-in-None-clause-torn : goal.returns-in-None-clause-torn
returns-in-None-clause-torn c =
    let same = bytes_failed (BadCut c.args.len) c.args.self.now c.planned_cut.new.self c.fail.new.self (λ s. refl) c.planned_cut.ensures.kept c.fail.ensures.call in
    subst (λ (b : List ℕ). Cut c.args.len (file_bytes c.args.self.now) b) (sym same) (cut_none c.args.len (file_bytes c.args.self.now))

pub returns-in-None-clause-crash : goal.returns-in-None-clause-crash
returns-in-None-clause-crash c = crash_failed (BadCut c.args.len) c.args.self.now c.planned_cut.new.self c.fail.new.self (Cut c.args.len) c.planned_cut.ensures.kept c.fail.ensures.call (λ d x is. is) (λ x was. cut_none c.args.len x)

pub returns-in-None-clause-time : goal.returns-in-None-clause-time
returns-in-None-clause-time c = time_failed (BadCut c.args.len) c.args.self.now c.planned_cut.new.self c.fail.new.self c.planned_cut.ensures.kept c.fail.ensures.call

pub returns-in-None-clause-synced : goal.returns-in-None-clause-synced
returns-in-None-clause-synced c = synced_failed (BadCut c.args.len) c.args.self.now c.planned_cut.new.self c.fail.new.self c.planned_cut.ensures.kept c.fail.ensures.call

pub returns-in-Some-clause-bytewise : goal.returns-in-Some-clause-bytewise
returns-in-Some-clause-bytewise c = bytewise_finished (CutCall c.args.len) c.args.self.now c.planned_cut.new.self c.finish.new.self c.finish.result c.planned_cut.ensures.kept c.finish.ensures

pub returns-in-None-clause-bytewise : goal.returns-in-None-clause-bytewise
returns-in-None-clause-bytewise c = bytewise_failed (BadCut c.args.len) c.args.self.now c.planned_cut.new.self c.fail.new.self c.planned_cut.ensures.kept c.fail.ensures.call

pub returns-in-Some-clause-syncs : goal.returns-in-Some-clause-syncs
returns-in-Some-clause-syncs c = syncs_finished (CutCall c.args.len) c.args.self.now c.planned_cut.new.self c.finish.new.self c.finish.result refl c.planned_cut.ensures.kept c.finish.ensures

pub returns-in-None-clause-syncs : goal.returns-in-None-clause-syncs
returns-in-None-clause-syncs c = syncs_failed (BadCut c.args.len) c.args.self.now c.planned_cut.new.self c.fail.new.self refl c.planned_cut.ensures.kept c.fail.ensures.call

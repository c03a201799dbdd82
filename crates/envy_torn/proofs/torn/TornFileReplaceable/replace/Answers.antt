use Rattle.std.proofs.Common.{◌≡◌, ⊎_elim, ◌∙◌, inl, inr, ℕ, Vec, Global, ap, refl}
use Rattle.envy_torn.specs.declared.call.Call.TheVariants.{Replace, BadReplace}
use Rattle.envy_torn.proofs.Written.{noted_after, bytes_noted, outcome_noted, time_noted, time_failed, bytes_failed, bytewise_failed, crash_unreplaced}
use Rattle.envy_torn.specs.declared.torn.TornFile.{TornFile}
use Rattle.envy_torn.specs.Torn.{Kept}
use Rattle.envy_torn.proofs.torn.TornFileReplaceable.replace.Goals as goal

both : {a b c : TornFile} → Kept a b → Kept b c → Kept a c
both k l = record { calls = l.calls ∙ k.calls; first = l.first ∙ k.first; synced = l.synced ∙ k.synced; bytewise = l.bytewise ∙ k.bytewise; hindrances = l.hindrances ∙ k.hindrances }

pub returns-in_ok-finish-in-Some-clause-replaced : goal.returns-in_ok-finish-in-Some-clause-replaced
returns-in_ok-finish-in-Some-clause-replaced c =
    let call = Replace c.in-Some.copy in
    bytes_noted call c.args.self.now c.finish.new.self (noted_after call c.args.self.now c.planned_replace.new.self c.finish.new.self (both c.second_may_pass.ensures.kept c.planned_replace.ensures.kept) c.in_ok-finish-in-Some.ensures.0)
    ∙ c.in-Some.ensures.passes.1
    ∙ c.second_may_pass.ensures.second

pub returns-in_ok-finish-in-Some-clause-durable : goal.returns-in_ok-finish-in-Some-clause-durable
returns-in_ok-finish-in-Some-clause-durable c =
    let call = Replace c.in-Some.copy in
    λ x left.
    let from = outcome_noted call c.args.self.now c.finish.new.self (noted_after call c.args.self.now c.planned_replace.new.self c.finish.new.self (both c.second_may_pass.ensures.kept c.planned_replace.ensures.kept) c.in_ok-finish-in-Some.ensures.0) x left in
    from.2 ∙ c.in-Some.ensures.passes.1 ∙ c.second_may_pass.ensures.second

pub returns-in_ok-finish-in-Some-clause-crash : goal.returns-in_ok-finish-in-Some-clause-crash
returns-in_ok-finish-in-Some-clause-crash c = λ x left. inr (returns-in_ok-finish-in-Some-clause-durable c x left)

pub returns-in_ok-finish-in-Some-clause-time : goal.returns-in_ok-finish-in-Some-clause-time
returns-in_ok-finish-in-Some-clause-time c =
    let call = Replace c.in-Some.copy in
    time_noted call c.args.self.now c.finish.new.self (noted_after call c.args.self.now c.planned_replace.new.self c.finish.new.self (both c.second_may_pass.ensures.kept c.planned_replace.ensures.kept) c.in_ok-finish-in-Some.ensures.0)

pub returns-in-None-clause-stays : goal.returns-in-None-clause-stays
returns-in-None-clause-stays c =
    let k = both c.second_may_pass.ensures.kept c.planned_replace.ensures.kept in
    bytes_failed (BadReplace c.replace-bytes.result) c.args.self.now _ c.fail.new.self (λ s. refl) (record { calls = k.calls; first = k.first; synced = k.synced; bytewise = k.bytewise; hindrances = k.hindrances }) c.fail.ensures.call

pub returns-in-None-clause-crash : goal.returns-in-None-clause-crash
returns-in-None-clause-crash c =
    let k = both c.second_may_pass.ensures.kept c.planned_replace.ensures.kept in
    let same : c.replace-bytes.result.items ≡ c.args.self.now.second.items = ap (λ (v : Vec ℕ Global). v.items) c.replace-bytes.ensures.value ∙ c.planned_replace.ensures.second ∙ c.second_may_pass.ensures.second in
    crash_unreplaced (BadReplace c.replace-bytes.result) c.args.self.now.second.items c.args.self.now _ c.fail.new.self (λ s d e is. ⊎_elim (λ l. inl l) (λ r. inr (r ∙ same)) is) (record { calls = k.calls; first = k.first; synced = k.synced; bytewise = k.bytewise; hindrances = k.hindrances }) c.fail.ensures.call

pub returns-in-None-clause-time : goal.returns-in-None-clause-time
returns-in-None-clause-time c =
    let k = both c.second_may_pass.ensures.kept c.planned_replace.ensures.kept in
    time_failed (BadReplace c.replace-bytes.result) c.args.self.now _ c.fail.new.self (record { calls = k.calls; first = k.first; synced = k.synced; bytewise = k.bytewise; hindrances = k.hindrances }) c.fail.ensures.call

pub returns-in-None-clause-bytewise : goal.returns-in-None-clause-bytewise
returns-in-None-clause-bytewise c =
    let k = both c.second_may_pass.ensures.kept c.planned_replace.ensures.kept in
    bytewise_failed (BadReplace c.replace-bytes.result) c.args.self.now _ c.fail.new.self (record { calls = k.calls; first = k.first; synced = k.synced; bytewise = k.bytewise; hindrances = k.hindrances }) c.fail.ensures.call

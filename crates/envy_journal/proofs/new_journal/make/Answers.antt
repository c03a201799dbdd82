use Rattle.std.proofs.Common.{◌≡◌, ◌⊎◌, ◌∙◌, ◌∷◌, ◌++◌, [], inl, inr, ⊎_elim, ℕ, List, sym, ap, subst}
use Rattle.envy_journal.specs.Head.{IsNewOrUnmade, StandsFor, head_bytes}
use Rattle.envy_journal.specs.Version.{version}
use Rattle.envy_journal.proofs.Moments.{widened}
use Rattle.envy_journal.proofs.Opened.{made_new}
use Rattle.envy_journal.proofs.Untouched.{untouched_call, untouched_both, replaced, then_replaced}
use Rattle.envy_journal.proofs.new_journal.make.Goals as goal

pub returns-in_err-replace-clause-any_moment : goal.returns-in_err-replace-clause-any_moment
returns-in_err-replace-clause-any_moment g c =
    let D = g.D.Device in
    let leave = g.D.Device.may_leave in
    let moment = g.D.Device.moment in
    let left = g.D.Device.left_since in
    let only_now = g.met.D.Device.only_now in
    let sh = c.args.shape.now in
    let first = c.args.device.now in
    let a = c.begin_second.new.self in
    let b = c.write_second.new.self in
    let d = c.replace.new.self in
    let file = g.D.Replaceable.second b in
    let is : file ≡ head_bytes version sh ++ 0 ∷ [] = c.in_ok-write_second.ensures.written ∙ ap (λ (l : List ℕ). l ++ c.with_gate.result) c.in_ok-begin_second.ensures.begun ∙ c.with_gate.ensures in
    let quiet = untouched_both D.seen leave moment left D.synced D.bytewise first a b (untouched_call D.seen leave moment left D.synced D.bytewise first a c.begin_second.ensures.seen c.begin_second.ensures.synced c.begin_second.ensures.bytewise (only_now first) c.begin_second.ensures.crash c.begin_second.ensures.time)
    (untouched_call D.seen leave moment left D.synced D.bytewise a b c.write_second.ensures.seen c.write_second.ensures.synced c.write_second.ensures.bytewise (only_now a) c.write_second.ensures.crash c.write_second.ensures.time) in
    widened moment left first d (λ x. leave first x ⊎ StandsFor sh [] x) (IsNewOrUnmade sh)
    (then_replaced D.seen leave moment left D.synced D.bytewise first b d (λ x. x ≡ file) (StandsFor sh []) quiet (replaced D.seen leave moment left D.synced D.bytewise b d file (only_now b) c.replace.ensures.crash c.replace.ensures.time)
    (λ x now. subst (λ (l : List ℕ). StandsFor sh [] l) (sym (now ∙ is)) (made_new sh)))
    (λ x was. ⊎_elim (λ before. inl (c.requires.durable x before ∙ c.requires.unmade)) (λ made. inr made) was)

pub returns-clause-any_moment : goal.returns-clause-any_moment
returns-clause-any_moment g c =
    let D = g.D.Device in
    let leave = g.D.Device.may_leave in
    let moment = g.D.Device.moment in
    let left = g.D.Device.left_since in
    let only_now = g.met.D.Device.only_now in
    let sh = c.args.shape.now in
    let first = c.args.device.now in
    let a = c.begin_second.new.self in
    let b = c.write_second.new.self in
    let d = c.replace.new.self in
    let file = g.D.Replaceable.second b in
    let is : file ≡ head_bytes version sh ++ 0 ∷ [] = c.in_ok-write_second.ensures.written ∙ ap (λ (l : List ℕ). l ++ c.with_gate.result) c.in_ok-begin_second.ensures.begun ∙ c.with_gate.ensures in
    let quiet = untouched_both D.seen leave moment left D.synced D.bytewise first a b (untouched_call D.seen leave moment left D.synced D.bytewise first a c.begin_second.ensures.seen c.begin_second.ensures.synced c.begin_second.ensures.bytewise (only_now first) c.begin_second.ensures.crash c.begin_second.ensures.time)
    (untouched_call D.seen leave moment left D.synced D.bytewise a b c.write_second.ensures.seen c.write_second.ensures.synced c.write_second.ensures.bytewise (only_now a) c.write_second.ensures.crash c.write_second.ensures.time) in
    widened moment left first d (λ x. leave first x ⊎ StandsFor sh [] x) (IsNewOrUnmade sh)
    (then_replaced D.seen leave moment left D.synced D.bytewise first b d (λ x. x ≡ file) (StandsFor sh []) quiet (replaced D.seen leave moment left D.synced D.bytewise b d file (only_now b) c.replace.ensures.crash c.replace.ensures.time)
    (λ x now. subst (λ (l : List ℕ). StandsFor sh [] l) (sym (now ∙ is)) (made_new sh)))
    (λ x was. ⊎_elim (λ before. inl (c.requires.durable x before ∙ c.requires.unmade)) (λ made. inr made) was)

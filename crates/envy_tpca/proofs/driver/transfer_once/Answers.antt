use Rattle.std.proofs.Common.{◌≡◌, ℕ, ◌<◌, ◌+◌, List, length, arith, ap, refl, sym, ◌∙◌, subst}
use Rattle.std.specs.Prelude.{slice_index}
use Rattle.envy_array.specs.Array.{put_back}
use Rattle.envy_soundness.specs.Words.{durable}
use Rattle.envy_map.specs.Fields.{Chart}
use Rattle.envy_base.specs.declared.shape.Shape.{Shape}
use Rattle.envy_tpca.specs.Trial.{writes, IsTried}
use Rattle.envy_tpca.proofs.Between.{ticked, told, has-count, rests-at, dead-ends, returns-ok}
use Rattle.envy_tpca.proofs.Calling.{rests-durable, durable-rests}
use Rattle.envy_tpca.proofs.Loading.{accessed-same, loaded-chart}
use Rattle.envy_tpca.proofs.Uncut.{cut-off, done-uncut, ticked-cut}
use Rattle.envy_tpca.proofs.Since.{Since-refl, Since-more, since-load}
use Rattle.envy_tpca.proofs.driver.transfer_once.Goals as goal

pub tick_four_times-requires : goal.tick_four_times-requires
tick_four_times-requires g c =
    let first = c.args.memory.now in
    let tl = c.requires.trial in
    let d = c.in-Ok.ensures.after 0 first tl.places tl.size tl.done (durable first.chart) c.loop-memory.invariant.rests c.loop-memory.invariant.since tl.tried in
    rests-durable (put_back (writes tl.places tl.done c.args.t) (durable first.chart)) c.try_transfer.new.memory d.0

pub returns-in-Ok-clause-after : goal.returns-in-Ok-clause-after
returns-in-Ok-clause-after g c = λ l size ts tried.
    let first = c.args.memory.now in
    let d = c.in-Ok.ensures.after 0 first l size ts (durable first.chart) c.loop-memory.invariant.rests c.loop-memory.invariant.since tried in
    ticked 0 first (durable first.chart) (put_back (writes l ts c.args.t) (durable first.chart)) c.try_transfer.new.memory c.tick_four_times.new.memory c.tick_four_times.result d.0 d.1 c.tick_four_times.ensures.after

pub returns-in-Err-Bad-clause-after : goal.returns-in-Err-Bad-clause-after
returns-in-Err-Bad-clause-after g c = λ l size ts tried.
    let first = c.args.memory.now in
    let e = rw c.in-Err-Bad.field-0-is at c.in-Err-Bad.ensures.after in
    e 0 first l size ts (durable first.chart) c.loop-memory.invariant.rests c.loop-memory.invariant.since tried

pub unreachable-requires : goal.unreachable-requires
unreachable-requires g c =
    let first = c.args.memory.now in
    let tl = c.requires.trial in
    let e = rw c.in-Err-Refused.field-0-is at c.in-Err-Refused.ensures.after in
    (e 0 first tl.places tl.size tl.done (durable first.chart) c.loop-memory.invariant.rests c.loop-memory.invariant.since tl.tried).0

pub restart-requires : goal.restart-requires
restart-requires g c =
    let first = c.args.memory.now in
    let tl = c.requires.trial in
    let e = rw c.in-Err-Off.field-0-is at c.in-Err-Off.ensures.after in
    (e 0 first tl.places tl.size tl.done (durable first.chart) c.loop-memory.invariant.rests c.loop-memory.invariant.since tl.tried).0.0

pub returns-in_err-restart-clause-after : goal.returns-in_err-restart-clause-after
returns-in_err-restart-clause-after g c = λ l size ts tried.
    let first = c.args.memory.now in
    let e = rw c.in-Err-Off.field-0-is at c.in-Err-Off.ensures.after in
    let d = e 0 first l size ts (durable first.chart) c.loop-memory.invariant.rests c.loop-memory.invariant.since tried in
    dead-ends 0 first (durable first.chart) (put_back (writes l ts c.args.t) (durable first.chart)) c.try_transfer.new.memory c.restart.new.memory c.from_residual.result c.restart.result c.in_err-restart.field-0.0 d.0 d.1 c.restart.ensures.after c.in_err-restart.was c.from_residual.ensures.0 c.from_residual.ensures.1

pub load_at-requires-clause-rests : goal.load_at-requires-clause-rests
load_at-requires-clause-rests g c =
    let r = returns-ok c.try_transfer.new.memory c.restart.new.memory c.restart.result _ c.restart.ensures.after c.in_ok-restart.was in
    rests-durable (durable c.try_transfer.new.memory.chart) c.restart.new.memory r.0

pub load_at-requires-clause-within : goal.load_at-requires-clause-within
load_at-requires-clause-within g c =
    let first = c.args.memory.now in
    let tl = c.requires.trial in
    let e = rw c.in-Err-Off.field-0-is at c.in-Err-Off.ensures.after in
    let d = e 0 first tl.places tl.size tl.done (durable first.chart) c.loop-memory.invariant.rests c.loop-memory.invariant.since tl.tried in
    let r = returns-ok c.try_transfer.new.memory c.restart.new.memory c.restart.result _ c.restart.ensures.after c.in_ok-restart.was in
    let some = has-count _ tl.places tl.size tl.done (durable first.chart) c.args.i c.args.t c.args.at tl.tried (durable c.try_transfer.new.memory.chart) d.1.words in
    subst (λ (ws : List ℕ). 0 < length ws) (sym (durable-rests (durable c.try_transfer.new.memory.chart) c.restart.new.memory r.0)) some

pub tick_four_times-requires-then-load_at-from : goal.tick_four_times-requires-then-load_at-from
tick_four_times-requires-then-load_at-from g c =
    let r = returns-ok c.try_transfer.new.memory c.restart.new.memory c.restart.result _ c.restart.ensures.after c.in_ok-restart.was in
    rests-at c.restart.new.memory c.load_at.new.memory (durable c.try_transfer.new.memory.chart) (durable c.load_at.new.memory.chart) r.0 (loaded-chart _ _ _ c.load_at.ensures.loaded)
    (sym (durable-rests (durable c.try_transfer.new.memory.chart) c.restart.new.memory r.0) ∙ ap durable (sym (loaded-chart _ _ _ c.load_at.ensures.loaded)))

pub returns-then-load_at-from-clause-after : goal.returns-then-load_at-from-clause-after
returns-then-load_at-from-clause-after g c = λ l size ts tried.
    let first = c.args.memory.now in
    let mid = c.try_transfer.new.memory in
    let back = c.restart.new.memory in
    let now = put_back (writes l ts c.args.t) (durable first.chart) in
    let e = rw c.in-Err-Off.field-0-is at c.in-Err-Off.ensures.after in
    let d = e 0 first l size ts (durable first.chart) c.loop-memory.invariant.rests c.loop-memory.invariant.since tried in
    let r = returns-ok mid back c.restart.result _ c.restart.ensures.after c.in_ok-restart.was in
    let word : c.load_at.result ≡ slice_index (durable mid.chart) 0 = c.load_at.ensures.word ∙ ap (λ (ws : List ℕ). slice_index ws 0) (durable-rests (durable mid.chart) back r.0) in
    let t = told _ l size ts (durable first.chart) c.args.i c.args.t c.args.at tried (durable mid.chart) d.1.words c.load_at.result word in
    let from = c.from.ensures in
    let is = c.if-load_at-from.true in
    let done : durable mid.chart ≡ now = t.0 (is ∙ ap (λ (k : ℕ). k + 1) from) in
    let since = Since-more 0 first back c.load_at.new.memory (Since-more 0 first mid back d.1.since r.1) (since-load back c.load_at.new.memory _ c.load_at.ensures.loaded.same) in
    ticked 0 first (durable first.chart) now c.load_at.new.memory c.tick_four_times-then-load_at-from.new.memory c.tick_four_times-then-load_at-from.result
    (rests-at back c.load_at.new.memory (durable mid.chart) now r.0 (loaded-chart _ _ _ c.load_at.ensures.loaded) done) since c.tick_four_times-then-load_at-from.ensures.after

pub loop-memory-init : goal.loop-memory-init
loop-memory-init g c = record { rests = c.requires.trial.rests; since = Since-refl c.args.memory.now; uncut = λ low same. accessed-same c.args.memory.now.parts.cache c.args.memory.now.parts.cache refl }

pub loop-memory-smaller : goal.loop-memory-smaller
loop-memory-smaller g c =
    let first = c.args.memory.now in
    let tl = c.requires.trial in
    let e = rw c.in-Err-Off.field-0-is at c.in-Err-Off.ensures.after in
    let tried = subst (λ (sh : Shape). IsTried sh.shadows tl.places tl.size tl.done (durable first.chart) c.args.i c.args.t c.args.at) (sym c.loop-memory.invariant.since.keeps.shape) tl.tried in
    let d = e 0 c.loop-memory.memory tl.places tl.size tl.done (durable first.chart) c.loop-memory.invariant.rests (Since-refl c.loop-memory.memory) tried in
    let low = d.1.since.keeps.lives in
    let r = returns-ok c.try_transfer.new.memory c.restart.new.memory c.restart.result _ c.restart.ensures.after c.in_ok-restart.was in
    let fewer = r.2 in
    let same = ap (λ (ch : Chart). ch.lives) (loaded-chart _ _ _ c.load_at.ensures.loaded) in
    let lt : c.load_at.new.memory.chart.lives < c.loop-memory.memory.chart.lives = omega arith in
    lt

pub loop-memory-preserved : goal.loop-memory-preserved
loop-memory-preserved g c =
    let first = c.args.memory.now in
    let tl = c.requires.trial in
    let mid = c.try_transfer.new.memory in
    let back = c.restart.new.memory in
    let e = rw c.in-Err-Off.field-0-is at c.in-Err-Off.ensures.after in
    let d = e 0 first tl.places tl.size tl.done (durable first.chart) c.loop-memory.invariant.rests c.loop-memory.invariant.since tl.tried in
    let r = returns-ok mid back c.restart.result _ c.restart.ensures.after c.in_ok-restart.was in
    let word : c.load_at.result ≡ slice_index (durable mid.chart) 0 = c.load_at.ensures.word ∙ ap (λ (ws : List ℕ). slice_index ws 0) (durable-rests (durable mid.chart) back r.0) in
    let t = told _ tl.places tl.size tl.done (durable first.chart) c.args.i c.args.t c.args.at tl.tried (durable mid.chart) d.1.words c.load_at.result word in
    let from = c.from.ensures in
    let not_is = c.if-load_at-from.false in
    let same : durable mid.chart ≡ durable first.chart = t.1 (λ y. not_is (y ∙ ap (λ (k : ℕ). k + 1) (sym from))) in
    record {
      rests = rests-at back c.load_at.new.memory (durable mid.chart) (durable first.chart) r.0 (loaded-chart _ _ _ c.load_at.ensures.loaded) same;
      since = Since-more 0 first back c.load_at.new.memory (Since-more 0 first mid back d.1.since r.1) (since-load back c.load_at.new.memory _ c.load_at.ensures.loaded.same);
      uncut = cut-off 0 first mid back c.load_at.new.memory d.0.1 r.1 (loaded-chart _ _ _ c.load_at.ensures.loaded);
    }

pub returns-in-Ok-clause-uncut : goal.returns-in-Ok-clause-uncut
returns-in-Ok-clause-uncut g c =
    let first = c.args.memory.now in
    let head = c.loop-memory.memory in
    let tl = c.requires.trial in
    let tried = subst (λ (sh : Shape). IsTried sh.shadows tl.places tl.size tl.done (durable first.chart) c.args.i c.args.t c.args.at) (sym c.loop-memory.invariant.since.keeps.shape) tl.tried in
    let d = c.in-Ok.ensures.after 0 head tl.places tl.size tl.done (durable first.chart) c.loop-memory.invariant.rests (Since-refl head) tried in
    done-uncut first head c.try_transfer.new.memory c.tick_four_times.new.memory (durable c.try_transfer.new.memory.chart) c.tick_four_times.result c.loop-memory.invariant.since c.loop-memory.invariant.uncut d.1 c.in-Ok.ensures.accessed c.tick_four_times.ensures.after c.tick_four_times.ensures.accessed

pub returns-then-load_at-from-clause-uncut : goal.returns-then-load_at-from-clause-uncut
returns-then-load_at-from-clause-uncut g c =
    let first = c.args.memory.now in
    let tl = c.requires.trial in
    let e = rw c.in-Err-Off.field-0-is at c.in-Err-Off.ensures.after in
    let d = e 0 first tl.places tl.size tl.done (durable first.chart) c.loop-memory.invariant.rests c.loop-memory.invariant.since tl.tried in
    let r = returns-ok c.try_transfer.new.memory c.restart.new.memory c.restart.result _ c.restart.ensures.after c.in_ok-restart.was in
    ticked-cut 11 first c.try_transfer.new.memory c.restart.new.memory c.load_at.new.memory c.tick_four_times-then-load_at-from.new.memory (durable c.load_at.new.memory.chart) c.tick_four_times-then-load_at-from.result d.0.1 r.1 (loaded-chart _ _ _ c.load_at.ensures.loaded) c.tick_four_times-then-load_at-from.ensures.after

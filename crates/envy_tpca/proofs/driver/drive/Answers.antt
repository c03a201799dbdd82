use Rattle.std.proofs.Common.{◌≡◌, ℕ, ◌≤◌, ◌+◌, ◌*◌, Ok, arith, ap, sym, ◌∙◌, subst}
use Rattle.std.specs.Prelude.{replicate}
use Rattle.envy_soundness.specs.Words.{durable}
use Rattle.envy_map.specs.Fields.{Chart}
use Rattle.envy_base.specs.declared.shape.Shape.{Shape}
use Rattle.envy_tpca.specs.declared.places.Places.{Places}
use Rattle.envy_tpca.specs.Driving.{plans_in}
use Rattle.envy_tpca.specs.Since.{Rises}
use Rattle.envy_tpca.specs.Running.{AfterAll}
use Rattle.envy_tpca.specs.Summing.{Small, balances_in, history_in}
use Rattle.envy_tpca.specs.Tpc.{Tpc}
use Rattle.envy_tpca.proofs.Calling.{rests-durable, durable-rests}
use Rattle.envy_tpca.proofs.Driven.{Sized, has-counted, counted-within, few-plans, branches-small, tellers-small, accounts-small, history-small, branches-total, tellers-total, accounts-total, history-total, told-before, total-small, kept-signed}
use Rattle.envy_tpca.specs.Loading.{Loaded}
use Rattle.envy_tpca.proofs.Loading.{loaded-more, loaded-chart, rests-same}
use Rattle.envy_tpca.proofs.Since.{Keeps-trans, since-load}
use Rattle.envy_tpca.proofs.Stepping.{all-ok, all-err, zeros-words}
use Rattle.envy_tpca.proofs.Uncut.{told-uncut}
use Rattle.envy_tpca.proofs.driver.drive.Given.{Over}
use Rattle.envy_tpca.proofs.driver.drive.Goals.{After-lay_out-places, After-counts-counts, After-sum_balances-branches, After-sum_balances-tellers, After-sum_balances-accounts, After-sum_history-history}
use Rattle.envy_tpca.proofs.driver.drive.Goals as goal

-- a load of this size fits the board
sized : (g : Over) (c : After-lay_out-places g) → Sized c.args.area.now c.lay_out-places.result c.args.load.now c.args.memory.now.chart.shape.pages
sized g c =
    let board = ap (λ (ch : Chart). ch.shape.pages) c.board.ensures.same in
    record { fits = c.requires.fits; low = omega (arith, c.lay_out-places.ensures.low); sizes = c.requires.load; places = c.lay_out-places.ensures.places }

-- every transfer is done
done : (g : Over) (c : After-counts-counts g) → AfterAll c.args.area.now c.args.load.now c.args.every c.args.memory.now (Ok c.in_ok-deltas.deltas) c.transfer_all.new.load c.transfer_all.new.memory
done g c =
    all-ok c.args.area.now c.args.load.now c.args.every c.args.memory.now c.transfer_all.new.memory c.transfer_all.result c.transfer_all.new.load c.in_ok-deltas.deltas c.transfer_all.ensures.after c.in_ok-deltas.was

-- adding up leaves the chart: behind the branches, the tellers, the accounts, the history
chart-branches : (g : Over) (c : After-sum_balances-branches g) → c.sum_balances-branches.new.memory.chart ≡ c.transfer_all.new.memory.chart
chart-branches g c = loaded-chart _ _ _ c.sum_balances-branches.ensures.loaded

chart-tellers : (g : Over) (c : After-sum_balances-tellers g) → c.sum_balances-tellers.new.memory.chart ≡ c.transfer_all.new.memory.chart
chart-tellers g c = loaded-chart _ _ _ c.sum_balances-tellers.ensures.loaded ∙ loaded-chart _ _ _ c.sum_balances-branches.ensures.loaded

chart-accounts : (g : Over) (c : After-sum_balances-accounts g) → c.sum_balances-accounts.new.memory.chart ≡ c.transfer_all.new.memory.chart
chart-accounts g c =
    loaded-chart _ _ _ c.sum_balances-accounts.ensures.loaded ∙ loaded-chart _ _ _ c.sum_balances-tellers.ensures.loaded ∙ loaded-chart _ _ _ c.sum_balances-branches.ensures.loaded

chart-history : (g : Over) (c : After-sum_history-history g) → c.sum_history-history.new.memory.chart ≡ c.transfer_all.new.memory.chart
chart-history g c =
    loaded-chart _ _ _ c.sum_history-history.ensures.loaded ∙ loaded-chart _ _ _ c.sum_balances-accounts.ensures.loaded
    ∙ loaded-chart _ _ _ c.sum_balances-tellers.ensures.loaded ∙ loaded-chart _ _ _ c.sum_balances-branches.ensures.loaded

-- the loads that adding up made
loads : (g : Over) (c : After-sum_history-history g)
    → Loaded (c.lay_out-places.result.branches + 10 * c.lay_out-places.result.branches + c.lay_out-places.result.accounts + c.args.area.now.transfers) c.transfer_all.new.memory c.sum_history-history.new.memory
loads g c =
    let l = c.lay_out-places.result in
    let one = c.transfer_all.new.memory in
    loaded-more (l.branches + 10 * l.branches + l.accounts) c.args.area.now.transfers one c.sum_balances-accounts.new.memory c.sum_history-history.new.memory
    (loaded-more (l.branches + 10 * l.branches) l.accounts one c.sum_balances-tellers.new.memory c.sum_balances-accounts.new.memory
    (loaded-more l.branches (10 * l.branches) one c.sum_balances-branches.new.memory c.sum_balances-tellers.new.memory c.sum_balances-branches.ensures.loaded c.sum_balances-tellers.ensures.loaded)
    c.sum_balances-accounts.ensures.loaded)
    c.sum_history-history.ensures.loaded

pub transfer_all-requires : goal.transfer_all-requires
transfer_all-requires g c =
    let old = c.args.memory.now in
    let size = sized g (goal.at.transfer_all-requires g c).After-lay_out-places in
    let zeros = replicate (32 * old.chart.shape.pages) 0 in
    record {
      fits = size.fits;
      low = size.low;
      places = size.places;
      sizes = size.sizes;
      room = c.requires.room;
      rests = rests-durable zeros old c.requires.zeros;
      words = zeros-words c.args.area.now c.args.load.now old.chart.shape.pages (durable old.chart) (durable-rests zeros old c.requires.zeros);
    }

pub returns-in_err-deltas-clause-counted : goal.returns-in_err-deltas-clause-counted
returns-in_err-deltas-clause-counted g c =
    counted-within c.args.area.now c.args.load.now c.args.every c.args.memory.now c.transfer_all.new.memory
    (all-err c.args.area.now c.args.load.now c.args.every c.args.memory.now c.transfer_all.new.memory c.transfer_all.result c.transfer_all.new.load c.in_err-deltas.field-0.0 c.transfer_all.ensures.after c.in_err-deltas.was).1

pub returns-in_err-deltas-clause-plans : goal.returns-in_err-deltas-clause-plans
returns-in_err-deltas-clause-plans g c =
    few-plans c.args.area.now c.args.load.now c.args.every c.args.memory.now c.transfer_all.new.memory
    (all-err c.args.area.now c.args.load.now c.args.every c.args.memory.now c.transfer_all.new.memory c.transfer_all.result c.transfer_all.new.load c.in_err-deltas.field-0.0 c.transfer_all.ensures.after c.in_err-deltas.was).1

pub returns-in_err-deltas-clause-last : goal.returns-in_err-deltas-clause-last
returns-in_err-deltas-clause-last g c =
    let w = (all-err c.args.area.now c.args.load.now c.args.every c.args.memory.now c.transfer_all.new.memory c.transfer_all.result c.transfer_all.new.load c.in_err-deltas.field-0.0 c.transfer_all.ensures.after c.in_err-deltas.was).1 in
    (w.planned, w.few_planned, w.last_plan)

pub sum_balances-branches-requires-clause-small : goal.sum_balances-branches-requires-clause-small
sum_balances-branches-requires-clause-small g c =
    let at = goal.at.sum_balances-branches-requires-clause-small g c in
    branches-small _ _ _ _ _ (sized g at.After-lay_out-places) (done g at.After-counts-counts).3.words

pub sum_balances-tellers-requires-clause-rests : goal.sum_balances-tellers-requires-clause-rests
sum_balances-tellers-requires-clause-rests g c =
    let at = goal.at.sum_balances-tellers-requires-clause-rests g c in
    rests-same c.transfer_all.new.memory c.sum_balances-branches.new.memory (chart-branches g at.After-sum_balances-branches) (done g at.After-counts-counts).2

pub sum_balances-tellers-requires-clause-small : goal.sum_balances-tellers-requires-clause-small
sum_balances-tellers-requires-clause-small g c =
    let at = goal.at.sum_balances-tellers-requires-clause-small g c in
    subst (λ (ch : Chart). (n : ℕ) → n ≤ 10 * c.lay_out-places.result.branches → Small (balances_in (durable ch) (1 + c.lay_out-places.result.branches) n)) (sym (chart-branches g at.After-sum_balances-branches))
    (tellers-small _ _ _ _ _ (sized g at.After-lay_out-places) (done g at.After-counts-counts).3.words)

pub sum_balances-accounts-requires-clause-rests : goal.sum_balances-accounts-requires-clause-rests
sum_balances-accounts-requires-clause-rests g c =
    let at = goal.at.sum_balances-accounts-requires-clause-rests g c in
    rests-same c.transfer_all.new.memory c.sum_balances-tellers.new.memory (chart-tellers g at.After-sum_balances-tellers) (done g at.After-counts-counts).2

pub sum_balances-accounts-requires-clause-small : goal.sum_balances-accounts-requires-clause-small
sum_balances-accounts-requires-clause-small g c =
    let at = goal.at.sum_balances-accounts-requires-clause-small g c in
    subst (λ (ch : Chart). (n : ℕ) → n ≤ c.lay_out-places.result.accounts → Small (balances_in (durable ch) (1 + 11 * c.lay_out-places.result.branches) n)) (sym (chart-tellers g at.After-sum_balances-tellers))
    (accounts-small _ _ _ _ _ (sized g at.After-lay_out-places) (done g at.After-counts-counts).3.words)

pub sum_history-history-requires-clause-rests : goal.sum_history-history-requires-clause-rests
sum_history-history-requires-clause-rests g c =
    let at = goal.at.sum_history-history-requires-clause-rests g c in
    rests-same c.transfer_all.new.memory c.sum_balances-accounts.new.memory (chart-accounts g at.After-sum_balances-accounts) (done g at.After-counts-counts).2

pub sum_history-history-requires-clause-small : goal.sum_history-history-requires-clause-small
sum_history-history-requires-clause-small g c =
    let at = goal.at.sum_history-history-requires-clause-small g c in
    subst (λ (ch : Chart). (n : ℕ) → n ≤ c.args.area.now.transfers → Small (history_in (durable ch) c.lay_out-places.result.history n)) (sym (chart-accounts g at.After-sum_balances-accounts))
    (history-small _ _ _ _ _ (sized g at.After-lay_out-places) (done g at.After-counts-counts).3.words)

pub returns-clause-counted : goal.returns-clause-counted
returns-clause-counted g c =
    let at = goal.at.returns-clause-counted g c in
    let one = c.transfer_all.new.memory in
    let all = done g at.After-counts-counts in
    let same = chart-history g at.After-sum_history-history in
    has-counted c.args.area.now c.args.load.now c.args.memory.now.chart.shape.pages c.args.area.now.transfers (durable one.chart) c.sum_history-history.new.memory
    (ap (λ (ch : Chart). ch.shape.pages) same ∙ ap (λ (sh : Shape). sh.pages) all.3.since.keeps.shape) (ap durable same) (omega arith) all.3.words

pub returns-clause-driven : goal.returns-clause-driven
returns-clause-driven g c =
    let old = c.args.memory.now in
    let load = c.args.load.now in
    let area = c.args.area.now in
    let l = c.lay_out-places.result in
    let one = c.transfer_all.new.memory in
    let pages = c.args.memory.now.chart.shape.pages in
    let at = goal.at.returns-clause-driven g c in
    let made = loads g at.After-sum_history-history in
    let all = done g at.After-counts-counts in
    let size = sized g at.After-lay_out-places in
    let e2 = chart-branches g at.After-sum_balances-branches in
    let e3 = chart-tellers g at.After-sum_balances-tellers in
    let e4 = chart-accounts g at.After-sum_balances-accounts in
    let e5 = chart-history g at.After-sum_history-history in
    let last = c.sum_history-history.new.memory in
    let eb = ap (λ (k : Places). k.branches) c.lay_out-places.ensures.places in
    let ea = ap (λ (k : Places). k.accounts) c.lay_out-places.ensures.places in
    let lower = all.3.since.keeps.lives in
    let given = c.lives-given.ensures in
    let left = c.lives.ensures in
    let cuts = c.from-cuts.ensures in
    let lives = ap (λ (ch : Chart). ch.lives) e5 in
    let small = total-small area l load pages size in
    record {
      rests = rests-same one last e5 all.2;
      words = subst (λ (ch : Chart). Tpc area ch.shape.pages load area.transfers (durable ch)) (sym e5)
          (subst (λ (n : ℕ). Tpc area n load area.transfers (durable one.chart)) (sym (ap (λ (sh : Shape). sh.pages) all.3.since.keeps.shape)) all.3.words);
      adds_up = record {
        branches = kept-signed _ _ (c.sum_balances-branches.ensures.sum ∙ branches-total area l load pages (durable one.chart) size all.3.words) small;
        tellers = kept-signed _ _ (c.sum_balances-tellers.ensures.sum ∙ ap (λ (ch : Chart). balances_in (durable ch) (1 + l.branches) (10 * l.branches)) e2 ∙ tellers-total area l load pages (durable one.chart) size all.3.words) small;
        accounts = kept-signed _ _ (c.sum_balances-accounts.ensures.sum ∙ ap (λ (ch : Chart). balances_in (durable ch) (1 + 11 * l.branches) l.accounts) e3 ∙ accounts-total area l load pages (durable one.chart) size all.3.words) small;
        history = kept-signed _ _ (c.sum_history-history.ensures.sum ∙ ap (λ (ch : Chart). history_in (durable ch) l.history area.transfers) e4 ∙ history-total area l load pages (durable one.chart) size all.3.words) small;
        deltas = kept-signed _ _ (all.0) small;
      };
      cuts = omega arith;
      plans = subst (λ (ch : Chart). Rises (plans_in c.args.every area.transfers) old.chart.plans ch.plans) (sym e5) all.3.since.plans;
      last_plan = ap (λ (ch : Chart). ch.last_plan) e5 ∙ all.3.last_plan;
      counts = told-before _ _ one last c.counts-counts.result c.counts-counts.ensures made (omega arith);
      accesses = told-uncut area old one last c.counts-counts.result c.counts-counts.ensures e5 c.in_ok-deltas.ensures.uncut;
    }

pub returns-clause-keeps : goal.returns-clause-keeps
returns-clause-keeps g c =
    let old = c.args.memory.now in
    let one = c.transfer_all.new.memory in
    let at = goal.at.returns-clause-keeps g c in
    let made = loads g at.After-sum_history-history in
    let all = done g at.After-counts-counts in
    let last = c.sum_history-history.new.memory in
    Keeps-trans old one last all.3.since.keeps (since-load one last _ made.same).keeps

pub returns-clause-last : goal.returns-clause-last
returns-clause-last g c =
    let at = goal.at.returns-clause-last g c in
    let all = done g at.After-counts-counts in
    (c.args.area.now.transfers, omega arith, ap (λ (ch : Chart). ch.last_plan) (chart-history g at.After-sum_history-history) ∙ all.3.last_plan)

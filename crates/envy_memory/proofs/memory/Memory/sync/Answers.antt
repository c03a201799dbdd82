use Rattle.std.proofs.Common.{◌≡◌, ℕ, List, ap, subst}
use Rattle.envy_disk.specs.Disk.{SyncsChart}
use Rattle.envy_map.specs.Fields.{chart}
use Rattle.envy_memory.specs.Picture.{Picture}
use Rattle.envy_memory.proofs.SyncLemmas.{synced_chart, synced_memory, synced_quiet, synced_shut, synced_sram}
use Rattle.envy_memory.proofs.memory.Memory.sync.Goals as goal

pub invariant_of-self : goal.invariant_of-self
invariant_of-self g c =
    let m = c.self.inside in
    let old = g.B.Board.state m.board in
    let new = g.B.Board.state c.sync.new.self in
    let synced = synced_chart old new c.sync.result c.sync.ensures.answer in
    (synced_memory (chart old) m.parts m.owned m.limit m.mark c.self.invariant.0 (chart new) c.sync.result synced, synced_quiet (chart old) m.parts m.limit m.quiet c.self.invariant.1 (chart new) c.sync.result synced, synced_shut (chart old) m.shut_from c.self.invariant.2 (chart new) c.sync.result synced)

pub returns-clause-answer : goal.returns-clause-answer
returns-clause-answer g c =
    let old = g.B.Board.state c.self.inside.board in
    let new = g.B.Board.state c.sync.new.self in
    subst (λ (p : Picture). SyncsChart p.chart c.sync.result (chart new)) c.self.view_is (synced_chart old new c.sync.result c.sync.ensures.answer)

pub returns-clause-kept : goal.returns-clause-kept
returns-clause-kept g c =
    let m = c.self.inside in
    let old = g.B.Board.state m.board in
    let new = g.B.Board.state c.sync.new.self in
    let now : Picture = record { chart = chart new; parts = m.parts; owned = m.owned; limit = m.limit; mark = m.mark; sram = new.sram } in
    subst (λ (p : Picture). now ≡ record p { chart = chart new }) c.self.view_is (ap (λ (words : List ℕ). record now { sram = words }) (synced_sram old new c.sync.result c.sync.ensures.answer))

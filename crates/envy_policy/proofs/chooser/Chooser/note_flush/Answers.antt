use Rattle.std.proofs.Common.{◌∙◌, ◌≡◌, sym, ap, subst, arith}
use Rattle.envy_policy.specs.History.{History, IsHistory, flushed, partition_of}
use Rattle.envy_policy.proofs.HistoryLemmas.{IsHistory-flushed, after-note}
use Rattle.envy_policy.proofs.chooser.Chooser.note_flush.Goals as goal

pub invariant_of-self : goal.invariant_of-self
invariant_of-self c =
    let a = c.self.inside in
    let h : History = record { policy = a.policy; pages = a.pages; positions = a.positions; heats = a.heats.heats; turns = a.turns.items; flushes = a.heats.flushes; lives = a.lives } in
    let positions = ap (λ (k : History). k.positions) c.self.view_is in
    let own : c.partition_of-partition.result ≡ partition_of h c.args.position = c.partition_of-partition.ensures.value ∙ ap (λ (k : History). partition_of k c.args.position) (sym c.self.view_is) in
    (subst IsHistory (sym (after-note h c.note.new.self c.args.position _ c.note.ensures own)) (IsHistory-flushed h c.args.position c.self.invariant.0 (omega (arith, positions, c.requires))), c.self.invariant.1)

pub returns : goal.returns
returns c =
    let a = c.self.inside in
    let h : History = record { policy = a.policy; pages = a.pages; positions = a.positions; heats = a.heats.heats; turns = a.turns.items; flushes = a.heats.flushes; lives = a.lives } in
    let own : c.partition_of-partition.result ≡ partition_of h c.args.position = c.partition_of-partition.ensures.value ∙ ap (λ (k : History). partition_of k c.args.position) (sym c.self.view_is) in
    after-note h c.note.new.self c.args.position _ c.note.ensures own ∙ ap (λ (k : History). flushed k c.args.position) c.self.view_is

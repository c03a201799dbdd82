use Rattle.std.proofs.Common.{Option, Some, refl, sym, ap, subst, ◌∙◌}
use Rattle.envy_calls.specs.Codes.{number_of}
use Rattle.envy_memory.specs.Picture.{Picture}
use Rattle.envy_places.specs.Syncing.{DoesSync, SyncsTo}
use Rattle.envy_places.proofs.disk.sync_of.Goals as goal

pub returns : goal.returns
returns g c =
    let synced : SyncsTo g.F.Durable.is_synced c.in-Some.memory c.sync.new.self c.number-2.result = record {
      answer = c.sync.result;
      coded = c.number-2.ensures ∙ ap number_of c.sync_answer.ensures;
      syncs = c.sync.ensures.answer;
      synced = c.sync.ensures.synced;
      kept = c.sync.ensures.kept;
    } in
    subst (λ (o : Option Picture). DoesSync g.F.Durable.is_synced o (Some c.sync.new.self) c.number-2.result) (sym c.in-Some.is) (c.sync.new.self, refl, synced)

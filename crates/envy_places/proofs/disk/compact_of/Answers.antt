use Rattle.std.proofs.Common.{Option, Some, refl, sym, ap, subst, ◌∙◌}
use Rattle.envy_memory.specs.Picture.{Picture}
use Rattle.envy_places.specs.Codes.{number_of_place}
use Rattle.envy_places.specs.Syncing.{CompactsTo, DoesCompact}
use Rattle.envy_places.proofs.disk.compact_of.Goals as goal

pub returns : goal.returns
returns g c =
    let compacted : CompactsTo g.F.Durable.is_synced g.F.Durable.is_compact g.F.Durable.is_hindered c.in-Some.memory c.compact.new.self c.number-2.result = record {
      answer = c.compact.result;
      coded = c.number-2.ensures ∙ ap number_of_place c.compaction_answer.ensures;
      syncs = c.compact.ensures.answer;
      synced = c.compact.ensures.synced;
      compact = c.compact.ensures.compact;
      hindered = c.compact.ensures.hindered;
      kept = c.compact.ensures.kept;
    } in
    subst (λ (o : Option Picture). DoesCompact g.F.Durable.is_synced g.F.Durable.is_compact g.F.Durable.is_hindered o (Some c.compact.new.self) c.number-2.result) (sym c.in-Some.is) (c.compact.new.self, refl, compacted)

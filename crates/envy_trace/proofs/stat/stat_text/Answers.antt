use Rattle.envy_trace.specs.Stat.{stat_bytes}
use Rattle.envy_trace.proofs.stat.stat_text.Goals as goal

pub returns-clause-text : goal.returns-clause-text
unfolding stat_bytes
returns-clause-text c =
    rw (
      c.push_wide.ensures.text,
      c.push_text-2.ensures,
      c.push_count-7.ensures.text,
      c.push_count-6.ensures.text,
      c.push_count-5.ensures.text,
      c.push_count-4.ensures.text,
      c.push_count-3.ensures.text,
      c.push_count-2.ensures.text,
      c.push_count.ensures.text,
      c.push_text.ensures,
      c.requires,
      c.cost.ensures,
    )

use Rattle.std.proofs.Common.{◌≡◌, ◌∙◌, refl, sym, ap, subst, ℕ, List, Option, Some}
use Rattle.envy_memory.specs.Picture.{Picture}
use Rattle.envy_calls.specs.Bulk.{DoesRead, ReadsTo}
use Rattle.envy_calls.specs.Codes.{number_of}
use Rattle.envy_calls.proofs.bulk.read.Goals as goal

-- a read in a place that holds a memory
in_place : (old : Option Picture) (p q : Picture) (a code : ℕ) (before after : List ℕ) → old ≡ Some p
    → ReadsTo p q a code before after → DoesRead old (Some q) a code before after
in_place old p q a code before after is reads =
    subst (λ (o : Option Picture). DoesRead o (Some q) a code before after) (sym is) (q, refl, reads)

pub returns : goal.returns
returns g c =
    in_place c.args.slot.now c.in-Some.memory c.load_run.new.self c.args.a c.number-2.result c.args.into.now c.load_run.new.into
    c.in-Some.is (record {
      answer = c.load_run.result;
      coded = c.number-2.ensures ∙ ap number_of c.read_answer.ensures;
      long = c.load_run.ensures.long;
      step = c.load_run.ensures.step;
      words = c.load_run.ensures.words;
      off = c.load_run.ensures.off;
      range = c.load_run.ensures.range;
      visits = c.load_run.ensures.visits;
      kept = c.load_run.ensures.kept;
      refused = c.load_run.ensures.refused;
    })

use Rattle.std.proofs.Common.{◌≡◌, ◌∙◌, refl, sym, ap, subst, ℕ, List, Option, Some}
use Rattle.envy_memory.specs.Picture.{Picture}
use Rattle.envy_calls.specs.Bulk.{DoesStoreRun, StoresTo}
use Rattle.envy_calls.specs.Codes.{number_of}
use Rattle.envy_calls.proofs.Several.{StoresRun-stored}
use Rattle.envy_calls.proofs.bulk.store_run.Goals as goal

-- stores in a place that holds a memory
in_place : (old : Option Picture) (p q : Picture) (a code done before after : ℕ) (words : List ℕ) → old ≡ Some p
    → StoresTo p q a words code done before after → DoesStoreRun old (Some q) a words code done before after
in_place old p q a code done before after words is stores =
    subst (λ (o : Option Picture). DoesStoreRun o (Some q) a words code done before after) (sym is) (q, refl, stores)

pub returns : goal.returns
returns g c =
    let run = c.store_run-count.ensures in
    in_place c.args.slot.now c.in-Some.memory c.store_run-count.new.self c.args.a c.number-2.result c.store_run-count.result.0 c.args.holder.now c.store_answer.new.holder c.args.words.now
    c.in-Some.is (record {
      answer = c.store_run-count.result.1;
      coded = c.number-2.ensures ∙ ap number_of c.store_answer.ensures.code;
      written = c.store_answer.ensures.holder;
      between = run.0;
      stores = run.1;
      array = λ m stands. StoresRun-stored c.store_run-count.result.0 c.args.a c.args.words.now c.in-Some.memory run.0 run.1 m stands;
      ends = run.2;
    })

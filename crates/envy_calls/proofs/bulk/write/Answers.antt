use Rattle.std.proofs.Common.{◌≡◌, ◌∙◌, refl, sym, ap, subst, ℕ, List, Option, Some}
use Rattle.envy_memory.specs.Picture.{Picture}
use Rattle.envy_calls.specs.Answers.{slot_named}
use Rattle.envy_calls.specs.Bulk.{DoesWrite, WritesTo}
use Rattle.envy_calls.specs.Codes.{number_of}
use Rattle.envy_calls.proofs.Several.{PutsRun-written}
use Rattle.envy_calls.proofs.bulk.write.Goals as goal

-- a write in a place that holds a memory
in_place : (old : Option Picture) (p q : Picture) (t s a code done before after : ℕ) (words : List ℕ) → old ≡ Some p → s ≡ slot_named t
    → WritesTo p q s a words code done before after → DoesWrite old (Some q) t a words code done before after
in_place old p q t s a code done before after words is same writes =
    subst (λ (o : Option Picture). DoesWrite o (Some q) t a words code done before after) (sym is)
    (q, refl, subst (λ (n : ℕ). WritesTo p q n a words code done before after) same writes)

pub returns : goal.returns
returns g c =
    let run = c.put_run-count.ensures.puts in
    in_place c.args.slot.now c.in-Some.memory c.put_run-count.new.self c.args.t c.slot_named.result c.args.a c.number-2.result c.put_run-count.result.0 c.args.holder.now c.put_answer.new.holder c.args.words.now
    c.in-Some.is c.slot_named.ensures (record {
      answer = c.put_run-count.result.1;
      coded = c.number-2.ensures ∙ ap number_of c.put_answer.ensures.code;
      written = c.put_answer.ensures.holder;
      full = c.put_run-count.ensures.full;
      refused = c.put_run-count.ensures.refused;
      between = run.0;
      puts = run.1;
      array = λ m stands. PutsRun-written c.put_run-count.result.0 c.slot_named.result c.args.a c.args.words.now c.in-Some.memory run.0 run.1 m stands;
      ends = run.2;
    })

use Rattle.std.proofs.Common.{◌≡◌, ℕ, ◌∙◌, refl, sym, ap, subst, Option, Some}
use Rattle.envy_memory.specs.Picture.{Picture}
use Rattle.envy_calls.specs.Answers.{DoesPut, PutsTo, slot_named}
use Rattle.envy_calls.specs.Codes.{number_of}
use Rattle.envy_calls.proofs.stores.put.Goals as goal

-- a put by the slot that a number names, in a place that holds a memory
in_place : (old : Option Picture) (p q : Picture) (t s a w code before after : ℕ) → old ≡ Some p → s ≡ slot_named t
    → PutsTo p q s a w code before after → DoesPut old (Some q) t a w code before after
in_place old p q t s a w code before after is same puts =
    subst (λ (o : Option Picture). DoesPut o (Some q) t a w code before after) (sym is)
    (q, refl, subst (λ (n : ℕ). PutsTo p q n a w code before after) same puts)

pub returns : goal.returns
returns g c =
    in_place c.args.slot.now c.in-Some.memory c.put.new.self c.args.t c.slot_named.result c.args.a c.args.word c.number-2.result c.args.holder.now c.put_answer.new.holder
    c.in-Some.is c.slot_named.ensures (record {
      answer = c.put.result;
      coded = c.number-2.ensures ∙ ap number_of c.put_answer.ensures.code;
      written = c.put_answer.ensures.holder;
      step = c.put.ensures.step;
      off = c.put.ensures.off;
      cut = c.put.ensures.cut;
      range = c.put.ensures.range;
      closed = c.put.ensures.closed;
      held = c.put.ensures.held;
      full = c.put.ensures.full;
      bad = c.put.ensures.bad;
      complete = c.put.ensures.complete;
      below = c.put.ensures.below;
    })

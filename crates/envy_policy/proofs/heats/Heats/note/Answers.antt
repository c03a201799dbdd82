use Rattle.std.proofs.Common.{List, ℕ, ◌+◌, ◌≡◌, ◌++◌, ◌∙◌, drop, take, length, sym, ap, subst, arith}
use Rattle.envy_policy.specs.Heats.{Warmth, AreKept, halved_by}
use Rattle.envy_policy.proofs.HistoryLemmas.{written}
use Rattle.envy_policy.proofs.Warming.{Stepped, stepped, halves-fit, room-left, kept-anew, noted-anew, kept-on, noted-on, length-heats, halved-more, halved-within, heats-fit, since-fits, warmth-fits}
use Rattle.envy_policy.proofs.heats.Heats.note.Goals as goal

pub overflow_add-self-2 : goal.overflow_add-self-2
overflow_add-self-2 c =
    let a = c.self.inside in
    let fits = halves-fit a.kept.items c.deref_mut.result.now c.halve.new.kept a.flushes c.len.result c.halved-first.result c.halved-end.result a.warmth a.halves c.halve.result c.self.invariant (c.len.ensures ∙ a.kept.ok.0) c.halved-first.ensures c.deref_mut.ensures.value c.halve.ensures.heats c.halve.ensures.halves in
    omega (arith, fits)

pub warm-requires-clause-partition : goal.warm-requires-clause-partition
warm-requires-clause-partition c =
    let a = c.self.inside in
    let seen = ap (λ (w : Warmth). length w.heats) c.self.view_is in
    let long = length-heats (halved_by a.flushes (length a.kept.items)) a.kept.items in
    omega (arith, seen, long, c.requires, a.kept.ok.0, c.deref_mut-2.ensures.len)

pub warm-requires-clause-room : goal.warm-requires-clause-room
warm-requires-clause-room c =
    let a = c.self.inside in
    let seen = ap (λ (w : Warmth). length w.heats) c.self.view_is in
    let long = length-heats (halved_by a.flushes (length a.kept.items)) a.kept.items in
    room-left a.kept.items c.deref_mut.result.now c.halve.new.kept c.deref_mut-2.result.now a.flushes c.len.result c.halved-first.result c.halved-end.result a.warmth a.halves c.args.partition c.self.invariant (c.len.ensures ∙ a.kept.ok.0) c.halved-first.ensures c.deref_mut.ensures.value
    (c.deref_mut-2.ensures.value ∙ written c.halve.new.kept a.kept.items a.kept.len (omega (arith, c.halve.ensures.count, c.deref_mut.ensures.len)))
    c.halve.ensures.count c.halve.ensures.heats (omega (arith, seen, long, c.requires))

pub overflow_add-self-3 : goal.overflow_add-self-3
overflow_add-self-3 c =
    let a = c.self.inside in
    let fits = halves-fit a.kept.items c.deref_mut.result.now c.halve.new.kept a.flushes c.len.result c.halved-first.result c.halved-end.result a.warmth a.halves c.halve.result c.self.invariant (c.len.ensures ∙ a.kept.ok.0) c.halved-first.ensures c.deref_mut.ensures.value c.halve.ensures.heats c.halve.ensures.halves in
    omega (arith, fits, c.warm.ensures.one)

pub invariant_of-self : goal.invariant_of-self
invariant_of-self c =
    let a = c.self.inside in
    let seen = ap (λ (w : Warmth). length w.heats) c.self.view_is in
    let long = length-heats (halved_by a.flushes (length a.kept.items)) a.kept.items in
    let one : List ℕ = take a.kept.len (c.halve.new.kept ++ drop (length c.halve.new.kept) a.kept.items) in
    let is_one : one ≡ c.halve.new.kept = written c.halve.new.kept a.kept.items a.kept.len (omega (arith, c.halve.ensures.count, c.deref_mut.ensures.len)) in
    let step : Stepped a.kept.items c.warm.new.kept a.flushes c.halved-end.result c.halve.result c.warm.result c.args.partition = stepped a.kept.items c.deref_mut.result.now c.halve.new.kept c.deref_mut-2.result.now c.warm.new.kept a.flushes c.len.result c.halved-first.result c.halved-end.result c.halve.result c.warm.result c.args.partition (c.len.ensures ∙ a.kept.ok.0) (omega (arith, seen, long, c.requires)) c.halved-first.ensures (omega (arith, c.halved-end.ensures, c.len.ensures, c.len-2.ensures)) c.deref_mut.ensures.value (c.deref_mut-2.ensures.value ∙ is_one) c.halve.ensures.count c.halve.ensures.heats c.halve.ensures.halves c.warm.ensures.count c.warm.ensures.heats c.warm.ensures.halves in
    let is_two = written c.warm.new.kept one a.kept.len (omega (arith, step.long, a.kept.ok.0)) in
    subst (λ (xs : List ℕ). AreKept xs 0 (a.halves + c.halve.result + c.warm.result) 0) (sym is_two) (kept-anew a.kept.items c.warm.new.kept a.flushes c.halved-end.result a.warmth a.halves c.halve.result c.warm.result c.args.partition c.self.invariant step c.if-self-eq-HALVING.true)

pub returns-then-self-eq-HALVING : goal.returns-then-self-eq-HALVING
returns-then-self-eq-HALVING c =
    let a = c.self.inside in
    let seen = ap (λ (w : Warmth). length w.heats) c.self.view_is in
    let long = length-heats (halved_by a.flushes (length a.kept.items)) a.kept.items in
    let one : List ℕ = take a.kept.len (c.halve.new.kept ++ drop (length c.halve.new.kept) a.kept.items) in
    let is_one : one ≡ c.halve.new.kept = written c.halve.new.kept a.kept.items a.kept.len (omega (arith, c.halve.ensures.count, c.deref_mut.ensures.len)) in
    let step : Stepped a.kept.items c.warm.new.kept a.flushes c.halved-end.result c.halve.result c.warm.result c.args.partition = stepped a.kept.items c.deref_mut.result.now c.halve.new.kept c.deref_mut-2.result.now c.warm.new.kept a.flushes c.len.result c.halved-first.result c.halved-end.result c.halve.result c.warm.result c.args.partition (c.len.ensures ∙ a.kept.ok.0) (omega (arith, seen, long, c.requires)) c.halved-first.ensures (omega (arith, c.halved-end.ensures, c.len.ensures, c.len-2.ensures)) c.deref_mut.ensures.value (c.deref_mut-2.ensures.value ∙ is_one) c.halve.ensures.count c.halve.ensures.heats c.halve.ensures.halves c.warm.ensures.count c.warm.ensures.heats c.warm.ensures.halves in
    let is_two = written c.warm.new.kept one a.kept.len (omega (arith, step.long, a.kept.ok.0)) in
    noted-anew c.args.self.now a.kept.items c.warm.new.kept _ a.flushes c.halved-end.result a.warmth a.halves c.halve.result c.warm.result c.args.partition c.self.invariant step c.if-self-eq-HALVING.true c.self.view_is is_two

pub overflow_add-self : goal.overflow_add-self
overflow_add-self c = since-fits c.self.inside.kept.items c.self.inside.flushes c.self.inside.warmth c.self.inside.halves c.self.invariant

pub halve-requires-clause-order : goal.halve-requires-clause-order
halve-requires-clause-order c = halved-more c.self.inside.flushes c.len.result c.len-2.result c.halved-first.result c.halved-end.result c.halved-first.ensures c.halved-end.ensures (c.len.ensures ∙ sym c.len-2.ensures)

pub halve-requires-clause-end : goal.halve-requires-clause-end
halve-requires-clause-end c = halved-within (c.self.inside.flushes + 1) c.len-2.result (length c.deref_mut.result.now) c.halved-end.result c.halved-end.ensures (c.len-2.ensures ∙ sym c.deref_mut.ensures.len)

pub halve-requires-clause-few : goal.halve-requires-clause-few
halve-requires-clause-few c = heats-fit c.self.inside.kept.items c.deref_mut.result.now c.self.inside.flushes c.len.result c.halved-first.result c.self.inside.warmth c.self.inside.halves c.self.invariant (c.len.ensures ∙ c.self.inside.kept.ok.0) c.halved-first.ensures c.deref_mut.ensures.value

pub overflow_add-self-4 : goal.overflow_add-self-4
overflow_add-self-4 c = warmth-fits c.self.inside.kept.items c.self.inside.flushes c.self.inside.warmth c.self.inside.halves c.self.invariant

pub invariant_of-self-else-self-eq-HALVING : goal.invariant_of-self-else-self-eq-HALVING
invariant_of-self-else-self-eq-HALVING c =
    let a = c.self.inside in
    let seen = ap (λ (w : Warmth). length w.heats) c.self.view_is in
    let long = length-heats (halved_by a.flushes (length a.kept.items)) a.kept.items in
    let one : List ℕ = take a.kept.len (c.halve.new.kept ++ drop (length c.halve.new.kept) a.kept.items) in
    let is_one : one ≡ c.halve.new.kept = written c.halve.new.kept a.kept.items a.kept.len (omega (arith, c.halve.ensures.count, c.deref_mut.ensures.len)) in
    let step : Stepped a.kept.items c.warm.new.kept a.flushes c.halved-end.result c.halve.result c.warm.result c.args.partition = stepped a.kept.items c.deref_mut.result.now c.halve.new.kept c.deref_mut-2.result.now c.warm.new.kept a.flushes c.len.result c.halved-first.result c.halved-end.result c.halve.result c.warm.result c.args.partition (c.len.ensures ∙ a.kept.ok.0) (omega (arith, seen, long, c.requires)) c.halved-first.ensures (omega (arith, c.halved-end.ensures, c.len.ensures, c.len-2.ensures)) c.deref_mut.ensures.value (c.deref_mut-2.ensures.value ∙ is_one) c.halve.ensures.count c.halve.ensures.heats c.halve.ensures.halves c.warm.ensures.count c.warm.ensures.heats c.warm.ensures.halves in
    let is_two = written c.warm.new.kept one a.kept.len (omega (arith, step.long, a.kept.ok.0)) in
    kept-on a.kept.items c.warm.new.kept _ a.flushes c.halved-end.result a.warmth a.halves c.halve.result c.warm.result c.args.partition c.self.invariant step c.if-self-eq-HALVING.false is_two

pub returns-else-self-eq-HALVING : goal.returns-else-self-eq-HALVING
returns-else-self-eq-HALVING c =
    let a = c.self.inside in
    let seen = ap (λ (w : Warmth). length w.heats) c.self.view_is in
    let long = length-heats (halved_by a.flushes (length a.kept.items)) a.kept.items in
    let one : List ℕ = take a.kept.len (c.halve.new.kept ++ drop (length c.halve.new.kept) a.kept.items) in
    let is_one : one ≡ c.halve.new.kept = written c.halve.new.kept a.kept.items a.kept.len (omega (arith, c.halve.ensures.count, c.deref_mut.ensures.len)) in
    let step : Stepped a.kept.items c.warm.new.kept a.flushes c.halved-end.result c.halve.result c.warm.result c.args.partition = stepped a.kept.items c.deref_mut.result.now c.halve.new.kept c.deref_mut-2.result.now c.warm.new.kept a.flushes c.len.result c.halved-first.result c.halved-end.result c.halve.result c.warm.result c.args.partition (c.len.ensures ∙ a.kept.ok.0) (omega (arith, seen, long, c.requires)) c.halved-first.ensures (omega (arith, c.halved-end.ensures, c.len.ensures, c.len-2.ensures)) c.deref_mut.ensures.value (c.deref_mut-2.ensures.value ∙ is_one) c.halve.ensures.count c.halve.ensures.heats c.halve.ensures.halves c.warm.ensures.count c.warm.ensures.heats c.warm.ensures.halves in
    let is_two = written c.warm.new.kept one a.kept.len (omega (arith, step.long, a.kept.ok.0)) in
    noted-on c.args.self.now a.kept.items c.warm.new.kept _ a.flushes c.halved-end.result c.halve.result c.warm.result c.args.partition step c.if-self-eq-HALVING.false c.self.view_is is_two

use Rattle.std.proofs.Common.{ap, drop, ◌+◌, inl, refl, subst}
use Rattle.envy_io.specs.Asking.{BeginsWith}
use Rattle.envy_io.specs.Taking.{Taking}
use Rattle.envy_io.proofs.Gives.{line-fits, line-first, line-inside, line-small, open-fits}
use Rattle.envy_io.proofs.lines.Lines.give.Goals as goal

pub append-requires : goal.append-requires
append-requires c =
    let begins = subst (BeginsWith c.args.self.now.held) c.in-Line.is c.requires.begins in
    line-fits _ _ _ c.requires.empty begins.0

pub overflow_add-self : goal.overflow_add-self
overflow_add-self c =
    let begins = subst (BeginsWith c.args.self.now.held) c.in-Line.is c.requires.begins in
    line-small _ begins.0

pub invariant_of-self : goal.invariant_of-self
invariant_of-self c =
    let begins = subst (BeginsWith c.args.self.now.held) c.in-Line.is c.requires.begins in
    (line-inside _ _ _ _ (ap (λ (t : Taking). t.held) c.self.view_is) begins, c.self.invariant.1, c.self.invariant.2, c.self.invariant.3)

pub returns-in-Line-clause-same : goal.returns-in-Line-clause-same
returns-in-Line-clause-same c = ap (λ (t : Taking). record t { held = drop (c.self.inside.given + (c.in-Line.length + 1)) c.self.inside.buffer.items }) c.self.view_is

pub returns-in-Line-clause-answers : goal.returns-in-Line-clause-answers
returns-in-Line-clause-answers c =
    let begins = subst (BeginsWith c.args.self.now.held) c.in-Line.is c.requires.begins in
    let first = line-first _ _ _ _ c.self.inside.buffer.items c.self.inside.given c.in-Line.length c.append.ensures c.requires.empty c.held.ensures (ap (λ (t : Taking). t.held) c.self.view_is) begins in
    λ _ _. (first.0, first.1, inl (record { split = first.2 }))

pub returns-in-Open-3-clause-same : goal.returns-in-Open-3-clause-same
returns-in-Open-3-clause-same c = ap (λ (t : Taking). record t { held = drop c.len-self-inside.result c.self.inside.buffer.items }) c.self.view_is

pub returns-in-Long-clause-answers : goal.returns-in-Long-clause-answers
returns-in-Long-clause-answers c =
    let begins = subst (BeginsWith c.args.self.now.held) c.in-Long.is c.requires.begins in
    λ _ _. (record { none = c.requires.empty; held = refl }, begins.0, begins.1)

pub append-requires-in-Open-3 : goal.append-requires-in-Open-3
append-requires-in-Open-3 c =
    let is = subst (BeginsWith c.args.self.now.held) c.in-Open.is c.requires.begins in
    open-fits _ _ _ c.requires.empty c.held-in-Open-3.ensures is

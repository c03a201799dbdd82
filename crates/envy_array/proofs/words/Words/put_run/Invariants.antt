use Rattle.std.proofs.Common.{◌≡◌, ◌/◌, IsTrue}
use Rattle.envy_array.specs.Words.{OnPage, Spends, pasted}
use Rattle.envy_array.proofs.words.Words.put_run.Given as goal

abbrev pub invariant-loop-i : goal.invariant-loop-i
invariant-loop-i g l = record {
  words : (g.Self.Words.sheet l.self).words ≡ pasted l.a l.list l.i (g.Self.Words.sheet l.initial.self).words;
  page : OnPage (l.a / 32) (g.Self.Words.sheet l.initial.self) (g.Self.Words.sheet l.self);
  spends : Spends l.i (g.Self.Words.sheet l.initial.self) (g.Self.Words.sheet l.self);
  begun : IsTrue (g.Self.Words.sheet l.self).started;
}

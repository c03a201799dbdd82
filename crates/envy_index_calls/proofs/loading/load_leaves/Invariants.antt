use Rattle.std.proofs.Common.{◌≡◌, ◌-◌, false, IsTrue, length}
use Rattle.envy_array.specs.Words.{Keeps, Spends}
use Rattle.envy_index_calls.specs.Loading.{IsLoaded, leaf_puts}
use Rattle.envy_index_calls.specs.Scanned.{pairs_in}
use Rattle.envy_index_calls.proofs.loading.load_leaves.Given as goal

abbrev pub invariant-loop-done : goal.invariant-loop-done
invariant-loop-done g l = record {
  on : IsTrue (g.W.Words.sheet l.words).on;
  shut : (g.W.Words.sheet l.words).started ≡ false;
  keeps : Keeps (g.W.Words.sheet l.initial.words) (g.W.Words.sheet l.words);
  spends : Spends (leaf_puts (length (g.W.Words.sheet l.initial.words).words) l.done) (g.W.Words.sheet l.initial.words) (g.W.Words.sheet l.words);
  loaded : IsLoaded (g.W.Words.sheet l.words).words (pairs_in l.pairs) l.done;
}

abbrev pub decreases-loop-done : goal.decreases-loop-done
decreases-loop-done g l = length l.pairs - l.done

use Rattle.std.proofs.Common.{◌≡◌, ◌∙◌, ℕ, ◌+◌, ◌<◌, List, [], ◌∷◌, ◌++◌, length, get_or, slice_index, ap, arith, below_more, length-append}
use Rattle.std.proofs.lemmas.List.{get_or_append_left, get_or_push}
use Rattle.envy_space.specs.Pool.{dead_at, dead_rows, free_at, free_rows}
use Rattle.test_choices.proofs.pooled.choose_by_lists.Goals as goal

-- one number more
more : (xs ys : List ℕ) (f : ℕ → ℕ) (i v : ℕ) → length xs ≡ i → ys ≡ xs ++ v ∷ [] → v ≡ f i → ((k : ℕ) → k < i → get_or xs k 0 ≡ f k) → (k : ℕ) → k < i + 1 → get_or ys k 0 ≡ f k
more xs ys f i v long is here below =
    below_more _ _
    (λ k lt. ap (λ (zs : List ℕ). get_or zs k 0) is ∙ get_or_append_left xs (v ∷ []) 0 k (omega arith) ∙ below k lt)
    (ap (λ (zs : List ℕ). get_or zs i 0) is ∙ get_or_push xs v 0 i long ∙ here)

long-more : (xs ys : List ℕ) (i v : ℕ) → length xs ≡ i → ys ≡ xs ++ v ∷ [] → length ys ≡ i + 1
long-more xs ys i v long is = let all = length-append xs (v ∷ []) in ap length is ∙ all ∙ omega arith

pub loop-position-preserved : goal.loop-position-preserved
loop-position-preserved c =
    let i = c.loop-position.invariant in
    let pool = c.args.space.now in
    let k = c.loop-position.position in
    let segment = c.segment_at-segment.ensures.segment in
    let free = c.in_ok-push.ensures.items in
    let dead = c.in_ok-push-2.ensures.items in
    record {
      frees_long = long-more c.loop-position.free.items c.push.new.self.items k c.free.result i.frees_long free;
      deads_long = long-more c.loop-position.dead.items c.push-in-loop-position.new.self.items k c.dead.result i.deads_long dead;
      frees = more c.loop-position.free.items c.push.new.self.items (free_at pool) k c.free.result i.frees_long free (c.free.ensures ∙ ap (free_rows pool) segment) i.frees;
      deads = more c.loop-position.dead.items c.push-in-loop-position.new.self.items (dead_at pool) k c.dead.result i.deads_long dead (c.dead.ensures ∙ ap (dead_rows pool) segment) i.deads;
    }

pub choose-requires-clause-some : goal.choose-requires-clause-some
choose-requires-clause-some c =
    let s = c.requires.some in
    let i = c.loop-position.invariant in
    let free = ap (λ (xs : List ℕ). slice_index xs s.0) c.deref.ensures.value in
    let dead = ap (λ (xs : List ℕ). slice_index xs s.0) c.deref-2.ensures.value in
    let lt = s.1 in
    let f = i.frees s.0 (omega arith) in
    let d = i.deads s.0 (omega arith) in
    let some = s.2 in
    (s.0, omega arith)

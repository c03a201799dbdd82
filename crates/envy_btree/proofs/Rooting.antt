-- What an index is at its root.
use Rattle.std.proofs.Common.{◌≡◌, ◌≢◌, ℕ, ◌-◌, ◌^◌, ◌<◌, ◌≤◌, true, List, [], get_or, length, None, ap, inl, inr, arith}
use Rattle.envy_btree.specs.Pairs.{assoc}
use Rattle.envy_btree.specs.Tree.{pairs_of}
use Rattle.envy_btree.specs.Index.{IsPlanted, Rooted}
use Rattle.envy_btree.specs.Changes.{Rests}
use Rattle.envy_btree.specs.Depths.{most_levels}
use Rattle.envy_btree.proofs.Descent.{Rests-within}
use Rattle.envy_btree.proofs.Counting.{depth-few}

pub record Roots (ws : List ℕ) (es : List (ℕ × ℕ)) (p : ℕ) : Type 0 where
  pub rests : Rests ws p 6
  pub whole : es ≡ pairs_of rests.depth rests.tree
  pub levels : rests.depth ≤ most_levels (length ws)

root-of : (ws : List ℕ) (es : List (ℕ × ℕ)) (p : ℕ) (x : IsPlanted ws es) → length ws ≤ 536870912 → p ≡ get_or ws 0 0 - 1 → get_or ws 0 0 ≢ 0 → Rooted ws x.free es → Roots ws es p
root-of ws es p x small is some (inl e) = absurd (some e.0)
root-of ws es p x small is some (inr t) = record {
  rests = record { free = x.free; heap = x.heap; root = true; low = 0; high = 2 ^ 64; depth = t.0; tree = t.1; few = omega (arith, depth-few ws x.free t.0 t.1 x.heap t.2.stands.sized t.2.all small); is = omega (arith, t.2.root); stands = t.2.stands };
  whole = t.3;
  levels = depth-few ws x.free t.0 t.1 x.heap t.2.stands.sized t.2.all small;
}

pub Root-rests : (ws : List ℕ) (es : List (ℕ × ℕ)) (p : ℕ) → IsPlanted ws es → length ws ≤ 536870912 → p ≡ get_or ws 0 0 - 1 → get_or ws 0 0 ≢ 0 → Roots ws es p
Root-rests ws es p x small is some = root-of ws es p x small is some x.tree

none-of : (ws : List ℕ) (es : List (ℕ × ℕ)) (key : ℕ) (x : IsPlanted ws es) → get_or ws 0 0 ≡ 0 → Rooted ws x.free es → assoc key es ≡ None
none-of ws es key x e (inl n) = ap (assoc key) n.1
none-of ws es key x e (inr t) = absurd (omega (arith, t.2.root))

pub Root-none : (ws : List ℕ) (es : List (ℕ × ℕ)) (key : ℕ) → IsPlanted ws es → get_or ws 0 0 ≡ 0 → assoc key es ≡ None
Root-none ws es key x e = none-of ws es key x e x.tree

empty-of : (ws : List ℕ) (es : List (ℕ × ℕ)) (x : IsPlanted ws es) → get_or ws 0 0 ≡ 0 → Rooted ws x.free es → es ≡ []
empty-of ws es x e (inl n) = n.1
empty-of ws es x e (inr t) = absurd (omega (arith, t.2.root))

-- a map without a root has no pair
pub Root-empty : (ws : List ℕ) (es : List (ℕ × ℕ)) → IsPlanted ws es → get_or ws 0 0 ≡ 0 → es ≡ []
Root-empty ws es x e = empty-of ws es x e x.tree

pub root-fits : (ws : List ℕ) (es : List (ℕ × ℕ)) (p : ℕ) → length ws < 2 ^ 32 → Roots ws es p → p < 2 ^ 32
root-fits ws es p few r = let w = Rests-within ws p 6 r.rests in omega (arith, w.0)

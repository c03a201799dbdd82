-- Small maps, word by word.
use Rattle.std.proofs.Common.{ℕ, zero, suc, ◌+◌, ◌^◌, ◌≤◌, false, [], ◌∷◌, refl, inr, arith, lit≤, lit<}
use Rattle.std.specs.List.{All}
use Rattle.std.proofs.lemmas.Bool.Decides.{nat_tests}
use Rattle.std.proofs.lemmas.List.Elements.{All-cons, All-nil}
use Rattle.envy_btree.specs.Tree.{Tree, Rising, Sized, Holds}
use Rattle.envy_btree.specs.Index.{IsIndex}
use Rattle.envy_btree.specs.Examples.{one_leaf, row_of, two_levels}

pub leaf-example : IsIndex (one_leaf 1 (5 ∷ []) (50 ∷ [])) ((5, 50) ∷ [])
leaf-example = record {
  planted = record {
    free = [];
    heap = record { size = lit≤ tt; used = lit≤ tt; chain = refl; once = λ p. omega arith };
    tree = inr (
      zero,
      record { piece = 0; pairs = (5, 50) ∷ [] },
      record {
        root = refl;
        stands = record {
          holds = record { count = refl; front = refl; back = refl };
          ordered = (lit≤ tt, lit< tt, lit≤ tt);
          sized = (lit≤ tt, lit≤ tt);
          owned = λ q. grind (arith, nat_tests);
        };
        all = λ q. grind (arith, nat_tests);
      },
      refl,
    );
  };
  count = refl;
  few = lit≤ tt;
}

Rising-row : (n first low high : ℕ) → low ≤ first → first + n ≤ high → Rising low high (row_of first n)
Rising-row zero first low high a b = omega arith
Rising-row (suc n) first low high a b = (a, omega arith, Rising-row n (first + 1) (first + 1) high (omega arith) (omega arith))

abbrev front : Tree 0
front = record { piece = 0; pairs = row_of 0 15 }

abbrev rear : Tree 0
rear = record { piece = 1; pairs = row_of 15 15 }

abbrev levels-tree : Tree 1
levels-tree = record { piece = 2; keys = 15 ∷ []; kids = front ∷ rear ∷ [] }

both : (P : Tree 0 → Type 0) → P front → P rear → All P (front ∷ rear ∷ [])
both P a b = All-cons P front (rear ∷ []) a (All-cons P rear [] b (All-nil P))

pub levels-example : IsIndex (two_levels 15 15) (row_of 0 30)
levels-example = record {
  planted = record {
    free = [];
    heap = record { size = lit≤ tt; used = lit≤ tt; chain = refl; once = λ p. omega arith };
    tree = inr (
      1,
      levels-tree,
      record {
        root = refl;
        stands = record {
          holds = (
            record { count = refl; front = refl; back = refl },
            both (Holds (two_levels 15 15) 0) (record { count = refl; front = refl; back = refl }) (record { count = refl; front = refl; back = refl }),
          );
          ordered = (lit< tt, lit< tt, Rising-row 15 0 0 15 (lit≤ tt) (lit≤ tt), Rising-row 15 15 15 (2 ^ 64) (lit≤ tt) (lit≤ tt));
          sized = (lit≤ tt, lit≤ tt, both (Sized false 0) (lit≤ tt, lit≤ tt) (lit≤ tt, lit≤ tt));
          owned = λ q. grind (arith, nat_tests);
        };
        all = λ q. grind (arith, nat_tests);
      },
      refl,
    );
  };
  count = refl;
  few = lit≤ tt;
}

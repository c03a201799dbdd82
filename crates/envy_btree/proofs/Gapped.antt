-- Work on the pages of a node whose lists open or close.
use Rattle.std.proofs.Common.{◌≡◌, ℕ, ◌+◌, ◌/◌, ◌%◌, ◌≤◌, IsTrue, sym, subst, arith}
use Rattle.envy_array.specs.Words.{Sheet, Works, OnPage, Spends, has}
use Rattle.envy_array.proofs.Working.{Works-trans, Spends-trans, Spends-more, was_on}

pub page-at : (a i n : ℕ) → i ≤ n → a % 32 + (n + 1) ≤ 32 → (a + i) / 32 ≡ a / 32
page-at a i n le page = omega arith

-- a page that was put before
pub page-again : (a p q : ℕ) (x y z : Sheet) → p ≡ q → Works 0 x y → OnPage p y z → IsTrue z.on → IsTrue (has x.pages q) → Works 0 x z
page-again a p q x y z e v w on h = Works-trans 0 0 x y z v (w.again (v.seen (was_on 1 y z w.works on) p (subst (λ r. IsTrue (has x.pages r)) (sym e) h)))

pub spends-list : (m n : ℕ) (x y z : Sheet) → m ≤ n → Spends 0 x y → Spends m y z → Spends n x z
spends-list m n x y z le s t = Spends-more (0 + m) n x z (omega arith) (Spends-trans 0 m x y z s t)

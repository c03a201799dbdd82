-- What a load leaves: work on any page, an open transaction, the words of the first pages.
use Rattle.std.proofs.Common.{◌≡◌, ◌+◌, ◌<◌, ◌≤◌, ℕ, IsTrue, Result, length, arith, subst, sym}
use Rattle.envy_base.specs.declared.board.Off.{Off}
use Rattle.envy_array.specs.Words.{Sheet, Works, OnPage, Loads}
use Rattle.envy_array.proofs.Working.{load_then_put, OnPage-refl}

pub loaded : (p a : ℕ) (r : Result ℕ Off) (x y : Sheet) → Works 0 x y → Loads x a r y → OnPage p x y
loaded p a r x y w l = load_then_put p a r x y y w l (OnPage-refl p y)

pub begun_still : (k : ℕ) (x y : Sheet) → IsTrue y.on → Works k x y → IsTrue x.started → IsTrue y.started
begun_still k x y on w begun = subst (λ b. IsTrue b) (sym (w.still on)) begun

pub word_of_first : (n long old : ℕ) → n < 640 → long ≡ old → 640 ≤ old → n < long
word_of_first n long old few same size = omega (arith, few, same, size)

pub fewer : (n room : ℕ) → n + 2 ≤ room → n + 1 ≤ room
fewer n room le = omega (arith, le)

pub room_left : (k : ℕ) (x y : Sheet) → Works k x y → IsTrue y.on → length x.pages + (k + 1) ≤ x.room → length y.pages < y.room
room_left k x y w on room = omega (arith, w.few on, w.room, room)

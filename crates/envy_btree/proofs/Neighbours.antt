-- Two children beside each other, one of them in hand, that are mended.
use Rattle.std.proofs.Common.{◌≡◌, ℕ, ◌+◌, ◌^◌, ◌<◌, ◌≤◌, Bool, true, false, List, length, get_or, set, Result, OnOk, inr, refl, ap, ap₂, sym, subst, ◌∙◌, eqb, arith, Fits, w32, w64}
use Rattle.std.specs.List.{remove}
use Rattle.std.proofs.lemmas.List.{length-set}
use Rattle.std.proofs.lemmas.List.Edits.{length-remove}
use Rattle.envy_base.specs.declared.board.Trouble.{Trouble}
use Rattle.envy_heap.specs.Pieces.{IsHeap, head, at, one}
use Rattle.envy_heap.proofs.Heaps.{one-le}
use Rattle.envy_btree.specs.Nodes.{IsRead, Halves}
use Rattle.envy_btree.specs.Changes.{Beside, HasPair, IsShort, Mended, joined_keys}
use Rattle.envy_btree.proofs.Descent.{owned-within, read-shows}

-- both have pieces within the words
pub first-slot : (ws : List ℕ) (j : ℕ) (ks ss : List ℕ) → HasPair ws j ks ss → j < length ss
first-slot ws j ks ss h = omega (arith, h.place, h.long)

pub second-slot : (ws : List ℕ) (j : ℕ) (ks ss : List ℕ) → HasPair ws j ks ss → j + 1 < length ss
second-slot ws j ks ss h = omega (arith, h.place, h.long)

pub first-within : (ws : List ℕ) (j p : ℕ) (ks ss : List ℕ) → HasPair ws j ks ss → p ≡ get_or ss j 0 → at p 63 < length ws
first-within ws j p ks ss h is = subst (λ x. at x 63 < length ws) (sym is) (owned-within ws h.pair.free (get_or ss j 0) h.pair.heap (omega (arith, h.pair.first))).0

pub second-within : (ws : List ℕ) (j p : ℕ) (ks ss : List ℕ) → HasPair ws j ks ss → p ≡ get_or ss (j + 1) 0 → at p 63 < length ws
second-within ws j p ks ss h is = subst (λ x. at x 63 < length ws) (sym is) (owned-within ws h.pair.free (get_or ss (j + 1) 0) h.pair.heap (omega (arith, h.pair.second))).0

pub piece-fits : (ws : List ℕ) (p : ℕ) → at p 63 < length ws → length ws < 2 ^ 32 → Fits w32 p
piece-fits ws p within few = omega arith

-- the one that isn't in hand can be read
pub beside-few : (ws : List ℕ) (p q : ℕ) (inner : Bool) → Beside ws q inner → p ≡ q → get_or ws (head p) 0 < 64
beside-few ws p q inner b is = subst (λ x. get_or ws (head x) 0 < 64) (sym is) (omega (arith, b.shows.count, b.few, one-le inner))

one-inner : (b : Bool) → eqb (one b) 1 ≡ b
one-inner true = refl
one-inner false = refl

pub beside-read : (ws : List ℕ) (p q : ℕ) (child inner : Bool) (ks ss : List ℕ) (b : Beside ws q child) → p ≡ q → IsRead ws p inner ks ss → (inner ≡ child) × (ks ≡ b.keys) × (ss ≡ b.slots)
beside-read ws p q child inner ks ss b is r =
    let read = read-shows ws q (one child) b.keys b.slots ks ss inner b.shows (one-le child) b.long (subst (λ x. IsRead ws x inner ks ss) is r) in
    (read.2 ∙ one-inner child, read.0, read.1)

-- both have few keys
pub few-both : (ws : List ℕ) (q : ℕ) (child : Bool) (ks mine mine_slots : List ℕ) (h : IsShort ws q child mine mine_slots) → ks ≡ h.beside.keys → length ks + length mine ≤ 45
few-both ws q child ks mine mine_slots h is = omega (arith, ap length is, h.beside.few, h.few)

pub both-few : (ws : List ℕ) (q : ℕ) (child : Bool) (ks mine mine_slots : List ℕ) (h : IsShort ws q child mine mine_slots) → ks ≡ h.beside.keys → length mine + length ks ≤ 45
both-few ws q child ks mine mine_slots h is = omega (arith, ap length is, h.beside.few, h.few)

pub joined-few : (n m k : ℕ) → n + m ≤ 45 → k ≤ n + m + 1 → k ≤ 46
joined-few n m k few most = omega arith

pub slots-one : (child inner : Bool) (keys slots ks ss : List ℕ) → length slots ≡ length keys + one child → inner ≡ child → ks ≡ keys → ss ≡ slots → length ss ≡ length ks + one inner
slots-one child inner keys slots ks ss long is front back = ap length back ∙ long ∙ ap₂ (λ x y. length x + one y) (sym front) (sym is)

-- what the writing mended, said of the words before the reading
pub mended-read : (old mid new free : List ℕ) (j : ℕ) (keys slots : List ℕ) (inner child : Bool) (joined one joined_slots one_slots after after_slots : List ℕ) (r : Result Unit Trouble) → mid ≡ old → inner ≡ child → joined ≡ one → joined_slots ≡ one_slots → IsHeap old free
    → ((f : List ℕ) → IsHeap mid f → OnOk r (Mended mid new f j keys slots inner joined joined_slots after after_slots))
    → OnOk r (Mended old new free j keys slots child one one_slots after after_slots)
mended-read old mid new free j keys slots inner child joined one joined_slots one_slots after after_slots r same is front back heap f =
    subst (λ x. OnOk r (Mended old new free j keys slots child one x after after_slots)) back
    (subst (λ x. OnOk r (Mended old new free j keys slots child x joined_slots after after_slots)) front
    (subst (λ x. OnOk r (Mended old new free j keys slots x joined joined_slots after after_slots)) is
    (subst (λ w. (g : List ℕ) → IsHeap w g → OnOk r (Mended w new g j keys slots inner joined joined_slots after after_slots)) same f free heap)))

pub joined-is : (child inner : Bool) (a b : List ℕ) (n m : ℕ) (c d : List ℕ) → inner ≡ child → a ≡ b → n ≡ m → c ≡ d → joined_keys inner a n c ≡ joined_keys child b m d
joined-is child inner a b n m c d is front middle back =
    subst (λ x. joined_keys inner a n c ≡ joined_keys x b m d) is (subst (λ x. joined_keys inner a n c ≡ joined_keys inner x m d) front (subst (λ x. joined_keys inner a n c ≡ joined_keys inner a x d) middle (ap (joined_keys inner a n) back)))

-- what is in hand as one is written as one or as two
pub next-fits : (ws : List ℕ) (j : ℕ) (ks ss : List ℕ) → HasPair ws j ks ss → Fits w64 (j + 1)
next-fits ws j ks ss h = omega (arith, h.place, h.many)

pub keys-many : (n : ℕ) (ks : List ℕ) → n ≡ length ks → 31 < n → 32 ≤ length ks
keys-many n ks is many = omega arith

pub keys-few : (n : ℕ) (ks xs : List ℕ) → n ≡ length ks → n ≤ 31 → xs ≡ ks → length xs ≤ 31
keys-few n ks xs is few same = omega (arith, ap length same)

pub slots-few : (n : ℕ) (ks ss xs : List ℕ) (inner : Bool) → length ss ≡ length ks + one inner → n ≡ length ks → n ≤ 31 → xs ≡ ss → length xs ≤ 32
slots-few n ks ss xs inner long is few same = omega (arith, ap length same, one-le inner)

-- the lists of the node above, with another key, or with a key and a child less
pub set-few : (xs ys : List ℕ) (i v : ℕ) → ys ≡ set xs i v → length ys ≤ length xs
set-few xs ys i v is = omega (arith, ap length is, length-set xs i v)

pub set-long : (ks ss xs ys : List ℕ) (i v : ℕ) → length ss ≡ length ks + 1 → xs ≡ set ks i v → ys ≡ ss → length ys ≡ length xs + 1
set-long ks ss xs ys i v long is same = omega (arith, ap length is, ap length same, length-set ks i v)

pub remove-few : (xs ys : List ℕ) (i : ℕ) → i < length xs → ys ≡ remove xs i → length ys ≤ length xs
remove-few xs ys i lt is = omega (arith, ap length is, length-remove xs i lt)

pub remove-long : (ks ss xs ys : List ℕ) (i : ℕ) → i < length ks → length ss ≡ length ks + 1 → xs ≡ remove ks i → ys ≡ remove ss (i + 1) → length ys ≡ length xs + 1
remove-long ks ss xs ys i lt long front back = omega (arith, ap length front, ap length back, length-remove ks i lt, length-remove ss (i + 1) (omega arith))

pub mended-two : (old new free : List ℕ) (j p q key : ℕ) (keys slots : List ℕ) (inner : Bool) (joined joined_slots after after_slots : List ℕ) → p ≡ get_or slots j 0 → q ≡ get_or slots (j + 1) 0 → 32 ≤ length joined
    → Halves old new p q (one inner) key joined joined_slots → after ≡ set keys j key → after_slots ≡ slots → Mended old new free j keys slots inner joined joined_slots after after_slots
mended-two old new free j p q key keys slots inner joined joined_slots after after_slots is_p is_q many h front back = inr (record {
  many = many;
  key = key;
  halves = subst (λ x. Halves old new x (get_or slots (j + 1) 0) (one inner) key joined joined_slots) is_p (subst (λ x. Halves old new p x (one inner) key joined joined_slots) is_q h);
  front = front;
  back = back;
})

-- the node above is written back
pub above-few : (n k : ℕ) → k ≤ n → n ≤ 31 → k ≤ 31
above-few n k less few = omega arith

pub above-slots : (n k m : ℕ) → k ≤ n → n ≤ 31 → m ≡ k + 1 → m ≤ 32
above-slots n k m less few long = omega arith

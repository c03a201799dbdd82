-- What stands where a `?` hands on a failure, and what work leaves for the work after it.
use Rattle.std.proofs.Common.{◌≡◌, ◌⊎◌, ℕ, suc, ◌+◌, ◌-◌, ◌*◌, ◌/◌, ◌%◌, ◌^◌, ◌<◌, ◌≤◌, Bool, false, IsTrue, length, Result, Ok, Err, IfOk, IsErrAnd, MatchResult, sym, subst, inr, arith, Fits, w32}
use Rattle.envy_base.specs.declared.board.Trouble.{Trouble}
use Rattle.envy_base.specs.declared.board.Trouble.TheVariants.{Off, Bad}
use Rattle.envy_array.specs.Words.{Sheet, Works, OnPage, Fails, Puts, has}
use Rattle.envy_array.proofs.Working.{Works-trans, Works-more, OnPage-trans}
use Rattle.envy_heap.specs.Pieces.{head, at}
use Rattle.envy_btree.proofs.Keeping.{rose-high}

-- the clause of a value, where there is none
pub none-if : {T E : Type 0} (r : Result T E) (Q : E → Type 0) (P : T → Type 0) → IsErrAnd r Q → IfOk r P
none-if (Ok x) Q P h = absurd h
none-if (Err e) Q P h = tt

-- a failure, handed on as it is
pub err-fails : {T : Type 0} (A : Type 0) (a b : Sheet) (r : Result T Trouble) (e : Trouble) → Fails {T = A} a (Err e) b → IsErrAnd r (λ x. x ≡ e) → Fails a r b
err-fails A a b (Ok x) e f h = absurd h
err-fails {T = T} A a b (Err x) Off f h = subst (λ z. Fails {T = T} a (Err z) b) (sym h) f
err-fails {T = T} A a b (Err x) Bad f h = subst (λ z. Fails {T = T} a (Err z) b) (sym h) f

-- that of a put
pub put-fails : {T : Type 0} (i w : ℕ) (a b : Sheet) (r : Result T Trouble) (e : Trouble) → Puts a i w (Err e) b → IsErrAnd r (λ x. x ≡ e) → Fails a r b
put-fails i w a b (Ok x) e f h = absurd h
put-fails {T = T} i w a b (Err x) Off f h = subst (λ z. Fails {T = T} a (Err z) b) (sym h) f
put-fails {T = T} i w a b (Err x) Bad f h = subst (λ z. Fails {T = T} a (Err z) b) (sym h) (f.0, f.3)

-- a failure after work
pub fails-after : {T : Type 0} (j k : ℕ) (a b c : Sheet) (r : Result T Trouble) → Works j a b → Works k b c → Fails b r c → Fails a r c
fails-after j k a b c (Ok x) v w f = f
fails-after j k a b c (Err Off) v w f = f
fails-after j k a b c (Err Bad) v w f = (f.0, rose-high a.bads b.bads c.bads v.bads w.bads f.1)

-- pages that work leaves for more
pub room-left : (j k : ℕ) (a b : Sheet) → Works j a b → IsTrue b.on → length a.pages + (j + k) ≤ a.room → length b.pages + k ≤ b.room
room-left j k a b w on room = omega (arith, w.few on, w.room)

pub page-works : (k p : ℕ) (a b : Sheet) → OnPage p a b → Works (suc k) a b
page-works k p a b o = Works-more 1 (suc k) a b (omega arith) o.works

-- a node is written on two pages, its count and its keys on the first, its slots on the second
pub first-page : (p : ℕ) (a b c : Sheet) → OnPage (head p / 32) a b → OnPage (at p 1 / 32) b c → OnPage (head p / 32) a c
first-page p a b c v w =
    let same : at p 1 / 32 ≡ head p / 32 = omega arith in
    OnPage-trans (head p / 32) a b c v (subst (λ x. OnPage x b c) same w)

pub two-pages : (p : ℕ) (a b c d : Sheet) → OnPage (head p / 32) a b → OnPage (at p 1 / 32) b c → OnPage (at p 32 / 32) c d → Works 2 a d
two-pages p a b c d u v w = Works-trans 1 1 a c d (OnPage.works (first-page p a b c u v)) w.works

pub put-room : (p k : ℕ) (s : Sheet) → length s.pages + suc k ≤ s.room → IsTrue (has s.pages p) ⊎ (length s.pages < s.room)
put-room p k s room = inr (omega arith)

-- its words lie within the words
pub head-within : (p n : ℕ) → at p 63 < n → head p < n
head-within p n within = omega arith

pub keys-within : (p k n : ℕ) (a b : Sheet) → Works k a b → at p 63 < length a.words → n ≤ 31 → at p 1 + n ≤ length b.words
keys-within p k n a b w within few = omega (arith, w.long)

pub slots-within : (p k n : ℕ) (a b : Sheet) → Works k a b → at p 63 < length a.words → n ≤ 32 → at p 32 + n ≤ length b.words
slots-within p k n a b w within few = omega (arith, w.long)

pub keys-page : (p n : ℕ) → n ≤ 31 → at p 1 % 32 + n ≤ 32
keys-page p n few = omega arith

pub slots-page : (p n : ℕ) → n ≤ 32 → at p 32 % 32 + n ≤ 32
slots-page p n few = omega arith

-- the failure of a read
pub off-fails : {T : Type 0} (a b : Sheet) (r : Result T Trouble) → IsErrAnd r (λ e. e ≡ Off) → b.on ≡ false → Fails a r b
off-fails a b (Ok x) h off = absurd h
off-fails {T = T} a b (Err x) h off = subst (λ z. Fails {T = T} a (Err z) b) (sym h) off

pub same-few : (n : ℕ) → n ≤ n
same-few n = omega arith

pub room-less : (j k n r : ℕ) → n + (j + k) ≤ r → n + j ≤ r
room-less j k n r room = omega arith

pub more-works : (j k : ℕ) (a b : Sheet) → Works j a b → Works (j + k) a b
more-works j k a b w = Works-more j (j + k) a b (omega arith) w

-- power, where a `?` hands on that it is off
pub err-power : {T E : Type 0} (r : Result T E) (Q : E → Type 0) (b : Bool) → b ≡ false → IsErrAnd r Q → MatchResult r (λ _. IsTrue b) (λ _. b ≡ false)
err-power (Ok x) Q b off h = absurd h
err-power (Err e) Q b off h = off

pub third-in : (n : ℕ) → 640 ≤ n → 3 < n
third-in n size = omega arith

-- work on the levels below, and at the node after it
pub no-works : (k : ℕ) (a b : Sheet) → Works 0 a b → Works k a b
no-works k a b w = Works-more 0 k a b (omega arith) w

pub leaf-works : (k l : ℕ) (a b c : Sheet) → Works 0 a b → Works k b c → Works (4 * l + k) a c
leaf-works k l a b c v w = Works-more (0 + k) (4 * l + k) a c (omega arith) (Works-trans 0 k a b c v w)

pub deep-works : (k l : ℕ) (a b c : Sheet) → Works 0 a b → Works (4 * (l - 1) + k) b c → Works (4 * l + k) a c
deep-works k l a b c v w = Works-more (0 + (4 * (l - 1) + k)) (4 * l + k) a c (omega arith) (Works-trans 0 (4 * (l - 1) + k) a b c v w)

pub room-deep : (k l : ℕ) (a b : Sheet) → Works 0 a b → IsTrue b.on → length a.pages + (4 * l + k) ≤ a.room → length b.pages + k ≤ b.room
room-deep k l a b w on room = omega (arith, w.few on, w.room)

-- how a last put ends
pub put-ends : (i w : ℕ) (a b : Sheet) (r : Result Unit Trouble) → Puts a i w r b → Fails a r b
put-ends i w a b (Ok x) f = f.0
put-ends i w a b (Err Off) f = f
put-ends i w a b (Err Bad) f = (f.0, f.3)

pub zero-in : (n : ℕ) → 640 ≤ n → 0 < n
zero-in n size = omega arith

-- the addresses of a node's words fit in 32 bits
pub mul-fits : (p n : ℕ) → at p 63 < n → n < 2 ^ 32 → Fits w32 (64 * p)
mul-fits p n within few = omega arith

pub head-fits : (p n : ℕ) → at p 63 < n → n < 2 ^ 32 → Fits w32 (head p)
head-fits p n within few = omega arith

pub keys-fit : (p n : ℕ) → at p 63 < n → n < 2 ^ 32 → Fits w32 (at p 1)
keys-fit p n within few = omega arith

pub slots-fit : (p n : ℕ) → at p 63 < n → n < 2 ^ 32 → Fits w32 (at p 32)
slots-fit p n within few = omega arith

-- the lists of a node that is read
pub keys-read : (p n m : ℕ) (a b : Sheet) → Works 0 a b → at p 63 < length a.words → n ≡ m → m < 64 → at p 1 + n / 2 ≤ length b.words
keys-read p n m a b w within is few = omega (arith, w.long)

pub slots-read : (p n m : ℕ) (a b : Sheet) → Works 0 a b → at p 63 < length a.words → n ≡ m → m < 64 → at p 32 + (n / 2 + n % 2) ≤ length b.words
slots-read p n m a b w within is few = omega (arith, w.long)

pub keys-read-few : (n m : ℕ) → n ≡ m → m < 64 → n / 2 ≤ 64
keys-read-few n m is few = omega arith

pub slots-read-few : (n m : ℕ) → n ≡ m → m < 64 → n / 2 + n % 2 ≤ 64
slots-read-few n m is few = omega arith

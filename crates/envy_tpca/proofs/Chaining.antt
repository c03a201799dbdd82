-- The puts of one transfer, one after another.
use Rattle.std.proofs.Common.{◌≡◌, inl, inr, ℕ, ◌<◌, ◌≤◌, ◌+◌, List, [], ◌∷◌, length, refl, sym, ◌∙◌, ap, subst, arith, Result, Ok, Err}
use Rattle.std.specs.Int.{cast_signed, cast_unsigned}
use Rattle.std.specs.Prelude.{IsErr, IsErrAnd, ◌%◌, ◌^◌, slice_index, slice_set, ℤ, ◌+ℤ◌, unsigned_abs}
use Rattle.std.proofs.Common.{w64}
use Rattle.std.proofs.lemmas.Int.{fits_signed_from_abs, to_z-of_z}
use Rattle.std.proofs.lemmas.List.{get_or-set_other, length-set}
use Rattle.envy_array.specs.Array.{page_of, put_back}
use Rattle.envy_tpca.specs.declared.places.Places.{Places}
use Rattle.envy_tpca.specs.declared.places.Spots.{Spots}
use Rattle.envy_tpca.specs.declared.transfer.Transfer.{Transfer}
use Rattle.envy_tpca.specs.Summing.{Small}
use Rattle.envy_tpca.specs.Tpc.{as_word, deltas_of, account_at, teller_at, branch_at, row_at}
use Rattle.envy_tpca.specs.Trial.{AreSmall, AreSpots, IsTried, IsRoomy, writes, balances_of, row_of}
use Rattle.envy_memory.specs.Picture.{Picture}
use Rattle.envy_tpca.specs.declared.fault.Fault.{Fault}
use Rattle.envy_tpca.specs.Trying.{Widens, Undone, Stopped, IsCause, AfterPut, AfterTry}
use Rattle.envy_tpca.proofs.Looking.{abs-add, abs-of, bound-law}

-- the three new balances
abbrev pub new_account : List Transfer → Transfer → ℕ
new_account ts t = as_word (deltas_of (λ s. s.account) t.account ts +ℤ t.delta)

abbrev pub new_teller : List Transfer → Transfer → ℕ
new_teller ts t = as_word (deltas_of (λ s. s.teller) t.teller ts +ℤ t.delta)

abbrev pub new_branch : List Transfer → Transfer → ℕ
new_branch ts t = as_word (deltas_of (λ s. s.branch) t.branch ts +ℤ t.delta)

-- one balance may be added to: it is in range, and its word is that of a small number, as its sum is
pub record CanAdd (words : List ℕ) (a : ℕ) (x d : ℤ) : Type 0 where
  pub within : a < length words
  pub word : slice_index words a ≡ as_word x
  pub small : Small x
  pub sum : Small (x +ℤ d)

small-sum : (at : Transfer → ℕ) (k : ℕ) (ts : List Transfer) (d : ℤ) → AreSmall ts → length ts < 2 ^ 32 → unsigned_abs d < 10 ^ 6 → Small (deltas_of at k ts +ℤ d)
small-sum at k ts d all few lt = fits_signed_from_abs w64 (deltas_of at k ts +ℤ d) (let e = abs-of at k ts all in let f = abs-add (deltas_of at k ts) d in omega arith)

-- a delta is far from the end of its type
pub small-delta : (d : ℤ) → unsigned_abs d < 10 ^ 6 → Small d
small-delta d lt = fits_signed_from_abs w64 d (omega arith)

-- the branch's balance can be added to,
pub first-add : (shadows : ℕ) (l : Places) (size : ℕ) (ts : List Transfer) (before : List ℕ) (i : ℕ) (t : Transfer) (at : Spots) → IsTried shadows l size ts before i t at
    → CanAdd before at.account (deltas_of (λ s. s.account) t.account ts) t.delta
first-add shadows l size ts before i t at tried =
    let r = tried.range in
    let long = tried.tpc.long in
    let spot = tried.spots.account in
    let ra = r.account in let rh = r.history in let rr = r.room in
    let few : length ts < 2 ^ 32 = let c = tried.count in let f = r.few in omega arith in
    record {
      within = omega arith;
      word = ap (slice_index before) spot ∙ tried.tpc.accounts t.account ra;
      small = bound-law (λ s. s.account) t.account ts tried.small (omega arith);
      sum = small-sum (λ s. s.account) t.account ts t.delta tried.small few r.delta;
    }

-- then the teller's,
pub second-add : (shadows : ℕ) (l : Places) (size : ℕ) (ts : List Transfer) (before : List ℕ) (i : ℕ) (t : Transfer) (at : Spots) → IsTried shadows l size ts before i t at
    → CanAdd (slice_set before at.account (new_account ts t)) at.teller (deltas_of (λ s. s.teller) t.teller ts) t.delta
second-add shadows l size ts before i t at tried =
    let r = tried.range in
    let long = tried.tpc.long in
    let sa = tried.spots.account in let st = tried.spots.teller in
    let ra = r.account in let rt = r.teller in let rh = r.history in let rr = r.room in
    let few : length ts < 2 ^ 32 = let c = tried.count in let f = r.few in omega arith in
    let same = length-set before at.account (new_account ts t) in
    record {
      within = omega arith;
      word = get_or-set_other before at.account at.teller (new_account ts t) 0 (λ e. omega arith) ∙ ap (slice_index before) st ∙ tried.tpc.tellers t.teller rt;
      small = bound-law (λ s. s.teller) t.teller ts tried.small (omega arith);
      sum = small-sum (λ s. s.teller) t.teller ts t.delta tried.small few r.delta;
    }

-- then the account's
pub third-add : (shadows : ℕ) (l : Places) (size : ℕ) (ts : List Transfer) (before : List ℕ) (i : ℕ) (t : Transfer) (at : Spots) → IsTried shadows l size ts before i t at
    → CanAdd (slice_set (slice_set before at.account (new_account ts t)) at.teller (new_teller ts t)) at.branch (deltas_of (λ s. s.branch) t.branch ts) t.delta
third-add shadows l size ts before i t at tried =
    let r = tried.range in
    let long = tried.tpc.long in
    let sa = tried.spots.account in let st = tried.spots.teller in let sb = tried.spots.branch in
    let ra = r.account in let rt = r.teller in let rb = r.branch in let rh = r.history in let rr = r.room in
    let few : length ts < 2 ^ 32 = let c = tried.count in let f = r.few in omega arith in
    let w1 = slice_set before at.account (new_account ts t) in
    let same = length-set before at.account (new_account ts t) in
    let again = length-set w1 at.teller (new_teller ts t) in
    record {
      within = omega arith;
      word = get_or-set_other w1 at.teller at.branch (new_teller ts t) 0 (λ e. omega arith) ∙ get_or-set_other before at.account at.branch (new_account ts t) 0 (λ e. omega arith) ∙ ap (slice_index before) sb ∙ tried.tpc.branches t.branch rb;
      small = bound-law (λ s. s.branch) t.branch ts tried.small (omega arith);
      sum = small-sum (λ s. s.branch) t.branch ts t.delta tried.small few r.delta;
    }

-- a row of history has room behind the balances
pub row-roomy : (shadows : ℕ) (l : Places) (size : ℕ) (ts : List Transfer) (before : List ℕ) (i : ℕ) (t : Transfer) (at : Spots) → IsTried shadows l size ts before i t at → IsRoomy shadows (put_back (balances_of at ts t) before) at.row t
row-roomy shadows l size ts before i t at tried =
    let r = tried.range in
    let long = tried.tpc.long in
    let sr = tried.spots.row in let rr = r.room in let whole = r.whole in
    let w1 = slice_set before at.account (new_account ts t) in
    let w2 = slice_set w1 at.teller (new_teller ts t) in
    let e1 = length-set before at.account (new_account ts t) in
    let e2 = length-set w1 at.teller (new_teller ts t) in
    let e3 = length-set w2 at.branch (new_branch ts t) in
    record { delta = r.delta; room = tried.room; whole = omega arith; within = omega arith }

length-row : (row : ℕ) (t : Transfer) (words : List ℕ) → length (put_back (row_of row t) words) ≡ length words
length-row row t words =
    let w1 = slice_set words row t.account in
    let w2 = slice_set w1 (row + 1) t.teller in
    let w3 = slice_set w2 (row + 2) t.branch in
    length-set w3 (row + 3) (as_word t.delta) ∙ length-set w2 (row + 2) t.branch ∙ length-set w1 (row + 1) t.teller ∙ length-set words row t.account

-- there is a word 0 behind all these
pub count-within : (shadows : ℕ) (words : List ℕ) (row : ℕ) (t : Transfer) → IsRoomy shadows words row t → 0 < length (put_back (row_of row t) words)
count-within shadows words row t roomy = let e = length-row row t words in let w = roomy.within in omega arith

-- all eight
pub all-eight : (l : Places) (ts : List Transfer) (i : ℕ) (t : Transfer) (at : Spots) (before : List ℕ) → length ts ≡ i → AreSpots l i t at
    → slice_set (put_back (row_of at.row t) (put_back (balances_of at ts t) before)) 0 (i + 1) ≡ put_back (writes l ts t) before
all-eight l ts i t at before count spots =
    let sa = spots.account in let st = spots.teller in let sb = spots.branch in
    let sr : at.row ≡ row_at l (length ts) = spots.row ∙ ap (row_at l) (sym count) in
    let all : (a b c r n : ℕ) → a ≡ account_at l t.account → b ≡ teller_at l t.teller → c ≡ branch_at l t.branch → r ≡ row_at l (length ts) → n ≡ length ts
    → slice_set (put_back (row_of r t) (put_back ((a, new_account ts t) ∷ (b, new_teller ts t) ∷ (c, new_branch ts t) ∷ []) before)) 0 (n + 1) ≡ put_back (writes l ts t) before = λ a b c r n ea eb ec er en. rw (ea, eb, ec, er, en) refl in
    all at.account at.teller at.branch at.row i sa st sb sr (sym count)

-- a number reads the same after it was written as a word
pub same-delta : (d : ℤ) → unsigned_abs d < 10 ^ 6 → cast_signed w64 (cast_unsigned w64 d) ≡ d
same-delta d lt = to_z-of_z w64 d (small-delta d lt)

-- ---- the four words of a row

page-same : (row k : ℕ) → row % 4 ≡ 0 → k < 4 → page_of (row + k) ≡ page_of row
page-same row k whole lt = omega arith

-- a page more is within the shadows
pub widens-first : (shadows last page most : ℕ) → most < shadows → Widens shadows last page most (most + 1)
widens-first shadows last page most lt = inr (lt, refl)

-- the words of a row are in one page
pub widens-row : (shadows row j k : ℕ) → row % 4 ≡ 0 → j < 4 → k < 4 → Widens shadows (page_of (row + j)) (page_of (row + k)) 4 4
widens-row shadows row j k whole lj lk = inl (page-same row k whole lk ∙ sym (page-same row j whole lj), (λ e. omega arith), refl)

-- as are the first and any other
pub widens-next : (shadows row k : ℕ) → row % 4 ≡ 0 → k < 4 → Widens shadows (page_of row) (page_of (row + k)) 4 4
widens-next shadows row k whole lk = inl (page-same row k whole lk, (λ e. omega arith), refl)

pub row-within : (now : List ℕ) (row k w : ℕ) → row + 4 ≤ length now → k < 4 → row + k < length (slice_set now row w)
row-within now row k w le lt = let e = length-set now row w in omega arith

pub row-within-2 : (now : List ℕ) (row k w v : ℕ) → row + 4 ≤ length now → k < 4 → row + k < length (slice_set (slice_set now row w) (row + 1) v)
row-within-2 now row k w v le lt = let e = length-set now row w in let f = length-set (slice_set now row w) (row + 1) v in omega arith

pub row-within-3 : (now : List ℕ) (row k w v u : ℕ) → row + 4 ≤ length now → k < 4 → row + k < length (slice_set (slice_set (slice_set now row w) (row + 1) v) (row + 2) u)
row-within-3 now row k w v u le lt = let e = length-set now row w in let f = length-set (slice_set now row w) (row + 1) v in let g = length-set (slice_set (slice_set now row w) (row + 1) v) (row + 2) u in omega arith

-- the four words of a row are the transfer's
pub row-done : (n : ℕ) (first : Picture) (before now : List ℕ) (slot row a b c d : ℕ) (t : Transfer) (result : Result Unit Fault) (p : Picture) → row % 4 ≡ 0 → a ≡ t.account → b ≡ t.teller → c ≡ t.branch → d ≡ as_word t.delta
    → AfterPut n first before (slice_set (slice_set (slice_set (slice_set now row a) (row + 1) b) (row + 2) c) (row + 3) d) slot 4 (page_of (row + 3)) result p
    → AfterPut n first before (put_back (row_of row t) now) slot 4 (page_of row) result p
row-done n first before now slot row a b c d t result p whole ea eb ec ed done =
    subst (λ (w : ℕ). AfterPut n first before (slice_set (slice_set (slice_set (slice_set now row w) (row + 1) t.teller) (row + 2) t.branch) (row + 3) (as_word t.delta)) slot 4 (page_of row) result p) ea
    (subst (λ (w : ℕ). AfterPut n first before (slice_set (slice_set (slice_set (slice_set now row a) (row + 1) w) (row + 2) t.branch) (row + 3) (as_word t.delta)) slot 4 (page_of row) result p) eb
    (subst (λ (w : ℕ). AfterPut n first before (slice_set (slice_set (slice_set (slice_set now row a) (row + 1) b) (row + 2) w) (row + 3) (as_word t.delta)) slot 4 (page_of row) result p) ec
    (subst (λ (w : ℕ). AfterPut n first before (slice_set (slice_set (slice_set (slice_set now row a) (row + 1) b) (row + 2) c) (row + 3) w) slot 4 (page_of row) result p) ed
    (subst (λ (q : ℕ). AfterPut n first before (slice_set (slice_set (slice_set (slice_set now row a) (row + 1) b) (row + 2) c) (row + 3) d) slot 4 q result p) (page-same row 3 whole (omega arith)) done))))

-- ---- one addition

-- adding a delta at an address
pub add-at : (n : ℕ) (first : Picture) (before now : List ℕ) (slot most last a : ℕ) (x d e : ℤ) (result : Result Unit Fault) (p : Picture) → e ≡ d → CanAdd now a x d → most < first.chart.shape.shadows
    → (a < length now → Widens first.chart.shape.shadows last (page_of a) most (most + 1) → slice_index now a ≡ as_word x → Small x → Small (x +ℤ e) → AfterPut n first before (slice_set now a (as_word (x +ℤ e))) slot (most + 1) (page_of a) result p)
    → AfterPut n first before (slice_set now a (as_word (x +ℤ d))) slot (most + 1) (page_of a) result p
add-at n first before now slot most last a x d e result p same can room call =
    subst (λ (y : ℤ). AfterPut n first before (slice_set now a (as_word (x +ℤ y))) slot (most + 1) (page_of a) result p) same
    (call can.within (inr (room, refl)) can.word can.small (subst (λ (y : ℤ). Small (x +ℤ y)) (sym same) can.sum))

-- ---- failures

-- a put that fails undoes the transfer
pub put-fails : (n : ℕ) (first : Picture) (before now : List ℕ) (slot more page : ℕ) (result : Result Unit Fault) (p : Picture) (fault : Fault) → Undone n first before fault p → IsErr result → IsErrAnd result (λ e. e ≡ fault) → AfterPut n first before now slot more page result p
put-fails n first before now slot more page (Ok done) p fault u is same = cc
put-fails n first before now slot more page (Err e) p fault u is same = subst (λ (f : Fault). Undone n first before f p) (sym same) u

-- and so does any other failure
pub try-fails : (n : ℕ) (first : Picture) (before now : List ℕ) (result : Result Unit Fault) (p : Picture) (fault : Fault) → Undone n first before fault p → IsErr result → IsErrAnd result (λ e. e ≡ fault) → AfterTry n first before now result p
try-fails n first before now (Ok done) p fault u is same = cc
try-fails n first before now (Err e) p fault u is same = subst (λ (f : Fault). IsCause f first p × Stopped n first before now p) (sym same) (u.cause, record { words = inl u.words; since = u.since })

-- The sums that the words of an area add up to.
use Rattle.std.proofs.Common.{◌≡◌, ◌⊎◌, inl, inr, ℕ, zero, suc, ◌<◌, ◌≤◌, ◌+◌, ◌*◌, cond, List, [], ◌∷◌, length, get_or, refl, sym, ◌∙◌, ap, subst, arith, add-one}
use Rattle.std.specs.Prelude.{◌%◌, ◌^◌, ◌++◌, ◌==◌, slice_index, ℤ, pos, negsuc, ◌+ℤ◌, ◌-ℤ◌, unsigned_abs}
use Rattle.std.specs.Int.{cast_signed, cast_unsigned, int_wrap}
use Rattle.std.specs.List.{All}
use Rattle.std.proofs.Common.{w64}
use Rattle.std.proofs.Math.IntN.{+ℤ_comm, +ℤ_assoc, +ℤ_idr}
use Rattle.std.proofs.Math.Seq.{get_or-append_seam}
use Rattle.std.proofs.lemmas.Bool.{cases_lt}
use Rattle.std.proofs.lemmas.Int.{fits_signed_from_abs, ints, to_z-of_z, wrapping_add_onto, int_wrap_fits}
use Rattle.std.proofs.lemmas.List.{get_or_append_left}
use Rattle.envy_tpca.specs.declared.places.Places.{Places}
use Rattle.envy_tpca.specs.declared.transfer.Transfer.{Transfer}
use Rattle.envy_tpca.specs.Load.{Draws, next_transfer, after, first}
use Rattle.envy_tpca.specs.Summing.{Small, sum_below, signed_at, balances_in, history_in}
use Rattle.envy_tpca.specs.Tpc.{TpcAt, as_word, deltas, deltas_of}
use Rattle.envy_tpca.specs.Trial.{AreSmall}
use Rattle.envy_tpca.proofs.Adding.{sum-both, sum-one, sum-none, sums-are}
use Rattle.envy_tpca.proofs.Drawing.{first-more, after-more, length-first, first-none, after-none}
use Rattle.envy_tpca.proofs.Looking.{abs-add, abs-of}

-- ---- words in two's complement

pub as_word-is : (x : ℤ) → as_word x ≡ cast_unsigned w64 x
as_word-is (pos n) = refl
as_word-is (negsuc n) = omega arith

-- a small number is what its word is read as
pub signed-word : (x : ℤ) → Small x → cast_signed w64 (as_word x) ≡ x
signed-word x small = ap (cast_signed w64) (as_word-is x) ∙ to_z-of_z w64 x small

-- ---- sums

pub sum-same : (n : ℕ) (f g : ℕ → ℤ) → ((k : ℕ) → k < n → f k ≡ g k) → sum_below n f ≡ sum_below n g
sum-same zero f g same = refl
sum-same (suc n) f g same = ap (λ (x : ℤ). x +ℤ f n) (sum-same n f g (λ k lt. same k (omega arith))) ∙ ap (λ (x : ℤ). sum_below n g +ℤ x) (same n (omega arith))

-- a wrapping sum of words, where nothing wraps
pub sum-step : (bits k : ℕ) (sum v : ℤ) (f : ℕ → ℤ) → bits < 2 ^ 64 → cast_signed w64 bits ≡ sum → sum ≡ sum_below k f → v ≡ f k → Small v → Small (sum_below (k + 1) f) → cast_signed w64 ((bits + cast_unsigned w64 v) % 2 ^ 64) ≡ sum_below (k + 1) f
sum-step bits k sum v f lt e1 e2 e3 sv small =
    let next : sum_below (k + 1) f ≡ sum_below k f +ℤ f k = ap (λ (n : ℕ). sum_below n f) (add-one k) in
    wrapping_add_onto w64 bits v lt sv
    ∙ ap (λ (y : ℤ). int_wrap w64 (y +ℤ v)) (e1 ∙ e2)
    ∙ ap (λ (y : ℤ). int_wrap w64 (sum_below k f +ℤ y)) e3
    ∙ int_wrap_fits w64 (sum_below k f +ℤ f k) (subst Small next small)
    ∙ sym next

-- a sum of some records is no larger than all deltas
abs-some : (at : Transfer → ℕ) (n : ℕ) (ts : List Transfer) → AreSmall ts → unsigned_abs (sum_below n (λ k. deltas_of at k ts)) ≤ length ts * 10 ^ 6
abs-some at n [] all = let e = none n in rw e (omega arith)
  where
    none : (m : ℕ) → sum_below m (λ k. pos 0) ≡ pos 0
    none zero = refl
    none (suc m) = +ℤ_idr (sum_below m (λ k. pos 0)) ∙ none m
abs-some at n (t ∷ ts) all =
    let rest = abs-some at n ts (λ i d lt. all (suc i) d (omega arith)) in
    let small : unsigned_abs t.delta < 10 ^ 6 = all 0 t (omega arith) in
    let first : unsigned_abs (sum_below n (λ k. cond (at t == k) t.delta (pos 0))) ≤ 10 ^ 6 = one small (cases_lt (at t) n) in
    let both = abs-add (sum_below n (λ k. cond (at t == k) t.delta (pos 0))) (sum_below n (λ k. deltas_of at k ts)) in
    rw (sum-both n (λ k. cond (at t == k) t.delta (pos 0)) (λ k. deltas_of at k ts)) (omega arith)
  where
    one : unsigned_abs t.delta < 10 ^ 6 → (at t < n) ⊎ (n ≤ at t) → unsigned_abs (sum_below n (λ k. cond (at t == k) t.delta (pos 0))) ≤ 10 ^ 6
    one small (inl lt) = rw (sum-one n (at t) t.delta lt) (omega arith)
    one small (inr le) = rw (sum-none n (at t) t.delta le) (omega arith)

-- balances add up far from the end of their type
pub small-some : (at : Transfer → ℕ) (n : ℕ) (ts : List Transfer) → AreSmall ts → length ts < 2 ^ 32 → Small (sum_below n (λ k. deltas_of at k ts))
small-some at n ts all few = fits_signed_from_abs w64 (sum_below n (λ k. deltas_of at k ts)) (let e = abs-some at n ts all in omega arith)

-- balances in words, in order
pub balances-are : (words : List ℕ) (from n : ℕ) (at : Transfer → ℕ) (ts : List Transfer) → ((k : ℕ) → k < n → slice_index words (from + k) ≡ as_word (deltas_of at k ts)) → AreSmall ts → length ts < 2 ^ 32
    → balances_in words from n ≡ sum_below n (λ k. deltas_of at k ts)
balances-are words from n at ts words-are all few =
    sum-same n (λ k. signed_at words (from + k)) (λ k. deltas_of at k ts)
    (λ k lt. ap (cast_signed w64) (words-are k lt) ∙ signed-word (deltas_of at k ts) (fits_signed_from_abs w64 (deltas_of at k ts) (let e = abs-of at k ts all in omega arith)))

-- as words, too
pub balances-small : (words : List ℕ) (from n : ℕ) (at : Transfer → ℕ) (ts : List Transfer) → ((k : ℕ) → k < n → slice_index words (from + k) ≡ as_word (deltas_of at k ts)) → AreSmall ts → length ts < 2 ^ 32
    → (m : ℕ) → m ≤ n → Small (balances_in words from m)
balances-small words from n at ts words-are all few m le =
    subst Small (sym (balances-are words from m at ts (λ k lt. words-are k (omega arith)) all few)) (small-some at m ts all few)

-- and they add up to all deltas
pub balances-total : (words : List ℕ) (from n : ℕ) (at : Transfer → ℕ) (ts : List Transfer) → ((k : ℕ) → k < n → slice_index words (from + k) ≡ as_word (deltas_of at k ts)) → AreSmall ts → length ts < 2 ^ 32 → All (λ t. at t < n) ts
    → balances_in words from n ≡ deltas ts
balances-total words from n at ts words-are all few within = balances-are words from n at ts words-are all few ∙ sums-are at n ts within

-- ---- deltas

-- one delta more
pub deltas-push : (ts : List Transfer) (t : Transfer) → deltas (ts ++ (t ∷ [])) ≡ deltas ts +ℤ t.delta
deltas-push [] t = +ℤ_comm t.delta (pos 0)
deltas-push (s ∷ ts) t = ap (λ (x : ℤ). s.delta +ℤ x) (deltas-push ts t) ∙ sym (+ℤ_assoc s.delta (deltas ts) t.delta)

abs-deltas : (ts : List Transfer) → AreSmall ts → unsigned_abs (deltas ts) ≤ length ts * 10 ^ 6
abs-deltas [] all = omega arith
abs-deltas (t ∷ ts) all =
    let rest = abs-deltas ts (λ i d lt. all (suc i) d (omega arith)) in
    let small : unsigned_abs t.delta < 10 ^ 6 = all 0 t (omega arith) in
    let both = abs-add t.delta (deltas ts) in
    omega arith

-- deltas add up far from the end of their type
pub small-deltas : (ts : List Transfer) → AreSmall ts → length ts < 2 ^ 32 → Small (deltas ts)
small-deltas ts all few = fits_signed_from_abs w64 (deltas ts) (let e = abs-deltas ts all in omega arith)

-- ---- the transfers of a load

-- a load's transfer by its place
pub get-first : (n j : ℕ) (load : Draws) (d : Transfer) → j < n → get_or (first n load) j d ≡ (next_transfer (after j load)).0
get-first zero j load d lt = absurd (omega arith)
get-first (suc n) j load d lt = rw (← add-one n) (rw (first-more n load) (at (λ less. get-first n j load d less) (cases_lt j n)))
  where
    t : Transfer
    t = (next_transfer (after n load)).0

    at : (j < n → get_or (first n load) j d ≡ (next_transfer (after j load)).0) → (j < n) ⊎ (n ≤ j) → get_or (first n load ++ (t ∷ [])) j d ≡ (next_transfer (after j load)).0
    at earlier (inl less) = get_or_append_left (first n load) (t ∷ []) d j (let e = length-first n load in omega arith) ∙ earlier less
    at earlier (inr le) =
        let same : length (first n load) ≡ j = length-first n load ∙ (let e : n ≡ j = omega arith in e) in
        let here : n ≡ j = omega arith in
        ap (λ (i : ℕ). get_or (first n load ++ (t ∷ [])) i d) (sym same) ∙ get_or-append_seam (first n load) t [] d ∙ ap (λ (i : ℕ). (next_transfer (after i load)).0) here

-- what holds of every transfer that is drawn holds of a load's
pub All-first : (P : Transfer → Type 0) (n : ℕ) (load : Draws) → ((i : ℕ) → P (next_transfer (after i load)).0) → All P (first n load)
All-first P n load each = λ j d lt. subst P (sym (get-first n j load d (let e = length-first n load in omega arith))) (each j)

pub next-sizes : (d : Draws) → ((next_transfer d).1.branches ≡ d.branches) × ((next_transfer d).1.accounts ≡ d.accounts)
unfolding next_transfer
next-sizes d = (refl, refl)

pub after-sizes : (n : ℕ) (d : Draws) → ((after n d).branches ≡ d.branches) × ((after n d).accounts ≡ d.accounts)
after-sizes zero d = rw (after-none d) (refl, refl)
after-sizes (suc n) d =
    let e = after-more n d in
    let s = next-sizes (after n d) in
    let r = after-sizes n d in
    rw (← add-one n) (rw e (s.0 ∙ r.0, s.1 ∙ r.1))

-- a transfer that is drawn names records, and its delta is small
pub record IsDrawn (branches accounts : ℕ) (t : Transfer) : Type 0 where
  pub branch : t.branch < branches
  pub teller : t.teller < 10 * branches
  pub account : t.account < branches * accounts
  pub delta : unsigned_abs t.delta < 10 ^ 6

delta-small : (z : ℕ) → z < 1999999 → unsigned_abs (pos z -ℤ pos 999999) < 10 ^ 6
delta-small z lt = omega (arith, ints)

next-drawn : (d : Draws) → 1 ≤ d.branches → 1 ≤ d.branches * d.accounts → IsDrawn d.branches d.accounts (next_transfer d).0
unfolding next_transfer
next-drawn d some all = record {
  branch = omega arith;
  teller = omega arith;
  account = omega arith;
  delta = delta-small _ (omega arith);
}

-- a transfer that is drawn lies within the load
pub is-drawn : (i : ℕ) (load : Draws) → 1 ≤ load.branches → 1 ≤ load.branches * load.accounts → IsDrawn load.branches load.accounts (next_transfer (after i load)).0
is-drawn i load some all =
    let s = after-sizes i load in
    subst (λ (b : ℕ). IsDrawn b load.accounts (next_transfer (after i load)).0) s.0 (subst (λ (a : ℕ). IsDrawn (after i load).branches a (next_transfer (after i load)).0) s.1 (next-drawn (after i load) (omega arith) (rw (s.0, s.1) all)))

-- and has a small delta
pub first-small : (n : ℕ) (load : Draws) → 1 ≤ load.branches → 1 ≤ load.branches * load.accounts → AreSmall (first n load)
first-small n load some all = All-first (λ t. unsigned_abs t.delta < 10 ^ 6) n load (λ i. (is-drawn i load some all).delta)

-- ---- the history

deltas-first : (n : ℕ) (load : Draws) → sum_below n (λ j. (next_transfer (after j load)).0.delta) ≡ deltas (first n load)
deltas-first zero load = rw (first-none load) refl
deltas-first (suc n) load =
    ap (λ (x : ℤ). x +ℤ (next_transfer (after n load)).0.delta) (deltas-first n load)
    ∙ sym (deltas-push (first n load) (next_transfer (after n load)).0)
    ∙ ap deltas (sym (first-more n load)) ∙ ap (λ (k : ℕ). deltas (first k load)) (add-one n)

-- the history holds the deltas
pub history-are : (l : Places) (size : ℕ) (n : ℕ) (load : Draws) (words : List ℕ) → TpcAt l size (first n load) words → AreSmall (first n load)
    → (m : ℕ) → m ≤ n → history_in words l.history m ≡ deltas (first m load)
history-are l size n load words tpc all m le =
    sum-same m (λ j. signed_at words (l.history + 4 * j + 3)) (λ j. (next_transfer (after j load)).0.delta) each ∙ deltas-first m load
  where
    each : (j : ℕ) → j < m → signed_at words (l.history + 4 * j + 3) ≡ (next_transfer (after j load)).0.delta
    each j lt =
        let t = (next_transfer (after j load)).0 in
        let long = length-first n load in
        let row = (tpc.history j t (omega arith)).delta in
        let same = get-first n j load t (omega arith) in
        let small : unsigned_abs (get_or (first n load) j t).delta < 10 ^ 6 = all j t (omega arith) in
        ap (cast_signed w64) row ∙ signed-word (get_or (first n load) j t).delta (fits_signed_from_abs w64 (get_or (first n load) j t).delta (omega arith)) ∙ ap (λ (u : Transfer). u.delta) same

deltas-more : (n : ℕ) (load : Draws) → deltas (first (n + 1) load) ≡ deltas (first n load) +ℤ (next_transfer (after n load)).0.delta
deltas-more n load = ap deltas (first-more n load) ∙ deltas-push (first n load) (next_transfer (after n load)).0

-- the wrapping sum of the deltas, where nothing wraps
pub delta-step : (bits n : ℕ) (load : Draws) (d : ℤ) → bits < 2 ^ 64 → cast_signed w64 bits ≡ deltas (first n load) → d ≡ (next_transfer (after n load)).0.delta → Small d → Small (deltas (first (n + 1) load)) → cast_signed w64 ((bits + cast_unsigned w64 d) % 2 ^ 64) ≡ deltas (first (n + 1) load)
delta-step bits n load d lt e is sd small =
    let next = deltas-more n load in
    wrapping_add_onto w64 bits d lt sd
    ∙ ap (λ (y : ℤ). int_wrap w64 (y +ℤ d)) e
    ∙ ap (λ (y : ℤ). int_wrap w64 (deltas (first n load) +ℤ y)) is
    ∙ int_wrap_fits w64 (deltas (first n load) +ℤ (next_transfer (after n load)).0.delta) (subst Small next small)
    ∙ sym next

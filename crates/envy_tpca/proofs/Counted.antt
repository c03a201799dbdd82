-- The eight words of a transfer add it to those before it.
use Rattle.std.proofs.Common.{◌≡◌, ◌≢◌, ◌⊎◌, inl, inr, ℕ, zero, suc, ◌<◌, ◌≤◌, ◌+◌, ◌*◌, cond, List, [], ◌∷◌, length, get_or, set, refl, sym, ◌∙◌, ap, subst, arith}
use Rattle.std.specs.Prelude.{ℤ, pos, ◌+ℤ◌, ◌==◌, ◌++◌, slice_index}
use Rattle.std.proofs.Math.IntN.{+ℤ_comm, +ℤ_assoc}
use Rattle.std.proofs.lemmas.Bool.{cases_eq, ne_eqb, eq-eqb, cases_lt}
use Rattle.std.proofs.lemmas.List.{get_or-set_same, get_or-set_other, length-set, length_push, get_or_append_left}
use Rattle.std.proofs.Math.Seq.{get_or-append_seam}
use Rattle.envy_array.specs.Array.{Saved, put_back}
use Rattle.envy_array.proofs.Undoing.{length-put_back}
use Rattle.envy_tpca.specs.declared.transfer.Transfer.{Transfer}
use Rattle.envy_tpca.specs.declared.places.Places.{Places}
use Rattle.envy_tpca.specs.Tpc.{as_word, deltas_of, branch_at, teller_at, account_at, row_at, IsRow, TpcAt}
use Rattle.envy_tpca.specs.Trial.{InRange, writes}

-- one transfer more, of this record or of another
deltas-here : (at : Transfer → ℕ) (k : ℕ) (ts : List Transfer) (t : Transfer) → at t ≡ k → deltas_of at k (ts ++ (t ∷ [])) ≡ deltas_of at k ts +ℤ t.delta
deltas-here at k [] t same = rw (eq-eqb (at t) k same) (+ℤ_comm t.delta (pos 0))
deltas-here at k (s ∷ ts) t same = ap (λ (x : ℤ). cond (at s == k) s.delta (pos 0) +ℤ x) (deltas-here at k ts t same) ∙ sym (+ℤ_assoc (cond (at s == k) s.delta (pos 0)) (deltas_of at k ts) t.delta)

deltas-there : (at : Transfer → ℕ) (k : ℕ) (ts : List Transfer) (t : Transfer) → (at t ≡ k → ⊥) → deltas_of at k (ts ++ (t ∷ [])) ≡ deltas_of at k ts
deltas-there at k [] t other = rw (ne_eqb (at t) k other) refl
deltas-there at k (s ∷ ts) t other = ap (λ (x : ℤ). cond (at s == k) s.delta (pos 0) +ℤ x) (deltas-there at k ts t other)

-- no write of the list is to this address
pub record Misses (a : ℕ) (ws : Saved) : Type 0 where
  pub each : (j : ℕ) (d : ℕ × ℕ) → j < length ws → a ≢ (get_or ws j d).0

missed : (ws : Saved) (words : List ℕ) (a : ℕ) → Misses a ws → get_or (put_back ws words) a 0 ≡ get_or words a 0
missed [] words a m = refl
missed (w ∷ ws) words a m = missed ws (set words w.0 w.1) a (record { each = λ j d lt. m.each (suc j) d (omega arith) }) ∙ get_or-set_other words w.0 a w.1 0 (m.each 0 w (omega arith))

-- the write that the rest of the list leaves
written : (a w : ℕ) (ws : Saved) (words : List ℕ) → a < length words → Misses a ws → get_or (put_back ((a, w) ∷ ws) words) a 0 ≡ w
written a w ws words lt m = missed ws (set words a w) a m ∙ get_or-set_same words a w 0 lt

misses-none : (a : ℕ) → Misses a []
misses-none a = record { each = λ j d lt. absurd (omega arith) }

misses-more : (a b w : ℕ) (ws : Saved) → a ≢ b → Misses a ws → Misses a ((b, w) ∷ ws)
misses-more a b w ws ne m = record { each = by }
  where
    by : (j : ℕ) (d : ℕ × ℕ) → j < suc (length ws) → a ≢ (get_or ((b, w) ∷ ws) j d).0
    by zero d lt = ne
    by (suc j) d lt = m.each j d (omega arith)

-- the last five writes: a row of history, and the number of transfers
abbrev five : Places → ℕ → Transfer → Saved
five l i t = (row_at l i, t.account) ∷ (row_at l i + 1, t.teller) ∷ (row_at l i + 2, t.branch) ∷ (row_at l i + 3, as_word t.delta) ∷ (0, i + 1) ∷ []

misses-five : (l : Places) (i : ℕ) (t : Transfer) (a : ℕ) → 0 < a → ((c : ℕ) → c < 4 → a ≢ row_at l i + c) → Misses a (five l i t)
misses-five l i t a lt ne =
    misses-more a (row_at l i) t.account ((row_at l i + 1, t.teller) ∷ (row_at l i + 2, t.branch) ∷ (row_at l i + 3, as_word t.delta) ∷ (0, i + 1) ∷ []) (λ e. ne 0 (omega arith) (omega arith))
    (misses-more a (row_at l i + 1) t.teller ((row_at l i + 2, t.branch) ∷ (row_at l i + 3, as_word t.delta) ∷ (0, i + 1) ∷ []) (ne 1 (omega arith))
    (misses-more a (row_at l i + 2) t.branch ((row_at l i + 3, as_word t.delta) ∷ (0, i + 1) ∷ []) (ne 2 (omega arith))
    (misses-more a (row_at l i + 3) (as_word t.delta) ((0, i + 1) ∷ []) (ne 3 (omega arith))
    (misses-more a 0 (i + 1) [] (λ e. omega arith) (misses-none a)))))

-- a transfer done counts as one more
pub counted : (l : Places) (size : ℕ) (ts : List Transfer) (t : Transfer) (words : List ℕ) → TpcAt l size ts words → InRange l size (length ts) t → TpcAt l size (ts ++ (t ∷ [])) (put_back (writes l ts t) words)
counted l size ts t words o r = record {
  long = length-put_back (writes l ts t) words ∙ o.long;
  count = written 0 (i + 1) [] w7 (room w7 l7 0 (omega arith)) (misses-none 0) ∙ sym (length_push ts t);
  branches = λ k lt. branch k lt (cases_eq t.branch k);
  tellers = λ k lt. teller k lt (cases_eq t.teller k);
  accounts = λ k lt. account k lt (cases_eq t.account k);
  history = λ j d lt. history j d (let e = length_push ts t in omega arith) (cases_lt j i);
  gap = λ a le lt. unwritten a (omega arith) (λ e. omega arith) (λ e. omega arith) (λ e. omega arith) (λ c few e. omega arith) ∙ o.gap a le lt;
  rest = λ a le. rest a (let e = length_push ts t in omega arith);
}
  where
    i : ℕ
    i = length ts

    rb : t.branch < l.branches
    rb = r.branch

    rt : t.teller < 10 * l.branches
    rt = r.teller

    ra : t.account < l.accounts
    ra = r.account

    rh : account_at l l.accounts ≤ l.history
    rh = r.history

    rr : row_at l (i + 1) ≤ size
    rr = r.room

    va : ℕ
    va = as_word (deltas_of (λ s. s.account) t.account ts +ℤ t.delta)

    vt : ℕ
    vt = as_word (deltas_of (λ s. s.teller) t.teller ts +ℤ t.delta)

    vb : ℕ
    vb = as_word (deltas_of (λ s. s.branch) t.branch ts +ℤ t.delta)

    w1 : List ℕ
    w1 = set words (account_at l t.account) va

    w2 : List ℕ
    w2 = set w1 (teller_at l t.teller) vt

    w3 : List ℕ
    w3 = set w2 (branch_at l t.branch) vb

    w4 : List ℕ
    w4 = set w3 (row_at l i) t.account

    w5 : List ℕ
    w5 = set w4 (row_at l i + 1) t.teller

    w6 : List ℕ
    w6 = set w5 (row_at l i + 2) t.branch

    w7 : List ℕ
    w7 = set w6 (row_at l i + 3) (as_word t.delta)

    new : List ℕ
    new = put_back (writes l ts t) words

    l1 : length w1 ≡ size
    l1 = length-set words (account_at l t.account) va ∙ o.long

    l2 : length w2 ≡ size
    l2 = length-set w1 (teller_at l t.teller) vt ∙ l1

    l3 : length w3 ≡ size
    l3 = length-set w2 (branch_at l t.branch) vb ∙ l2

    l4 : length w4 ≡ size
    l4 = length-set w3 (row_at l i) t.account ∙ l3

    l5 : length w5 ≡ size
    l5 = length-set w4 (row_at l i + 1) t.teller ∙ l4

    l6 : length w6 ≡ size
    l6 = length-set w5 (row_at l i + 2) t.branch ∙ l5

    l7 : length w7 ≡ size
    l7 = length-set w6 (row_at l i + 3) (as_word t.delta) ∙ l6

    room : (ws : List ℕ) → length ws ≡ size → (a : ℕ) → a < row_at l (i + 1) → a < length ws
    room ws e a lt = let more = rr in omega arith

    misses3 : (a : ℕ) → 0 < a → a ≢ branch_at l t.branch → ((c : ℕ) → c < 4 → a ≢ row_at l i + c) → Misses a ((branch_at l t.branch, vb) ∷ five l i t)
    misses3 a lt nb nr = misses-more a (branch_at l t.branch) vb (five l i t) nb (misses-five l i t a lt nr)

    misses2 : (a : ℕ) → 0 < a → a ≢ teller_at l t.teller → a ≢ branch_at l t.branch → ((c : ℕ) → c < 4 → a ≢ row_at l i + c) → Misses a ((teller_at l t.teller, vt) ∷ (branch_at l t.branch, vb) ∷ five l i t)
    misses2 a lt nt nb nr = misses-more a (teller_at l t.teller) vt ((branch_at l t.branch, vb) ∷ five l i t) nt (misses3 a lt nb nr)

    unwritten : (a : ℕ) → 0 < a → a ≢ account_at l t.account → a ≢ teller_at l t.teller → a ≢ branch_at l t.branch → ((c : ℕ) → c < 4 → a ≢ row_at l i + c) → slice_index new a ≡ slice_index words a
    unwritten a lt na nt nb nr = missed (writes l ts t) words a (misses-more a (account_at l t.account) va ((teller_at l t.teller, vt) ∷ (branch_at l t.branch, vb) ∷ five l i t) na (misses2 a lt nt nb nr))

    branch_here : slice_index new (branch_at l t.branch) ≡ vb
    branch_here = written (branch_at l t.branch) vb (five l i t) w2 (room w2 l2 (branch_at l t.branch) (omega arith)) (misses-five l i t (branch_at l t.branch) (omega arith) (λ c few e. omega arith))

    branch : (k : ℕ) → k < l.branches → (t.branch ≡ k) ⊎ (t.branch ≡ k → ⊥) → slice_index new (branch_at l k) ≡ as_word (deltas_of (λ s. s.branch) k (ts ++ (t ∷ [])))
    branch k lt (inl same) = subst (λ k. slice_index new (branch_at l k) ≡ as_word (deltas_of (λ s. s.branch) k (ts ++ (t ∷ [])))) same (branch_here ∙ ap as_word (sym (deltas-here (λ s. s.branch) t.branch ts t refl)))
    branch k lt (inr other) =
        unwritten (branch_at l k) (omega arith) (λ e. omega arith) (λ e. omega arith) (λ e. other (omega arith)) (λ c few e. omega arith)
        ∙ o.branches k lt ∙ ap as_word (sym (deltas-there (λ s. s.branch) k ts t other))

    teller_here : slice_index new (teller_at l t.teller) ≡ vt
    teller_here = written (teller_at l t.teller) vt ((branch_at l t.branch, vb) ∷ five l i t) w1 (room w1 l1 (teller_at l t.teller) (omega arith)) (misses3 (teller_at l t.teller) (omega arith) (λ e. omega arith) (λ c few e. omega arith))

    teller : (k : ℕ) → k < 10 * l.branches → (t.teller ≡ k) ⊎ (t.teller ≡ k → ⊥) → slice_index new (teller_at l k) ≡ as_word (deltas_of (λ s. s.teller) k (ts ++ (t ∷ [])))
    teller k lt (inl same) = subst (λ k. slice_index new (teller_at l k) ≡ as_word (deltas_of (λ s. s.teller) k (ts ++ (t ∷ [])))) same (teller_here ∙ ap as_word (sym (deltas-here (λ s. s.teller) t.teller ts t refl)))
    teller k lt (inr other) =
        unwritten (teller_at l k) (omega arith) (λ e. omega arith) (λ e. other (omega arith)) (λ e. omega arith) (λ c few e. omega arith)
        ∙ o.tellers k lt ∙ ap as_word (sym (deltas-there (λ s. s.teller) k ts t other))

    account_here : slice_index new (account_at l t.account) ≡ va
    account_here = written (account_at l t.account) va ((teller_at l t.teller, vt) ∷ (branch_at l t.branch, vb) ∷ five l i t) words (room words o.long (account_at l t.account) (omega arith)) (misses2 (account_at l t.account) (omega arith) (λ e. omega arith) (λ e. omega arith) (λ c few e. omega arith))

    account : (k : ℕ) → k < l.accounts → (t.account ≡ k) ⊎ (t.account ≡ k → ⊥) → slice_index new (account_at l k) ≡ as_word (deltas_of (λ s. s.account) k (ts ++ (t ∷ [])))
    account k lt (inl same) = subst (λ k. slice_index new (account_at l k) ≡ as_word (deltas_of (λ s. s.account) k (ts ++ (t ∷ [])))) same (account_here ∙ ap as_word (sym (deltas-here (λ s. s.account) t.account ts t refl)))
    account k lt (inr other) =
        unwritten (account_at l k) (omega arith) (λ e. other (omega arith)) (λ e. omega arith) (λ e. omega arith) (λ c few e. omega arith)
        ∙ o.accounts k lt ∙ ap as_word (sym (deltas-there (λ s. s.account) k ts t other))

    mine : IsRow new (row_at l i) t
    mine = record {
      account = written (row_at l i) t.account ((row_at l i + 1, t.teller) ∷ (row_at l i + 2, t.branch) ∷ (row_at l i + 3, as_word t.delta) ∷ (0, i + 1) ∷ []) w3 (room w3 l3 (row_at l i) (omega arith))
          (misses-more (row_at l i) (row_at l i + 1) t.teller ((row_at l i + 2, t.branch) ∷ (row_at l i + 3, as_word t.delta) ∷ (0, i + 1) ∷ []) (λ e. omega arith)
          (misses-more (row_at l i) (row_at l i + 2) t.branch ((row_at l i + 3, as_word t.delta) ∷ (0, i + 1) ∷ []) (λ e. omega arith)
          (misses-more (row_at l i) (row_at l i + 3) (as_word t.delta) ((0, i + 1) ∷ []) (λ e. omega arith)
          (misses-more (row_at l i) 0 (i + 1) [] (λ e. omega arith) (misses-none (row_at l i))))));
      teller = written (row_at l i + 1) t.teller ((row_at l i + 2, t.branch) ∷ (row_at l i + 3, as_word t.delta) ∷ (0, i + 1) ∷ []) w4 (room w4 l4 (row_at l i + 1) (omega arith))
          (misses-more (row_at l i + 1) (row_at l i + 2) t.branch ((row_at l i + 3, as_word t.delta) ∷ (0, i + 1) ∷ []) (λ e. omega arith)
          (misses-more (row_at l i + 1) (row_at l i + 3) (as_word t.delta) ((0, i + 1) ∷ []) (λ e. omega arith)
          (misses-more (row_at l i + 1) 0 (i + 1) [] (λ e. omega arith) (misses-none (row_at l i + 1)))));
      branch = written (row_at l i + 2) t.branch ((row_at l i + 3, as_word t.delta) ∷ (0, i + 1) ∷ []) w5 (room w5 l5 (row_at l i + 2) (omega arith))
          (misses-more (row_at l i + 2) (row_at l i + 3) (as_word t.delta) ((0, i + 1) ∷ []) (λ e. omega arith)
          (misses-more (row_at l i + 2) 0 (i + 1) [] (λ e. omega arith) (misses-none (row_at l i + 2))));
      delta = written (row_at l i + 3) (as_word t.delta) ((0, i + 1) ∷ []) w6 (room w6 l6 (row_at l i + 3) (omega arith))
          (misses-more (row_at l i + 3) 0 (i + 1) [] (λ e. omega arith) (misses-none (row_at l i + 3)));
    }

    earlier : (j c : ℕ) → j < i → c < 4 → slice_index new (row_at l j + c) ≡ slice_index words (row_at l j + c)
    earlier j c lt few = unwritten (row_at l j + c) (omega arith) (λ e. omega arith) (λ e. omega arith) (λ e. omega arith) (λ b less e. omega arith)

    history : (j : ℕ) (d : Transfer) → j < i + 1 → (j < i) ⊎ (i ≤ j) → IsRow new (row_at l j) (get_or (ts ++ (t ∷ [])) j d)
    history j d lt (inl less) =
        let old = o.history j d less in
        subst (IsRow new (row_at l j)) (sym (get_or_append_left ts (t ∷ []) d j less)) (record {
          account = unwritten (row_at l j) (omega arith) (λ e. omega arith) (λ e. omega arith) (λ e. omega arith) (λ b few e. omega arith) ∙ old.account;
          teller = earlier j 1 less (omega arith) ∙ old.teller;
          branch = earlier j 2 less (omega arith) ∙ old.branch;
          delta = earlier j 3 less (omega arith) ∙ old.delta;
        })
    history j d lt (inr le) =
        let same : i ≡ j = omega arith in
        subst (λ k. IsRow new (row_at l k) (get_or (ts ++ (t ∷ [])) k d)) same (subst (IsRow new (row_at l i)) (sym (get_or-append_seam ts t [] d)) mine)

    rest : (a : ℕ) → row_at l (i + 1) ≤ a → slice_index new a ≡ 0
    rest a le = unwritten a (omega arith) (λ e. omega arith) (λ e. omega arith) (λ e. omega arith) (λ c few e. omega arith) ∙ o.rest a (omega arith)

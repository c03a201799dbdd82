-- Bytes that are written from a place on: those written and those left are together the same.
use Rattle.std.proofs.Common.{◌≡◌, ◌∙◌, ℕ, ◌+◌, ◌-◌, ◌≤◌, List, ◌++◌, length, take, drop, Option, Ok, sym, ap, subst, arith}
use Rattle.std.proofs.lemmas.List.{take-append-drop, drop-drop, length-drop, take_rest}
use Rattle.envy_io.proofs.WritesLemmas.{with_end-with_end}
use Rattle.envy_io.specs.Streams.{Drain, Writes, with_end}

-- written from `done` on up to `now`
pub record Conserved (bytes : List ℕ) (done : ℕ) (old : Drain) (now : ℕ) (new : Drain) : Type 0 where
  pub from : done ≤ now
  pub within : now ≤ length bytes
  pub same : with_end new.written (drop now bytes) ≡ with_end old.written (drop done bytes)

-- a front of the rest written
pub conserve_more : (mid new : Option (List ℕ)) (bytes : List ℕ) (done n : ℕ) → new ≡ with_end mid (take n (drop done bytes)) → with_end new (drop (done + n) bytes) ≡ with_end mid (drop done bytes)
conserve_more mid new bytes done n wrote =
    ap (λ (w : Option (List ℕ)). with_end w (drop (done + n) bytes)) wrote
    ∙ with_end-with_end mid (take n (drop done bytes)) (drop (done + n) bytes)
    ∙ ap (with_end mid) (ap (λ (rest : List ℕ). take n (drop done bytes) ++ rest) (sym (drop-drop n done bytes)) ∙ take-append-drop n (drop done bytes))

-- a write conserves what is written and left
pub conserved_more : (bytes : List ℕ) (done : ℕ) (old : Drain) (now : ℕ) (mid : Drain) (n : ℕ) (new : Drain) → Conserved bytes done old now mid → Writes mid (take (length bytes - now) (drop now bytes)) (Ok n) new → Conserved bytes done old (now + n) new
conserved_more bytes done old now mid n new so_far wrote =
    let of_rest : Writes mid (drop now bytes) (Ok n) new = subst (λ (rest : List ℕ). Writes mid rest (Ok n) new) (take_rest bytes now) wrote in
    let fits = of_rest.1 in
    record {
      from = let le = so_far.from in omega arith;
      within = let rest = length-drop now bytes in let le = so_far.within in omega arith;
      same = conserve_more mid.written new.written bytes now n of_rest.2 ∙ so_far.same;
    }

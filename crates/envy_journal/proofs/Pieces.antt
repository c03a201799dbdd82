-- Bytes in pieces of 128, and their zeros.
use Rattle.std.proofs.Common.{◌≡◌, ℕ, zero, suc, ◌+◌, ◌*◌, ◌<◌, ◌≤◌, List, length, get_or, take, drop, refl, sym, ◌∙◌, ap, arith, length-drop, length-take, take-append-drop}
use Rattle.std.proofs.lemmas.List.{drop-drop}
use Rattle.std.proofs.Math.Seq.{take-add}
use Rattle.std.specs.Simd.{first_chunks}
use Rattle.envy_journal.specs.Reading.{zeros}
use Rattle.envy_journal.proofs.Counting.{zeros_both, zeros_few}

-- a piece by its place
piece_at : (n i : ℕ) (l d : List ℕ) → i < n → get_or (first_chunks 128 n l) i d ≡ take 128 (drop (i * 128) l)
piece_at zero i l d lt = absurd (omega (arith, lt))
piece_at (suc n) zero l d lt = refl
piece_at (suc n) (suc i) l d lt =
    piece_at n i (drop 128 l) d (omega (arith, lt)) ∙ ap (take 128) (drop-drop (i * 128) 128 l ∙ ap (λ (k : ℕ). drop k l) (omega arith))

-- one piece more
pub zeros_piece : (n i : ℕ) (l d : List ℕ) → i < n → zeros (take ((i + 1) * 128) l) ≡ zeros (take (i * 128) l) + zeros (get_or (first_chunks 128 n l) i d)
zeros_piece n i l d lt =
    ap (λ (k : ℕ). zeros (take k l)) (omega arith)
    ∙ ap zeros (take-add (i * 128) 128 l)
    ∙ zeros_both (take (i * 128) l) (take 128 (drop (i * 128) l))
    ∙ ap (λ (m : List ℕ). zeros (take (i * 128) l) + zeros m) (sym (piece_at n i l d lt))

-- all pieces, and what is behind them
pub zeros_cut : (m : ℕ) (l : List ℕ) → zeros (drop m l) + zeros (take m l) ≡ zeros l
zeros_cut m l = omega (arith, zeros_both (take m l) (drop m l), ap zeros (take-append-drop m l))

pub zeros_cut_few : (k m : ℕ) (l : List ℕ) → k ≤ m → zeros (drop m l) + zeros (take k l) ≤ length l
zeros_cut_few k m l le = omega (arith, zeros_few (drop m l), zeros_few (take k l), length-drop m l, length-take {A = ℕ}, le)

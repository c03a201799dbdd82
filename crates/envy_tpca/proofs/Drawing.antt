-- One transfer more of a load.
use Rattle.std.proofs.Common.{◌≡◌, ℕ, zero, suc, ◌+◌, [], ◌∷◌, ◌++◌, length, refl, ◌∙◌, ap, add-one}
use Rattle.std.proofs.lemmas.List.{length_push}
use Rattle.rand_pcg.specs.Lcg.{Lcg}
use Rattle.rand_pcg.specs.Pcg.{pcg64}
use Rattle.envy_tpca.specs.declared.transfer.Transfer.{Transfer}
use Rattle.envy_tpca.specs.Load.{Draws, drawn, next_transfer, after, first}

abbrev left : Draws → Lcg → Draws
left d s = record { branches = d.branches; accounts = d.accounts; words = s }

-- three draws make a transfer
pub drawn-next : (d : Draws) (x y z : ℕ) (s1 s2 s3 : Lcg) (t : Transfer) → (x, s1) ≡ pcg64 d.words → (y, s2) ≡ pcg64 s1 → (z, s3) ≡ pcg64 s2 → t ≡ drawn d.branches d.accounts x y z → (t, left d s3) ≡ next_transfer d
unfolding next_transfer
drawn-next d x y z s1 s2 s3 t e1 e2 e3 et =
    let a0 : x ≡ (pcg64 d.words).0 = ap (λ (p : ℕ × Lcg). p.0) e1 in
    let a1 : s1 ≡ (pcg64 d.words).1 = ap (λ (p : ℕ × Lcg). p.1) e1 in
    let b0 : y ≡ (pcg64 (pcg64 d.words).1).0 = ap (λ (p : ℕ × Lcg). p.0) e2 ∙ ap (λ (s : Lcg). (pcg64 s).0) a1 in
    let b1 : s2 ≡ (pcg64 (pcg64 d.words).1).1 = ap (λ (p : ℕ × Lcg). p.1) e2 ∙ ap (λ (s : Lcg). (pcg64 s).1) a1 in
    let c0 : z ≡ (pcg64 (pcg64 (pcg64 d.words).1).1).0 = ap (λ (p : ℕ × Lcg). p.0) e3 ∙ ap (λ (s : Lcg). (pcg64 s).0) b1 in
    let c1 : s3 ≡ (pcg64 (pcg64 (pcg64 d.words).1).1).1 = ap (λ (p : ℕ × Lcg). p.1) e3 ∙ ap (λ (s : Lcg). (pcg64 s).1) b1 in
    ap (λ (u : Transfer). (u, left d s3)) et
    ∙ ap (λ (k : ℕ). (drawn d.branches d.accounts k y z, left d s3)) a0
    ∙ ap (λ (k : ℕ). (drawn d.branches d.accounts (pcg64 d.words).0 k z, left d s3)) b0
    ∙ ap (λ (k : ℕ). (drawn d.branches d.accounts (pcg64 d.words).0 (pcg64 (pcg64 d.words).1).0 k, left d s3)) c0
    ∙ ap (λ (s : Lcg). (drawn d.branches d.accounts (pcg64 d.words).0 (pcg64 (pcg64 d.words).1).0 (pcg64 (pcg64 (pcg64 d.words).1).1).0, left d s)) c1

-- ---- the first transfers

pub first-none : (d : Draws) → first 0 d ≡ []
unfolding first
first-none d = refl

pub after-none : (d : Draws) → after 0 d ≡ d
unfolding after
after-none d = refl

-- the next transfer is put behind those drawn
pub first-more : (n : ℕ) (d : Draws) → first (n + 1) d ≡ first n d ++ (next_transfer (after n d)).0 ∷ []
unfolding first
first-more n d = ap (λ (k : ℕ). first k d) (add-one n)

-- and the generator goes on
pub after-more : (n : ℕ) (d : Draws) → after (n + 1) d ≡ (next_transfer (after n d)).1
unfolding after
after-more n d = ap (λ (k : ℕ). after k d) (add-one n)

pub length-first : (n : ℕ) (d : Draws) → length (first n d) ≡ n
unfolding first
length-first zero d = refl
length-first (suc n) d = length_push (first n d) (next_transfer (after n d)).0 ∙ ap (λ (k : ℕ). k + 1) (length-first n d) ∙ add-one n

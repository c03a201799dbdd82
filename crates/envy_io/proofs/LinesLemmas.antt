-- The lines of bytes.
use Rattle.std.proofs.Common.{◌≡◌, ◌≢◌, ℕ, zero, suc, ◌<◌, ◌≤◌, Bool, false, eqb, cond, List, [], ◌∷◌, ◌++◌, length, take, refl, ap, ◌∙◌, arith}
use Rattle.std.proofs.lemmas.Bool.Decides.{nat_tests}
use Rattle.std.proofs.lemmas.List.{append_assoc}
use Rattle.std.specs.List.{AllByRecursion}
use Rattle.envy_io.specs.Lines.{NoNewline, newline, onto_first, lines_of, spelled}

not_newline : (b : ℕ) → b ≢ newline → eqb b newline ≡ false
not_newline b other = grind (arith, nat_tests)

lines_of-byte : (b : ℕ) (bytes : List ℕ) → b ≢ newline → lines_of (b ∷ bytes) ≡ onto_first b (lines_of bytes)
unfolding lines_of
lines_of-byte b bytes other = ap (λ (t : Bool). cond t ([] ∷ lines_of bytes) (onto_first b (lines_of bytes))) (not_newline b other)

lines_of-newline : (bytes : List ℕ) → lines_of (newline ∷ bytes) ≡ [] ∷ lines_of bytes
unfolding lines_of
lines_of-newline bytes = refl

pub lines_of-nil : lines_of [] ≡ []
unfolding lines_of
lines_of-nil = refl

-- a whole line, and what stands behind it
pub lines_of-whole : (line rest : List ℕ) → NoNewline line → lines_of (line ++ newline ∷ rest) ≡ line ∷ lines_of rest
lines_of-whole [] rest plain = lines_of-newline rest
lines_of-whole (b ∷ line) rest (other, plain) =
    lines_of-byte b (line ++ newline ∷ rest) other ∙ ap (onto_first b) (lines_of-whole line rest plain)

-- a last line without a newline
pub lines_of-last : (line : List ℕ) → NoNewline line → 0 < length line → lines_of line ≡ line ∷ []
lines_of-last [] plain some = absurd (omega arith)
lines_of-last (b ∷ []) (other, plain) some = lines_of-byte b [] other ∙ ap (onto_first b) lines_of-nil
lines_of-last (b ∷ c ∷ line) (other, plain) some =
    lines_of-byte b (c ∷ line) other ∙ ap (onto_first b) (lines_of-last (c ∷ line) plain (omega arith))

-- lines that are spelled out are the lines, whatever follows them
pub lines_of-spelled : (lines : List (List ℕ)) (rest : List ℕ) → AllByRecursion NoNewline lines → lines_of (spelled lines ++ rest) ≡ lines ++ lines_of rest
lines_of-spelled [] rest each = refl
lines_of-spelled (line ∷ lines) rest (plain, each) =
    let regrouped : spelled (line ∷ lines) ++ rest ≡ line ++ newline ∷ (spelled lines ++ rest) = append_assoc (line ++ newline ∷ []) (spelled lines) rest ∙ append_assoc line (newline ∷ []) (spelled lines ++ rest) in
    ap lines_of regrouped ∙ (lines_of-whole line (spelled lines ++ rest) plain ∙ ap (λ (ls : List (List ℕ)). line ∷ ls) (lines_of-spelled lines rest each))

first-onto : (b : ℕ) (rest lines : List (List ℕ)) → lines ≡ onto_first b rest → (long : List ℕ) × (more : List (List ℕ)) × (lines ≡ long ∷ more) × (1 ≤ length long)
first-onto b [] lines is = (b ∷ [], [], is, omega arith)
first-onto b (line ∷ rest) lines is = (b ∷ line, rest, is, omega arith)

-- a front without a newline is part of the first line
pub lines_of-long : (n : ℕ) (bytes : List ℕ) → suc n ≤ length bytes → NoNewline (take (suc n) bytes) → (long : List ℕ) × (more : List (List ℕ)) × (lines_of bytes ≡ long ∷ more) × (suc n ≤ length long)
lines_of-long n [] far plain = absurd (omega arith)
lines_of-long zero (b ∷ bytes) far (other, plain) = first-onto b (lines_of bytes) (lines_of (b ∷ bytes)) (lines_of-byte b bytes other)
lines_of-long (suc n) (b ∷ bytes) far (other, plain) =
    let (long, more, is, far') = lines_of-long n bytes (omega arith) plain in
    (b ∷ long, more, lines_of-byte b bytes other ∙ ap (onto_first b) is, omega arith)

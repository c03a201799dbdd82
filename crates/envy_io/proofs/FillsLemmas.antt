-- Bytes that are put in front of a slice.
use Rattle.std.proofs.Common.{◌≡◌, ℕ, ◌+◌, ◌<◌, ◌≤◌, min, List, [], ◌++◌, length, take, drop, ap, sym, ◌∙◌, arith, length-append}
use Rattle.std.proofs.lemmas.List.{take-append-drop, take_at, drop-drop, nil_from_length}

pub front-fits : (front rest : List ℕ) (n : ℕ) → length front ≡ n → n ≤ length (front ++ rest)
front-fits front rest n long = omega (arith, length-append front rest)

-- what was left is what stands in front of the slice, and then what is left now
pub front-left : (bytes left front rest : List ℕ) (start n : ℕ) → length front ≡ n → left ≡ drop start bytes → front ≡ take n left → left ≡ take n (front ++ rest) ++ drop (start + n) bytes
front-left bytes left front rest start n long is given =
    let shown : take n (front ++ rest) ≡ take n left = take_at front rest n long ∙ given in
    let gone : drop (start + n) bytes ≡ drop n left = sym (drop-drop n start bytes) ∙ ap (drop n) (sym is) in
    sym (take-append-drop n left) ∙ rw (shown, gone)

-- the answer is the least of three numbers, the first of them how many bytes are left
pub count-le : (shown left : List ℕ) (a b n piece : ℕ) → shown ≡ left → a ≡ min (length shown) b → n ≡ min a piece → n ≤ length left
count-le shown left a b n piece is first second = omega (arith, ap length is)

pub none-left : (shown left : List ℕ) (a b n piece : ℕ) → shown ≡ left → a ≡ min (length shown) b → n ≡ min a piece → 0 < b → 1 ≤ piece → n ≡ 0 → left ≡ []
none-left shown left a b n piece is first second some one none = nil_from_length left (omega (arith, ap length is))

-- The words of a range, and those outside it.
use Rattle.std.proofs.Common.{◌≡◌, ℕ, zero, suc, ◌+◌, ◌-◌, ◌<◌, ◌≤◌, List, ◌++◌, length, take, drop, get_or, set, ap, sym, ◌∙◌, inl, inr, arith}
use Rattle.std.proofs.lemmas.List.{drop-drop, drop-set-add, drop-set-lt, drop-take, drop_at, get_or-drop, get_or-take, length-take-le, take-set-le, take-take, take_at}
use Rattle.std.proofs.lemmas.List.Edits.{paste_more, paste_none}
use Rattle.std.proofs.Math.Seq.{take-set-lt}
use Rattle.envy_array.specs.Words.{pasted, run_at}
use Rattle.envy_range.specs.Ranges.{inside, outside, IsApart}

pub inside-at : (first count a : ℕ) (ws : List ℕ) → a < count → get_or (inside first count ws) a 0 ≡ get_or ws (first + a) 0
unfolding inside
inside-at first count a ws lt = get_or-take count (drop first ws) a 0 lt ∙ get_or-drop first ws a 0

pub inside-set : (first count a w : ℕ) (ws : List ℕ) → a < count → inside first count (set ws (first + a) w) ≡ set (inside first count ws) a w
unfolding inside
inside-set first count a w ws lt = ap (take count) (drop-set-add first ws a w) ∙ take-set-lt count (drop first ws) a w lt

pub outside-set : (first count a w : ℕ) (ws : List ℕ) → a < count → outside first count (set ws (first + a) w) ≡ outside first count ws
unfolding outside
outside-set first count a w ws lt =
    ap (λ (front : List ℕ). front ++ drop (first + count) (set ws (first + a) w)) (take-set-le first ws (first + a) w (omega arith))
    ∙ ap (λ (rear : List ℕ). take first ws ++ rear) (drop-set-lt (first + count) ws (first + a) w (omega (arith, lt)))

-- runs of the words of a range
pub run-inside : (first count a n : ℕ) (ws : List ℕ) → a + n ≤ count → run_at (inside first count ws) a n ≡ run_at ws (first + a) n
unfolding inside
run-inside first count a n ws le =
    ap (λ (m : ℕ). take n (drop a (take m (drop first ws)))) sum
    ∙ ap (take n) (drop-take a (count - a) (drop first ws))
    ∙ take-take n (count - a) (drop a (drop first ws)) (omega (arith, le))
    ∙ ap (take n) (drop-drop a first ws)
  where
    sum : count ≡ a + (count - a)
    sum = omega (arith, le)

pub pasted-inside : (first count a n : ℕ) (list ws : List ℕ) → first + count ≤ length ws → length (inside first count ws) ≡ count → a + n ≤ count → n ≤ length list → inside first count (pasted (first + a) list n ws) ≡ pasted a list n (inside first count ws)
pasted-inside first count a zero list ws fits long le has = ap (inside first count) (sym (paste_none ws (first + a) list)) ∙ paste_none (inside first count ws) a list
pasted-inside first count a (suc n) list ws fits long le has =
    let on : suc n ≡ n + 1 = omega arith in
    let at : first + a + n ≡ first + (a + n) = omega arith in
    ap (λ (k : ℕ). inside first count (pasted (first + a) list k ws)) on
    ∙ ap (inside first count) (sym (paste_more ws (first + a) list n 0 (omega (arith, fits, le)) (omega (arith, has))))
    ∙ ap (λ (k : ℕ). inside first count (set (pasted (first + a) list n ws) k (get_or list n 0))) at
    ∙ inside-set first count (a + n) (get_or list n 0) (pasted (first + a) list n ws) (omega (arith, le))
    ∙ ap (λ (x : List ℕ). set x (a + n) (get_or list n 0)) (pasted-inside first count a n list ws fits long (omega (arith, le)) (omega (arith, has)))
    ∙ paste_more (inside first count ws) a list n 0 (omega (arith, long, le)) (omega (arith, has))
    ∙ ap (λ (k : ℕ). pasted a list k (inside first count ws)) (sym on)

pub pasted-outside : (first count a n : ℕ) (list ws : List ℕ) → first + count ≤ length ws → a + n ≤ count → n ≤ length list → outside first count (pasted (first + a) list n ws) ≡ outside first count ws
pasted-outside first count a zero list ws fits le has = ap (outside first count) (sym (paste_none ws (first + a) list))
pasted-outside first count a (suc n) list ws fits le has =
    let on : suc n ≡ n + 1 = omega arith in
    let at : first + a + n ≡ first + (a + n) = omega arith in
    ap (λ (k : ℕ). outside first count (pasted (first + a) list k ws)) on
    ∙ ap (outside first count) (sym (paste_more ws (first + a) list n 0 (omega (arith, fits, le)) (omega (arith, has))))
    ∙ ap (λ (k : ℕ). outside first count (set (pasted (first + a) list n ws) k (get_or list n 0))) at
    ∙ outside-set first count (a + n) (get_or list n 0) (pasted (first + a) list n ws) (omega (arith, le))
    ∙ pasted-outside first count a n list ws fits (omega (arith, le)) (omega (arith, has))

-- what is outside is before the range and after it
pub front-same : (first count : ℕ) (xs ys : List ℕ) → first ≤ length xs → first ≤ length ys → outside first count xs ≡ outside first count ys → take first xs ≡ take first ys
unfolding outside
front-same first count xs ys long size same =
    sym (take_at (take first xs) (drop (first + count) xs) first (length-take-le first xs long))
    ∙ ap (take first) same
    ∙ take_at (take first ys) (drop (first + count) ys) first (length-take-le first ys size)

pub rear-same : (first count : ℕ) (xs ys : List ℕ) → first ≤ length xs → first ≤ length ys → outside first count xs ≡ outside first count ys → drop (first + count) xs ≡ drop (first + count) ys
unfolding outside
rear-same first count xs ys long size same =
    sym (drop_at (take first xs) (drop (first + count) xs) first (length-take-le first xs long))
    ∙ ap (drop first) same
    ∙ drop_at (take first ys) (drop (first + count) ys) first (length-take-le first ys size)

-- a range after another, and one before it
after : (past other size : ℕ) (xs ys : List ℕ) → past ≤ other → drop past xs ≡ drop past ys → take size (drop other xs) ≡ take size (drop other ys)
after past other size xs ys le same =
    ap (λ (n : ℕ). take size (drop n xs)) sum
    ∙ ap (take size) (sym (drop-drop (other - past) past xs))
    ∙ ap (λ (rest : List ℕ). take size (drop (other - past) rest)) same
    ∙ ap (take size) (drop-drop (other - past) past ys)
    ∙ ap (λ (n : ℕ). take size (drop n ys)) (sym sum)
  where
    sum : other ≡ past + (other - past)
    sum = omega (arith, le)

before : (first other size : ℕ) (xs ys : List ℕ) → other + size ≤ first → take first xs ≡ take first ys → take size (drop other xs) ≡ take size (drop other ys)
before first other size xs ys le same =
    sym (drop-take other size xs)
    ∙ ap (drop other) (sym (take-take (other + size) first xs le) ∙ ap (take (other + size)) same ∙ take-take (other + size) first ys le)
    ∙ drop-take other size ys

pub apart : (first count other size : ℕ) (old new : List ℕ) → IsApart first count other size → first + count ≤ length old → length new ≡ length old → outside first count new ≡ outside first count old → inside other size new ≡ inside other size old
unfolding inside
apart first count other size old new (inl le) fits long same = after (first + count) other size new old le (rear-same first count new old (omega (arith, fits, long)) (omega (arith, fits)) same)
apart first count other size old new (inr le) fits long same = before first other size new old le (front-same first count new old (omega (arith, fits, long)) (omega (arith, fits)) same)

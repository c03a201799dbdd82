-- What writing a node leaves in the words.
use Rattle.std.proofs.Common.{◌≡◌, ℕ, ◌+◌, ◌-◌, ◌*◌, ◌<◌, ◌≤◌, List, ◌++◌, length, take, drop, get_or, set, ap, sym, subst, ◌∙◌, arith}
use Rattle.std.proofs.lemmas.List.{get_or-set_same, get_or-set_other, length-set, get_or-take, get_or-drop, length-take, length-drop, length-append, get_or_append_left, get_or-append_right, ext_get_or}
use Rattle.envy_heap.specs.Pieces.{head, at}
use Rattle.envy_btree.specs.Tree.{Shows, window}
use Rattle.envy_array.specs.Words.{pasted}
use Rattle.envy_btree.specs.Nodes.{OnlyPiece}

front-long : (ws : List ℕ) (a : ℕ) → a ≤ length ws → length (take a ws) ≡ a
front-long ws a h = omega (arith, length-take a ws)

pub pasted-long : (ws : List ℕ) (a n : ℕ) (xs : List ℕ) → n ≡ length xs → a + n ≤ length ws → length (pasted a xs n ws) ≡ length ws
pasted-long ws a n xs e h = omega (arith, length-append (take a ws ++ take n xs) (drop (a + n) ws), length-append (take a ws) (take n xs), length-take a ws, length-take n xs, length-drop (a + n) ws)

pub pasted-before : (ws : List ℕ) (a n k : ℕ) (xs : List ℕ) → n ≡ length xs → a + n ≤ length ws → k < a → get_or (pasted a xs n ws) k 0 ≡ get_or ws k 0
pasted-before ws a n k xs e h lt =
    get_or_append_left (take a ws ++ take n xs) (drop (a + n) ws) 0 k (omega (arith, length-append (take a ws) (take n xs), length-take a ws))
    ∙ get_or_append_left (take a ws) (take n xs) 0 k (omega (arith, length-take a ws))
    ∙ get_or-take a ws k 0 lt

pub pasted-in : (ws : List ℕ) (a n j : ℕ) (xs : List ℕ) → n ≡ length xs → a + n ≤ length ws → j < n → get_or (pasted a xs n ws) (a + j) 0 ≡ get_or xs j 0
pasted-in ws a n j xs e h lt =
    get_or_append_left (take a ws ++ take n xs) (drop (a + n) ws) 0 (a + j) (omega (arith, length-append (take a ws) (take n xs), length-take a ws, length-take n xs))
    ∙ get_or-append_right (take a ws) (take n xs) a (a + j) 0 (omega (arith, length-take a ws)) (omega arith)
    ∙ ap (λ k. get_or (take n xs) k 0) (let m : a + j - a ≡ j = omega arith in m)
    ∙ get_or-take n xs j 0 lt

pub pasted-after : (ws : List ℕ) (a n k : ℕ) (xs : List ℕ) → n ≡ length xs → a + n ≤ length ws → a + n ≤ k → get_or (pasted a xs n ws) k 0 ≡ get_or ws k 0
pasted-after ws a n k xs e h le =
    get_or-append_right (take a ws ++ take n xs) (drop (a + n) ws) (a + n) k 0 (omega (arith, length-append (take a ws) (take n xs), length-take a ws, length-take n xs)) le
    ∙ get_or-drop (a + n) ws (k - (a + n)) 0
    ∙ ap (λ m. get_or ws m 0) (let m : a + n + (k - (a + n)) ≡ k = omega arith in m)

-- a window is the list that stands there
pub window-is : (ws : List ℕ) (a n : ℕ) (xs : List ℕ) → n ≡ length xs → a + n ≤ length ws → ((j : ℕ) → j < n → get_or ws (a + j) 0 ≡ get_or xs j 0) → window ws a n ≡ xs
window-is ws a n xs e h same =
    let long : length (window ws a n) ≡ n = omega (arith, length-take n (drop a ws), length-drop a ws) in
    ext_get_or 0 (window ws a n) xs (long ∙ e) (λ j lt. get_or-take n (drop a ws) j 0 (omega arith) ∙ get_or-drop a ws j 0 ∙ same j (omega arith))

pub window-at : (ws : List ℕ) (a n j : ℕ) (xs : List ℕ) → window ws a n ≡ xs → j < n → get_or ws (a + j) 0 ≡ get_or xs j 0
window-at ws a n j xs e lt = sym (get_or-drop a ws j 0) ∙ sym (get_or-take n (drop a ws) j 0 lt) ∙ ap (λ x. get_or x j 0) e

-- the count, the keys and the slots, one after another
pub written : (ws : List ℕ) (p kind c n m : ℕ) (keys slots : List ℕ) → at p 63 < length ws → n ≡ length keys → m ≡ length slots → n ≤ 31 → m ≤ 32 → c ≡ 2 * n + kind
    → Shows (pasted (at p 32) slots m (pasted (at p 1) keys n (set ws (head p) c))) p kind keys slots × OnlyPiece p ws (pasted (at p 32) slots m (pasted (at p 1) keys n (set ws (head p) c)))
written ws p kind c n m keys slots within ne me few fewer ce =
    let one_long : length (set ws (head p) c) ≡ length ws = length-set ws (head p) c in
    let two : List ℕ = pasted (at p 1) keys n (set ws (head p) c) in
    let two_long : length two ≡ length ws = pasted-long (set ws (head p) c) (at p 1) n keys ne (omega arith) ∙ one_long in
    let three : List ℕ = pasted (at p 32) slots m two in
    let three_long : length three ≡ length ws = pasted-long two (at p 32) m slots me (omega arith) ∙ two_long in
    let first : get_or three (head p) 0 ≡ c = pasted-before two (at p 32) m (head p) slots me (omega arith) (omega arith) ∙ pasted-before (set ws (head p) c) (at p 1) n (head p) keys ne (omega arith) (omega arith) ∙ get_or-set_same ws (head p) c 0 (omega arith) in
    let middle : (j : ℕ) → j < n → get_or three (at p 1 + j) 0 ≡ get_or keys j 0 = λ j lt. pasted-before two (at p 32) m (at p 1 + j) slots me (omega arith) (omega arith) ∙ pasted-in (set ws (head p) c) (at p 1) n j keys ne (omega arith) lt in
    let last : (j : ℕ) → j < m → get_or three (at p 32 + j) 0 ≡ get_or slots j 0 = λ j lt. pasted-in two (at p 32) m j slots me (omega arith) lt in (
      record {
        count = first ∙ ce ∙ ap (λ x. 2 * x + kind) ne;
        front = subst (λ x. window three (at p 1) x ≡ keys) ne (window-is three (at p 1) n keys ne (omega arith) middle);
        back = subst (λ x. window three (at p 32) x ≡ slots) me (window-is three (at p 32) m slots me (omega arith) last);
      },
      record {
        long = three_long;
        before = λ a lt. pasted-before two (at p 32) m a slots me (omega arith) (omega arith) ∙ pasted-before (set ws (head p) c) (at p 1) n a keys ne (omega arith) (omega arith) ∙ get_or-set_other ws (head p) a c 0 (omega arith);
        after = λ a le. pasted-after two (at p 32) m a slots me (omega arith) (omega arith) ∙ pasted-after (set ws (head p) c) (at p 1) n a keys ne (omega arith) (omega arith) ∙ get_or-set_other ws (head p) a c 0 (omega arith);
      },
    )

-- Lists that open or close at a place, where they stand in the words, and the nodes that have them.
use Rattle.std.proofs.Common.{◌≡◌, ℕ, suc, ◌+◌, ◌-◌, ◌*◌, ◌/◌, ◌%◌, ◌<◌, ◌≤◌, List, ◌∷◌, length, drop, get_or, set, ap, sym, subst, ◌∙◌, inl, inr, arith}
use Rattle.std.specs.List.{insert, remove}
use Rattle.std.proofs.lemmas.Bool.{cases_eq, cases_lt}
use Rattle.std.proofs.lemmas.List.{get_or-set_same, get_or-set_other, length-set, get_or-take, get_or-drop, length-take, length-drop}
use Rattle.std.proofs.lemmas.List.Edits.{length-insert, length-remove, get_or-insert_at, get_or-insert_below, get_or-insert_above, get_or-remove_below, get_or-remove_above}
use Rattle.envy_heap.specs.Pieces.{head, at}
use Rattle.envy_btree.specs.Tree.{Shows, window}
use Rattle.envy_array.specs.Words.{pasted}
use Rattle.envy_btree.specs.Nodes.{OnlyPiece}
use Rattle.envy_btree.specs.Spots.{Opens, Closes, keys_at, slots_at}
use Rattle.envy_btree.proofs.Writing.{pasted-long, pasted-before, pasted-in, pasted-after, window-is}

pub window-long : (ws : List ℕ) (a n : ℕ) → a + n ≤ length ws → length (window ws a n) ≡ n
window-long ws a n h = omega (arith, length-take n (drop a ws), length-drop a ws)

pub window-get : (ws : List ℕ) (a n j : ℕ) → j < n → get_or (window ws a n) j 0 ≡ get_or ws (a + j) 0
window-get ws a n j lt = get_or-take n (drop a ws) j 0 lt ∙ get_or-drop a ws j 0

pub window-same : (old new : List ℕ) (a n : ℕ) → a + n ≤ length old → a + n ≤ length new → ((j : ℕ) → j < n → get_or new (a + j) 0 ≡ get_or old (a + j) 0) → window new a n ≡ window old a n
window-same old new a n h k same = window-is new a n (window old a n) (sym (window-long old a n h)) k (λ j lt. same j lt ∙ sym (window-get old a n j lt))

opened-at : (ws : List ℕ) (a n i word : ℕ) → a + (n + 1) ≤ length ws → i ≤ n → Opens ws (pasted (a + i) (word ∷ window ws (a + i) (n - i)) (suc (n - i)) ws) a n i word
opened-at ws a n i word h le =
    let rest : List ℕ = window ws (a + i) (n - i) in
    let list : List ℕ = word ∷ rest in
    let m : ℕ = suc (n - i) in
    let size : m ≡ length list = ap (λ x. suc x) (sym (window-long ws (a + i) (n - i) (omega arith))) in
    let inside : a + i + m ≤ length ws = omega arith in
    record {
      long = pasted-long ws (a + i) m list size inside;
      here = ap (λ x. get_or (pasted (a + i) list m ws) x 0) (let e : a + i ≡ a + i + 0 = omega arith in e) ∙ pasted-in ws (a + i) m 0 list size inside (omega arith);
      rear = λ j ij jn.
          ap (λ x. get_or (pasted (a + i) list m ws) x 0) (let e : a + (j + 1) ≡ a + i + suc (j - i) = omega arith in e)
          ∙ pasted-in ws (a + i) m (suc (j - i)) list size inside (omega arith)
          ∙ window-get ws (a + i) (n - i) (j - i) (omega arith)
          ∙ ap (λ x. get_or ws x 0) (let e : a + i + (j - i) ≡ a + j = omega arith in e);
      before = λ x lt. pasted-before ws (a + i) m x list size inside lt;
      after = λ x gt. pasted-after ws (a + i) m x list size inside (omega arith);
    }

pub opened : (ws mid new : List ℕ) (a n i word : ℕ) (rear list : List ℕ) → a + (n + 1) ≤ length ws → i ≤ n → mid ≡ ws → rear ≡ window ws (a + i) (n - i) → list ≡ word ∷ rear → new ≡ pasted (a + i) list (length list) mid → Opens ws new a n i word
opened ws mid new a n i word rear list h le same read is made =
    let whole : list ≡ word ∷ window ws (a + i) (n - i) = is ∙ ap (λ x. word ∷ x) read in
    let size : length (word ∷ window ws (a + i) (n - i)) ≡ suc (n - i) = ap (λ x. suc x) (window-long ws (a + i) (n - i) (omega arith)) in
    subst (λ w. Opens ws w a n i word) (sym (made ∙ ap (λ w. pasted (a + i) list (length list) w) same ∙ ap (λ l. pasted (a + i) l (length l) ws) whole ∙ ap (λ k. pasted (a + i) (word ∷ window ws (a + i) (n - i)) k ws) size)) (opened-at ws a n i word h le)

closed-at : (ws : List ℕ) (a n i : ℕ) → a + n ≤ length ws → i < n → Closes ws (pasted (a + i) (window ws (a + i + 1) (n - i - 1)) (n - i - 1) ws) a n i
closed-at ws a n i h lt =
    let list : List ℕ = window ws (a + i + 1) (n - i - 1) in
    let m : ℕ = n - i - 1 in
    let size : m ≡ length list = sym (window-long ws (a + i + 1) (n - i - 1) (omega arith)) in
    let inside : a + i + m ≤ length ws = omega arith in
    record {
      long = pasted-long ws (a + i) m list size inside;
      rear = λ j ij jn.
          ap (λ x. get_or (pasted (a + i) list m ws) x 0) (let e : a + j ≡ a + i + (j - i) = omega arith in e)
          ∙ pasted-in ws (a + i) m (j - i) list size inside (omega arith)
          ∙ window-get ws (a + i + 1) m (j - i) (omega arith)
          ∙ ap (λ x. get_or ws x 0) (let e : a + i + 1 + (j - i) ≡ a + (j + 1) = omega arith in e);
      before = λ x lt. pasted-before ws (a + i) m x list size inside lt;
      after = λ x gt. pasted-after ws (a + i) m x list size inside (omega arith);
    }

pub closed : (ws mid new : List ℕ) (a n i : ℕ) (list : List ℕ) → a + n ≤ length ws → i < n → mid ≡ ws → list ≡ window ws (a + i + 1) (n - i - 1) → new ≡ pasted (a + i) list (length list) mid → Closes ws new a n i
closed ws mid new a n i list h lt same read made =
    let size : length list ≡ n - i - 1 = ap length read ∙ window-long ws (a + i + 1) (n - i - 1) (omega arith) in
    subst (λ w. Closes ws w a n i) (sym (made ∙ ap (λ w. pasted (a + i) list (length list) w) same ∙ ap (λ k. pasted (a + i) list k ws) size ∙ ap (λ l. pasted (a + i) l (n - i - 1) ws) read)) (closed-at ws a n i h lt)

pub opens-window : (old new : List ℕ) (a n i word : ℕ) → a + (n + 1) ≤ length old → i ≤ n → Opens old new a n i word → window new a (n + 1) ≡ insert (window old a n) i word
opens-window old new a n i word h le o =
    let xs : List ℕ = window old a n in
    let long : length xs ≡ n = window-long old a n (omega arith) in
    let place : i ≤ length xs = omega arith in
    window-is new a (n + 1) (insert xs i word) (sym (length-insert xs i word place ∙ ap (λ x. x + 1) long)) (omega (arith, o.long)) (λ j lt. elim (cases_lt j i) [
      | inl l ↦ o.before (a + j) (omega arith) ∙ sym (window-get old a n j (omega arith)) ∙ sym (get_or-insert_below xs i word 0 j l place)
      | inr ge ↦ elim (cases_eq j i) [
        | inl e ↦ ap (λ x. get_or new (a + x) 0) e ∙ o.here ∙ sym (get_or-insert_at xs i word 0 place) ∙ ap (λ x. get_or (insert xs i word) x 0) (sym e)
        | inr ne ↦ (let back : j ≡ j - 1 + 1 = omega arith in
            ap (λ x. get_or new (a + x) 0) back ∙ o.rear (j - 1) (omega arith) (omega arith) ∙ sym (window-get old a n (j - 1) (omega arith)) ∙ sym (get_or-insert_above xs i word 0 (j - 1) (omega arith) place) ∙ ap (λ x. get_or (insert xs i word) x 0) (sym back))
      ]
    ])

pub closes-window : (old new : List ℕ) (a n i : ℕ) → a + n ≤ length old → i < n → Closes old new a n i → window new a (n - 1) ≡ remove (window old a n) i
closes-window old new a n i h lt o =
    let xs : List ℕ = window old a n in
    let long : length xs ≡ n = window-long old a n h in
    let place : i < length xs = omega arith in
    window-is new a (n - 1) (remove xs i) (omega (arith, length-remove xs i place)) (omega (arith, o.long)) (λ j jn. elim (cases_lt j i) [
      | inl l ↦ o.before (a + j) (omega arith) ∙ sym (window-get old a n j (omega arith)) ∙ sym (get_or-remove_below xs i 0 j l place)
      | inr ge ↦ o.rear j ge (omega arith) ∙ sym (window-get old a n (j + 1) (omega arith)) ∙ sym (get_or-remove_above xs i 0 j ge place)
    ])

-- the count, the keys and the slots of a node that gets one more
pub widened : (old one two new : List ℕ) (p kind n i key j slot c : ℕ) → at p 63 < length old → get_or old (head p) 0 ≡ 2 * n + kind → kind ≤ 1 → n ≤ 30 → i ≤ n → j ≤ n + kind → c ≡ 2 * (n + 1) + kind
    → one ≡ set old (head p) c → Opens one two (at p 1) n i key → Opens two new (at p 32) (n + kind) j slot → Shows new p kind (insert (keys_at old p) i key) (insert (slots_at old p) j slot) × OnlyPiece p old new
widened old one two new p kind n i key j slot c within count le few place slot_place ce is o q =
    let one_long : length one ≡ length old = ap length is ∙ length-set old (head p) c in
    let two_long : length two ≡ length old = o.long ∙ one_long in
    let half : get_or old (head p) 0 / 2 ≡ n = omega arith in
    let rest : get_or old (head p) 0 / 2 + get_or old (head p) 0 % 2 ≡ n + kind = omega arith in
    let one_same : (x : ℕ) → x < head p → get_or one x 0 ≡ get_or old x 0 = λ x lt. ap (λ w. get_or w x 0) is ∙ get_or-set_other old (head p) x c 0 (omega arith) in
    let one_after : (x : ℕ) → head p < x → get_or one x 0 ≡ get_or old x 0 = λ x lt. ap (λ w. get_or w x 0) is ∙ get_or-set_other old (head p) x c 0 (omega arith) in
    let keys_one : window one (at p 1) n ≡ window old (at p 1) n = window-same old one (at p 1) n (omega arith) (omega arith) (λ k lt. one_after (at p 1 + k) (omega arith)) in
    let keys_two : window two (at p 1) (n + 1) ≡ insert (keys_at old p) i key = opens-window one two (at p 1) n i key (omega arith) place o ∙ ap (λ x. insert x i key) (keys_one ∙ ap (window old (at p 1)) (sym half)) in
    let keys_new : window new (at p 1) (n + 1) ≡ insert (keys_at old p) i key = window-same two new (at p 1) (n + 1) (omega arith) (omega (arith, q.long)) (λ k lt. q.before (at p 1 + k) (omega arith)) ∙ keys_two in
    let slots_two : window two (at p 32) (n + kind) ≡ window old (at p 32) (n + kind) = window-same old two (at p 32) (n + kind) (omega arith) (omega arith) (λ k lt. o.after (at p 32 + k) (omega arith) ∙ one_after (at p 32 + k) (omega arith)) in
    let slots_new : window new (at p 32) (n + kind + 1) ≡ insert (slots_at old p) j slot = opens-window two new (at p 32) (n + kind) j slot (omega arith) slot_place q ∙ ap (λ x. insert x j slot) (slots_two ∙ ap (window old (at p 32)) (sym rest)) in
    let keys_long : n + 1 ≡ length (insert (keys_at old p) i key) = sym (window-long new (at p 1) (n + 1) (omega (arith, q.long))) ∙ ap length keys_new in
    let slots_long : n + kind + 1 ≡ length (insert (slots_at old p) j slot) = sym (window-long new (at p 32) (n + kind + 1) (omega (arith, q.long))) ∙ ap length slots_new in (
      record {
        count = q.before (head p) (omega arith) ∙ o.before (head p) (omega arith) ∙ ap (λ w. get_or w (head p) 0) is ∙ get_or-set_same old (head p) c 0 (omega arith) ∙ ce ∙ ap (λ x. 2 * x + kind) keys_long;
        front = subst (λ x. window new (at p 1) x ≡ insert (keys_at old p) i key) keys_long keys_new;
        back = subst (λ x. window new (at p 32) x ≡ insert (slots_at old p) j slot) slots_long slots_new;
      },
      record {
        long = q.long ∙ two_long;
        before = λ x lt. q.before x (omega arith) ∙ o.before x (omega arith) ∙ one_same x lt;
        after = λ x ge. q.after x (omega arith) ∙ o.after x (omega arith) ∙ one_after x (omega arith);
      },
    )

-- and of a node that loses one
pub narrowed : (old one two new : List ℕ) (p kind n i j c : ℕ) → at p 63 < length old → get_or old (head p) 0 ≡ 2 * n + kind → kind ≤ 1 → n ≤ 31 → i < n → j < n + kind → c ≡ 2 * (n - 1) + kind
    → one ≡ set old (head p) c → Closes one two (at p 1) n i → Closes two new (at p 32) (n + kind) j → Shows new p kind (remove (keys_at old p) i) (remove (slots_at old p) j) × OnlyPiece p old new
narrowed old one two new p kind n i j c within count le few place slot_place ce is o q =
    let one_long : length one ≡ length old = ap length is ∙ length-set old (head p) c in
    let two_long : length two ≡ length old = o.long ∙ one_long in
    let half : get_or old (head p) 0 / 2 ≡ n = omega arith in
    let rest : get_or old (head p) 0 / 2 + get_or old (head p) 0 % 2 ≡ n + kind = omega arith in
    let one_same : (x : ℕ) → x < head p → get_or one x 0 ≡ get_or old x 0 = λ x lt. ap (λ w. get_or w x 0) is ∙ get_or-set_other old (head p) x c 0 (omega arith) in
    let one_after : (x : ℕ) → head p < x → get_or one x 0 ≡ get_or old x 0 = λ x lt. ap (λ w. get_or w x 0) is ∙ get_or-set_other old (head p) x c 0 (omega arith) in
    let keys_one : window one (at p 1) n ≡ window old (at p 1) n = window-same old one (at p 1) n (omega arith) (omega arith) (λ k lt. one_after (at p 1 + k) (omega arith)) in
    let keys_two : window two (at p 1) (n - 1) ≡ remove (keys_at old p) i = closes-window one two (at p 1) n i (omega arith) place o ∙ ap (λ x. remove x i) (keys_one ∙ ap (window old (at p 1)) (sym half)) in
    let keys_new : window new (at p 1) (n - 1) ≡ remove (keys_at old p) i = window-same two new (at p 1) (n - 1) (omega arith) (omega (arith, q.long)) (λ k lt. q.before (at p 1 + k) (omega arith)) ∙ keys_two in
    let slots_two : window two (at p 32) (n + kind) ≡ window old (at p 32) (n + kind) = window-same old two (at p 32) (n + kind) (omega arith) (omega arith) (λ k lt. o.after (at p 32 + k) (omega arith) ∙ one_after (at p 32 + k) (omega arith)) in
    let slots_new : window new (at p 32) (n + kind - 1) ≡ remove (slots_at old p) j = closes-window two new (at p 32) (n + kind) j (omega arith) slot_place q ∙ ap (λ x. remove x j) (slots_two ∙ ap (window old (at p 32)) (sym rest)) in
    let keys_long : n - 1 ≡ length (remove (keys_at old p) i) = sym (window-long new (at p 1) (n - 1) (omega (arith, q.long))) ∙ ap length keys_new in
    let slots_long : n + kind - 1 ≡ length (remove (slots_at old p) j) = sym (window-long new (at p 32) (n + kind - 1) (omega (arith, q.long))) ∙ ap length slots_new in (
      record {
        count = q.before (head p) (omega arith) ∙ o.before (head p) (omega arith) ∙ ap (λ w. get_or w (head p) 0) is ∙ get_or-set_same old (head p) c 0 (omega arith) ∙ ce ∙ ap (λ x. 2 * x + kind) keys_long;
        front = subst (λ x. window new (at p 1) x ≡ remove (keys_at old p) i) keys_long keys_new;
        back = subst (λ x. window new (at p 32) x ≡ remove (slots_at old p) j) slots_long slots_new;
      },
      record {
        long = q.long ∙ two_long;
        before = λ x lt. q.before x (omega arith) ∙ o.before x (omega arith) ∙ one_same x lt;
        after = λ x ge. q.after x (omega arith) ∙ o.after x (omega arith) ∙ one_after x (omega arith);
      },
    )

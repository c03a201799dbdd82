-- A pair that is set in a leaf where it stands, or taken out of it.
use Rattle.envy_base.specs.declared.board.Trouble.{Trouble}
use Rattle.std.proofs.Common.{◌≡◌, ◌≢◌, ◌⊎◌, ℕ, ◌+◌, ◌-◌, ◌*◌, ◌/◌, ◌%◌, ◌<◌, ◌≤◌, Bool, true, false, List, length, get_or, set, OnOk, Result, Ok, Err, refl, ap, sym, subst, ◌∙◌, inl, inr, arith}
use Rattle.std.specs.List.{insert, remove}
use Rattle.std.proofs.lemmas.Bool.{cases_eq}
use Rattle.std.proofs.lemmas.List.{length-map, length-set, get_or-set_same, get_or-set_other}
use Rattle.std.proofs.lemmas.List.Edits.{length-insert, length-remove}
use Rattle.envy_heap.specs.Pieces.{head, at}
use Rattle.envy_btree.specs.Pairs.{with_pair, without}
use Rattle.envy_btree.specs.Tree.{Rising, Shows, window, keys_of, values_of}
use Rattle.envy_btree.specs.Nodes.{OnlyPiece, Ranks}
use Rattle.envy_btree.specs.Spots.{EndsAt, keys_at, slots_at}
use Rattle.envy_btree.proofs.Writing.{window-is}
use Rattle.envy_btree.proofs.Setting.{Set-found, Set-missing, Dropped-found, Dropped-missing}
use Rattle.envy_btree.proofs.Gaps.{window-long, window-get, window-same}

pub set-window : (ws : List ℕ) (a n j v : ℕ) → a + n ≤ length ws → j < n → window (set ws (a + j) v) a n ≡ set (window ws a n) j v
set-window ws a n j v h lt =
    let xs : List ℕ = window ws a n in
    let long : length xs ≡ n = window-long ws a n h in
    window-is (set ws (a + j) v) a n (set xs j v) (sym (length-set xs j v ∙ long)) (omega (arith, length-set ws (a + j) v)) (λ k kn. elim (cases_eq k j) [
      | inl e ↦ ap (λ x. get_or (set ws (a + j) v) (a + x) 0) e ∙ get_or-set_same ws (a + j) v 0 (omega arith) ∙ sym (get_or-set_same xs j v 0 (omega arith)) ∙ ap (λ x. get_or (set xs j v) x 0) (sym e)
      | inr ne ↦ get_or-set_other ws (a + j) (a + k) v 0 (omega arith) ∙ sym (window-get ws a n k kn) ∙ sym (get_or-set_other xs j k v 0 ne)
    ])

-- a node whose word 32 + j is another
pub slot-shows : (ws new : List ℕ) (p kind n j v : ℕ) → at p 63 < length ws → get_or ws (head p) 0 ≡ 2 * n + kind → kind ≤ 1 → n ≤ 31 → j < n + kind → new ≡ set ws (at p 32 + j) v → Shows new p kind (keys_at ws p) (set (slots_at ws p) j v) × OnlyPiece p ws new
slot-shows ws new p kind n j v within count le few place is =
    let a : ℕ = at p 32 + j in
    let long : length new ≡ length ws = ap length is ∙ length-set ws a v in
    let same : (x : ℕ) → x ≢ a → get_or new x 0 ≡ get_or ws x 0 = λ x ne. ap (λ w. get_or w x 0) is ∙ get_or-set_other ws a x v 0 ne in
    let half : get_or ws (head p) 0 / 2 ≡ n = omega arith in
    let rest : get_or ws (head p) 0 / 2 + get_or ws (head p) 0 % 2 ≡ n + kind = omega arith in
    let keys_long : length (keys_at ws p) ≡ n = window-long ws (at p 1) (get_or ws (head p) 0 / 2) (omega arith) ∙ half in
    let slots_long : length (set (slots_at ws p) j v) ≡ n + kind = length-set (slots_at ws p) j v ∙ window-long ws (at p 32) (get_or ws (head p) 0 / 2 + get_or ws (head p) 0 % 2) (omega arith) ∙ rest in
    let keys : window new (at p 1) n ≡ keys_at ws p = window-same ws new (at p 1) n (omega arith) (omega arith) (λ k lt. same (at p 1 + k) (omega arith)) ∙ ap (window ws (at p 1)) (sym half) in
    let slots : window new (at p 32) (n + kind) ≡ set (slots_at ws p) j v = ap (λ w. window w (at p 32) (n + kind)) is ∙ set-window ws (at p 32) (n + kind) j v (omega arith) place ∙ ap (λ x. set (window ws (at p 32) x) j v) (sym rest) in (
      record {
        count = same (head p) (omega arith) ∙ count ∙ ap (λ x. 2 * x + kind) (sym keys_long);
        front = subst (λ x. window new (at p 1) x ≡ keys_at ws p) (sym keys_long) keys;
        back = subst (λ x. window new (at p 32) x ≡ set (slots_at ws p) j v) (sym slots_long) slots;
      },
      record { long = long; before = λ x lt. same x (omega arith); after = λ x ge. same x (omega arith) },
    )

-- the key has another value
pub leaf-replaced : (ws mid new : List ℕ) (p n place key value low high : ℕ) (es : List (ℕ × ℕ)) (b : Bool) → at p 63 < length ws → get_or ws (head p) 0 ≡ 2 * n → n ≤ 31 → place ≤ length (keys_at ws p) → EndsAt (keys_at ws p) place key b → b ≡ true → mid ≡ ws → new ≡ set mid (at p 31 + place) value
    → Rising low high es → keys_at ws p ≡ keys_of es → slots_at ws p ≡ values_of es → (length (keys_of (with_pair key value es)) ≤ 31) × Shows new p 0 (keys_of (with_pair key value es)) (values_of (with_pair key value es)) × OnlyPiece p ws new
leaf-replaced ws mid new p n place key value low high es b within count few rank ends found same is rise ke se =
    let e = subst (λ x. EndsAt (keys_at ws p) place key x) found ends in
    let half : get_or ws (head p) 0 / 2 ≡ n = omega arith in
    let long : length (keys_at ws p) ≡ n = window-long ws (at p 1) (get_or ws (head p) 0 / 2) (omega arith) ∙ half in
    let many : length es ≡ n = sym (length-map es (λ (x : ℕ × ℕ). x.0)) ∙ ap length (sym ke) ∙ long in
    let f = Set-found low high key value (place - 1) es (omega (arith, e.0)) rise (ap (λ x. get_or x (place - 1) 0) (sym ke) ∙ e.1) in
    let put : new ≡ set ws (at p 32 + (place - 1)) value = is ∙ ap (λ w. set w (at p 31 + place) value) same ∙ ap (λ a. set ws a value) (let z : at p 31 + place ≡ at p 32 + (place - 1) = omega (arith, e.0) in z) in
    let s = slot-shows ws new p 0 n (place - 1) value within (omega arith) (omega arith) few (omega (arith, e.0)) put in (
      omega (arith, ap length (sym f.front), ap length ke),
      subst (λ x. Shows new p 0 x (values_of (with_pair key value es))) (ke ∙ f.front) (subst (λ x. Shows new p 0 (keys_at ws p) x) (ap (λ x. set x (place - 1) value) se ∙ f.back) s.0),
      s.1,
    )

-- a leaf has a pair more
pub leaf-widened : (ws mid new : List ℕ) (p n place key value low high : ℕ) (es : List (ℕ × ℕ)) (b : Bool) → at p 63 < length ws → get_or ws (head p) 0 ≡ 2 * n → n ≤ 30 → Ranks key (keys_at ws p) place → EndsAt (keys_at ws p) place key b → b ≡ false → mid ≡ ws
    → Shows new p 0 (insert (keys_at mid p) place key) (insert (slots_at mid p) place value) → OnlyPiece p mid new
    → Rising low high es → keys_at ws p ≡ keys_of es → slots_at ws p ≡ values_of es → (length (keys_of (with_pair key value es)) ≤ 31) × Shows new p 0 (keys_of (with_pair key value es)) (values_of (with_pair key value es)) × OnlyPiece p ws new
leaf-widened ws mid new p n place key value low high es b within count few rank ends missing same shows only rise ke se =
    let e = subst (λ x. EndsAt (keys_at ws p) place key x) missing ends in
    let half : get_or ws (head p) 0 / 2 ≡ n = omega arith in
    let long : length (keys_at ws p) ≡ n = window-long ws (at p 1) (get_or ws (head p) 0 / 2) (omega arith) ∙ half in
    let f = Set-missing low high key value place es rise (subst (λ x. Ranks key x place) ke rank) (subst (λ x. (place ≡ 0) ⊎ (get_or x (place - 1) 0 ≢ key)) ke e) in
    let fits : place ≤ length (keys_of es) = subst (λ x. place ≤ length x) ke rank.within in (
      omega (arith, ap length (sym f.front), length-insert (keys_of es) place key fits, ap length (sym ke)),
      subst (λ x. Shows new p 0 x (values_of (with_pair key value es))) (ap (λ w. insert (keys_at w p) place key) same ∙ ap (λ x. insert x place key) ke ∙ f.front) (subst (λ x. Shows new p 0 (insert (keys_at mid p) place key) x) (ap (λ w. insert (slots_at w p) place value) same ∙ ap (λ x. insert x place value) se ∙ f.back) shows),
      subst (λ w. OnlyPiece p w new) same only,
    )

-- a leaf doesn't have the key, and stays
pub leaf-same : (ws new : List ℕ) (p n place key low high : ℕ) (es : List (ℕ × ℕ)) (b : Bool) → at p 63 < length ws → get_or ws (head p) 0 ≡ 2 * n → 15 ≤ n → n ≤ 31 → Ranks key (keys_at ws p) place → EndsAt (keys_at ws p) place key b → b ≡ false → new ≡ ws
    → Rising low high es → keys_at ws p ≡ keys_of es → slots_at ws p ≡ values_of es → (15 ≤ length (keys_of (without key es))) × Shows new p 0 (keys_of (without key es)) (values_of (without key es)) × OnlyPiece p ws new
leaf-same ws new p n place key low high es b within count many few rank ends missing same rise ke se =
    let e = subst (λ x. EndsAt (keys_at ws p) place key x) missing ends in
    let half : get_or ws (head p) 0 / 2 ≡ n = omega arith in
    let rest : get_or ws (head p) 0 / 2 + get_or ws (head p) 0 % 2 ≡ n = omega arith in
    let long : length (keys_at ws p) ≡ n = window-long ws (at p 1) (get_or ws (head p) 0 / 2) (omega arith) ∙ half in
    let slots_long : length (slots_at ws p) ≡ n = window-long ws (at p 32) (get_or ws (head p) 0 / 2 + get_or ws (head p) 0 % 2) (omega arith) ∙ rest in
    let f = Dropped-missing low high key place es rise (subst (λ x. Ranks key x place) ke rank) (subst (λ x. (place ≡ 0) ⊎ (get_or x (place - 1) 0 ≢ key)) ke e) in
    let shows : Shows ws p 0 (keys_at ws p) (slots_at ws p) = record {
      count = count ∙ (let z : 2 * n ≡ 2 * length (keys_at ws p) + 0 = omega arith in z);
      front = ap (window ws (at p 1)) (long ∙ sym half);
      back = ap (window ws (at p 32)) (slots_long ∙ sym rest);
    } in (
      omega (arith, ap length (sym f.front), ap length (sym ke)),
      subst (λ w. Shows w p 0 (keys_of (without key es)) (values_of (without key es))) (sym same) (subst (λ x. Shows ws p 0 x (values_of (without key es))) (ke ∙ f.front) (subst (λ x. Shows ws p 0 (keys_at ws p) x) (se ∙ f.back) shows)),
      subst (λ w. OnlyPiece p ws w) (sym same) (record { long = refl; before = λ a lt. refl; after = λ a le. refl }),
    )

-- a leaf loses a pair
pub leaf-narrowed : (ws mid new : List ℕ) (p n place key low high : ℕ) (es : List (ℕ × ℕ)) (b : Bool) → at p 63 < length ws → get_or ws (head p) 0 ≡ 2 * n → 16 ≤ n → n ≤ 31 → place ≤ length (keys_at ws p) → EndsAt (keys_at ws p) place key b → b ≡ true → mid ≡ ws
    → Shows new p 0 (remove (keys_at mid p) (place - 1)) (remove (slots_at mid p) (place - 1)) → OnlyPiece p mid new
    → Rising low high es → keys_at ws p ≡ keys_of es → slots_at ws p ≡ values_of es → (15 ≤ length (keys_of (without key es))) × Shows new p 0 (keys_of (without key es)) (values_of (without key es)) × OnlyPiece p ws new
leaf-narrowed ws mid new p n place key low high es b within count many few rank ends found same shows only rise ke se =
    let e = subst (λ x. EndsAt (keys_at ws p) place key x) found ends in
    let half : get_or ws (head p) 0 / 2 ≡ n = omega arith in
    let long : length (keys_at ws p) ≡ n = window-long ws (at p 1) (get_or ws (head p) 0 / 2) (omega arith) ∙ half in
    let many_pairs : length es ≡ n = sym (length-map es (λ (x : ℕ × ℕ). x.0)) ∙ ap length (sym ke) ∙ long in
    let f = Dropped-found low high key (place - 1) es (omega (arith, e.0)) rise (ap (λ x. get_or x (place - 1) 0) (sym ke) ∙ e.1) in (
      omega (arith, ap length (sym f.front), length-remove (keys_of es) (place - 1) (omega (arith, e.0, length-map es (λ (x : ℕ × ℕ). x.0))), ap length (sym ke)),
      subst (λ x. Shows new p 0 x (values_of (without key es))) (ap (λ w. remove (keys_at w p) (place - 1)) same ∙ ap (λ x. remove x (place - 1)) ke ∙ f.front) (subst (λ x. Shows new p 0 (remove (keys_at mid p) (place - 1)) x) (ap (λ w. remove (slots_at w p) (place - 1)) same ∙ ap (λ x. remove x (place - 1)) se ∙ f.back) shows),
      subst (λ w. OnlyPiece p w new) same only,
    )

pub leaf-narrowed-ok : (ws mid new : List ℕ) (p n place key low high : ℕ) (es : List (ℕ × ℕ)) (b : Bool) (r : Result Unit Trouble) → at p 63 < length ws → get_or ws (head p) 0 ≡ 2 * n → 16 ≤ n → n ≤ 31 → place ≤ length (keys_at ws p) → EndsAt (keys_at ws p) place key b → b ≡ true → mid ≡ ws
    → OnOk r (Shows new p 0 (remove (keys_at mid p) (place - 1)) (remove (slots_at mid p) (place - 1))) → OnOk r (OnlyPiece p mid new)
    → Rising low high es → keys_at ws p ≡ keys_of es → slots_at ws p ≡ values_of es → OnOk r ((15 ≤ length (keys_of (without key es))) × Shows new p 0 (keys_of (without key es)) (values_of (without key es)) × OnlyPiece p ws new)
leaf-narrowed-ok ws mid new p n place key low high es b (Ok x) within count many few rank ends found same shows only rise ke se = leaf-narrowed ws mid new p n place key low high es b within count many few rank ends found same shows only rise ke se
leaf-narrowed-ok ws mid new p n place key low high es b (Err x) within count many few rank ends found same shows only rise ke se = tt

-- One step down a tree, and the look-up in a leaf.
use Rattle.std.proofs.Common.{◌≡◌, ◌≢◌, ◌⊎◌, ℕ, zero, suc, ◌+◌, ◌-◌, ◌/◌, ◌%◌, ◌^◌, ◌<◌, ◌≤◌, Bool, true, false, List, [], ◌∷◌, ◌++◌, length, map, take, drop, get_or, set, Some, None, refl, ap, sym, subst, ◌∙◌, inl, inr, eqb, arith}
use Rattle.std.specs.List.{flat_map}
use Rattle.std.proofs.lemmas.List.{set_split, set-get_or, get_or-map, length-map}
use Rattle.std.proofs.lemmas.List.Concat.{flat_map-append}
use Rattle.std.proofs.lemmas.List.Sums.{get_or-le-sum_by}
use Rattle.std.proofs.lemmas.List.Elements.{All-cons, All-nil, All-get_or, All-more, All-weaker}
use Rattle.envy_heap.specs.Pieces.{IsHeap, handed, pieces, head, at}
use Rattle.envy_heap.proofs.Heaps.{lt-one, within, one-same}
use Rattle.envy_btree.specs.Pairs.{assoc, Below, Above}
use Rattle.envy_btree.specs.Tree.{Tree, Rising, Ordered, pairs_of, piece_of, uses, Sized, Holds, Shows, window, keys_of, values_of}
use Rattle.envy_btree.specs.Nodes.{Ranks, IsRead}
use Rattle.envy_btree.specs.Index.{Stands}
use Rattle.envy_btree.specs.Changes.{Rests}
use Rattle.envy_btree.proofs.Maps.{assoc-below, assoc-above, assoc-here, assoc-none}
use Rattle.envy_btree.proofs.Trees.{Above-from, Rising-within, Fans-long, Fans-at, Fans-before, Fans-after, Ordered-within, low_of, high_of, Ranks-tail}

-- a default for look-ups
pub bare : (d : ℕ) → Tree d
bare zero = record { piece = 0; pairs = [] }
bare (suc d) = record { piece = 0; keys = []; kids = [] }

pub uses-root : (d : ℕ) (t : Tree d) → 1 ≤ uses d t (piece_of d t)
uses-root zero t = omega (arith, one-same t.piece)
uses-root (suc d) t = omega (arith, one-same t.piece)

pub owned-within : (ws free : List ℕ) (p : ℕ) → IsHeap ws free → 1 ≤ handed ws free p → (at p 63 < length ws) × (p < pieces ws)
owned-within ws free p h some = within ws free p h (lt-one p (get_or ws 2 0) (omega arith))

pub Rests-within : (ws : List ℕ) (p level : ℕ) → Rests ws p level → (at p 63 < length ws) × (p < pieces ws)
Rests-within ws p level r = owned-within ws r.free p r.heap (subst (λ x. 1 ≤ handed ws r.free x) r.is (omega (arith, r.stands.owned (piece_of r.depth r.tree), uses-root r.depth r.tree)))

count-few : (ws : List ℕ) (root : Bool) (low high d : ℕ) (t : Tree d) → Holds ws d t → Ordered d low high t → Sized root d t → get_or ws (head (piece_of d t)) 0 < 64
count-few ws root low high zero t h o s = omega (arith, h.count, length-map t.pairs (λ (e : ℕ × ℕ). e.0), s.1)
count-few ws root low high (suc d) t h o s = omega (arith, h.0.count, Fans-long (Ordered d) low high t.keys t.kids o, s.1)

pub Rests-few : (ws : List ℕ) (p level : ℕ) → Rests ws p level → get_or ws (head p) 0 < 64
Rests-few ws p level r = subst (λ x. get_or ws (head x) 0 < 64) r.is (count-few ws r.root r.low r.high r.depth r.tree r.stands.holds r.stands.ordered r.stands.sized)

pub read-shows : (ws : List ℕ) (p kind : ℕ) (keys slots ks ss : List ℕ) (inner : Bool) → Shows ws p kind keys slots → kind ≤ 1 → length slots ≡ length keys + kind → IsRead ws p inner ks ss → (ks ≡ keys) × (ss ≡ slots) × (inner ≡ eqb kind 1)
read-shows ws p kind keys slots ks ss inner s le e r =
    let n : get_or ws (head p) 0 / 2 ≡ length keys = omega (arith, s.count) in
    let k : get_or ws (head p) 0 % 2 ≡ kind = omega (arith, s.count) in
    let m : get_or ws (head p) 0 / 2 + get_or ws (head p) 0 % 2 ≡ length slots = omega arith in
    (r.front ∙ ap (window ws (at p 1)) n ∙ s.front, r.back ∙ ap (window ws (at p 32)) m ∙ s.back, r.kind ∙ ap (λ x. eqb x 1) k)

-- the children about child i
pub around : {C : Type 0} (F : C → List (ℕ × ℕ)) (cs : List C) (i : ℕ) (c : C) → i < length cs → flat_map F (set cs i c) ≡ flat_map F (take i cs) ++ (F c ++ flat_map F (drop (suc i) cs))
around F cs i c lt = ap (flat_map F) (set_split cs i c lt) ∙ flat_map-append F (take i cs) (c ∷ drop (suc i) cs)

pub assoc-mid : (key : ℕ) (ls ms bs : List (ℕ × ℕ)) → Below key ls → Above key bs → assoc key (ls ++ (ms ++ bs)) ≡ assoc key ms
assoc-mid key ls ms bs b a = assoc-below key ls (ms ++ bs) b ∙ assoc-above key ms bs a

-- what a step down to child i comes to
pub record Steps (ws : List ℕ) (level key i : ℕ) (slots : List ℕ) (es : List (ℕ × ℕ)) : Type 0 where
  pub lower : 1 ≤ level
  pub place : i < length slots
  pub child : Rests ws (get_or slots i 0) (level - 1)
  pub same : assoc key es ≡ assoc key (pairs_of child.depth child.tree)

pub inner-step : (ws : List ℕ) (level key i d : ℕ) (t : Tree (suc d)) (free : List ℕ) (root : Bool) (low high : ℕ) → IsHeap ws free → suc d ≤ level → Stands ws free root low high (suc d) t → Ranks key t.keys i → Steps ws level key i (map (piece_of d) t.kids) (flat_map (pairs_of d) t.kids)
inner-step ws level key i d t free root low high heap few s r =
    let long = Fans-long (Ordered d) low high t.keys t.kids s.ordered in
    let lt : i < length t.kids = omega (arith, r.within) in
    let c = get_or t.kids i (bare d) in
    let split = sym (ap (flat_map (pairs_of d)) (set-get_or t.kids i (bare d))) ∙ around (pairs_of d) t.kids i c lt in
    let before = Fans-before (Ordered d) (pairs_of d) (Ordered-within d) key low high t.keys t.kids i r s.ordered in
    let after = Fans-after (Ordered d) (pairs_of d) (Ordered-within d) key low high t.keys t.kids i r s.ordered in
    record {
      lower = omega (arith, few);
      place = omega (arith, length-map t.kids (piece_of d));
      child = record {
        free = free;
        heap = heap;
        root = false;
        low = low_of low t.keys i;
        high = high_of high t.keys i;
        depth = d;
        tree = c;
        few = omega (arith, few);
        is = sym (get_or-map (piece_of d) t.kids i (bare d) 0 lt);
        stands = record {
          holds = All-get_or (Holds ws d) t.kids i (bare d) lt s.holds.1;
          ordered = Fans-at (Ordered d) low high t.keys t.kids i (bare d) r.within s.ordered;
          sized = All-get_or (Sized false d) t.kids i (bare d) lt s.sized.2;
          owned = λ q. omega (arith, s.owned q, get_or-le-sum_by (λ x. uses d x q) t.kids i (bare d) lt);
        };
      };
      same = ap (assoc key) split ∙ assoc-mid key (flat_map (pairs_of d) (take i t.kids)) (pairs_of d c) (flat_map (pairs_of d) (drop (suc i) t.kids)) before after;
    }

step-of : (ws : List ℕ) (p level key i d : ℕ) (t : Tree d) (free : List ℕ) (root : Bool) (low high : ℕ) (ks ss : List ℕ) → IsHeap ws free → d ≤ level → piece_of d t ≡ p → Stands ws free root low high d t → IsRead ws p true ks ss → Ranks key ks i → Steps ws level key i ss (pairs_of d t)
step-of ws p level key i zero t free root low high ks ss heap few is s read r =
    let e = read-shows ws t.piece 0 (keys_of t.pairs) (values_of t.pairs) ks ss true s.holds (omega arith) (omega (arith, length-map t.pairs (λ (e : ℕ × ℕ). e.0), length-map t.pairs (λ (e : ℕ × ℕ). e.1))) (subst (λ x. IsRead ws x true ks ss) (sym is) read) in
    absurd (let no : true ≡ false = e.2 in cc)
step-of ws p level key i (suc d) t free root low high ks ss heap few is s read r =
    let e = read-shows ws t.piece 1 t.keys (map (piece_of d) t.kids) ks ss true s.holds.0 (omega arith) (omega (arith, length-map t.kids (piece_of d), Fans-long (Ordered d) low high t.keys t.kids s.ordered)) (subst (λ x. IsRead ws x true ks ss) (sym is) read) in
    subst (λ x. Steps ws level key i x (flat_map (pairs_of d) t.kids)) (sym e.1) (inner-step ws level key i d t free root low high heap few s (subst (λ x. Ranks key x i) e.0 r))

pub Rests-step : (ws : List ℕ) (p level key i : ℕ) (ks ss : List ℕ) (t : Rests ws p level) → IsRead ws p true ks ss → Ranks key ks i → Steps ws level key i ss (pairs_of t.depth t.tree)
Rests-step ws p level key i ks ss t read r = step-of ws p level key i t.depth t.tree t.free t.root t.low t.high ks ss t.heap t.few t.is t.stands read r

-- the keys before place i are smaller than the one there
pub Rising-below : (low high : ℕ) (es : List (ℕ × ℕ)) (i : ℕ) → i < length es → Rising low high es → Below (get_or (keys_of es) i 0) (take i es)
Rising-below low high [] i lt r = absurd (omega arith)
Rising-below low high (e ∷ es) zero lt r = All-nil (λ (x : ℕ × ℕ). x.0 < e.0)
Rising-below low high (e ∷ es) (suc i) lt r =
    let w = All-get_or (λ (x : ℕ × ℕ). (e.0 + 1 ≤ x.0) × (x.0 < high)) es i (0, 0) (omega arith) (Rising-within (e.0 + 1) high es r.2) in
    let m = get_or-map (λ (x : ℕ × ℕ). x.0) es i (0, 0) 0 (omega arith) in
    All-cons (λ (x : ℕ × ℕ). x.0 < get_or (keys_of es) i 0) e (take i es) (omega (arith, w.0, m)) (Rising-below (e.0 + 1) high es i (omega arith) r.2)

pub Rising-above : (low high key : ℕ) (es : List (ℕ × ℕ)) (i : ℕ) → Rising low high es → Ranks key (keys_of es) i → Above key (drop i es)
Rising-above low high key [] zero r k = All-nil (λ (x : ℕ × ℕ). key < x.0)
Rising-above low high key [] (suc i) r k = All-nil (λ (x : ℕ × ℕ). key < x.0)
Rising-above low high key (e ∷ es) zero r k = All-cons (λ (x : ℕ × ℕ). key < x.0) e es (k.above (omega arith)) (Above-from (e.0 + 1) high key es (let lt : key < e.0 = k.above (omega arith) in omega arith) (Rising-within (e.0 + 1) high es r.2))
Rising-above low high key (e ∷ es) (suc i) r k = Rising-above (e.0 + 1) high key es i r.2 (Ranks-tail key e.0 (keys_of es) i k)

pub pairs-split : (es : List (ℕ × ℕ)) (j : ℕ) → j < length es → es ≡ take j es ++ (get_or (keys_of es) j 0, get_or (values_of es) j 0) ∷ drop (suc j) es
pairs-split [] j lt = absurd (omega arith)
pairs-split (e ∷ es) zero lt = refl
pairs-split (e ∷ es) (suc j) lt = ap (λ x. e ∷ x) (pairs-split es j (omega arith))

pub take-drop : {X : Type 0} (es : List X) (i : ℕ) → es ≡ take i es ++ drop i es
take-drop [] zero = refl
take-drop [] (suc i) = refl
take-drop (e ∷ es) zero = refl
take-drop (e ∷ es) (suc i) = ap (λ x. e ∷ x) (take-drop es i)

pub assoc-found : (low high key : ℕ) (es : List (ℕ × ℕ)) (j : ℕ) → j < length es → Rising low high es → get_or (keys_of es) j 0 ≡ key → assoc key es ≡ Some (get_or (values_of es) j 0)
assoc-found low high key es j lt r is =
    ap (assoc key) (pairs-split es j lt ∙ ap (λ x. take j es ++ (x, get_or (values_of es) j 0) ∷ drop (suc j) es) is)
    ∙ assoc-here key (get_or (values_of es) j 0) (take j es) (drop (suc j) es) (subst (λ x. Below x (take j es)) is (Rising-below low high es j lt r))

-- the place of a key that isn't there
pub Below-rank : (low high key : ℕ) (es : List (ℕ × ℕ)) (i : ℕ) → Rising low high es → Ranks key (keys_of es) i → (i ≡ 0) ⊎ (get_or (keys_of es) (i - 1) 0 ≢ key) → Below key (take i es)
Below-rank low high key es zero r k h = All-nil (λ (x : ℕ × ℕ). x.0 < key)
Below-rank low high key es (suc j) r k (inl e) = absurd (omega arith)
Below-rank low high key es (suc j) r k (inr ne) =
    let lt : j < length es = omega (arith, k.within, length-map es (λ (x : ℕ × ℕ). x.0)) in
    let other : get_or (keys_of es) j 0 ≢ key = subst (λ n. get_or (keys_of es) n 0 ≢ key) (let e : suc j - 1 ≡ j = omega arith in e) ne in
    let here : get_or (keys_of es) j 0 < key = omega (arith, k.below j (omega arith)) in
    let m = get_or-map (λ (x : ℕ × ℕ). x.0) es j (0, 0) 0 lt in
    subst (λ n. Below key (take n es)) (let e : j + 1 ≡ suc j = omega arith in e) (All-more (λ (x : ℕ × ℕ). x.0 < key) es j (0, 0) lt (All-weaker (λ (x : ℕ × ℕ). x.0 < get_or (keys_of es) j 0) (λ (x : ℕ × ℕ). x.0 < key) (λ x h. omega (arith, h)) (take j es) (Rising-below low high es j lt r)) (omega (arith, m)))

pub assoc-missing : (low high key : ℕ) (es : List (ℕ × ℕ)) (i : ℕ) → Rising low high es → Ranks key (keys_of es) i → (i ≡ 0) ⊎ (get_or (keys_of es) (i - 1) 0 ≢ key) → assoc key es ≡ None
assoc-missing low high key es i r k h =
    ap (assoc key) (take-drop es i) ∙ assoc-below key (take i es) (drop i es) (Below-rank low high key es i r k h) ∙ assoc-none key (drop i es) (Rising-above low high key es i r k)

-- what a leaf is read as
pub record Leaves (es : List (ℕ × ℕ)) (low high : ℕ) (ks ss : List ℕ) (pairs : List (ℕ × ℕ)) : Type 0 where
  pub keys : ks ≡ keys_of es
  pub values : ss ≡ values_of es
  pub rising : Rising low high es
  pub whole : pairs ≡ es
  pub few : length es ≤ 31

leaf-of : (ws : List ℕ) (p d : ℕ) (t : Tree d) (free : List ℕ) (root : Bool) (low high : ℕ) (ks ss : List ℕ) → piece_of d t ≡ p → Stands ws free root low high d t → IsRead ws p false ks ss → (es : List (ℕ × ℕ)) × Leaves es low high ks ss (pairs_of d t)
leaf-of ws p zero t free root low high ks ss is s read =
    let e = read-shows ws t.piece 0 (keys_of t.pairs) (values_of t.pairs) ks ss false s.holds (omega arith) (omega (arith, length-map t.pairs (λ (e : ℕ × ℕ). e.0), length-map t.pairs (λ (e : ℕ × ℕ). e.1))) (subst (λ x. IsRead ws x false ks ss) (sym is) read) in
    (t.pairs, record { keys = e.0; values = e.1; rising = s.ordered; whole = refl; few = s.sized.1 })
leaf-of ws p (suc d) t free root low high ks ss is s read =
    let e = read-shows ws t.piece 1 t.keys (map (piece_of d) t.kids) ks ss false s.holds.0 (omega arith) (omega (arith, length-map t.kids (piece_of d), Fans-long (Ordered d) low high t.keys t.kids s.ordered)) (subst (λ x. IsRead ws x false ks ss) (sym is) read) in
    absurd (let no : false ≡ true = e.2 in cc)

pub Rests-leaf : (ws : List ℕ) (p level : ℕ) (ks ss : List ℕ) (t : Rests ws p level) → IsRead ws p false ks ss → (es : List (ℕ × ℕ)) × Leaves es t.low t.high ks ss (pairs_of t.depth t.tree)
Rests-leaf ws p level ks ss t read = leaf-of ws p t.depth t.tree t.free t.root t.low t.high ks ss t.is t.stands read

-- the same, of what a function has at hand
pub Step-made : (ws : List ℕ) (p level key i : ℕ) (ks xs ss : List ℕ) (inner : Bool) (t : Rests ws p level) → IsRead ws p inner ks ss → inner ≡ true → xs ≡ ks → Ranks key xs i → Steps ws level key i ss (pairs_of t.depth t.tree)
Step-made ws p level key i ks xs ss inner t read yes_inner e r = Rests-step ws p level key i ks ss t (subst (λ b. IsRead ws p b ks ss) yes_inner read) (subst (λ x. Ranks key x i) e r)

pub slot-fits : (ws : List ℕ) (level key i : ℕ) (ss : List ℕ) (es : List (ℕ × ℕ)) → length ws < 2 ^ 32 → Steps ws level key i ss es → get_or ss i 0 < 2 ^ 32
slot-fits ws level key i ss es few s = let w = Rests-within ws (get_or ss i 0) (level - 1) s.child in omega (arith, w.0)

-- what the search in a leaf comes to
pub record Ends (key i : ℕ) (ks ss : List ℕ) (es : List (ℕ × ℕ)) : Type 0 where
  pub place : i ≢ 0 → i - 1 < length ss
  pub first : i ≡ 0 → assoc key es ≡ None
  pub found : i ≢ 0 → get_or ks (i - 1) 0 ≡ key → assoc key es ≡ Some (get_or ss (i - 1) 0)
  pub missing : get_or ks (i - 1) 0 ≢ key → assoc key es ≡ None

ends-of : (low high key i : ℕ) (es : List (ℕ × ℕ)) → Rising low high es → Ranks key (keys_of es) i → Ends key i (keys_of es) (values_of es) es
ends-of low high key i es r k =
    let m = length-map es (λ (e : ℕ × ℕ). e.0) in
    record {
      place = λ ne. omega (arith, k.within, m, length-map es (λ (e : ℕ × ℕ). e.1));
      first = λ e. assoc-missing low high key es i r k (inl e);
      found = λ ne e. assoc-found low high key es (i - 1) (omega (arith, k.within, m)) r e;
      missing = λ ne. assoc-missing low high key es i r k (inr ne);
    }

pub Ends-made : (ws : List ℕ) (p level key i : ℕ) (ks xs ss : List ℕ) (inner : Bool) (t : Rests ws p level) → IsRead ws p inner ks ss → inner ≡ false → xs ≡ ks → Ranks key xs i → Ends key i ks ss (pairs_of t.depth t.tree)
Ends-made ws p level key i ks xs ss inner t read no_inner e r =
    let l = Rests-leaf ws p level ks ss t (subst (λ b. IsRead ws p b ks ss) no_inner read) in
    let k = subst (λ x. Ranks key x i) (e ∙ l.1.keys) r in
    let n = ends-of t.low t.high key i l.0 l.1.rising k in
    subst (λ x. Ends key i x ss (pairs_of t.depth t.tree)) (sym l.1.keys) (subst (λ x. Ends key i (keys_of l.0) x (pairs_of t.depth t.tree)) (sym l.1.values) (subst (λ x. Ends key i (keys_of l.0) (values_of l.0) x) (sym l.1.whole) n))

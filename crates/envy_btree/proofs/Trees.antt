-- Orders and parts of trees.
use Rattle.std.proofs.Common.{◌≡◌, ℕ, zero, suc, ◌+◌, ◌<◌, ◌≤◌, List, [], ◌∷◌, ◌++◌, length, take, drop, get_or, set, refl, arith}
use Rattle.std.specs.List.{All, flat_map, insert, remove}
use Rattle.std.proofs.lemmas.List.Elements.{All-cons, All-nil, All-append, All-weaker}
use Rattle.envy_btree.specs.Pairs.{Below, Above}
use Rattle.envy_btree.specs.Tree.{Tree, Fans, Rising, Ordered, pairs_of}
use Rattle.envy_btree.specs.Nodes.{Ranks}

-- all keys from low on and below high
abbrev pub Within : ℕ → ℕ → List (ℕ × ℕ) → Type 0
Within low high es = All (λ e. (low ≤ e.0) × (e.0 < high)) es

pub Within-wider : (low high l h : ℕ) (es : List (ℕ × ℕ)) → l ≤ low → high ≤ h → Within low high es → Within l h es
Within-wider low high l h es a b w = All-weaker (λ (e : ℕ × ℕ). (low ≤ e.0) × (e.0 < high)) (λ (e : ℕ × ℕ). (l ≤ e.0) × (e.0 < h)) (λ e k. (omega (arith, k.0), omega (arith, k.1))) es w

pub Below-from : (low high key : ℕ) (es : List (ℕ × ℕ)) → high ≤ key → Within low high es → Below key es
Below-from low high key es a w = All-weaker (λ (e : ℕ × ℕ). (low ≤ e.0) × (e.0 < high)) (λ (e : ℕ × ℕ). e.0 < key) (λ e k. omega (arith, k.1)) es w

pub Above-from : (low high key : ℕ) (es : List (ℕ × ℕ)) → key < low → Within low high es → Above key es
Above-from low high key es a w = All-weaker (λ (e : ℕ × ℕ). (low ≤ e.0) × (e.0 < high)) (λ (e : ℕ × ℕ). key < e.0) (λ e k. omega (arith, k.0)) es w

pub Rising-within : (low high : ℕ) (es : List (ℕ × ℕ)) → Rising low high es → Within low high es
Rising-within low high [] r = All-nil (λ (e : ℕ × ℕ). (low ≤ e.0) × (e.0 < high))
Rising-within low high (e ∷ es) r = All-cons (λ (e : ℕ × ℕ). (low ≤ e.0) × (e.0 < high)) e es (r.0, r.1) (Within-wider (e.0 + 1) high low high es (omega (arith, r.0)) (omega arith) (Rising-within (e.0 + 1) high es r.2))

pub Fans-long : {C : Type 0} (P : ℕ → ℕ → C → Type 0) (low high : ℕ) (ks : List ℕ) (cs : List C) → Fans P low high ks cs → length cs ≡ length ks + 1
Fans-long P low high [] [] f = absurd f
Fans-long P low high [] (c ∷ []) f = omega arith
Fans-long P low high [] (c ∷ e ∷ cs) f = absurd f
Fans-long P low high (k ∷ ks) [] f = absurd f
Fans-long P low high (k ∷ ks) (c ∷ cs) f = omega (arith, Fans-long P k high ks cs f.3)

pub Fans-within : {C : Type 0} (P : ℕ → ℕ → C → Type 0) (F : C → List (ℕ × ℕ)) → ((l h : ℕ) (c : C) → P l h c → Within l h (F c)) → (low high : ℕ) (ks : List ℕ) (cs : List C) → Fans P low high ks cs → Within low high (flat_map F cs)
Fans-within P F w low high [] [] f = absurd f
Fans-within P F w low high [] (c ∷ []) f = All-append (λ (e : ℕ × ℕ). (low ≤ e.0) × (e.0 < high)) (F c) [] (w low high c f) (All-nil (λ (e : ℕ × ℕ). (low ≤ e.0) × (e.0 < high)))
Fans-within P F w low high [] (c ∷ e ∷ cs) f = absurd f
Fans-within P F w low high (k ∷ ks) [] f = absurd f
Fans-within P F w low high (k ∷ ks) (c ∷ cs) f = All-append (λ (e : ℕ × ℕ). (low ≤ e.0) × (e.0 < high)) (F c) (flat_map F cs) (Within-wider low k low high (F c) (omega arith) (omega (arith, f.1)) (w low k c f.2)) (Within-wider k high low high (flat_map F cs) (omega (arith, f.0)) (omega arith) (Fans-within P F w k high ks cs f.3))

pub Ordered-within : (d low high : ℕ) (t : Tree d) → Ordered d low high t → Within low high (pairs_of d t)
Ordered-within zero low high t o = Rising-within low high t.pairs o
Ordered-within (suc d) low high t o = Fans-within (Ordered d) (pairs_of d) (λ l h c p. Ordered-within d l h c p) low high t.keys t.kids o

-- the bounds of child i
abbrev pub low_of : ℕ → List ℕ → ℕ → ℕ
low_of low ks zero = low
low_of low [] (suc i) = low
low_of low (k ∷ ks) (suc i) = low_of k ks i

abbrev pub high_of : ℕ → List ℕ → ℕ → ℕ
high_of high ks i = get_or ks i high

pub Ranks-tail : (key k : ℕ) (ks : List ℕ) (i : ℕ) → Ranks key (k ∷ ks) (suc i) → Ranks key ks i
Ranks-tail key k ks i r = record { within = omega (arith, r.within); below = λ j h. r.below (suc j) (omega arith); above = λ h. r.above (omega arith) }

-- child i is as P says, between the keys beside it
pub Fans-at : {C : Type 0} (P : ℕ → ℕ → C → Type 0) (low high : ℕ) (ks : List ℕ) (cs : List C) (i : ℕ) (e : C) → i ≤ length ks → Fans P low high ks cs → P (low_of low ks i) (high_of high ks i) (get_or cs i e)
Fans-at P low high [] [] i e h f = absurd f
Fans-at P low high [] (c ∷ []) zero e h f = f
Fans-at P low high [] (c ∷ []) (suc i) e h f = absurd (omega arith)
Fans-at P low high [] (c ∷ b ∷ cs) i e h f = absurd f
Fans-at P low high (k ∷ ks) [] i e h f = absurd f
Fans-at P low high (k ∷ ks) (c ∷ cs) zero e h f = f.2
Fans-at P low high (k ∷ ks) (c ∷ cs) (suc i) e h f = Fans-at P k high ks cs i e (omega arith) f.3

-- the pairs of the children before and after the one where the key belongs
pub Fans-before : {C : Type 0} (P : ℕ → ℕ → C → Type 0) (F : C → List (ℕ × ℕ)) → ((l h : ℕ) (c : C) → P l h c → Within l h (F c)) → (key low high : ℕ) (ks : List ℕ) (cs : List C) (i : ℕ) → Ranks key ks i → Fans P low high ks cs → Below key (flat_map F (take i cs))
Fans-before P F w key low high [] [] i r f = absurd f
Fans-before P F w key low high [] (c ∷ b ∷ cs) i r f = absurd f
Fans-before P F w key low high [] (c ∷ []) zero r f = All-nil (λ (e : ℕ × ℕ). e.0 < key)
Fans-before P F w key low high [] (c ∷ []) (suc i) r f = absurd (omega (arith, r.within))
Fans-before P F w key low high (k ∷ ks) [] i r f = absurd f
Fans-before P F w key low high (k ∷ ks) (c ∷ cs) zero r f = All-nil (λ (e : ℕ × ℕ). e.0 < key)
Fans-before P F w key low high (k ∷ ks) (c ∷ cs) (suc i) r f = All-append (λ (e : ℕ × ℕ). e.0 < key) (F c) (flat_map F (take i cs)) (Below-from low k key (F c) (r.below 0 (omega arith)) (w low k c f.2)) (Fans-before P F w key k high ks cs i (Ranks-tail key k ks i r) f.3)

pub Fans-after : {C : Type 0} (P : ℕ → ℕ → C → Type 0) (F : C → List (ℕ × ℕ)) → ((l h : ℕ) (c : C) → P l h c → Within l h (F c)) → (key low high : ℕ) (ks : List ℕ) (cs : List C) (i : ℕ) → Ranks key ks i → Fans P low high ks cs → Above key (flat_map F (drop (suc i) cs))
Fans-after P F w key low high [] [] i r f = absurd f
Fans-after P F w key low high [] (c ∷ b ∷ cs) i r f = absurd f
Fans-after P F w key low high [] (c ∷ []) zero r f = All-nil (λ (e : ℕ × ℕ). key < e.0)
Fans-after P F w key low high [] (c ∷ []) (suc i) r f = absurd (omega (arith, r.within))
Fans-after P F w key low high (k ∷ ks) [] i r f = absurd f
Fans-after P F w key low high (k ∷ ks) (c ∷ cs) zero r f = Above-from k high key (flat_map F cs) (r.above (omega arith)) (Fans-within P F w k high ks cs f.3)
Fans-after P F w key low high (k ∷ ks) (c ∷ cs) (suc i) r f = Fans-after P F w key k high ks cs i (Ranks-tail key k ks i r) f.3

-- child i gives way to another
pub Fans-set : {C : Type 0} (P : ℕ → ℕ → C → Type 0) (low high : ℕ) (ks : List ℕ) (cs : List C) (i : ℕ) (e : C) → i ≤ length ks → P (low_of low ks i) (high_of high ks i) e → Fans P low high ks cs → Fans P low high ks (set cs i e)
Fans-set P low high [] [] i e h p f = absurd f
Fans-set P low high [] (c ∷ []) zero e h p f = p
Fans-set P low high [] (c ∷ []) (suc i) e h p f = absurd (omega arith)
Fans-set P low high [] (c ∷ b ∷ cs) i e h p f = absurd f
Fans-set P low high (k ∷ ks) [] i e h p f = absurd f
Fans-set P low high (k ∷ ks) (c ∷ cs) zero e h p f = (f.0, f.1, p, f.3)
Fans-set P low high (k ∷ ks) (c ∷ cs) (suc i) e h p f = (f.0, f.1, f.2, Fans-set P k high ks cs i e (omega arith) p f.3)

-- child i gives way to two, parted by the key m
pub Fans-insert : {C : Type 0} (P : ℕ → ℕ → C → Type 0) (low high : ℕ) (ks : List ℕ) (cs : List C) (i m : ℕ) (a b : C) → i ≤ length ks → low_of low ks i < m → m < high_of high ks i → P (low_of low ks i) m a → P m (high_of high ks i) b → Fans P low high ks cs → Fans P low high (insert ks i m) (insert (set cs i a) (suc i) b)
Fans-insert P low high [] [] i m a b h u v p q f = absurd f
Fans-insert P low high [] (c ∷ []) zero m a b h u v p q f = (u, v, p, q)
Fans-insert P low high [] (c ∷ []) (suc i) m a b h u v p q f = absurd (omega arith)
Fans-insert P low high [] (c ∷ e ∷ cs) i m a b h u v p q f = absurd f
Fans-insert P low high (k ∷ ks) [] i m a b h u v p q f = absurd f
Fans-insert P low high (k ∷ ks) (c ∷ cs) zero m a b h u v p q f = (u, omega (arith, f.1), p, (v, f.1, q, f.3))
Fans-insert P low high (k ∷ ks) (c ∷ cs) (suc i) m a b h u v p q f = (f.0, f.1, f.2, Fans-insert P k high ks cs i m a b (omega arith) u v p q f.3)

-- a node parts in two at the key m
pub Fans-split : {C : Type 0} (P : ℕ → ℕ → C → Type 0) (low high m : ℕ) (ks ms : List ℕ) (cs bs : List C) → length cs ≡ length ks + 1 → Fans P low high (ks ++ m ∷ ms) (cs ++ bs) → (low < m) × (m < high) × Fans P low m ks cs × Fans P m high ms bs
Fans-split P low high m [] ms [] bs e f = absurd (omega arith)
Fans-split P low high m [] ms (c ∷ []) bs e f = f
Fans-split P low high m [] ms (c ∷ d ∷ cs) bs e f = absurd (omega arith)
Fans-split P low high m (k ∷ ks) ms [] bs e f = absurd (omega arith)
Fans-split P low high m (k ∷ ks) ms (c ∷ cs) bs e f =
    let r = Fans-split P k high m ks ms cs bs (omega arith) f.3 in
    (omega (arith, f.0, r.0), r.1, (f.0, r.0, f.2, r.2), r.3)

-- two nodes join at the key m
pub Fans-join : {C : Type 0} (P : ℕ → ℕ → C → Type 0) (low high m : ℕ) (ks ms : List ℕ) (cs bs : List C) → low < m → m < high → Fans P low m ks cs → Fans P m high ms bs → Fans P low high (ks ++ m ∷ ms) (cs ++ bs)
Fans-join P low high m [] ms [] bs l h f g = absurd f
Fans-join P low high m [] ms (c ∷ []) bs l h f g = (l, h, f, g)
Fans-join P low high m [] ms (c ∷ d ∷ cs) bs l h f g = absurd f
Fans-join P low high m (k ∷ ks) ms [] bs l h f g = absurd f
Fans-join P low high m (k ∷ ks) ms (c ∷ cs) bs l h f g = (f.0, omega (arith, f.1), f.2, Fans-join P k high m ks ms cs bs f.1 h f.3 g)

-- the bounds of child i + 1
pub low-next : (low : ℕ) (ks : List ℕ) (i : ℕ) → i < length ks → low_of low ks (suc i) ≡ get_or ks i 0
low-next low [] i lt = absurd (omega arith)
low-next low (k ∷ ks) zero lt = refl
low-next low (k ∷ ks) (suc i) lt = low-next k ks i (omega arith)

-- children i and i + 1 give way to two others, parted by another key
pub Fans-pair : {C : Type 0} (P : ℕ → ℕ → C → Type 0) (low high : ℕ) (ks : List ℕ) (cs : List C) (i m : ℕ) (a b : C) → i < length ks → low_of low ks i < m → m < high_of high ks (suc i) → P (low_of low ks i) m a → P m (high_of high ks (suc i)) b → Fans P low high ks cs → Fans P low high (set ks i m) (set (set cs i a) (suc i) b)
Fans-pair P low high [] cs i m a b h u v p q f = absurd (omega arith)
Fans-pair P low high (k ∷ ks) [] i m a b h u v p q f = absurd f
Fans-pair P low high (k ∷ []) (c ∷ []) zero m a b h u v p q f = absurd f.3
Fans-pair P low high (k ∷ []) (c ∷ e ∷ []) zero m a b h u v p q f = (u, v, p, q)
Fans-pair P low high (k ∷ []) (c ∷ e ∷ x ∷ cs) zero m a b h u v p q f = absurd f.3
Fans-pair P low high (k ∷ l ∷ ks) (c ∷ []) zero m a b h u v p q f = absurd f.3
Fans-pair P low high (k ∷ l ∷ ks) (c ∷ e ∷ cs) zero m a b h u v p q f = (u, omega (arith, f.3.1), p, (v, f.3.1, q, f.3.3))
Fans-pair P low high (k ∷ ks) (c ∷ cs) (suc i) m a b h u v p q f = (f.0, f.1, f.2, Fans-pair P k high ks cs i m a b (omega arith) u v p q f.3)

-- children i and i + 1 give way to one
pub Fans-merge : {C : Type 0} (P : ℕ → ℕ → C → Type 0) (low high : ℕ) (ks : List ℕ) (cs : List C) (i : ℕ) (a : C) → i < length ks → P (low_of low ks i) (high_of high ks (suc i)) a → Fans P low high ks cs → Fans P low high (remove ks i) (remove (set cs i a) (suc i))
Fans-merge P low high [] cs i a h p f = absurd (omega arith)
Fans-merge P low high (k ∷ ks) [] i a h p f = absurd f
Fans-merge P low high (k ∷ []) (c ∷ []) zero a h p f = absurd f.3
Fans-merge P low high (k ∷ []) (c ∷ e ∷ []) zero a h p f = p
Fans-merge P low high (k ∷ []) (c ∷ e ∷ x ∷ cs) zero a h p f = absurd f.3
Fans-merge P low high (k ∷ l ∷ ks) (c ∷ []) zero a h p f = absurd f.3
Fans-merge P low high (k ∷ l ∷ ks) (c ∷ e ∷ cs) zero a h p f = (omega (arith, f.0, f.3.0), f.3.1, p, f.3.3)
Fans-merge P low high (k ∷ ks) (c ∷ cs) (suc i) a h p f = (f.0, f.1, f.2, Fans-merge P k high ks cs i a (omega arith) p f.3)

-- leaves part and join
pub Rising-wider : (l low high : ℕ) (es : List (ℕ × ℕ)) → l ≤ low → Rising low high es → Rising l high es
Rising-wider l low high [] le r = omega arith
Rising-wider l low high (e ∷ es) le r = (omega (arith, r.0), r.1, r.2)

pub Rising-join : (low m high : ℕ) (es fs : List (ℕ × ℕ)) → Rising low m es → Rising m high fs → m ≤ high → Rising low high (es ++ fs)
Rising-join low m high [] fs r s le = Rising-wider low m high fs r s
Rising-join low m high (e ∷ es) fs r s le = (r.0, omega (arith, r.1), Rising-join (e.0 + 1) m high es fs r.2 s le)

pub Rising-split : (low high : ℕ) (es : List (ℕ × ℕ)) (f : ℕ × ℕ) (fs : List (ℕ × ℕ)) → Rising low high (es ++ f ∷ fs) → Rising low f.0 es × Rising f.0 high (f ∷ fs)
Rising-split low high [] f fs r = (r.0, (omega arith, r.1, r.2))
Rising-split low high (e ∷ es) f fs r =
    let s = Rising-split (e.0 + 1) high es f fs r.2 in
    ((r.0, (let h : e.0 + 1 ≤ f.0 = lower (e.0 + 1) f.0 es s.0 in omega arith), s.0), s.1)
  where
    lower : (l h : ℕ) (es : List (ℕ × ℕ)) → Rising l h es → l ≤ h
    lower l h [] r = r
    lower l h (e ∷ es) r = omega (arith, r.0, r.1)

-- The tree of the whole after a change.
use Rattle.std.proofs.Common.{◌≡◌, ◌≢◌, ℕ, zero, suc, ◌+◌, ◌-◌, ◌^◌, ◌<◌, ◌≤◌, Bool, true, false, List, [], ◌∷◌, ◌++◌, length, get_or, set, refl, ap, sym, subst, ◌∙◌, inl, inr, Some, None, Result, Ok, Err, OnOk, ltb, arith}
use Rattle.std.proofs.lemmas.List.{set-set, set-get_or, get_or-set_same, get_or-set_other, length-set, append-nil}
use Rattle.std.proofs.lemmas.List.Elements.{All-cons, All-nil}
use Rattle.envy_base.specs.declared.board.Trouble.{Trouble}
use Rattle.envy_array.specs.Words.{Sheet, Puts}
use Rattle.envy_heap.specs.Pieces.{IsHeap, Takes, Chain, handed, spare, head, at, one, times}
use Rattle.envy_heap.proofs.Heaps.{Chain-same, one-same}
use Rattle.envy_btree.specs.Pairs.{with_pair}
use Rattle.envy_btree.specs.Tree.{Tree, Sized, Holds, Shows, uses, piece_of, pairs_of}
use Rattle.envy_btree.specs.Nodes.{OnlyPiece}
use Rattle.envy_btree.specs.Depths.{IsShallow}
use Rattle.envy_btree.specs.Index.{Stands, IsTree, Rooted, IsPlanted, most_pairs}
use Rattle.envy_btree.specs.Changes.{Way, Grows, Became, Parted, Crowned}
use Rattle.envy_btree.proofs.Counting.{spare-enough, spare-all}
use Rattle.envy_btree.proofs.Descent.{owned-within, Rests-within}
use Rattle.envy_btree.proofs.Framing.{Shows-same, Holds-same, handed-within, other-piece}
use Rattle.envy_btree.proofs.Setting.{heap-kept}

-- a tree that holds, after words changed outside its pieces
pub Holds-kept : (old new free : List ℕ) (root : Bool) (low high d : ℕ) (t : Tree d) → IsHeap old free → length new ≡ length old → ((q i : ℕ) → i < 64 → 1 ≤ handed old free q → get_or new (at q i) 0 ≡ get_or old (at q i) 0) → Stands old free root low high d t → Holds new d t
Holds-kept old new free root low high d t heap long others s =
    Holds-same old new root low high d t (λ q some. handed-within old new free q heap long (omega (arith, s.owned q))) (λ q i lt some. others q i lt (omega (arith, s.owned q))) s.ordered s.sized s.holds

-- a word of the head changes that no tree and no heap reads
pub heap-aside : (ws free : List ℕ) (a v : ℕ) → a < 64 → a ≢ 1 → a ≢ 2 → IsHeap ws free → IsHeap (set ws a v) free × ((q : ℕ) → handed (set ws a v) free q ≡ handed ws free q)
heap-aside ws free a v lt n1 n2 h =
    let new : List ℕ = set ws a v in
    let used : get_or new 2 0 ≡ get_or ws 2 0 = get_or-set_other ws a 2 v 0 (omega arith) in
    let long : length new ≡ length ws = length-set ws a v in (
      record {
        size = omega (arith, h.size);
        used = omega (arith, h.used);
        chain = subst (λ x. Chain new x free) (sym (get_or-set_other ws a 1 v 0 (omega arith))) (Chain-same ws new (get_or ws 1 0) free (λ q some. get_or-set_other ws a (head q) v 0 (let ne : head q ≢ a = omega arith in ne)) h.chain);
        once = λ q. subst (λ u. times free q ≤ one (ltb q u)) (sym used) (h.once q);
      },
      λ q. ap (λ u. one (ltb q u) - times free q) used,
    )

istree-aside : (ws free : List ℕ) (d : ℕ) (t : Tree d) (v : ℕ) → IsHeap ws free → ((q : ℕ) → handed (set ws 3 v) free q ≡ handed ws free q) → IsTree ws free d t → IsTree (set ws 3 v) free d t
istree-aside ws free d t v h same tree =
    let new : List ℕ = set ws 3 v in
    record {
      root = get_or-set_other ws 3 0 v 0 (omega arith) ∙ tree.root;
      stands = record {
        holds = Holds-kept ws new free true 0 (2 ^ 64) d t h (length-set ws 3 v) (λ q i lt some. get_or-set_other ws 3 (at q i) v 0 (let ne : at q i ≢ 3 = omega arith in ne)) tree.stands;
        ordered = tree.stands.ordered;
        sized = tree.stands.sized;
        owned = λ q. omega (arith, tree.stands.owned q, same q);
      };
      all = λ q. tree.all q ∙ sym (same q);
    }

tree-aside : (ws free : List ℕ) (es : List (ℕ × ℕ)) (v : ℕ) → IsHeap ws free → ((q : ℕ) → handed (set ws 3 v) free q ≡ handed ws free q) → Rooted ws free es → Rooted (set ws 3 v) free es
tree-aside ws free es v h same (inl n) = inl (get_or-set_other ws 3 0 v 0 (omega arith) ∙ n.0, n.1, λ q. same q ∙ n.2 q)
tree-aside ws free es v h same (inr t) = inr (t.0, t.1, istree-aside ws free t.0 t.1 v h same t.2, t.3)

pub planted-aside : (ws : List ℕ) (es : List (ℕ × ℕ)) (v : ℕ) → IsPlanted ws es → IsPlanted (set ws 3 v) es
planted-aside ws es v x =
    let h = heap-aside ws x.free 3 v (omega arith) (omega arith) (omega arith) x.heap in
    record { free = x.free; heap = h.0; tree = tree-aside ws x.free es v x.heap h.1 x.tree }

-- the first pair
crowned-first : (ws new free : List ℕ) (key value : ℕ) → key < 2 ^ 64 → ((q : ℕ) → handed ws free q ≡ 0) → Crowned ws new free 0 (key ∷ []) (value ∷ []) → IsPlanted new ((key, value) ∷ [])
crowned-first ws new free key value lt none c = record {
  free = c.next;
  heap = c.heap;
  tree = inr (
    zero,
    record { piece = c.piece; pairs = (key, value) ∷ [] },
    record {
      root = c.root;
      stands = record {
        holds = c.shows;
        ordered = (omega arith, lt, omega arith);
        sized = (omega arith, omega arith);
        owned = λ q. omega (arith, c.share q, none q);
      };
      all = λ q. omega (arith, c.share q, none q);
    },
    refl,
  );
}

first-of : (ws new : List ℕ) (es : List (ℕ × ℕ)) (key value : ℕ) (x : IsPlanted ws es) → key < 2 ^ 64 → get_or ws 0 0 ≡ 0 → ((free : List ℕ) → IsHeap ws free → Crowned ws new free 0 (key ∷ []) (value ∷ [])) → Rooted ws x.free es → IsPlanted new (with_pair key value es) × (get_or new 3 0 ≡ get_or ws 3 0)
first-of ws new es key value x lt none made (inl n) =
    let c = made x.free x.heap in
    (subst (λ e. IsPlanted new (with_pair key value e)) (sym n.1) (crowned-first ws new x.free key value lt n.2 c), c.first 3 (omega arith) (omega arith) (omega arith) (omega arith))
first-of ws new es key value x lt none made (inr t) = absurd (omega (arith, t.2.root))

pub planted-first : (ws new : List ℕ) (es : List (ℕ × ℕ)) (key value : ℕ) → IsPlanted ws es → key < 2 ^ 64 → get_or ws 0 0 ≡ 0 → ((free : List ℕ) → IsHeap ws free → Crowned ws new free 0 (key ∷ []) (value ∷ [])) → IsPlanted new (with_pair key value es) × (get_or new 3 0 ≡ get_or ws 3 0)
planted-first ws new es key value x lt none made = first-of ws new es key value x lt none made x.tree

pub spare-of : (ws : List ℕ) (es : List (ℕ × ℕ)) (x : IsPlanted ws es) → length es ≤ most_pairs ws → Rooted ws x.free es → 8 ≤ spare ws x.free
spare-of ws es x few (inl n) = omega (arith, spare-all ws x.free x.heap n.2, x.heap.size)
spare-of ws es x few (inr t) = spare-enough ws x.free t.0 t.1 x.heap t.2.stands.sized t.2.all (omega (arith, ap length t.3))

-- pieces are left for an insertion
pub planted-spare : (ws : List ℕ) (es : List (ℕ × ℕ)) → IsPlanted ws es → length es ≤ most_pairs ws → (free : List ℕ) × IsHeap ws free × (8 ≤ spare ws free)
planted-spare ws es x few = (x.free, x.heap, spare-of ws es x few x.tree)

-- the tree keeps its root
pub became-planted : (old new free : List ℕ) (es : List (ℕ × ℕ)) (d : ℕ) (t : Tree d) → IsTree old free d t → Became old new free es true 0 (2 ^ 64) d t → IsPlanted new es × (get_or new 3 0 ≡ get_or old 3 0)
became-planted old new free es d t tree b = (
  record {
    free = b.next;
    heap = b.heap;
    tree = inr (
      d,
      b.tree,
      record {
        root = b.elsewhere.first 0 (omega arith) (omega arith) (omega arith) ∙ tree.root ∙ ap (λ x. x + 1) (sym b.is);
        stands = b.stands;
        all = λ q. omega (arith, b.share q, tree.all q);
      },
      sym b.pairs,
    );
  },
  b.elsewhere.first 3 (omega arith) (omega arith) (omega arith),
)

-- it has parted, and a new root stands over the two
pub crowned-planted : (old mid new free : List ℕ) (es : List (ℕ × ℕ)) (d : ℕ) (t : Tree d) → IsTree old free d t → (b : Parted old mid free es 0 (2 ^ 64) d t) → Crowned mid new b.next 1 (b.key ∷ []) (piece_of d t ∷ piece_of d b.right ∷ []) → IsPlanted new es × (get_or new 3 0 ≡ get_or old 3 0)
crowned-planted old mid new free es d t tree b c =
    let left = Holds-kept mid new b.next false 0 b.key d b.left b.heap c.long c.others b.front in
    let right = Holds-kept mid new b.next false b.key (2 ^ 64) d b.right b.heap c.long c.others b.rear in
    let over : Tree (suc d) = record { piece = c.piece; keys = b.key ∷ []; kids = b.left ∷ b.right ∷ [] } in
    let used : (q : ℕ) → uses (suc d) over q ≡ handed new c.next q = λ q. omega (arith, c.share q, b.share q, tree.all q) in (
      record {
        free = c.next;
        heap = c.heap;
        tree = inr (
          suc d,
          over,
          record {
            root = c.root;
            stands = record {
              holds = (subst (λ x. Shows new c.piece 1 (b.key ∷ []) (x ∷ piece_of d b.right ∷ [])) (sym b.is) c.shows, All-cons (Holds new d) b.left (b.right ∷ []) left (All-cons (Holds new d) b.right [] right (All-nil (Holds new d))));
              ordered = (b.above, b.below, b.front.ordered, b.rear.ordered);
              sized = (omega arith, omega arith, All-cons (Sized false d) b.left (b.right ∷ []) b.front.sized (All-cons (Sized false d) b.right [] b.rear.sized (All-nil (Sized false d))));
              owned = λ q. omega (arith, used q);
            };
            all = used;
          },
          sym b.pairs ∙ ap (λ x. pairs_of d b.left ++ x) (sym (append-nil (pairs_of d b.right))),
        );
      },
      c.first 3 (omega arith) (omega arith) (omega arith) (omega arith) ∙ b.elsewhere.first 3 (omega arith) (omega arith) (omega arith),
    )

-- what an insertion at the root comes to
pub record Enters (ws : List ℕ) (es : List (ℕ × ℕ)) (p level key value : ℕ) : Type 0 where
  pub way : Way ws p level key
  pub same : (new : List ℕ) → Grows ws new p level key value way.rests None → IsPlanted new (with_pair key value es) × (get_or new 3 0 ≡ get_or ws 3 0)
  pub ready : (mid : List ℕ) (s : ℕ × ℕ) → Grows ws mid p level key value way.rests (Some s) → (free : List ℕ) × IsHeap mid free × (1 ≤ spare mid free)
  pub crowned : (mid new : List ℕ) (s : ℕ × ℕ) → Grows ws mid p level key value way.rests (Some s) → ((free : List ℕ) → IsHeap mid free → Crowned mid new free 1 (s.0 ∷ []) (p ∷ s.1 ∷ [])) → IsPlanted new (with_pair key value es) × (get_or new 3 0 ≡ get_or ws 3 0)

enters-of : (ws : List ℕ) (es : List (ℕ × ℕ)) (p level key value : ℕ) (x : IsPlanted ws es) → IsShallow ws level → level ≤ 6 → length es ≤ most_pairs ws → key < 2 ^ 64 → p ≡ get_or ws 0 0 - 1 → get_or ws 0 0 ≢ 0 → Rooted ws x.free es → Enters ws es p level key value
enters-of ws es p level key value x small low few lt is some (inl e) = absurd (some e.0)
enters-of ws es p level key value x small low few lt is some (inr t) =
    let here : piece_of t.0 t.1 ≡ p = omega (arith, t.2.root) in
    let levels : t.0 ≤ level = small x.free t.0 t.1 x.heap t.2 in
    let many : 8 ≤ spare ws x.free = spare-of ws es x few (inr t) in
    record {
      way = record {
        rests = record { free = x.free; heap = x.heap; root = true; low = 0; high = 2 ^ 64; depth = t.0; tree = t.1; few = levels; is = here; stands = t.2.stands };
        above = omega arith;
        below = lt;
        spares = omega arith;
      };
      same = λ new b. subst (λ e. IsPlanted new (with_pair key value e) × (get_or new 3 0 ≡ get_or ws 3 0)) (sym t.3) (became-planted ws new x.free (with_pair key value (pairs_of t.0 t.1)) t.0 t.1 t.2 b);
      ready = λ mid s b. (b.0.next, b.0.heap, omega (arith, b.0.spares));
      crowned = λ mid new s b made.
          let c = made b.0.next b.0.heap in
          let d = subst (λ y. Crowned mid new b.0.next 1 (b.0.key ∷ []) (y ∷ piece_of t.0 b.0.right ∷ [])) (sym here) (subst (λ y. Crowned mid new b.0.next 1 (b.0.key ∷ []) (p ∷ y ∷ [])) b.2 (subst (λ y. Crowned mid new b.0.next 1 (y ∷ []) (p ∷ s.1 ∷ [])) b.1 c)) in
          subst (λ e. IsPlanted new (with_pair key value e) × (get_or new 3 0 ≡ get_or ws 3 0)) (sym t.3) (crowned-planted ws mid new x.free (with_pair key value (pairs_of t.0 t.1)) t.0 t.1 t.2 b.0 d);
    }

pub planted-enters : (ws : List ℕ) (es : List (ℕ × ℕ)) (p level key value : ℕ) → IsPlanted ws es → IsShallow ws level → level ≤ 6 → length es ≤ most_pairs ws → key < 2 ^ 64 → p ≡ get_or ws 0 0 - 1 → get_or ws 0 0 ≢ 0 → Enters ws es p level key value
planted-enters ws es p level key value x small low few lt is some = enters-of ws es p level key value x small low few lt is some x.tree

-- a node written into a piece just taken, and word 0
pub crown-made : (old first mid free rest : List ℕ) (p kind : ℕ) (keys slots : List ℕ) → IsHeap old free → Takes p old first free rest → Shows mid p kind keys slots → OnlyPiece p first mid → length keys ≤ 31 → length slots ≤ 32 → Crowned old (set mid 0 (p + 1)) free kind keys slots
crown-made old first mid free rest p kind keys slots heap takes shows only few fewer =
    let v : ℕ = p + 1 in
    let new : List ℕ = set mid 0 v in
    let out : 1 ≤ handed first rest p = omega (arith, takes.now p, one-same p) in
    let k = heap-kept first mid rest p takes.heap out only in
    let m = heap-aside mid rest 0 v (omega arith) (omega arith) (omega arith) k.0 in
    let same : (a : ℕ) → a ≢ 0 → get_or new a 0 ≡ get_or mid a 0 = λ a ne. get_or-set_other mid 0 a v 0 ne in
    let within : at p 63 < length new = omega (arith, (owned-within first rest p takes.heap out).0, only.long, length-set mid 0 v) in
    record {
      next = rest;
      heap = m.0;
      piece = p;
      root = get_or-set_same mid 0 v 0 (omega (arith, k.0.size));
      was = takes.was;
      share = λ q. omega (arith, takes.now q, k.1 q, m.1 q);
      shows = Shows-same mid new p kind keys slots within few fewer (λ i lt. same (at p i) (let ne : at p i ≢ 0 = omega arith in ne)) shows;
      long = length-set mid 0 v ∙ only.long ∙ takes.touches.long;
      first = λ a lt n0 n1 n2. same a n0 ∙ only.before a (omega arith) ∙ takes.touches.others a n1 n2 (omega arith);
      others = λ q i lt some.
          let ne : q ≢ p = λ e. absurd (let z : handed old free q ≡ 0 = subst (λ y. handed old free y ≡ 0) (sym e) takes.was in omega arith) in
          same (at q i) (let n0 : at q i ≢ 0 = omega arith in n0) ∙ other-piece first mid p q i lt (λ e. absurd (ne e)) only ∙ takes.touches.others (at q i) (omega arith) (omega arith) (omega arith);
    }

-- the same, of what the functions have at hand
pub crown-ok : (old first : List ℕ) (mid new : Sheet) (free rest : List ℕ) (p kind : ℕ) (keys slots : List ℕ) (r : Result Unit Trouble) → IsHeap old free → Takes p old first free rest → Shows mid.words p kind keys slots → OnlyPiece p first mid.words → length keys ≤ 31 → length slots ≤ 32 → Puts mid 0 (p + 1) r new → OnOk r (Crowned old new.words free kind keys slots)
crown-ok old first mid new free rest p kind keys slots (Ok done) heap takes shows only few fewer put = subst (λ w. Crowned old w free kind keys slots) (sym put.1) (crown-made old first mid.words free rest p kind keys slots heap takes shows only few fewer)
crown-ok old first mid new free rest p kind keys slots (Err e) heap takes shows only few fewer put = tt

pub first-ok : (ws new : List ℕ) (es : List (ℕ × ℕ)) (key value : ℕ) (r : Result Unit Trouble) → IsPlanted ws es → key < 2 ^ 64 → get_or ws 0 0 ≡ 0 → ((free : List ℕ) → IsHeap ws free → OnOk r (Crowned ws new free 0 (key ∷ []) (value ∷ []))) → OnOk r (IsPlanted new (with_pair key value es) × (get_or new 3 0 ≡ get_or ws 3 0))
first-ok ws new es key value (Ok done) x lt none made = planted-first ws new es key value x lt none made
first-ok ws new es key value (Err e) x lt none made = tt

pub crowned-ok : (ws mid new : List ℕ) (es : List (ℕ × ℕ)) (p level key value : ℕ) (s : ℕ × ℕ) (r : Result Unit Trouble) → (n : Enters ws es p level key value) → Grows ws mid p level key value n.way.rests (Some s) → ((free : List ℕ) → IsHeap mid free → OnOk r (Crowned mid new free 1 (s.0 ∷ []) (p ∷ s.1 ∷ []))) → OnOk r (IsPlanted new (with_pair key value es) × (get_or new 3 0 ≡ get_or ws 3 0))
crowned-ok ws mid new es p level key value s (Ok done) n b made = n.crowned mid new s b made
crowned-ok ws mid new es p level key value s (Err e) n b made = tt

pub way-fits : (ws : List ℕ) (p level key : ℕ) → length ws < 2 ^ 32 → Way ws p level key → p < 2 ^ 32
way-fits ws p level key few w = omega (arith, (Rests-within ws p level w.rests).0)

-- a piece that was taken lies within the words
pub taken-within : (old new : List ℕ) (p : ℕ) (free rest : List ℕ) → IsHeap old free → Takes p old new free rest → at p 63 < length new
taken-within old new p free rest heap t = omega (arith, t.below, t.touches.long, heap.size)

-- the levels stay, where the number of pairs is put
pub shallow-aside : (ws : List ℕ) (level v : ℕ) → IsShallow ws level → IsShallow (set ws 3 v) level
shallow-aside ws level v few free d t heap tree =
    let new : List ℕ = set ws 3 v in
    let was : ℕ = get_or ws 3 0 in
    let back : set new 3 was ≡ ws = set-set ws 3 v was ∙ set-get_or ws 3 0 in
    let h = heap-aside new free 3 was (omega arith) (omega arith) (omega arith) heap in
    few free d t (subst (λ w. IsHeap w free) back h.0) (subst (λ w. IsTree w free d t) back (istree-aside new free d t was heap h.1 tree))

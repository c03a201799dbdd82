-- The tree of the whole, after pairs that follow all others.
use Rattle.std.proofs.Common.{◌≡◌, ◌≢◌, ◌⊎◌, ℕ, zero, ◌-◌, ◌^◌, ◌≤◌, true, List, [], ◌∷◌, ◌++◌, length, get_or, set, refl, ap, sym, subst, ◌∙◌, inl, inr, Some, None, Result, Ok, Err, OnOk, arith}
use Rattle.std.proofs.lemmas.List.{get_or-set_same, get_or-set_other}
use Rattle.envy_base.specs.declared.board.Trouble.{Trouble}
use Rattle.envy_heap.specs.Pieces.{IsHeap, handed, spare}
use Rattle.envy_btree.specs.Pairs.{Below}
use Rattle.envy_btree.specs.Tree.{Rising, keys_of, values_of, pairs_of, piece_of}
use Rattle.envy_btree.specs.Depths.{IsShallow}
use Rattle.envy_btree.specs.Index.{Rooted, IsPlanted, most_pairs}
use Rattle.envy_btree.specs.Bulk.{with_pairs, Brim, Follows, MayFollow}
use Rattle.envy_btree.specs.Changes.{Crowned}
use Rattle.envy_btree.proofs.Trees.{Rising-wider}
use Rattle.envy_btree.proofs.Following.{with_pairs-last, Rising-some}
use Rattle.envy_btree.proofs.Planting.{became-planted, crowned-planted, planted-aside, spare-of}

-- a leaf alone
leaf-planted : (ws new free : List ℕ) (key : ℕ) (ps : List (ℕ × ℕ)) → Rising key (2 ^ 64) ps → length ps ≤ 31 → ((q : ℕ) → handed ws free q ≡ 0) → Crowned ws new free 0 (keys_of ps) (values_of ps) → IsPlanted new ps
leaf-planted ws new free key ps rising few none c = record {
  free = c.next;
  heap = c.heap;
  tree = inr (
    zero,
    record { piece = c.piece; pairs = ps },
    record {
      root = c.root;
      stands = record {
        holds = c.shows;
        ordered = Rising-wider 0 key (2 ^ 64) ps (omega arith) rising;
        sized = (omega arith, few);
        owned = λ q. omega (arith, c.share q, none q);
      };
      all = λ q. omega (arith, c.share q, none q);
    },
    refl,
  );
}

alone-of : (ws new : List ℕ) (key : ℕ) (ps es : List (ℕ × ℕ)) (x : IsPlanted ws es) → Rising key (2 ^ 64) ps → length ps ≤ 31 → get_or ws 0 0 ≡ 0 → ((free : List ℕ) → IsHeap ws free → Crowned ws new free 0 (keys_of ps) (values_of ps)) → Rooted ws x.free es → IsPlanted new (es ++ ps) × (get_or new 3 0 ≡ get_or ws 3 0)
alone-of ws new key ps es x rising few none made (inl n) =
    let c = made x.free x.heap in
    (subst (λ e. IsPlanted new (e ++ ps)) (sym n.1) (leaf-planted ws new x.free key ps rising few n.2 c), c.first 3 (omega arith) (omega arith) (omega arith) (omega arith))
alone-of ws new key ps es x rising few none made (inr t) = absurd (omega (arith, t.2.root))

pub alone-ok : (ws new : List ℕ) (key : ℕ) (ps es : List (ℕ × ℕ)) (ks ss : List ℕ) (r : Result Unit Trouble) → IsPlanted ws es → MayFollow ws key ps es → length ps ≤ 31 → get_or ws 0 0 ≡ 0 → ks ≡ keys_of ps → ss ≡ values_of ps → ((free : List ℕ) → IsHeap ws free → OnOk r (Crowned ws new free 0 ks ss)) → OnOk r (IsPlanted new (es ++ ps) × (get_or new 3 0 ≡ get_or ws 3 0))
alone-ok ws new key ps es ks ss (Ok done) x m few none ke se made =
    alone-of ws new key ps es x m.rising few none (subst (λ y. (free : List ℕ) → IsHeap ws free → Crowned ws new free 0 (keys_of ps) y) se (subst (λ y. (free : List ℕ) → IsHeap ws free → Crowned ws new free 0 y ss) ke made)) x.tree
alone-ok ws new key ps es ks ss (Err e) x m few none ke se made = tt

-- what pairs that follow come to at the root
pub record Founds (ws : List ℕ) (es ps : List (ℕ × ℕ)) (p level key : ℕ) : Type 0 where
  pub brim : Brim ws p level key ps
  pub many : 15 ≤ length ps
  pub same : (new : List ℕ) → Follows ws new p level key ps brim.way.rests None → IsPlanted new (es ++ ps) × (get_or new 3 0 ≡ get_or ws 3 0)
  pub ready : (mid : List ℕ) (s : ℕ × ℕ) → Follows ws mid p level key ps brim.way.rests (Some s) → (free : List ℕ) × IsHeap mid free × (1 ≤ spare mid free)
  pub crowned : (mid new : List ℕ) (s : ℕ × ℕ) → Follows ws mid p level key ps brim.way.rests (Some s) → ((free : List ℕ) → IsHeap mid free → Crowned mid new free 1 (s.0 ∷ []) (p ∷ s.1 ∷ [])) → IsPlanted new (es ++ ps) × (get_or new 3 0 ≡ get_or ws 3 0)

enough-of : (ws : List ℕ) (ps es : List (ℕ × ℕ)) → get_or ws 0 0 ≢ 0 → (get_or ws 0 0 ≡ 0) ⊎ ((15 ≤ length es) × (15 ≤ length ps)) → (15 ≤ length es) × (15 ≤ length ps)
enough-of ws ps es some (inl none) = absurd (some none)
enough-of ws ps es some (inr e) = e

founds-of : (ws : List ℕ) (es ps : List (ℕ × ℕ)) (p level key : ℕ) (x : IsPlanted ws es) → IsShallow ws level → level ≤ 6 → length es ≤ most_pairs ws → MayFollow ws key ps es → p ≡ get_or ws 0 0 - 1 → get_or ws 0 0 ≢ 0 → Rooted ws x.free es → Founds ws es ps p level key
founds-of ws es ps p level key x small low few m is some (inl e) = absurd (some e.0)
founds-of ws es ps p level key x small low few m is some (inr t) =
    let here : piece_of t.0 t.1 ≡ p = omega (arith, t.2.root) in
    let levels : t.0 ≤ level = small x.free t.0 t.1 x.heap t.2 in
    let left : 8 ≤ spare ws x.free = spare-of ws es x few (inr t) in
    let enough = enough-of ws ps es some m.enough in
    let whole : with_pairs key ps (pairs_of t.0 t.1) ≡ es ++ ps = sym (ap (with_pairs key ps) t.3) ∙ with_pairs-last key ps es m.before in
    record {
      brim = record {
        way = record {
          rests = record { free = x.free; heap = x.heap; root = true; low = 0; high = 2 ^ 64; depth = t.0; tree = t.1; few = levels; is = here; stands = t.2.stands };
          above = omega arith;
          below = Rising-some key (2 ^ 64) ps (omega (arith, enough.1)) m.rising;
          spares = omega arith;
        };
        enough = omega (arith, enough.0, ap length t.3);
        before = subst (Below key) t.3 m.before;
        rising = m.rising;
      };
      many = enough.1;
      same = λ new b. subst (λ e. IsPlanted new e × (get_or new 3 0 ≡ get_or ws 3 0)) whole (became-planted ws new x.free (with_pairs key ps (pairs_of t.0 t.1)) t.0 t.1 t.2 b);
      ready = λ mid s b. (b.0.next, b.0.heap, omega (arith, b.0.spares));
      crowned = λ mid new s b made.
          let c = made b.0.next b.0.heap in
          let d = subst (λ y. Crowned mid new b.0.next 1 (b.0.key ∷ []) (y ∷ piece_of t.0 b.0.right ∷ [])) (sym here) (subst (λ y. Crowned mid new b.0.next 1 (b.0.key ∷ []) (p ∷ y ∷ [])) b.2 (subst (λ y. Crowned mid new b.0.next 1 (y ∷ []) (p ∷ s.1 ∷ [])) b.1 c)) in
          subst (λ e. IsPlanted new e × (get_or new 3 0 ≡ get_or ws 3 0)) whole (crowned-planted ws mid new x.free (with_pairs key ps (pairs_of t.0 t.1)) t.0 t.1 t.2 b.0 d);
    }

pub planted-founds : (ws : List ℕ) (es ps : List (ℕ × ℕ)) (p level key : ℕ) → IsPlanted ws es → IsShallow ws level → level ≤ 6 → length es ≤ most_pairs ws → MayFollow ws key ps es → p ≡ get_or ws 0 0 - 1 → get_or ws 0 0 ≢ 0 → Founds ws es ps p level key
planted-founds ws es ps p level key x small low few m is some = founds-of ws es ps p level key x small low few m is some x.tree

pub founds-ok : (ws mid new : List ℕ) (es ps : List (ℕ × ℕ)) (p level key : ℕ) (s : ℕ × ℕ) (r : Result Unit Trouble) → (n : Founds ws es ps p level key) → Follows ws mid p level key ps n.brim.way.rests (Some s) → ((free : List ℕ) → IsHeap mid free → OnOk r (Crowned mid new free 1 (s.0 ∷ []) (p ∷ s.1 ∷ []))) → OnOk r (IsPlanted new (es ++ ps) × (get_or new 3 0 ≡ get_or ws 3 0))
founds-ok ws mid new es ps p level key s (Ok done) n b made = n.crowned mid new s b made
founds-ok ws mid new es ps p level key s (Err e) n b made = tt

-- the number of pairs is put
pub follow-aside : (ws : List ℕ) (key v : ℕ) (ps es : List (ℕ × ℕ)) → MayFollow ws key ps es → MayFollow (set ws 3 v) key ps es
follow-aside ws key v ps es m = record { before = m.before; rising = m.rising; enough = subst (λ w. (w ≡ 0) ⊎ ((15 ≤ length es) × (15 ≤ length ps))) (sym (get_or-set_other ws 3 0 v 0 (omega arith))) m.enough }

-- the number of pairs is put, and then the pairs
pub appended-ok : (old mid new : List ℕ) (es ps : List (ℕ × ℕ)) (key n : ℕ) (r : Result Unit Trouble) → IsPlanted old es → length es ≤ most_pairs old → MayFollow old key ps es → mid ≡ set old 3 n → length mid ≡ length old → 640 ≤ length old
    → ((es : List (ℕ × ℕ)) → IsPlanted mid es → length es ≤ most_pairs mid → MayFollow mid key ps es → OnOk r (IsPlanted new (es ++ ps) × (get_or new 3 0 ≡ get_or mid 3 0))) → OnOk r (IsPlanted new (es ++ ps) × (get_or new 3 0 ≡ n))
appended-ok old mid new es ps key n (Ok done) x few m is long many f =
    let a = f es (subst (λ w. IsPlanted w es) (sym is) (planted-aside old es n x)) (omega (arith, long)) (subst (λ w. MayFollow w key ps es) (sym is) (follow-aside old key n ps es m)) in
    (a.0, a.1 ∙ ap (λ w. get_or w 3 0) is ∙ get_or-set_same old 3 n 0 (omega arith))
appended-ok old mid new es ps key n (Err e) x few m is long many f = tt

-- Changes within an open transaction, of what the functions have at hand.
use Rattle.std.proofs.Common.{◌≡◌, ℕ, ◌+◌, ◌-◌, ◌*◌, ◌/◌, ◌^◌, ◌<◌, ◌≤◌, List, length, get_or, Option, None, Some, MatchOption, IsTrue, refl, ap, sym, subst, ◌∙◌, inl, inr, arith}
use Rattle.envy_array.specs.Words.{Sheet, Works}
use Rattle.envy_base.specs.Counting.{Rose}
use Rattle.envy_btree.specs.Answers.{IsFull}
use Rattle.envy_btree.specs.Pairs.{assoc, with_pair, without}
use Rattle.envy_btree.specs.Index.{IsPlanted, IsIndex, Rooted, most_pairs}
use Rattle.envy_btree.specs.Depths.{IsDeep}
use Rattle.envy_array.proofs.Working.{Works-trans, Works-more}
use Rattle.envy_btree.proofs.Calls.{count-of, is-full, has-room, count-fits}
use Rattle.envy_btree.proofs.Felling.{without-missing, without-present}
use Rattle.envy_btree.proofs.Keeping.{rose-high}

-- the same map, after look-ups
pub index-same : (ws two : List ℕ) (es : List (ℕ × ℕ)) → two ≡ ws → IsIndex ws es → IsIndex two es
index-same ws two es same x = subst (λ w. IsIndex w es) (sym same) x

counted : (ws two : List ℕ) (n before : ℕ) (es : List (ℕ × ℕ)) (was : Option ℕ) → IsIndex ws es → two ≡ ws → before ≡ get_or two 3 0 → MatchOption was (n ≡ before + 1) (λ _. n ≡ before) → MatchOption was (n ≡ length es + 1) (λ _. n ≡ length es)
counted ws two n before es was x same is m =
    let e : before ≡ length es = is ∙ ap (λ w. get_or w 3 0) same ∙ x.count in
    subst (λ b. MatchOption was (n ≡ b + 1) (λ _. n ≡ b)) e m

pub pairs-counted : (ws two : List ℕ) (key value n before : ℕ) (es : List (ℕ × ℕ)) (was : Option ℕ) → IsIndex ws es → two ≡ ws → was ≡ assoc key es → before ≡ get_or two 3 0 → MatchOption was (n ≡ before + 1) (λ _. n ≡ before) → n ≡ length (with_pair key value es)
pairs-counted ws two key value n before es was x same found is m = count-of ws key value n es was x.planted found (counted ws two n before es was x same is m)

pub before-fits : (ws two : List ℕ) (before : ℕ) (es : List (ℕ × ℕ)) → IsIndex ws es → two ≡ ws → before ≡ get_or two 3 0 → length ws ≤ 2 ^ 29 → before < 2 ^ 32
before-fits ws two before es x same is size = count-fits ws es before x (is ∙ ap (λ w. get_or w 3 0) same) size

pub within-full : (ws two : List ℕ) (key n before size most : ℕ) (es : List (ℕ × ℕ)) (was : Option ℕ) → IsIndex ws es → two ≡ ws → was ≡ assoc key es → before ≡ get_or two 3 0 → MatchOption was (n ≡ before + 1) (λ _. n ≡ before) → size ≡ length two → most ≡ 14 * ((size - 64) / 64 - 8) → most < n → IsFull ws key es
within-full ws two key n before size most es was x same found is m long many lt = is-full ws key size most n es was x found (long ∙ ap length same) many lt (counted ws two n before es was x same is m)

pub within-few : (ws two : List ℕ) (n size most : ℕ) → two ≡ ws → size ≡ length two → most ≡ 14 * ((size - 64) / 64 - 8) → n ≤ most → n ≤ most_pairs ws
within-few ws two n size most same long many le = omega (arith, ap length same)

pub within-room : (ws : List ℕ) (key value n : ℕ) (es : List (ℕ × ℕ)) → n ≡ length (with_pair key value es) → n ≤ most_pairs ws → IsFull ws key es → ⊥
within-room ws key value n es count few f = has-room ws ws key value n es refl count few f

pub within-index : (ws new : List ℕ) (n : ℕ) (es : List (ℕ × ℕ)) → length new ≡ length ws → n ≡ length es → n ≤ most_pairs ws → IsPlanted new es × (get_or new 3 0 ≡ n) → IsIndex new es
within-index ws new n es long count few m = record { planted = m.0; count = m.1 ∙ count; few = omega (arith, long) }

pub within-planted : (ws two : List ℕ) (es : List (ℕ × ℕ)) → two ≡ ws → IsIndex ws es → IsPlanted two es × (length es ≤ most_pairs two)
within-planted ws two es same x = let y = index-same ws two es same x in (y.planted, y.few)

-- a removal
pub removed-count : (ws two : List ℕ) (key value pairs : ℕ) (es : List (ℕ × ℕ)) (was : Option ℕ) → IsIndex ws es → two ≡ ws → was ≡ assoc key es → was ≡ Some value → pairs ≡ get_or two 3 0 → (pairs - 1 ≡ length (without key es)) × (1 ≤ pairs) × (pairs - 1 ≤ most_pairs ws)
removed-count ws two key value pairs es was x same found some is =
    let e : pairs ≡ length es = is ∙ ap (λ w. get_or w 3 0) same ∙ x.count in
    let present = without-present key value es (sym found ∙ some) in
    (omega arith, omega arith, omega (arith, x.few))

pub removed-none : (ws two : List ℕ) (key : ℕ) (es : List (ℕ × ℕ)) (was : Option ℕ) → IsIndex ws es → two ≡ ws → was ≡ assoc key es → was ≡ None → IsIndex two (without key es)
removed-none ws two key es was x same found none = subst (λ e. IsIndex two e) (sym (without-missing key es (sym found ∙ none))) (index-same ws two es same x)

pub rose-after : (a b c : Sheet) → Works 0 a b → b.bads ≤ c.bads → Rose b.bads c.bads → Rose a.bads c.bads
rose-after a b c w le r = rose-high a.bads b.bads c.bads w.bads le r

-- what a look-up found, and left
pub looked : (key : ℕ) (es : List (ℕ × ℕ)) (v : Option ℕ) (old one : Sheet) → IsTrue one.on → v ≡ assoc key es → one.words ≡ old.words → IsIndex old.words es → IsTrue one.on × (v ≡ assoc key es) × IsIndex one.words es
looked key es v old one on found same x = (on, found, index-same old.words one.words es same x)

-- the words have one depth
deep-of : (ws : List ℕ) (es : List (ℕ × ℕ)) (m n : ℕ) (x : IsPlanted ws es) → IsDeep ws m → IsDeep ws n → Rooted ws x.free es → m ≡ n
deep-of ws es m n x a b (inl e) = a.none e.0 ∙ sym (b.none e.0)
deep-of ws es m n x a b (inr t) = sym (a.levels x.free t.0 t.1 x.heap t.2) ∙ b.levels x.free t.0 t.1 x.heap t.2

pub pages-in : (ws : List ℕ) (es : List (ℕ × ℕ)) (m n k : ℕ) (a b c d : Sheet) → IsIndex ws es → IsDeep ws m → IsDeep ws n → Works 0 a b → Works 0 b c → Works (4 * m + k) c d → Works (4 * n + k) a d
pages-in ws es m n k a b c d x deep other u v w =
    let same : m ≡ n = deep-of ws es m n x.planted deep other x.planted.tree in
    Works-more (0 + 0 + (4 * m + k)) (4 * n + k) a d (omega arith) (Works-trans (0 + 0) (4 * m + k) a c d (Works-trans 0 0 a b c u v) w)

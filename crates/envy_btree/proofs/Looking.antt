-- What a change knows before it puts a word.
use Rattle.std.proofs.Common.{◌≡◌, ◌≢◌, ℕ, ◌+◌, ◌-◌, ◌^◌, ◌≤◌, Bool, true, false, List, length, get_or, Option, None, Some, refl, ap, sym, subst, ◌∙◌, inl, inr, IfOk, Result, Ok, Err, arith}
use Rattle.envy_base.specs.declared.board.Off.{Off}
use Rattle.envy_btree.specs.declared.search.Found.{Found}
use Rattle.envy_btree.specs.Pairs.{assoc}
use Rattle.envy_btree.specs.Tree.{pairs_of}
use Rattle.envy_btree.specs.Index.{IsIndex}
use Rattle.envy_btree.specs.Changes.{Rests}
use Rattle.envy_btree.specs.Depths.{IsDeep, IsShallow, most_levels}
use Rattle.envy_btree.specs.Spots.{IsSpot, ValueAt, keys_at, slots_at}
use Rattle.envy_btree.proofs.Counting.{depth-few}
use Rattle.envy_btree.proofs.Descent.{Ends-made}
use Rattle.envy_btree.proofs.Dipping.{Dip}
use Rattle.envy_btree.proofs.Diving.{Rests-lands}
use Rattle.envy_btree.proofs.Rooting.{Root-rests, Root-none}
use Rattle.envy_btree.proofs.Spotting.{spot-read}

-- in a leaf
value-ends : (ws : List ℕ) (p level key n i : ℕ) (inner : Bool) (t : Rests ws p level) (v : Option ℕ) → IsSpot ws p key inner n i → inner ≡ false → ValueAt (keys_at ws p) (slots_at ws p) i key v → v ≡ assoc key (pairs_of t.depth t.tree)
value-ends ws p level key n i inner t None s flat (inl e) = sym ((Ends-made ws p level key i (keys_at ws p) (keys_at ws p) (slots_at ws p) inner t (spot-read ws p key n i inner s) flat refl s.rank).first e)
value-ends ws p level key n i inner t None s flat (inr ne) = sym ((Ends-made ws p level key i (keys_at ws p) (keys_at ws p) (slots_at ws p) inner t (spot-read ws p key n i inner s) flat refl s.rank).missing ne)
value-ends ws p level key n i inner t (Some x) s flat v =
    let some : i ≢ 0 = omega (arith, v.0.0) in
    ap (λ y. Some y) v.1 ∙ sym ((Ends-made ws p level key i (keys_at ws p) (keys_at ws p) (slots_at ws p) inner t (spot-read ws p key n i inner s) flat refl s.rank).found some v.0.1)

pub value-found : (ws one : List ℕ) (p level key n i : ℕ) (inner : Bool) (t : Rests ws p level) (v : Option ℕ) → IsSpot ws p key inner n i → inner ≡ false → one ≡ ws → ValueAt (keys_at one p) (slots_at one p) i key v → v ≡ assoc key (pairs_of t.depth t.tree)
value-found ws one p level key n i inner t v s flat same x = value-ends ws p level key n i inner t v s flat (subst (λ w. ValueAt (keys_at w p) (slots_at w p) i key v) same x)

pub flat-depth : (ws : List ℕ) (p level key n i : ℕ) (inner : Bool) (t : Rests ws p level) → IsSpot ws p key inner n i → inner ≡ false → t.depth ≡ 0
flat-depth ws p level key n i inner t s flat = (Rests-lands ws p level key (keys_at ws p) (slots_at ws p) inner t (spot-read ws p key n i inner s) flat).flat

-- what was found under a child
pub value-below : (ws mid : List ℕ) (p level key n i child : ℕ) (v : Option ℕ) (t : Rests ws p level) → (s : Dip ws mid p level key n i child t) → ((h : Rests mid child (level - 1)) → v ≡ assoc key (pairs_of h.depth h.tree)) → v ≡ assoc key (pairs_of t.depth t.tree)
value-below ws mid p level key n i child v t s f =
    let a = subst (λ w. (h : Rests w child (level - 1)) → v ≡ assoc key (pairs_of h.depth h.tree)) s.same f in
    let b = subst (λ q. (h : Rests ws q (level - 1)) → v ≡ assoc key (pairs_of h.depth h.tree)) s.is a in
    b s.goes.child ∙ sym s.goes.looks

pub depth-below : (ws mid : List ℕ) (p level key n i child m : ℕ) (t : Rests ws p level) → (s : Dip ws mid p level key n i child t) → ((h : Rests mid child (level - 1)) → m ≡ h.depth) → m + 1 ≡ t.depth
depth-below ws mid p level key n i child m t s f =
    let a = subst (λ w. (h : Rests w child (level - 1)) → m ≡ h.depth) s.same f in
    let b = subst (λ q. (h : Rests ws q (level - 1)) → m ≡ h.depth) s.is a in
    omega (arith, b s.goes.child, s.goes.deeper)

-- at the root
pub none-deep : (ws : List ℕ) → get_or ws 0 0 ≡ 0 → IsDeep ws 0
none-deep ws none = record { none = λ e. refl; levels = λ free d t heap tree. absurd (omega (arith, tree.root)) }

pub root-deep : (ws : List ℕ) (p m : ℕ) → length ws ≤ 536870912 → p ≡ get_or ws 0 0 - 1 → get_or ws 0 0 ≢ 0 → ((h : Rests ws p 6) → m ≡ h.depth) → IsDeep ws m
root-deep ws p m small is some f = record {
  none = λ e. absurd (some e);
  levels = λ free d t heap tree. sym (f (record { free = free; heap = heap; root = true; low = 0; high = 2 ^ 64; depth = d; tree = t; few = omega (arith, depth-few ws free d t heap tree.stands.sized tree.all small); is = omega (arith, tree.root); stands = tree.stands }));
}

pub root-few : (ws : List ℕ) (es : List (ℕ × ℕ)) (p m : ℕ) → IsIndex ws es → length ws ≤ 536870912 → p ≡ get_or ws 0 0 - 1 → get_or ws 0 0 ≢ 0 → ((h : Rests ws p 6) → m ≡ h.depth) → m ≤ most_levels (length ws)
root-few ws es p m x small is some f =
    let r = Root-rests ws es p x.planted small is some in
    omega (arith, f r.rests, r.levels)

pub root-value : (ws : List ℕ) (es : List (ℕ × ℕ)) (p key : ℕ) (v : Option ℕ) → IsIndex ws es → length ws ≤ 536870912 → p ≡ get_or ws 0 0 - 1 → get_or ws 0 0 ≢ 0 → ((h : Rests ws p 6) → v ≡ assoc key (pairs_of h.depth h.tree)) → v ≡ assoc key es
root-value ws es p key v x small is some f =
    let r = Root-rests ws es p x.planted small is some in
    f r.rests ∙ ap (assoc key) (sym r.whole)

pub root-none : (ws : List ℕ) (es : List (ℕ × ℕ)) (key : ℕ) → IsIndex ws es → get_or ws 0 0 ≡ 0 → assoc key es ≡ None
root-none ws es key x none = Root-none ws es key x.planted none

-- the same, of what the search answered
pub root-value-ok : (ws mid : List ℕ) (es : List (ℕ × ℕ)) (p key : ℕ) (r : Result Found Off) → IsIndex ws es → length ws ≤ 536870912 → p ≡ get_or ws 0 0 - 1 → get_or ws 0 0 ≢ 0 → mid ≡ ws → ((h : Rests mid p 6) → IfOk r (λ x. x.value ≡ assoc key (pairs_of h.depth h.tree))) → IfOk r (λ x. x.value ≡ assoc key es)
root-value-ok ws mid es p key (Ok x) i small is some same f = root-value ws es p key x.value i small is some (subst (λ w. (h : Rests w p 6) → x.value ≡ assoc key (pairs_of h.depth h.tree)) same f)
root-value-ok ws mid es p key (Err e) i small is some same f = tt

pub root-deep-ok : (ws mid : List ℕ) (p : ℕ) (r : Result Found Off) → length ws ≤ 536870912 → p ≡ get_or ws 0 0 - 1 → get_or ws 0 0 ≢ 0 → mid ≡ ws → ((h : Rests mid p 6) → IfOk r (λ x. x.depth ≡ h.depth)) → IfOk r (λ x. IsDeep ws x.depth)
root-deep-ok ws mid p (Ok x) small is some same f = root-deep ws p x.depth small is some (subst (λ w. (h : Rests w p 6) → x.depth ≡ h.depth) same f)
root-deep-ok ws mid p (Err e) small is some same f = tt

pub root-few-ok : (ws mid : List ℕ) (es : List (ℕ × ℕ)) (p : ℕ) (r : Result Found Off) → IsIndex ws es → length ws ≤ 536870912 → p ≡ get_or ws 0 0 - 1 → get_or ws 0 0 ≢ 0 → mid ≡ ws → ((h : Rests mid p 6) → IfOk r (λ x. x.depth ≡ h.depth)) → IfOk r (λ x. x.depth ≤ most_levels (length ws))
root-few-ok ws mid es p (Ok x) i small is some same f = root-few ws es p x.depth i small is some (subst (λ w. (h : Rests w p 6) → x.depth ≡ h.depth) same f)
root-few-ok ws mid es p (Err e) i small is some same f = tt

-- no tree in so many words is deeper
pub shallow-most : (ws : List ℕ) → length ws ≤ 536870912 → IsShallow ws (most_levels (length ws))
shallow-most ws small free d t heap tree = depth-few ws free d t heap tree.stands.sized tree.all small

pub deep-shallow : (ws : List ℕ) (depth : ℕ) → IsDeep ws depth → IsShallow ws depth
deep-shallow ws depth deep free d t heap tree = omega (arith, deep.levels free d t heap tree)

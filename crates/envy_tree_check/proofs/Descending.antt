-- The first leaf is looked for, level by level.
use Rattle.std.proofs.Common.{◌≡◌, ◌≢◌, ℕ, zero, suc, ◌+◌, ◌%◌, ◌<◌, ◌≤◌, List, [], ◌∷◌, ◌++◌, length, get_or, refl, ap, sym, subst, ◌∙◌, inl, inr, ltb, arith}
use Rattle.std.proofs.lemmas.Bool.{cases_lt}
use Rattle.std.proofs.lemmas.List.{length-append}
use Rattle.envy_heap.specs.Pieces.{head, one}
use Rattle.envy_heap.proofs.Heaps.{one-ge, one-lt}
use Rattle.envy_btree.specs.Rules.{key_count, kind_at, Leads, slot_at}
use Rattle.envy_tree_check.specs.Faults.{Ails, IsUneven, Strays}
use Rattle.envy_tree_check.specs.declared.fault.MapFault.TheVariants.{Deep, Node}
use Rattle.envy_tree_check.specs.Grown.{AreLevels, IsWay}

-- a way of so many steps leads to a node of this kind
pub record Step (ws : List ℕ) (root long kind : ℕ) : Type 0 where
  pub way : List ℕ
  pub node : ℕ
  pub leads : Leads ws root way node
  pub is_long : length way ≡ long
  pub is_kind : kind_at ws node ≡ kind

-- inner nodes lead down to a piece
pub record Descends (ws : List ℕ) (root piece level : ℕ) : Type 0 where
  pub way : List ℕ
  pub leads : Leads ws root way piece
  pub long : length way ≡ level
  pub above : (i : ℕ) → i < level → Step ws root i 1

pub descends-none : (ws : List ℕ) (root : ℕ) → Descends ws root root 0
descends-none ws root = record { way = []; leads = refl; long = refl; above = λ i lt. absurd (omega arith) }

pub leads-more : (ws : List ℕ) (root : ℕ) (way : List ℕ) (p j : ℕ) → Leads ws root way p → kind_at ws p ≡ 1 → j ≤ key_count ws p → Leads ws root (way ++ j ∷ []) (slot_at ws p j)
leads-more ws root [] p j w odd le = (subst (λ x. kind_at ws x ≡ 1) (sym w) odd, subst (λ x. j ≤ key_count ws x) (sym w) le, ap (λ x. slot_at ws x j) w)
leads-more ws root (i ∷ way) p j w odd le = (w.0, w.1, leads-more ws (slot_at ws root i) way p j w.2 odd le)

pub descends-more : (ws : List ℕ) (root piece level child : ℕ) → Descends ws root piece level → kind_at ws piece ≡ 1 → child ≡ slot_at ws piece 0 → Descends ws root child (level + 1)
descends-more ws root piece level child d odd is = record {
  way = d.way ++ 0 ∷ [];
  leads = subst (λ x. Leads ws root (d.way ++ 0 ∷ []) x) (sym is) (leads-more ws root d.way piece 0 d.leads odd (omega arith));
  long = omega (arith, length-append d.way (0 ∷ []), d.long);
  above = λ i lt. elim (cases_lt i level) [
    | inl less ↦ d.above i less
    | inr ge ↦ record { way = d.way; node = piece; leads = d.leads; is_long = omega (arith, d.long); is_kind = odd }
  ];
}

pub are-levels : (ws : List ℕ) (root piece level : ℕ) → Descends ws root piece level → kind_at ws piece ≡ 0 → AreLevels ws root level
are-levels ws root piece level d even i le = elim (cases_lt i level) [
  | inl lt ↦ let s = d.above i lt in record { way = s.way; node = s.node; leads = s.leads; long = s.is_long; kind = s.is_kind ∙ sym (one-lt i level lt) }
  | inr ge ↦ record { way = d.way; node = piece; leads = d.leads; long = omega (arith, d.long); kind = even ∙ sym (one-ge i level ge) }
]

-- a node of a wrong level, and the one that is as deep on the way to the first leaf
pub uneven : (ws : List ℕ) (root levels : ℕ) → AreLevels ws root levels → Strays ws root levels → IsUneven ws root
uneven ws root levels l s =
    let w = l (length s.way) (omega (arith, s.deep)) in
    record {
      way = s.way;
      other_way = w.way;
      node = s.node;
      other = w.node;
      leads = s.leads;
      other_leads = w.leads;
      deep = sym w.long;
      kinds = λ e. s.kind (e ∙ w.kind ∙ below (length s.way) s.left levels s.deep);
    }
  where
    below : (n left levels : ℕ) → n + left ≡ levels → one (ltb n levels) ≡ one (ltb 0 left)
    below n left levels e = elim (cases_lt 0 left) [
      | inl some ↦ one-lt n levels (omega arith) ∙ sym (one-lt 0 left some)
      | inr none ↦ one-ge n levels (omega arith) ∙ sym (one-ge 0 left none)
    ]

-- What the way down may meet

pub node-ails : (ws free : List ℕ) (root piece level child : ℕ) → Descends ws root piece level → kind_at ws piece ≡ 1 → child ≡ slot_at ws piece 0 → get_or ws 2 0 ≤ child → Ails ws free root Node
node-ails ws free root piece level child d odd is past =
    let m = descends-more ws root piece level child d odd is in
    record { way = m.way; node = child; leads = m.leads; breaks = past }

pub deep-ails : (ws free : List ℕ) (root piece : ℕ) → Descends ws root piece 7 → Ails ws free root Deep
deep-ails ws free root piece d = record { way = d.way; node = piece; leads = d.leads; long = d.long }

-- the root is in no piece that was handed out
pub root-ails : (ws free : List ℕ) (root : ℕ) → get_or ws 2 0 ≤ root → Ails ws free root Node
root-ails ws free root past = record { way = []; node = root; leads = refl; breaks = past }

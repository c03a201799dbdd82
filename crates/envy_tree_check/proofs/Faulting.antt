-- How faults are handed on, and their causes.
use Rattle.std.proofs.Common.{◌≡◌, ℕ, suc, ◌+◌, ◌*◌, ◌^◌, ◌≤◌, Bool, true, false, IsTrue, List, [], ◌∷◌, length, Result, Ok, Err, IsErrAnd, IfErr, get_or, refl, sym, subst, arith}
use Rattle.envy_array.specs.Words.{Sheet}
use Rattle.envy_heap.specs.Pieces.{IsHeap, head}
use Rattle.envy_btree.specs.Rules.{key_count, kind_at, Leads, slot_at}
use Rattle.envy_tree_check.specs.declared.fault.MapFault.{MapFault}
use Rattle.envy_tree_check.specs.declared.fault.MapFault.TheVariants.{Off, Short, Used, Many, FreeList, Deep, Node, Head, Level, Few, Keys, Freed, Lost, Count}
use Rattle.envy_tree_check.specs.Bounds.{high_at, high_by, is_root, low_at, low_by}
use Rattle.envy_tree_check.specs.Faults.{Ails, Breaks, Causes, HasIll, IsDeep, Sickens, Spoils, Strays}
use Rattle.envy_tree_check.specs.Grown.{AreLevels, Dims, Powers}
use Rattle.envy_tree_check.proofs.Descending.{uneven}

-- what holds of a fault, holds of an answer that is it
pub err-if : {T : Type 0} (P : MapFault → Type 0) (r : Result T MapFault) (e : MapFault) → IsErrAnd r (λ x. x ≡ e) → P e → IfErr r P
err-if P (Ok x) e h p = absurd h
err-if P (Err x) e h p = subst P (sym h) p

pub err-dims : {T : Type 0} (ws : List ℕ) (r : Result T MapFault) (e : MapFault) (s : Sheet) → IsErrAnd r (λ x. x ≡ e) → Dims ws e s → Powers ws r s
err-dims ws (Ok x) e s h p = absurd h
err-dims ws (Err x) e s h p = subst (λ z. Dims ws z s) (sym h) p

never-root : (js : List ℕ) → is_root false js ≡ false
never-root [] = refl
never-root (j ∷ js) = refl

-- What a child sickens of, its parent does

spoils-above : (ws free : List ℕ) (root : Bool) (low high p j : ℕ) (fault : MapFault) → kind_at ws p ≡ 1 → j ≤ key_count ws p → Spoils ws free false (low_at ws low p j) (high_at ws high p j) (slot_at ws p j) fault → Spoils ws free root low high p fault
spoils-above ws free root low high p j fault odd le s = record {
  way = j ∷ s.way;
  node = s.node;
  leads = (odd, le, s.leads);
  breaks = subst (λ x. Breaks ws free x (low_by ws low p (j ∷ s.way)) (high_by ws high p (j ∷ s.way)) s.node fault) (never-root s.way) s.breaks;
}

strays-above : (ws : List ℕ) (levels p j : ℕ) → kind_at ws p ≡ 1 → j ≤ key_count ws p → Strays ws (slot_at ws p j) levels → Strays ws p (suc levels)
strays-above ws levels p j odd le s = record {
  way = j ∷ s.way;
  node = s.node;
  left = s.left;
  leads = (odd, le, s.leads);
  deep = omega (arith, s.deep);
  kind = s.kind;
}

sick-above : (ws free : List ℕ) (root : Bool) (low high levels p j : ℕ) (fault : MapFault) → kind_at ws p ≡ 1 → j ≤ key_count ws p → Sickens ws free false (low_at ws low p j) (high_at ws high p j) levels (slot_at ws p j) fault → Sickens ws free root low high (suc levels) p fault
sick-above ws free root low high levels p j Off odd le s = tt
sick-above ws free root low high levels p j Level odd le s = strays-above ws levels p j odd le s
sick-above ws free root low high levels p j Short odd le s = spoils-above ws free root low high p j Short odd le s
sick-above ws free root low high levels p j Used odd le s = spoils-above ws free root low high p j Used odd le s
sick-above ws free root low high levels p j Many odd le s = spoils-above ws free root low high p j Many odd le s
sick-above ws free root low high levels p j FreeList odd le s = spoils-above ws free root low high p j FreeList odd le s
sick-above ws free root low high levels p j Deep odd le s = spoils-above ws free root low high p j Deep odd le s
sick-above ws free root low high levels p j Node odd le s = spoils-above ws free root low high p j Node odd le s
sick-above ws free root low high levels p j Head odd le s = spoils-above ws free root low high p j Head odd le s
sick-above ws free root low high levels p j Few odd le s = spoils-above ws free root low high p j Few odd le s
sick-above ws free root low high levels p j Keys odd le s = spoils-above ws free root low high p j Keys odd le s
sick-above ws free root low high levels p j Freed odd le s = spoils-above ws free root low high p j Freed odd le s
sick-above ws free root low high levels p j Lost odd le s = spoils-above ws free root low high p j Lost odd le s
sick-above ws free root low high levels p j Count odd le s = spoils-above ws free root low high p j Count odd le s

-- child j, by what is known of it
pub record IsChild (ws : List ℕ) (low high levels p j : ℕ) (root : Bool) (child_low child_high child_levels child : ℕ) : Type 0 where
  pub no_root : root ≡ false
  pub low_is : child_low ≡ low_at ws low p j
  pub high_is : child_high ≡ high_at ws high p j
  pub under : child_levels + 1 ≡ levels
  pub place : child ≡ slot_at ws p j

pub sick-child : (ws free : List ℕ) (root : Bool) (low high levels p j : ℕ) (fault : MapFault) (is_root : Bool) (child_low child_high child_levels child : ℕ) → IsChild ws low high levels p j is_root child_low child_high child_levels child → kind_at ws p ≡ 1 → j ≤ key_count ws p → Sickens ws free is_root child_low child_high child_levels child fault → Sickens ws free root low high levels p fault
sick-child ws free root low high levels p j fault is_root child_low child_high child_levels child c odd le s =
    let a : Sickens ws free false child_low child_high child_levels child fault = subst (λ x. Sickens ws free x child_low child_high child_levels child fault) c.no_root s in
    let b : Sickens ws free false (low_at ws low p j) child_high child_levels child fault = subst (λ x. Sickens ws free false x child_high child_levels child fault) c.low_is a in
    let d : Sickens ws free false (low_at ws low p j) (high_at ws high p j) child_levels child fault = subst (λ x. Sickens ws free false (low_at ws low p j) x child_levels child fault) c.high_is b in
    let f : Sickens ws free false (low_at ws low p j) (high_at ws high p j) child_levels (slot_at ws p j) fault = subst (λ x. Sickens ws free false (low_at ws low p j) (high_at ws high p j) child_levels x fault) c.place d in
    let e : suc child_levels ≡ levels = omega (arith, c.under) in
    subst (λ x. Sickens ws free root low high x p fault) e (sick-above ws free root low high child_levels p j fault odd le f)

-- a child that is no piece
pub node-sick : (ws free : List ℕ) (root : Bool) (low high levels p count j child : ℕ) → get_or ws (head p) 0 ≡ 2 * count + 1 → j ≤ count → child ≡ slot_at ws p j → get_or ws 2 0 ≤ child → Sickens ws free root low high levels p Node
node-sick ws free root low high levels p count j child word le is past = record {
  way = j ∷ [];
  node = child;
  leads = (omega (arith, word), omega (arith, word), sym is);
  breaks = past;
}

-- What the root sickens of, the words ail

pub sick-ails : (ws free : List ℕ) (levels root : ℕ) (fault : MapFault) → AreLevels ws root levels → Sickens ws free true 0 (2 ^ 64) levels root fault → Ails ws free root fault
sick-ails ws free levels root Off l s = tt
sick-ails ws free levels root Level l s = uneven ws root levels l s
sick-ails ws free levels root Deep l s = absurd s.breaks
sick-ails ws free levels root Short l s = s
sick-ails ws free levels root Used l s = s
sick-ails ws free levels root Many l s = s
sick-ails ws free levels root FreeList l s = s
sick-ails ws free levels root Node l s = s
sick-ails ws free levels root Head l s = s
sick-ails ws free levels root Few l s = s
sick-ails ws free levels root Keys l s = s
sick-ails ws free levels root Freed l s = s
sick-ails ws free levels root Lost l s = s
sick-ails ws free levels root Count l s = s

pub ails-cause : (ws free : List ℕ) (root : ℕ) (fault : MapFault) → IsHeap ws free → get_or ws 0 0 ≡ root + 1 → Ails ws free root fault → Causes ws fault
ails-cause ws free root Off heap named a = tt
ails-cause ws free root Level heap named a = record { free = free; root = root; heap = heap; named = named; ails = a }
ails-cause ws free root Deep heap named a = record { free = free; root = root; heap = heap; named = named; ails = a }
ails-cause ws free root Node heap named a = record { free = free; root = root; heap = heap; named = named; ails = a }
ails-cause ws free root Head heap named a = record { free = free; root = root; heap = heap; named = named; ails = a }
ails-cause ws free root Few heap named a = record { free = free; root = root; heap = heap; named = named; ails = a }
ails-cause ws free root Keys heap named a = record { free = free; root = root; heap = heap; named = named; ails = a }
ails-cause ws free root Freed heap named a = record { free = free; root = root; heap = heap; named = named; ails = a }
ails-cause ws free root Short heap named a = absurd a.breaks
ails-cause ws free root Used heap named a = absurd a.breaks
ails-cause ws free root Many heap named a = absurd a.breaks
ails-cause ws free root FreeList heap named a = absurd a.breaks
ails-cause ws free root Lost heap named a = absurd a.breaks
ails-cause ws free root Count heap named a = absurd a.breaks

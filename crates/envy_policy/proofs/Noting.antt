-- What is noted keeps what is known of all notes.
use Rattle.std.proofs.Common.{◌≡◌, ℕ, ◌^◌, ◌<◌, ◌≤◌, inl, inr, Some, List, length, slice_index, slice_set, subst, sym, arith}
use Rattle.std.proofs.lemmas.Bool.{cases_eq}
use Rattle.std.proofs.lemmas.List.{get_or-set_same, get_or-set_other, length-set}
use Rattle.envy_policy.specs.declared.class.Class.{Class}
use Rattle.envy_policy.specs.declared.class.Class.TheVariants.{Brief, Short, Long, Lasting}
use Rattle.envy_policy.specs.declared.class.OpenPositions.{OpenPositions}
use Rattle.envy_policy.specs.Notes.{Notes, IsNotes, open_for, with_open}

-- a position that is open afterwards was so, or is the one
opened-below : (end position : ℕ) (o : OpenPositions) (class : Class) → position < end → ((other : Class) (k : ℕ) → open_for o other ≡ Some k → k < end) → (other : Class) (k : ℕ) → open_for (with_open class position o) other ≡ Some k → k < end
opened-below end position o Brief below was Brief k is = let same : position ≡ k = cc in omega arith
opened-below end position o Brief below was Short k is = was Short k is
opened-below end position o Brief below was Long k is = was Long k is
opened-below end position o Brief below was Lasting k is = was Lasting k is
opened-below end position o Short below was Brief k is = was Brief k is
opened-below end position o Short below was Short k is = let same : position ≡ k = cc in omega arith
opened-below end position o Short below was Long k is = was Long k is
opened-below end position o Short below was Lasting k is = was Lasting k is
opened-below end position o Long below was Brief k is = was Brief k is
opened-below end position o Long below was Short k is = was Short k is
opened-below end position o Long below was Long k is = let same : position ≡ k = cc in omega arith
opened-below end position o Long below was Lasting k is = was Lasting k is
opened-below end position o Lasting below was Brief k is = was Brief k is
opened-below end position o Lasting below was Short k is = was Short k is
opened-below end position o Lasting below was Long k is = was Long k is
opened-below end position o Lasting below was Lasting k is = let same : position ≡ k = cc in omega arith

set-most : (xs : List ℕ) (at x most : ℕ) → at < length xs → x ≤ most → ((k : ℕ) → slice_index xs k ≤ most) → (k : ℕ) → slice_index (slice_set xs at x) k ≤ most
set-most xs at x most within low all k = elim (cases_eq at k) [
  | inl same ↦ let is = get_or-set_same xs at x 0 within in subst (λ (j : ℕ). slice_index (slice_set xs at x) j ≤ most) same (omega (arith, is))
  | inr other ↦ let is = get_or-set_other xs at k x 0 (λ e. other (sym e)) in let old = all k in omega (arith, is)
]

pub notes-flush : (n : Notes) (class : Class) (position page clock : ℕ) → IsNotes n → n.clock ≤ clock → clock < 2 ^ 64 → position < length n.cleaned → page < length n.born → IsNotes (record { clock = clock; born = slice_set n.born page clock; cleaned = n.cleaned; opened = with_open class position n.opened })
notes-flush n class position page clock whole up few below inside = record {
  clock = few;
  few_pages = let long = length-set n.born page clock in let was = whole.few_pages in omega (arith, long);
  few_positions = whole.few_positions;
  born = set-most n.born page clock clock inside (omega arith) (λ k. let old = whole.born k in omega arith);
  cleaned = λ k. let old = whole.cleaned k in omega arith;
  opened = opened-below (length n.cleaned) position n.opened class below whole.opened;
}

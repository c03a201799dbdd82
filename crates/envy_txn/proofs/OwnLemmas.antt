-- The pairs of one slot among all pairs.
use Rattle.std.proofs.Common.{◌≡◌, Bool, true, false, ℕ, ◌+◌, ◌<◌, ◌≤◌, ◌||◌, List, [], ◌∷◌, ◌++◌, length, get_or, refl, sym, ◌∙◌, ap, subst, Option, None, Some, arith}
use Rattle.std.specs.Prelude.{◌==◌, not, if◌then◌else◌}
use Rattle.std.specs.List.{AllPairs, filter}
use Rattle.std.proofs.lemmas.Bool.{eqb-true, and_right}
use Rattle.std.proofs.lemmas.List.Elements.{All-filter, filter_passes}
use Rattle.std.proofs.lemmas.List.Kept.{AllPairs-filter}
use Rattle.std.proofs.lemmas.List.Quantifiers.{all_pairs_push}
use Rattle.std.proofs.lemmas.List.{length_push}
use Rattle.envy_base.specs.declared.fields.Slot.{Slot}
use Rattle.envy_base.specs.declared.fields.Undo.{Undo}
use Rattle.envy_frames.specs.declared.held.Held.{Held}
use Rattle.envy_soundness.specs.Sound.{slot_named}
use Rattle.envy_map.specs.Fields.{Chart}
use Rattle.envy_txn.specs.declared.pair.Pair.{Pair}
use Rattle.envy_txn.specs.Entries.{Book, IsOwned, is_own, own_of}
use Rattle.envy_txn.specs.Owners.{AreApart, AreOwned, IsOwnership, owner_of, others_of, is_of_other}
use Rattle.envy_txn.specs.Turns.{AreNamed, ReleasedIn, RestoredIn, gives, is_among}
use Rattle.envy_txn.proofs.EntryLemmas.{own-long}
use Rattle.envy_txn.proofs.HeldLemmas.{filter-same, is_kept_by}
use Rattle.envy_txn.proofs.OwnerLemmas.{owner_of-none}
use Rattle.envy_txn.proofs.TurnLemmas.{pair-named}

-- the slot's pairs give it the pages that all pairs give it
pub among-own : (t p : ℕ) (pairs : List Pair) → is_among (own_of t pairs) t p ≡ is_among pairs t p
among-own t p [] = refl
among-own t p (e ∷ rest) = at (e.slot == t) refl (among-own t p rest)
  where
    at : (b : Bool) → (e.slot == t) ≡ b → is_among (own_of t rest) t p ≡ is_among rest t p → is_among (if b then e ∷ own_of t rest else own_of t rest) t p ≡ (gives t p e || is_among rest t p)
    at true own same = ap (λ (b : Bool). gives t p e || b) same
    at false other same = same ∙ sym (ap (λ (b : Bool). b || is_among rest t p) (and_right (e.page == p) (e.slot == t) other))

pub ReleasedIn-own : (t : ℕ) (pairs : List Pair) (c d : Chart) → ReleasedIn (own_of t pairs) t c d → ReleasedIn pairs t c d
ReleasedIn-own t pairs c d r = record {
  own = λ p is. r.own p (among-own t p pairs ∙ is);
  others = λ p is. r.others p (among-own t p pairs ∙ is);
  rest = r.rest;
}

pub RestoredIn-own : (t : ℕ) (pairs : List Pair) (c d : Chart) → RestoredIn (own_of t pairs) t c d → RestoredIn pairs t c d
RestoredIn-own t pairs c d r = record {
  own = λ p is. r.own p (among-own t p pairs ∙ is);
  others = λ p is. r.others p (among-own t p pairs ∙ is);
  rest = r.rest;
}

pub kept-own : (t : ℕ) (pairs : List Pair) (held : List Held) → filter (is_kept_by (own_of t pairs) t) held ≡ filter (is_kept_by pairs t) held
kept-own t pairs held = filter-same (is_kept_by (own_of t pairs) t) (is_kept_by pairs t) held (λ k d lt. ap not (among-own t (get_or held k d).page pairs))

-- the list that is gone over
pub own-listed : (t : ℕ) (seen listed pairs now : List Pair) → seen ≡ listed → listed ≡ own_of t pairs → pairs ≡ now → seen ≡ own_of t now
own-listed t seen listed pairs now is of same = is ∙ of ∙ ap (λ (ps : List Pair). own_of t ps) same

pub own-apart : (t : ℕ) (pairs : List Pair) → AllPairs AreApart pairs → AllPairs AreApart (own_of t pairs)
own-apart t pairs apart = AllPairs-filter AreApart (is_own t) pairs apart

pub own-named : (t : ℕ) (slots : List (Option Slot)) (undos : List (Option Undo)) (pairs : List Pair) → AllPairs AreApart pairs → AreOwned slots undos pairs → AreNamed t undos (own_of t pairs)
own-named t slots undos pairs apart owned i d lt =
    let slot : (get_or (own_of t pairs) i d).slot ≡ t = eqb-true (get_or (own_of t pairs) i d).slot t (filter_passes (is_own t) pairs i d lt) in
    let named : slot_named (get_or undos (get_or (own_of t pairs) i d).page None) ≡ Some (get_or (own_of t pairs) i d).slot =
    All-filter (is_own t) (λ e. slot_named (get_or undos e.page None) ≡ Some e.slot) pairs (λ k x low. pair-named slots undos pairs k x apart owned low) i d lt in
    (slot, named ∙ ap (λ (n : ℕ). Some n) slot)

pub IsOwned-joined : (old new : Book) (limit capacity : ℕ) (y : Pair) → IsOwned old limit capacity → length old.pairs < limit → owner_of old.pairs y.page ≡ None
    → new ≡ record old { pairs = old.pairs ++ y ∷ []; used = old.used + 1 } → IsOwned new limit capacity
IsOwned-joined old new limit capacity y o less free is = rw is (record {
  owners = record {
    apart = all_pairs_push AreApart old.pairs y (IsOwnership.apart o.owners) (owner_of-none old.pairs y.page free);
    few = let long = length_push old.pairs y in omega arith;
  };
  room = o.room;
  roomy = let was = o.roomy in let long = length_push old.pairs y in omega arith;
  fits = o.fits;
  few = o.few;
})

-- what a slot's leaving leaves
pub left-apart : (t : ℕ) (old : Book) (limit capacity : ℕ) → IsOwned old limit capacity → AllPairs AreApart (others_of t old.pairs)
left-apart t old limit capacity o = AllPairs-filter AreApart (is_of_other t) old.pairs (IsOwnership.apart o.owners)

pub left-few : (t : ℕ) (old : Book) (limit capacity : ℕ) → IsOwned old limit capacity → length (others_of t old.pairs) ≤ limit
left-few t old limit capacity o = let few = IsOwnership.few o.owners in let both = own-long t old.pairs in omega arith

pub IsOwned-left : (old new : Book) (limit capacity then_capacity t : ℕ) → IsOwned old limit capacity → new.pairs ≡ others_of t old.pairs → new.room ≡ old.room
    → new.used + limit ≤ length new.pairs + new.room → capacity ≤ then_capacity → IsOwned new limit then_capacity
IsOwned-left old new limit capacity then_capacity t o pairs room roomy grown = record {
  owners = subst (λ (ps : List Pair). IsOwnership (record { pairs = ps; limit = limit })) (sym pairs) (record {
    apart = left-apart t old limit capacity o;
    few = left-few t old limit capacity o;
  });
  room = let was = o.room in omega arith;
  roomy = roomy;
  fits = let fits = o.fits in omega arith;
  few = o.few;
}

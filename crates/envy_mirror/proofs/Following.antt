-- What a pair stands for while one side follows the other.
use Rattle.std.proofs.Common.{◌≡◌, ◌≢◌, ◌⊎◌, inl, inr, ℕ, ◌*◌, ◌/◌, ◌<◌, Bool, true, false, List, length, get_or, set, replicate, Option, None, Some, Result, Ok, Err, sym, ◌∙◌, ap, subst, arith}
use Rattle.std.proofs.lemmas.Bool.{cases_eq}
use Rattle.std.proofs.lemmas.List.{ext_get_or, get_or-replicate, length-replicate, get_or-set_other, length-set}
use Rattle.envy_array.specs.Array.{Array, Saved, owner, slot_of, undone}
use Rattle.envy_base.specs.declared.shape.Shape.{Shape}
use Rattle.envy_array.proofs.Total.{option_cases}
use Rattle.envy_map.specs.Fields.{Chart}
use Rattle.envy_meaning.specs.Stands.{Stands, Holds, slot_word}
use Rattle.envy_soundness.specs.Words.{live, durable}
use Rattle.envy_soundness.proofs.WordLists.{length-live}
use Rattle.envy_meaning.proofs.Standing.{length-stands}
use Rattle.envy_memory.specs.Calls.{fresh}
use Rattle.envy_mirror.specs.Catching.{Helps, NoneOpen, NoneStale, IsLowestStale, Copies}
use Rattle.envy_mirror.specs.Mirroring.{AgreesBy, Agrees, Mirrors, Trails, IsFreshAt}
use Rattle.envy_mirror.specs.Pair.{Side, Pair, is_good, is_good_by, IsClosed, IsPair, IsSide, IsSideBy}
use Rattle.envy_mirror.specs.declared.catch_up.Caught.{Caught}
use Rattle.envy_mirror.specs.declared.catch_up.Caught.TheVariants.{Whole, Waiting, Woken, Copied, Joined}
use Rattle.envy_mirror.specs.declared.catch_up.CatchFault.{CatchFault}
use Rattle.envy_mirror.specs.declared.catch_up.CatchFault.TheVariants.{Off, Dead, Slipped, Bad}
use Rattle.envy_mirror.specs.declared.standing.Standing.{Standing}
use Rattle.envy_mirror.specs.declared.standing.Standing.TheVariants.{Good, Behind, Gone}
use Rattle.envy_mirror.proofs.Closing.{fresh-is, owner-fresh, undone-fresh}
use Rattle.envy_mirror.proofs.Answering.{long-mirrors}
use Rattle.envy_mirror.proofs.Telling.{agrees-good, agrees-gone, stands-good, either-left, either-right}

-- no slot of the array is open where none of the board is
pub array-closed : (c : Chart) (m : Array) → Stands c m → NoneOpen c → m ≡ fresh m.shadows m.words
array-closed c m s none = fresh-is m (Holds.array s.holds) (λ t lt. at t lt (option_cases (slot_of m t)))
  where
    at : (t : ℕ) → t < 64 → (slot_of m t ≡ None) ⊎ ((saved : Saved) × (slot_of m t ≡ Some saved)) → slot_of m t ≡ None
    at t lt (inl closed) = closed
    at t lt (inr (saved, is)) = absurd (none t lt (Holds.slots s.holds t lt ∙ ap (λ (x : Option Saved). Some (slot_word x)) is))

all-stale : (n p : ℕ) → p < n → get_or (replicate n true) p false ≡ true
all-stale n p lt = get_or-replicate n p true false lt

-- a side that missed every page follows any array
pub trails-all : (c : Chart) (n : ℕ) (m : Array) → IsClosed c → Trails c (replicate n true) m
trails-all c n m closed = record {
  closed = closed;
  fresh = λ a lt un. absurd (let within : a / 32 < n = rw (← length-replicate n true) lt in let clash : true ≡ false = sym (all-stale n (a / 32) within) ∙ un in cc);
}

-- ---- a page was copied

-- where no slot is open, a copied word is the array's
copied-word : (from new : Chart) (m : Array) (p a : ℕ) → Stands from m → NoneOpen from → (old : Chart) → Copies p from old new → a / 32 ≡ p → IsFreshAt new m a
copied-word from new m p a s none old c here =
    let closed = array-closed from m s none in
    let committed : durable from ≡ m.words = Holds.durable s.holds ∙ ap undone closed ∙ undone-fresh m.shadows m.words in
    record { free = ap (λ (k : Array). owner k (a / 32)) closed ∙ owner-fresh m.shadows m.words (a / 32); same = c.page a here ∙ ap (λ (ws : List ℕ). get_or ws a 0) committed }

trails-copied : (from old new : Chart) (stale : List Bool) (m : Array) (p : ℕ) → Stands from m → NoneOpen from → IsClosed new → Copies p from old new → Trails old stale m → Trails new (set stale p false) m
trails-copied from old new stale m p s none closed c t = record { closed = closed; fresh = λ a lt un. at a (rw (← length-set stale p false) lt) un (cases_eq (a / 32) p) }
  where
    at : (a : ℕ) → a / 32 < length stale → get_or (set stale p false) (a / 32) false ≡ false → (a / 32 ≡ p) ⊎ (a / 32 ≡ p → ⊥) → IsFreshAt new m a
    at a lt un (inl here) = copied-word from new m p a s none old c here
    at a lt un (inr elsewhere) =
        let f = t.fresh a lt (sym (get_or-set_other stale p (a / 32) false false elsewhere) ∙ un) in
        record { free = f.free; same = c.others a elsewhere ∙ f.same }

trails-failed : (old new : Chart) (stale : List Bool) (m : Array) (p : ℕ) → IsLowestStale stale p → IsClosed new → ((a : ℕ) → a / 32 ≢ p → get_or (live new) a 0 ≡ get_or (live old) a 0) → Trails old stale m → Trails new stale m
trails-failed old new stale m p lowest closed others t = record {
  closed = closed;
  fresh = λ a lt un.
      let elsewhere : a / 32 ≢ p = λ e. (let clash : true ≡ false = sym lowest.one ∙ ap (λ (q : ℕ). get_or stale q false) (sym e) ∙ un in cc) in
      let f = t.fresh a lt un in
      record { free = f.free; same = others a elsewhere ∙ f.same };
}

-- ---- no page is stale

joined : (from old : Chart) (stale : List Bool) (m : Array) → Stands from m → NoneOpen from → NoneStale stale → old.shape ≡ from.shape → length m.words ≡ 32 * length stale → Trails old stale m → Stands old m
joined from old stale m s none fresh_all shape long t = subst (λ (k : Array). Stands old k) (sym (array-closed from m s none ∙ same)) t.closed
  where
    words : m.words ≡ live old
    words = sym (ext_get_or 0 (live old) m.words (length-live old ∙ ap (λ (sh : Shape). 32 * sh.pages) shape ∙ sym (length-stands from m s)) (λ a lt. IsFreshAt.same (t.fresh a (within a lt) (fresh_all (a / 32)))))
      where
        within : (a : ℕ) → a < length (live old) → a / 32 < length stale
        within a lt =
            let e : length (live old) ≡ 32 * length stale = length-live old ∙ ap (λ (sh : Shape). 32 * sh.pages) shape ∙ sym (length-stands from m s) ∙ long in
            omega arith

    same : fresh m.shadows m.words ≡ fresh old.shape.shadows (live old)
    same = ap (λ (n : ℕ). fresh n m.words) (Holds.shadows s.holds ∙ ap (λ (sh : Shape). sh.shadows) (sym shape)) ∙ ap (λ (ws : List ℕ). fresh old.shape.shadows ws) words

-- ---- each answer

behind-trails : (s : Side) (stale : List Bool) (m : Array) → s.standing ≡ Behind → Agrees s stale m → Trails s.memory.chart stale m
behind-trails s stale m behind agrees = subst (λ (g : Standing). AgreesBy g s.memory.chart stale m) behind agrees

agrees-behind : (s : Side) (stale : List Bool) (m : Array) → s.standing ≡ Behind → Trails s.memory.chart stale m → Agrees s stale m
agrees-behind s stale m behind trails = subst (λ (g : Standing). AgreesBy g s.memory.chart stale m) (sym behind) trails

side-behind : (s : Side) → s.standing ≡ Behind → IsSide s → IsClosed s.memory.chart
side-behind s behind side = subst (λ (g : Standing). IsSideBy g s.memory.chart) behind side

agrees-same : (old new : Side) (stale left : List Bool) (m : Array) → new ≡ old → left ≡ stale → Agrees old stale m → Agrees new left m
agrees-same old new stale left m is marks agrees = subst (λ (s : Side). Agrees s left m) (sym is) (subst (λ (l : List Bool). Agrees old l m) (sym marks) agrees)

-- a side that is helped agrees with the array afterwards
pub agrees-helped : (result : Result Caught CatchFault) (from old new : Side) (stale left : List Bool) (m : Array) → Stands from.memory.chart m → old.memory.chart.shape ≡ from.memory.chart.shape → length m.words ≡ 32 * length stale → IsSide new → Helps result from old stale new left → Agrees old stale m → Agrees new left m
agrees-helped (Err Dead) from old new stale left m s shape long side h agrees = agrees-same old new stale left m h.2 h.3 agrees
agrees-helped (Ok Woken) from old new stale left m s shape long side h agrees =
    subst (λ (l : List Bool). Agrees new l m) (sym h.3) (agrees-behind new (replicate (length stale) true) m h.1 (trails-all new.memory.chart (length stale) m (side-behind new h.1 side)))
agrees-helped (Ok (Waiting t)) from old new stale left m s shape long side h agrees = agrees-same old new stale left m h.2 h.3 agrees
agrees-helped (Ok (Copied p)) from old new stale left m s shape long side h agrees =
    subst (λ (l : List Bool). Agrees new l m) (sym h.6)
    (agrees-behind new (set stale p false) m h.3 (trails-copied from.memory.chart old.memory.chart new.memory.chart stale m p s h.1 (side-behind new h.3 side) h.4 (behind-trails old stale m h.0 agrees)))
agrees-helped (Err Bad) from old new stale left m s shape long side h agrees =
    subst (λ (l : List Bool). Agrees new l m) (sym h.8)
    (agrees-behind new stale m h.4 (trails-failed old.memory.chart new.memory.chart stale m h.2 h.3 (side-behind new h.4 side) h.5 (behind-trails old stale m h.0 agrees)))
agrees-helped (Err Slipped) from old new stale left m s shape long side h agrees = agrees-gone new left m h.0
agrees-helped (Ok Joined) from old new stale left m s shape long side h agrees =
    agrees-good new left m (ap (λ (x : Side). x.standing) h.3)
    (subst (λ (x : Side). Stands x.memory.chart m) (sym h.3) (joined from.memory.chart old.memory.chart stale m s h.1 h.2 shape long (behind-trails old stale m h.0 agrees)))
agrees-helped (Ok Whole) from old new stale left m s shape long side h agrees = absurd h
agrees-helped (Err Off) from old new stale left m s shape long side h agrees = absurd h

-- ---- the pair

abbrev pub with_second : Pair → Side → List Bool → Pair
with_second p s left = record { first = p.first; second = s; stale = left; last = p.last }

abbrev pub with_first : Pair → Side → List Bool → Pair
with_first p s left = record { first = s; second = p.second; stale = left; last = p.last }

good-agrees : (g : Standing) (c : Chart) (stale left : List Bool) (m : Array) → is_good_by g ≡ true → AgreesBy g c stale m → AgreesBy g c left m
good-agrees Good c stale left m good agrees = agrees
good-agrees Behind c stale left m good agrees = cc
good-agrees Gone c stale left m good agrees = cc

-- which mirrors the same array, the second helped
pub Mirrors-second : (old : Pair) (result : Result Caught CatchFault) (s : Side) (left : List Bool) (m : Array) → IsPair old → is_good old.first ≡ true → IsSide s → Helps result old.first old.second old.stale s left → Mirrors old m → Mirrors (with_second old s left) m
Mirrors-second old result s left m i good side h mirrors =
    let stands = stands-good old.first.standing old.first.memory.chart old.stale m good (Mirrors.first mirrors) in
    record {
      some = either-left (is_good old.first) (is_good s) good;
      first = good-agrees old.first.standing old.first.memory.chart old.stale left m good (Mirrors.first mirrors);
      second = agrees-helped result old.first old.second s old.stale left m stands i.shape (long-mirrors old m i mirrors) side h (Mirrors.second mirrors);
    }

-- or the first
pub Mirrors-first : (old : Pair) (result : Result Caught CatchFault) (s : Side) (left : List Bool) (m : Array) → IsPair old → is_good old.second ≡ true → IsSide s → Helps result old.second old.first old.stale s left → Mirrors old m → Mirrors (with_first old s left) m
Mirrors-first old result s left m i good side h mirrors =
    let stands = stands-good old.second.standing old.second.memory.chart old.stale m good (Mirrors.second mirrors) in
    record {
      some = either-right (is_good s) (is_good old.second) good;
      first = agrees-helped result old.second old.first s old.stale left m stands (sym i.shape) (long-mirrors old m i mirrors) side h (Mirrors.first mirrors);
      second = good-agrees old.second.standing old.second.memory.chart old.stale left m good (Mirrors.second mirrors);
    }

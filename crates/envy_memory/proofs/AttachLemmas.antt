-- What a memory stands for whose board was settled after power came.
use Rattle.std.proofs.Common.{◌≡◌, ◌≢◌, ◌⊎◌, inl, inr, ℕ, ◌*◌, ◌<◌, ◌≤◌, List, [], length, get_or, Option, None, Some, refl, sym, ◌∙◌, ap, arith}
use Rattle.std.specs.Prelude.{IsTrue, replicate}
use Rattle.std.proofs.lemmas.Bool.{cases_lt}
use Rattle.std.proofs.lemmas.List.Elements.{All-nil}
use Rattle.std.proofs.lemmas.List.{ext_get_or, get_or-replicate, get_or_past, length-replicate}
use Rattle.envy_array.specs.Array.{Saved, IsArray, owns, zeros}
use Rattle.envy_array.proofs.Keeping.{IsArray-closed, IsArray-zeros}
use Rattle.envy_array.proofs.Owning.{owner-nobody}
use Rattle.envy_array.proofs.Undoing.{undo_all-closed}
use Rattle.envy_base.specs.Shape.{IsShape, IsVersionOf, positions_of, version_of}
use Rattle.envy_base.proofs.Versions.{version-known, version-plain}
use Rattle.envy_base.specs.declared.fields.Slot.TheVariants.{Committed, Vacant}
use Rattle.envy_base.specs.declared.shape.Shape.{Shape}
use Rattle.envy_map.specs.Codes.{the_magic}
use Rattle.envy_map.specs.Fields.{Chart, IsFormatted, IsVersion, slot, undo, shape_in, shape_of, with_fields}
use Rattle.envy_map.proofs.Sizes.{shape_in-kept}
use Rattle.envy_soundness.specs.Sound.{Sound, IsSound, Head, Slots, slot_named}
use Rattle.envy_meaning.specs.Stands.{Stands, slot_word}
use Rattle.envy_soundness.specs.Upgrading.{upgraded}
use Rattle.envy_soundness.specs.Words.{live, durable}
use Rattle.envy_soundness.proofs.WordLists.{length-durable}
use Rattle.envy_policy.specs.declared.setup.Setup.{Setup}
use Rattle.envy_table.specs.Entries.{Entry, vacant}
use Rattle.envy_table.specs.Hits.{page_in, page_at, Empties}
use Rattle.envy_txn.specs.Owners.{Ownership, AreOwned, owner_in}
use Rattle.envy_engine.specs.Agreement.{Fits, Ready}
use Rattle.envy_engine.specs.Restarts.{IsSettled, SameCounts}
use Rattle.envy_engine.specs.declared.parts.Parts.{Parts}
use Rattle.envy_memory.specs.Attaching.{MayAttach}
use Rattle.envy_memory.specs.Calls.{fresh}
use Rattle.envy_memory.specs.Formats.{IsStarted}
use Rattle.envy_engine.specs.Starting.{started_parts}
use Rattle.envy_memory.specs.Making.{StartsAnew}
use Rattle.envy_memory.specs.Picture.{IsMemory, counts_of}

-- ---- the array

pub IsArray-fresh : (count shadows : ℕ) (words : List ℕ) → length words ≡ 32 * count → IsArray (fresh shadows words)
IsArray-fresh count shadows words long =
    let same : length words ≡ length (zeros count shadows).words = long ∙ sym (length-replicate (32 * count) 0) in
    IsArray-closed (zeros count shadows) 0 words (omega arith) same (IsArray-zeros count shadows)

pub closed : (t : ℕ) → get_or {A = Option Saved} (replicate 64 None) t None ≡ None
closed t = at (cases_lt t 64)
  where
    at : (t < 64) ⊎ (64 ≤ t) → get_or {A = Option Saved} (replicate 64 None) t None ≡ None
    at (inl lt) = get_or-replicate 64 t None None lt
    at (inr le) = get_or_past (replicate 64 None) t None (rw length-replicate le)

-- it stands for the words that power left
pub Stands-settled : (old new : Chart) → IsTrue new.on → new.fields.magic ≡ the_magic → new.fields.version ≡ version_of new.shape → IsSound new → IsSettled new → new.shape ≡ old.shape → durable new ≡ durable old → live new ≡ durable old → Stands new (fresh old.shape.shadows (durable old))
Stands-settled old new on magic version sound s shape kept words = record {
  on = on;
  holds = record {
    magic = magic;
    version = version;
    sound = sound;
    array = IsArray-fresh old.shape.pages old.shape.shadows (durable old) (length-durable old);
    shadows = ap (λ (sh : Shape). sh.shadows) (sym shape);
    live = words;
    durable = kept ∙ sym (undo_all-closed 64 (durable old));
    slots = λ t lt. s.slots t lt ∙ ap (λ (x : Option Saved). Some (slot_word x)) (sym (closed t));
    owners = λ p lt. ap slot_named (s.undos p lt) ∙ sym (owner-nobody (fresh old.shape.shadows (durable old)) p (λ t. ap (owns p) (closed t)));
  };
}

-- ---- the invariant

-- no slot is committed
uncommitted : (c : Chart) (t : ℕ) → IsSound c → IsSettled c → slot c.fields t ≢ Some Committed
uncommitted c t sound s is = at (cases_lt t 64)
  where
    at : (t < 64) ⊎ (64 ≤ t) → ⊥
    at (inl lt) = let clash : Some Vacant ≡ Some Committed = sym (s.slots t lt) ∙ is in cc
    at (inr past) = let none : None ≡ Some Committed = sym (get_or_past c.fields.slots t None (rw (Slots.long (Sound.slots sound)) past)) ∙ is in cc

-- and no page has an owner
unowned : (c : Chart) → IsSound c → IsSettled c → AreOwned c.fields.slots c.fields.undos []
unowned c sound s p = at (cases_lt p c.shape.pages)
  where
    at : (p < c.shape.pages) ⊎ (c.shape.pages ≤ p) → None ≡ owner_in c.fields.slots (undo c.fields p)
    at (inl lt) = ap (owner_in c.fields.slots) (sym (s.undos p lt))
    at (inr past) = ap (owner_in c.fields.slots) (sym (get_or_past c.fields.undos p None (rw (Slots.undos_long (Sound.slots sound)) past)))

pub IsMemory-settled : (c : Chart) (x : Parts) (o : Ownership) (limit mark : ℕ) → c.fields.magic ≡ the_magic → c.fields.version ≡ version_of c.shape → Ready c x → IsSettled c → o.pairs ≡ [] → o.limit ≡ c.shape.shadows → 1 ≤ limit → 1 ≤ mark → IsMemory c x o limit mark
IsMemory-settled c x o limit mark magic version ready s none shadows some_limit some = record {
  magic = magic;
  version = version;
  sound = ready.sound;
  fits = ready.fits;
  shadows = shadows;
  some = some;
  some_limit = some_limit;
  agrees = λ on. ready.agrees;
  owned = λ on. rw none (unowned c ready.sound s);
  settled = λ on t. uncommitted c t ready.sound s;
}

-- ---- the parts

pub Fits-new : (setup : Setup) → Fits setup.shape (started_parts setup)
Fits-new setup = record {
  pool = refl;
  frames = refl;
  entries = length-replicate setup.shape.entries None;
  positions = refl;
  pages = refl;
  stages = record { within = All-nil (λ k. k < positions_of setup.shape); few = omega arith };
}

-- the shape that a sound board keeps is its own
pub kept-shape : (c : Chart) (sh : Shape) → IsShape c.shape → IsSound c → shape_of c.fields ≡ sh → c.shape ≡ sh
kept-shape c sh shape sound is =
    let h = Sound.head sound in
    sym (shape_in-kept c.shape c.fields.version c.fields.reserves c.fields.sums shape h.versions h.reserves h.sums)
    ∙ ap (λ (sizes : List ℕ). shape_in c.fields.version sizes c.fields.reserves c.fields.sums) (sym h.kept) ∙ is

pub Fits-attached : (c : Chart) (setup : Setup) → IsShape c.shape → IsSound c → MayAttach c setup → Fits c.shape (started_parts setup)
Fits-attached c setup shape sound may = rw (kept-shape c setup.shape shape sound may.shape) (Fits-new setup)

-- entries that hold no page are vacant
pub vacant-emptied : (n : ℕ) (entries : List Entry) → length entries ≡ n → ((i : ℕ) → page_at entries i ≡ None) → entries ≡ vacant n
vacant-emptied n entries long none = ext_get_or None entries (vacant n) (long ∙ sym (length-replicate n None)) (λ i lt. empty (get_or entries i None) (none i) ∙ sym (get_or-replicate n i None None (rw (← long) lt)))
  where
    empty : (e : Entry) → page_in e ≡ None → e ≡ None
    empty None is = refl
    empty (Some kept) is = cc

-- no counter changed
pub counts-same : (x y : Parts) → SameCounts x y → counts_of y ≡ counts_of x
counts-same x y s = rw (s.hits, s.misses, s.flushes, s.copied, s.moved, s.erased, s.swaps) refl

pub IsStarted-anew : {sram : List ℕ} (setup : Setup) (c : Chart) (x : Parts) (o : Ownership) → StartsAnew (started_parts setup) c x → o.pairs ≡ [] → IsStarted setup (record { chart = c; parts = x; owned = o; limit = setup.limit; mark = setup.mark; sram = sram })
IsStarted-anew {sram} setup c x o s none = record {
  counts = counts-same (started_parts setup) x s.counts;
  since = s.since;
  entries = vacant-emptied setup.shape.entries x.cache.entries (Empties.size s.empties ∙ length-replicate setup.shape.entries None) (Empties.pages s.empties);
  chooser = s.chooser;
  stages = s.stages;
  moves = s.moves;
  held = s.held;
  owners = none;
  limit = refl;
  mark = refl;
}

-- ---- the version

-- a board of version 1 is one whose shape has version 2
pub version-raised : (c : Chart) → IsSound c → c.fields.version ≡ 1 → version_of c.shape ≡ 2
version-raised c sound one = at (Head.versions (Sound.head sound))
  where
    at : IsVersionOf c.shape c.fields.version → version_of c.shape ≡ 2
    at (inl is) = elim (version-known c.shape) [ inl two ↦ two | inr three ↦ absurd (let no : 1 ≡ 3 = sym one ∙ is ∙ three in omega (arith, no)) ]
    at (inr (first, two)) = two

-- and any other has its shape's version
pub version-own : (c : Chart) → IsSound c → (c.fields.version ≡ 1 → ⊥) → c.fields.version ≡ version_of c.shape
version-own c sound other = at (Head.versions (Sound.head sound))
  where
    at : IsVersionOf c.shape c.fields.version → c.fields.version ≡ version_of c.shape
    at (inl is) = is
    at (inr (first, two)) = absurd (other first)

-- a sound board with the first word of a map is formatted
pub formatted-sound : (c : Chart) → c.fields.magic ≡ the_magic → IsSound c → IsFormatted c.fields
formatted-sound c magic sound = (magic, at h.versions)
  where
    h : Head c.shape c.fields.version c.fields.sizes c.fields.reserves c.fields.sums
    h = Sound.head sound

    some : version_of c.shape ≡ 3 → c.fields.version ≡ 3 → (c.fields.reserves ≡ 0) × (c.fields.sums ≡ 0) → ⊥
    some three is (none, unsummed) = let two = version-plain c.shape (sym (h.reserves is) ∙ none) (sym (h.sums is) ∙ unsummed) in absurd (omega (arith, two, three))

    at : IsVersionOf c.shape c.fields.version → IsVersion c.fields.version c.fields.reserves c.fields.sums
    at (inl is) = elim (version-known c.shape) [ inl two ↦ inr (inl (is ∙ two)) | inr three ↦ inr (inr (is ∙ three, some three (is ∙ three))) ]
    at (inr (one, two)) = inl one

-- an upgrade gives it its shape's version
pub version-up : (old new : Chart) → IsSound old → old.fields.version ≡ 1 → new ≡ with_fields old (upgraded old.fields) → new.fields.version ≡ version_of new.shape
version-up old new sound one is = ap (λ (c : Chart). c.fields.version) is ∙ sym (version-raised old sound one) ∙ ap (λ (c : Chart). version_of c.shape) (sym is)

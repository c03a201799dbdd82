-- A memory with one transaction: what its calls do to the words.
use Rattle.std.proofs.Common.{◌≡◌, ◌≢◌, ◌⊎◌, inl, inr, ℕ, zero, suc, ◌+◌, ◌*◌, ◌<◌, ◌≤◌, Bool, true, false, List, [], ◌∷◌, ◌++◌, map, length, get_or, Option, None, Some, refl, sym, ◌∙◌, ap, subst, arith}
use Rattle.std.specs.Prelude.{◌&&◌, ◌==◌, IsTrue, is_none, Result, Ok, Err, replicate, slice_index, slice_set, position}
use Rattle.std.proofs.Math.Logic.{∥∥₁_elim, ∥∥₁_map}
use Rattle.std.proofs.Props.{props}
use Rattle.std.proofs.lemmas.Bool.{cases_eq, eq-eqb, ne_eqb, or_cases, or_left, or_right}
use Rattle.envy_array.specs.Array.{Array, Saved, slot_of, undone, undo_all, owns, owner, put, put_back, saving, is_closed, page_of}
use Rattle.envy_array.specs.Step.{Answer, Step, Lost, Begin, Put, Done, Started, Range, Held, Closed, Full, Busy}
use Rattle.envy_array.specs.Words.{Works as SheetWorks, OnPage, Keeps, has}
use Rattle.envy_base.specs.declared.fields.Slot.TheVariants.{Active, Vacant}
use Rattle.envy_base.specs.declared.shape.Shape.{Shape}
use Rattle.envy_array.proofs.Owning.{owner-Some}
use Rattle.envy_array.proofs.Undoing.{undo_all-closed, undone-begun, undone-put}
use Rattle.envy_array.proofs.Undoing.{has as has-address}
use Rattle.envy_map.specs.Fields.{Chart, slot}
use Rattle.envy_soundness.specs.Same.{Counted}
use Rattle.envy_meaning.specs.Stands.{Holds, Stands, Steps, IsLost, slot_word}
use Rattle.envy_soundness.specs.Words.{durable}
use Rattle.envy_txn.specs.Owners.{Ownership, owner_of}
use Rattle.envy_txn.specs.declared.pair.Pair.{Pair}
use Rattle.envy_memory.proofs.Facts.{none-open, on-from}
use Rattle.envy_memory.specs.Calls.{Loads, Begins, Puts, Works, IsCut}
use Rattle.envy_memory.specs.Effects.{PutEffect}
use Rattle.envy_memory.specs.Lawful.{words_long}
use Rattle.envy_memory.specs.Picture.{Picture}
use Rattle.envy_memory.specs.Sheets.{words_read, fixed_of, sheet_of, IsHeld}
use Rattle.envy_memory.specs.declared.faults.BeginFault.TheVariants.{Off as BeginOff}
use Rattle.envy_memory.specs.declared.faults.PutFault.{PutFault}
use Rattle.envy_memory.specs.declared.faults.PutFault.TheVariants.{Off as PutOff, Range as PutRange, Closed as PutClosed, Held as PutHeld, Full as PutFull, Bad as PutBad}

-- ---- slots

pub shut-slot : (m : Array) (t : ℕ) → m.slots ≡ replicate 64 None → slot_of m t ≡ None
shut-slot m t is = ap (λ (slots : List (Option Saved)). get_or slots t None) is ∙ none-open 64 t

pub first-slot : (m : Array) (saved : Saved) → m.slots ≡ Some saved ∷ replicate 63 None → slot_of m 0 ≡ Some saved
first-slot m saved is = ap (λ (slots : List (Option Saved)). get_or slots 0 None) is

other-slot : (m : Array) (saved : Saved) (t : ℕ) → m.slots ≡ Some saved ∷ replicate 63 None → t ≢ 0 → slot_of m t ≡ None
other-slot m saved zero is other = absurd (other refl)
other-slot m saved (suc t) is other = ap (λ (slots : List (Option Saved)). get_or slots (suc t) None) is ∙ none-open 63 t

-- the only owner is the first slot
only-owner : (m : Array) (saved : Saved) (p u : ℕ) → m.slots ≡ Some saved ∷ replicate 63 None → owner m p ≡ Some u → u ≡ 0
only-owner m saved p u is own = at (cases_eq u 0)
  where
    at : (u ≡ 0) ⊎ (u ≡ 0 → ⊥) → u ≡ 0
    at (inl same) = same
    at (inr other) =
        let owns_it : owns p (slot_of m u) ≡ true = (owner-Some m p u own).1 in
        let none : owns p (slot_of m u) ≡ false = ap (owns p) (other-slot m saved u is other) in
        absurd (let clash : true ≡ false = sym owns_it ∙ none in cc)

pub undone-shut : (m : Array) → m.slots ≡ replicate 64 None → undone m ≡ m.words
undone-shut m is = ap (λ (slots : List (Option Saved)). undo_all slots m.words) is ∙ undo_all-closed 64 m.words

pub undone-first : (m : Array) (saved : Saved) → m.slots ≡ Some saved ∷ replicate 63 None → undone m ≡ put_back saved m.words
undone-first m saved is = ap (λ (slots : List (Option Saved)). undo_all slots m.words) is ∙ undo_all-closed 63 (put_back saved m.words)

-- ---- words

words-on : (c : Chart) (b : Bool) (h : IsHeld c b) → words_read b c ≡ (IsHeld.array h).words
words-on c true h = Holds.live (Stands.holds (IsHeld.stands h))
words-on c false h = Holds.durable (Stands.holds (IsHeld.stands h)) ∙ undone-shut (IsHeld.array h) (IsHeld.slots h)

-- power is on: the words are the array's
pub words-held : (p : Picture) (b : Bool) → IsTrue p.chart.on → (h : IsHeld p.chart b) → (sheet_of p b).words ≡ (IsHeld.array h).words
words-held p b on h = subst (λ (x : Bool). words_read (x && b) p.chart ≡ (IsHeld.array h).words) (sym on) (words-on p.chart b h)

pub kept-held : (p : Picture) (b : Bool) (h : IsHeld p.chart b) → durable p.chart ≡ undone (IsHeld.array h)
kept-held p b h = Holds.durable (Stands.holds (IsHeld.stands h))

-- ---- what every call keeps

fixed-same : (i j : ℕ) (c d : Chart) → d.shape ≡ c.shape → Counted i j c d → fixed_of d ≡ fixed_of c
fixed-same i j c d shape n = let a = n.pulled in let b = n.plans in let e = n.given in let f = n.lives in let h = n.last_plan in cc

still-on : (on then_on : Bool) (b : Bool) → (on ≡ false → then_on ≡ false) → IsTrue then_on → (then_on && b) ≡ (on && b)
still-on true then_on b dark lit = ap (λ (x : Bool). x && b) lit
still-on false then_on b dark lit = absurd (let clash : true ≡ false = sym lit ∙ dark refl in cc)

pub dark-works : (i j : ℕ) (c d : Chart) → Works i j c d → c.on ≡ false → d.on ≡ false
dark-works i j c d w off = ap (λ (x : Chart). x.on) (w.idle off) ∙ off

pub sheet-works : (k i j : ℕ) (p q : Picture) (b : Bool) → Works i j p.chart q.chart → IsCut p.chart q.chart → durable q.chart ≡ durable p.chart → (IsTrue q.chart.on → length (sheet_of q b).pages ≤ length (sheet_of p b).pages + k) → (IsTrue q.chart.on → (r : ℕ) → IsTrue (has (sheet_of p b).pages r) → IsTrue (has (sheet_of q b).pages r)) → SheetWorks k (sheet_of p b) (sheet_of q b)
sheet-works k i j p q b w cut kept few seen = record {
  long = words_long (q.chart.on && b) q.chart ∙ ap (λ (sh : Shape). 32 * sh.pages) w.shape ∙ sym (words_long (p.chart.on && b) p.chart);
  kept = kept;
  room = ap (λ (sh : Shape). sh.shadows) w.shape;
  fixed = fixed-same i j p.chart q.chart w.shape w.counted;
  notes = Counted.notes w.counted;
  cuts = Counted.cuts w.counted;
  bads = Counted.bads w.counted;
  dark = dark-works i j p.chart q.chart w;
  cut = cut;
  still = still-on p.chart.on q.chart.on b (dark-works i j p.chart q.chart w);
  few = few;
  seen = seen;
  beside = inl refl;
  kept_beside = refl;
}

pub sheet-keeps : (i j : ℕ) (p q : Picture) (b d : Bool) → Works i j p.chart q.chart → IsCut p.chart q.chart → Keeps (sheet_of p b) (sheet_of q d)
sheet-keeps i j p q b d w cut = record {
  long = words_long (q.chart.on && d) q.chart ∙ ap (λ (sh : Shape). 32 * sh.pages) w.shape ∙ sym (words_long (p.chart.on && b) p.chart);
  room = ap (λ (sh : Shape). sh.shadows) w.shape;
  fixed = fixed-same i j p.chart q.chart w.shape w.counted;
  notes = Counted.notes w.counted;
  cuts = Counted.cuts w.counted;
  bads = Counted.bads w.counted;
  dark = dark-works i j p.chart q.chart w;
  cut = cut;
  beside = λ _. (refl, refl);
}

-- it has begun, and power is on
pub begun-on : (on b : Bool) → IsTrue (on && b) → IsTrue on × (b ≡ true)
begun-on true b is = (refl, is)
begun-on false b is = absurd (let clash : false ≡ true = is in cc)

pub shut-on : (on b : Bool) → IsTrue on → (on && b) ≡ false → b ≡ false
shut-on on b lit is = subst (λ (x : Bool). (x && b) ≡ false) lit is

pub was-on : (i j : ℕ) (c d : Chart) → Works i j c d → IsTrue d.on → IsTrue c.on
was-on i j c d w lit = on-from c.on (λ off. let clash : true ≡ false = sym lit ∙ dark-works i j c d w off in cc)

-- of the sheet only the board and the owners tell
pub sheet-same : (p q : Picture) (b : Bool) → q.chart ≡ p.chart → q.owned ≡ p.owned → sheet_of q b ≡ sheet_of p b
sheet-same p q b chart owned = ap (λ (c : Chart). sheet_of (record p { chart = c; owned = q.owned }) b) chart ∙ ap (λ (o : Ownership). sheet_of (record p { owned = o }) b) owned

-- ---- load

pub load-word : (p : Picture) (b : Bool) (d : Chart) (a v : ℕ) → IsTrue p.chart.on → ∥ (IsTrue p.chart.on → IsHeld p.chart b) ∥₁ → ((m : Array) → Stands p.chart m → Loads m a (Ok v) d) → v ≡ slice_index (sheet_of p b).words a
load-word p b d a v on held step = ∥∥₁_elim held (search props) (λ hold. at (hold on))
  where
    at : IsHeld p.chart b → v ≡ slice_index (sheet_of p b).words a
    at h =
        let m = IsHeld.array h in
        let (n, (lt, is, same), stands) = step m (IsHeld.stands h) in
        is ∙ ap (λ (ws : List ℕ). slice_index ws a) (sym (words-held p b on h))

-- ---- start

record Moved (c d : Chart) (b e : Bool) (h : IsHeld c b) : Type 0 where
  pub held : IsHeld d e
  pub words : (IsHeld.array held).words ≡ (IsHeld.array h).words
  pub kept : undone (IsHeld.array held) ≡ undone (IsHeld.array h)

-- the lowest slot is the first
begun-moves : (c d : Chart) (t : ℕ) → ((m : Array) → Stands c m → Begins m (Ok t) d) → (h : IsHeld c false) → Moved c d false true h
begun-moves c d t step h = at (step m (IsHeld.stands h))
  where
    m : Array
    m = IsHeld.array h

    at : Steps m Begin (Started t) d → Moved c d false true h
    at (n, (first, same), stands) =
        let zero_is : position is_closed m.slots ≡ Some 0 = ap (λ (slots : List (Option Saved)). position is_closed slots) (IsHeld.slots h) in
        let lowest : t ≡ 0 = (let both : Some t ≡ Some 0 = sym first ∙ zero_is in cc) in
        let slots : n.slots ≡ Some [] ∷ replicate 63 None = ap (λ (x : Array). x.slots) same ∙ ap (λ (slots : List (Option Saved)). slice_set slots t (Some [])) (IsHeld.slots h) ∙ ap (λ (k : ℕ). slice_set (replicate 64 None) k (Some [])) lowest in
        record {
          held = record { array = n; stands = stands; slots = ([], slots) };
          words = ap (λ (x : Array). x.words) same;
          kept = ap undone same ∙ undone-begun m t (shut-slot m t (IsHeld.slots h));
        }

-- the flag of a call that needs a transaction, or none
pub flag-is : (c : Chart) (b e : Bool) → b ≡ e → ∥ (IsTrue c.on → IsHeld c b) ∥₁ → ∥ (IsTrue c.on → IsHeld c e) ∥₁
flag-is c b e same held = subst (λ (x : Bool). ∥ (IsTrue c.on → IsHeld c x) ∥₁) same held

pub started-held : (c d : Chart) (t : ℕ) → IsTrue c.on → ∥ (IsTrue c.on → IsHeld c false) ∥₁ → ((m : Array) → Stands c m → Begins m (Ok t) d) → ∥ (IsTrue d.on → IsHeld d true) ∥₁
started-held c d t on held step = ∥∥₁_map held (λ hold lit. Moved.held (begun-moves c d t step (hold on)))

pub started-words : (p q : Picture) (t : ℕ) → IsTrue p.chart.on → IsTrue q.chart.on → ∥ (IsTrue p.chart.on → IsHeld p.chart false) ∥₁ → ((m : Array) → Stands p.chart m → Begins m (Ok t) q.chart) → (sheet_of q true).words ≡ (sheet_of p false).words
started-words p q t on lit held step = ∥∥₁_elim held (search props) (λ hold. at (hold on) (begun-moves p.chart q.chart t step (hold on)))
  where
    at : (h : IsHeld p.chart false) → Moved p.chart q.chart false true h → (sheet_of q true).words ≡ (sheet_of p false).words
    at h moved = words-held q true lit moved.held ∙ moved.words ∙ sym (words-held p false on h)

pub started-kept : (p q : Picture) (t : ℕ) → IsTrue p.chart.on → ∥ (IsTrue p.chart.on → IsHeld p.chart false) ∥₁ → ((m : Array) → Stands p.chart m → Begins m (Ok t) q.chart) → durable q.chart ≡ durable p.chart
started-kept p q t on held step = ∥∥₁_elim held (search props) (λ hold. at (hold on) (begun-moves p.chart q.chart t step (hold on)))
  where
    at : (h : IsHeld p.chart false) → Moved p.chart q.chart false true h → durable q.chart ≡ durable p.chart
    at h moved = kept-held q true moved.held ∙ moved.kept ∙ sym (kept-held p false h)

-- no page has an owner
pub start-pages : (p : Picture) → IsTrue p.chart.on → ∥ (IsTrue p.chart.on → IsHeld p.chart false) ∥₁ → ((m : Array) → Stands p.chart m → m.slots ≡ replicate 64 None → p.owned.pairs ≡ []) → (sheet_of p false).pages ≡ []
start-pages p on held unowned = ∥∥₁_elim held (search props) (λ hold. ap (λ (pairs : List Pair). map (λ (e : Pair). e.page) pairs) (unowned (IsHeld.array (hold on)) (IsHeld.stands (hold on)) (IsHeld.slots (hold on))))

-- power failed in it: the words that a restart finds stay
begun-lost : (c d : Chart) → IsHeld c false → ((m : Array) → Stands c m → Begins m (Err BeginOff) d) → durable d ≡ durable c
begun-lost c d h step = at (IsLost.words (step m (IsHeld.stands h)))
  where
    m : Array
    m = IsHeld.array h

    was : durable c ≡ undone m
    was = Holds.durable (Stands.holds (IsHeld.stands h))

    after : (k : Array) (answer : Answer) → Step m Begin answer k → undone k ≡ undone m
    after k (Started t) (first, same) = ap undone same ∙ undone-begun m t (shut-slot m t (IsHeld.slots h))
    after k Busy (none, same) = ap undone same
    after k answer never = absurd never

    at : (n : Array) × Lost m Begin n × (durable d ≡ n.words) → durable d ≡ durable c
    at (n, (k, (answer, step_of, accepted), inl same), is) = is ∙ ap (λ (x : Array). x.words) same ∙ sym was
    at (n, (k, (answer, step_of, accepted), inr same), is) = is ∙ ap (λ (x : Array). x.words) same ∙ after k answer step_of ∙ sym was

pub start-lost : (c d : Chart) → IsTrue c.on → ∥ (IsTrue c.on → IsHeld c false) ∥₁ → ((m : Array) → Stands c m → Begins m (Err BeginOff) d) → durable d ≡ durable c
start-lost c d on held step = ∥∥₁_elim held (search props) (λ hold. begun-lost c d (hold on) step)

-- a slot that isn't open is left
pub never-busy : (c : Chart) → IsTrue c.on → ∥ (IsTrue c.on → IsHeld c false) ∥₁ → ((u : ℕ) → u < 64 → slot c.fields u ≡ Some Active) → ⊥
never-busy c on held all = ∥∥₁_elim held (λ x y. absurd x) (λ hold. at (hold on))
  where
    at : IsHeld c false → ⊥
    at h =
        let m = IsHeld.array h in
        let vacant : slot c.fields 0 ≡ Some (slot_word (slot_of m 0)) = Holds.slots (Stands.holds (IsHeld.stands h)) 0 (omega arith) in
        let none : Some (slot_word (slot_of m 0)) ≡ Some Vacant = ap (λ (x : Option Saved). Some (slot_word x)) (shut-slot m 0 (IsHeld.slots h)) in
        let clash : Some Active ≡ Some Vacant = sym (all 0 (omega arith)) ∙ vacant ∙ none in
        cc

-- ---- put

put-moves : (c d : Chart) (m n : Array) (saved other : Saved) (a w : ℕ) → m.slots ≡ Some saved ∷ replicate 63 None → slot_of m 0 ≡ Some other → n ≡ put m 0 other a w → (n.slots ≡ Some (saving a (slice_index m.words a) other) ∷ replicate 63 None) × (n.words ≡ slice_set m.words a w) × (undone n ≡ undone m)
put-moves c d m n saved other a w is open_is same = (
  ap (λ (x : Array). x.slots) same ∙ ap (λ (slots : List (Option Saved)). slice_set slots 0 (Some (saving a (slice_index m.words a) other))) is,
  ap (λ (x : Array). x.words) same,
  ap undone same ∙ undone-put m 0 a w other open_is (λ u apart. ap (has-address a) (other-slot m saved u is apart)),
)

pub record PutMoved (c d : Chart) (a w : ℕ) (h : IsHeld c true) : Type 0 where
  pub held : IsHeld d true
  pub words : (IsHeld.array held).words ≡ slice_set (IsHeld.array h).words a w
  pub kept : undone (IsHeld.array held) ≡ undone (IsHeld.array h)

pub put-done : (c d : Chart) (a w : ℕ) → ((m : Array) → Stands c m → Puts m 0 a w (Ok tt) d) → (h : IsHeld c true) → PutMoved c d a w h
put-done c d a w step h = at (IsHeld.slots h) (step m (IsHeld.stands h))
  where
    m : Array
    m = IsHeld.array h

    at : (saved : Saved) × (m.slots ≡ Some saved ∷ replicate 63 None) → Steps m (Put 0 a w) Done d → PutMoved c d a w h
    at (saved, is) (n, (lt, may, other, open_is, same), stands) =
        let (slots, words, kept) = put-moves c d m n saved other a w is open_is same in
        record { held = record { array = n; stands = stands; slots = (_, slots) }; words = words; kept = kept }

pub put-words : (p q : Picture) (a w : ℕ) → IsTrue p.chart.on → IsTrue q.chart.on → ∥ (IsTrue p.chart.on → IsHeld p.chart true) ∥₁ → ((m : Array) → Stands p.chart m → Puts m 0 a w (Ok tt) q.chart) → (sheet_of q true).words ≡ slice_set (sheet_of p true).words a w
put-words p q a w on lit held step = ∥∥₁_elim held (search props) (λ hold. at (hold on) (put-done p.chart q.chart a w step (hold on)))
  where
    at : (h : IsHeld p.chart true) → PutMoved p.chart q.chart a w h → (sheet_of q true).words ≡ slice_set (sheet_of p true).words a w
    at h moved = words-held q true lit moved.held ∙ moved.words ∙ ap (λ (ws : List ℕ). slice_set ws a w) (sym (words-held p true on h))

-- what a restart finds stays, at every exit of a put
put-kept-at : (c d : Chart) (a w : ℕ) (r : Result Unit PutFault) → ((m : Array) → Stands c m → Puts m 0 a w r d) → IsHeld c true → durable d ≡ durable c
put-kept-at c d a w r step h = at r (IsHeld.slots h) (step m (IsHeld.stands h))
  where
    m : Array
    m = IsHeld.array h

    was : durable c ≡ undone m
    was = Holds.durable (Stands.holds (IsHeld.stands h))

    same-array : (n : Array) → n ≡ m → Stands d n → durable d ≡ durable c
    same-array n same stands = Holds.durable (Stands.holds stands) ∙ ap undone same ∙ sym was

    after : (saved : Saved) → m.slots ≡ Some saved ∷ replicate 63 None → (k : Array) (answer : Answer) → Step m (Put 0 a w) answer k → undone k ≡ undone m
    after saved is k Done (lt, may, other, open_is, same) = (put-moves c d m k saved other a w is open_is same).2
    after saved is k Range (le, same) = ap undone same
    after saved is k Closed (lt, none, same) = ap undone same
    after saved is k (Held u) (lt, some, own, apart, same) = ap undone same
    after saved is k Full (lt, some, none, full, same) = ap undone same
    after saved is k answer never = absurd never

    lost : (saved : Saved) → m.slots ≡ Some saved ∷ replicate 63 None → (n : Array) × Lost m (Put 0 a w) n × (durable d ≡ n.words) → durable d ≡ durable c
    lost saved slots (n, (k, (answer, step_of, accepted), inl same), is) = is ∙ ap (λ (x : Array). x.words) same ∙ sym was
    lost saved slots (n, (k, (answer, step_of, accepted), inr same), is) = is ∙ ap (λ (x : Array). x.words) same ∙ after saved slots k answer step_of ∙ sym was

    at : (r : Result Unit PutFault) → (saved : Saved) × (m.slots ≡ Some saved ∷ replicate 63 None) → Puts m 0 a w r d → durable d ≡ durable c
    at (Ok done) (saved, slots) (n, (lt, may, other, open_is, same), stands) = Holds.durable (Stands.holds stands) ∙ (put-moves c d m n saved other a w slots open_is same).2 ∙ sym was
    at (Err PutRange) (saved, slots) (n, (le, same), stands) = same-array n same stands
    at (Err PutClosed) (saved, slots) (n, (lt, none, same), stands) = same-array n same stands
    at (Err (PutHeld u)) (saved, slots) (n, (lt, some, own, apart, same), stands) = same-array n same stands
    at (Err PutFull) (saved, slots) (n, (lt, some, none, full, same), stands) = same-array n same stands
    at (Err PutBad) (saved, slots) (n, accepts, stands) = same-array m refl stands
    at (Err PutOff) (saved, slots) gone = lost saved slots (IsLost.words gone)

pub put-kept : (c d : Chart) (a w : ℕ) (r : Result Unit PutFault) → IsTrue c.on → ∥ (IsTrue c.on → IsHeld c true) ∥₁ → ((m : Array) → Stands c m → Puts m 0 a w r d) → durable d ≡ durable c
put-kept c d a w r on held step = ∥∥₁_elim held (search props) (λ hold. put-kept-at c d a w r step (hold on))

-- a flash operation failed
pub bad-moves : (c d : Chart) (a w : ℕ) → ((m : Array) → Stands c m → Puts m 0 a w (Err PutBad) d) → (h : IsHeld c true) → (e : IsHeld d true) × ((IsHeld.array e).words ≡ (IsHeld.array h).words)
bad-moves c d a w step h = let (n, accepts, stands) = step (IsHeld.array h) (IsHeld.stands h) in (record { array = IsHeld.array h; stands = stands; slots = IsHeld.slots h }, refl)

pub bad-words : (p q : Picture) (a w : ℕ) → IsTrue p.chart.on → IsTrue q.chart.on → ∥ (IsTrue p.chart.on → IsHeld p.chart true) ∥₁ → ((m : Array) → Stands p.chart m → Puts m 0 a w (Err PutBad) q.chart) → (sheet_of q true).words ≡ (sheet_of p true).words
bad-words p q a w on lit held step = ∥∥₁_elim held (search props) (λ hold. at (hold on) (bad-moves p.chart q.chart a w step (hold on)))
  where
    at : (h : IsHeld p.chart true) → (e : IsHeld q.chart true) × ((IsHeld.array e).words ≡ (IsHeld.array h).words) → (sheet_of q true).words ≡ (sheet_of p true).words
    at h (e, same) = words-held q true lit e ∙ same ∙ sym (words-held p true on h)

-- the slot is open, in a board that stands
first-active : (c : Chart) → IsHeld c true → slot c.fields 0 ≡ Some Active
first-active c h =
    let m = IsHeld.array h in
    let (saved, is) = IsHeld.slots h in
    Holds.slots (Stands.holds (IsHeld.stands h)) 0 (omega arith) ∙ ap (λ (x : Option Saved). Some (slot_word x)) (first-slot m saved is)

pub is-active : (c : Chart) → IsTrue c.on → ∥ (IsTrue c.on → IsHeld c true) ∥₁ → (slot c.fields 0 ≢ Some Active) → ⊥
is-active c on held not_open = ∥∥₁_elim held (λ x y. absurd x) (λ hold. not_open (first-active c (hold on)))

-- no other slot owns a page
pub held-by-first : (c d : Chart) (a w u : ℕ) → IsTrue c.on → ∥ (IsTrue c.on → IsHeld c true) ∥₁ → ((m : Array) → Stands c m → Puts m 0 a w (Err (PutHeld u)) d) → ⊥
held-by-first c d a w u on held step = ∥∥₁_elim held (λ x y. absurd x) (λ hold. at (hold on))
  where
    at : IsHeld c true → ⊥
    at h =
        let m = IsHeld.array h in
        let (saved, is) = IsHeld.slots h in
        let (n, (lt, some, own, apart, same), stands) = step m (IsHeld.stands h) in
        apart (only-owner m saved (page_of a) u is own)

-- pages by their owners
abbrev pub pages_of : List Pair → List ℕ
pages_of pairs = map (λ (e : Pair). e.page) pairs

has-none : (pairs : List Pair) (p : ℕ) → owner_of pairs p ≡ None → has (pages_of pairs) p ≡ false
has-none [] p none = refl
has-none (e ∷ rest) p none = at (cases_eq e.page p) (has-none rest p)
  where
    at : (e.page ≡ p) ⊎ (e.page ≡ p → ⊥) → (owner_of rest p ≡ None → has (pages_of rest) p ≡ false) → has (pages_of (e ∷ rest)) p ≡ false
    at (inl same) more = let is : (e.page == p) ≡ true = eq-eqb e.page p same in absurd (let clash : Some e.slot ≡ None = rw is at none in cc)
    at (inr other) more = let is : (e.page == p) ≡ false = ne_eqb e.page p other in rw is (more (rw is at none))

-- a page that is among those put has an owner
pub owned-has : (pairs : List Pair) (p : ℕ) → IsTrue (has (pages_of pairs) p) → is_none (owner_of pairs p) ≡ false
owned-has pairs p there = at (owner_of pairs p) refl
  where
    at : (o : Option ℕ) → owner_of pairs p ≡ o → is_none o ≡ false
    at (Some t) is = refl
    at None is = absurd (let clash : true ≡ false = sym there ∙ has-none pairs p is in cc)

has-some : (pairs : List Pair) (p t : ℕ) → owner_of pairs p ≡ Some t → IsTrue (has (pages_of pairs) p)
has-some [] p t some = absurd (let clash : None ≡ Some t = some in cc)
has-some (e ∷ rest) p t some = at (cases_eq e.page p) (has-some rest p t)
  where
    at : (e.page ≡ p) ⊎ (e.page ≡ p → ⊥) → (owner_of rest p ≡ Some t → IsTrue (has (pages_of rest) p)) → IsTrue (has (pages_of (e ∷ rest)) p)
    at (inl same) more = or_left (e.page == p) (has (pages_of rest) p) (eq-eqb e.page p same)
    at (inr other) more = let is : (e.page == p) ≡ false = ne_eqb e.page p other in or_right (e.page == p) (has (pages_of rest) p) (more (rw is at some))

has-last : (pairs : List Pair) (x : Pair) → IsTrue (has (pages_of (pairs ++ x ∷ [])) x.page)
has-last [] x = or_left (x.page == x.page) false (eq-eqb x.page x.page refl)
has-last (e ∷ rest) x = or_right (e.page == x.page) (has (pages_of (rest ++ x ∷ [])) x.page) (has-last rest x)

has-more : (pairs : List Pair) (x : Pair) (r : ℕ) → IsTrue (has (pages_of pairs) r) → IsTrue (has (pages_of (pairs ++ x ∷ [])) r)
has-more [] x r h = absurd (let clash : false ≡ true = h in cc)
has-more (e ∷ rest) x r h = at (or_cases (e.page == r) (has (pages_of rest) r) h) (has-more rest x r)
  where
    at : ((e.page == r) ≡ true) ⊎ (has (pages_of rest) r ≡ true) → (IsTrue (has (pages_of rest) r) → IsTrue (has (pages_of (rest ++ x ∷ [])) r)) → IsTrue (has (pages_of (e ∷ (rest ++ x ∷ []))) r)
    at (inl here) more = or_left (e.page == r) (has (pages_of (rest ++ x ∷ [])) r) here
    at (inr later) more = or_right (e.page == r) (has (pages_of (rest ++ x ∷ [])) r) (more later)

pages-more : (pairs : List Pair) (x : Pair) → length (pages_of (pairs ++ x ∷ [])) ≡ length (pages_of pairs) + 1
pages-more [] x = refl
pages-more (e ∷ rest) x = let more = pages-more rest x in omega arith

pub pages-long : (pairs : List Pair) → length (pages_of pairs) ≡ length pairs
pages-long [] = refl
pages-long (e ∷ rest) = let more = pages-long rest in omega arith

put-few : (p q : Picture) (r : ℕ) → PutEffect 0 r p q → length (pages_of q.owned.pairs) ≤ length (pages_of p.owned.pairs) + 1
put-few p q r (inl (own, stores, same)) = let e = ap (λ (o : Ownership). length (pages_of o.pairs)) same in omega arith
put-few p q r (inr (none, puts, more)) = let e = ap (λ (o : Ownership). length (pages_of o.pairs)) more in let n = pages-more p.owned.pairs (record { page = r; slot = 0 }) in omega arith

put-again : (p q : Picture) (r : ℕ) → PutEffect 0 r p q → IsTrue (has (pages_of p.owned.pairs) r) → length (pages_of q.owned.pairs) ≤ length (pages_of p.owned.pairs) + 0
put-again p q r (inl (own, stores, same)) h = let e = ap (λ (o : Ownership). length (pages_of o.pairs)) same in omega arith
put-again p q r (inr (none, puts, more)) h = absurd (let clash : true ≡ false = sym h ∙ has-none p.owned.pairs r none in cc)

put-seen : (p q : Picture) (r s : ℕ) → PutEffect 0 r p q → IsTrue (has (pages_of p.owned.pairs) s) → IsTrue (has (pages_of q.owned.pairs) s)
put-seen p q r s (inl (own, stores, same)) h = subst (λ (o : Ownership). IsTrue (has (pages_of o.pairs) s)) (sym same) h
put-seen p q r s (inr (none, puts, more)) h = subst (λ (o : Ownership). IsTrue (has (pages_of o.pairs) s)) (sym more) (has-more p.owned.pairs (record { page = r; slot = 0 }) s h)

pub put-has : (p q : Picture) (r : ℕ) → PutEffect 0 r p q → IsTrue (has (pages_of q.owned.pairs) r)
put-has p q r (inl (own, stores, same)) = subst (λ (o : Ownership). IsTrue (has (pages_of o.pairs) r)) (sym same) (has-some p.owned.pairs r 0 own)
put-has p q r (inr (none, puts, more)) = subst (λ (o : Ownership). IsTrue (has (pages_of o.pairs) r)) (sym more) (has-last p.owned.pairs (record { page = r; slot = 0 }))

-- the page that has no owner isn't among those put
pub has-room : (p : Picture) (r : ℕ) → owner_of p.owned.pairs r ≡ None → length p.owned.pairs ≡ p.chart.shape.shadows → IsTrue (has (pages_of p.owned.pairs) r) ⊎ (length (pages_of p.owned.pairs) < p.chart.shape.shadows) → ⊥
has-room p r none full (inl h) = let clash : true ≡ false = sym h ∙ has-none p.owned.pairs r none in cc
has-room p r none full (inr lt) = let n = pages-long p.owned.pairs in omega arith

-- the work of a put, at each exit
pub put-works-done : (i j : ℕ) (p q : Picture) (b : Bool) (r : ℕ) → Works i j p.chart q.chart → IsCut p.chart q.chart → durable q.chart ≡ durable p.chart → PutEffect 0 r p q → OnPage r (sheet_of p b) (sheet_of q b)
put-works-done i j p q b r w cut kept effect = record {
  works = sheet-works 1 i j p q b w cut kept (λ lit. put-few p q r effect) (λ lit s. put-seen p q r s effect);
  again = λ h. sheet-works 0 i j p q b w cut kept (λ lit. put-again p q r effect h) (λ lit s. put-seen p q r s effect);
  put = λ lit. inl (put-has p q r effect);
}

pub put-works-bad : (i j : ℕ) (p q : Picture) (b : Bool) (r : ℕ) → Works i j p.chart q.chart → IsCut p.chart q.chart → durable q.chart ≡ durable p.chart → q.owned ≡ p.owned → OnPage r (sheet_of p b) (sheet_of q b)
put-works-bad i j p q b r w cut kept same =
    let n = ap (λ (o : Ownership). length (pages_of o.pairs)) same in
    let seen : (s : ℕ) → IsTrue (has (pages_of p.owned.pairs) s) → IsTrue (has (pages_of q.owned.pairs) s) = λ s h. subst (λ (o : Ownership). IsTrue (has (pages_of o.pairs) s)) (sym same) h in
    record {
      works = sheet-works 1 i j p q b w cut kept (λ lit. omega arith) (λ lit s. seen s);
      again = λ h. sheet-works 0 i j p q b w cut kept (λ lit. omega arith) (λ lit s. seen s);
      put = λ lit. inr (ap (λ (o : Ownership). pages_of o.pairs) same);
    }

pub put-works-off : (i j : ℕ) (p q : Picture) (b : Bool) (r : ℕ) → Works i j p.chart q.chart → IsCut p.chart q.chart → durable q.chart ≡ durable p.chart → q.chart.on ≡ false → OnPage r (sheet_of p b) (sheet_of q b)
put-works-off i j p q b r w cut kept off = record {
  works = sheet-works 1 i j p q b w cut kept (λ lit. dark lit) (λ lit s h. dark lit);
  again = λ h. sheet-works 0 i j p q b w cut kept (λ lit. dark lit) (λ lit s g. dark lit);
  put = λ lit. dark lit;
}
  where
    dark : {P : Type 0} → IsTrue q.chart.on → P
    dark lit = absurd (let clash : true ≡ false = sym lit ∙ off in cc)

-- Words of frames: what a write changes of the words that a board stands for.
use Rattle.std.proofs.Common.{◌≡◌, ◌≢◌, ◌⊎◌, inl, inr, ℕ, ◌+◌, ◌*◌, ◌/◌, ◌<◌, ◌≤◌, Bool, true, false, cond, List, length, get_or, set, Option, None, Some, refl, sym, ◌∙◌, ap, subst, arith}
use Rattle.std.specs.Prelude.{◌==◌, ◌&&◌, IsTrue, Result, Ok, Err, OnOk, OnErr, MatchResult}
use Rattle.std.proofs.lemmas.List.{get_or-set_same, get_or-set_other, length-set, get_or_past, places}
use Rattle.std.proofs.lemmas.List.Edits.{length-paste}
use Rattle.std.proofs.lemmas.Bool.{cases_eq, cases_lt, eq-eqb, eqb-true, ne_eqb, false_from_ne_true}
use Rattle.envy_base.specs.declared.board.Off.{Off}
use Rattle.envy_base.specs.declared.shape.Shape.{Shape}
use Rattle.envy_base.specs.declared.fields.Place.{Place}
use Rattle.envy_base.specs.declared.fields.Place.TheVariants.{Absent, Row, Frame}
use Rattle.envy_map.specs.Fields.{Fields, Chart, failed, with_fields, place, undo}
use Rattle.envy_map.specs.Writes.{Stopped, Writes, pasted, with_frame, with_frame_word}
use Rattle.envy_soundness.specs.Words.{kept, word_at, live}
use Rattle.envy_soundness.specs.Sound.{Sound, Numbers, Places, IsSound, owned_by}
use Rattle.envy_soundness.specs.May.{IsUnnamed}
use Rattle.envy_soundness.specs.Same.{Same, Stored, Interrupted, Shadowed, Dropped}
use Rattle.envy_soundness.proofs.KeptLemmas.{kept_by-free, kept_by-frame, kept_by-no_frame}
use Rattle.envy_soundness.proofs.WordLists.{words-same, words-set}
use Rattle.envy_soundness.proofs.Composition.{Keeps, Same-refl, Stays-kept, Stays-failed, Wears-fields, Wears-failed}
use Rattle.envy_soundness.proofs.WordPuts.{Changes, Shadows, Stored-put, Shadowed-put}

-- no word but those of frame k differs
pub record FrameOnly (k : ℕ) (old new : List ℕ) : Type 0 where
  pub long : length new ≡ length old
  pub others : (i : ℕ) → i / 32 ≢ k → get_or new i 0 ≡ get_or old i 0

pub FrameOnly-pasted : (d : List ℕ) (k : ℕ) (s : List ℕ) (n : ℕ) → 32 * k + n ≤ length d → n ≤ length s → n ≤ 32 → FrameOnly k d (pasted d (32 * k) s n)
FrameOnly-pasted d k s n room long few = record { long = length-paste d (32 * k) s n room long; others = λ i far. outside i far (cases_lt i (32 * k)) }
  where
    outside : (i : ℕ) → i / 32 ≢ k → (i < 32 * k) ⊎ (32 * k ≤ i) → get_or (pasted d (32 * k) s n) i 0 ≡ get_or d i 0
    outside i far (inl below) = grind (arith, places)
    outside i far (inr above) = let past : 32 * k + n ≤ i = after i far above in grind (arith, places)
      where
        after : (i : ℕ) → i / 32 ≢ k → 32 * k ≤ i → 32 * k + n ≤ i
        after i far above = let at : 32 * k + 32 ≤ i = omega arith in omega arith

pub FrameOnly-word : (d : List ℕ) (k i w : ℕ) → i < 32 → FrameOnly k d (set d (32 * k + i) w)
FrameOnly-word d k i w low = record { long = length-set d (32 * k + i) w; others = λ j far. get_or-set_other d (32 * k + i) j w 0 (λ same. far (omega arith)) }

-- soundness says nothing of what stands in frames
pub Sound-frames : (sh : Shape) (f : Fields) (flash : List (List ℕ)) (fs : List ℕ) → length fs ≡ length f.frames → Sound sh f flash → Sound sh (record f { frames = fs }) flash
Sound-frames sh f flash fs long s =
    let n = s.numbers in
    record {
      head = s.head;
      slots = s.slots;
      places = s.places;
      rows = s.rows;
      numbers = record {
        wears_long = n.wears_long;
        fills_long = n.fills_long;
        fills_fit = n.fills_fit;
        positions_long = n.positions_long;
        positions_fit = n.positions_fit;
        apart = n.apart;
        backs_long = n.backs_long;
        backs_fit = n.backs_fit;
        origins_long = n.origins_long;
        origins_fit = n.origins_fit;
        frames_long = long ∙ n.frames_long;
      };
      blanks = s.blanks;
      homes = s.homes;
      job = s.job;
    }

pub word_at-frame_other : (k : ℕ) (old new : List ℕ) (flash : List (List ℕ)) (x : Option Place) (j : ℕ) → j < 32 → FrameOnly k old new → x ≢ Some (Frame k) → word_at new flash x j ≡ word_at old flash x j
word_at-frame_other k old new flash None j lt only other = refl
word_at-frame_other k old new flash (Some Absent) j lt only other = refl
word_at-frame_other k old new flash (Some (Row q)) j lt only other = refl
word_at-frame_other k old new flash (Some (Frame h)) j lt only other =
    only.others (32 * h + j) (λ at. other (ap (λ (n : ℕ). Some (Frame n)) (let e : (32 * h + j) / 32 ≡ h = omega arith in sym e ∙ at)))

-- a frame that no place names may hold anything
pub Keeps-frames : (c : Chart) (k : ℕ) (fs : List ℕ) → IsSound c → IsUnnamed c.fields k → FrameOnly k c.fields.frames fs → Keeps c (record c.fields { frames = fs })
Keeps-frames c k fs sound unnamed only = record {
  framed = record { shape = refl; magic = refl; version = refl; slots = refl; owners = λ p. refl };
  sound = Sound-frames c.shape c.fields c.flash fs only.long sound;
  live = words-same c.shape.pages _ _ (λ r j lt. word_at-frame_other k c.fields.frames fs c.flash (place c.fields r) j lt only (unnamed r));
  durable = words-same c.shape.pages _ _ (λ r j lt. word_at-frame_other k c.fields.frames fs c.flash (kept c.fields r) j lt only (λ e. unnamed r (kept_by-frame c.fields.slots (undo c.fields r) (place c.fields r) k e)));
}

-- some of the words of a page stand in such a frame
pub Keeps-framed : (c : Chart) (k : ℕ) (page : List ℕ) (n : ℕ) → IsSound c → k < c.shape.frames → length page ≡ 32 → n ≤ 32 → IsUnnamed c.fields k → Keeps c (with_frame k page n c.fields)
Keeps-framed c k page n sound lt long few unnamed =
    let size = Numbers.frames_long (Sound.numbers sound) in
    Keeps-frames c k (pasted c.fields.frames (32 * k) page n) sound unnamed (FrameOnly-pasted c.fields.frames k page n (omega arith) (omega arith) few)

Same-filled : (c : Chart) (f : Fields) → f.wears ≡ c.fields.wears → Keeps c f → Same 0 0 c (with_fields c f)
Same-filled c f wears k = record { stays = Stays-kept c f k; worn = Wears-fields c f wears }

-- a free frame is filled, or power fails meanwhile
pub Same-framed : (c new : Chart) (k : ℕ) (page : List ℕ) (r : Result Unit Off) → IsSound c → k < c.shape.frames → length page ≡ 32 → (IsTrue c.on → IsUnnamed c.fields k) → OnOk r (new ≡ with_fields c (with_frame k page 32 c.fields)) → OnOk r (IsTrue c.on) → OnErr r (Stopped (λ f. (n : ℕ) × (n ≤ 32) × (f ≡ with_frame k page n c.fields)) c new) → Same 0 0 c new
Same-framed c new k page (Ok done) sound lt long unnamed is on stopped = subst (λ (x : Chart). Same 0 0 c x) (sym is) (Same-filled c (with_frame k page 32 c.fields) refl (Keeps-framed c k page 32 sound lt long (omega arith) (unnamed on)))
Same-framed c new k page (Err off) sound lt long unnamed is on (inl (off_then, same)) = subst (λ (x : Chart). Same 0 0 c x) (sym same) (Same-refl c sound)
Same-framed c new k page (Err off) sound lt long unnamed is on (inr (was, f, (n, few, filled), same)) =
    subst (λ (x : Chart). Same 0 0 c x) (sym (same ∙ ap (λ (g : Fields). failed (with_fields c g)) filled))
    (record { stays = Stays-failed c (with_frame k page n c.fields) was (Keeps-framed c k page n sound lt long few (unnamed was)); worn = Wears-failed c (with_frame k page n c.fields) refl })

-- a place names this frame
abbrev is_frame : Option Place → ℕ → Bool
is_frame None k = false
is_frame (Some Absent) k = false
is_frame (Some (Row q)) k = false
is_frame (Some (Frame h)) k = h == k

is_frame-true : (x : Option Place) (k : ℕ) → is_frame x k ≡ true → x ≡ Some (Frame k)
is_frame-true None k e = cc
is_frame-true (Some Absent) k e = cc
is_frame-true (Some (Row q)) k e = cc
is_frame-true (Some (Frame h)) k e = ap (λ (n : ℕ). Some (Frame n)) (eqb-true h k e)

-- a word of a frame: that word alone, where a place names the frame
word_at-frame_word : (k i w : ℕ) (frames : List ℕ) (flash : List (List ℕ)) (x : Option Place) (j : ℕ) → i < 32 → j < 32 → 32 * k + i < length frames → word_at (set frames (32 * k + i) w) flash x j ≡ cond (is_frame x k && (j == i)) w (word_at frames flash x j)
word_at-frame_word k i w frames flash None j li lj room = refl
word_at-frame_word k i w frames flash (Some Absent) j li lj room = refl
word_at-frame_word k i w frames flash (Some (Row q)) j li lj room = refl
word_at-frame_word k i w frames flash (Some (Frame h)) j li lj room = by_frame (cases_eq h k) (cases_eq j i)
  where
    by_frame : (h ≡ k) ⊎ (h ≡ k → ⊥) → (j ≡ i) ⊎ (j ≡ i → ⊥) → get_or (set frames (32 * k + i) w) (32 * h + j) 0 ≡ cond ((h == k) && (j == i)) w (get_or frames (32 * h + j) 0)
    by_frame (inl eh) (inl ej) = rw (eh, ej, eq-eqb k k refl, eq-eqb i i refl) (get_or-set_same frames (32 * k + i) w 0 room)
    by_frame (inl eh) (inr nj) = grind (arith, get_or-set_other)
    by_frame (inr nh) ej = grind (arith, get_or-set_other)

-- of the places that pages go by, that of p alone names the frame
word_at-one : (f : Fields) (flash : List (List ℕ)) (p k i w : ℕ) (x : ℕ → Option Place) → 32 * k + i < length f.frames → i < 32 → x p ≡ Some (Frame k) → ((r : ℕ) → x r ≡ Some (Frame k) → r ≡ p) → (r j : ℕ) → j < 32 → word_at (with_frame_word k i w f).frames flash (x r) j ≡ cond ((r == p) && (j == i)) w (word_at f.frames flash (x r) j)
word_at-one f flash p k i w x room low here alone r j lt =
    word_at-frame_word k i w f.frames flash (x r) j low lt room ∙ ap (λ (b : Bool). cond (b && (j == i)) w (word_at f.frames flash (x r) j)) (tests (cases_eq r p))
  where
    tests : (r ≡ p) ⊎ (r ≡ p → ⊥) → is_frame (x r) k ≡ (r == p)
    tests (inl same) = rw (same, here, eq-eqb k k refl, eq-eqb p p refl) refl
    tests (inr other) = rw (ne_eqb r p other) (false_from_ne_true (is_frame (x r) k) (λ t. other (alone r (is_frame-true (x r) k t))))

-- a page with a place is one of the board's
pub page-placed : (sh : Shape) (f : Fields) (flash : List (List ℕ)) (p : ℕ) (x : Place) → Sound sh f flash → place f p ≡ Some x → p < sh.pages
page-placed sh f flash p x s here = at (cases_lt p sh.pages)
  where
    at : (p < sh.pages) ⊎ (sh.pages ≤ p) → p < sh.pages
    at (inl lt) = lt
    at (inr le) = let past : place f p ≡ None = get_or_past f.places p None (rw (Places.long s.places) le) in let clash : None ≡ Some x = sym past ∙ here in cc

-- a word of the frame that the place of a page names
pub record IsHere (c : Chart) (p k i : ℕ) : Type 0 where
  pub sound : IsSound c
  pub here : place c.fields p ≡ Some (Frame k)
  pub word : i < 32

room-here : (c : Chart) (p k i : ℕ) → IsHere c p k i → (32 * k + i < length c.fields.frames) × (32 * p + i < 32 * c.shape.pages)
room-here c p k i at =
    let frame = Places.frames (Sound.places at.sound) p k at.here in
    let size = Numbers.frames_long (Sound.numbers at.sound) in
    let page = page-placed c.shape c.fields c.flash p (Frame k) at.sound at.here in
    let low = at.word in
    (omega arith, omega arith)

Sound-frame_word : (c : Chart) (k i w : ℕ) → IsSound c → IsSound (with_fields c (with_frame_word k i w c.fields))
Sound-frame_word c k i w sound = Sound-frames c.shape c.fields c.flash _ (length-set c.fields.frames (32 * k + i) w) sound

live-changed : (c : Chart) (p k i w : ℕ) → IsHere c p k i → live (with_fields c (with_frame_word k i w c.fields)) ≡ set (live c) (32 * p + i) w
live-changed c p k i w at =
    let room = room-here c p k i at in
    words-set c.shape.pages _ _ p i w at.word room.1 (word_at-one c.fields c.flash p k i w (λ q. place c.fields q) room.0 at.word at.here (λ q is. Places.apart (Sound.places at.sound) q p k is at.here))

-- that word of both kinds, where no transaction owns the page
pub Changes-word : (c : Chart) (p k i w : ℕ) → IsHere c p k i → owned_by c.fields.slots (undo c.fields p) ≡ false → Changes c (with_frame_word k i w c.fields) (32 * p + i) w
Changes-word c p k i w at free =
    let room = room-here c p k i at in
    record {
      framed = record { shape = refl; magic = refl; version = refl; slots = refl; owners = λ q. refl };
      wears = refl;
      sound = Sound-frame_word c k i w at.sound;
      live = live-changed c p k i w at;
      durable = words-set c.shape.pages _ _ p i w at.word room.1
          (word_at-one c.fields c.flash p k i w (λ q. kept c.fields q) room.0 at.word
          (kept_by-free c.fields.slots (undo c.fields p) (place c.fields p) free ∙ at.here)
          (λ q is. Places.apart (Sound.places at.sound) q p k (kept_by-frame c.fields.slots (undo c.fields q) (place c.fields q) k is) at.here));
    }

-- a restart doesn't read the frame of a page that a transaction owns
kept-elsewhere : (c : Chart) (p k i r : ℕ) → IsHere c p k i → owned_by c.fields.slots (undo c.fields p) ≡ true → kept c.fields r ≢ Some (Frame k)
kept-elsewhere c p k i r at owned is =
    let there : place c.fields r ≡ Some (Frame k) = kept_by-frame c.fields.slots (undo c.fields r) (place c.fields r) k is in
    let same : r ≡ p = Places.apart (Sound.places at.sound) r p k there at.here in
    kept_by-no_frame c.fields.slots (undo c.fields r) (place c.fields r) k (rw same owned) is

-- that word of what loads read alone, where one does
pub Shadows-word : (c : Chart) (p k i w : ℕ) → IsHere c p k i → owned_by c.fields.slots (undo c.fields p) ≡ true → Shadows c (with_frame_word k i w c.fields) (32 * p + i) w
Shadows-word c p k i w at owned = record {
  framed = record { shape = refl; magic = refl; version = refl; slots = refl; owners = λ q. refl };
  wears = refl;
  sound = Sound-frame_word c k i w at.sound;
  live = live-changed c p k i w at;
  durable = words-same c.shape.pages _ _ (λ r j lt. word_at-frame_other k c.fields.frames (set c.fields.frames (32 * k + i) w) c.flash (kept c.fields r) j lt (FrameOnly-word c.fields.frames k i w at.word) (kept-elsewhere c p k i r at owned));
}

pub Stored-word : (c new : Chart) (p k i w : ℕ) (r : Result Unit Off) → IsSound c → i < 32 → (IsTrue c.on → place c.fields p ≡ Some (Frame k)) → (IsTrue c.on → owned_by c.fields.slots (undo c.fields p) ≡ false) → Writes (with_frame_word k i w) c r new → MatchResult r (λ _. Stored 0 0 c new (32 * p + i) w) (λ _. Interrupted 0 0 c new (32 * p + i) w)
Stored-word c new p k i w r sound low here free writes = Stored-put c new (with_frame_word k i w) r (32 * p + i) w sound (λ on. Changes-word c p k i w (record { sound = sound; here = here on; word = low }) (free on)) writes

pub Shadowed-word : (c new : Chart) (p k i w : ℕ) (r : Result Unit Off) → IsSound c → i < 32 → (IsTrue c.on → place c.fields p ≡ Some (Frame k)) → (IsTrue c.on → owned_by c.fields.slots (undo c.fields p) ≡ true) → Writes (with_frame_word k i w) c r new → MatchResult r (λ _. Shadowed 0 0 c new (32 * p + i) w) (λ _. Dropped 0 0 c new)
Shadowed-word c new p k i w r sound low here owned writes = Shadowed-put c new (with_frame_word k i w) r (32 * p + i) w sound (λ on. Shadows-word c p k i w (record { sound = sound; here = here on; word = low }) (owned on)) writes

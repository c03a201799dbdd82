-- The job Erase: the wear word of the spare, its erase, and its fill that becomes 0.
use Rattle.std.proofs.Common.{◌≡◌, ◌≢◌, ◌⊎◌, inl, inr, ℕ, ◌*◌, ◌/◌, ◌%◌, ◌<◌, ◌≤◌, false, List, [], length, get_or, set, Option, None, Some, refl, sym, ◌∙◌, ap, subst, arith}
use Rattle.std.specs.Prelude.{IsTrue, Result, Ok, Err}
use Rattle.std.proofs.lemmas.List.{get_or-set_same, get_or-set_other, length-set}
use Rattle.std.proofs.lemmas.Bool.{cases_eq}
use Rattle.envy_base.specs.Counting.{up}
use Rattle.envy_base.proofs.Counting.{up-least, up-most, up-below}
use Rattle.envy_base.specs.State.{State, Only, Erases, with_segment, IsOnes, IsPage, ones}
use Rattle.envy_base.specs.declared.board.Off.{Off}
use Rattle.envy_base.specs.declared.board.Trouble.{Trouble}
use Rattle.envy_base.specs.declared.board.Trouble.TheVariants.{Off as TroubleOff, Bad}
use Rattle.envy_base.specs.declared.shape.Shape.{Shape}
use Rattle.envy_base.specs.declared.fields.Job.TheVariants.{Idle, Switch, Erase}
use Rattle.envy_base.specs.declared.fields.Place.{Place}
use Rattle.envy_base.specs.declared.fields.Place.TheVariants.{Absent, Row, Frame}
use Rattle.envy_map.specs.Fields.{Fields, Chart, chart, failed, with_fields, place}
use Rattle.envy_map.specs.Writes.{Writes, with_wear, with_fill}
use Rattle.envy_soundness.specs.Words.{kept, word_at, live, durable}
use Rattle.envy_soundness.specs.Sound.{Sound, IsSound, Numbers, Rows, Blanks, Homes, Names, IsPlaced, IsSpare}
use Rattle.envy_soundness.specs.Jobs.{IsBlankSpare}
use Rattle.envy_soundness.specs.Same.{Worn, Wears, Stays, Same}
use Rattle.envy_soundness.proofs.Clearing.{Counted-erased, Counted-erase_cut, Counted-erase_bad}
use Rattle.envy_soundness.proofs.Composition.{Keeps, Stays-put, Stays-refl, Stays-more, Stays-trans, Same-put, Same-refl, Wears-failed}
use Rattle.envy_soundness.proofs.WordLists.{words-same}

-- the spare e is to be erased
pub record Erasing (c : Chart) (e : ℕ) : Type 0 where
  pub sound : IsSound c
  pub job : c.fields.job ≡ Some Erase
  pub spare : IsSpare c.shape c.fields.positions e

-- no kept row lies in it
not-spare : (c : Chart) (e p q : ℕ) → Erasing c e → Names c.fields p q → q / c.shape.rows ≢ e
not-spare c e p q can names same = at (Homes.kept (Sound.homes can.sound) p q names)
  where
    at : IsPlaced c.shape c.fields.positions (q / c.shape.rows) ⊎ ((v : ℕ) × (c.fields.job ≡ Some (Switch v)) × IsPlaced c.shape c.fields.positions v × IsSpare c.shape c.fields.positions (q / c.shape.rows)) → ⊥
    at (inl (i, lt, is)) = IsSpare.nowhere can.spare i (omega (arith, lt)) (is ∙ same)
    at (inr (v, switch, placed, spare)) = let erase = can.job in cc

no-switch : (c : Chart) (e v : ℕ) → Erasing c e → c.fields.job ≢ Some (Switch v)
no-switch c e v can switch = let erase = can.job in cc

-- the wear word: soundness says only how many there are
Keeps-worn : (c : Chart) (e n : ℕ) → IsSound c → Keeps c (with_wear e n c.fields)
Keeps-worn c e n s =
    let m = s.numbers in
    record {
      framed = record { shape = refl; magic = refl; version = refl; slots = refl; owners = λ p. refl };
      sound = record {
        head = s.head;
        slots = s.slots;
        places = s.places;
        rows = s.rows;
        numbers = record {
          wears_long = length-set c.fields.wears e n ∙ m.wears_long;
          fills_long = m.fills_long;
          fills_fit = m.fills_fit;
          positions_long = m.positions_long;
          positions_fit = m.positions_fit;
          apart = m.apart;
          backs_long = m.backs_long;
          backs_fit = m.backs_fit;
          origins_long = m.origins_long;
          origins_fit = m.origins_fit;
          frames_long = m.frames_long;
        };
        blanks = s.blanks;
        homes = s.homes;
        job = s.job;
      };
      live = refl;
      durable = refl;
    }

pub Stays-worn : (c new : Chart) (e n : ℕ) (r : Result Unit Off) → IsSound c → Writes (with_wear e n) c r new → Stays 0 0 c new
Stays-worn c new e n r sound writes = Stays-put c new (with_wear e n) r sound (λ on. Keeps-worn c e n sound) writes

-- the rows of the spare become others
Sound-erased : (c : Chart) (e : ℕ) (P : List ℕ → Type 0) (rows : List (List ℕ)) → Erasing c e → Only c.shape.rows e P c.flash rows → Sound c.shape c.fields rows
Sound-erased c e P rows can only =
    let s = can.sound in
    let j = s.job in
    record {
      head = s.head;
      slots = s.slots;
      places = s.places;
      rows = s.rows;
      numbers = s.numbers;
      blanks = record { above = λ q lt high. at q lt high (cases_eq (q / c.shape.rows) e); idle = Blanks.idle s.blanks };
      homes = s.homes;
      job = record { decodes = j.decodes; copying = j.copying; switching = j.switching; copies = λ v d switch placed spare. absurd (no-switch c e v can switch) };
    }
  where
    at : (q : ℕ) → q < c.shape.segments * c.shape.rows → get_or c.fields.fills (q / c.shape.rows) 0 ≤ q % c.shape.rows → (q / c.shape.rows ≡ e) ⊎ (q / c.shape.rows ≡ e → ⊥) → (get_or rows q [] ≡ ones) ⊎ ((c.fields.job ≡ Some Erase) × IsSpare c.shape c.fields.positions (q / c.shape.rows))
    at q lt high (inl same) = inr (can.job, subst (λ (t : ℕ). IsSpare c.shape c.fields.positions t) (sym same) can.spare)
    at q lt high (inr other) = rw (Only.others only q other) (Blanks.above (Sound.blanks can.sound) q lt high)

-- a page reads what it read where the row that it names is as it was
word_at-row : (frames : List ℕ) (old new : List (List ℕ)) (x : Option Place) (j : ℕ) → ((q : ℕ) → x ≡ Some (Row q) → get_or new q [] ≡ get_or old q []) → word_at frames new x j ≡ word_at frames old x j
word_at-row frames old new None j same = refl
word_at-row frames old new (Some Absent) j same = refl
word_at-row frames old new (Some (Frame k)) j same = refl
word_at-row frames old new (Some (Row q)) j same = ap (λ (row : List ℕ). get_or row j 0) (same q refl)

live-erased : (s : State) (e : ℕ) (P : List ℕ → Type 0) (rows : List (List ℕ)) → Erasing (chart s) e → Only s.shape.rows e P s.flash rows → live (chart (with_segment s e rows)) ≡ live (chart s)
live-erased s e P rows can only = words-same s.shape.pages _ _ (λ p j lt. word_at-row (chart s).fields.frames s.flash rows (place (chart s).fields p) j (λ q is. Only.others only q (not-spare (chart s) e p q can (inl is))))

durable-erased : (s : State) (e : ℕ) (P : List ℕ → Type 0) (rows : List (List ℕ)) → Erasing (chart s) e → Only s.shape.rows e P s.flash rows → durable (chart (with_segment s e rows)) ≡ durable (chart s)
durable-erased s e P rows can only = words-same s.shape.pages _ _ (λ p j lt. word_at-row (chart s).fields.frames s.flash rows (kept (chart s).fields p) j (λ q is. Only.others only q (not-spare (chart s) e p q can (inr is))))

-- an erase of the spare, however it ends
pub Stays-erase : (s new : State) (e : ℕ) (r : Result Unit Trouble) → Erasing (chart s) e → e < length s.erases → Erases s e r new → Stays 0 1 (chart s) (chart new)
Stays-erase s new e (Ok done) can long (on, rows, only, is) =
    subst (λ (x : State). Stays 0 1 (chart s) (chart x)) (sym is)
    (record { framed = record { shape = refl; magic = refl; version = refl; slots = refl; owners = λ p. refl }; sound = Sound-erased (chart s) e IsOnes rows can only; live = live-erased s e IsOnes rows can only; durable = durable-erased s e IsOnes rows can only; counted = Counted-erased s e rows long })
Stays-erase s new e (Err TroubleOff) can long (inl (off, is)) = subst (λ (x : State). Stays 0 1 (chart s) (chart x)) (sym is) (Stays-more 0 0 0 1 (chart s) (chart s) (omega arith) (omega arith) (Stays-refl (chart s) can.sound))
Stays-erase s new e (Err TroubleOff) can long (inr (on, rows, only, is)) =
    subst (λ (x : State). Stays 0 1 (chart s) (chart x)) (sym is)
    (record { framed = record { shape = refl; magic = refl; version = refl; slots = refl; owners = λ p. refl }; sound = Sound-erased (chart s) e IsPage rows can only; live = live-erased s e IsPage rows can only; durable = durable-erased s e IsPage rows can only; counted = Counted-erase_cut s e rows on long })
Stays-erase s new e (Err Bad) can long (on, rows, only, is) =
    subst (λ (x : State). Stays 0 1 (chart s) (chart x)) (sym is)
    (record { framed = record { shape = refl; magic = refl; version = refl; slots = refl; owners = λ p. refl }; sound = Sound-erased (chart s) e IsPage rows can only; live = live-erased s e IsPage rows can only; durable = durable-erased s e IsPage rows can only; counted = Counted-erase_bad s e rows long })

-- what an erase leaves alone, and what it raises, where power was on
pub record Began (e : ℕ) (old new : Chart) : Type 0 where
  pub shape : new.shape ≡ old.shape
  pub fields : new.fields ≡ old.fields
  pub erases : new.erases ≡ set old.erases e (up (get_or old.erases e 0))
  pub cuts : old.cuts ≤ new.cuts
  pub others : (q : ℕ) → q / old.shape.rows ≢ e → get_or new.flash q [] ≡ get_or old.flash q []

pub began : (s new : State) (e : ℕ) (r : Result Unit Trouble) → IsTrue s.on → Erases s e r new → Began e (chart s) (chart new)
began s new e (Ok done) on (was, rows, only, is) = subst (λ (x : State). Began e (chart s) (chart x)) (sym is) (record { shape = refl; fields = refl; erases = refl; cuts = omega arith; others = Only.others only })
began s new e (Err TroubleOff) on (inl (off, is)) = absurd (let no : IsTrue false = subst IsTrue off on in cc)
began s new e (Err TroubleOff) on (inr (was, rows, only, is)) = subst (λ (x : State). Began e (chart s) (chart x)) (sym is) (record { shape = refl; fields = refl; erases = refl; cuts = up-least s.cuts; others = Only.others only })
began s new e (Err Bad) on (was, rows, only, is) = subst (λ (x : State). Began e (chart s) (chart x)) (sym is) (record { shape = refl; fields = refl; erases = refl; cuts = omega arith; others = Only.others only })

-- the wear word and the segment's erases both rose, or power failed between them
Worn-both : (a b e f : ℕ) → e ≤ f → Worn a b e (up a) (up b) f
Worn-both a b e f cuts =
    let more = up-least a in
    let most = up-most a in
    let few = up-most b in
    record {
      rises = more;
      least = λ l. let x = up-below a l in omega arith;
      most = λ l m. let y = up-below b l in omega arith;
    }

Worn-between : (a b e : ℕ) → Worn a b e (up a) b (up e)
Worn-between a b e =
    let more = up-least a in
    let most = up-most a in
    record {
      rises = more;
      least = λ l. omega arith;
      most = λ l m. let y = up-below e m in omega arith;
    }

Worn-still : (a b e f : ℕ) → e ≤ f → Worn a b e a b f
Worn-still a b e f cuts = record { rises = omega arith; least = λ l. omega arith; most = λ l m. omega arith }

Wears-both : (c new : Chart) (e : ℕ) → e < length c.fields.wears → e < length c.erases → new.fields.wears ≡ set c.fields.wears e (up (get_or c.fields.wears e 0)) → new.erases ≡ set c.erases e (up (get_or c.erases e 0)) → c.cuts ≤ new.cuts → Wears c new
Wears-both c new e room long wears erases cuts s lt = at (cases_eq s e)
  where
    at : (s ≡ e) ⊎ (s ≡ e → ⊥) → Worn (get_or c.fields.wears s 0) (get_or c.erases s 0) c.cuts (get_or new.fields.wears s 0) (get_or new.erases s 0) new.cuts
    at (inl same) = rw (wears, erases, same, get_or-set_same c.fields.wears e (up (get_or c.fields.wears e 0)) 0 room, get_or-set_same c.erases e (up (get_or c.erases e 0)) 0 long) (Worn-both _ _ _ _ cuts)
    at (inr other) = rw (wears, erases, get_or-set_other c.fields.wears e s (up (get_or c.fields.wears e 0)) 0 other, get_or-set_other c.erases e s (up (get_or c.erases e 0)) 0 other) (Worn-still _ _ _ _ cuts)

Wears-between : (c new : Chart) (e : ℕ) → e < length c.fields.wears → new.fields.wears ≡ set c.fields.wears e (up (get_or c.fields.wears e 0)) → new.erases ≡ c.erases → new.cuts ≡ up c.cuts → Wears c new
Wears-between c new e room wears erases cuts s lt = at (cases_eq s e)
  where
    at : (s ≡ e) ⊎ (s ≡ e → ⊥) → Worn (get_or c.fields.wears s 0) (get_or c.erases s 0) c.cuts (get_or new.fields.wears s 0) (get_or new.erases s 0) new.cuts
    at (inl same) = rw (wears, erases, cuts, same, get_or-set_same c.fields.wears e (up (get_or c.fields.wears e 0)) 0 room) (Worn-between _ _ _)
    at (inr other) = rw (wears, erases, cuts, get_or-set_other c.fields.wears e s (up (get_or c.fields.wears e 0)) 0 other) (Worn-still _ _ _ _ (up-least c.cuts))

wears-room : (c : Chart) (e : ℕ) → IsSound c → e < c.shape.segments → e < length c.fields.wears
wears-room c e sound lt = rw (Numbers.wears_long (Sound.numbers sound)) lt

-- power was off, or failed in the write of the wear word: before the erase
pub Same-unbegun : (c new : Chart) (e : ℕ) (off : Off) → IsSound c → e < c.shape.segments → Writes (with_wear e (up (get_or c.fields.wears e 0))) c (Err off) new → Same 0 1 c new
Same-unbegun c new e off sound lt writes = record {
  stays = Stays-more 0 0 0 1 c new (omega arith) (omega arith) (Stays-worn c new e (up (get_or c.fields.wears e 0)) (Err off) sound writes);
  worn = at writes;
}
  where
    at : Writes (with_wear e (up (get_or c.fields.wears e 0))) c (Err off) new → Wears c new
    at (inl (off_then, is)) = Same.worn (subst (λ (x : Chart). Same 0 0 c x) (sym is) (Same-refl c sound))
    at (inr (on, f, inl same, is)) = subst (λ (x : Chart). Wears c x) (sym (is ∙ ap (λ (g : Fields). failed (with_fields c g)) same)) (Wears-failed c c.fields refl)
    at (inr (on, f, inr same, is)) = subst (λ (x : Chart). Wears c x) (sym (is ∙ ap (λ (g : Fields). failed (with_fields c g)) same)) (Wears-between c (failed (with_fields c (with_wear e (up (get_or c.fields.wears e 0)) c.fields))) e (wears-room c e sound lt) refl refl refl)

-- the map when the erase begins
abbrev pub Raised : Chart → ℕ → Chart
Raised c e = with_fields c (with_wear e (up (get_or c.fields.wears e 0)) c.fields)

-- the wear word is written, and then the spare is erased
pub record RaisedFirst (c : Chart) (a b : State) (e : ℕ) (r : Result Unit Trouble) : Type 0 where
  pub can : Erasing c e
  pub on : IsTrue c.on
  pub raised : chart a ≡ Raised c e
  pub long : length a.erases ≡ a.shape.segments
  pub erases : Erases a e r b

erasing-raised : (c : Chart) (a b : State) (e : ℕ) (r : Result Unit Trouble) → RaisedFirst c a b e r → Erasing (chart a) e
erasing-raised c a b e r all = subst (λ (x : Chart). Erasing x e) (sym all.raised) (record { sound = Keeps.sound (Keeps-worn c e (up (get_or c.fields.wears e 0)) (Erasing.sound all.can)); job = Erasing.job all.can; spare = Erasing.spare all.can })

began-raised : (c : Chart) (a b : State) (e : ℕ) (r : Result Unit Trouble) → RaisedFirst c a b e r → Began e (Raised c e) (chart b)
began-raised c a b e r all = subst (λ (x : Chart). Began e x (chart b)) all.raised (began a b e r (subst (λ (x : Chart). IsTrue x.on) (sym all.raised) all.on) all.erases)

raised-long : (c : Chart) (a b : State) (e : ℕ) (r : Result Unit Trouble) → RaisedFirst c a b e r → length c.erases ≡ c.shape.segments
raised-long c a b e r all = subst (λ (x : Chart). length x.erases ≡ x.shape.segments) all.raised all.long

pub Same-raised : (c : Chart) (a b : State) (e : ℕ) (r : Result Unit Trouble) → RaisedFirst c a b e r → Same 0 1 c (chart b)
Same-raised c a b e r all =
    let lt = IsSpare.segment (Erasing.spare all.can) in
    let done = began-raised c a b e r all in
    let here = erasing-raised c a b e r all in
    record {
      stays = Stays-trans 0 0 0 1 c (chart a) (chart b)
          (Stays-worn c (chart a) e (up (get_or c.fields.wears e 0)) (Ok tt) (Erasing.sound all.can) (all.on, all.raised))
          (Stays-erase a b e r here (let there = IsSpare.segment (Erasing.spare here) in let long = all.long in omega arith) all.erases);
      worn = Wears-both c (chart b) e (wears-room c e (Erasing.sound all.can) lt) (let long = raised-long c a b e r all in omega arith) (ap (λ (f : Fields). f.wears) done.fields) done.erases done.cuts;
    }

-- the fill of the spare changes, whatever its rows hold
Keeps-refilled : (c : Chart) (e n : ℕ) → Erasing c e → n ≤ c.shape.rows → Keeps c (with_fill e n c.fields)
Keeps-refilled c e n can fit =
    let s = can.sound in
    let m = s.numbers in
    let j = s.job in
    record {
      framed = record { shape = refl; magic = refl; version = refl; slots = refl; owners = λ p. refl };
      sound = record {
        head = s.head;
        slots = s.slots;
        places = s.places;
        rows = record {
          apart = Rows.apart s.rows;
          filled = λ p q names. rw (get_or-set_other c.fields.fills e (q / c.shape.rows) n 0 (not-spare c e p q can names)) (Rows.filled s.rows p q names);
          claimed = Rows.claimed s.rows;
        };
        numbers = record {
          wears_long = m.wears_long;
          fills_long = length-set c.fields.fills e n ∙ m.fills_long;
          fills_fit = λ t. fits t (cases_eq t e);
          positions_long = m.positions_long;
          positions_fit = m.positions_fit;
          apart = m.apart;
          backs_long = m.backs_long;
          backs_fit = m.backs_fit;
          origins_long = m.origins_long;
          origins_fit = m.origins_fit;
          frames_long = m.frames_long;
        };
        blanks = record {
          above = λ q lt high. blank q lt high (cases_eq (q / c.shape.rows) e);
          idle = λ d idle spare. absurd (let erase = can.job in let clash : Some Idle ≡ Some Erase = sym idle ∙ erase in cc);
        };
        homes = s.homes;
        job = record { decodes = j.decodes; copying = j.copying; switching = j.switching; copies = λ v d switch placed spare. absurd (no-switch c e v can switch) };
      };
      live = refl;
      durable = refl;
    }
  where
    room : e < length c.fields.fills
    room = rw (Numbers.fills_long (Sound.numbers can.sound)) (IsSpare.segment can.spare)

    fits : (t : ℕ) → (t ≡ e) ⊎ (t ≡ e → ⊥) → get_or (set c.fields.fills e n) t 0 ≤ c.shape.rows
    fits t (inl same) = rw (same, get_or-set_same c.fields.fills e n 0 room) fit
    fits t (inr other) = rw (get_or-set_other c.fields.fills e t n 0 other) (Numbers.fills_fit (Sound.numbers can.sound) t)

    blank : (q : ℕ) → q < c.shape.segments * c.shape.rows → get_or (set c.fields.fills e n) (q / c.shape.rows) 0 ≤ q % c.shape.rows → (q / c.shape.rows ≡ e) ⊎ (q / c.shape.rows ≡ e → ⊥) → (get_or c.flash q [] ≡ ones) ⊎ ((c.fields.job ≡ Some Erase) × IsSpare c.shape c.fields.positions (q / c.shape.rows))
    blank q lt high (inl same) = inr (can.job, subst (λ (t : ℕ). IsSpare c.shape c.fields.positions t) (sym same) can.spare)
    blank q lt high (inr other) = Blanks.above (Sound.blanks can.sound) q lt (rw (get_or-set_other c.fields.fills e (q / c.shape.rows) n 0 other) at high)

pub Same-refilled : (c new : Chart) (e n : ℕ) (r : Result Unit Off) → IsSound c → n ≤ c.shape.rows → (IsTrue c.on → c.fields.job ≡ Some Erase) → (IsTrue c.on → IsSpare c.shape c.fields.positions e) → Writes (with_fill e n) c r new → Same 0 0 c new
Same-refilled c new e n r sound fit job spare writes = Same-put c new (with_fill e n) r sound (λ on. Keeps-refilled c e n (record { sound = sound; job = job on; spare = spare on }) fit) refl writes

-- what ends the job: an erased spare, emptied
pub IsBlankSpare-emptied : (sh : Shape) (f : Fields) (old flash : List (List ℕ)) (e : ℕ) → IsSpare sh f.positions e → e < length f.fills → length old ≡ sh.segments * sh.rows → Only sh.rows e IsOnes old flash → IsBlankSpare sh (with_fill e 0 f) flash e
IsBlankSpare-emptied sh f old flash e spare room long only = record {
  spare = spare;
  fill = get_or-set_same f.fills e 0 0 room;
  rows = λ q lt same. Only.inside only q (rw long lt) same;
}

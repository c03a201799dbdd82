-- A page that comes into a frame.
use Rattle.std.proofs.Common.{◌≡◌, ℕ, ◌-◌, ◌*◌, ◌/◌, ◌<◌, List, [], ◌∷◌, ◌++◌, length, get_or, set, Option, None, Some, refl, sym, ◌∙◌, ap, subst}
use Rattle.std.specs.Prelude.{IsTrue}
use Rattle.envy_base.specs.declared.shape.Shape.{Shape}
use Rattle.envy_base.specs.declared.fields.Place.{Place}
use Rattle.envy_base.specs.declared.fields.Place.TheVariants.{Absent, Row, Frame}
use Rattle.envy_map.specs.Fields.{Fields, Chart, with_fields, place, undo}
use Rattle.envy_map.specs.Writes.{with_frame, with_place, with_undo}
use Rattle.envy_frames.specs.Agreement.{AreHeld, IsElsewhere}
use Rattle.envy_frames.specs.Order.{IsUnheld, Order}
use Rattle.envy_frames.proofs.Agreeing.{AreHeld-taken}
use Rattle.envy_soundness.specs.May.{IsUnnamed}
use Rattle.envy_soundness.specs.Sound.{Sound, Places, IsSound}
use Rattle.envy_soundness.proofs.KeptLemmas.{kept_by-shadow}
use Rattle.envy_space.specs.Pool.{Pool, PoolAgrees}
use Rattle.envy_table.specs.Agreement.{AreCurrent}
use Rattle.envy_table.specs.Entries.{Translations}
use Rattle.envy_engine.specs.Agreement.{Agrees, PartsAgree, Fits, Ready}
use Rattle.envy_soundness.specs.Naming.{AreParted}
use Rattle.envy_reloc.specs.Plan.{IsPlanOf}
use Rattle.std.proofs.lemmas.List.{get_or-set_same, get_or-set_other}
use Rattle.envy_base.specs.declared.fields.Undo.{Undo}
use Rattle.envy_engine.specs.Putting.{undo_for}
use Rattle.envy_engine.specs.Storing.{Brings, IsHome, IsNotable, left_pool, Near}
use Rattle.envy_engine.specs.declared.parts.Parts.{Parts}
use Rattle.envy_engine.proofs.AgreeLemmas.{Fits-moved, sizes_of}
use Rattle.envy_engine.proofs.JobLemmas.{IsPlanOf-framed, IsPlanOf-words, AreParted-framed}
use Rattle.envy_space.specs.Noting.{Leaving}
use Rattle.envy_space.proofs.PlaceLemmas.{PoolAgrees-left, PoolAgrees-absent}
use Rattle.envy_base.specs.Shape.{positions_of}

pub room-near : (c : Chart) (x : Parts) (p k : ℕ) (from : Place) → Near c x p k from → p < length c.fields.places
room-near c x p k from n = rw (Places.long (Sound.places n.sound)) n.page

leaving-near : (c : Chart) (x : Parts) (p k q : ℕ) → Near c x p k (Row q) → Leaving c.shape c.fields x.space p q
leaving-near c x p k q n = record {
  agrees = n.pool;
  page = n.page;
  room = room-near c x p k (Row q) n;
  range = Places.rows (Sound.places n.sound) p q n.here;
  here = n.here;
  apart = λ owned is. let shadow = kept_by-shadow c.fields.slots (undo c.fields p) (place c.fields p) q owned is in n.two p shadow.0 q shadow.1 shadow.2 n.here;
}

pub Notable-near : (c : Chart) (x : Parts) (p k : ℕ) (from : Place) → Near c x p k from → IsNotable x.space from
Notable-near c x p k Absent n = tt
Notable-near c x p k (Frame j) n = tt
Notable-near c x p k (Row q) n =
    let shape = Fits.pool n.fits in
    let l = leaving-near c x p k q n in
    let some = PoolAgrees-left c.shape c.fields x.space p q k l in
    (subst (λ (sh : Shape). q < sh.segments * sh.rows) (sym shape) l.range, subst (λ (sh : Shape). 0 < get_or x.space.kept (q / sh.rows) 0) (sym shape) some.0)

pool-near : (c : Chart) (x : Parts) (p k : ℕ) (from : Place) → Near c x p k from → PoolAgrees c.shape (with_place p (Some (Frame k)) c.fields) (left_pool from x.space)
pool-near c x p k Absent n = PoolAgrees-absent c.shape c.fields x.space p k n.pool n.page (room-near c x p k Absent n) n.here
pool-near c x p k (Frame j) n = absurd (n.elsewhere j refl)
pool-near c x p k (Row q) n = (PoolAgrees-left c.shape c.fields x.space p q k (leaving-near c x p k q n)).1

pub Agrees-near : (c new : Chart) (x y : Parts) (p k : ℕ) (from : Place) → Near c x p k from → new ≡ with_fields c (with_place p (Some (Frame k)) c.fields) → y.space ≡ left_pool from x.space → AreCurrent c.shape.pages (set c.fields.places p (Some (Frame k))) y.cache.entries → y.frames ≡ x.frames → y.reloc ≡ x.reloc → PartsAgree new y
Agrees-near c new x y p k from n is space current frames task =
    let made : Agrees c.shape (with_place p (Some (Frame k)) c.fields) c.flash y = record {
      pool = rw space (pool-near c x p k from n);
      held = rw frames n.held;
      current = current;
      job = rw task (IsPlanOf-framed c.shape c.fields c.flash x.reloc p k (room-near c x p k from n) n.job);
      two = AreParted-framed c.fields p k (room-near c x p k from n) n.two;
    } in
    subst (λ (z : Chart). PartsAgree z y) (sym is) made

pub left-shape : (from : Place) (pool : Pool) → (left_pool from pool).shape ≡ pool.shape
left-shape Absent pool = refl
left-shape (Frame k) pool = refl
left-shape (Row q) pool = refl

pub Fits-near : (c new : Chart) (x y : Parts) (p k : ℕ) (from : Place) → Near c x p k from → new ≡ with_fields c (with_place p (Some (Frame k)) c.fields) → y.space ≡ left_pool from x.space → length y.cache.entries ≡ length x.cache.entries → y.frames ≡ x.frames → y.chooser ≡ x.chooser → y.stages ≡ x.stages → Fits new.shape y
Fits-near c new x y p k from n is space entries frames chooser stages =
    Fits-moved c.shape new.shape x y (ap (λ (z : Chart). z.shape) is) n.fits (ap (λ (z : Pool). z.shape) space ∙ left-shape from x.space) (ap (λ (o : Order). o.count) frames) entries (ap sizes_of chooser) stages

-- a frame was taken for the page and filled
pub Near-filled : (c new : Chart) (x y : Parts) (p k home : ℕ) (from : Place) (ws : List ℕ) → Ready c x → IsTrue new.on → IsSound new → new ≡ with_fields c (with_frame k ws 32 c.fields) → p < c.shape.pages → k < c.shape.frames → home < positions_of c.shape → place c.fields p ≡ Some from → IsElsewhere (Some from) → IsUnnamed new.fields k → IsUnheld x.frames.held k → y.frames.held ≡ x.frames.held ++ (record { frame = k; page = p; home = home }) ∷ [] → y.frames.count ≡ x.frames.count → y ≡ record x { frames = y.frames } → Near new y p k from
Near-filled c new x y p k home from ws r on sound is page frame position here elsewhere unnamed unheld held count parts =
    let shape : new.shape ≡ c.shape = ap (λ (z : Chart). z.shape) is in
    let space : y.space ≡ x.space = ap (λ (z : Parts). z.space) parts in
    let cache : y.cache ≡ x.cache = ap (λ (z : Parts). z.cache) parts in
    let task : y.reloc ≡ x.reloc = ap (λ (z : Parts). z.reloc) parts in
    let a = r.agrees in
    let there : IsElsewhere (place c.fields p) = λ j e. elsewhere j (sym here ∙ e) in
    let holds : AreHeld c.shape (set c.fields.places p (Some (Frame k))) y.frames.held = rw held (AreHeld-taken c.shape c.fields.places x.frames.held p k home a.held (Places.long (Sound.places r.sound)) page position there unheld) in
    record {
      on = on;
      sound = sound;
      fits = Fits-moved c.shape new.shape x y shape r.fits (ap (λ (z : Pool). z.shape) space) count (ap (λ (z : Translations). length z.entries) cache) (ap (λ (z : Parts). sizes_of z.chooser) parts) (ap (λ (z : Parts). z.stages) parts);
      page = rw shape page;
      frame = rw shape frame;
      here = subst (λ (z : Chart). place z.fields p ≡ Some from) (sym is) here;
      elsewhere = elsewhere;
      unnamed = unnamed;
      pool = subst (λ (z : Chart). PoolAgrees z.shape z.fields y.space) (sym is) (rw space a.pool);
      held = subst (λ (z : Chart). AreHeld z.shape (set z.fields.places p (Some (Frame k))) y.frames.held) (sym is) holds;
      current = subst (λ (z : Chart). AreCurrent z.shape.pages z.fields.places y.cache.entries) (sym is) (rw cache a.current);
      job = subst (λ (z : Chart). IsPlanOf z.shape z.fields z.flash y.reloc) (sym is) (rw task (IsPlanOf-words c.shape c.fields c.flash x.reloc (Fields.frames (with_frame k ws 32 c.fields)) a.job));
      two = subst (λ (z : Chart). AreParted z.fields.slots z.fields.undos z.fields.places) (sym is) a.two;
    }

-- the page came into the frame that was taken for it and filled; undos may be others
Brings-into : (old mid new : Chart) (x y z : Parts) (p k home : ℕ) (from : Place) (ws : List ℕ) (us : List (Option Undo)) → place old.fields p ≡ Some from → IsUnheld x.frames.held k → IsHome old.shape old.fields p from home → y.frames.held ≡ x.frames.held ++ (record { frame = k; page = p; home = home }) ∷ [] → p < length old.fields.places → new ≡ with_fields old (record old.fields { frames = ws; places = set old.fields.places p (Some (Frame k)); undos = us }) → y ≡ record x { frames = y.frames } → z ≡ record y { space = z.space; cache = z.cache } → (b : Brings p old x new z) × (b.from ≡ from)
Brings-into old mid new x y z p k home from ws us here unheld homed held lt is taken followed = (
  record {
    from = from;
    here = here;
    frame = k;
    home = home;
    unheld = unheld;
    homed = homed;
    held = ap (λ (w : Parts). w.frames.held) followed ∙ held;
    there = ap (λ (c : Chart). place c.fields p) is ∙ get_or-set_same old.fields.places p (Some (Frame k)) None lt;
    others = λ r other. ap (λ (c : Chart). place c.fields r) is ∙ get_or-set_other old.fields.places p r (Some (Frame k)) None other;
    rows = record { job = ap (λ (c : Chart). c.fields.job) is; fills = ap (λ (c : Chart). c.fields.fills) is; positions = ap (λ (c : Chart). c.fields.positions) is; wears = ap (λ (c : Chart). c.fields.wears) is; erases = ap (λ (c : Chart). c.erases) is };
    parts = parts-moved x y z taken followed;
  },
  refl,
)
  where
    parts-moved : (x y z : Parts) → y ≡ record x { frames = y.frames } → z ≡ record y { space = z.space; cache = z.cache } → z ≡ record x { frames = z.frames; space = z.space; cache = z.cache }
    parts-moved x y z a b =
        let c : z ≡ record x { frames = y.frames; space = z.space; cache = z.cache } = b ∙ ap (λ (w : Parts). record w { space = z.space; cache = z.cache }) a in
        c ∙ ap (λ (o : Order). record x { frames = o; space = z.space; cache = z.cache }) (sym (ap (λ (w : Parts). w.frames) b))

pub Brings-moved : (old mid new : Chart) (x y z : Parts) (p k home : ℕ) (from : Place) (ws : List ℕ) → place old.fields p ≡ Some from → IsUnheld x.frames.held k → IsHome old.shape old.fields p from home → y.frames.held ≡ x.frames.held ++ (record { frame = k; page = p; home = home }) ∷ [] → mid ≡ with_fields old (with_frame k ws 32 old.fields) → p < length old.fields.places → new ≡ with_fields mid (with_place p (Some (Frame k)) mid.fields) → y ≡ record x { frames = y.frames } → z ≡ record y { space = z.space; cache = z.cache } → Brings p old x new z
Brings-moved old mid new x y z p k home from ws here unheld homed held filled lt moved taken followed =
    let is : new ≡ with_fields old (with_place p (Some (Frame k)) (with_frame k ws 32 old.fields)) = subst (λ (c : Chart). new ≡ with_fields c (with_place p (Some (Frame k)) c.fields)) filled moved in
    (Brings-into old mid new x y z p k home from (Fields.frames (with_frame k ws 32 old.fields)) old.fields.undos here unheld homed held lt is taken followed).0

-- and the page's undo names what it left
pub Brings-shaded : (old mid new : Chart) (x y z : Parts) (p k home t : ℕ) (from : Place) (ws : List ℕ) → place old.fields p ≡ Some from → IsUnheld x.frames.held k → IsHome old.shape old.fields p from home → y.frames.held ≡ x.frames.held ++ (record { frame = k; page = p; home = home }) ∷ [] → mid ≡ with_fields old (with_frame k ws 32 old.fields) → p < length old.fields.places → p < length old.fields.undos → new ≡ with_fields mid (with_place p (Some (Frame k)) (with_undo p (undo_for t from) mid.fields)) → y ≡ record x { frames = y.frames } → z ≡ record y { cache = z.cache } → (b : Brings p old x new z) × (undo new.fields p ≡ undo_for t b.from)
Brings-shaded old mid new x y z p k home t from ws here unheld homed held filled lt low moved taken followed =
    let is : new ≡ with_fields old (with_place p (Some (Frame k)) (with_undo p (undo_for t from) (with_frame k ws 32 old.fields))) = subst (λ (c : Chart). new ≡ with_fields c (with_place p (Some (Frame k)) (with_undo p (undo_for t from) c.fields))) filled moved in
    let space : y.space ≡ z.space = sym (ap (λ (w : Parts). w.space) followed) in
    let b = Brings-into old mid new x y z p k home from (Fields.frames (with_frame k ws 32 old.fields)) (set old.fields.undos p (undo_for t from)) here unheld homed held lt is taken (followed ∙ ap (λ (s : Pool). record y { space = s; cache = z.cache }) space) in
    (b.0, ap (λ (c : Chart). undo c.fields p) is ∙ get_or-set_same old.fields.undos p (undo_for t from) None low ∙ ap (undo_for t) (sym b.1))

-- The parts agree with the board again after each kind of change.
use Rattle.std.proofs.Common.{◌≡◌, ◌≢◌, ℕ, ◌+◌, ◌-◌, ◌/◌, ◌%◌, ◌<◌, List, [], length, get_or, set, Option, Some, refl, sym, ◌∙◌, ap, subst, arith, drop}
use Rattle.std.proofs.lemmas.List.{length-drop}
use Rattle.std.specs.Prelude.{All, Bool, true, false, map, ◌==◌, if◌then◌else◌}
use Rattle.std.specs.List.{filter}
use Rattle.envy_base.specs.declared.shape.Shape.{Shape}
use Rattle.envy_base.specs.declared.fields.Job.{Job}
use Rattle.envy_base.specs.declared.fields.Place.TheVariants.{Row, Frame}
use Rattle.envy_map.specs.Fields.{Fields, Chart, with_fields, place}
use Rattle.envy_map.specs.Writes.{with_back, with_fill, with_job, with_place}
use Rattle.envy_frames.specs.Agreement.{AreHeld}
use Rattle.envy_frames.specs.Order.{is_other}
use Rattle.envy_frames.proofs.Agreeing.{AreHeld-given, AreHeld-stay}
use Rattle.std.proofs.lemmas.List.Elements.{All-nil}
use Rattle.envy_soundness.specs.Sound.{Sound, IsSound, Numbers, IsPlaced}
use Rattle.std.specs.Option.{option_map}
use Rattle.envy_policy.specs.History.{History, claimed, warmed}
use Rattle.envy_policy.specs.Notes.{noted_flush}
use Rattle.envy_space.specs.Pool.{Pool, PoolAgrees, Claims, Claimed, noted_kept}
use Rattle.envy_table.specs.Agreement.{AreCurrent}
use Rattle.envy_engine.specs.Agreement.{Agrees, PartsAgree, Fits, AreStages}
use Rattle.envy_reloc.specs.Plan.{IsFreeOf}
use Rattle.envy_engine.specs.Flushing.{Granted, IsLastAt}
use Rattle.std.proofs.lemmas.List.{get_or-set_same}
use Rattle.envy_soundness.proofs.References.{row-of}
use Rattle.envy_soundness.specs.Frames.{FramesStay}
use Rattle.envy_soundness.specs.Naming.{AreParted}
use Rattle.envy_reloc.specs.Plan.{IsPlanOf}
use Rattle.envy_engine.specs.declared.parts.Parts.{Parts}
use Rattle.envy_engine.proofs.JobLemmas.{IsPlanOf-claimed, IsPlanOf-programmed, IsPlanOf-rowed, AreParted-rowed}
use Rattle.envy_space.specs.Noting.{Rowed}
use Rattle.envy_space.proofs.PlaceLemmas.{PoolAgrees-rowed}
use Rattle.envy_base.specs.Shape.{positions_of}

-- the pages and positions of a chooser
abbrev pub sizes_of : History → ℕ × ℕ
sizes_of h = (h.pages, h.positions)

-- the sizes of parts stay
pub Fits-moved : (sh sh2 : Shape) (x y : Parts) → sh2 ≡ sh → Fits sh x → y.space.shape ≡ x.space.shape → y.frames.count ≡ x.frames.count → length y.cache.entries ≡ length x.cache.entries → sizes_of y.chooser ≡ sizes_of x.chooser → y.stages ≡ x.stages → Fits sh2 y
Fits-moved sh sh2 x y shape fits space frames cache chooser stages = rw shape (record {
  pool = space ∙ fits.pool;
  frames = frames ∙ fits.frames;
  entries = cache ∙ fits.entries;
  positions = ap (λ (z : ℕ × ℕ). z.1) chooser ∙ fits.positions;
  pages = ap (λ (z : ℕ × ℕ). z.0) chooser ∙ fits.pages;
  stages = rw stages fits.stages;
})

-- and the stages are others
pub Fits-staged : (sh : Shape) (x y : Parts) → Fits sh x → AreStages sh y.stages → y.space.shape ≡ x.space.shape → y.frames.count ≡ x.frames.count → length y.cache.entries ≡ length x.cache.entries → sizes_of y.chooser ≡ sizes_of x.chooser → Fits sh y
Fits-staged sh x y fits stages space frames cache chooser = record {
  pool = space ∙ fits.pool;
  frames = frames ∙ fits.frames;
  entries = cache ∙ fits.entries;
  positions = ap (λ (z : ℕ × ℕ). z.1) chooser ∙ fits.positions;
  pages = ap (λ (z : ℕ × ℕ). z.0) chooser ∙ fits.pages;
  stages = stages;
}

-- one stage fewer is left
pub Fits-next : (sh sh2 : Shape) (x y : Parts) → sh2 ≡ sh → Fits sh x → y.stages ≡ drop 1 x.stages → All (λ k. k < positions_of sh) y.stages → y.space.shape ≡ x.space.shape → y.frames.count ≡ x.frames.count → length y.cache.entries ≡ length x.cache.entries → sizes_of y.chooser ≡ sizes_of x.chooser → Fits sh2 y
Fits-next sh sh2 x y shape fits rest within space frames cache chooser =
    let few = AreStages.few (Fits.stages fits) in
    let less = length-drop 1 x.stages in
    let long : length y.stages ≡ length (drop 1 x.stages) = ap (λ (xs : List ℕ). length xs) rest in
    rw shape (Fits-staged sh x y fits (record { within = within; few = omega arith }) space frames cache chooser)

pub no-stages : (sh : Shape) (stages : List ℕ) → stages ≡ [] → AreStages sh stages
no-stages sh stages none = rw none (record { within = All-nil (λ k. k < positions_of sh); few = omega arith })

pub claimed-sizes : (h : History) (k page : ℕ) → sizes_of (claimed h k page) ≡ sizes_of h
claimed-sizes h k page = at ((warmed h k).flushes == 1024)
  where
    at : (b : Bool) → sizes_of (record (if b then record (warmed h k) { heats = map (λ x. x / 2) (warmed h k).heats; flushes = 0 } else warmed h k) { lives = option_map (noted_flush k page) h.lives }) ≡ sizes_of h
    at true = refl
    at false = refl

-- a row was claimed
pub Agrees-claimed : (c new : Chart) (x y : Parts) (s q p : ℕ) → IsSound c → PartsAgree c x → IsPlaced c.shape c.fields.positions s → IsFreeOf c.fields.job s → Claims c s p q new → Claimed new s p q → PoolAgrees new.shape new.fields y.space → y.frames ≡ x.frames → y.cache ≡ x.cache → y.reloc ≡ x.reloc → PartsAgree new y
Agrees-claimed c new x y s q p sound a placed free claims claimed pool frames cache task =
    let n = get_or c.fields.fills s 0 + 1 in
    let f : Fields = with_fill s n (with_back q p c.fields) in
    let here : q / c.shape.rows ≡ s = subst (λ (z : Chart). q / z.shape.rows ≡ s) claims.fields claimed.segment in
    let pools : PoolAgrees c.shape f y.space = subst (λ (z : Chart). PoolAgrees z.shape z.fields y.space) claims.fields pool in
    let made : Agrees c.shape f c.flash y = rw (frames, cache, task) (record {
      pool = pools;
      held = a.held;
      current = a.current;
      job = IsPlanOf-claimed c.shape c.fields c.flash x.reloc s q p n sound placed free here a.job;
      two = a.two;
    }) in
    subst (λ (z : Chart). PartsAgree z y) (sym claims.fields) made

-- it is the last at its position
pub IsLastAt-claimed : (c new : Chart) (pool : Pool) (k q p : ℕ) → IsSound c → PoolAgrees c.shape c.fields pool → k < positions_of c.shape → get_or c.fields.fills (get_or pool.positions k 0) 0 < c.shape.rows → Claims c (get_or pool.positions k 0) p q new → IsLastAt new k q
IsLastAt-claimed c new pool k q p sound agrees low room claims =
    let s = get_or pool.positions k 0 in
    let n = get_or c.fields.fills s 0 in
    let order : get_or c.fields.positions k 0 ≡ s = ap (λ (xs : List ℕ). get_or xs k 0) (sym agrees.positions) in
    let at = row-of c.shape.rows s n room in
    let fits : s < c.shape.segments = rw (← order) (Numbers.positions_fit (Sound.numbers sound) k (omega (arith, low))) in
    let long = Numbers.fills_long (Sound.numbers sound) in
    subst (λ (z : Chart). IsLastAt z k q) (sym claims.fields) (record {
      segment = ap (λ (x : ℕ). x / c.shape.rows) claims.row ∙ at.0 ∙ sym order;
      last =
          ap (λ (x : ℕ). x % c.shape.rows + 1) claims.row ∙ ap (λ (x : ℕ). x + 1) at.1
          ∙ sym (get_or-set_same c.fields.fills s (n + 1) 0 (omega arith))
          ∙ ap (λ (x : ℕ). get_or (set c.fields.fills s (n + 1)) x 0) (sym order);
    })

-- the row that was claimed
pub Granted-claimed : (c new : Chart) (s q p : ℕ) → IsPlaced c.shape c.fields.positions s → IsFreeOf c.fields.job s → Claims c s p q new → Claimed new s p q → Granted new.shape new.fields p q
Granted-claimed c new s q p placed free claims claimed = record {
  range = claimed.range;
  filled = claimed.filled;
  claimed = claimed.claimed;
  unnamed = claimed.unnamed;
  placed = rw claimed.segment (subst (λ (z : Chart). IsPlaced z.shape z.fields.positions s) (sym claims.fields) placed);
  free = rw claimed.segment (subst (λ (z : Chart). IsFreeOf z.fields.job s) (sym claims.fields) free);
}

-- it was programmed
pub Agrees-programmed : (c new : Chart) (x y : Parts) (p q : ℕ) → IsSound c → PartsAgree c x → Granted c.shape c.fields p q → new.shape ≡ c.shape → new.fields ≡ c.fields → ((r : ℕ) → r ≢ q → get_or new.flash r [] ≡ get_or c.flash r []) → y.space ≡ x.space → y.frames ≡ x.frames → y.cache ≡ x.cache → y.reloc ≡ x.reloc → PartsAgree new y
Agrees-programmed c new x y p q sound a g shape fields others space frames cache task =
    let made : Agrees c.shape c.fields new.flash y = rw (space, frames, cache, task) (record {
      pool = a.pool;
      held = a.held;
      current = a.current;
      job = IsPlanOf-programmed c.shape c.fields c.flash new.flash x.reloc (q / c.shape.rows) q sound g.placed g.free refl others a.job;
      two = a.two;
    }) in
    subst (λ (sh : Shape). Agrees sh new.fields new.flash y) (sym shape) (subst (λ (f : Fields). Agrees c.shape f new.flash y) (sym fields) made)

-- the page that it was claimed for goes from its frame to it
pub Rowed-granted : (sh : Shape) (f : Fields) (flash : List (List ℕ)) (x : Parts) (p k q : ℕ) → Agrees sh f flash x → length f.places ≡ sh.pages → p < sh.pages → place f p ≡ Some (Frame k) → Granted sh f p q → Rowed sh f x.space p q
Rowed-granted sh f flash x p k q a long lt here g = record {
  agrees = a.pool;
  page = lt;
  room = rw long lt;
  range = g.range;
  elsewhere = λ r is. let no : Some (Frame k) ≡ Some (Row r) = sym here ∙ is in cc;
  fresh = g.unnamed p;
}

pub Agrees-rowed : (c new : Chart) (x y : Parts) (p k q : ℕ) → PartsAgree c x → length c.fields.places ≡ c.shape.pages → p < c.shape.pages → place c.fields p ≡ Some (Frame k) → Granted c.shape c.fields p q → new ≡ with_fields c (with_place p (Some (Row q)) c.fields) → y.space ≡ noted_kept q x.space → AreCurrent c.shape.pages (set c.fields.places p (Some (Row q))) y.cache.entries → y.frames.held ≡ filter (is_other k) x.frames.held → y.reloc ≡ x.reloc → PartsAgree new y
Agrees-rowed c new x y p k q a long lt here g is space current held task =
    let rowed = Rowed-granted c.shape c.fields c.flash x p k q a long lt here g in
    let made : Agrees c.shape (with_place p (Some (Row q)) c.fields) c.flash y = record {
      pool = rw space (PoolAgrees-rowed c.shape c.fields x.space p q rowed);
      held = rw held (AreHeld-given c.shape c.fields.places x.frames.held p k (Some (Row q)) a.held here (λ j e. let no : Some (Row q) ≡ Some (Frame j) = e in cc));
      current = current;
      job = rw task (IsPlanOf-rowed c.shape c.fields c.flash x.reloc (q / c.shape.rows) q p (rw long lt) g.free refl a.job);
      two = AreParted-rowed c.fields p q (rw long lt) (g.unnamed p) a.two;
    } in
    subst (λ (z : Chart). PartsAgree z y) (sym is) made

-- a relocation began
pub Agrees-begun : (c new : Chart) (x y : Parts) (j : Option Job) → PartsAgree c x → new ≡ with_fields c (with_job j c.fields) → IsPlanOf new.shape new.fields new.flash y.reloc → y.space ≡ x.space → y.frames ≡ x.frames → y.cache ≡ x.cache → PartsAgree new y
Agrees-begun c new x y j a is plan space frames cache = record {
  pool = rw space (subst (λ (z : Chart). PoolAgrees z.shape z.fields x.space) (sym is) a.pool);
  held = rw frames (subst (λ (z : Chart). AreHeld z.shape z.fields.places x.frames.held) (sym is) a.held);
  current = rw cache (subst (λ (z : Chart). AreCurrent z.shape.pages z.fields.places x.cache.entries) (sym is) a.current);
  job = plan;
  two = subst (λ (z : Chart). AreParted z.fields.slots z.fields.undos z.fields.places) (sym is) a.two;
}

-- a step of a relocation was made
pub Agrees-stepped : (c new : Chart) (x y : Parts) → PartsAgree c x → new.shape ≡ c.shape → PoolAgrees new.shape new.fields y.space → AreCurrent new.shape.pages new.fields.places y.cache.entries → IsPlanOf new.shape new.fields new.flash y.reloc → AreParted new.fields.slots new.fields.undos new.fields.places → FramesStay c.fields.places new.fields.places → y.frames ≡ x.frames → PartsAgree new y
Agrees-stepped c new x y a shape pool current plan parted stay frames = record {
  pool = pool;
  held = rw frames (subst (λ (sh : Shape). AreHeld sh new.fields.places x.frames.held) (sym shape) (AreHeld-stay c.shape c.fields.places new.fields.places x.frames.held stay a.held));
  current = current;
  job = plan;
  two = parted;
}

-- What a step says of power, counts and words composes, and each single put says it where its law does.
use Rattle.std.proofs.Common.{◌≡◌, inl, inr, ℕ, ◌+◌, ◌-◌, ◌^◌, ◌<◌, ◌≤◌, Bool, false, List, get_or, refl, sym, ◌∙◌, ap, subst, arith}
use Rattle.std.specs.Prelude.{IsTrue, Result, Ok, Err, MatchResult}
use Rattle.envy_base.specs.declared.board.Off.{Off}
use Rattle.envy_base.specs.Counting.{up}
use Rattle.envy_base.proofs.Counting.{up-least, up-rises}
use Rattle.envy_map.specs.Fields.{Fields, Chart, failed, with_fields}
use Rattle.envy_map.specs.Writes.{Writes}
use Rattle.envy_soundness.specs.Sound.{IsSound}
use Rattle.envy_soundness.specs.Words.{live, durable}
use Rattle.envy_soundness.specs.Same.{Powers, Grows, Counted, Worn, Wears, Framed, Stays, Same, Kept, SameWords, SameDurable, Dropped, Commits}

pub Powers-trans : (a b c : Bool) (i j k : ℕ) → Powers a i b j → Powers b j c k → Powers a i c k
Powers-trans a b c i j k (inl (on, cuts)) (inl (then_on, then_cuts)) = inl (then_on ∙ on, then_cuts ∙ cuts)
Powers-trans a b c i j k (inl (on, cuts)) (inr (was, off, then_cuts)) = inr (subst (λ (x : Bool). IsTrue x) on was, off, then_cuts ∙ ap up cuts)
Powers-trans a b c i j k (inr (was, off, cuts)) (inl (then_on, then_cuts)) = inr (was, then_on ∙ off, then_cuts ∙ cuts)
Powers-trans a b c i j k (inr (was, off, cuts)) (inr (again, then_off, then_cuts)) = absurd (let no : IsTrue false = subst (λ (x : Bool). IsTrue x) off again in cc)

pub Grows-refl : (xs : List ℕ) → Grows 0 xs xs
Grows-refl xs = record { long = refl; each = λ s. omega arith; least = omega arith; few = omega arith }

pub Grows-trans : (j k : ℕ) (xs ys zs : List ℕ) → Grows j xs ys → Grows k ys zs → Grows (j + k) xs zs
Grows-trans j k xs ys zs g h = record { long = h.long ∙ g.long; each = λ s. let x = g.each s in let y = h.each s in omega arith; least = let x = g.least in let y = h.least in omega arith; few = let x = g.few in let y = h.few in omega arith }

pub Grows-more : (j k : ℕ) (xs ys : List ℕ) → j ≤ k → Grows j xs ys → Grows k xs ys
Grows-more j k xs ys le g = record { long = g.long; each = g.each; least = g.least; few = let x = g.few in omega arith }

pub Counted-refl : (c : Chart) → Counted 0 0 c c
Counted-refl c = record { power = inl (refl, refl); cuts = omega arith; bads = omega arith; begun = omega arith; few = omega arith; erases = Grows-refl _; pulled = refl; plans = refl; last_plan = refl; lives = refl; given = refl; notes = refl }

pub Counted-trans : (i j k l : ℕ) (a b c : Chart) → Counted i j a b → Counted k l b c → Counted (i + k) (j + l) a c
Counted-trans i j k l a b c s t = record {
  power = Powers-trans _ _ _ _ _ _ s.power t.power;
  cuts = let x = s.cuts in let y = t.cuts in omega arith;
  bads = let x = s.bads in let y = t.bads in omega arith;
  begun = let x = s.begun in let y = t.begun in omega arith;
  few = let x = s.few in let y = t.few in omega arith;
  erases = Grows-trans _ _ _ _ _ s.erases t.erases;
  pulled = t.pulled ∙ s.pulled;
  plans = t.plans ∙ s.plans;
  last_plan = t.last_plan ∙ s.last_plan;
  lives = t.lives ∙ s.lives;
  given = t.given ∙ s.given;
  notes = t.notes ∙ s.notes;
}

pub Counted-more : (i j k l : ℕ) (a b : Chart) → i ≤ k → j ≤ l → Counted i j a b → Counted k l a b
Counted-more i j k l a b le less s = record { power = s.power; cuts = s.cuts; bads = s.bads; begun = s.begun; few = let x = s.few in omega arith; erases = Grows-more _ _ _ _ less s.erases; pulled = s.pulled; plans = s.plans; last_plan = s.last_plan; lives = s.lives; given = s.given; notes = s.notes }

-- other fields, with power on or after it failed
pub Counted-fields : (c : Chart) (f : Fields) → Counted 0 0 c (with_fields c f)
Counted-fields c f = record { power = inl (refl, refl); cuts = omega arith; bads = omega arith; begun = omega arith; few = omega arith; erases = Grows-refl _; pulled = refl; plans = refl; last_plan = refl; lives = refl; given = refl; notes = refl }

pub Counted-failed : (c : Chart) (f : Fields) → IsTrue c.on → Counted 0 0 c (failed (with_fields c f))
Counted-failed c f on = record { power = inr (on, refl, refl); cuts = up-least c.cuts; bads = omega arith; begun = omega arith; few = omega arith; erases = Grows-refl _; pulled = refl; plans = refl; last_plan = refl; lives = refl; given = refl; notes = refl }

pub Worn-refl : (a b e : ℕ) → Worn a b e a b e
Worn-refl a b e = record { rises = omega arith; least = λ l. omega arith; most = λ l m. omega arith }

pub Worn-trans : (a b e c d f g h i : ℕ) → d ≤ h → f ≤ i → Worn a b e c d f → Worn c d f g h i → Worn a b e g h i
Worn-trans a b e c d f g h i erases cuts x y =
    let r = x.rises in
    let s = y.rises in
    record {
      rises = omega arith;
      least = λ l. let p = x.least (omega arith) in let q = y.least l in omega arith;
      most = λ l m. let p = x.most (omega arith) (omega arith) in let q = y.most l m in omega arith;
    }

pub Wears-refl : (c : Chart) → Wears c c
Wears-refl c s lt = Worn-refl _ _ _

pub Wears-trans : (k j : ℕ) (a b c : Chart) → b.shape ≡ a.shape → Counted k j b c → Wears a b → Wears b c → Wears a c
Wears-trans k j a b c shape counted first second s lt = Worn-trans _ _ _ _ _ _ _ _ _ (Grows.each counted.erases s) counted.cuts (first s lt) (second s (rw shape lt))

-- a put that leaves the wear words
pub Wears-fields : (c : Chart) (f : Fields) → f.wears ≡ c.fields.wears → Wears c (with_fields c f)
Wears-fields c f same s lt = rw same (Worn-refl _ _ _)

pub Wears-failed : (c : Chart) (f : Fields) → f.wears ≡ c.fields.wears → Wears c (failed (with_fields c f))
Wears-failed c f same s lt = let more = up-least c.cuts in rw same (record { rises = omega arith; least = λ l. omega arith; most = λ l m. omega arith })

pub Framed-refl : (c : Chart) → Framed c c
Framed-refl c = record { shape = refl; magic = refl; version = refl; slots = refl; owners = λ p. refl }

pub Framed-trans : (a b c : Chart) → Framed a b → Framed b c → Framed a c
Framed-trans a b c s t = record { shape = t.shape ∙ s.shape; magic = t.magic ∙ s.magic; version = t.version ∙ s.version; slots = t.slots ∙ s.slots; owners = λ p. t.owners p ∙ s.owners p }

pub Stays-refl : (c : Chart) → IsSound c → Stays 0 0 c c
Stays-refl c sound = record { framed = Framed-refl c; sound = sound; live = refl; durable = refl; counted = Counted-refl c }

pub Stays-trans : (i j k l : ℕ) (a b c : Chart) → Stays i j a b → Stays k l b c → Stays (i + k) (j + l) a c
Stays-trans i j k l a b c s t = record { framed = Framed-trans a b c s.framed t.framed; sound = t.sound; live = t.live ∙ s.live; durable = t.durable ∙ s.durable; counted = Counted-trans i j k l a b c s.counted t.counted }

pub Stays-more : (i j k l : ℕ) (a b : Chart) → i ≤ k → j ≤ l → Stays i j a b → Stays k l a b
Stays-more i j k l a b le less s = record { framed = s.framed; sound = s.sound; live = s.live; durable = s.durable; counted = Counted-more i j k l a b le less s.counted }

pub Same-refl : (c : Chart) → IsSound c → Same 0 0 c c
Same-refl c sound = record { stays = Stays-refl c sound; worn = Wears-refl c }

pub Same-trans : (i j k l : ℕ) (a b c : Chart) → Same i j a b → Same k l b c → Same (i + k) (j + l) a c
Same-trans i j k l a b c s t = record {
  stays = Stays-trans i j k l a b c s.stays t.stays;
  worn = Wears-trans k l a b c (Framed.shape (Stays.framed s.stays)) (Stays.counted t.stays) s.worn t.worn;
}

pub Same-more : (i j k l : ℕ) (a b : Chart) → i ≤ k → j ≤ l → Same i j a b → Same k l a b
Same-more i j k l a b le less s = record { stays = Stays-more i j k l a b le less s.stays; worn = s.worn }

pub SameWords-refl : (c : Chart) → IsSound c → SameWords 0 0 c c
SameWords-refl c sound = record { shape = refl; magic = refl; version = refl; sound = sound; live = refl; durable = refl; counted = Counted-refl c; worn = Wears-refl c }

pub SameWords-trans : (i j k l : ℕ) (a b c : Chart) → SameWords i j a b → SameWords k l b c → SameWords (i + k) (j + l) a c
SameWords-trans i j k l a b c s t = record {
  shape = t.shape ∙ s.shape;
  magic = t.magic ∙ s.magic;
  version = t.version ∙ s.version;
  sound = t.sound;
  live = t.live ∙ s.live;
  durable = t.durable ∙ s.durable;
  counted = Counted-trans i j k l a b c s.counted t.counted;
  worn = Wears-trans k l a b c s.shape t.counted s.worn t.worn;
}

pub SameWords-more : (i j k l : ℕ) (a b : Chart) → i ≤ k → j ≤ l → SameWords i j a b → SameWords k l a b
SameWords-more i j k l a b le less s = record { shape = s.shape; magic = s.magic; version = s.version; sound = s.sound; live = s.live; durable = s.durable; counted = Counted-more i j k l a b le less s.counted; worn = s.worn }

pub SameWords-same : (k j : ℕ) (a b : Chart) → Same k j a b → SameWords k j a b
SameWords-same k j a b s =
    let t = s.stays in
    let framed = t.framed in
    record { shape = framed.shape; magic = framed.magic; version = framed.version; sound = t.sound; live = t.live; durable = t.durable; counted = t.counted; worn = s.worn }

pub SameDurable-refl : (c : Chart) → IsSound c → SameDurable 0 0 c c
SameDurable-refl c sound = record { shape = refl; magic = refl; version = refl; sound = sound; durable = refl; counted = Counted-refl c; worn = Wears-refl c }

pub SameDurable-trans : (i j k l : ℕ) (a b c : Chart) → SameDurable i j a b → SameDurable k l b c → SameDurable (i + k) (j + l) a c
SameDurable-trans i j k l a b c s t = record {
  shape = t.shape ∙ s.shape;
  magic = t.magic ∙ s.magic;
  version = t.version ∙ s.version;
  sound = t.sound;
  durable = t.durable ∙ s.durable;
  counted = Counted-trans i j k l a b c s.counted t.counted;
  worn = Wears-trans k l a b c s.shape t.counted s.worn t.worn;
}

pub SameDurable-more : (i j k l : ℕ) (a b : Chart) → i ≤ k → j ≤ l → SameDurable i j a b → SameDurable k l a b
SameDurable-more i j k l a b le less s = record { shape = s.shape; magic = s.magic; version = s.version; sound = s.sound; durable = s.durable; counted = Counted-more i j k l a b le less s.counted; worn = s.worn }

pub SameDurable-words : (k j : ℕ) (a b : Chart) → SameWords k j a b → SameDurable k j a b
SameDurable-words k j a b s = record { shape = s.shape; magic = s.magic; version = s.version; sound = s.sound; durable = s.durable; counted = s.counted; worn = s.worn }

pub SameDurable-same : (k j : ℕ) (a b : Chart) → Same k j a b → SameDurable k j a b
SameDurable-same k j a b s = SameDurable-words k j a b (SameWords-same k j a b s)

pub SameDurable-dropped : (k j : ℕ) (a b : Chart) → Dropped k j a b → SameDurable k j a b
SameDurable-dropped k j a b s =
    let framed = s.framed in
    record { shape = framed.shape; magic = framed.magic; version = framed.version; sound = s.sound; durable = s.durable; counted = s.counted; worn = s.worn }

-- what is committed stays so while no word changes
pub Commits-after : (i j k l t : ℕ) (a b c : Chart) → Commits i j t a b → SameWords k l b c → Commits (i + k) (j + l) t a c
Commits-after i j k l t a b c m s = record {
  shape = s.shape ∙ m.shape;
  magic = s.magic ∙ m.magic;
  version = s.version ∙ m.version;
  sound = s.sound;
  own = λ n named. ap (λ (ws : List ℕ). get_or ws n 0) s.durable ∙ m.own n named;
  others = λ n other. ap (λ (ws : List ℕ). get_or ws n 0) s.durable ∙ m.others n other;
  live = s.live ∙ m.live;
  counted = Counted-trans i j k l a b c m.counted s.counted;
  worn = Wears-trans k l a b c m.shape s.counted m.worn s.worn;
}

pub Kept-refl : (c : Chart) → IsSound c → Kept c c
Kept-refl c sound = record { shape = refl; magic = refl; sound = sound; durable = refl; counted = Counted-refl c; worn = Wears-refl c }

pub Kept-trans : (a b c : Chart) → Kept a b → Kept b c → Kept a c
Kept-trans a b c s t = record { shape = t.shape ∙ s.shape; magic = t.magic ∙ s.magic; sound = t.sound; durable = t.durable ∙ s.durable; counted = Counted-trans 0 0 0 0 a b c s.counted t.counted; worn = Wears-trans 0 0 a b c s.shape t.counted s.worn t.worn }

pub Kept-durable : (a b : Chart) → SameDurable 0 0 a b → Kept a b
Kept-durable a b s = record { shape = s.shape; magic = s.magic; sound = s.sound; durable = s.durable; counted = s.counted; worn = s.worn }

pub Kept-words : (a b : Chart) → SameWords 0 0 a b → Kept a b
Kept-words a b s = Kept-durable a b (SameDurable-words 0 0 a b s)

pub Kept-same : (a b : Chart) → Same 0 0 a b → Kept a b
Kept-same a b s = Kept-durable a b (SameDurable-same 0 0 a b s)

-- where power fails in a step, its failures rise
pub failed-once : (k j : ℕ) (c new : Chart) → Counted k j c new → IsTrue c.on → new.on ≡ false → new.cuts ≡ up c.cuts
failed-once k j c new counted on off = at counted.power
  where
    at : Powers c.on c.cuts new.on new.cuts → new.cuts ≡ up c.cuts
    at (inl (still, cuts)) = absurd (let no : IsTrue false = subst IsTrue (sym still ∙ off) on in cc)
    at (inr (was, then_off, cuts)) = cuts

pub cause : (k j : ℕ) (c new : Chart) → Counted k j c new → IsTrue c.on → new.on ≡ false → c.cuts < 2 ^ 64 - 1 → c.cuts < new.cuts
cause k j c new counted on off low = rw (failed-once k j c new counted on off) (up-rises c.cuts low)

-- the exits of a put: done, off at entry, or cut before or after the word was written
pub exits : (c new : Chart) (change : Fields → Fields) (r : Result Unit Off) (Done Stop : Chart → Type 0) → (IsTrue c.on → Done (with_fields c (change c.fields))) → (c.on ≡ false → Stop c) → (IsTrue c.on → Stop (failed c)) → (IsTrue c.on → Stop (failed (with_fields c (change c.fields)))) → Writes change c r new → MatchResult r (λ _. Done new) (λ _. Stop new)
exits c new change (Ok done) Done Stop whole idle before after (on, is) = subst Done (sym is) (whole on)
exits c new change (Err off) Done Stop whole idle before after (inl (off_then, is)) = subst Stop (sym is) (idle off_then)
exits c new change (Err off) Done Stop whole idle before after (inr (on, f, inl e, is)) = subst Stop (sym (is ∙ ap (λ (g : Fields). failed (with_fields c g)) e)) (before on)
exits c new change (Err off) Done Stop whole idle before after (inr (on, f, inr e, is)) = subst Stop (sym (is ∙ ap (λ (g : Fields). failed (with_fields c g)) e)) (after on)

-- what holds at both exits
pub at-each : {T E : Type 0} (r : Result T E) (P : Type 0) → MatchResult r (λ _. P) (λ _. P) → P
at-each (Ok x) P p = p
at-each (Err e) P p = p

-- what one put does to power, counts and wear, whatever it writes
pub Counted-put : (c new : Chart) (change : Fields → Fields) (r : Result Unit Off) → Writes change c r new → Counted 0 0 c new
Counted-put c new change (Ok done) (on, is) = subst (λ (x : Chart). Counted 0 0 c x) (sym is) (Counted-fields c (change c.fields))
Counted-put c new change (Err off) (inl (dark, is)) = subst (λ (x : Chart). Counted 0 0 c x) (sym is) (Counted-refl c)
Counted-put c new change (Err off) (inr (on, f, either, is)) = subst (λ (x : Chart). Counted 0 0 c x) (sym is) (Counted-failed c f on)

pub Wears-put : (c new : Chart) (change : Fields → Fields) (r : Result Unit Off) → (change c.fields).wears ≡ c.fields.wears → Writes change c r new → Wears c new
Wears-put c new change r wears writes = at-each r (Wears c new) (exits c new change r (Wears c) (Wears c) (λ on. Wears-fields c (change c.fields) wears) (λ off. Wears-refl c) (λ on. Wears-failed c c.fields refl) (λ on. Wears-failed c (change c.fields) wears) writes)

-- what a law says of the fields that a put leaves
pub record Keeps (c : Chart) (f : Fields) : Type 0 where
  pub framed : Framed c (with_fields c f)
  pub sound : IsSound (with_fields c f)
  pub live : live (with_fields c f) ≡ live c
  pub durable : durable (with_fields c f) ≡ durable c

pub Keeps-refl : (c : Chart) → IsSound c → Keeps c c.fields
Keeps-refl c sound = record { framed = Framed-refl c; sound = sound; live = refl; durable = refl }

pub Framed-failed : (c : Chart) (f : Fields) → Framed c (with_fields c f) → Framed c (failed (with_fields c f))
Framed-failed c f x = record { shape = x.shape; magic = x.magic; version = x.version; slots = x.slots; owners = x.owners }

pub Stays-kept : (c : Chart) (f : Fields) → Keeps c f → Stays 0 0 c (with_fields c f)
Stays-kept c f k = record { framed = k.framed; sound = k.sound; live = k.live; durable = k.durable; counted = Counted-fields c f }

pub Stays-failed : (c : Chart) (f : Fields) → IsTrue c.on → Keeps c f → Stays 0 0 c (failed (with_fields c f))
Stays-failed c f on k = record { framed = Framed-failed c f k.framed; sound = k.sound; live = k.live; durable = k.durable; counted = Counted-failed c f on }

-- one put, by its law, at every exit
pub Stays-put : (c new : Chart) (change : Fields → Fields) (r : Result Unit Off) → IsSound c → (IsTrue c.on → Keeps c (change c.fields)) → Writes change c r new → Stays 0 0 c new
Stays-put c new change r sound law writes = at-each r (Stays 0 0 c new) (exits c new change r (Stays 0 0 c) (Stays 0 0 c) (λ on. Stays-kept c _ (law on)) (λ off. Stays-refl c sound) (λ on. Stays-failed c c.fields on (Keeps-refl c sound)) (λ on. Stays-failed c _ on (law on)) writes)

pub Same-put : (c new : Chart) (change : Fields → Fields) (r : Result Unit Off) → IsSound c → (IsTrue c.on → Keeps c (change c.fields)) → (change c.fields).wears ≡ c.fields.wears → Writes change c r new → Same 0 0 c new
Same-put c new change r sound law wears writes = record {
  stays = Stays-put c new change r sound law writes;
  worn = Wears-put c new change r wears writes;
}

-- a put after which pages may have other owners, and slots other states
pub record KeepsWords (c : Chart) (f : Fields) : Type 0 where
  pub magic : f.magic ≡ c.fields.magic
  pub version : f.version ≡ c.fields.version
  pub wears : f.wears ≡ c.fields.wears
  pub sound : IsSound (with_fields c f)
  pub live : live (with_fields c f) ≡ live c
  pub durable : durable (with_fields c f) ≡ durable c

pub SameWords-kept : (c : Chart) (f : Fields) → KeepsWords c f → SameWords 0 0 c (with_fields c f)
SameWords-kept c f k = record { shape = refl; magic = k.magic; version = k.version; sound = k.sound; live = k.live; durable = k.durable; counted = Counted-fields c f; worn = Wears-fields c f k.wears }

pub SameWords-failed : (c : Chart) (f : Fields) → IsTrue c.on → KeepsWords c f → SameWords 0 0 c (failed (with_fields c f))
SameWords-failed c f on k = record { shape = refl; magic = k.magic; version = k.version; sound = k.sound; live = k.live; durable = k.durable; counted = Counted-failed c f on; worn = Wears-failed c f k.wears }

pub SameWords-put : (c new : Chart) (change : Fields → Fields) (r : Result Unit Off) → IsSound c → (IsTrue c.on → KeepsWords c (change c.fields)) → Writes change c r new → SameWords 0 0 c new
SameWords-put c new change r sound law writes = at-each r (SameWords 0 0 c new) (exits c new change r (SameWords 0 0 c) (SameWords 0 0 c) (λ on. SameWords-kept c _ (law on)) (λ off. SameWords-refl c sound) (λ on. SameWords-failed c c.fields on (record { magic = refl; version = refl; wears = refl; sound = sound; live = refl; durable = refl })) (λ on. SameWords-failed c _ on (law on)) writes)

-- a put after which loads may read other words
pub record KeepsDurable (c : Chart) (f : Fields) : Type 0 where
  pub magic : f.magic ≡ c.fields.magic
  pub version : f.version ≡ c.fields.version
  pub wears : f.wears ≡ c.fields.wears
  pub sound : IsSound (with_fields c f)
  pub durable : durable (with_fields c f) ≡ durable c

pub SameDurable-kept : (c : Chart) (f : Fields) → KeepsDurable c f → SameDurable 0 0 c (with_fields c f)
SameDurable-kept c f k = record { shape = refl; magic = k.magic; version = k.version; sound = k.sound; durable = k.durable; counted = Counted-fields c f; worn = Wears-fields c f k.wears }

pub SameDurable-failed : (c : Chart) (f : Fields) → IsTrue c.on → KeepsDurable c f → SameDurable 0 0 c (failed (with_fields c f))
SameDurable-failed c f on k = record { shape = refl; magic = k.magic; version = k.version; sound = k.sound; durable = k.durable; counted = Counted-failed c f on; worn = Wears-failed c f k.wears }

pub SameDurable-put : (c new : Chart) (change : Fields → Fields) (r : Result Unit Off) → IsSound c → (IsTrue c.on → KeepsDurable c (change c.fields)) → Writes change c r new → SameDurable 0 0 c new
SameDurable-put c new change r sound law writes = at-each r (SameDurable 0 0 c new) (exits c new change r (SameDurable 0 0 c) (SameDurable 0 0 c) (λ on. SameDurable-kept c _ (law on)) (λ off. SameDurable-refl c sound) (λ on. SameDurable-failed c c.fields on (record { magic = refl; version = refl; wears = refl; sound = sound; durable = refl })) (λ on. SameDurable-failed c _ on (law on)) writes)

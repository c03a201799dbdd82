-- What a tick says, whichever rule it went by.
use Rattle.std.proofs.Common.{◌≡◌, ◌∙◌, inl, inr, Bool, false, true, ℕ, ◌<◌, ◌≤◌, List, [], length, Option, Some, Result, Ok, Err, IsErrAnd, refl, sym, ap, subst, arith}
use Rattle.std.specs.Prelude.{IsTrue, IsErrOf}
use Rattle.envy_base.specs.declared.board.Trouble.{Trouble}
use Rattle.envy_base.specs.declared.board.Trouble.TheVariants.{Off as TroubleOff, Bad}
use Rattle.envy_soundness.specs.Power.{power_after}
use Rattle.envy_map.specs.Fields.{Chart}
use Rattle.envy_soundness.specs.Same.{Same, Wears}
use Rattle.envy_soundness.specs.Sound.{IsSound}
use Rattle.envy_soundness.proofs.Composition.{Same-refl, Same-more}
use Rattle.envy_soundness.proofs.Sames.{same_within}
use Rattle.envy_space.specs.Pool.{Pool}
use Rattle.envy_table.specs.Entries.{Translations}
use Rattle.envy_reloc.specs.Phases.{SameOnce}
use Rattle.envy_reloc.specs.Plan.{IsFreeOf}
use Rattle.envy_wear.specs.Swaps.{IsQuiet}
use Rattle.envy_reloc.proofs.Exits.{unpowered}
use Rattle.envy_base.specs.declared.fields.Job.{Job}
use Rattle.envy_base.specs.declared.fields.Job.TheVariants.{Idle, Copy, Switch}
use Rattle.envy_base.specs.declared.fields.Place.{Place}
use Rattle.envy_soundness.specs.Frames.{FramesStay}
use Rattle.envy_soundness.proofs.FrameStay.{FramesStay-refl}
use Rattle.envy_engine.specs.Budgets.{Turns}
use Rattle.envy_engine.specs.Steps.{Idles, TicksStage}
use Rattle.envy_engine.specs.declared.did.Did.{Did}
use Rattle.envy_engine.specs.Counts.{Counting}
use Rattle.envy_engine.specs.declared.parts.Parts.{Parts}
use Rattle.envy_engine.proofs.StoreLemmas.{shape-step}
use Rattle.envy_engine.proofs.WearLemmas.{IsQuiet-counted}

-- what begins no flash operation does no more than a step may
pub once-none : (c new : Chart) → Same 0 0 c new → SameOnce c new
once-none c new s = inl (same_within 1 0 c new s)

worn-step : (c new : Chart) → SameOnce c new → Wears c new
worn-step c new (inl s) = s.worn
worn-step c new (inr s) = s.worn

-- a step that begins no swap leaves the board as quiet as it was
pub quiet-step : (c new : Chart) (x y : Parts) (limit quiet : ℕ) → SameOnce c new → Counting c x new y → IsQuiet c.shape c.fields limit x.reloc.since quiet → IsTrue new.on → IsQuiet new.shape new.fields limit y.reloc.since quiet
quiet-step c new x y limit quiet once counting was on = IsQuiet-counted c new x y limit quiet (shape-step c new once) (worn-step c new once) counting on was

-- so many aren't fewer
pub not-few : {P : Type 0} (n m h : ℕ) → m ≤ n → n ≡ h → h < m → P
not-few n m h le is lt = absurd (omega arith)

-- some aren't none
pub some-none : {P : Type 0} (xs : List ℕ) → 0 < length xs → xs ≡ [] → P
some-none xs some none = let empty : length xs ≡ 0 = ap length none in absurd (omega arith)

-- at least one is some
pub some-held : {A : Type 0} (n m : ℕ) (xs : List A) → 1 ≤ m → m ≤ n → n ≡ length xs → xs ≡ [] → ⊥
some-held n m xs one le is none = let empty : length xs ≡ 0 = ap length none in omega arith

-- how many frames are held, from how many the parts say are used
pub so-many : (n m h : ℕ) → m ≤ n → n ≡ h → m ≤ h
so-many n m h le is = subst (λ (x : ℕ). m ≤ x) is le

pub so-few : (n m h : ℕ) → n < m → n ≡ h → h < m
so-few n m h lt is = subst (λ (x : ℕ). x < m) is lt

-- ---- a turn

-- a step ended it
pub Turns-ended : (c new : Chart) (x y : Parts) (r : Result Bool Trouble) (fault : Trouble) → SameOnce c new → IsErrAnd r (λ e. e ≡ fault) → Turns c x r new y
Turns-ended c new x y (Ok more) fault once is = absurd is
Turns-ended c new x y (Err e) fault (inl s) is = Same-more 1 0 1 1 c new (omega arith) (omega arith) s
Turns-ended c new x y (Err e) fault (inr s) is = Same-more 0 1 1 1 c new (omega arith) (omega arith) s

-- nothing was left
pub Turns-none : (c : Chart) (x : Parts) → IsSound c → Turns c x (Ok false) c x
Turns-none c x sound n e s b = (record { programs = 0; erases = 0; left_n = n; left_e = e; left_s = s; same = Same-refl c sound; left = b; few = omega arith; few_erases = omega arith; fewer = omega arith }, λ yes. absurd (let no : false ≡ true = yes in cc))

-- a stage leaves the pool and the cache
pub parts-staged : (x y : Parts) → y ≡ record x { reloc = y.reloc; stages = y.stages } → y ≡ record x { space = y.space; cache = y.cache; reloc = y.reloc; stages = y.stages }
parts-staged x y is =
    is
    ∙ ap (λ (s : Pool). record x { space = s; reloc = y.reloc; stages = y.stages }) (sym (ap (λ (z : Parts). z.space) is))
    ∙ ap (λ (t : Translations). record x { space = y.space; cache = t; reloc = y.reloc; stages = y.stages }) (sym (ap (λ (z : Parts). z.cache) is))

-- what an answer that more is left, or that nothing is, isn't
pub no-more : {P : Type 0} → ◌≡◌ {A = Bool} true false → P
no-more is = absurd (let no : true ≡ false = is in cc)

pub no-turn : {P : Type 0} → ◌≡◌ {A = Bool} false true → P
no-turn is = absurd (let no : false ≡ true = is in cc)

-- where it can't fail otherwise, power did
pub off-never : {P T : Type 0} (e : Trouble) (on : Bool) → on ≡ power_after {A = T} (Err e) → (IsErrOf {T = T} {E = Trouble} (Err e) Bad → ⊥) → IsTrue on → P
off-never Bad on power never lit = absurd (never refl)
off-never TroubleOff on power never lit = unpowered on power lit

-- a stage that began leaves pages where they stood
pub stays-staged : (did : Did) (c new : Chart) (x y : Parts) → TicksStage did c x new y → FramesStay c.fields.places new.fields.places
stays-staged did c new x y t = subst (λ (ps : List (Option Place)). FramesStay c.fields.places ps) (sym (ap (λ (z : Chart). z.fields.places) t.fields)) (FramesStay-refl c.fields.places)

-- where no job runs each segment is free
pub free-idle : (job : Option Job) (s : ℕ) → job ≡ Some Idle → IsFreeOf job s
free-idle job s idle =
    (λ copy. let no : Some Idle ≡ Some (Copy s) = sym idle ∙ copy in cc, λ switch. let no : Some Idle ≡ Some (Switch s) = sym idle ∙ switch in cc)

-- ---- a step of the job

-- a tick hands the fault of its step on
pub power-handed : (A B : Type 0) (r : Result A Trouble) (on : Bool) (f : Trouble) → on ≡ power_after r → r ≡ Err f → on ≡ power_after {A = B} (Err f)
power-handed A B r on Bad power is = power ∙ ap (λ (x : Result A Trouble). power_after x) is
power-handed A B r on TroubleOff power is = power ∙ ap (λ (x : Result A Trouble). power_after x) is

-- the stages stay, or others are left
pub parts-stepped : (x y : Parts) (left : List ℕ) → y ≡ record x { space = y.space; cache = y.cache; reloc = y.reloc } → record y { stages = left } ≡ record x { space = y.space; cache = y.cache; reloc = y.reloc; stages = left }
parts-stepped x y left is = ap (λ (z : Parts). record z { stages = left }) is

-- and the other parts
pub idles-stepped : (x y : Parts) → y ≡ record x { space = y.space; cache = y.cache; reloc = y.reloc } → Idles x y
idles-stepped x y is = record { flushes = ap (λ (z : Parts). z.flushes) is; swaps = ap (λ (z : Parts). z.swaps) is; chooser = ap (λ (z : Parts). z.chooser) is; frames = ap (λ (z : Parts). z.frames) is }

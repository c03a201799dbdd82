-- What a flush says once its row is programmed.
use Rattle.std.proofs.Common.{◌≡◌, ◌≢◌, ◌⊎◌, inl, inr, ℕ, ◌-◌, ◌^◌, ◌<◌, ◌≤◌, Bool, true, false, List, [], length, Option, None, Some, refl, sym, ◌∙◌, ap, subst, arith, get_or}
use Rattle.std.specs.Prelude.{Result, Ok, Err, OnOk, OnErr, IfOk, IsErrOf, IsTrue, MatchOption, MatchResult}
use Rattle.envy_base.specs.Counting.{up}
use Rattle.envy_base.specs.declared.board.Off.{Off}
use Rattle.envy_base.specs.declared.board.Trouble.{Trouble}
use Rattle.envy_base.specs.declared.fields.Job.{Job}
use Rattle.envy_base.specs.declared.fields.Job.TheVariants.{Idle}
use Rattle.envy_map.specs.Fields.{Fields, Chart, with_fields}
use Rattle.envy_map.specs.Writes.{Writes}
use Rattle.envy_policy.specs.declared.choice.Choice.{Choice}
use Rattle.envy_policy.specs.declared.choice.Choice.TheVariants.{Free, Clean}
use Rattle.envy_reloc.specs.Plan.{Plan}
use Rattle.envy_victims.specs.Choosing.{ChoiceFor}
use Rattle.envy_engine.specs.Cleaning.{StopsClean}
use Rattle.envy_engine.specs.Flushing.{IsLastAt, Claims, Follows, Ends, IsBusy, ClaimsBeside, ClaimsAfter, FinishesFirst, GetsRow, NotesBad, ChoosesBad, Settles, StopsRow, StopsFor}
use Rattle.envy_engine.specs.declared.parts.Parts.{Parts}

pub on-ok : {T E : Type 0} (r : Result T E) (A B : Type 0) → (A → B) → OnOk r A → OnOk r B
on-ok (Ok x) A B f a = f a
on-ok (Err e) A B f a = tt

pub on-two : {T E : Type 0} (r : Result T E) (A B C : Type 0) → (A → B → C) → OnOk r A → OnOk r B → OnOk r C
on-two (Ok x) A B C f a b = f a b
on-two (Err e) A B C f a b = tt

pub Ends-after : (old : Chart) (was : Parts) (mid : Chart) (y : Parts) (new : Chart) (z : Parts) → new.fields.job ≡ mid.fields.job → z.stages ≡ y.stages → Ends old was mid y → Ends old was new z
Ends-after old was mid y new z job stages (a, b) = (first a, second b)
  where
    first : (mid.fields.job ≡ old.fields.job) ⊎ (mid.fields.job ≡ Some Idle) → (new.fields.job ≡ old.fields.job) ⊎ (new.fields.job ≡ Some Idle)
    first (inl e) = inl (job ∙ e)
    first (inr e) = inr (job ∙ e)

    second : (y.stages ≡ was.stages) ⊎ (y.stages ≡ []) → (z.stages ≡ was.stages) ⊎ (z.stages ≡ [])
    second (inl e) = inl (stages ∙ e)
    second (inr e) = inr (stages ∙ e)

pub IsLastAt-after : (k q : ℕ) (c d : Chart) → d.shape ≡ c.shape → d.fields.fills ≡ c.fields.fills → d.fields.positions ≡ c.fields.positions → IsLastAt c k q → IsLastAt d k q
IsLastAt-after k q c d shape fills positions a = record { segment = rw (shape, positions) a.segment; last = rw (shape, positions, fills) a.last }

pub Claims-after : (k page q : ℕ) (old : Chart) (was : Parts) (mid : Chart) (y : Parts) (new : Chart) (z : Parts) → new.shape ≡ mid.shape → new.fields.fills ≡ mid.fields.fills → new.fields.positions ≡ mid.fields.positions → new.erases ≡ mid.erases → z.chooser ≡ y.chooser → Claims k page q old was mid y → Claims k page q old was new z
Claims-after k page q old was mid y new z shape fills positions erases chooser (at, a, b, c, d) = (IsLastAt-after k q mid new shape fills positions at, fills ∙ a, positions ∙ b, erases ∙ c, chooser ∙ d)

pub Follows-after : (choice : Choice) (page q : ℕ) (old : Chart) (was : Parts) (mid : Chart) (y : Parts) (new : Chart) (z : Parts) → new.shape ≡ mid.shape → new.fields.fills ≡ mid.fields.fills → new.fields.positions ≡ mid.fields.positions → new.erases ≡ mid.erases → z.chooser ≡ y.chooser → z.reloc.erased ≡ y.reloc.erased → Follows choice page q old was mid y → Follows choice page q old was new z
Follows-after (Free k) page q old was mid y new z shape fills positions erases chooser counted claims = Claims-after k page q old was mid y new z shape fills positions erases chooser claims
Follows-after (Clean k aside) page q old was mid y new z shape fills positions erases chooser counted (at, s, b, d, whole) = (
  IsLastAt-after k q mid new shape fills positions at,
  record { spare = s.spare; is_spare = s.is_spare; positions = λ j low. ap (λ (xs : List ℕ). get_or xs j 0) positions ∙ s.positions j low },
  counted ∙ b,
  chooser ∙ d,
  record { mid = whole.mid; between = whole.between; cleans = whole.cleans; claims = Claims-after k page q whole.mid whole.between mid y new z shape fills positions erases chooser whole.claims },
)

-- a row that was claimed for a page, seen after its program and the writes that name it
pub GetsRow-after : (home page q : ℕ) (old : Chart) (was : Parts) (mid : Chart) (y : Parts) (new : Chart) (z : Parts) → new.shape ≡ mid.shape → new.fields.job ≡ mid.fields.job → new.fields.fills ≡ mid.fields.fills → new.fields.positions ≡ mid.fields.positions → new.erases ≡ mid.erases → z.chooser ≡ y.chooser → z.reloc ≡ y.reloc → z.stages ≡ y.stages → GetsRow home page q old was mid y → GetsRow home page q old was new z
GetsRow-after home page q old was mid y new z shape job fills positions erases chooser task stages g = record {
  chooses = λ idle none. let c = g.chooses idle none in (c.0, c.1, Follows-after c.0 page q old was mid y new z shape fills positions erases chooser (ap (λ (p : Plan). p.erased) task) c.2);
  busy = λ some. at (g.busy some);
  ends = Ends-after old was mid y new z job stages g.ends;
}
  where
    at : ClaimsBeside home page q old was mid y ⊎ ClaimsAfter home page q old was mid y → ClaimsBeside home page q old was new z ⊎ ClaimsAfter home page q old was new z
    at (inl b) = inl (record { position = b.position; lowest = b.lowest; claims = Claims-after b.position page q old was mid y new z shape fills positions erases chooser b.claims; job = job ∙ b.job; stages = stages ∙ b.stages; reloc = task ∙ b.reloc })
    at (inr a) = inr (record { mid = a.mid; between = a.between; first = a.first; choice = a.choice; chosen = a.chosen; follows = Follows-after a.choice page q a.mid a.between mid y new z shape fills positions erases chooser (ap (λ (p : Plan). p.erased) task) a.follows })

pub NotesBad-follows : (choice : Choice) (page q : ℕ) (old : Chart) (was : Parts) (mid : Chart) (y z : Parts) → z.chooser ≡ y.chooser → Follows choice page q old was mid y → NotesBad choice page was z
NotesBad-follows (Free k) page q old was mid y z same (at, a, b, c, d) = same ∙ d
NotesBad-follows (Clean k aside) page q old was mid y z same (at, s, b, d, whole) = inr (same ∙ d)

pub ChoosesBad-gets : (home page q : ℕ) (old : Chart) (was : Parts) (mid : Chart) (y z : Parts) → z.chooser ≡ y.chooser → GetsRow home page q old was mid y → ChoosesBad home page old was z
ChoosesBad-gets home page q old was mid y z same g idle none = let c = g.chooses idle none in (c.0, c.1, NotesBad-follows c.0 page q old was mid y z same c.2)

-- the program of a row that was claimed was bad
pub StopsFor-gets : (home page q : ℕ) (old : Chart) (was : Parts) (mid : Chart) (y : Parts) (new : Chart) (z : Parts) → new.shape ≡ mid.shape → new.fields ≡ mid.fields → new.erases ≡ mid.erases → z.chooser ≡ y.chooser → z.reloc ≡ y.reloc → z.stages ≡ y.stages → z.flushes ≡ up was.flushes → GetsRow home page q old was mid y → StopsFor home page old was new z
StopsFor-gets home page q old was mid y new z shape fields erases chooser task stages flushes g = record {
  noted = ChoosesBad-gets home page q old was mid y z chooser g;
  halted = inr (record { row = q; gets = GetsRow-after home page q old was mid y new z shape (ap (λ (f : Fields). f.job) fields) (ap (λ (f : Fields). f.fills) fields) (ap (λ (f : Fields). f.positions) fields) erases chooser task stages g; flushes = flushes });
}

pub bad-rises : (a b : ℕ) → a ≤ b → a < 2 ^ 64 - 1 → a < up b
unfolding up
bad-rises a b le lt = omega arith

pub ok-any : {T E : Type 0} (r : Result T E) (A : Type 0) → A → OnOk r A
ok-any (Ok x) A a = a
ok-any (Err e) A a = tt

pub never-idle : (job : Option Job) (stages : List ℕ) → (job ≢ Some Idle) ⊎ (0 < length stages) → job ≡ Some Idle → stages ≡ [] → ⊥
never-idle job stages (inl runs) is none = runs is
never-idle job stages (inr some) is none = let empty : length stages ≡ 0 = ap length none in omega arith

pub if-done : {T E : Type 0} (r : Result T E) (P R : T → Type 0) → IfOk r P → ((x : T) → P x → R x) → IfOk r R
if-done (Ok x) P R p f = f x p
if-done (Err e) P R p f = p

pub on-if : {T E : Type 0} (r : Result T E) (P : T → Type 0) (A : Type 0) → IfOk r P → ((x : T) → P x → A) → OnOk r A
on-if (Ok x) P A p f = f x p
on-if (Err e) P A p f = tt

-- the same fault, of another answer
pub err-at : {T U : Type 0} (f x : Trouble) → IsErrOf {T = T} {E = Trouble} (Err f) x → IsErrOf {T = U} {E = Trouble} (Err f) x
err-at {T} {U} f x is = let same : f ≡ x = cc in ap (λ (e : Trouble). Err e) same

-- an answer that is no row
pub none-of : {X : Type 0} (o : Option X) (A : Type 0) (B : X → Type 0) → ((x : X) → o ≢ Some x) → MatchOption o A B → A
none-of None A B other a = a
none-of (Some x) A B other b = absurd (other x refl)

-- once job and stages were finished, a step of the cleaning was bad
pub stops-after : (home page : ℕ) (old : Chart) (was : Parts) (mid : Chart) (y : Parts) (new : Chart) (z : Parts) → IsBusy old was → mid.fields.job ≡ Some Idle → y.stages ≡ [] → FinishesFirst home page old was mid y → StopsRow home page mid y new z → StopsRow home page old was new z
stops-after home page old was mid y new z busy idle none first (inl (more, lack, stops)) = absurd (never-idle mid.fields.job y.stages more idle none)
stops-after home page old was mid y new z busy idle none first (inr s) = inr (record { mid = mid; between = y; settles = inr (busy, first); position = s.position; aside = s.aside; chosen = chosen s.settles; stops = stops s.settles })
  where
    chosen : Settles home page mid y s.mid s.between → ChoiceFor y.chooser y.space home page (Clean s.position s.aside)
    chosen (inl (a, b, c, same)) = subst (λ (x : Parts). ChoiceFor x.chooser x.space home page (Clean s.position s.aside)) same s.chosen
    chosen (inr (more, next)) = absurd (never-idle mid.fields.job y.stages more idle none)

    stops : Settles home page mid y s.mid s.between → StopsClean s.position s.aside mid y new z
    stops (inl (a, b, is, same)) = subst (λ (c : Chart). StopsClean s.position s.aside c y new z) is (subst (λ (x : Parts). StopsClean s.position s.aside s.mid x new z) same s.stops)
    stops (inr (more, next)) = absurd (never-idle mid.fields.job y.stages more idle none)

-- nothing ran in the middle, so nothing runs at the end
pub none-left : (mid new : Option Job) → mid ≡ Some Idle → (new ≡ mid) ⊎ (new ≡ Some Idle) → new ≡ Some Idle
none-left mid new idle (inl e) = e ∙ idle
none-left mid new idle (inr e) = e

pub no-stage-left : (mid new : List ℕ) → mid ≡ [] → (new ≡ mid) ⊎ (new ≡ []) → new ≡ []
no-stage-left mid new none (inl e) = e ∙ none
no-stage-left mid new none (inr e) = e

-- where power is on, the put has answered Ok
pub if-on : (r : Result Unit Off) (b : Bool) (A : Type 0) → OnOk r A → OnErr r (b ≡ false) → IsTrue b → A
if-on (Ok done) b A a off on = a
if-on (Err e) b A a off on = absurd (let no : false ≡ true = sym off ∙ on in cc)

-- of a match on the answer of a put, the side that it has
pub ok-of : (r : Result Unit Off) (A B C : Type 0) → (A → C) → MatchResult r (λ (_ : Unit {0}). A) (λ (_ : Off). B) → OnOk r C
ok-of (Ok done) A B C f a = f a
ok-of (Err e) A B C f b = tt

pub err-of : (r : Result Unit Off) (A B C : Type 0) → (B → C) → MatchResult r (λ (_ : Unit {0}). A) (λ (_ : Off). B) → OnErr r C
err-of (Ok done) A B C f a = tt
err-of (Err e) A B C f b = f b

pub ok-written : (c new : Chart) (change : Fields → Fields) (r : Result Unit Off) → Writes change c r new → OnOk r (new ≡ with_fields c (change c.fields))
ok-written c new change (Ok done) writes = writes.1
ok-written c new change (Err e) writes = tt

-- What a pair stands for once a command went to each Good side.
use Rattle.std.proofs.Common.{◌≡◌, ℕ, Bool, true, false, List, length, Option, None, Some, refl, sym, ◌∙◌, ap, subst}
use Rattle.std.specs.Prelude.{IsTrue, ◌||◌, ◌&&◌, if◌then◌else◌}
use Rattle.std.proofs.lemmas.List.{length-set}
use Rattle.envy_array.specs.Array.{Array}
use Rattle.envy_array.specs.Step.{Command, Answer, Step, Accepts, is_accepted}
use Rattle.envy_map.specs.Fields.{Chart}
use Rattle.envy_meaning.specs.Stands.{Stands, IsLost}
use Rattle.envy_mirror.specs.Asking.{Reaches, has_said, is_moving, cut_by_hand}
use Rattle.envy_mirror.specs.Mirroring.{AgreesBy, Agrees, Mirrors, Gives, Trails}
use Rattle.envy_mirror.specs.Pair.{Side, Pair, is_good, is_good_by, side_at, IsDark, IsPair, Leads, lasting}
use Rattle.envy_mirror.specs.Replies.{Reply, Off, Bad, Said, marked, mark_if, written_by}
use Rattle.envy_mirror.specs.declared.standing.Standing.{Standing}
use Rattle.envy_mirror.specs.declared.standing.Standing.TheVariants.{Good, Behind, Gone}
use Rattle.envy_mirror.specs.declared.standing.Which.{Which}
use Rattle.envy_mirror.specs.declared.standing.Which.TheVariants.{First, Second}

pub length-marked : (command : Command) (reply : Reply) (stale : List Bool) → length (marked command reply stale) ≡ length stale
length-marked command Off stale = refl
length-marked command Bad stale = refl
length-marked command (Said answer) stale = at (is_accepted answer) (written_by command)
  where
    at : (b : Bool) (page : Option ℕ) → length (mark_if b page stale) ≡ length stale
    at true None = refl
    at true (Some p) = length-set stale p true
    at false page = refl

-- ---- one side

-- a good side stands for the array
pub stands-good : (g : Standing) (c : Chart) (stale : List Bool) (m : Array) → IsTrue (is_good_by g) → AgreesBy g c stale m → Stands c m
stands-good Good c stale m so agrees = agrees
stands-good Behind c stale m so agrees = cc
stands-good Gone c stale m so agrees = cc

-- one that stands for it agrees,
pub agrees-good : (s : Side) (stale : List Bool) (m : Array) → s.standing ≡ Good → Stands s.memory.chart m → Agrees s stale m
agrees-good s stale m good stands = subst (λ (g : Standing). AgreesBy g s.memory.chart stale m) (sym good) stands

-- and so does one that is gone
pub agrees-gone : (s : Side) (stale : List Bool) (m : Array) → s.standing ≡ Gone → Agrees s stale m
agrees-gone s stale m gone = subst (λ (g : Standing). AgreesBy g s.memory.chart stale m) (sym gone) tt

-- one that isn't good agrees with an array that it still follows
pub carried : (g : Standing) (c : Chart) (stale left : List Bool) (m n : Array) → is_good_by g ≡ false → (Trails c stale m → Trails c left n) → AgreesBy g c stale m → AgreesBy g c left n
carried Good c stale left m n bad carry agrees = cc
carried Behind c stale left m n bad carry agrees = carry agrees
carried Gone c stale left m n bad carry agrees = agrees

pub good-is : (s : Side) → s.standing ≡ Good → is_good s ≡ true
good-is s e = ap is_good_by e

pub gone-is : (s : Side) → s.standing ≡ Gone → is_good s ≡ false
gone-is s e = ap is_good_by e

-- what became of a side that was asked
pub record Told (n : Array) (s : Side) : Type 0 where
  pub good : s.standing ≡ Good
  pub stands : Stands s.memory.chart n

-- what a side is behind power lost
pub reach-off : (command : Command) (other : Option Reply) (old new : Side) (stale : List Bool) (m : Array) → Reaches command other (Some Off) old new → Agrees old stale m → IsLost m command new.memory.chart × (new.standing ≡ Gone)
reach-off command other old new stale m (mid, (good, asks, stood), is) agrees =
    subst (λ (s : Side). IsLost m command s.memory.chart × (s.standing ≡ Gone)) (sym is)
    (asks.step m (stands-good old.standing old.memory.chart stale m good agrees), stood)

-- behind an answer
pub reach-said : (command : Command) (other : Option Reply) (answer : Answer) (old new : Side) (stale : List Bool) (m : Array) → Reaches command other (Some (Said answer)) old new → Agrees old stale m → (n : Array) × Step m command answer n × Told n new
reach-said command other answer old new stale m (mid, (good, asks, stood), is) agrees =
    let t = asks.step m (stands-good old.standing old.memory.chart stale m good agrees) in
    (t.0, t.1, subst (λ (s : Side). Told t.0 s) (sym is) (record { good = stood; stands = t.2 }))

-- behind a failure where the other side did not move on
pub reach-bad : (command : Command) (other : Option Reply) (old new : Side) (stale : List Bool) (m : Array) → (has_said other && is_moving command) ≡ false → Reaches command other (Some Bad) old new → Agrees old stale m → (n : Array) × Accepts m command n × Told m new
reach-bad command other old new stale m none (mid, (good, asks, stood), is) agrees =
    let t = asks.step m (stands-good old.standing old.memory.chart stale m good agrees) in
    let same : new ≡ mid = rw none at is in
    (t.0, t.1, subst (λ (s : Side). Told m s) (sym same) (record { good = stood; stands = t.2 }))

-- and behind one where it did
pub reach-spoiled : (command : Command) (other : Option Reply) (old new : Side) → (has_said other && is_moving command) ≡ true → Reaches command other (Some Bad) old new → new.standing ≡ Gone
reach-spoiled command other old new said (mid, asked, is) =
    let same : new ≡ record { memory = cut_by_hand mid.memory; standing = Gone } = rw said at is in
    ap (λ (s : Side). s.standing) same

-- a call that didn't reach a side leaves it, and it wasn't good
pub reach-none : (command : Command) (other : Option Reply) (old new : Side) → Reaches command other None old new → (is_good old ≡ false) × (new ≡ old)
reach-none command other old new (mid, (bad, stays), is) = (bad, is ∙ stays)

-- a side that wasn't asked
pub reach-carried : (command : Command) (other : Option Reply) (old new : Side) (stale left : List Bool) (m n : Array) → Reaches command other None old new → (Trails old.memory.chart stale m → Trails old.memory.chart left n) → Agrees old stale m → Agrees new left n
reach-carried command other old new stale left m n reach carry agrees =
    let r = reach-none command other old new reach in
    subst (λ (s : Side). Agrees s left n) (sym r.1) (carried old.standing old.memory.chart stale left m n r.0 carry agrees)

-- ---- the pair

-- a command has one answer, and leaves one array
abbrev pub IsOne : Type 0
IsOne = (m n k : Array) (command : Command) (a b : Answer) → Step m command a n → Step m command b k → (a ≡ b) × (n ≡ k)

pub either-left : (a b : Bool) → a ≡ true → IsTrue (a || b)
either-left a b e = rw e refl

pub either-right : (a b : Bool) → b ≡ true → IsTrue (a || b)
either-right true b e = refl
either-right false b e = e

pub neither : (a b : Bool) → a ≡ false → b ≡ false → IsTrue (a || b) → ⊥
neither a b not_so none so = let clash : false ≡ true = rw (not_so, none) at so in cc

-- a pair with a good side whose sides agree mirrors the array
pub mirrors : (p : Pair) (n : Array) (left : List Bool) → p.stale ≡ left → IsTrue (is_good p.first || is_good p.second) → Agrees p.first left n → Agrees p.second left n → Mirrors p n
mirrors p n left is some first second = record { some = some; first = rw is first; second = rw is second }

-- the side that alone was Good stays the one that was Good last
pub only-first : (last : Which) (first second : Standing) → Leads last first second → is_good_by first ≡ true → is_good_by second ≡ false → last ≡ First
only-first First first second leads so not_so = refl
only-first Second Good Good leads so not_so = cc
only-first Second Good Behind leads so not_so = absurd leads
only-first Second Good Gone leads so not_so = absurd leads
only-first Second Behind second leads so not_so = cc
only-first Second Gone second leads so not_so = cc

-- where the second side alone is good it is the last
pub only-second : (last : Which) (first second : Standing) → Leads last first second → is_good_by first ≡ false → is_good_by second ≡ true → last ≡ Second
only-second Second first second leads not_so so = refl
only-second First Good second leads not_so so = cc
only-second First Behind second leads not_so so = absurd leads
only-second First Gone Good leads not_so so = absurd leads
only-second First Gone Behind leads not_so so = cc
only-second First Gone Gone leads not_so so = cc

-- what is lost of a pair is lost at the side that was good last
pub lost-at : (m : Array) (command : Command) (p : Pair) (one : Which) → p.last ≡ one → IsDark p → IsLost m command (side_at one p).memory.chart → Gives m command Off p
lost-at m command p one is dark lost = (dark, subst (λ (w : Which). IsLost m command (side_at w p).memory.chart) (sym is) lost)

-- which stays the last
pub lasting-one : (old new : Pair) (one : Which) → IsPair old → is_good old.second ≡ false → old.last ≡ one → new.last ≡ lasting old new → new.last ≡ one
lasting-one old new one i not_so is last = last ∙ at (is_good old.first) ∙ is
  where
    at : (b : Bool) → (if b && is_good old.second then (if is_good new.first then First else Second) else old.last) ≡ old.last
    at true = rw not_so refl
    at false = refl

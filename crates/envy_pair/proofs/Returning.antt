-- Power asked for where no side is Good.
use Rattle.std.proofs.Common.{◌≡◌, ℕ, ◌+◌, ◌<◌, Bool, true, false, List, length, replicate, refl, sym, ◌∙◌, ap, subst, arith}
use Rattle.std.specs.Prelude.{Result, Ok, Err}
use Rattle.envy_array.specs.Array.{Array}
use Rattle.envy_base.specs.declared.shape.Shape.{Shape}
use Rattle.envy_soundness.specs.Same.{Counted, Kept}
use Rattle.envy_soundness.specs.Sound.{IsSound}
use Rattle.envy_soundness.specs.Words.{durable}
use Rattle.envy_memory.specs.Calls.{fresh}
use Rattle.envy_memory.specs.Picture.{Picture}
use Rattle.envy_memory.specs.declared.faults.ReviveFault.{ReviveFault}
use Rattle.envy_memory.specs.declared.faults.ReviveFault.TheVariants.{Dead, Off}
use Rattle.envy_mirror.specs.Catching.{Wakes}
use Rattle.envy_mirror.specs.Mirroring.{Mirrors}
use Rattle.envy_mirror.specs.Pair.{Side, Pair, is_good, is_good_by, side_at, IsDark}
use Rattle.envy_mirror.specs.Reviving.{Returns, RevivesBy, with_side}
use Rattle.envy_mirror.specs.declared.standing.Standing.{Standing}
use Rattle.envy_mirror.specs.declared.standing.Standing.TheVariants.{Good, Gone}
use Rattle.envy_mirror.specs.declared.standing.Which.{Which}
use Rattle.envy_mirror.specs.declared.standing.Which.TheVariants.{First, Second}
use Rattle.envy_pair.specs.Bills.{Charged, Bill, Sums, Toll}
use Rattle.envy_pair.specs.Restarting.{no_toll, last_side, IsFallen, IsStillDark, IsBack, IsForGood}
use Rattle.envy_pair.specs.Serving.{Past, Known, side_of, state_of}
use Rattle.envy_pair.specs.State.{SideState, MirrorState, side_in, with_side_in, revived}
use Rattle.envy_pair.proofs.Charging.{add_tolls, Charged-refl, Charged-trans, Charged-woken}

-- ---- one of two sides

-- the pair with another side and other marks
abbrev pub changed : Which → Side → List Bool → Pair → Pair
changed one s left p = record (with_side one s p) { stale = left }

changed-self : (one : Which) (p : Pair) → p ≡ changed one (side_at one p) p.stale p
changed-self First p = refl
changed-self Second p = refl

changed-last : (one : Which) (s : Side) (left : List Bool) (p : Pair) → (changed one s left p).last ≡ p.last
changed-last First s left p = refl
changed-last Second s left p = refl

changed-stale : (one : Which) (s : Side) (left : List Bool) (p : Pair) → (changed one s left p).stale ≡ left
changed-stale First s left p = refl
changed-stale Second s left p = refl

changed-twice : (one : Which) (s t : Side) (left more : List Bool) (p : Pair) → changed one t more (changed one s left p) ≡ changed one t more p
changed-twice First s t left more p = refl
changed-twice Second s t left more p = refl

changed-dark : (one : Which) (s : Side) (left : List Bool) (p : Pair) → is_good s ≡ false → IsDark p → IsDark (changed one s left p)
changed-dark First s left p gone dark = (gone, dark.1)
changed-dark Second s left p gone dark = (dark.0, gone)

-- what `revive` says of the side that was Good last
pub record Asks (result : Result Unit ReviveFault) (one : Which) (old new : Pair) : Type 0 where
  pub returns : Returns result (side_at one old) old.stale (side_at one new) new.stale
  pub same : new ≡ changed one (side_at one new) new.stale old

pub asks-by : (one : Which) (result : Result Unit ReviveFault) (old new : Pair) → RevivesBy one result old new → Asks result one old new
asks-by First result old new (returns, same) = record { returns = returns; same = same }
asks-by Second result old new (returns, same) = record { returns = returns; same = same }

-- ---- until power returns

pub still-first : (p : Pair) → IsFallen p → IsStillDark p p
still-first p f = record { same = changed-self p.last p; standing = f.standing; off = f.off; sound = λ s. s; durable = refl; charged = Charged-refl (last_side p).memory }

last-same : (old now : Pair) → IsStillDark old now → now.last ≡ old.last
last-same old now still = ap (λ (p : Pair). p.last) still.same ∙ changed-last old.last (side_at old.last now) old.stale old

stale-same : (old now : Pair) → IsStillDark old now → now.stale ≡ old.stale
stale-same old now still = ap (λ (p : Pair). p.stale) still.same ∙ changed-stale old.last (side_at old.last now) old.stale old

gone-bad : (s : Side) → s.standing ≡ Gone → is_good s ≡ false
gone-bad s e = ap is_good_by e

-- no side is Good still
pub still-dark : (old now : Pair) → IsFallen old → IsStillDark old now → IsDark now
still-dark old now f still = subst IsDark (sym still.same) (changed-dark old.last (side_at old.last now) old.stale old (gone-bad (side_at old.last now) still.standing) f.dark)

-- what was asked of the pair in between, said of the pair of before
pub asked-since : (result : Result Unit ReviveFault) (old now new : Pair) → IsStillDark old now → RevivesBy now.last result now new → Asks result old.last now new
asked-since result old now new still by = subst (λ (one : Which). Asks result one now new) (last-same old now still) (asks-by now.last result now new by)

same-since : (result : Result Unit ReviveFault) (old now new : Pair) (left : List Bool) → IsStillDark old now → Asks result old.last now new → new.stale ≡ left → new ≡ changed old.last (side_at old.last new) left old
same-since result old now new left still asks marks =
    asks.same ∙ ap (λ (p : Pair). changed old.last (side_at old.last new) new.stale p) still.same ∙ changed-twice old.last (side_at old.last now) (side_at old.last new) old.stale new.stale old ∙ ap (λ (l : List Bool). changed old.last (side_at old.last new) l old) marks

none-more : (n : ℕ) → n + 0 ≡ n
none-more n = omega arith

-- power was asked for, and is off still
pub still-again : (old now new : Pair) → IsStillDark old now → RevivesBy now.last (Err Off) now new → IsStillDark old new
still-again old now new still by =
    let asks = asked-since (Err Off) old now new still by in
    let (stood, off, wakes, rose, marks) = asks.returns in
    record {
      same = same-since (Err Off) old now new old.stale still asks (marks ∙ stale-same old now still);
      standing = stood;
      off = off;
      sound = λ sound. Kept.sound wakes.kept;
      durable = Kept.durable wakes.kept ∙ still.durable;
      charged = Charged-trans no_toll no_toll (last_side old).memory (side_at old.last now).memory (side_at old.last new).memory still.charged (Charged-woken (side_at old.last now).memory (side_at old.last new).memory wakes);
    }

lives-fewer : (a b : Picture) → Wakes a b → b.chart.lives < a.chart.lives
lives-fewer a b w = let some = w.lives in let e = Counted.lives (Kept.counted w.kept) in omega arith

-- a life was spent
pub lives-again : (old now new : Pair) → IsStillDark old now → RevivesBy now.last (Err Off) now new → (side_at old.last new).memory.chart.lives < (side_at old.last now).memory.chart.lives
lives-again old now new still by =
    let asks = asked-since (Err Off) old now new still by in
    let (stood, off, wakes, rose, marks) = asks.returns in
    lives-fewer (side_at old.last now).memory (side_at old.last new).memory wakes

-- it doesn't return
pub for-good : (old now new : Pair) → IsStillDark old now → RevivesBy now.last (Err Dead) now new → IsForGood old new
for-good old now new still by =
    let asks = asked-since (Err Dead) old now new still by in
    let (none, same, marks) = asks.returns in
    record {
      still = record {
        same = same-since (Err Dead) old now new old.stale still asks (marks ∙ stale-same old now still);
        standing = ap (λ (s : Side). s.standing) same ∙ still.standing;
        off = ap (λ (s : Side). s.memory.chart.on) same ∙ still.off;
        sound = λ sound. subst (λ (s : Side). IsSound s.memory.chart) (sym same) (still.sound sound);
        durable = ap (λ (s : Side). durable s.memory.chart) same ∙ still.durable;
        charged = subst (λ (s : Side). Charged no_toll (last_side old).memory s.memory) (sym same) still.charged;
      };
      dead = ap (λ (s : Side). s.memory.chart.lives) same ∙ none;
    }

-- it is back
pub back-after : (old now new : Pair) → IsStillDark old now → RevivesBy now.last (Ok tt) now new → (let c = (side_at now.last now).memory.chart in Mirrors new (fresh c.shape.shadows (durable c))) → IsBack old new
back-after old now new still by mirrors =
    let asks = asked-since (Ok tt) old now new still by in
    let (stood, stands, restarts, wakes, marks) = asks.returns in
    let at_last : Mirrors new (fresh (side_at old.last now).memory.chart.shape.shadows (durable (side_at old.last now).memory.chart)) = subst (λ (one : Which). Mirrors new (fresh (side_at one now).memory.chart.shape.shadows (durable (side_at one now).memory.chart))) (last-same old now still) mirrors in
    record {
      same = same-since (Ok tt) old now new (replicate (length old.stale) true) still asks (marks ∙ ap (λ (l : List Bool). replicate (length l) true) (stale-same old now still));
      standing = stood;
      mirrors = subst (λ (ws : List ℕ). Mirrors new (fresh (last_side old).memory.chart.shape.shadows ws)) still.durable (subst (λ (sh : Shape). Mirrors new (fresh sh.shadows (durable (side_at old.last now).memory.chart))) (Charged.shape still.charged) at_last);
      charged = Charged-trans no_toll no_toll (last_side old).memory (side_at old.last now).memory (side_at old.last new).memory still.charged (Charged-woken (side_at old.last now).memory (side_at old.last new).memory wakes);
    }

-- ---- what becomes of a bill meanwhile

both-charged : (one : Which) (old new : Pair) (left : List Bool) → new ≡ changed one (side_at one new) left old → Charged no_toll (side_at one old).memory (side_at one new).memory → Charged no_toll old.first.memory new.first.memory × Charged no_toll old.second.memory new.second.memory
both-charged First old new left same charged = (charged, subst (λ (p : Pair). Charged no_toll old.second.memory p.second.memory) (sym same) (Charged-refl old.second.memory))
both-charged Second old new left same charged = (subst (λ (p : Pair). Charged no_toll old.first.memory p.first.memory) (sym same) (Charged-refl old.first.memory), charged)

add-none : (t : Toll) → add_tolls t no_toll ≡ t
add-none t = at (none-more t.pulls) (none-more t.plans) (none-more t.fails) (none-more t.bads)
  where
    at : t.pulls + 0 ≡ t.pulls → t.plans + 0 ≡ t.plans → t.fails + 0 ≡ t.fails → t.bads + 0 ≡ t.bads → add_tolls t no_toll ≡ t
    at a b c d = rw (a, b, c, d) refl

toll-more : (t : Toll) (a b c : Picture) → Charged t a b → Charged no_toll b c → Charged t a c
toll-more t a b c x y = subst (λ (u : Toll). Charged u a c) (add-none t) (Charged-trans t no_toll a b c x y)

pub bill-more : (sums : Sums) (old mid new : Pair) → Charged no_toll mid.first.memory new.first.memory × Charged no_toll mid.second.memory new.second.memory → Bill sums old mid → Bill sums old new
bill-more sums old mid new (first, second) b = record {
  first = b.first;
  second = b.second;
  to_first = toll-more b.first old.first.memory mid.first.memory new.first.memory b.to_first first;
  to_second = toll-more b.second old.second.memory mid.second.memory new.second.memory b.to_second second;
  pulls = b.pulls;
  faults = b.faults;
  losts = b.losts;
  plans = b.plans;
  first_falls = b.first_falls;
  second_falls = b.second_falls;
  few_pulls = b.few_pulls;
  few_faults = b.few_faults;
  few_losts = b.few_losts;
  few_first = b.few_first;
  few_second = b.few_second;
}

pub charged-back : (old new : Pair) → IsBack old new → Charged no_toll old.first.memory new.first.memory × Charged no_toll old.second.memory new.second.memory
charged-back old new back = both-charged old.last old new (replicate (length old.stale) true) back.same back.charged

pub charged-dark : (old new : Pair) → IsStillDark old new → Charged no_toll old.first.memory new.first.memory × Charged no_toll old.second.memory new.second.memory
charged-dark old new still = both-charged old.last old new old.stale still.same still.charged

-- ---- without the boards

abbrev pub good_past : Past → Standing → SideState
good_past k g = record { standing = g; falls = k.falls; dead = k.dead }

state-changed : (one : Which) (k : Known) (s : Side) (old : Pair) (left : List Bool) (w : Which) → s.standing ≡ Good → state_of k (changed one s left old) w ≡ record (with_side_in one (record (side_in one (state_of k old w)) { standing = Good }) (state_of k old w)) { stale = left }
state-changed First k s old left w good = ap (λ (g : Standing). let t : MirrorState = record { array = k.array; first = good_past k.first g; second = side_of old.second k.second; stale = left; last = old.last; chosen = w } in t) good
state-changed Second k s old left w good = ap (λ (g : Standing). let t : MirrorState = record { array = k.array; first = side_of old.first k.first; second = good_past k.second g; stale = left; last = old.last; chosen = w } in t) good

pub state-back : (k : Known) (old new : Pair) (w : Which) → IsBack old new → state_of k new w ≡ revived (state_of k old w)
state-back k old new w back = ap (λ (p : Pair). state_of k p w) back.same ∙ state-changed old.last k (side_at old.last new) old (replicate (length old.stale) true) w back.standing

-- the array that a restart finds is the one that the pair stands for then
pub mirrors-back : (m : Array) (old new : Pair) → IsBack old new → durable (last_side old).memory.chart ≡ m.words → fresh (last_side old).memory.chart.shape.shadows m.words ≡ m → Mirrors new m
mirrors-back m old new back words is_fresh =
    subst (λ (n : Array). Mirrors new n) is_fresh
    (subst (λ (ws : List ℕ). Mirrors new (fresh (last_side old).memory.chart.shape.shadows ws)) words back.mirrors)

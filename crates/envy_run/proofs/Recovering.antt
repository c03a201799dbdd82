-- A board between a failure of power and its return.
use Rattle.std.proofs.Common.{◌≡◌, ◌⊎◌, inl, inr, ℕ, ◌+◌, ◌<◌, Bool, false, List, [], ◌∷◌, ◌++◌, length, Option, refl, sym, ◌∙◌, ap, subst, arith}
use Rattle.std.proofs.lemmas.List.{length-append}
use Rattle.envy_base.specs.declared.faults.PlannedFault.{PlannedFault}
use Rattle.envy_base.specs.declared.shape.Shape.{Shape}
use Rattle.envy_map.specs.Fields.{Chart}
use Rattle.envy_soundness.specs.Same.{Counted, Grows, Kept}
use Rattle.envy_meaning.specs.Stands.{Stands}
use Rattle.envy_soundness.specs.Words.{durable}
use Rattle.envy_memory.proofs.Counted.{RoseBy-trans, RoseOver-trans}
use Rattle.envy_memory.specs.Calls.{fresh, lit}
use Rattle.envy_memory.specs.Picture.{Picture, counts_of}
use Rattle.envy_table.specs.Hits.{Empties}
use Rattle.envy_run.specs.Licence.{Licence, newest, plans_in}
use Rattle.envy_serve.specs.Turns.{Turn, count_lines, one_if}
use Rattle.envy_run.specs.Restarts.{IsStillOff, IsBack, Restarts}
use Rattle.envy_run.specs.Tells.{CountsStay}
use Rattle.envy_run.proofs.Replying.{Licence-counted}

newest-newest : (xs ys : List PlannedFault) (before : Option PlannedFault) → newest xs (newest ys before) ≡ newest (xs ++ ys) before
newest-newest [] ys before = refl
newest-newest (x ∷ xs) ys before = refl

pub Licence-trans : (a : ℕ) (b : List PlannedFault) (c d i : ℕ) (j : List PlannedFault) (k l : ℕ) (p q r : Chart) → Licence a b c d p q → Licence i j k l q r → Licence (a + i) (j ++ b) (c + k) (d + l) p r
Licence-trans a b c d i j k l p q r x y = record {
  shape = y.shape ∙ x.shape;
  given = y.given ∙ x.given;
  pulled = RoseBy-trans a i _ _ _ x.pulled y.pulled;
  plans_made = let both = RoseBy-trans (length b) (length j) _ _ _ x.plans_made y.plans_made in let long = length-append j b in λ lt. let e = both (omega arith) in omega arith;
  last_plan = y.last_plan ∙ ap (newest j) x.last_plan ∙ newest-newest j b p.last_plan;
  cuts = let both = RoseOver-trans (a + c) (i + k) _ _ _ x.cuts y.cuts in record { kept = both.kept; rise = λ lt. let le = both.rise lt in omega arith };
  bads = RoseOver-trans d l _ _ _ x.bads y.bads;
}

-- as many failures as lines that plan one
pub plans-count : {Line Reply : Type 0} (plan : Line → List PlannedFault) (test : Line → Bool) → ((line : Line) → length (plan line) ≡ one_if (test line)) → (turns : List (Turn Line Reply)) → length (plans_in plan turns) ≡ count_lines test turns
plans-count plan test each [] = refl
plans-count plan test each (turn ∷ earlier) = let long = length-append (plan turn.line) (plans_in plan earlier) in let here = each turn.line in let rest = plans-count plan test each earlier in omega arith

-- asking for power once
pub Licence-revived : (c d : Chart) → Kept (lit c) d → Licence 0 [] 0 0 c d
Licence-revived c d kept = let counted = kept.counted in let made = Licence-counted 0 0 0 0 (lit c) d kept.shape counted (λ lt. let le = counted.cuts in omega arith) (λ lt. let le = counted.bads in omega arith) in
    record { shape = made.shape; given = made.given; pulled = made.pulled; plans_made = made.plans_made; last_plan = made.last_plan; cuts = made.cuts; bads = made.bads }

-- asking for power once begins nothing
CountsStay-more : (a b c : Picture) → CountsStay a b → Kept (lit b.chart) c.chart → counts_of c.parts ≡ counts_of b.parts → length c.parts.cache.entries ≡ length b.parts.cache.entries → CountsStay a c
CountsStay-more a b c stay kept counts size =
    let few = Counted.few kept.counted in
    let low = Counted.begun kept.counted in
    let least = Grows.least (Counted.erases kept.counted) in
    let most = Grows.few (Counted.erases kept.counted) in
    let begun = stay.begun in
    let erases = stay.erases in
    record { size = size ∙ stay.size; counts = counts ∙ stay.counts; begun = omega arith; erases = omega arith }

-- power was asked for once more, and failed once more
pub StillOff-more : (a b c : Picture) → IsStillOff a b → Kept (lit b.chart) c.chart → c.chart.fields.version ≡ b.chart.fields.version → c.chart.on ≡ false → counts_of c.parts ≡ counts_of b.parts → length c.parts.cache.entries ≡ length b.parts.cache.entries → IsStillOff a c
StillOff-more a b c still kept version off counts size = record {
  off = off;
  shape = kept.shape ∙ still.shape;
  magic = kept.magic ∙ still.magic;
  version = version ∙ still.version;
  sound = λ s. kept.sound;
  durable = kept.durable ∙ still.durable;
  licence = Licence-trans 0 [] 0 0 0 [] 0 0 a.chart b.chart c.chart still.licence (Licence-revived b.chart c.chart kept);
  counts = CountsStay-more a b c still.counts kept counts size;
}

-- power was asked for, and is off still
pub StillOff-again : {E : Type 0} (a b c : Picture) → IsStillOff a b → (E × (c ≡ b)) ⊎ (Kept (lit b.chart) c.chart × (c.chart.on ≡ false)) → c.chart.fields.version ≡ b.chart.fields.version → counts_of c.parts ≡ counts_of b.parts → length c.parts.cache.entries ≡ length b.parts.cache.entries → IsStillOff a c
StillOff-again a b c still (inl (never, same)) version counts size = subst (λ (x : Picture). IsStillOff a x) (sym same) still
StillOff-again a b c still (inr (kept, off)) version counts size = StillOff-more a b c still kept version off counts size

lives-none : {E : Type 0} (b c : Picture) → (E × (c ≡ b)) ⊎ (Kept (lit b.chart) c.chart × (c.chart.on ≡ false)) → b.chart.lives ≡ 0 → c.chart.lives ≡ 0
lives-none b c (inl (never, same)) none = ap (λ (x : Picture). x.chart.lives) same ∙ none
lives-none b c (inr (kept, off)) none = let e = Counted.lives kept.counted in omega arith

-- and then it is off for good
pub StillOff-dead : {E : Type 0} (a b c : Picture) → IsStillOff a b → (E × (c ≡ b)) ⊎ (Kept (lit b.chart) c.chart × (c.chart.on ≡ false)) → c.chart.fields.version ≡ b.chart.fields.version → counts_of c.parts ≡ counts_of b.parts → length c.parts.cache.entries ≡ length b.parts.cache.entries → b.chart.lives ≡ 0 → Restarts false a c
StillOff-dead a b c still asked version counts size none = (StillOff-again a b c still asked version counts size, lives-none b c asked none)

-- or it is back
pub Back-after : (a b c : Picture) → IsStillOff a b → Kept (lit b.chart) c.chart → Stands c.chart (fresh b.chart.shape.shadows (durable b.chart)) → counts_of c.parts ≡ counts_of b.parts → length c.parts.cache.entries ≡ length b.parts.cache.entries → Empties b.parts.cache c.parts.cache → IsBack a c
Back-after a b c still kept stands counts size empties = record {
  stands = subst (λ (ws : List ℕ). Stands c.chart (fresh a.chart.shape.shadows ws)) still.durable (subst (λ (n : ℕ). Stands c.chart (fresh n (durable b.chart))) (ap (λ (sh : Shape). sh.shadows) still.shape) stands);
  licence = Licence-trans 0 [] 0 0 0 [] 0 0 a.chart b.chart c.chart still.licence (Licence-revived b.chart c.chart kept);
  counts = CountsStay-more a b c still.counts kept counts size;
  vacant = empties.pages;
}

pub lives-fewer : (b c : Chart) → Kept (lit b) c → 0 < b.lives → c.lives < b.lives
lives-fewer b c kept some = let e = Counted.lives kept.counted in omega arith

-- Work within a budget.
use Rattle.std.proofs.Common.{◌≡◌, inl, inr, ℕ, ◌+◌, ◌-◌, ◌*◌, ◌<◌, ◌≤◌, List, [], length, get_or, drop, Option, Some, None, refl, sym, ◌∙◌, ap, subst, arith}
use Rattle.std.proofs.lemmas.List.{length-drop}
use Rattle.std.proofs.Math.Nat.{mul-le-mul_right}
use Rattle.envy_base.specs.Shape.{IsShape}
use Rattle.envy_base.specs.declared.fields.Job.{Job}
use Rattle.envy_base.specs.declared.fields.Job.TheVariants.{Idle, Copy, Switch, Erase}
use Rattle.envy_map.specs.Fields.{Chart}
use Rattle.envy_soundness.specs.Same.{Same}
use Rattle.envy_soundness.specs.Sound.{IsSound, Sound, Jobs}
use Rattle.envy_soundness.proofs.Composition.{Same-refl, Same-trans, Same-more}
use Rattle.envy_soundness.proofs.SpareLemmas.{some-spare}
use Rattle.envy_reloc.specs.Effort.{LeftOf}
use Rattle.envy_engine.specs.Budgets.{Budget, Spends, Going, StageBegins}
use Rattle.envy_reloc.specs.Plan.{Plan}
use Rattle.envy_reloc.specs.Phases.{SameOnce}
use Rattle.envy_reloc.specs.Effort.{Leaves, Spent}
use Rattle.envy_engine.specs.declared.parts.Parts.{Parts}

pub Going-start : (c : Chart) (x : Parts) (n e s n2 e2 s2 : ℕ) → IsSound c → Budget c x n e s → n ≤ n2 → e ≤ e2 → s ≤ s2 → Going c c x n2 e2 s2 0
Going-start c x n e s n2 e2 s2 sound b le less few = record {
  work = record { programs = 0; erases = 0; left_n = n; left_e = e; left_s = s; same = Same-refl c sound; left = b; few = omega arith; few_erases = omega arith; fewer = few };
  count = omega arith;
}

pub Going-more : (c d f : Chart) (x y : Parts) (n e s t : ℕ) → (g : Going c d x n e s t) → (w : Spends d f y (Spends.left_n (Going.work g)) (Spends.left_e (Going.work g)) (Spends.left_s (Going.work g))) → Spends.left_s w < Spends.left_s (Going.work g) → Going c f y n e s (t + 1)
Going-more c d f x y n e s t g w lt =
    let a = Going.work g in
    let a1 = a.few in let a2 = a.few_erases in let a3 = a.fewer in let a4 = g.count in
    let w1 = w.few in let w2 = w.few_erases in let w3 = w.fewer in
    record {
      work = record {
        programs = a.programs + w.programs;
        erases = a.erases + w.erases;
        left_n = w.left_n;
        left_e = w.left_e;
        left_s = w.left_s;
        same = Same-trans a.programs a.erases w.programs w.erases c d f a.same w.same;
        left = w.left;
        few = omega arith;
        few_erases = omega arith;
        fewer = omega arith;
      };
      count = omega arith;
    }

pub Going-stops : (c d f : Chart) (x : Parts) (n e s t : ℕ) → (g : Going c d x n e s t) → Same 1 1 d f → Same (n + 1) (e + 1) c f
Going-stops c d f x n e s t g stop =
    let a = Going.work g in let a1 = a.few in let a2 = a.few_erases in
    Same-more (a.programs + 1) (a.erases + 1) (n + 1) (e + 1) c f (omega arith) (omega arith) (Same-trans a.programs a.erases 1 1 c d f a.same stop)

-- the work of the steps that were made
pub Going-same : (c d : Chart) (x : Parts) (n e s t : ℕ) → Going c d x n e s t → Same n e c d
Going-same c d x n e s t g =
    let a = Going.work g in let a1 = a.few in let a2 = a.few_erases in
    Same-more a.programs a.erases n e c d (omega arith) (omega arith) a.same

pub Going-last : (c d f : Chart) (x y : Parts) (n e s t : ℕ) → (g : Going c d x n e s t) → Spends d f y (Spends.left_n (Going.work g)) (Spends.left_e (Going.work g)) (Spends.left_s (Going.work g)) → Same n e c f
Going-last c d f x y n e s t g w =
    let a = Going.work g in let a1 = a.few in let a2 = a.few_erases in
    let w1 = w.few in let w2 = w.few_erases in
    Same-more (a.programs + w.programs) (a.erases + w.erases) n e c f (omega arith) (omega arith) (Same-trans a.programs a.erases w.programs w.erases c d f a.same w.same)

-- a step of the job
pub Turns-job : (c new : Chart) (x y : Parts) → new.shape ≡ c.shape → y.stages ≡ x.stages → ((n e s : ℕ) → Leaves c x.reloc n e s → Spent c new y.reloc n e s) → (n e s : ℕ) → Budget c x n e s → (w : Spends c new y n e s) × (Spends.left_s w < s)
Turns-job c new x y shape stages step n e s b = at (step b.own_n b.own_e b.own_s b.own)
  where
    at : Spent c new y.reloc b.own_n b.own_e b.own_s → (w : Spends c new y n e s) × (Spends.left_s w < s)
    at t =
        let m = length x.stages in
        let many : length y.stages ≡ length x.stages = ap (λ (xs : List ℕ). length xs) stages in
        let p1 = b.programs in let p2 = b.erases in let p3 = b.steps in
        let t1 = t.few in let t2 = t.few_erases in let t3 = t.fewer in
        let a = length x.stages * c.shape.rows in
        let d = length x.stages * (c.shape.rows + 4) in (
          record {
            programs = t.programs;
            erases = t.erases;
            left_n = t.left_n + length x.stages * c.shape.rows;
            left_e = t.left_e + length x.stages;
            left_s = t.left_s + length x.stages * (c.shape.rows + 4);
            same = t.same;
            left = record { own_n = t.left_n; own_e = t.left_e; own_s = t.left_s; own = t.left; programs = rw (shape, many) refl; erases = rw many refl; steps = rw (shape, many) refl };
            few = fewer t.programs t.left_n b.own_n (length x.stages * c.shape.rows) n t1 p1;
            few_erases = fewer t.erases t.left_e b.own_e (length x.stages) e t2 p2;
            fewer = below t.left_s b.own_s (length x.stages * (c.shape.rows + 4)) s t3 p3;
          },
          strictly t.left_s b.own_s (length x.stages * (c.shape.rows + 4)) s t3 p3,
        )
      where
        fewer : (a b k m n : ℕ) → a + b ≤ k → n ≡ k + m → a + (b + m) ≤ n
        fewer a b k m n le is = omega arith

        below : (b k m s : ℕ) → b < k → s ≡ k + m → b + m ≤ s
        below b k m s le is = omega arith

        strictly : (b k m s : ℕ) → b < k → s ≡ k + m → b + m < s
        strictly b k m s le is = omega arith

-- nothing is left of a job where none runs
idle-left : (c : Chart) (t : Plan) (n e s : ℕ) → c.fields.job ≡ Some Idle → Leaves c t n e s → (n ≡ 0) × (e ≡ 0) × (s ≡ 0)
idle-left c t n e s idle left = subst (λ (j : Option Job). LeftOf c.shape j c.fields.fills c.fields.positions t.moves n e s) idle left

-- a stage of a swap begins
pub Turns-stage : (c new : Chart) (x y : Parts) → IsSound c → IsShape c.shape → c.fields.job ≡ Some Idle → 0 < length x.stages → y.stages ≡ drop 1 x.stages → Same 0 0 c new → StageBegins c new y.reloc → (n e s : ℕ) → Budget c x n e s → (w : Spends c new y n e s) × (Spends.left_s w < s)
Turns-stage c new x y sound shape idle some rest same begins n e s b = at begins
  where
    own : (b.own_n ≡ 0) × (b.own_e ≡ 0) × (b.own_s ≡ 0)
    own = idle-left c x.reloc b.own_n b.own_e b.own_s idle b.own

    more : length x.stages ≡ length y.stages + 1
    more = let d = length-drop 1 x.stages in let r : length y.stages ≡ length (drop 1 x.stages) = ap (λ (xs : List ℕ). length xs) rest in omega arith

    zero_more : (k : ℕ) → 0 + k ≡ k
    zero_more k = omega arith

    product : (k r : ℕ) → (k + 1) * r ≡ k * r + r
    product k r = omega arith

    numbers : n ≡ length y.stages * c.shape.rows + c.shape.rows
    numbers = let p = b.programs in let o = own.0 in p ∙ ap (λ (k : ℕ). k + length x.stages * c.shape.rows) o ∙ zero_more _ ∙ ap (λ (k : ℕ). k * c.shape.rows) more ∙ product (length y.stages) c.shape.rows

    steps : s ≡ length y.stages * (c.shape.rows + 4) + (c.shape.rows + 4)
    steps = let p = b.steps in let o = own.2 in p ∙ ap (λ (k : ℕ). k + length x.stages * (c.shape.rows + 4)) o ∙ zero_more _ ∙ ap (λ (k : ℕ). k * (c.shape.rows + 4)) more ∙ product (length y.stages) (c.shape.rows + 4)

    erased : e ≡ length y.stages + 1
    erased = let p = b.erases in let o = own.1 in let m = more in omega arith

    few : (a m r n : ℕ) → n ≡ m + r → a ≤ r → 0 + (a + m) ≤ n
    few a m r n is le = omega arith

    strictly : (a m r s : ℕ) → s ≡ m + (r + 4) → a ≤ r → (a + 3) + m < s
    strictly a m r s is le = omega arith

    below : (a m r s : ℕ) → s ≡ m + (r + 4) → a ≤ r → (a + 3) + m ≤ s
    below a m r s is le = omega arith

    at : StageBegins c new y.reloc → (w : Spends c new y n e s) × (Spends.left_s w < s)
    at (v, is, moves) =
        let spare = some-spare c.shape c.fields c.flash sound shape in
        let one = erased in
        let k = c.shape.rows - get_or c.fields.fills spare.0 0 in
        let few_rows : c.shape.rows - get_or c.fields.fills spare.0 0 ≤ c.shape.rows = omega arith in
        let own : Leaves new y.reloc (c.shape.rows - get_or c.fields.fills spare.0 0) 1 (c.shape.rows - get_or c.fields.fills spare.0 0 + 3) = rw (is, moves) (spare.0, spare.1, sym (zero_more _), refl, refl) in (
          record {
            programs = 0;
            erases = 0;
            left_n = c.shape.rows - get_or c.fields.fills spare.0 0 + length y.stages * c.shape.rows;
            left_e = 1 + length y.stages;
            left_s = (c.shape.rows - get_or c.fields.fills spare.0 0 + 3) + length y.stages * (c.shape.rows + 4);
            same = same;
            left = record { own_n = _; own_e = 1; own_s = _; own = own; programs = rw is refl; erases = refl; steps = rw is refl };
            few = few _ _ _ n numbers few_rows;
            few_erases = omega arith;
            fewer = below _ _ c.shape.rows s steps few_rows;
          },
          strictly _ _ c.shape.rows s steps few_rows,
        )

-- the work that is left at a start: a job and two stages at most
pub Budget-start : (c : Chart) (x : Parts) → IsSound c → IsShape c.shape → length x.reloc.moves ≤ 4 → length x.stages ≤ 2 → (n : ℕ) × (e : ℕ) × (s : ℕ) × Budget c x n e s × (n ≤ 3 * c.shape.rows + 4) × (e ≤ 3) × (s ≤ 3 * c.shape.rows + 15)
Budget-start c x sound shape four two = at (own c.fields.job refl)
  where
    own : (j : Option Job) → c.fields.job ≡ j → (n : ℕ) × (e : ℕ) × (s : ℕ) × LeftOf c.shape j c.fields.fills c.fields.positions x.reloc.moves n e s × (n ≤ c.shape.rows + 4) × (e ≤ 1) × (s ≤ c.shape.rows + 7)
    own None is = absurd (Jobs.decodes (Sound.job sound) is)
    own (Some Idle) is = (0, 0, 0, (refl, refl, refl), omega arith, omega arith, omega arith)
    own (Some (Copy v)) is =
        let spare = some-spare c.shape c.fields c.flash sound shape in
        (length x.reloc.moves + (c.shape.rows - get_or c.fields.fills spare.0 0), 1, length x.reloc.moves + (c.shape.rows - get_or c.fields.fills spare.0 0) + 3, (spare.0, spare.1, refl, refl, refl), omega arith, omega arith, omega arith)
    own (Some (Switch v)) is = (0, 1, 2, (refl, refl, refl), omega arith, omega arith, omega arith)
    own (Some Erase) is = (0, 1, 1, (refl, refl, refl), omega arith, omega arith, omega arith)

    scaled : (k r : ℕ) → k ≤ 2 → k * r ≤ 2 * r
    scaled k r le = mul-le-mul_right r le

    at : (n : ℕ) × (e : ℕ) × (s : ℕ) × LeftOf c.shape c.fields.job c.fields.fills c.fields.positions x.reloc.moves n e s × (n ≤ c.shape.rows + 4) × (e ≤ 1) × (s ≤ c.shape.rows + 7) → (n : ℕ) × (e : ℕ) × (s : ℕ) × Budget c x n e s × (n ≤ 3 * c.shape.rows + 4) × (e ≤ 3) × (s ≤ 3 * c.shape.rows + 15)
    at (n, e, s, left, a, b, d) =
        let few = scaled (length x.stages) c.shape.rows two in
        let many = scaled (length x.stages) (c.shape.rows + 4) two in
        (n + length x.stages * c.shape.rows, e + length x.stages, s + length x.stages * (c.shape.rows + 4), record { own_n = n; own_e = e; own_s = s; own = left; programs = refl; erases = refl; steps = refl }, omega arith, omega arith, omega arith)

-- a step begins a program and an erase at most
pub step-both : (c d : Chart) → SameOnce c d → Same 1 1 c d
step-both c d (inl program) = Same-more 1 0 1 1 c d (omega arith) (omega arith) program
step-both c d (inr erase) = Same-more 0 1 1 1 c d (omega arith) (omega arith) erase

-- the work of a relocation that has begun
pub Budget-begun : (c : Chart) (x : Parts) (v : ℕ) → IsSound c → IsShape c.shape → c.fields.job ≡ Some (Copy v) → x.stages ≡ [] → length x.reloc.moves ≤ 4 → (n : ℕ) × (e : ℕ) × (s : ℕ) × Budget c x n e s × (n ≤ c.shape.rows + 4) × (e ≤ 1) × (s ≤ c.shape.rows + 7)
Budget-begun c x v sound shape copying none four =
    let spare = some-spare c.shape c.fields c.flash sound shape in
    let n = length x.reloc.moves + (c.shape.rows - get_or c.fields.fills spare.0 0) in
    let few : length x.reloc.moves + (c.shape.rows - get_or c.fields.fills spare.0 0) ≤ c.shape.rows + 4 = omega arith in
    let zero : (r : ℕ) → 0 * r ≡ 0 = λ r. omega arith in (
      length x.reloc.moves + (c.shape.rows - get_or c.fields.fills spare.0 0),
      1,
      length x.reloc.moves + (c.shape.rows - get_or c.fields.fills spare.0 0) + 3,
      record {
        own_n = length x.reloc.moves + (c.shape.rows - get_or c.fields.fills spare.0 0);
        own_e = 1;
        own_s = length x.reloc.moves + (c.shape.rows - get_or c.fields.fills spare.0 0) + 3;
        own = subst (λ (j : Option Job). LeftOf c.shape j c.fields.fills c.fields.positions x.reloc.moves (length x.reloc.moves + (c.shape.rows - get_or c.fields.fills spare.0 0)) 1 (length x.reloc.moves + (c.shape.rows - get_or c.fields.fills spare.0 0) + 3)) (sym copying) (spare.0, spare.1, refl, refl, refl);
        programs = rw (none, zero c.shape.rows) (omega arith);
        erases = rw none (omega arith);
        steps = rw (none, zero (c.shape.rows + 4)) (omega arith);
      },
      few,
      omega arith,
      omega arith,
    )

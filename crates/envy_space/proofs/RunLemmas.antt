-- The best entries of runs of places, and of the run below a node.
use Rattle.std.proofs.Common.{◌≡◌, ◌⊎◌, inl, inr, ℕ, zero, suc, ◌+◌, ◌-◌, ◌*◌, ◌^◌, ◌<◌, ◌≤◌, Bool, true, false, cond, ◌≢◌, List, length, get_or, set, get_or-set_same, get_or-set_other, refl, sym, ◌∙◌, ap, subst, arith}
use Rattle.std.specs.Prelude.{nat_lt}
use Rattle.std.proofs.lemmas.Bool.{cases_lt, ltb-true, ltb-false}
use Rattle.std.proofs.Math.Nat.{two-pow-succ, mul-le-mul_left, mul-le-mul_right}
use Rattle.std.proofs.lemmas.Nat.{pow_pos}
use Rattle.envy_space.specs.declared.nodes.Entry.{Entry}
use Rattle.envy_space.specs.Winners.{IsTree, IsRun, node, better, score_in}

-- the better of the best of two runs side by side is the best of both
pub IsRun-better : (score : ℕ → ℕ) (first mid end : ℕ) (a b : Entry) → first ≤ mid → mid ≤ end → IsRun score first mid a → IsRun score mid end b → IsRun score first end (better a b)
IsRun-better score first mid end a b low high left right = at (nat_lt a.score b.score) refl
  where
    in_left : a.score < b.score → (k : ℕ) → first ≤ k → k < end → (k < mid) ⊎ (mid ≤ k) → score k ≤ b.score
    in_left less k above below (inl lt) = let most = left.most k above lt in omega arith
    in_left less k above below (inr ge) = right.most k ge below

    lower : a.score < b.score → 0 < b.score → (k : ℕ) → first ≤ k → k < b.place → (k < mid) ⊎ (mid ≤ k) → score k < b.score
    lower less some k above below (inl lt) = let most = left.most k above lt in omega arith
    lower less some k above below (inr ge) = right.lowest some k ge below

    in_right : b.score ≤ a.score → (k : ℕ) → first ≤ k → k < end → (k < mid) ⊎ (mid ≤ k) → score k ≤ a.score
    in_right more k above below (inl lt) = left.most k above lt
    in_right more k above below (inr ge) = let most = right.most k ge below in omega arith

    at : (t : Bool) → nat_lt a.score b.score ≡ t → IsRun score first end (cond (nat_lt a.score b.score) b a)
    at true e =
        let less = ltb-true a.score b.score e in
        rw e (record {
          most = λ k above below. in_left less k above below (cases_lt k mid);
          above = λ some. let more = right.above some in omega arith;
          below = right.below;
          has = right.has;
          lowest = λ some k above below. lower less some k above below (cases_lt k mid);
        })
    at false e =
        let more = ltb-false a.score b.score e in
        rw e (record {
          most = λ k above below. in_right more k above below (cases_lt k mid);
          above = left.above;
          below = λ some. let less = left.below some in omega arith;
          has = left.has;
          lowest = left.lowest;
        })

pub IsRun-one : (score : ℕ → ℕ) (k end : ℕ) (e : Entry) → end ≡ k + 1 → e.place ≡ k → score k ≡ e.score → IsRun score k end e
IsRun-one score k end e next here is = record {
  most = λ j low high. let same : score j ≡ score k = ap score (omega arith) in omega arith;
  above = λ some. omega arith;
  below = λ some. omega arith;
  has = λ some. ap score here ∙ is;
  lowest = λ some j low high. absurd (omega arith);
}

-- a node so far above the places stands over a run of them
pub IsRun-node : (n : ℕ) (nodes : List Entry) → IsTree n nodes → (d i a b : ℕ) → a + n ≡ i * 2 ^ d → b + n ≡ (i + 1) * 2 ^ d → b ≤ n → IsRun (score_in n nodes) a b (node nodes i)
IsRun-node n nodes tree zero i a b starts stops fits =
    let place = tree.are.places a (omega arith) in
    let at : n + a ≡ i = omega arith in
    IsRun-one (score_in n nodes) a b (node nodes i) (omega arith) (ap (λ (j : ℕ). (node nodes j).place) (sym at) ∙ place) (ap (λ (j : ℕ). (node nodes j).score) at)
IsRun-node n nodes tree (suc d) zero a b starts stops fits = let some = tree.are.some in absurd (omega arith)
IsRun-node n nodes tree (suc d) (suc i) a b starts stops fits =
    let wide = two-pow-succ d in
    let some : 1 ≤ 2 ^ d = pow_pos d in
    let start : a + n ≡ 2 * suc i * 2 ^ d = starts ∙ ap (λ (w : ℕ). suc i * w) wide ∙ omega arith in
    let stop : b + n ≡ (2 * suc i + 1 + 1) * 2 ^ d = stops ∙ ap (λ (w : ℕ). (suc i + 1) * w) wide ∙ omega arith in
    let few = mul-le-mul_left (suc i + 1) some in
    let low : suc i < n = omega arith in
    subst (λ (e : Entry). IsRun (score_in n nodes) a b e) (sym (tree.right (suc i) (omega arith) low))
    (IsRun-better (score_in n nodes) a (a + 2 ^ d) b (node nodes (2 * suc i)) (node nodes (2 * suc i + 1)) (omega arith) (omega arith)
    (IsRun-node n nodes tree d (2 * suc i) a (a + 2 ^ d) start (omega arith) (omega arith))
    (IsRun-node n nodes tree d (2 * suc i + 1) (a + 2 ^ d) b (omega arith) stop fits))

-- What is left of a run lies below the nodes from low to below high, so many levels above the places. The
-- best of what is done stands in two entries, for the places before it and for those after it.
pub record Narrowed (score : ℕ → ℕ) (n first end low high : ℕ) (left right : Entry) : Type 0 where
  pub level : ℕ
  pub a : ℕ
  pub b : ℕ
  pub starts : a + n ≡ low * 2 ^ level
  pub stops : b + n ≡ high * 2 ^ level
  pub order : low ≤ high
  pub from : first ≤ a
  pub to : b ≤ end
  pub before : IsRun score first a left
  pub after : IsRun score b end right

-- the first node is done
pub Narrowed-low : (n first end low high : ℕ) (nodes : List Entry) (left right : Entry) → IsTree n nodes → end ≤ n → low < high → Narrowed (score_in n nodes) n first end low high left right → Narrowed (score_in n nodes) n first end (low + 1) high (better left (node nodes low)) right
Narrowed-low n first end low high nodes left right tree fits lt was =
    let starts = was.starts in
    let stops = was.stops in
    let less = mul-le-mul_right (2 ^ was.level) lt in
    let from = was.from in
    let to = was.to in
    record {
      level = was.level;
      a = was.a + 2 ^ was.level;
      b = was.b;
      starts = omega arith;
      stops = was.stops;
      order = omega arith;
      from = omega arith;
      to = was.to;
      before = IsRun-better (score_in n nodes) first was.a (was.a + 2 ^ was.level) left (node nodes low) from (omega arith) was.before
          (IsRun-node n nodes tree was.level low was.a (was.a + 2 ^ was.level) starts (omega arith) (omega arith));
      after = was.after;
    }

-- the last node is done
pub Narrowed-high : (n first end low high : ℕ) (nodes : List Entry) (left right : Entry) → IsTree n nodes → end ≤ n → low ≤ high → Narrowed (score_in n nodes) n first end low (high + 1) left right → Narrowed (score_in n nodes) n first end low high left (better (node nodes high) right)
Narrowed-high n first end low high nodes left right tree fits le was =
    let starts = was.starts in
    let stops = was.stops in
    let less = mul-le-mul_right (2 ^ was.level) le in
    let from = was.from in
    let to = was.to in
    record {
      level = was.level;
      a = was.a;
      b = was.b - 2 ^ was.level;
      starts = was.starts;
      stops = omega arith;
      order = le;
      from = was.from;
      to = omega arith;
      before = was.before;
      after = IsRun-better (score_in n nodes) (was.b - 2 ^ was.level) was.b end (node nodes high) right (omega arith) to
          (IsRun-node n nodes tree was.level high (was.b - 2 ^ was.level) was.b (omega arith) stops (omega arith)) was.after;
    }

-- a level up
pub Narrowed-up : (score : ℕ → ℕ) (n first end low high : ℕ) (left right : Entry) → Narrowed score n first end (2 * low) (2 * high) left right → Narrowed score n first end low high left right
Narrowed-up score n first end low high left right was =
    let order = was.order in
    record {
      level = suc was.level;
      a = was.a;
      b = was.b;
      starts = was.starts ∙ (omega arith) ∙ ap (λ (w : ℕ). low * w) (sym (two-pow-succ was.level));
      stops = was.stops ∙ (omega arith) ∙ ap (λ (w : ℕ). high * w) (sym (two-pow-succ was.level));
      order = omega arith;
      from = was.from;
      to = was.to;
      before = was.before;
      after = was.after;
    }

pub IsRun-same : (f g : ℕ → ℕ) (first end : ℕ) (e : Entry) → ((k : ℕ) → first ≤ k → k < end → f k ≡ g k) → IsRun f first end e → IsRun g first end e
IsRun-same f g first end e same run = record {
  most = λ k low high. let is = same k low high in let most = run.most k low high in omega arith;
  above = run.above;
  below = run.below;
  has = λ some. sym (same e.place (run.above some) (run.below some)) ∙ run.has some;
  lowest = λ some k low high. let below = run.below some in let is = same k low (omega arith) in let less = run.lowest some k low high in omega arith;
}

-- Runs of scores of which one is another: those without that place, and those around it.
module _ (xs ys : List ℕ) (o : Entry) (is : set xs o.place o.score ≡ ys) where
  elsewhere : (k : ℕ) → k ≢ o.place → get_or xs k 0 ≡ get_or ys k 0
  elsewhere k apart = sym (get_or-set_other xs o.place k o.score 0 apart) ∙ ap (λ (zs : List ℕ). get_or zs k 0) is

  pub IsRun-apart : (first end : ℕ) (e : Entry) → ((k : ℕ) → first ≤ k → k < end → k ≢ o.place) → IsRun (λ (k : ℕ). get_or xs k 0) first end e → IsRun (λ (k : ℕ). get_or ys k 0) first end e
  IsRun-apart first end e apart run = IsRun-same (λ (k : ℕ). get_or xs k 0) (λ (k : ℕ). get_or ys k 0) first end e (λ k low high. elsewhere k (apart k low high)) run

  pub IsRun-around : (first end : ℕ) (left right e : Entry) → o.place < length xs → first ≤ o.place → o.place < end → IsRun (λ (k : ℕ). get_or xs k 0) first o.place left → IsRun (λ (k : ℕ). get_or xs k 0) (o.place + 1) end right → e ≡ better (better left o) right → IsRun (λ (k : ℕ). get_or ys k 0) first end e
  IsRun-around first end left right e within low high before behind both =
      let here : get_or ys o.place 0 ≡ o.score = ap (λ (zs : List ℕ). get_or zs o.place 0) (sym is) ∙ get_or-set_same xs o.place o.score 0 within in
      let one = IsRun-one (λ (k : ℕ). get_or ys k 0) o.place (o.place + 1) o refl refl here in
      let front = IsRun-apart first o.place left (λ k above below same. absurd (omega arith)) before in
      let back = IsRun-apart (o.place + 1) end right (λ k above below same. absurd (omega arith)) behind in
      subst (λ (x : Entry). IsRun (λ (k : ℕ). get_or ys k 0) first end x) (sym both)
      (IsRun-better (λ (k : ℕ). get_or ys k 0) first (o.place + 1) end (better left o) right (omega arith) (omega arith)
      (IsRun-better (λ (k : ℕ). get_or ys k 0) first o.place (o.place + 1) left o (omega arith) (omega arith) front one)
      back)

-- What a plan counts.
use Rattle.std.proofs.Common.{◌≡◌, inl, inr, ℕ, List, ◌∷◌, ◌++◌, length, Some, refl, sym, ◌∙◌, ap, subst, arith}
use Rattle.std.specs.Prelude.{All, drop, sum}
use Rattle.std.proofs.lemmas.List.Elements.{All-head, All-drop}
use Rattle.std.proofs.lemmas.Option.{none-some, same_Some}
use Rattle.std.proofs.Math.Seq.{drop-append_seam}
use Rattle.envy_base.specs.declared.fields.Job.TheVariants.{Copy}
use Rattle.envy_base.specs.declared.shape.Shape.{Shape}
use Rattle.envy_base.specs.Counting.{Tally}
use Rattle.envy_map.specs.Fields.{Fields, Chart}
use Rattle.envy_soundness.specs.Same.{Same, Stays, Counted}
use Rattle.envy_soundness.specs.Sound.{IsKept}
use Rattle.envy_reloc.specs.Phases.{CountsBegun, CountsApart, HasNoMove, IsFirstMove, NextMove}
use Rattle.envy_reloc.specs.Plan.{Plan}
use Rattle.envy_reloc.specs.Rows.{IsLowestRoom}
use Rattle.envy_reloc.specs.declared.row_move.Move.{Move}

-- what a plan counts, by the counts of one phase
pub counts_by_copy : (old new : Chart) (plan then_plan : Plan) → Same 1 0 old new → Tally old.begun plan.copied new.begun then_plan.copied → then_plan.moved ≡ plan.moved → then_plan.erased ≡ plan.erased → then_plan.since ≡ plan.since → CountsBegun old plan new then_plan
counts_by_copy old new plan then_plan same t moved erased since =
    let x = t.first in
    let y = t.second in
    let grows = Counted.erases (Stays.counted (Same.stays same)) in
    let least = grows.least in
    let few = grows.few in
    record {
      copied = y;
      moved = omega arith;
      programs = λ l m n. let z = t.same l m in omega arith;
      erases = record { first = omega arith; second = omega arith; same = λ l m. omega arith };
      since = record { first = omega arith; second = omega arith; same = λ l m. omega arith };
    }

pub counts_by_move : (old new : Chart) (plan then_plan : Plan) → Same 1 0 old new → Tally old.begun plan.moved new.begun then_plan.moved → then_plan.copied ≡ plan.copied → then_plan.erased ≡ plan.erased → then_plan.since ≡ plan.since → CountsBegun old plan new then_plan
counts_by_move old new plan then_plan same t copied erased since =
    let x = t.first in
    let y = t.second in
    let grows = Counted.erases (Stays.counted (Same.stays same)) in
    let least = grows.least in
    let few = grows.few in
    record {
      copied = omega arith;
      moved = y;
      programs = λ l m n. let z = t.same l n in omega arith;
      erases = record { first = omega arith; second = omega arith; same = λ l m. omega arith };
      since = record { first = omega arith; second = omega arith; same = λ l m. omega arith };
    }

pub counts_by_erase : (old new : Chart) (plan then_plan : Plan) → Same 0 1 old new → Tally (sum old.erases) plan.erased (sum new.erases) then_plan.erased → Tally (sum old.erases) plan.since (sum new.erases) then_plan.since → then_plan.copied ≡ plan.copied → then_plan.moved ≡ plan.moved → CountsBegun old plan new then_plan
counts_by_erase old new plan then_plan same t u copied moved =
    let least = Counted.begun (Stays.counted (Same.stays same)) in
    let few = Counted.few (Stays.counted (Same.stays same)) in
    record { copied = omega arith; moved = omega arith; programs = λ l m n. omega arith; erases = t; since = u }

pub counts_by_none : (old new : Chart) (plan then_plan : Plan) → Same 0 0 old new → then_plan.copied ≡ plan.copied → then_plan.moved ≡ plan.moved → then_plan.erased ≡ plan.erased → then_plan.since ≡ plan.since → CountsBegun old plan new then_plan
counts_by_none old new plan then_plan same copied moved erased since =
    let grows = Counted.erases (Stays.counted (Same.stays same)) in
    let least = grows.least in
    let few = grows.few in
    let begun = Counted.begun (Stays.counted (Same.stays same)) in
    let none = Counted.few (Stays.counted (Same.stays same)) in
    record {
      copied = omega arith;
      moved = omega arith;
      programs = λ l m n. omega arith;
      erases = record { first = omega arith; second = omega arith; same = λ l m. omega arith };
      since = record { first = omega arith; second = omega arith; same = λ l m. omega arith };
    }

pub counts_by_nothing : (old new : Chart) (plan then_plan : Plan) → new ≡ old → then_plan ≡ plan → CountsBegun old plan new then_plan
counts_by_nothing old new plan then_plan is same = rw (is, same) (record { copied = omega arith; moved = omega arith; programs = λ l m n. refl; erases = record { first = omega arith; second = omega arith; same = λ l m. refl }; since = record { first = omega arith; second = omega arith; same = λ l m. refl } })

-- a step that counts no program
pub apart_by_none : (old : Chart) (plan then_plan : Plan) → then_plan.copied ≡ plan.copied → then_plan.moved ≡ plan.moved → CountsApart old plan then_plan
apart_by_none old plan then_plan copied moved = record { copies = λ other. absurd (other copied); moves = λ other. absurd (other moved) }

-- where a next move was found, one stays
pub next-stays : (sh : Shape) (f : Fields) (v : ℕ) (plan then_plan : Plan) (next : Move) → NextMove sh f v plan (Some next) then_plan → HasNoMove sh f v plan → ⊥
next-stays sh f v plan then_plan next found (inl dead) =
    let first = found.0 in
    let listed = subst (λ (xs : List ℕ). All (λ r. IsKept f r → ⊥) xs) (IsFirstMove.is first) dead in
    let here : drop (length (IsFirstMove.dropped first)) (IsFirstMove.dropped first ++ next.row ∷ then_plan.moves) ≡ next.row ∷ then_plan.moves = drop-append_seam (IsFirstMove.dropped first) (next.row ∷ then_plan.moves) in
    All-head (λ r. IsKept f r → ⊥) next.row then_plan.moves (subst (λ (xs : List ℕ). All (λ r. IsKept f r → ⊥) xs) here (All-drop (λ r. IsKept f r → ⊥) (length (IsFirstMove.dropped first)) _ listed)) (IsFirstMove.kept first)
next-stays sh f v plan then_plan next found (inr (inl none)) = none-some (found.5, found.6) (sym none ∙ found.7)
next-stays sh f v plan then_plan next found (inr (inr full)) =
    let low = found.8 in
    let same : Some (full.0, full.1) ≡ Some (found.5, found.6) = sym full.2 ∙ found.7 in
    let pair = same_Some (full.0, full.1) (found.5, found.6) same in
    let first : full.0 ≡ found.5 = ap (λ (e : ℕ × ℕ). e.0) pair in
    let last : full.1 ≡ found.6 = ap (λ (e : ℕ × ℕ). e.1) pair in
    full.3 next.position (let above = IsLowestRoom.above low in omega arith) (let below = IsLowestRoom.below low in omega arith) (IsLowestRoom.has low)

-- a step that may count a move
pub apart_by_move : (old : Chart) (v : ℕ) (plan mid then_plan : Plan) (next : Move) → old.fields.job ≡ Some (Copy v) → NextMove old.shape old.fields v plan (Some next) mid → then_plan.copied ≡ plan.copied → CountsApart old plan then_plan
apart_by_move old v plan mid then_plan next job found copied = record { copies = λ other. absurd (other copied); moves = λ _. (v, job, next-stays old.shape old.fields v plan mid next found) }

-- a step that may count a copy
pub apart_by_copy : (old : Chart) (v : ℕ) (plan then_plan : Plan) → old.fields.job ≡ Some (Copy v) → HasNoMove old.shape old.fields v plan → then_plan.moved ≡ plan.moved → CountsApart old plan then_plan
apart_by_copy old v plan then_plan job none moved = record { copies = λ _. (v, job, none); moves = λ other. absurd (other moved) }

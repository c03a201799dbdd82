-- What a step of a copy does.
use Rattle.std.proofs.Common.{◌≡◌, ℕ, ◌+◌, ◌<◌, List, [], ◌∷◌, length, get_or, Some, None, sym, ◌∙◌, ap, subst, arith}
use Rattle.std.specs.Prelude.{Result, Err, IsErrAnd}
use Rattle.std.proofs.lemmas.List.{length-append}
use Rattle.std.proofs.lemmas.Result.{err_from_is_err_and}
use Rattle.envy_base.specs.Counting.{up}
use Rattle.envy_base.specs.declared.board.Trouble.{Trouble}
use Rattle.envy_base.specs.declared.board.Trouble.TheVariants.{Bad}
use Rattle.envy_base.specs.declared.fields.Job.TheVariants.{Copy}
use Rattle.envy_base.specs.declared.shape.Shape.{Shape}
use Rattle.envy_map.specs.Fields.{Fields, Chart}
use Rattle.envy_soundness.specs.Same.{Same}
use Rattle.envy_soundness.specs.Sound.{IsSound, IsSpare}
use Rattle.envy_soundness.proofs.SpareLemmas.{one-spare}
use Rattle.envy_space.specs.Pool.{Pool, PoolAgrees, IsPoolOf}
use Rattle.envy_reloc.specs.declared.row_copy.Left.{Left}
use Rattle.envy_reloc.specs.Effort.{Leaves}
use Rattle.envy_reloc.specs.Phases.{IsFirstMove, HasNoMove, CopiesOne, CopiesLeft, SpoilsCopy, SpoilsRow, SwitchesSegment}
use Rattle.envy_reloc.specs.Plan.{Plan, IsPlanOf}
use Rattle.envy_reloc.specs.Rows.{NextKept}
use Rattle.envy_reloc.specs.Switching.{SwitchesAll}
use Rattle.envy_reloc.proofs.CopyLemmas.{LowestLeft-next, AllCopied-next, room-next}
use Rattle.envy_reloc.proofs.EffortLemmas.{within-one}

-- the spare of the pool is that of the map
pub spare-is : (sh : Shape) (f : Fields) (pool : Pool) (e : ℕ) → PoolAgrees sh f pool → IsSpare pool.shape pool.positions e → IsSpare sh f.positions e
spare-is sh f pool e agrees spare = subst (λ (z : Shape). IsSpare z f.positions e) (IsPoolOf.shape agrees) (subst (λ (xs : List ℕ). IsSpare pool.shape xs e) (IsPoolOf.positions agrees) spare)

-- a move that stays is one of those that were left
pub some-move : (f : Fields) (moves more : List ℕ) (q : ℕ) → IsFirstMove f moves q more → 0 < length moves
some-move f moves more q first = let all : length moves ≡ length (IsFirstMove.dropped first) + length (q ∷ more) = ap (λ (xs : List ℕ). length xs) (IsFirstMove.is first) ∙ length-append _ _ in omega arith

-- a move is within what is left
pub within-move : (old new : Chart) (plan : Plan) (v q n e s : ℕ) (more : List ℕ) → old.fields.job ≡ Some (Copy v) → IsFirstMove old.fields plan.moves q more → Same 1 0 old new → Leaves old plan n e s → Same n e old new
within-move old new plan v q n e s more copying first same left = within-one old new plan v n e s copying (λ x spare. let some = some-move old.fields plan.moves more q first in omega arith) same left

-- The next row to be copied was found: moves are those of mid, which are none.
pub record Found (old : Chart) (plan mid : Plan) (v e : ℕ) (left : Left) : Type 0 where
  pub sound : IsSound old
  pub some : 0 < old.shape.rows
  pub copying : old.fields.job ≡ Some (Copy v)
  pub no_move : HasNoMove old.shape old.fields v plan
  pub agrees : IsPlanOf old.shape old.fields old.flash mid
  pub none : mid.moves ≡ []
  pub becomes : mid ≡ record plan { moves = mid.moves }
  pub spare : IsSpare old.shape old.fields.positions e
  pub next : NextKept old.shape old.fields v mid.mark (Some left)

-- a copy is within what is left
pub within-copy : (old new : Chart) (plan mid : Plan) (v x n e s : ℕ) (left : Left) → Found old plan mid v x left → Same 1 0 old new → Leaves old plan n e s → Same n e old new
within-copy old new plan mid v x n e s left found same left_over =
    within-one old new plan v n e s found.copying
    (λ y spare.
    let room = room-next old.shape old.fields old.flash v x mid left found.sound found.some found.agrees found.copying found.spare found.next in
    let one = ap (λ (z : ℕ). get_or old.fields.fills z 0) (one-spare old.shape old.fields old.flash y x found.sound spare found.spare) in
    omega arith)
    same left_over

pub CopiesOne-found : (old new : Chart) (plan mid then_plan : Plan) (v e : ℕ) (left : Left) → Found old plan mid v e left → CopiesLeft old e left.row new → then_plan ≡ record mid { mark = left.row + 1; copied = up mid.copied } → CopiesOne old plan new then_plan
CopiesOne-found old new plan mid then_plan v e left found copied is = record {
  v = v;
  copying = found.copying;
  no_move = found.no_move;
  e = e;
  spare = found.spare;
  q = left.row;
  lowest = LowestLeft-next old.shape old.fields v e mid.mark left found.copying found.spare found.agrees.marked found.next;
  copied = copied;
  plan_is = is ∙ ap (λ (p : Plan). record p { mark = left.row + 1; copied = up p.copied }) (found.becomes ∙ ap (λ (xs : List ℕ). record plan { moves = xs }) found.none);
}

pub SpoilsCopy-found : (old new : Chart) (plan mid then_plan : Plan) (v e : ℕ) (left : Left) → Found old plan mid v e left → SpoilsRow old e left.row new → then_plan ≡ record mid { moves = []; copied = up mid.copied } → SpoilsCopy old plan new then_plan
SpoilsCopy-found old new plan mid then_plan v e left found spoilt is = record {
  v = v;
  copying = found.copying;
  no_move = found.no_move;
  e = e;
  spare = found.spare;
  q = left.row;
  lowest = LowestLeft-next old.shape old.fields v e mid.mark left found.copying found.spare found.agrees.marked found.next;
  spoilt = spoilt;
  plan_is = is ∙ ap (λ (p : Plan). record p { moves = []; copied = up p.copied }) found.becomes;
}

-- nothing is left to be moved or copied
pub SwitchesSegment-made : (old new : Chart) (plan mid : Plan) (v e : ℕ) → old.fields.job ≡ Some (Copy v) → HasNoMove old.shape old.fields v plan → IsPlanOf old.shape old.fields old.flash mid → mid.moves ≡ [] → mid ≡ record plan { moves = mid.moves } → IsSpare old.shape old.fields.positions e → NextKept old.shape old.fields v mid.mark None → SwitchesAll old.shape v e old.fields new.fields → new.flash ≡ old.flash → SwitchesSegment old plan new mid
SwitchesSegment-made old new plan mid v e copying no_move agrees none becomes spare next switches flash = record {
  v = v;
  copying = copying;
  no_move = no_move;
  e = e;
  spare = spare;
  copied = AllCopied-next old.shape old.fields v e mid.mark copying spare agrees.marked next;
  switches = switches;
  flash = flash;
  plan_is = becomes ∙ ap (λ (xs : List ℕ). record plan { moves = xs }) none;
}

-- the error that a `?` hands on
pub err-of : {T U : Type 0} (r : Result T Trouble) (q : Result U Trouble) (x : Trouble) → IsErrAnd r (λ e. e ≡ x) → q ≡ Err x → r ≡ Err Bad → q ≡ Err Bad
err-of r q x handed is bad =
    let p = err_from_is_err_and r handed in
    let both : ◌≡◌ {A = Result _ Trouble} (Err p.0) (Err Bad) = sym p.1 ∙ bad in
    let one : p.0 ≡ Bad = cc in
    is ∙ ap (λ (e : Trouble). Err e) (sym p.2 ∙ one)

use Rattle.std.proofs.Common.{false, ◌≡◌, IsTrue, None, ◌∙◌, ◌<◌, ◌*◌, ◌+◌, ◌/◌, ◌%◌, Ok, Err, refl, sym, subst, ap, arith}
use Rattle.std.proofs.lemmas.Result.{err_from_is_err_and}
use Rattle.envy_base.specs.declared.shape.Shape.{Shape}
use Rattle.envy_map.specs.Fields.{chart}
use Rattle.envy_soundness.specs.Same.{Framed}
use Rattle.envy_meaning.specs.Stands.{Stands}
use Rattle.envy_soundness.proofs.Composition.{cause}
use Rattle.envy_engine.specs.Storing.{Leaves}
use Rattle.envy_engine.proofs.StoreLemmas.{Leaves-wrote}
use Rattle.envy_engine.proofs.Leaving.{powers_both}
use Rattle.envy_txn.specs.Owners.{owner_of, AreOwned}
use Rattle.envy_wear.specs.Swaps.{IsQuiet}
use Rattle.envy_memory.specs.Below.{StoresBelow}
use Rattle.envy_memory.specs.Calls.{IsCut, Undisturbed}
use Rattle.envy_memory.specs.Faults.{store_fault}
use Rattle.envy_memory.specs.Picture.{Picture, IsMemory}
use Rattle.envy_memory.specs.Opened.{HasOpenFrom}
use Rattle.envy_memory.proofs.Shutting.{shut-as}
use Rattle.envy_memory.proofs.Below.{Worked, below-stored, below-store_ended}
use Rattle.envy_memory.proofs.Owning.{IsMemory-left, Works-left, Stores-done, Stores-ended, owner-pairs, free-pairs}
use Rattle.envy_memory.proofs.Standing.{beyond, inside}
use Rattle.envy_memory.proofs.TickLemmas.{never-ended}
use Rattle.envy_engine.proofs.WearLemmas.{IsQuiet-counted}
use Rattle.envy_memory.proofs.memory.Memory.store.Given.{Over}
use Rattle.envy_memory.proofs.memory.Memory.store.Goals.{After-store_word}
use Rattle.envy_memory.proofs.memory.Memory.store.Goals as goal

-- the page is within the board, and nobody owns it
free-page : (g : Over) (c : After-store_word g) → (owner_of c.self.inside.owned.pairs (c.args.a / 32) ≡ None) × AreOwned (chart (g.B.Board.state c.self.inside.board)).fields.slots (chart (g.B.Board.state c.self.inside.board)).fields.undos c.self.inside.owned.pairs × (c.args.a / 32 < (chart (g.B.Board.state c.self.inside.board)).shape.pages)
free-page g c =
    let pages = ap (λ (sh : Shape). sh.pages) c.shape.ensures in
    (sym c.in_default.ensures.value, c.self.invariant.0.owned (sym c.if-not-powered.ensures), omega arith)

-- what the write of the word left, and why it failed
leaves : (g : Over) (c : After-store_word g) → Leaves (4 * (chart (g.B.Board.state c.self.inside.board)).shape.rows + 13) 6 (chart (g.B.Board.state c.self.inside.board)) (chart (g.B.Board.state c.store_word.new.board))
leaves g c = let e = c.store_word.ensures in Leaves-wrote _ 6 _ _ (32 * (c.args.a / 32) + c.args.a % 32) c.args.value (c.args.a / 32) c.store_word.result e.free e.owned

caused : (g : Over) (c : After-store_word g) → IsCut (chart (g.B.Board.state c.self.inside.board)) (chart (g.B.Board.state c.store_word.new.board))
caused g c = cause _ 6 _ _ (Leaves.counted (leaves g c))

kept : (g : Over) (c : After-store_word g) → IsMemory (chart (g.B.Board.state c.store_word.new.board)) c.store_word.new.parts c.self.inside.owned c.self.inside.limit c.self.inside.mark
    × (IsTrue (g.B.Board.state c.store_word.new.board).on → IsQuiet (g.B.Board.state c.store_word.new.board).shape (chart (g.B.Board.state c.store_word.new.board)).fields c.self.inside.limit c.store_word.new.parts.reloc.since c.self.inside.quiet)
    × (IsTrue (g.B.Board.state c.store_word.new.board).on → HasOpenFrom c.self.inside.shut_from (chart (g.B.Board.state c.store_word.new.board)) false)
kept g c =
    let old = chart (g.B.Board.state c.self.inside.board) in
    let new = chart (g.B.Board.state c.store_word.new.board) in
    let e = c.store_word.ensures in
    let l = leaves g c in (
      IsMemory-left _ 6 c.self.inside.limit c.self.inside.mark old new c.self.inside.parts c.store_word.new.parts c.self.inside.owned (sym c.if-not-powered.ensures) c.self.invariant.0 l e.steady,
      λ on. IsQuiet-counted old new c.self.inside.parts c.store_word.new.parts c.self.inside.limit c.self.inside.quiet (Framed.shape (Leaves.framed l)) (Leaves.worn l) e.counting on (c.self.invariant.1 (sym c.if-not-powered.ensures)),
      λ on. shut-as c.self.inside.shut_from old new (Framed.slots (Leaves.framed l)) (c.self.invariant.2 (sym c.if-not-powered.ensures)),
    )

worked : (g : Over) (c : After-store_word g) → Worked (c.args.a / 32) (record { chart = chart (g.B.Board.state c.self.inside.board); parts = c.self.inside.parts; owned = c.self.inside.owned; limit = c.self.inside.limit; mark = c.self.inside.mark; sram = (g.B.Board.state c.self.inside.board).sram }) (chart (g.B.Board.state c.store_word.new.board)) c.store_word.new.parts
worked g c =
    let e = c.store_word.ensures in
    record { on = sym c.if-not-powered.ensures; works = Works-left _ 6 _ 6 _ _ (omega arith) (omega arith) (sym c.if-not-powered.ensures) (leaves g c); counts = e.counting; visits = e.accesses }

pub returns-then-page-shape-clause-step : goal.returns-then-page-shape-clause-step
returns-then-page-shape-clause-step g c m stood =
    let old = chart (g.B.Board.state c.self.inside.board) in
    let stands : Stands old m = subst (λ (p : Picture). Stands p.chart m) (sym c.self.view_is) stood in
    let pages = ap (λ (sh : Shape). sh.pages) c.shape.ensures in
    (m, (beyond old m c.args.a stands (omega arith), refl), stood)

pub returns-in-Some-clause-step : goal.returns-in-Some-clause-step
returns-in-Some-clause-step g c m stood =
    let old = chart (g.B.Board.state c.self.inside.board) in
    let stands : Stands old m = subst (λ (p : Picture). Stands p.chart m) (sym c.self.view_is) stood in
    let pages = ap (λ (sh : Shape). sh.pages) c.shape.ensures in
    let lt : c.args.a / 32 < old.shape.pages = omega arith in
    let owned = c.self.invariant.0.owned (sym c.if-not-powered.ensures) in
    (m, (inside old m c.args.a stands lt, owner-pairs old m c.self.inside.owned (c.args.a / 32) stands owned lt ∙ sym c.in-Some.ensures.value, refl), stood)

pub invariant_of-self : goal.invariant_of-self
invariant_of-self g c = kept g (goal.at.invariant_of-self g c).After-store_word

pub returns-in_err-store_word-clause-step : goal.returns-in_err-store_word-clause-step
returns-in_err-store_word-clause-step g c m stood =
    let stands = subst (λ (p : Picture). Stands p.chart m) (sym c.self.view_is) stood in
    let (none, owned, lt) = free-page g (goal.at.returns-in_err-store_word-clause-step g c).After-store_word in
    let p = err_from_is_err_and c.from_residual.result c.from_residual.ensures.1 in
    rw (p.1, p.2) (Stores-ended _ 6 _ (chart (g.B.Board.state c.store_word.new.board)) m c.self.inside.owned c.args.a c.args.value c.in_err-store_word.field-0.0 stands owned none lt (c.in_err-store_word.ensures.free (free-pairs (chart (g.B.Board.state c.self.inside.board)) c.self.inside.owned (c.args.a / 32) owned none)))

pub returns-in_err-store_word-clause-cut : goal.returns-in_err-store_word-clause-cut
returns-in_err-store_word-clause-cut g c =
    subst (λ (p : Picture). IsCut p.chart (chart (g.B.Board.state c.store_word.new.board))) c.self.view_is (caused g (goal.at.returns-in_err-store_word-clause-cut g c).After-store_word)

pub returns-in_err-store_word-clause-complete : goal.returns-in_err-store_word-clause-complete
returns-in_err-store_word-clause-complete g c calm =
    let old = chart (g.B.Board.state c.self.inside.board) in
    let new = chart (g.B.Board.state c.store_word.new.board) in
    let quiet = subst (λ (p : Picture). Undisturbed p.chart new) (sym c.self.view_is) calm in
    let no = never-ended old new c.in_err-store_word.field-0.0 (powers_both {T = Unit {0}} (Err c.in_err-store_word.field-0.0) _ c.in_err-store_word.ensures.power).0 (λ is. (c.in_err-store_word.ensures.stops is).1) (caused g (goal.at.returns-in_err-store_word-clause-complete g c).After-store_word) quiet in
    ((λ is. no), (λ is. no))

pub invariant_of-self-2 : goal.invariant_of-self-2
invariant_of-self-2 g c = kept g (goal.at.invariant_of-self-2 g c).After-store_word

pub returns-clause-step : goal.returns-clause-step
returns-clause-step g c m stood =
    let stands = subst (λ (p : Picture). Stands p.chart m) (sym c.self.view_is) stood in
    let (none, owned, lt) = free-page g (goal.at.returns-clause-step g c).After-store_word in
    Stores-done _ 6 _ (chart (g.B.Board.state c.store_word.new.board)) m c.self.inside.owned c.args.a c.args.value stands owned none lt (c.in_ok-store_word.ensures.free (free-pairs (chart (g.B.Board.state c.self.inside.board)) c.self.inside.owned (c.args.a / 32) owned none))

pub returns-in_err-store_word-clause-below : goal.returns-in_err-store_word-clause-below
returns-in_err-store_word-clause-below g c =
    let new : Picture = record { chart = chart (g.B.Board.state c.store_word.new.board); parts = c.store_word.new.parts; owned = c.self.inside.owned; limit = c.self.inside.limit; mark = c.self.inside.mark; sram = (g.B.Board.state c.store_word.new.board).sram } in
    let p = err_from_is_err_and c.from_residual.result c.from_residual.ensures.1 in
    let fault = c.in_err-store_word.field-0.0 in
    rw (p.1, p.2) (subst (λ (p : Picture). StoresBelow c.args.a (Err (store_fault fault)) p new) c.self.view_is
    (below-store_ended c.args.a _ new.chart new.parts fault (worked g (goal.at.returns-in_err-store_word-clause-below g c).After-store_word) (λ is. (c.in_err-store_word.ensures.stops is).0)))

pub returns-clause-below : goal.returns-clause-below
returns-clause-below g c =
    let new : Picture = record { chart = chart (g.B.Board.state c.store_word.new.board); parts = c.store_word.new.parts; owned = c.self.inside.owned; limit = c.self.inside.limit; mark = c.self.inside.mark; sram = (g.B.Board.state c.store_word.new.board).sram } in
    subst (λ (p : Picture). StoresBelow c.args.a (Ok tt) p new) c.self.view_is
    (below-stored c.args.a _ new.chart new.parts (worked g (goal.at.returns-clause-below g c).After-store_word) c.self.invariant.0.fits c.in_ok-store_word.ensures.stores)

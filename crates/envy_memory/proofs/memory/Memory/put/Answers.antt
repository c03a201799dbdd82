use Rattle.std.proofs.Common.{ℕ, ◌≡◌, ◌≢◌, ◌≤◌, false, IsTrue, Ok, Err, ◌∙◌, ◌<◌, ◌*◌, ◌+◌, ◌/◌, ◌%◌, length, Some, refl, sym, subst, ap, arith}
use Rattle.std.proofs.lemmas.Bool.{false≢true}
use Rattle.std.proofs.lemmas.Result.{err_from_is_err_and}
use Rattle.envy_base.specs.declared.shape.Shape.{Shape}
use Rattle.envy_array.specs.Array.{Array}
use Rattle.envy_map.specs.Fields.{chart, slot}
use Rattle.std.specs.Prelude.{IsErrOf}
use Rattle.envy_meaning.specs.Stands.{Stands}
use Rattle.envy_soundness.proofs.Composition.{cause}
use Rattle.envy_txn.specs.Owners.{owner_of}
use Rattle.envy_meaning.proofs.Ending.{closed-inactive, closed-past}
use Rattle.envy_memory.specs.Opened.{HasOpenFrom}
use Rattle.envy_memory.proofs.Shutting.{shut-as, shut-first}
use Rattle.envy_memory.proofs.Slots.{slot-low}
use Rattle.envy_engine.specs.Storing.{Leaves}
use Rattle.envy_engine.proofs.StoreLemmas.{Leaves-wrote}
use Rattle.envy_soundness.specs.Same.{Framed}
use Rattle.envy_engine.proofs.Leaving.{powers_both}
use Rattle.envy_wear.specs.Swaps.{IsQuiet}
use Rattle.envy_memory.specs.Below.{PutsBelow}
use Rattle.envy_memory.specs.Calls.{Works, IsCut, HasFailed, Undisturbed}
use Rattle.envy_memory.specs.Faults.{put_fault}
use Rattle.envy_memory.specs.Picture.{Picture, IsMemory}
use Rattle.envy_memory.specs.declared.faults.PutFault.TheVariants.{Off, Range, Closed, Held, Full, Bad}
use Rattle.envy_base.specs.declared.fields.Slot.TheVariants.{Active}
use Rattle.envy_memory.proofs.Below.{Worked, below-put_again, below-put_first, below-put_ended}
use Rattle.envy_memory.proofs.Owning.{IsMemory-left, Works-left, owner-pairs}
use Rattle.envy_memory.proofs.PutAnswers.{Refuses, beyond-slots, past-of, inside-of, lit-cut, below-refused, refuses-off, refuses-past, refuses-shut, refuses-kept, refuses-full, taken-own, taken-first, no-refusal, lit-off, lit-bad, lit-complete, off-both, off-bad, off-complete, done-off, done-cut, done-bad, done-complete, ended-off, ended-bad}
use Rattle.envy_memory.proofs.PutLemmas.{full-of, Meets, MeetsFree, is-open, counted-pairs, Puts-done, Puts-ended, Puts-again, Puts-again_ended, Counted-first, Works-first, IsMemory-first, owned-free}
use Rattle.envy_memory.proofs.Standing.{beyond, inside}
use Rattle.envy_memory.proofs.TickLemmas.{never-ended}
use Rattle.envy_engine.proofs.WearLemmas.{IsQuiet-counted}
use Rattle.envy_memory.proofs.memory.Memory.put.Given.{Over}
use Rattle.envy_memory.proofs.memory.Memory.put.Goals.{After-owner, After-store_word, After-put_first}
use Rattle.envy_memory.proofs.memory.Memory.put.Goals as goal

same-le : (n : ℕ) → n ≤ n
same-le n = omega arith

-- slot t is open, and the page within the board
meets : (g : Over) (c : After-owner g) (m : Array) → Stands (chart (g.B.Board.state c.self.inside.board)) m → Meets c.args.t c.args.a (chart (g.B.Board.state c.self.inside.board)) m c.self.inside.owned
meets g c m stands =
    let pages = ap (λ (sh : Shape). sh.pages) c.shape.ensures in let ge = c.if-t-ge64.false in
    record { stands = stands; owned = c.self.invariant.0.owned (sym c.if-not-powered.ensures); low = omega arith; active = c.in_ok-is_open.ensures.yes c.if-not-branch.false; page = omega arith }

-- a page that the slot owns: whose it is, what the word's write left, and why it failed
own : (g : Over) (c : After-store_word g) → owner_of c.self.inside.owned.pairs (c.args.a / 32) ≡ Some c.args.t
own g c = sym c.in-Some.ensures.value ∙ ap (λ (x : _). Some x) c.if-slot-t.false

leaves : (g : Over) (c : After-store_word g) → Leaves (4 * (chart (g.B.Board.state c.self.inside.board)).shape.rows + 13) 6 (chart (g.B.Board.state c.self.inside.board)) (chart (g.B.Board.state c.store_word.new.board))
leaves g c = let e = c.store_word.ensures in Leaves-wrote _ 6 _ _ (32 * (c.args.a / 32) + c.args.a % 32) c.args.value (c.args.a / 32) c.store_word.result e.free e.owned

caused : (g : Over) (c : After-store_word g) → IsCut (chart (g.B.Board.state c.self.inside.board)) (chart (g.B.Board.state c.store_word.new.board))
caused g c = cause _ 6 _ _ (Leaves.counted (leaves g c))

kept : (g : Over) (c : After-store_word g) → IsMemory (chart (g.B.Board.state c.store_word.new.board)) c.store_word.new.parts c.self.inside.owned c.self.inside.limit c.self.inside.mark
    × (IsTrue (g.B.Board.state c.store_word.new.board).on → IsQuiet (g.B.Board.state c.store_word.new.board).shape (chart (g.B.Board.state c.store_word.new.board)).fields c.self.inside.limit c.store_word.new.parts.reloc.since c.self.inside.quiet)
    × (IsTrue (g.B.Board.state c.store_word.new.board).on → HasOpenFrom c.self.inside.shut_from (chart (g.B.Board.state c.store_word.new.board)) false)
kept g c =
    let old = chart (g.B.Board.state c.self.inside.board) in
    let new = chart (g.B.Board.state c.store_word.new.board) in
    let e = c.store_word.ensures in
    let l = leaves g c in (
      IsMemory-left _ 6 c.self.inside.limit c.self.inside.mark old new c.self.inside.parts c.store_word.new.parts c.self.inside.owned (sym c.if-not-powered.ensures) c.self.invariant.0 l e.steady,
      λ on. IsQuiet-counted old new c.self.inside.parts c.store_word.new.parts c.self.inside.limit c.self.inside.quiet (Framed.shape (Leaves.framed l)) (Leaves.worn l) e.counting on (c.self.invariant.1 (sym c.if-not-powered.ensures)),
      λ on. shut-as c.self.inside.shut_from old new (Framed.slots (Leaves.framed l)) (c.self.invariant.2 (sym c.if-not-powered.ensures)),
    )

worked : (g : Over) (c : After-store_word g) → Worked (c.args.a / 32) (record { chart = chart (g.B.Board.state c.self.inside.board); parts = c.self.inside.parts; owned = c.self.inside.owned; limit = c.self.inside.limit; mark = c.self.inside.mark; sram = (g.B.Board.state c.self.inside.board).sram }) (chart (g.B.Board.state c.store_word.new.board)) c.store_word.new.parts
worked g c =
    let e = c.store_word.ensures in
    record { on = sym c.if-not-powered.ensures; works = Works-left _ 6 _ 6 _ _ (omega arith) (omega arith) (sym c.if-not-powered.ensures) (leaves g c); counts = e.counting; visits = e.accesses }

-- the same of a page that nobody owned
meets-free : (g : Over) (c : After-put_first g) (m : Array) → Meets c.args.t c.args.a (chart (g.B.Board.state c.self.inside.board)) m c.self.inside.owned → MeetsFree c.args.t c.args.a (chart (g.B.Board.state c.self.inside.board)) m c.self.inside.owned
meets-free g c m x =
    record { meets = x; whole = c.owner.ensures.whole; none = sym c.in_default.ensures.value; shadows = c.self.invariant.0.shadows; room = c.room.ensures.value.0 c.if-not-room.false }

caused-first : (g : Over) (c : After-put_first g) → IsCut (chart (g.B.Board.state c.self.inside.board)) (chart (g.B.Board.state c.put_first.new.board))
caused-first g c = cause _ 6 _ _ (Counted-first _ 6 c.args.t (c.args.a / 32) _ _ (32 * (c.args.a / 32) + c.args.a % 32) c.args.value c.put_first.result c.put_first.ensures.put)

worked-first : (g : Over) (c : After-put_first g) → Worked (c.args.a / 32) (record { chart = chart (g.B.Board.state c.self.inside.board); parts = c.self.inside.parts; owned = c.self.inside.owned; limit = c.self.inside.limit; mark = c.self.inside.mark; sram = (g.B.Board.state c.self.inside.board).sram }) (chart (g.B.Board.state c.put_first.new.board)) c.put_first.new.parts
worked-first g c =
    let rows = (chart (g.B.Board.state c.self.inside.board)).shape.rows in
    let e = c.put_first.ensures in
    let works = Works-first (4 * rows + 13) 6 (4 * rows + 16) 6 c.args.t (c.args.a / 32) _ _ (32 * (c.args.a / 32) + c.args.a % 32) c.args.value c.put_first.result (omega arith) (omega arith) (sym c.if-not-powered.ensures) e.put in
    record { on = sym c.if-not-powered.ensures; works = works; counts = e.counting; visits = e.accesses }

kept-first : (g : Over) (c : After-put_first g) → IsMemory (chart (g.B.Board.state c.put_first.new.board)) c.put_first.new.parts c.put_first.new.owned c.self.inside.limit c.self.inside.mark
    × (IsTrue (g.B.Board.state c.put_first.new.board).on → IsQuiet (g.B.Board.state c.put_first.new.board).shape (chart (g.B.Board.state c.put_first.new.board)).fields c.self.inside.limit c.put_first.new.parts.reloc.since c.self.inside.quiet)
    × (IsTrue (g.B.Board.state c.put_first.new.board).on → HasOpenFrom c.self.inside.shut_from (chart (g.B.Board.state c.put_first.new.board)) false)
kept-first g c =
    let old = chart (g.B.Board.state c.self.inside.board) in
    let new = chart (g.B.Board.state c.put_first.new.board) in
    let e = c.put_first.ensures in
    let works = Worked.works (worked-first g c) in (
      IsMemory-first _ 6 c.self.inside.limit c.self.inside.mark c.args.t (c.args.a / 32) old new c.self.inside.parts c.put_first.new.parts c.self.inside.owned c.put_first.new.owned (32 * (c.args.a / 32) + c.args.a % 32) c.args.value c.put_first.result (sym c.if-not-powered.ensures) c.self.invariant.0 e.put e.steady e.owners.agree e.owners.limit,
      λ on. IsQuiet-counted old new c.self.inside.parts c.put_first.new.parts c.self.inside.limit c.self.inside.quiet (Works.shape works) (Works.worn works) e.counting on (c.self.invariant.1 (sym c.if-not-powered.ensures)),
      shut-first c.self.inside.shut_from _ 6 c.args.t (c.args.a / 32) old new (32 * (c.args.a / 32) + c.args.a % 32) c.args.value c.put_first.result e.put (c.self.invariant.2 (sym c.if-not-powered.ensures)),
    )

pub invariant_of-self : goal.invariant_of-self
invariant_of-self g c = kept g (goal.at.invariant_of-self g c).After-store_word

pub returns-in_err-store_word-clause-step : goal.returns-in_err-store_word-clause-step
returns-in_err-store_word-clause-step g c m stood =
    let at = goal.at.returns-in_err-store_word-clause-step g c in
    let x = meets g at.After-owner m (subst (λ (p : Picture). Stands p.chart m) (sym c.self.view_is) stood) in
    let p = err_from_is_err_and c.from_residual-in_err-store_word.result c.from_residual-in_err-store_word.ensures.1 in rw (p.1, p.2) (Puts-again_ended _ 6 c.args.t _ (chart (g.B.Board.state c.store_word.new.board)) m c.self.inside.owned c.args.a c.args.value c.in_err-store_word.field-0.0 x (own g at.After-store_word) (c.in_err-store_word.ensures.owned (owned-free (chart (g.B.Board.state c.self.inside.board)) m c.self.inside.owned (c.args.a / 32) c.args.t x.owned (own g at.After-store_word))))

pub returns-in_err-store_word-clause-cut : goal.returns-in_err-store_word-clause-cut
returns-in_err-store_word-clause-cut g c =
    subst (λ (p : Picture). IsCut p.chart (chart (g.B.Board.state c.store_word.new.board))) c.self.view_is (caused g (goal.at.returns-in_err-store_word-clause-cut g c).After-store_word)

pub returns-in_err-store_word-clause-complete : goal.returns-in_err-store_word-clause-complete
returns-in_err-store_word-clause-complete g c calm =
    let old = chart (g.B.Board.state c.self.inside.board) in
    let new = chart (g.B.Board.state c.store_word.new.board) in
    let quiet = subst (λ (p : Picture). Undisturbed p.chart new) (sym c.self.view_is) calm in
    let no = never-ended old new c.in_err-store_word.field-0.0 (powers_both {T = Unit {0}} (Err c.in_err-store_word.field-0.0) _ c.in_err-store_word.ensures.power).0 (λ is. (c.in_err-store_word.ensures.stops is).1) (caused g (goal.at.returns-in_err-store_word-clause-complete g c).After-store_word) quiet in
    ((λ is. no), (λ is. no))

pub invariant_of-self-in-Some : goal.invariant_of-self-in-Some
invariant_of-self-in-Some g c = kept g (goal.at.invariant_of-self-in-Some g c).After-store_word

pub returns-in-Some-clause-step : goal.returns-in-Some-clause-step
returns-in-Some-clause-step g c m stood =
    let at = goal.at.returns-in-Some-clause-step g c in
    let x = meets g at.After-owner m (subst (λ (p : Picture). Stands p.chart m) (sym c.self.view_is) stood) in
    Puts-again _ 6 c.args.t _ (chart (g.B.Board.state c.store_word.new.board)) m c.self.inside.owned c.args.a c.args.value x (own g at.After-store_word) (c.in_ok-store_word.ensures.owned (owned-free (chart (g.B.Board.state c.self.inside.board)) m c.self.inside.owned (c.args.a / 32) c.args.t x.owned (own g at.After-store_word)))

pub invariant_of-self-in_err-put_first : goal.invariant_of-self-in_err-put_first
invariant_of-self-in_err-put_first g c = kept-first g (goal.at.invariant_of-self-in_err-put_first g c).After-put_first

pub returns-in_err-put_first-clause-step : goal.returns-in_err-put_first-clause-step
returns-in_err-put_first-clause-step g c m stood =
    let at = goal.at.returns-in_err-put_first-clause-step g c in
    let x = meets-free g at.After-put_first m (meets g at.After-owner m (subst (λ (p : Picture). Stands p.chart m) (sym c.self.view_is) stood)) in
    let p = err_from_is_err_and c.from_residual-in_err-put_first.result c.from_residual-in_err-put_first.ensures.1 in rw (p.1, p.2) (Puts-ended _ 6 c.args.t _ (chart (g.B.Board.state c.put_first.new.board)) m c.self.inside.owned c.args.a c.args.value c.in_err-put_first.field-0.0 x c.in_err-put_first.ensures.put)

pub returns-in_err-put_first-clause-cut : goal.returns-in_err-put_first-clause-cut
returns-in_err-put_first-clause-cut g c =
    subst (λ (p : Picture). IsCut p.chart (chart (g.B.Board.state c.put_first.new.board))) c.self.view_is (caused-first g (goal.at.returns-in_err-put_first-clause-cut g c).After-put_first)

pub returns-in_err-put_first-clause-complete : goal.returns-in_err-put_first-clause-complete
returns-in_err-put_first-clause-complete g c calm =
    let old = chart (g.B.Board.state c.self.inside.board) in
    let new = chart (g.B.Board.state c.put_first.new.board) in
    let quiet = subst (λ (p : Picture). Undisturbed p.chart new) (sym c.self.view_is) calm in
    let no = never-ended old new c.in_err-put_first.field-0.0 (powers_both {T = Unit {0}} (Err c.in_err-put_first.field-0.0) _ c.in_err-put_first.ensures.power).0 (λ is. (c.in_err-put_first.ensures.stops is).1) (caused-first g (goal.at.returns-in_err-put_first-clause-complete g c).After-put_first) quiet in
    ((λ is. no), (λ is. no))

pub returns-clause-step : goal.returns-clause-step
returns-clause-step g c m stood =
    let at = goal.at.returns-clause-step g c in
    let x = meets-free g at.After-put_first m (meets g at.After-owner m (subst (λ (p : Picture). Stands p.chart m) (sym c.self.view_is) stood)) in
    Puts-done _ 6 c.args.t _ (chart (g.B.Board.state c.put_first.new.board)) m c.self.inside.owned c.args.a c.args.value x c.in_ok-put_first.ensures.put

pub invariant_of-self-2 : goal.invariant_of-self-2
invariant_of-self-2 g c = kept-first g (goal.at.invariant_of-self-2 g c).After-put_first

pub returns-in_err-store_word-clause-below : goal.returns-in_err-store_word-clause-below
returns-in_err-store_word-clause-below g c =
    let new : Picture = record { chart = chart (g.B.Board.state c.store_word.new.board); parts = c.store_word.new.parts; owned = c.self.inside.owned; limit = c.self.inside.limit; mark = c.self.inside.mark; sram = (g.B.Board.state c.store_word.new.board).sram } in
    let p = err_from_is_err_and c.from_residual-in_err-store_word.result c.from_residual-in_err-store_word.ensures.1 in let fault = c.in_err-store_word.field-0.0 in
    rw (p.1, p.2) (subst (λ (p : Picture). PutsBelow c.args.t c.args.a (Err (put_fault fault)) p new) c.self.view_is
    (below-put_ended c.args.t c.args.a _ new.chart new.parts c.self.inside.owned fault (worked g (goal.at.returns-in_err-store_word-clause-below g c).After-store_word) (λ is. (c.in_err-store_word.ensures.stops is).0) (λ is. refl)))

pub returns-in-Some-clause-below : goal.returns-in-Some-clause-below
returns-in-Some-clause-below g c =
    let at = goal.at.returns-in-Some-clause-below g c in
    let new : Picture = record { chart = chart (g.B.Board.state c.store_word.new.board); parts = c.store_word.new.parts; owned = c.self.inside.owned; limit = c.self.inside.limit; mark = c.self.inside.mark; sram = (g.B.Board.state c.store_word.new.board).sram } in
    subst (λ (p : Picture). PutsBelow c.args.t c.args.a (Ok tt) p new) c.self.view_is
    (below-put_again c.args.t c.args.a _ new.chart new.parts (worked g at.After-store_word) c.self.invariant.0.fits (own g at.After-store_word) c.in_ok-store_word.ensures.stores)

pub returns-in_err-put_first-clause-below : goal.returns-in_err-put_first-clause-below
returns-in_err-put_first-clause-below g c =
    let new : Picture = record { chart = chart (g.B.Board.state c.put_first.new.board); parts = c.put_first.new.parts; owned = c.put_first.new.owned; limit = c.self.inside.limit; mark = c.self.inside.mark; sram = (g.B.Board.state c.put_first.new.board).sram } in
    let p = err_from_is_err_and c.from_residual-in_err-put_first.result c.from_residual-in_err-put_first.ensures.1 in let fault = c.in_err-put_first.field-0.0 in
    rw (p.1, p.2) (subst (λ (p : Picture). PutsBelow c.args.t c.args.a (Err (put_fault fault)) p new) c.self.view_is
    (below-put_ended c.args.t c.args.a _ new.chart new.parts new.owned fault (worked-first g (goal.at.returns-in_err-put_first-clause-below g c).After-put_first) (λ is. (c.in_err-put_first.ensures.stops is).0) (λ is. (c.in_err-put_first.ensures.stops is).2)))

pub returns-clause-below : goal.returns-clause-below
returns-clause-below g c =
    let new : Picture = record { chart = chart (g.B.Board.state c.put_first.new.board); parts = c.put_first.new.parts; owned = c.put_first.new.owned; limit = c.self.inside.limit; mark = c.self.inside.mark; sram = (g.B.Board.state c.put_first.new.board).sram } in
    subst (λ (p : Picture). PutsBelow c.args.t c.args.a (Ok tt) p new) c.self.view_is
    (below-put_first c.args.t c.args.a _ new.chart new.parts new.owned (worked-first g (goal.at.returns-clause-below g c).After-put_first) c.self.invariant.0.fits (sym c.in_default.ensures.value) c.in_ok-put_first.ensures.puts c.in_ok-put_first.ensures.gives)

off-answers : (g : Over) (c : goal.Then-not-powered g) → Refuses c.args.t c.args.a (Err Off) c.args.self.now
off-answers g c =
    let old : Picture = record { chart = chart (g.B.Board.state c.self.inside.board); parts = c.self.inside.parts; owned = c.self.inside.owned; limit = c.self.inside.limit; mark = c.self.inside.mark; sram = (g.B.Board.state c.self.inside.board).sram } in
    subst (λ (p : Picture). Refuses c.args.t c.args.a (Err Off) p) c.self.view_is (refuses-off c.args.t c.args.a old (sym c.if-not-powered.ensures))

past-answers : (g : Over) (c : goal.Then-page-shape g) → Refuses c.args.t c.args.a (Err Range) c.args.self.now
past-answers g c =
    let old : Picture = record { chart = chart (g.B.Board.state c.self.inside.board); parts = c.self.inside.parts; owned = c.self.inside.owned; limit = c.self.inside.limit; mark = c.self.inside.mark; sram = (g.B.Board.state c.self.inside.board).sram } in
    let pages = ap (λ (sh : Shape). sh.pages) c.shape.ensures in subst (λ (p : Picture). Refuses c.args.t c.args.a (Err Range) p) c.self.view_is (refuses-past c.args.t c.args.a old (sym c.if-not-powered.ensures, past-of c.args.a c.shape.result.pages old.chart.shape.pages pages c.if-page-shape.true))

high-answers : (g : Over) (c : goal.Then-t-ge64 g) → Refuses c.args.t c.args.a (Err Closed) c.args.self.now
high-answers g c =
    let old : Picture = record { chart = chart (g.B.Board.state c.self.inside.board); parts = c.self.inside.parts; owned = c.self.inside.owned; limit = c.self.inside.limit; mark = c.self.inside.mark; sram = (g.B.Board.state c.self.inside.board).sram } in
    let pages = ap (λ (sh : Shape). sh.pages) c.shape.ensures in let shut : slot old.chart.fields c.args.t ≢ Some Active = beyond-slots old.chart c.args.t c.self.invariant.0.sound c.if-t-ge64.true in
    subst (λ (p : Picture). Refuses c.args.t c.args.a (Err Closed) p) c.self.view_is (refuses-shut c.args.t c.args.a old (sym c.if-not-powered.ensures, inside-of c.args.a c.shape.result.pages old.chart.shape.pages pages c.if-page-shape.false, shut))

shut-answers : (g : Over) (c : goal.Then-not-branch g) → Refuses c.args.t c.args.a (Err Closed) c.args.self.now
shut-answers g c =
    let old : Picture = record { chart = chart (g.B.Board.state c.self.inside.board); parts = c.self.inside.parts; owned = c.self.inside.owned; limit = c.self.inside.limit; mark = c.self.inside.mark; sram = (g.B.Board.state c.self.inside.board).sram } in
    let pages = ap (λ (sh : Shape). sh.pages) c.shape.ensures in subst (λ (p : Picture). Refuses c.args.t c.args.a (Err Closed) p) c.self.view_is (refuses-shut c.args.t c.args.a old (sym c.if-not-powered.ensures, inside-of c.args.a c.shape.result.pages old.chart.shape.pages pages c.if-page-shape.false, c.in_ok-is_open.ensures.never c.if-not-branch.true))

kept-answers : (g : Over) (c : goal.Then-slot-t g) → Refuses c.args.t c.args.a (Err (Held c.in-Some.slot)) c.args.self.now
kept-answers g c =
    let old : Picture = record { chart = chart (g.B.Board.state c.self.inside.board); parts = c.self.inside.parts; owned = c.self.inside.owned; limit = c.self.inside.limit; mark = c.self.inside.mark; sram = (g.B.Board.state c.self.inside.board).sram } in
    let pages = ap (λ (sh : Shape). sh.pages) c.shape.ensures in subst (λ (p : Picture). Refuses c.args.t c.args.a (Err (Held c.in-Some.slot)) p) c.self.view_is (refuses-kept c.args.t c.args.a c.in-Some.slot old (sym c.if-not-powered.ensures, inside-of c.args.a c.shape.result.pages old.chart.shape.pages pages c.if-page-shape.false, c.in_ok-is_open.ensures.yes c.if-not-branch.false, sym c.in-Some.ensures.value, c.if-slot-t.true))

full-answers : (g : Over) (c : goal.Then-not-room g) → Refuses c.args.t c.args.a (Err Full) c.args.self.now
full-answers g c =
    let old : Picture = record { chart = chart (g.B.Board.state c.self.inside.board); parts = c.self.inside.parts; owned = c.self.inside.owned; limit = c.self.inside.limit; mark = c.self.inside.mark; sram = (g.B.Board.state c.self.inside.board).sram } in
    let pages = ap (λ (sh : Shape). sh.pages) c.shape.ensures in let full : length old.owned.pairs ≡ old.owned.limit = full-of (length old.owned.pairs) old.owned.limit c.room.result c.room.ensures.value c.if-not-room.true c.owner.ensures.whole.few in
    subst (λ (p : Picture). Refuses c.args.t c.args.a (Err Full) p) c.self.view_is (refuses-full c.args.t c.args.a old (sym c.if-not-powered.ensures, inside-of c.args.a c.shape.result.pages old.chart.shape.pages pages c.if-page-shape.false, c.in_ok-is_open.ensures.yes c.if-not-branch.false, sym c.in_default.ensures.value, full ∙ c.self.invariant.0.shadows))

own-ended : (g : Over) (c : goal.After-from_residual-in_err-store_word g) → Refuses c.args.t c.args.a c.from_residual-in_err-store_word.result c.args.self.now
own-ended g c =
    let old : Picture = record { chart = chart (g.B.Board.state c.self.inside.board); parts = c.self.inside.parts; owned = c.self.inside.owned; limit = c.self.inside.limit; mark = c.self.inside.mark; sram = (g.B.Board.state c.self.inside.board).sram } in
    let pages = ap (λ (sh : Shape). sh.pages) c.shape.ensures in subst (λ (p : Picture). Refuses c.args.t c.args.a c.from_residual-in_err-store_word.result p) c.self.view_is (taken-own c.args.t c.args.a c.from_residual-in_err-store_word.result old (let p = err_from_is_err_and c.from_residual-in_err-store_word.result c.from_residual-in_err-store_word.ensures.1 in rw (p.1, p.2) (no-refusal c.in_err-store_word.field-0.0)) (inside-of c.args.a c.shape.result.pages old.chart.shape.pages pages c.if-page-shape.false) (c.in_ok-is_open.ensures.yes c.if-not-branch.false) (sym c.in-Some.ensures.value ∙ ap (λ (x : _). Some x) c.if-slot-t.false))

own-done : (g : Over) (c : goal.In_ok-store_word g) → Refuses c.args.t c.args.a (Ok tt) c.args.self.now
own-done g c =
    let old : Picture = record { chart = chart (g.B.Board.state c.self.inside.board); parts = c.self.inside.parts; owned = c.self.inside.owned; limit = c.self.inside.limit; mark = c.self.inside.mark; sram = (g.B.Board.state c.self.inside.board).sram } in
    let pages = ap (λ (sh : Shape). sh.pages) c.shape.ensures in subst (λ (p : Picture). Refuses c.args.t c.args.a (Ok tt) p) c.self.view_is (taken-own c.args.t c.args.a (Ok tt) old tt (inside-of c.args.a c.shape.result.pages old.chart.shape.pages pages c.if-page-shape.false) (c.in_ok-is_open.ensures.yes c.if-not-branch.false) (sym c.in-Some.ensures.value ∙ ap (λ (x : _). Some x) c.if-slot-t.false))

first-ended : (g : Over) (c : goal.After-from_residual-in_err-put_first g) → Refuses c.args.t c.args.a c.from_residual-in_err-put_first.result c.args.self.now
first-ended g c =
    let old : Picture = record { chart = chart (g.B.Board.state c.self.inside.board); parts = c.self.inside.parts; owned = c.self.inside.owned; limit = c.self.inside.limit; mark = c.self.inside.mark; sram = (g.B.Board.state c.self.inside.board).sram } in
    let pages = ap (λ (sh : Shape). sh.pages) c.shape.ensures in let room : length old.owned.pairs < old.chart.shape.shadows = subst (λ (n : _). length old.owned.pairs < n) c.self.invariant.0.shadows (c.room.ensures.value.0 c.if-not-room.false) in
    subst (λ (p : Picture). Refuses c.args.t c.args.a c.from_residual-in_err-put_first.result p) c.self.view_is (taken-first c.args.t c.args.a c.from_residual-in_err-put_first.result old (let p = err_from_is_err_and c.from_residual-in_err-put_first.result c.from_residual-in_err-put_first.ensures.1 in rw (p.1, p.2) (no-refusal c.in_err-put_first.field-0.0)) (inside-of c.args.a c.shape.result.pages old.chart.shape.pages pages c.if-page-shape.false) (c.in_ok-is_open.ensures.yes c.if-not-branch.false) (sym c.in_default.ensures.value) room)

first-done : (g : Over) (c : goal.In_ok-put_first g) → Refuses c.args.t c.args.a (Ok tt) c.args.self.now
first-done g c =
    let old : Picture = record { chart = chart (g.B.Board.state c.self.inside.board); parts = c.self.inside.parts; owned = c.self.inside.owned; limit = c.self.inside.limit; mark = c.self.inside.mark; sram = (g.B.Board.state c.self.inside.board).sram } in
    let pages = ap (λ (sh : Shape). sh.pages) c.shape.ensures in let room : length old.owned.pairs < old.chart.shape.shadows = subst (λ (n : _). length old.owned.pairs < n) c.self.invariant.0.shadows (c.room.ensures.value.0 c.if-not-room.false) in
    subst (λ (p : Picture). Refuses c.args.t c.args.a (Ok tt) p) c.self.view_is (taken-first c.args.t c.args.a (Ok tt) old tt (inside-of c.args.a c.shape.result.pages old.chart.shape.pages pages c.if-page-shape.false) (c.in_ok-is_open.ensures.yes c.if-not-branch.false) (sym c.in_default.ensures.value) room)

pub returns-then-not-powered-clause-range : goal.returns-then-not-powered-clause-range
returns-then-not-powered-clause-range g c = Refuses.range (off-answers g c)

pub returns-then-not-powered-clause-closed : goal.returns-then-not-powered-clause-closed
returns-then-not-powered-clause-closed g c = Refuses.closed (off-answers g c)

pub returns-then-not-powered-clause-held : goal.returns-then-not-powered-clause-held
returns-then-not-powered-clause-held g c = Refuses.held (off-answers g c)

pub returns-then-not-powered-clause-full : goal.returns-then-not-powered-clause-full
returns-then-not-powered-clause-full g c = Refuses.full (off-answers g c)

pub returns-in_err-store_word-clause-range : goal.returns-in_err-store_word-clause-range
returns-in_err-store_word-clause-range g c = Refuses.range (own-ended g c)

pub returns-in_err-store_word-clause-closed : goal.returns-in_err-store_word-clause-closed
returns-in_err-store_word-clause-closed g c = Refuses.closed (own-ended g c)

pub returns-in_err-store_word-clause-held : goal.returns-in_err-store_word-clause-held
returns-in_err-store_word-clause-held g c = Refuses.held (own-ended g c)

pub returns-in_err-store_word-clause-full : goal.returns-in_err-store_word-clause-full
returns-in_err-store_word-clause-full g c = Refuses.full (own-ended g c)

pub returns-in-Some-clause-range : goal.returns-in-Some-clause-range
returns-in-Some-clause-range g c = Refuses.range (own-done g c)

pub returns-in-Some-clause-closed : goal.returns-in-Some-clause-closed
returns-in-Some-clause-closed g c = Refuses.closed (own-done g c)

pub returns-in-Some-clause-held : goal.returns-in-Some-clause-held
returns-in-Some-clause-held g c = Refuses.held (own-done g c)

pub returns-in-Some-clause-full : goal.returns-in-Some-clause-full
returns-in-Some-clause-full g c = Refuses.full (own-done g c)

pub returns-in_err-put_first-clause-range : goal.returns-in_err-put_first-clause-range
returns-in_err-put_first-clause-range g c = Refuses.range (first-ended g c)

pub returns-in_err-put_first-clause-closed : goal.returns-in_err-put_first-clause-closed
returns-in_err-put_first-clause-closed g c = Refuses.closed (first-ended g c)

pub returns-in_err-put_first-clause-held : goal.returns-in_err-put_first-clause-held
returns-in_err-put_first-clause-held g c = Refuses.held (first-ended g c)

pub returns-in_err-put_first-clause-full : goal.returns-in_err-put_first-clause-full
returns-in_err-put_first-clause-full g c = Refuses.full (first-ended g c)

pub returns-clause-range : goal.returns-clause-range
returns-clause-range g c = Refuses.range (first-done g c)

pub returns-clause-closed : goal.returns-clause-closed
returns-clause-closed g c = Refuses.closed (first-done g c)

pub returns-clause-held : goal.returns-clause-held
returns-clause-held g c = Refuses.held (first-done g c)

pub returns-clause-full : goal.returns-clause-full
returns-clause-full g c = Refuses.full (first-done g c)

pub returns-then-not-powered-clause-cut : goal.returns-then-not-powered-clause-cut
returns-then-not-powered-clause-cut g c = lit-cut c.args.self.now

pub returns-in_err-is_open : goal.returns-in_err-is_open
returns-in_err-is_open g c = absurd (false≢true (sym c.in_err-is_open.ensures.off ∙ sym c.if-not-powered.ensures))

pub returns-then-not-powered-clause-bad : goal.returns-then-not-powered-clause-bad
returns-then-not-powered-clause-bad g c = off-bad c.args.self.now

pub returns-then-not-powered-clause-off : goal.returns-then-not-powered-clause-off
returns-then-not-powered-clause-off g c = off-both c.args.self.now (subst (λ (p : Picture). p.chart.on ≡ false) c.self.view_is (sym c.if-not-powered.ensures))

pub returns-then-not-powered-clause-complete : goal.returns-then-not-powered-clause-complete
returns-then-not-powered-clause-complete g c = off-complete c.args.self.now (subst (λ (p : Picture). p.chart.on ≡ false) c.self.view_is (sym c.if-not-powered.ensures))

pub returns-in-Some-clause-off : goal.returns-in-Some-clause-off
returns-in-Some-clause-off g c = done-off (g.B.Board.state c.store_word.new.board).on c.in_ok-store_word.ensures.power

pub returns-in-Some-clause-cut : goal.returns-in-Some-clause-cut
returns-in-Some-clause-cut g c = done-cut c.args.self.now.chart (chart (g.B.Board.state c.store_word.new.board)) c.in_ok-store_word.ensures.power

pub returns-in-Some-clause-complete : goal.returns-in-Some-clause-complete
returns-in-Some-clause-complete g c calm = done-complete

pub returns-in-Some-clause-bad : goal.returns-in-Some-clause-bad
returns-in-Some-clause-bad g c = done-bad c.args.self.now.chart (chart (g.B.Board.state c.store_word.new.board))

pub returns-clause-off : goal.returns-clause-off
returns-clause-off g c = done-off (g.B.Board.state c.put_first.new.board).on c.in_ok-put_first.ensures.power

pub returns-clause-cut : goal.returns-clause-cut
returns-clause-cut g c = done-cut c.args.self.now.chart (chart (g.B.Board.state c.put_first.new.board)) c.in_ok-put_first.ensures.power

pub returns-clause-complete : goal.returns-clause-complete
returns-clause-complete g c calm = done-complete

pub returns-clause-bad : goal.returns-clause-bad
returns-clause-bad g c = done-bad c.args.self.now.chart (chart (g.B.Board.state c.put_first.new.board))

pub returns-in_err-store_word-clause-off : goal.returns-in_err-store_word-clause-off
returns-in_err-store_word-clause-off g c =
    let p = err_from_is_err_and c.from_residual-in_err-store_word.result c.from_residual-in_err-store_word.ensures.1 in rw (p.1, p.2) (ended-off c.in_err-store_word.field-0.0 (g.B.Board.state c.store_word.new.board).on c.in_err-store_word.ensures.power)

pub returns-in_err-store_word-clause-bad : goal.returns-in_err-store_word-clause-bad
returns-in_err-store_word-clause-bad g c is =
    let p = err_from_is_err_and c.from_residual-in_err-store_word.result c.from_residual-in_err-store_word.ensures.1 in let bad = subst (λ (r : _). IsErrOf r Bad) (p.1 ∙ ap (λ (f : _). Err f) p.2) is in
    subst (λ (p : Picture). HasFailed p.chart (chart (g.B.Board.state c.store_word.new.board))) c.self.view_is
    (c.in_err-store_word.ensures.stops (ended-bad c.in_err-store_word.field-0.0 bad)).1

pub returns-in_err-put_first-clause-off : goal.returns-in_err-put_first-clause-off
returns-in_err-put_first-clause-off g c =
    let p = err_from_is_err_and c.from_residual-in_err-put_first.result c.from_residual-in_err-put_first.ensures.1 in rw (p.1, p.2) (ended-off c.in_err-put_first.field-0.0 (g.B.Board.state c.put_first.new.board).on c.in_err-put_first.ensures.power)

pub returns-in_err-put_first-clause-bad : goal.returns-in_err-put_first-clause-bad
returns-in_err-put_first-clause-bad g c is =
    let p = err_from_is_err_and c.from_residual-in_err-put_first.result c.from_residual-in_err-put_first.ensures.1 in let bad = subst (λ (r : _). IsErrOf r Bad) (p.1 ∙ ap (λ (f : _). Err f) p.2) is in
    subst (λ (p : Picture). HasFailed p.chart (chart (g.B.Board.state c.put_first.new.board))) c.self.view_is
    (c.in_err-put_first.ensures.stops (ended-bad c.in_err-put_first.field-0.0 bad)).1

pub store_word-requires-clause-ready : goal.store_word-requires-clause-ready
store_word-requires-clause-ready g c = record { on = sym c.if-not-powered.ensures; sound = c.self.invariant.0.sound; fits = c.self.invariant.0.fits; agrees = c.self.invariant.0.agrees (sym c.if-not-powered.ensures) }

pub put_first-requires-clause-ready : goal.put_first-requires-clause-ready
put_first-requires-clause-ready g c = record { on = sym c.if-not-powered.ensures; sound = c.self.invariant.0.sound; fits = c.self.invariant.0.fits; agrees = c.self.invariant.0.agrees (sym c.if-not-powered.ensures) }

pub store_word-requires-clause-page : goal.store_word-requires-clause-page
store_word-requires-clause-page g c =
    let pages = ap (λ (sh : Shape). sh.pages) c.shape.ensures in subst (λ (n : ℕ). c.args.a / 32 < n) pages c.if-page-shape.false

pub is_open-requires-clause-sound : goal.is_open-requires-clause-sound
is_open-requires-clause-sound g c = c.self.invariant.0.sound

pub is_open-requires-clause-version : goal.is_open-requires-clause-version
is_open-requires-clause-version g c = c.self.invariant.0.version

pub is_open-requires-clause-slot : goal.is_open-requires-clause-slot
is_open-requires-clause-slot g c = c.if-t-ge64.false

pub put_first-requires-clause-may : goal.put_first-requires-clause-may
put_first-requires-clause-may g c =
    let on : IsTrue (g.B.Board.state c.self.inside.board).on = sym c.if-not-powered.ensures in
    let old = chart (g.B.Board.state c.self.inside.board) in
    let pages = ap (λ (sh : Shape). sh.pages) c.shape.ensures in record {
      page = subst (λ (n : ℕ). c.args.a / 32 < n) pages c.if-page-shape.false;
      low = c.if-t-ge64.false;
      opened = (slot-low old.shape old.fields.version c.args.t c.self.invariant.0.version c.if-t-ge64.false, c.in_ok-is_open.ensures.yes c.if-not-branch.false);
      owned = c.self.invariant.0.owned on;
      limit = subst (λ (n : ℕ). c.self.inside.owned.limit ≤ n) c.self.invariant.0.shadows (same-le c.self.inside.owned.limit);
      room = c.room.ensures.value.0 c.if-not-room.false;
      free = sym c.in_default.ensures.value;
    }

pub returns-then-page-shape : goal.returns-then-page-shape
returns-then-page-shape g c =
    record {
      step = λ m stood. let old = chart (g.B.Board.state c.self.inside.board) in
          let stands : Stands old m = subst (λ (p : Picture). Stands p.chart m) (sym c.self.view_is) stood in
          let pages = ap (λ (sh : Shape). sh.pages) c.shape.ensures in (m, (beyond old m c.args.a stands (omega arith), refl), stood);
      off = lit-off Range c.args.self.now (λ x. x) (subst (λ (p : Picture). IsTrue p.chart.on) c.self.view_is (sym c.if-not-powered.ensures));
      cut = lit-cut c.args.self.now;
      range = Refuses.range (past-answers g c);
      closed = Refuses.closed (past-answers g c);
      held = Refuses.held (past-answers g c);
      full = Refuses.full (past-answers g c);
      bad = lit-bad Range c.args.self.now (λ x. x);
      complete = lit-complete Range c.args.self.now (λ x. x);
      below = below-refused c.args.t c.args.a Range c.args.self.now refl (λ x. x);
    }

pub returns-then-t-ge64 : goal.returns-then-t-ge64
returns-then-t-ge64 g c =
    record {
      step = λ m stood. let old = chart (g.B.Board.state c.self.inside.board) in
          let stands : Stands old m = subst (λ (p : Picture). Stands p.chart m) (sym c.self.view_is) stood in
          let pages = ap (λ (sh : Shape). sh.pages) c.shape.ensures in let lt : c.args.a / 32 < old.shape.pages = omega arith in
          let owned = c.self.invariant.0.owned (sym c.if-not-powered.ensures) in
          (m, (inside old m c.args.a stands lt, closed-past old m c.args.t (Stands.holds stands) c.if-t-ge64.true, refl), stood);
      off = lit-off Closed c.args.self.now (λ x. x) (subst (λ (p : Picture). IsTrue p.chart.on) c.self.view_is (sym c.if-not-powered.ensures));
      cut = lit-cut c.args.self.now;
      range = Refuses.range (high-answers g c);
      closed = Refuses.closed (high-answers g c);
      held = Refuses.held (high-answers g c);
      full = Refuses.full (high-answers g c);
      bad = lit-bad Closed c.args.self.now (λ x. x);
      complete = lit-complete Closed c.args.self.now (λ x. x);
      below = below-refused c.args.t c.args.a Closed c.args.self.now refl (λ x. x);
    }

pub returns-then-not-branch : goal.returns-then-not-branch
returns-then-not-branch g c =
    record {
      step = λ m stood. let old = chart (g.B.Board.state c.self.inside.board) in
          let stands : Stands old m = subst (λ (p : Picture). Stands p.chart m) (sym c.self.view_is) stood in
          let pages = ap (λ (sh : Shape). sh.pages) c.shape.ensures in let lt : c.args.a / 32 < old.shape.pages = omega arith in
          let owned = c.self.invariant.0.owned (sym c.if-not-powered.ensures) in
          let ge = c.if-t-ge64.false in
          (m, (inside old m c.args.a stands lt, closed-inactive old m c.args.t (Stands.holds stands) (omega arith) (c.in_ok-is_open.ensures.never c.if-not-branch.true), refl), stood);
      off = lit-off Closed c.args.self.now (λ x. x) (subst (λ (p : Picture). IsTrue p.chart.on) c.self.view_is (sym c.if-not-powered.ensures));
      cut = lit-cut c.args.self.now;
      range = Refuses.range (shut-answers g c);
      closed = Refuses.closed (shut-answers g c);
      held = Refuses.held (shut-answers g c);
      full = Refuses.full (shut-answers g c);
      bad = lit-bad Closed c.args.self.now (λ x. x);
      complete = lit-complete Closed c.args.self.now (λ x. x);
      below = below-refused c.args.t c.args.a Closed c.args.self.now refl (λ x. x);
    }

pub returns-then-slot-t : goal.returns-then-slot-t
returns-then-slot-t g c =
    record {
      step = λ m stood. let old = chart (g.B.Board.state c.self.inside.board) in
          let x = meets g (goal.at.returns-then-slot-t g c).After-owner m (subst (λ (p : Picture). Stands p.chart m) (sym c.self.view_is) stood) in
          (m, (inside old m c.args.a x.stands x.page, is-open c.args.t c.args.a old m c.self.inside.owned x, owner-pairs old m c.self.inside.owned (c.args.a / 32) x.stands x.owned x.page ∙ sym c.in-Some.ensures.value, c.if-slot-t.true, refl), stood);
      off = lit-off (Held c.in-Some.slot) c.args.self.now (λ x. x) (subst (λ (p : Picture). IsTrue p.chart.on) c.self.view_is (sym c.if-not-powered.ensures));
      cut = lit-cut c.args.self.now;
      range = Refuses.range (kept-answers g c);
      closed = Refuses.closed (kept-answers g c);
      held = Refuses.held (kept-answers g c);
      full = Refuses.full (kept-answers g c);
      bad = lit-bad (Held c.in-Some.slot) c.args.self.now (λ x. x);
      complete = lit-complete (Held c.in-Some.slot) c.args.self.now (λ x. x);
      below = below-refused c.args.t c.args.a (Held c.in-Some.slot) c.args.self.now refl (λ x. x);
    }

pub returns-then-not-room : goal.returns-then-not-room
returns-then-not-room g c =
    record {
      step = λ m stood. let old = chart (g.B.Board.state c.self.inside.board) in
          let x = meets g (goal.at.returns-then-not-room g c).After-owner m (subst (λ (p : Picture). Stands p.chart m) (sym c.self.view_is) stood) in
          let n = counted-pairs old m c.self.inside.owned x.stands c.owner.ensures.whole x.owned in
          let all = Stands.holds x.stands in
          let shadows = all.shadows in
          let limit = c.self.invariant.0.shadows in
          let few = c.owner.ensures.whole.few in
          let full : length c.self.inside.owned.pairs ≡ c.self.inside.owned.limit = full-of (length c.self.inside.owned.pairs) c.self.inside.owned.limit c.room.result c.room.ensures.value c.if-not-room.true few in
          (m, (inside old m c.args.a x.stands x.page, is-open c.args.t c.args.a old m c.self.inside.owned x, owner-pairs old m c.self.inside.owned (c.args.a / 32) x.stands x.owned x.page ∙ sym c.in_default.ensures.value, omega arith, refl), stood);
      off = lit-off Full c.args.self.now (λ x. x) (subst (λ (p : Picture). IsTrue p.chart.on) c.self.view_is (sym c.if-not-powered.ensures));
      cut = lit-cut c.args.self.now;
      range = Refuses.range (full-answers g c);
      closed = Refuses.closed (full-answers g c);
      held = Refuses.held (full-answers g c);
      full = Refuses.full (full-answers g c);
      bad = lit-bad Full c.args.self.now (λ x. x);
      complete = lit-complete Full c.args.self.now (λ x. x);
      below = below-refused c.args.t c.args.a Full c.args.self.now refl (λ x. x);
    }

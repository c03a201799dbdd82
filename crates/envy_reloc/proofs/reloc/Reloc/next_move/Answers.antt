use Rattle.std.proofs.Common.{◌≡◌, inl, ◌∙◌, ℕ, ◌/◌, ◌*◌, ◌%◌, ◌<◌, List, [], ◌∷◌, ◌++◌, length, get_or, Option, Some, None, inr, refl, sym, ap, subst, arith}
use Rattle.std.specs.Prelude.{All}
use Rattle.std.proofs.lemmas.List.Elements.{All-rest}
use Rattle.envy_map.specs.Fields.{chart}
use Rattle.envy_soundness.specs.Sound.{IsKept}
use Rattle.envy_soundness.specs.declared.rows.Kept.{Kept}
use Rattle.envy_reloc.specs.Plan.{Plan}
use Rattle.envy_reloc.specs.Rows.{Rooms, IsLowestRoom}
use Rattle.envy_soundness.specs.Naming.{Keeps}
use Rattle.envy_reloc.proofs.CopyLemmas.{in-segment}
use Rattle.envy_reloc.proofs.MoveLemmas.{first-taken, dropped-more, none-left}
use Rattle.envy_base.specs.Shape.{IsShape, positions_of}
use Rattle.envy_base.specs.State.{IsBoard}
use Rattle.envy_base.specs.declared.shape.Shape.{Shape}
use Rattle.envy_soundness.proofs.Claimed.{row-range}
use Rattle.envy_soundness.proofs.NamingLemmas.{Names-named}
use Rattle.envy_reloc.specs.Phases.{IsFirstMove}
use Rattle.envy_reloc.proofs.Exits.{none-if}
use Rattle.envy_reloc.proofs.KeepLemmas.{becomes-moves}
use Rattle.envy_reloc.proofs.PlanLemmas.{Plan-fewer}
use Rattle.envy_reloc.proofs.reloc.Reloc.next_move.Goals as goal

pub returns-in-Some-2-clause-plan : goal.returns-in-Some-2-clause-plan
returns-in-Some-2-clause-plan g c =
    let now = chart (g.B.Board.state c.args.board.now) in
    let items = c.loop-turn.self-inside.moves.items in
    let long = c.remove-row.ensures.len in
    let here : items ≡ get_or items 0 c.remove-row.result ∷ c.remove-row.new.self.items = first-taken items c.remove-row.result (omega arith) ∙ ap (λ (l : List ℕ). get_or items 0 c.remove-row.result ∷ l) (sym c.remove-row.ensures.items) in
    Plan-fewer now.shape now.fields now.flash c.args.segment c.args.self.now _ c.requires.plan c.requires.copying
    (All-rest (λ (q : ℕ). q / now.shape.rows ≡ c.args.segment) (get_or items 0 c.remove-row.result) c.remove-row.new.self.items items here c.loop-turn.invariant.rows)
    (c.loop-turn.invariant.aside ∙ ap (λ (p : Plan). p.aside) c.self.view_is)
    (c.loop-turn.invariant.mark ∙ ap (λ (p : Plan). p.mark) c.self.view_is)

pub loop-turn-preserved : goal.loop-turn-preserved
loop-turn-preserved g c =
    let now = chart (g.B.Board.state c.args.board.now) in
    let items = c.loop-turn.self-inside.moves.items in
    let long = c.remove-row.ensures.len in
    let count = c.loop-turn.invariant.count in
    let here : items ≡ get_or items 0 c.remove-row.result ∷ c.remove-row.new.self.items = first-taken items c.remove-row.result (omega arith) ∙ ap (λ (l : List ℕ). get_or items 0 c.remove-row.result ∷ l) (sym c.remove-row.ensures.items) in
    let named : items ≡ c.remove-row.result ∷ c.remove-row.new.self.items = here ∙ ap (λ (x : ℕ). x ∷ c.remove-row.new.self.items) (sym c.remove-row.ensures.value) in
    let keeps = subst (λ (k : Option Kept). Keeps now.shape now.fields c.remove-row.result k) c.in-None.is c.in_ok-kept.ensures.keeps in
    record {
      aside = c.loop-turn.invariant.aside;
      mark = c.loop-turn.invariant.mark;
      copied = c.loop-turn.invariant.copied;
      moved = c.loop-turn.invariant.moved;
      erased = c.loop-turn.invariant.erased;
      since = c.loop-turn.invariant.since;
      count = omega arith;
      rows = All-rest (λ (q : ℕ). q / now.shape.rows ≡ c.args.segment) (get_or items 0 c.remove-row.result) c.remove-row.new.self.items items here c.loop-turn.invariant.rows;
      dropped = dropped-more now.fields c.self.inside.moves.items c.loop-turn.invariant.dropped.0 items c.remove-row.new.self.items c.remove-row.result c.loop-turn.invariant.dropped.1 named c.loop-turn.invariant.dropped.2 (λ kept. keeps kept.0 kept.1);
    }

pub returns-clause-next : goal.returns-clause-next
returns-clause-next g c =
    let now = chart (g.B.Board.state c.args.board.now) in
    let count = c.loop-turn.invariant.count in
    let end = c.loop-turn-test.false in
    let value = c.len-turn-end.ensures.value in
    let left = none-left now.fields c.self.inside.moves.items c.loop-turn.invariant.dropped.0 c.loop-turn.self-inside.moves.items c.loop-turn.invariant.dropped.1 (omega arith) c.loop-turn.invariant.dropped.2 in (
      inl (subst (λ (p : Plan). All (λ (r : ℕ). IsKept now.fields r → ⊥) p.moves) c.self.view_is left.0),
      left.1,
    )

pub returns-clause-plan : goal.returns-clause-plan
returns-clause-plan g c =
    let now = chart (g.B.Board.state c.args.board.now) in
    Plan-fewer now.shape now.fields now.flash c.args.segment c.args.self.now _ c.requires.plan c.requires.copying c.loop-turn.invariant.rows
    (c.loop-turn.invariant.aside ∙ ap (λ (p : Plan). p.aside) c.self.view_is)
    (c.loop-turn.invariant.mark ∙ ap (λ (p : Plan). p.mark) c.self.view_is)

pub returns-in_err-kept-clause-becomes : goal.returns-in_err-kept-clause-becomes
returns-in_err-kept-clause-becomes g c =
    let inv = c.loop-turn.invariant in
    becomes-moves _ c.args.self.now _ c.self.view_is inv.aside inv.mark inv.copied inv.moved inv.erased inv.since

pub returns-in-Some-2-clause-becomes : goal.returns-in-Some-2-clause-becomes
returns-in-Some-2-clause-becomes g c =
    let inv = c.loop-turn.invariant in
    becomes-moves _ c.args.self.now _ c.self.view_is inv.aside inv.mark inv.copied inv.moved inv.erased inv.since

pub returns-clause-becomes : goal.returns-clause-becomes
returns-clause-becomes g c =
    let inv = c.loop-turn.invariant in
    becomes-moves _ c.args.self.now _ c.self.view_is inv.aside inv.mark inv.copied inv.moved inv.erased inv.since

pub returns-in_default-clause-plan : goal.returns-in_default-clause-plan
returns-in_default-clause-plan g c =
    let now = chart (g.B.Board.state c.args.board.now) in
    let none : length c.clear.new.self.items ≡ 0 = ap (λ (xs : List ℕ). length xs) c.clear.ensures in
    Plan-fewer now.shape now.fields now.flash c.args.segment c.args.self.now _ c.requires.plan c.requires.copying (λ k d lt. absurd (omega arith)) (ap (λ (p : Plan). p.aside) c.self.view_is) (ap (λ (p : Plan). p.mark) c.self.view_is)

pub returns-in_default-room_between-clause-plan : goal.returns-in_default-room_between-clause-plan
returns-in_default-room_between-clause-plan g c =
    let now = chart (g.B.Board.state c.args.board.now) in
    let none : length c.clear-in_default-room_between.new.self.items ≡ 0 = ap (λ (xs : List ℕ). length xs) c.clear-in_default-room_between.ensures in
    Plan-fewer now.shape now.fields now.flash c.args.segment c.args.self.now _ c.requires.plan c.requires.copying (λ k d lt. absurd (omega arith)) (ap (λ (p : Plan). p.aside) c.self.view_is) (ap (λ (p : Plan). p.mark) c.self.view_is)

pub returns-in_default-clause-becomes : goal.returns-in_default-clause-becomes
returns-in_default-clause-becomes g c = ap (λ (p : Plan). record p { moves = c.clear.new.self.items }) c.self.view_is

pub returns-in_default-room_between-clause-becomes : goal.returns-in_default-room_between-clause-becomes
returns-in_default-room_between-clause-becomes g c = ap (λ (p : Plan). record p { moves = c.clear-in_default-room_between.new.self.items }) c.self.view_is

pub returns-in_err-kept-clause-plan : goal.returns-in_err-kept-clause-plan
returns-in_err-kept-clause-plan g c = none-if c.from_residual.result _ _ c.from_residual.ensures.1

pub returns-in_err-kept-clause-next : goal.returns-in_err-kept-clause-next
returns-in_err-kept-clause-next g c = none-if c.from_residual.result _ _ c.from_residual.ensures.1

pub room_between-requires-clause-order : goal.room_between-requires-clause-order
room_between-requires-clause-order g c =
    let aside : c.args.self.now.aside ≡ Some (c.in-Some.first, c.in-Some.last) = ap (λ (p : Plan). p.aside) (sym c.self.view_is) ∙ c.in-Some.is in
    (c.requires.plan.prepared.aside c.args.segment c.in-Some.first c.in-Some.last c.requires.copying aside).0

pub room_between-requires-clause-last : goal.room_between-requires-clause-last
room_between-requires-clause-last g c =
    let aside : c.args.self.now.aside ≡ Some (c.in-Some.first, c.in-Some.last) = ap (λ (p : Plan). p.aside) (sym c.self.view_is) ∙ c.in-Some.is in
    let low = (c.requires.plan.prepared.aside c.args.segment c.in-Some.first c.in-Some.last c.requires.copying aside).1 in
    subst (λ (sh : Shape). c.in-Some.last < positions_of sh) (sym c.requires.pool.shape) low

pub row_owner-requires-clause-row : goal.row_owner-requires-clause-row
row_owner-requires-clause-row g c =
    let now = chart (g.B.Board.state c.args.board.now) in
    let items = c.loop-turn.self-inside.moves.items in
    let long = c.remove-row.ensures.len in
    let two = IsShape.rows (IsBoard.shape (g.met.B.Board.lawful c.args.board.now)) in
    let here : c.remove-row.result / now.shape.rows ≡ c.args.segment = ap (λ (x : ℕ). x / now.shape.rows) c.remove-row.ensures.value ∙ c.loop-turn.invariant.rows 0 c.remove-row.result (omega arith) in
    subst (λ (q : ℕ). q < now.shape.segments * now.shape.rows) (sym (in-segment now.shape.rows c.remove-row.result c.args.segment (omega arith) here)) (row-range now.shape c.args.segment (c.remove-row.result % now.shape.rows) c.requires.segment (omega arith))

pub returns-in-Some-2-clause-next : goal.returns-in-Some-2-clause-next
returns-in-Some-2-clause-next g c =
    let now = chart (g.B.Board.state c.args.board.now) in
    let items = c.loop-turn.self-inside.moves.items in
    let more = c.remove-row.new.self.items in
    let row = c.remove-row.result in
    let inv = c.loop-turn.invariant in
    let long = c.remove-row.ensures.len in
    let here : items ≡ get_or items 0 row ∷ more = first-taken items row (omega arith) ∙ ap (λ (l : List ℕ). get_or items 0 row ∷ l) (sym c.remove-row.ensures.items) in
    let named : items ≡ row ∷ more = here ∙ ap (λ (x : ℕ). x ∷ more) (sym c.remove-row.ensures.value) in
    let keeps = subst (λ (k : Option Kept). Keeps now.shape now.fields row k) c.in-Some-2.is c.in_ok-kept.ensures.keeps in
    let aside : c.args.self.now.aside ≡ Some (c.in-Some.first, c.in-Some.last) = ap (λ (p : Plan). p.aside) (sym c.self.view_is) ∙ c.in-Some.is in
    let first_move : IsFirstMove now.fields c.args.self.now.moves row more = record {
      dropped = inv.dropped.0;
      is = ap (λ (p : Plan). p.moves) (sym c.self.view_is) ∙ inv.dropped.1 ∙ ap (λ (l : List ℕ). inv.dropped.0 ++ l) named;
      dead = inv.dropped.2;
      kept = (c.in-Some-2.kept.page, Names-named now.fields c.in-Some-2.kept.page row c.in-Some-2.kept.undo keeps.2);
    } in
    let at : row / now.shape.rows ≡ c.args.segment = ap (λ (x : ℕ). x / now.shape.rows) c.remove-row.ensures.value ∙ inv.rows 0 row (omega arith) in
    let rooms = subst (λ (r : Option ℕ). Rooms c.args.space.now.shape c.args.space.now.fills c.args.space.now.positions c.args.segment c.in-Some.first c.in-Some.last r) c.in-Some-room_between.is c.room_between.ensures in
    let low = subst (λ (sh : Shape). IsLowestRoom sh now.fields.fills now.fields.positions c.args.segment c.in-Some.first c.in-Some.last c.in-Some-room_between.position) c.requires.pool.shape
    (subst (λ (xs : List ℕ). IsLowestRoom c.args.space.now.shape xs now.fields.positions c.args.segment c.in-Some.first c.in-Some.last c.in-Some-room_between.position) c.requires.pool.fills
    (subst (λ (xs : List ℕ). IsLowestRoom c.args.space.now.shape c.args.space.now.fills xs c.args.segment c.in-Some.first c.in-Some.last c.in-Some-room_between.position) c.requires.pool.positions rooms)) in
    (first_move, at, keeps.0, keeps.1, keeps.2, c.in-Some.first, c.in-Some.last, aside, low)

pub returns-in_default-clause-next : goal.returns-in_default-clause-next
returns-in_default-clause-next g c = (inr (inl (ap (λ (p : Plan). p.aside) (sym c.self.view_is) ∙ c.in_default.is)), c.clear.ensures)

pub returns-in_default-room_between-clause-next : goal.returns-in_default-room_between-clause-next
returns-in_default-room_between-clause-next g c =
    let now = chart (g.B.Board.state c.args.board.now) in
    let pool = c.args.space.now in
    let aside : c.args.self.now.aside ≡ Some (c.in-Some.first, c.in-Some.last) = ap (λ (p : Plan). p.aside) (sym c.self.view_is) ∙ c.in-Some.is in
    let rooms = subst (λ (r : Option ℕ). Rooms pool.shape pool.fills pool.positions c.args.segment c.in-Some.first c.in-Some.last r) c.in_default-room_between.is c.room_between.ensures in
    let none = subst (λ (sh : Shape). Rooms sh now.fields.fills now.fields.positions c.args.segment c.in-Some.first c.in-Some.last None) c.requires.pool.shape
    (subst (λ (xs : List ℕ). Rooms pool.shape xs now.fields.positions c.args.segment c.in-Some.first c.in-Some.last None) c.requires.pool.fills
    (subst (λ (xs : List ℕ). Rooms pool.shape pool.fills xs c.args.segment c.in-Some.first c.in-Some.last None) c.requires.pool.positions rooms)) in
    (inr (inr (c.in-Some.first, c.in-Some.last, aside, none)), c.clear-in_default-room_between.ensures)

pub loop-turn-init : goal.loop-turn-init
loop-turn-init g c =
    let now = chart (g.B.Board.state c.args.board.now) in
    record {
      aside = refl;
      mark = refl;
      copied = refl;
      moved = refl;
      erased = refl;
      since = refl;
      count = omega arith;
      rows = subst (λ (p : Plan). All (λ (q : ℕ). q / now.shape.rows ≡ c.args.segment) p.moves) (sym c.self.view_is) (c.requires.plan.prepared.moves c.args.segment c.requires.copying);
      dropped = ([], refl, λ k d lt. absurd (omega arith));
    }

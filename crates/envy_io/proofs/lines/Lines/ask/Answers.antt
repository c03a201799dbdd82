use Rattle.std.proofs.Common.{refl, sym, take, length-take-le}
use Rattle.std.proofs.lemmas.Result.{err_from_is_err_and}
use Rattle.envy_io.proofs.Asked.{asked, count-few, count-within, ends-below, held-behind, held-few, room-behind, room-few, room-some, taken-few, within-front}
use Rattle.envy_io.proofs.lines.Lines.ask.Goals as goal

pub slice_bounds-piece-end : goal.slice_bounds-piece-end
slice_bounds-piece-end g c = room-few _ _ c.min-room.ensures

pub slice_bounds-fill-end : goal.slice_bounds-fill-end
slice_bounds-fill-end g c = sym (length-take-le _ _ (room-few _ _ c.min-room.ensures))

pub fill-requires : goal.fill-requires
fill-requires g c = room-some _ _ c.self.view_is c.requires _ _ c.min-room.ensures (room-few _ _ c.min-room.ensures)

pub returns-in_err-count-clause-ok : goal.returns-in_err-count-clause-ok
returns-in_err-count-clause-ok g c = rw (err_from_is_err_and c.from_residual.result c.from_residual.ensures.1).1 tt

pub returns-in_err-count-clause-kept : goal.returns-in_err-count-clause-kept
returns-in_err-count-clause-kept g c = rw (err_from_is_err_and c.from_residual.result c.from_residual.ensures.1).1 refl

pub returns-in_err-count-clause-left : goal.returns-in_err-count-clause-left
returns-in_err-count-clause-left g c = rw (err_from_is_err_and c.from_residual.result c.from_residual.ensures.1).1 c.in_err-count.ensures.0

pub returns-in_err-count-clause-failed : goal.returns-in_err-count-clause-failed
returns-in_err-count-clause-failed g c = rw (err_from_is_err_and c.from_residual.result c.from_residual.ensures.1).1 c.in_err-count.ensures.1

pub slice_bounds-piece-end-2 : goal.slice_bounds-piece-end-2
slice_bounds-piece-end-2 g c = within-front c.fill.new.into _ _ c.in_ok-count.ensures.0

pub slice_bounds-append-end : goal.slice_bounds-append-end
slice_bounds-append-end g c = sym (length-take-le _ _ (within-front c.fill.new.into _ _ c.in_ok-count.ensures.0))

pub append-requires : goal.append-requires
append-requires g c =
    let long = taken-few c.fill.new.into _ c.min-room.result c.fill.auto.into in
    let few = count-few c.fill.new.into _ _ _ c.min-room.ensures long c.in_ok-count.ensures.0 in
    room-behind c.drop_front.new.bytes.items _ _ (held-few _ _ c.self.view_is c.requires c.drop_front.new.bytes.items c.drop_front.ensures) few

pub invariant_of-self : goal.invariant_of-self
invariant_of-self g c =
    let long = taken-few c.fill.new.into _ c.min-room.result c.fill.auto.into in
    let few = count-few c.fill.new.into _ _ _ c.min-room.ensures long c.in_ok-count.ensures.0 in
    let behind = held-behind c.append.new.bytes.items c.drop_front.new.bytes.items _ _ c.append.ensures (held-few _ _ c.self.view_is c.requires c.drop_front.new.bytes.items c.drop_front.ensures) few in (
      behind.0,
      behind.1,
      count-within _ _ c.self.view_is c.requires c.fill.new.into _ _ c.min-room.ensures long c.in_ok-count.ensures.0,
      ends-below _ _ c.self.view_is c.requires c.fill.new.into _ _ c.min-room.ensures long c.in_ok-count.ensures.0,
    )

pub returns-clause-ok : goal.returns-clause-ok
returns-clause-ok g c =
    let long = taken-few c.fill.new.into _ c.min-room.result c.fill.auto.into in (
      take c.in_ok-count.count c.fill.new.into,
      asked _ _ c.self.view_is c.requires c.fill.new.into _ _ c.min-room.ensures long c.in_ok-count.ensures.0 _ _ _ c.drop_front.new.bytes.items _ c.in_ok-count.ensures c.drop_front.ensures c.append.ensures,
    )

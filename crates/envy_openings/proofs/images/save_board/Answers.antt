use Rattle.std.proofs.Common.{◌≤◌, length, sym, ap}
use Rattle.std.proofs.lemmas.List.{length-take-le}
use Rattle.envy_io.specs.InMemory.{MemDrain}
use Rattle.envy_openings.proofs.Saved.{image-fits, image-over}
use Rattle.envy_openings.proofs.images.save_board.Goals as goal

pub slice_bounds-copy_from_slice-end : goal.slice_bounds-copy_from_slice-end
slice_bounds-copy_from_slice-end g c =
    image-fits (g.B.Board.state c.args.board.now) c.in-Ok.sink.written c.write_image.new.sink.written c.written-image.result.now c.args.into.now c.shape.result c.size_of_image-size.result (g.met.B.Board.lawful c.args.board.now)
    (record { none = ap MemDrain.written c.in-Ok.ensures; all = c.in-Ok-write_image.ensures.1.0; is = c.written-image.ensures }) c.shape.ensures c.size_of_image-size.ensures c.if-into-size.false

pub slice_bounds-copy_from_slice-end-in-Ok-write_image : goal.slice_bounds-copy_from_slice-end-in-Ok-write_image
slice_bounds-copy_from_slice-end-in-Ok-write_image g c =
    let fits : length c.written-image.result.now ≤ length c.args.into.now =
    image-fits (g.B.Board.state c.args.board.now) c.in-Ok.sink.written c.write_image.new.sink.written c.written-image.result.now c.args.into.now c.shape.result c.size_of_image-size.result (g.met.B.Board.lawful c.args.board.now)
    (record { none = ap MemDrain.written c.in-Ok.ensures; all = c.in-Ok-write_image.ensures.1.0; is = c.written-image.ensures }) c.shape.ensures c.size_of_image-size.ensures c.if-into-size.false in
    sym (length-take-le (length c.written-image.result.now) c.args.into.now fits)

pub copy_from_slice-requires : goal.copy_from_slice-requires
copy_from_slice-requires g c =
    let fits : length c.written-image.result.now ≤ length c.args.into.now =
    image-fits (g.B.Board.state c.args.board.now) c.in-Ok.sink.written c.write_image.new.sink.written c.written-image.result.now c.args.into.now c.shape.result c.size_of_image-size.result (g.met.B.Board.lawful c.args.board.now)
    (record { none = ap MemDrain.written c.in-Ok.ensures; all = c.in-Ok-write_image.ensures.1.0; is = c.written-image.ensures }) c.shape.ensures c.size_of_image-size.ensures c.if-into-size.false in
    length-take-le (length c.written-image.result.now) c.args.into.now fits

pub returns-in-Ok-write_image : goal.returns-in-Ok-write_image
returns-in-Ok-write_image g c = (
  c.in-Ok-write_image.ensures.0,
  image-over (g.B.Board.state c.args.board.now) c.in-Ok.sink.written c.write_image.new.sink.written c.written-image.result.now c.copy_from_slice.new.self c.args.into.now (g.met.B.Board.lawful c.args.board.now)
      (record { none = ap MemDrain.written c.in-Ok.ensures; all = c.in-Ok-write_image.ensures.1.0; is = c.written-image.ensures }) c.copy_from_slice.ensures.after,
)

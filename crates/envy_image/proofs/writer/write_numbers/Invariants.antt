use Rattle.std.specs.Prelude.{Ok, take}
use Rattle.envy_io.specs.Streams.{WritesAll}
use Rattle.envy_image.specs.Image.{numbers_bytes}
use Rattle.envy_image.proofs.writer.write_numbers.Given as goal

abbrev pub invariant-loop-number : goal.invariant-loop-number
invariant-loop-number g l = WritesAll (g.K.Sink.drain l.initial.sink) (numbers_bytes (take l.number-index l.numbers)) (Ok tt) (g.K.Sink.drain l.sink)

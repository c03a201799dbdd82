use Rattle.std.proofs.Common.{List, ℕ, refl, subst, lit<}
use Rattle.envy_base.specs.declared.shape.Shape.{Shape}
use Rattle.envy_image.specs.Reading.{Consumes}
use Rattle.envy_image.proofs.Consuming.{six}
use Rattle.envy_image.proofs.reader.read_sizes.Goals as goal

pub returns : goal.returns
returns g c =
    let sh : Shape =
    record { segments = c.number_at.result; rows = c.number_at-2.result; pages = c.number_at-3.result; shadows = c.number_at-4.result; frames = c.number_at-5.result; entries = c.number_at-6.result; reserves = 0; sums = 0 } in (
      subst (λ (bytes : List ℕ). Consumes c.args.lines.now (g.S.Source.feed c.args.source.now) bytes c.read_bytes.new.lines (g.S.Source.feed c.read_bytes.new.source))
          (six c.read_bytes.new.into sh c.read_bytes.auto.into c.number_at.ensures c.number_at-2.ensures c.number_at-3.ensures c.number_at-4.ensures c.number_at-5.ensures c.number_at-6.ensures) c.in_ok-read_bytes.ensures,
      record {
        segments = c.number_at.type_inv;
        rows = c.number_at-2.type_inv;
        pages = c.number_at-3.type_inv;
        shadows = c.number_at-4.type_inv;
        frames = c.number_at-5.type_inv;
        entries = c.number_at-6.type_inv;
        reserves = lit< tt;
        sums = lit< tt;
      },
      (λ _. (refl, refl)),
    )

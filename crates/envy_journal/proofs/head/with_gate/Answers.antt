use Rattle.std.proofs.Common.{◌∙◌, refl}
use Rattle.envy_journal.specs.Head.{head_bytes}
use Rattle.envy_journal.specs.Version.{version}
use Rattle.envy_journal.proofs.Headed.{gated}
use Rattle.envy_journal.proofs.head.with_gate.Goals as goal

pub returns : goal.returns
returns c =
    gated (head_bytes version c.args.shape.now) c.head_of.result c.copy_behind.new.buffer c.copy_behind-2.new.buffer c.args.gate refl c.head_of.ensures c.copy_behind.ensures.copied c.copy_behind-2.ensures.copied
    (c.copy_behind-2.ensures.room ∙ c.copy_behind.ensures.room)

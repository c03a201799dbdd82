use Rattle.std.proofs.Common.{◌⊎◌, inl, [], refl, subst, sym}
use Rattle.envy_begun.specs.Left.{StaysNew, StaysWritten}
use Rattle.envy_begun.specs.Plans.{BeginsOn, Plans}
use Rattle.envy_begun.specs.declared.file_contents.FileContents.{FileContents}
use Rattle.envy_begun.specs.declared.file_contents.FileContents.TheVariants.{Unmade, Blank, Written}
use Rattle.envy_begun.proofs.Again.{ok_on}
use Rattle.envy_begun.proofs.Alike.{all-stays}
use Rattle.envy_begun.proofs.Begins.{begins-as-it-is}
use Rattle.envy_begun.proofs.Caused.{all-declined, some-misfit}
use Rattle.envy_begun.specs.Unserved.{HasNoWords}
use Rattle.envy_journal.specs.Content.{HasMisfit}
use Rattle.envy_journal.specs.Reading.{operations}
use Rattle.envy_journal.specs.Head.{IsUnmade}
use Rattle.envy_begun.proofs.memory.begin.Goals as goal

pub returns-in-Unmade-clause-board : goal.returns-in-Unmade-clause-board
returns-in-Unmade-clause-board g c =
    ok_on c.begin_new.result c.begin_new.ensures.fresh (λ memory fresh. subst (λ (h : FileContents). BeginsOn h c.args.bytes.now memory.chart) (sym c.in-Unmade.is) (begins-as-it-is Unmade c.args.bytes.now memory.chart fresh.0 (refl, fresh.1)))

pub returns-in-Blank-clause-board : goal.returns-in-Blank-clause-board
returns-in-Blank-clause-board g c =
    ok_on c.begin_blank.result c.begin_blank.ensures.fresh (λ memory fresh. subst (λ (h : FileContents). BeginsOn h c.args.bytes.now memory.chart) (sym c.in-Blank.is) (begins-as-it-is Blank c.args.bytes.now memory.chart fresh.0 (refl, fresh.1)))

pub returns-in-Written-clause-board : goal.returns-in-Written-clause-board
returns-in-Written-clause-board g c =
    ok_on c.begin_again.result c.begin_again.ensures.board (λ memory on. subst (λ (h : FileContents). BeginsOn h c.args.bytes.now memory.chart) (sym c.in-Written.is) on)

pub returns-in-Blank-clause-failed : goal.returns-in-Blank-clause-failed
returns-in-Blank-clause-failed g c =
    let found = subst (λ (h : FileContents). Plans h c.args.options.now c.args.bytes.now c.args.setup) c.in-Blank.is c.requires.plans in
    all-declined g.D.Device.seen g.D.Device.has_failed c.args.options.now c.args.bytes.now c.args.device c.args.setup c.begin_blank.result found.0
    (HasMisfit c.args.setup.shape (operations c.args.bytes.now)) (λ misfit. (some-misfit c.args.setup.shape c.args.bytes.now misfit, inl misfit)) c.begin_blank.ensures.failed

pub returns-in-Written-clause-failed : goal.returns-in-Written-clause-failed
returns-in-Written-clause-failed g c =
    let found = subst (λ (h : FileContents). Plans h c.args.options.now c.args.bytes.now c.args.setup) c.in-Written.is c.requires.plans in
    all-declined g.D.Device.seen g.D.Device.has_failed c.args.options.now c.args.bytes.now c.args.device c.args.setup c.begin_again.result found.0
    (HasNoWords c.args.setup.shape c.args.bytes.now) (λ none. (found.1, none)) c.begin_again.ensures.failed

pub returns-in-Unmade-clause-left : goal.returns-in-Unmade-clause-left
returns-in-Unmade-clause-left g c =
    all-stays g.D.Device.left_since g.D.Device.moment c.args.setup.shape c.args.bytes.now c.args.holding Unmade c.begin_new.result (λ open_fault file. IsUnmade file ⊎ StaysNew open_fault c.args.setup.shape [] file) c.in-Unmade.is (λ open_fault file stays. stays) c.begin_new.ensures.left

pub returns-in-Blank-clause-left : goal.returns-in-Blank-clause-left
returns-in-Blank-clause-left g c =
    let found = subst (λ (h : FileContents). Plans h c.args.options.now c.args.bytes.now c.args.setup) c.in-Blank.is c.requires.plans in
    all-stays g.D.Device.left_since g.D.Device.moment c.args.setup.shape c.args.bytes.now c.args.holding Blank c.begin_blank.result (λ open_fault. StaysNew open_fault c.args.setup.shape c.args.bytes.now) c.in-Blank.is (λ open_fault file stays. stays) (c.begin_blank.ensures.left found.1)

pub returns-in-Written-clause-left : goal.returns-in-Written-clause-left
returns-in-Written-clause-left g c =
    all-stays g.D.Device.left_since g.D.Device.moment c.args.setup.shape c.args.bytes.now c.args.holding Written c.begin_again.result (λ open_fault. StaysWritten open_fault c.args.setup.shape c.args.bytes.now) c.in-Written.is (λ open_fault file stays. stays) c.begin_again.ensures.left

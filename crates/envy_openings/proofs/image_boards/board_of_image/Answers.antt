use Rattle.std.proofs.Common.{◌≡◌, sym, ◌∙◌, ap, subst, rules}
use Rattle.envy_base.specs.State.{State}
use Rattle.envy_base.specs.declared.shape.Shape.{Shape}
use Rattle.envy_openings.specs.Image.{HoldsImage, NoBoard}
use Rattle.envy_openings.specs.Reading.{IsOpened}
use Rattle.envy_bench.specs.CalmState.{calm_state}
use Rattle.envy_calls.specs.declared.code.Code.TheVariants.{ImageShort}
use Rattle.envy_openings.proofs.Opened.{body-holds, body-short}
use Rattle.envy_openings.proofs.image_boards.board_of_image.Goals as goal

pub returns-in-Ok-install : goal.returns-in-Ok-install
returns-in-Ok-install c =
    let o = c.in_ok-found.field-0 in let made = c.in-Ok.ensures in
    let same : o.shape ≡ c.args.shape.now = search rules in
    let shape : o.shape ≡ (calm_state c.in-Ok.board).shape = same ∙ sym (ap State.shape made) in
    let opened : IsOpened c.args.image.now (calm_state c.in-Ok.board).shape o.source.left.now o.lines = subst (λ (sh : Shape). IsOpened c.args.image.now sh o.source.left.now o.lines) shape c.in_ok-found.ensures in
    subst (λ (s : State). HoldsImage c.args.image.now s (calm_state c.install.new.board)) made
    (body-holds c.args.image.now o.source.left.now c.install.new.source.left.now o.lines c.install.new.lines (calm_state c.in-Ok.board) (calm_state c.install.new.board) opened c.in-Ok-install.ensures.installs)

pub returns-in-Err-Short : goal.returns-in-Err-Short
returns-in-Err-Short c =
    let o = c.in_ok-found.field-0 in let made = c.in-Ok.ensures in
    let same : o.shape ≡ c.args.shape.now = search rules in
    let shape : o.shape ≡ (calm_state c.in-Ok.board).shape = same ∙ sym (ap State.shape made) in
    let opened : IsOpened c.args.image.now (calm_state c.in-Ok.board).shape o.source.left.now o.lines = subst (λ (sh : Shape). IsOpened c.args.image.now sh o.source.left.now o.lines) shape c.in_ok-found.ensures in
    subst (λ (s : State). NoBoard c.args.image.now s.shape ImageShort) made
    (body-short c.args.image.now o.source.left.now c.install.new.source.left.now o.lines c.install.new.lines (calm_state c.in-Ok.board) (calm_state c.install.new.board) opened (rw c.in-Err-Short.field-0-is at c.in-Err-Short.ensures.installs))

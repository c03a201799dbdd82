use Rattle.std.proofs.Common.{◌≡◌, ◌≤◌, Some, ◌∙◌, ap, arith, sym, subst, length}
use Rattle.std.proofs.lemmas.Bool.{false≢true}
use Rattle.envy_base.specs.declared.fields.Slot.TheVariants.{Active}
use Rattle.envy_base.specs.declared.shape.Shape.{Shape}
use Rattle.envy_map.specs.Fields.{slot}
use Rattle.envy_memory.specs.Picture.{Picture}
use Rattle.envy_memory.proofs.PutAnswers.{beyond-slots}
use Rattle.envy_memory.proofs.RoomLemmas.{few-pages, room-counted}
use Rattle.envy_memory.proofs.memory.Memory.lacks_room.Goals as goal

pub returns-then-pages-left : goal.returns-then-pages-left
returns-then-pages-left g c =
    let shadows : c.shape.result.shadows ≡ c.args.self.now.chart.shape.shadows = ap (λ (sh : Shape). sh.shadows) c.shape.ensures ∙ ap (λ (p : Picture). p.chart.shape.shadows) c.self.view_is in
    let count : c.count.result ≡ length c.args.self.now.owned.pairs = c.count.ensures.value ∙ ap (λ (p : Picture). length p.owned.pairs) c.self.view_is in
    let limit = c.self.invariant.0.shadows in
    let whole = c.count.ensures.whole.few in
    let told = c.count.ensures.value in
    let sizes = ap (λ (sh : Shape). sh.shadows) c.shape.ensures in
    let few : c.count.result ≤ c.shape.result.shadows = omega (arith, limit, whole, told, sizes) in
    ((λ e. absurd (false≢true e)), (λ lacking. absurd (few-pages c.args.t c.args.a c.args.n c.shape.result.shadows c.count.result c.pages_within-pages.result c.args.self.now shadows count few c.pages_within-pages.ensures c.if-pages-left.true lacking)))

pub returns-then-t-ge64 : goal.returns-then-t-ge64
returns-then-t-ge64 g c = ((λ e. absurd (false≢true e)), (λ lacking. absurd (beyond-slots c.args.self.now.chart c.args.t c.invariant_holds.ensures.sound c.if-t-ge64.true lacking.1)))

pub returns-in-Ok-true : goal.returns-in-Ok-true
returns-in-Ok-true g c =
    let shadows : c.shape.result.shadows ≡ c.args.self.now.chart.shape.shadows = ap (λ (sh : Shape). sh.shadows) c.shape.ensures ∙ ap (λ (p : Picture). p.chart.shape.shadows) c.self.view_is in
    let count : c.count.result ≡ length c.args.self.now.owned.pairs = c.count.ensures.value ∙ ap (λ (p : Picture). length p.owned.pairs) c.self.view_is in
    let limit = c.self.invariant.0.shadows in
    let whole = c.count.ensures.whole.few in
    let told = c.count.ensures.value in
    let sizes = ap (λ (sh : Shape). sh.shadows) c.shape.ensures in
    let few : c.count.result ≤ c.shape.result.shadows = omega (arith, limit, whole, told, sizes) in
    let active : slot c.args.self.now.chart.fields c.args.t ≡ Some Active = subst (λ (p : Picture). slot p.chart.fields c.args.t ≡ Some Active) c.self.view_is (c.in-Ok-true.ensures.yes c.in-Ok-true.field-0-test) in
    room-counted c.args.t c.args.a c.args.n c.shape.result.shadows c.count.result c.pages_within-pages.result c.unowned.result c.args.self.now shadows count few c.pages_within-pages.ensures c.unowned.ensures (sym c.if-not-powered.ensures) active

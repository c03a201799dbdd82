use Rattle.std.proofs.Common.{ℕ, List, ap, sym, subst, ◌∙◌}
use Rattle.std.specs.Prelude.{Err}
use Rattle.envy_array.specs.Words.{IsPlace, Sheet}
use Rattle.envy_map.specs.Fields.{Chart}
use Rattle.envy_memory.specs.Picture.{Picture}
use Rattle.envy_memory.proofs.Ended.{few-as, same-held, lit-ok}
use Rattle.envy_memory.proofs.Pricing.{load-spends}
use Rattle.envy_memory.proofs.RunSheets.{live-is, run-in-range}
use Rattle.envy_memory.proofs.Transacting.{sheet-same}
use Rattle.envy_memory.proofs.one_tx.OneTxWords.search.Goals as goal

pub invariant_of-self : goal.invariant_of-self
invariant_of-self g c =
    let same = ap (λ (p : Picture). p.chart) c.search.ensures.kept in
    record {
      few = few-as c.args.self.now.memory.chart c.search.new.self.chart (ap (λ (x : Chart). x.shape) same) c.args.self.now.few;
      held = same-held c.args.self.now.memory.chart c.search.new.self.chart c.args.self.now.begun same c.args.self.now.held;
    }

pub unreachable-requires : goal.unreachable-requires
unreachable-requires g c = run-in-range c.args.self.now.memory c.args.self.now.begun c.args.a c.args.n c.requires.within (c.search.ensures.range.0 (c.in-Err-Range.is ∙ ap (λ e. Err e) c.in-Err-Range.field-0-is))

pub returns-in-Ok-clause-answer : goal.returns-in-Ok-clause-answer
returns-in-Ok-clause-answer g c =
    let p = c.args.self.now.memory in
    let q = c.search.new.self in
    let b = c.args.self.now.begun in
    let x = c.in-Ok.place in
    let lit = lit-ok q.chart.on _ _ c.search.result c.in-Ok.is c.search.ensures.off in
    let same = ap (λ (y : Picture). y.chart) c.search.ensures.kept in
    let whole = sheet-same p q b same (ap (λ (y : Picture). y.owned) c.search.ensures.kept) in
    let on = sym (ap (λ (y : Chart). y.on) same) ∙ lit in (
      (λ was. lit),
      subst (λ (ws : List ℕ). IsPlace ws c.args.a c.args.n c.args.key c.args.low c.args.top x.index x.low x.top) (live-is p b on c.args.self.now.held) c.in-Ok.ensures.place,
      ap (λ (s : Sheet). s.words) whole,
      ap (λ (s : Sheet). s.pages) whole,
    )

pub returns-in-Ok-clause-spends : goal.returns-in-Ok-clause-spends
returns-in-Ok-clause-spends g c = load-spends c.args.self.now.memory c.search.new.self c.args.self.now.begun (ap (λ (p : Picture). p.chart) c.search.ensures.kept)

pub returns-in-Err-Off-clause-spends : goal.returns-in-Err-Off-clause-spends
returns-in-Err-Off-clause-spends g c = load-spends c.args.self.now.memory c.search.new.self c.args.self.now.begun (ap (λ (p : Picture). p.chart) c.search.ensures.kept)

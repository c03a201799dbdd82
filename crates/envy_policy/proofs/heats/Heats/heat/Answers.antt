use Rattle.std.proofs.Common.{ℕ, ◌<◌, ◌/◌, length, slice_index, sym, ap, ◌∙◌, arith}
use Rattle.std.proofs.lemmas.Grind.{get_or_default_zero}
use Rattle.envy_policy.specs.Heats.{Warmth, halved_by}
use Rattle.envy_policy.proofs.Warming.{length-heats, heat-at, heat-done, heat-left}
use Rattle.envy_policy.proofs.heats.Heats.heat.Goals as goal

pub index-heat-requires : goal.index-heat-requires
index-heat-requires c =
    let a = c.self.inside in
    let seen = ap (λ (w : Warmth). length w.heats) c.self.view_is in
    let long = length-heats (halved_by a.flushes (length a.kept.items)) a.kept.items in
    omega (arith, seen, long, c.requires, a.kept.ok.0)

pub returns-then-partition-halved : goal.returns-then-partition-halved
returns-then-partition-halved c =
    let a = c.self.inside in
    let n : ℕ = halved_by a.flushes (length a.kept.items) in
    let seen = ap (λ (w : Warmth). length w.heats) c.self.view_is in
    let long = length-heats n a.kept.items in
    let within : c.args.partition < length a.kept.items = omega (arith, seen, long, c.requires) in
    let below : c.args.partition < n = omega (arith, c.halved.ensures, c.len.ensures, a.kept.ok.0, c.if-partition-halved.true) in
    c.index-heat.ensures ∙ get_or_default_zero a.kept.items c.args.partition c.index-heat.result.now within
    ∙ sym (heat-done n a.kept.items c.args.partition below) ∙ sym (heat-at n a.kept.items c.args.partition within)
    ∙ ap (λ (w : Warmth). slice_index w.heats c.args.partition) c.self.view_is

pub returns : goal.returns
returns c =
    let a = c.self.inside in
    let n : ℕ = halved_by a.flushes (length a.kept.items) in
    let seen = ap (λ (w : Warmth). length w.heats) c.self.view_is in
    let long = length-heats n a.kept.items in
    let within : c.args.partition < length a.kept.items = omega (arith, seen, long, c.requires) in
    ap (λ (x : ℕ). x / 2) (c.index-heat.ensures ∙ get_or_default_zero a.kept.items c.args.partition c.index-heat.result.now within)
    ∙ sym (heat-left n a.kept.items c.args.partition (omega (arith, c.halved.ensures, c.len.ensures, a.kept.ok.0, c.if-partition-halved.false)))
    ∙ sym (heat-at n a.kept.items c.args.partition within)
    ∙ ap (λ (w : Warmth). slice_index w.heats c.args.partition) c.self.view_is

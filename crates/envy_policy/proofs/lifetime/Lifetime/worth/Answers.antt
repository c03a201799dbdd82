use Rattle.std.proofs.Common.{◌∙◌, ◌<◌, ◌≤◌, length, slice_index, ap, subst, sym}
use Rattle.std.proofs.lemmas.List.{get_or_default}
use Rattle.envy_policy.specs.declared.fraction.Fraction.{Fraction}
use Rattle.envy_policy.specs.Notes.{Notes, IsNotes}
use Rattle.envy_policy.proofs.Weighing.{IsRead, IsSmall, worth-read, worth-small, worth-under, age-fits, over-fits, over-read}
use Rattle.envy_policy.proofs.lifetime.Lifetime.worth.Goals as goal

pub overflow_sub-age : goal.overflow_sub-age
overflow_sub-age g c =
    let within = subst (λ (n : Notes). c.args.position < length n.cleaned) (sym c.self.view_is) c.requires.position in
    rw (c.index.ensures ∙ get_or_default c.self.inside.cleaned.items c.args.position c.index.result.now 0 within) (c.self.invariant.cleaned c.args.position)

pub overflow_add-age : goal.overflow_add-age
overflow_add-age g c = age-fits c.self.inside.clock c.index.result.now c.self.invariant.clock

pub overflow_mul-result : goal.overflow_mul-result
overflow_mul-result g c =
    let n = c.args.self.now in
    let rows = g.R.Rows.counts c.args.rows.now in
    let whole = subst (λ (n : Notes). IsNotes n) c.self.view_is c.self.invariant in
    let within = subst (λ (n : Notes). c.args.position < length n.cleaned) (sym c.self.view_is) c.requires.position in
    let read : IsRead n rows c.args.position _ _ _ = record {
      is_dead = c.dead-dead.ensures;
      is_clock = ap (λ (n : Notes). n.clock) c.self.view_is;
      is_since = (c.index.ensures ∙ get_or_default c.self.inside.cleaned.items c.args.position c.index.result.now 0 within) ∙ ap (λ (n : Notes). slice_index n.cleaned c.args.position) c.self.view_is;
    } in
    over-fits _ (over-read n rows _ c.args.position _ _ _ whole c.requires.rows read)

pub returns : goal.returns
returns g c =
    let n = c.args.self.now in
    let rows = g.R.Rows.counts c.args.rows.now in
    let whole = subst (λ (n : Notes). IsNotes n) c.self.view_is c.self.invariant in
    let within = subst (λ (n : Notes). c.args.position < length n.cleaned) (sym c.self.view_is) c.requires.position in
    let read : IsRead n rows c.args.position _ _ _ = record {
      is_dead = c.dead-dead.ensures;
      is_clock = ap (λ (n : Notes). n.clock) c.self.view_is;
      is_since = (c.index.ensures ∙ get_or_default c.self.inside.cleaned.items c.args.position c.index.result.now 0 within) ∙ ap (λ (n : Notes). slice_index n.cleaned c.args.position) c.self.view_is;
    } in
    let is = worth-read n rows c.args.class c.args.position _ _ _ _ c.in_default.not-Brief read c.kept.ensures in
    let small = subst (λ (a : Fraction). IsSmall a) (sym is) (worth-small n rows _ c.args.class c.args.position whole c.requires.rows) in
    record {
      worth = is;
      over = small.over;
      under = small.under;
      some = subst (λ (a : Fraction). 1 ≤ a.under) (sym is) (worth-under n rows c.args.class c.args.position);
    }

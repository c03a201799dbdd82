use Rattle.std.proofs.Common.{◌≡◌, ◌*◌, refl, replicate, rules}
use Rattle.envy_plain.proofs.Making.{all-false, array-new, IsPlain-new}
use Rattle.envy_plain.proofs.plain.Plain.new.Goals as goal

pub invariant_of-result : goal.invariant_of-result
invariant_of-result c =
    let w : c.in_ok-vec.field-0.items ≡ replicate (32 * c.args.shape.now.pages) 0 = search rules in
    let s = c.in_ok-with_capacity.ensures in
    IsPlain-new _ _ _ _ c.args.shape.now.pages _ _ w refl (all-false 64) s.items c.in_ok-unowned.ensures s.capacity

pub returns : goal.returns
returns c =
    let w : c.in_ok-vec.field-0.items ≡ replicate (32 * c.args.shape.now.pages) 0 = search rules in
    let s = c.in_ok-with_capacity.ensures in
    array-new _ _ _ c.args.shape.now.pages _ w refl (all-false 64) s.items

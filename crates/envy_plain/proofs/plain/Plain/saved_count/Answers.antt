use Rattle.std.proofs.Common.{◌≡◌, ◌∙◌, sym, ap, vec_len, length, arith}
use Rattle.envy_array.specs.Array.{Array}
use Rattle.envy_plain.specs.Fields.{saved_words}
use Rattle.envy_plain.proofs.Room.{length-saved, sum_by-slots_in}
use Rattle.envy_plain.proofs.plain.Plain.saved_count.Goals as goal

pub returns-clause-count : goal.returns-clause-count
returns-clause-count c =
    let a = c.self.inside in
    let i = c.self.invariant in
    let long : vec_len a.saved ≡ length a.saved.items = a.saved.ok.0 in
    c.len.ensures ∙ long ∙ sym (sum_by-slots_in a.active a.saved.items i.slots i.open_slots) ∙ ap saved_words c.self.view_is

pub returns-clause-room : goal.returns-clause-room
returns-clause-room c =
    let a = c.self.inside in
    let few = length-saved _ _ _ _ _ _ _ c.self.invariant in
    let long : vec_len a.saved ≡ length a.saved.items = a.saved.ok.0 in
    let same : a.shadows ≡ c.args.self.now.shadows = ap (λ (m : Array). m.shadows) c.self.view_is in
    omega arith

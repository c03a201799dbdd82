use Rattle.std.proofs.Common.{◌≡◌, sym, subst, length, vec_len, vec_capacity, arith}
use Rattle.envy_plain.proofs.Saving.{option-none, saves-again, table-at, pushed-new, pushed-old, array-saved, room-left, count-fits}
use Rattle.envy_plain.proofs.Turns.{IsUnsaved}
use Rattle.envy_plain.proofs.plain.Plain.save.Goals as goal

pub returns-then-is_some : goal.returns-then-is_some
returns-then-is_some c =
    let a = c.self.inside in
    saves-again a.words.items a.active a.saved.items c.deref.result.now a.owners.items a.owned a.shadows (vec_capacity a.saved) c.args.t c.args.a c.args.self.now c.word_before.result
    (record { plain = c.self.invariant; view = c.self.view_is; in_range = c.requires.in_range; may = c.requires.may; opened = c.requires.opened })
    c.deref.ensures.value c.if-is_some.ensures c.word_before.ensures

pub unreachable-requires : goal.unreachable-requires
unreachable-requires c =
    let a = c.self.inside in
    let none : IsUnsaved c.args.a a.saved.items = subst (IsUnsaved c.args.a) c.deref.ensures.value (option-none c.word_before.result _ _ (sym c.if-is_some.ensures) c.word_before.ensures) in
    let room = room-left a.words.items a.active a.saved.items a.owners.items a.owned a.shadows (vec_capacity a.saved) c.args.t c.args.a c.args.self.now
    (record { plain = c.self.invariant; view = c.self.view_is; in_range = c.requires.in_range; may = c.requires.may; opened = c.requires.opened }) none in
    let full = c.in_default.ensures.full in
    let enough = c.self.invariant.enough in
    let long : vec_len a.saved ≡ length a.saved.items = a.saved.ok.0 in
    omega arith

pub index-requires-2 : goal.index-requires-2
index-requires-2 c =
    let a = c.self.inside in
    let at = table-at a.words.items a.active a.saved.items a.owners.items a.owned a.shadows (vec_capacity a.saved) c.args.t c.args.a c.args.self.now
    (record { plain = c.self.invariant; view = c.self.view_is; in_range = c.requires.in_range; may = c.requires.may; opened = c.requires.opened }) in
    let lt = at.0 in
    let long = a.owners.ok.0 in
    omega arith

pub index_mut-requires : goal.index_mut-requires
index_mut-requires c =
    let a = c.self.inside in
    let at = table-at a.words.items a.active a.saved.items a.owners.items a.owned a.shadows (vec_capacity a.saved) c.args.t c.args.a c.args.self.now
    (record { plain = c.self.invariant; view = c.self.view_is; in_range = c.requires.in_range; may = c.requires.may; opened = c.requires.opened }) in
    let lt = at.0 in
    let long = a.owners.ok.0 in
    omega arith

pub overflow_add-self : goal.overflow_add-self
overflow_add-self c =
    let a = c.self.inside in
    let lt = count-fits a.words.items a.active a.saved.items a.owners.items a.owned a.shadows (vec_capacity a.saved) c.args.t c.args.a c.args.self.now c.index-2.result.now
    (record { plain = c.self.invariant; view = c.self.view_is; in_range = c.requires.in_range; may = c.requires.may; opened = c.requires.opened }) c.index-2.ensures c.if-is_none.ensures in
    omega arith

pub invariant_of-self : goal.invariant_of-self
invariant_of-self c =
    let a = c.self.inside in
    let none : IsUnsaved c.args.a a.saved.items = subst (IsUnsaved c.args.a) c.deref.ensures.value (option-none c.word_before.result _ _ (sym c.if-is_some.ensures) c.word_before.ensures) in
    pushed-new a.words.items a.active a.saved.items c.push.new.self.items a.owners.items a.owned a.shadows (vec_capacity a.saved) (vec_capacity c.push.new.self) c.args.t c.args.a c.index.result.now c.args.self.now c.index-2.result.now
    (record { plain = c.self.invariant; view = c.self.view_is; in_range = c.requires.in_range; may = c.requires.may; opened = c.requires.opened })
    none c.index.ensures c.in-Ok.ensures.items c.in-Ok.ensures.capacity c.index-2.ensures c.if-is_none.ensures

pub invariant_of-self-else-is_none : goal.invariant_of-self-else-is_none
invariant_of-self-else-is_none c =
    let a = c.self.inside in
    let none : IsUnsaved c.args.a a.saved.items = subst (IsUnsaved c.args.a) c.deref.ensures.value (option-none c.word_before.result _ _ (sym c.if-is_some.ensures) c.word_before.ensures) in
    pushed-old a.words.items a.active a.saved.items c.push.new.self.items a.owners.items a.owned a.shadows (vec_capacity a.saved) (vec_capacity c.push.new.self) c.args.t c.args.a c.index.result.now c.args.self.now c.index-2.result.now
    (record { plain = c.self.invariant; view = c.self.view_is; in_range = c.requires.in_range; may = c.requires.may; opened = c.requires.opened })
    none c.index.ensures c.in-Ok.ensures.items c.in-Ok.ensures.capacity c.index-2.ensures c.if-is_none.ensures

pub returns-then-is_none : goal.returns-then-is_none
returns-then-is_none c =
    let a = c.self.inside in
    let none : IsUnsaved c.args.a a.saved.items = subst (IsUnsaved c.args.a) c.deref.ensures.value (option-none c.word_before.result _ _ (sym c.if-is_some.ensures) c.word_before.ensures) in
    array-saved a.words.items a.active a.saved.items c.push.new.self.items a.owners.items a.owned a.shadows (vec_capacity a.saved) c.args.t c.args.a c.index.result.now c.args.self.now
    (record { plain = c.self.invariant; view = c.self.view_is; in_range = c.requires.in_range; may = c.requires.may; opened = c.requires.opened })
    none c.index.ensures c.in-Ok.ensures.items

pub returns-else-is_none : goal.returns-else-is_none
returns-else-is_none c =
    let a = c.self.inside in
    let none : IsUnsaved c.args.a a.saved.items = subst (IsUnsaved c.args.a) c.deref.ensures.value (option-none c.word_before.result _ _ (sym c.if-is_some.ensures) c.word_before.ensures) in
    array-saved a.words.items a.active a.saved.items c.push.new.self.items a.owners.items a.owned a.shadows (vec_capacity a.saved) c.args.t c.args.a c.index.result.now c.args.self.now
    (record { plain = c.self.invariant; view = c.self.view_is; in_range = c.requires.in_range; may = c.requires.may; opened = c.requires.opened })
    none c.index.ensures c.in-Ok.ensures.items

use Rattle.std.proofs.Common.{◌≡◌, ◌*◌, ◌<◌, ◌≤◌, ◌∙◌, ap, length, refl, sym, subst, inl, arith, ℕ}
use Rattle.std.specs.Prelude.{Some}
use Rattle.std.proofs.lemmas.List.{length-map}
use Rattle.envy_index_calls.specs.Loaded.{LoadsIn}
use Rattle.envy_index_calls.specs.Loading.{load_puts}
use Rattle.envy_index_calls.specs.Ranges.{IsRange}
use Rattle.envy_index_calls.specs.Scanned.{pair_in, pairs_in}
use Rattle.envy_index_calls.specs.declared.ranges.Whose.TheVariants.{New}
use Rattle.envy_index_calls.proofs.Denying.{denied, works-none}
use Rattle.envy_index_calls.proofs.Ranging.{Back, given, range-in, range-words, shut-new, shut-started}
use Rattle.envy_index_calls.proofs.Returning.{called, steady-back}
use Rattle.envy_index_calls.proofs.Storing.{load-back, unfit-back}
use Rattle.envy_index_calls.proofs.loads.map_load.Goals as goal

pub returns-in-Err : goal.returns-in-Err
returns-in-Err g c = denied (load_puts c.args.range.words (length c.args.pairs.now)) (LoadsIn c.args.range (pairs_in c.args.pairs.now)) New (Some c.args.range) c.args.place.now c.lend.new.place c.in-Err.code (λ p. record { off = λ e. (e.0, refl, inl refl); others = λ e. (refl, inl e); closed = λ e. (refl, inl e); past = λ e. (refl, inl e) }) c.in-Err.ensures

pub load_in-loaded-requires-clause-range : goal.load_in-loaded-requires-clause-range
load_in-loaded-requires-clause-range g c =
    let p = c.in-Ok.words.memory in
    let b = c.in-Ok.words.begun in
    range-words c.args.range b p (range-in c.args.place.now New c.args.range p b (given New (Some c.args.range) c.args.place.now c.lend.new.place p b c.in-Ok.ensures))

pub returns-in-Some : goal.returns-in-Some
returns-in-Some g c =
    let range = c.args.range in
    let ps = pairs_in c.args.pairs.now in
    let p = c.in-Ok.words.memory in
    let b = c.in-Ok.words.begun in
    let lent = given New (Some range) c.args.place.now c.lend.new.place p b c.in-Ok.ensures in
    let puts = load_puts range.words (length c.args.pairs.now) in
    called puts (LoadsIn range ps) New (Some range) c.args.place.now c.give_back.new.place p p b c.in-Some.code lent c.give_back.ensures.back (works-none puts p) (unfit-back c.room.result range ps p c.in-Some.code c.room.ensures c.in-Some.ensures)

pub returns : goal.returns
returns g c =
    let range = c.args.range in
    let ps = pairs_in c.args.pairs.now in
    let p = c.in-Ok.words.memory in
    let b = c.in-Ok.words.begun in
    let q = c.load_in-loaded.result.0.memory in
    let d = c.load_in-loaded.result.0.begun in
    let e = c.load_in-loaded.ensures in
    let lent = given New (Some range) c.args.place.now c.lend.new.place p b c.in-Ok.ensures in
    let puts = load_puts range.words (length c.args.pairs.now) in
    let back : Back q d = record { opened = c.give_back-2.ensures.opened; shut = c.give_back-2.ensures.shut } in
    called puts (LoadsIn range ps) New (Some range) c.args.place.now c.give_back-2.new.place p q b c.told.result lent c.give_back-2.ensures.back (steady-back puts p q b d e.steady e.spends) (load-back range ps p q b d c.load_in-loaded.result.1 c.told.result back e.shut e.beside e.loads c.told.ensures)

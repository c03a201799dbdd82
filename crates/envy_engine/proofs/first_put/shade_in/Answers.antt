use Rattle.std.proofs.Common.{◌≡◌, refl, ap}
use Rattle.envy_map.specs.Fields.{Chart, chart}
use Rattle.envy_base.specs.declared.fields.Place.TheVariants.{Frame}
use Rattle.envy_soundness.specs.Same.{SameDurable}
use Rattle.envy_meaning.specs.Transactions.{PutDone}
use Rattle.envy_table.proofs.HitLemmas.{Rests-refl, Rests-retargeted}
use Rattle.envy_engine.specs.Storing.{Near}
use Rattle.envy_engine.proofs.Leaving.{leaves_off}
use Rattle.envy_engine.proofs.CountLemmas.{Counting-still}
use Rattle.envy_engine.proofs.AgreeLemmas.{Fits-moved}
use Rattle.envy_engine.proofs.ElsewhereLemmas.{Agrees-shaded}
use Rattle.envy_reloc.proofs.Exits.{none-if, none-err, none-power}
use Rattle.envy_engine.proofs.first_put.shade_in.Goals as goal

pub returns-clause-leaves : goal.returns-clause-leaves
returns-clause-leaves g c =
    let old = chart (g.B.Board.state c.args.board.now) in
    let new = chart (g.B.Board.state c.shade_places.new.board) in
    let n = c.requires.near in
    let e = c.in_ok-shade_places.ensures in
    let shape : new.shape ≡ old.shape = ap (λ (z : Chart). z.shape) e.fields in
    record {
      steady = record {
        fits = Fits-moved old.shape new.shape c.args.parts.now _ shape n.fits refl refl c.retarget.ensures.size refl refl;
        agrees = λ on. Agrees-shaded old new c.args.parts.now _ c.args.owned.now c.args.slot c.args.page c.args.frame c.args.from n c.requires.may e.fields (c.retarget.ensures.agrees old.shape.pages old.fields.places (Near.current n)) refl refl refl;
      };
      counting = Counting-still old new c.args.parts.now _ (PutDone.counted e.done) refl refl refl (λ on. ap (λ (z : Chart). z.fields.wears) e.fields);
      rests = Rests-retargeted c.args.parts.now.cache c.retarget.new.self c.args.page (Frame c.args.frame) c.retarget.ensures.becomes;
    }

pub returns-in_err-shade_places-clause-leaves : goal.returns-in_err-shade_places-clause-leaves
returns-in_err-shade_places-clause-leaves g c =
    let e = c.in_err-shade_places.ensures in
    let x = c.args.parts.now in
    leaves_off _ _ x x (rw (SameDurable.shape e.durable) (Near.fits c.requires.near)) (SameDurable.counted e.durable) e.power refl refl refl (Rests-refl x.cache)

pub shade_places-requires : goal.shade_places-requires
shade_places-requires g c =
    let n = c.requires.near in
    record { sound = n.sound; on = n.on; may = c.requires.may; lands = record { frame = n.frame; here = n.here; elsewhere = n.elsewhere; unnamed = n.unnamed }; word = c.requires.word; copy = c.requires.copy }

pub returns-in_err-shade_places-clause-done : goal.returns-in_err-shade_places-clause-done
returns-in_err-shade_places-clause-done g c = none-if c.from_residual.result _ _ c.from_residual.ensures.1

pub returns-in_err-shade_places-clause-durable : goal.returns-in_err-shade_places-clause-durable
returns-in_err-shade_places-clause-durable g c = none-err c.from_residual.result _ _ c.in_err-shade_places.ensures.durable c.from_residual.ensures.1

pub returns-in_err-shade_places-clause-fields : goal.returns-in_err-shade_places-clause-fields
returns-in_err-shade_places-clause-fields g c = none-if c.from_residual.result _ _ c.from_residual.ensures.1

pub returns-in_err-shade_places-clause-gives : goal.returns-in_err-shade_places-clause-gives
returns-in_err-shade_places-clause-gives g c = none-if c.from_residual.result _ _ c.from_residual.ensures.1

pub returns-in_err-shade_places-clause-owners : goal.returns-in_err-shade_places-clause-owners
returns-in_err-shade_places-clause-owners g c = c.shade_places.ensures.owners

pub returns-in_err-shade_places-clause-parts : goal.returns-in_err-shade_places-clause-parts
returns-in_err-shade_places-clause-parts g c = refl

pub returns-in_err-shade_places-clause-power : goal.returns-in_err-shade_places-clause-power
returns-in_err-shade_places-clause-power g c = none-power c.from_residual.result _ (g.B.Board.state c.shade_places.new.board).on c.in_err-shade_places.ensures.power c.from_residual.ensures.1

pub returns-clause-done : goal.returns-clause-done
returns-clause-done g c = c.in_ok-shade_places.ensures.done

pub returns-clause-fields : goal.returns-clause-fields
returns-clause-fields g c = c.in_ok-shade_places.ensures.fields

pub returns-clause-gives : goal.returns-clause-gives
returns-clause-gives g c = c.in_ok-shade_places.ensures.gives

pub returns-clause-owners : goal.returns-clause-owners
returns-clause-owners g c = c.shade_places.ensures.owners

pub returns-clause-parts : goal.returns-clause-parts
returns-clause-parts g c = refl

pub returns-clause-power : goal.returns-clause-power
returns-clause-power g c = c.in_ok-shade_places.ensures.power

use Rattle.std.proofs.Common.{◌∙◌, ◌<◌, List, Option, None, get_or, set, ap, sym, subst, refl, ℕ}
use Rattle.std.proofs.lemmas.List.{length-set}
use Rattle.envy_base.specs.declared.fields.Place.{Place}
use Rattle.envy_base.specs.declared.fields.Place.TheVariants.{Frame}
use Rattle.envy_map.specs.Fields.{Chart, chart}
use Rattle.envy_soundness.specs.May.{HasChanged, IsUnnamed}
use Rattle.envy_soundness.proofs.Filling.{HasChanged-filled}
use Rattle.envy_frames.specs.Order.{Order}
use Rattle.envy_frames.proofs.Agreeing.{unnamed-unheld}
use Rattle.envy_engine.proofs.RowLemmas.{page-changed}
use Rattle.std.specs.Prelude.{is_some}
use Rattle.envy_reloc.proofs.Exits.{unpowered, none-if, none-power}
use Rattle.envy_engine.proofs.FlushAnswers.{in-range, none-some}
use Rattle.std.specs.Option.{is_some}
use Rattle.envy_engine.proofs.BringAnswers.{never-full}
use Rattle.envy_engine.proofs.page_fill.fill_frame.Goals as goal

pub returns-clause-fills : goal.returns-clause-fills
returns-clause-fills g c =
    let old = chart (g.B.Board.state c.args.board.now) in
    let r = c.requires.ready in
    let e = c.in_ok-write_free_frame.ensures in
    let ws = c.read_words.new.words in
    let w = c.in_ok-read_words.ensures in
    let unnamed : IsUnnamed old.fields c.in-Some.frame = λ p is. unnamed-unheld old.shape old.fields.places c.args.parts.now.frames.held c.in-Some.frame p r.agrees.held c.in-Some.ensures.unheld is in
    let low : c.in-Some.frame < old.shape.frames = subst (λ (n : ℕ). c.in-Some.frame < n) r.fits.frames c.in-Some.ensures.within in
    let long = c.read_words.ensures.long in
    record {
      words = set ws c.args.i c.args.w;
      fields = e.fields;
      range = low;
      unheld = c.in-Some.ensures.unheld;
      unnamed = λ p is. unnamed p (ap (λ (ps : List (Option Place)). get_or ps p None) (sym e.places) ∙ is);
      copy = subst (λ (z : Chart). HasChanged z.fields z.flash c.args.page (Frame c.in-Some.frame) c.args.i c.args.w) (sym e.fields)
          (HasChanged-filled old c.args.page c.in-Some.frame c.args.i c.args.w (set ws c.args.i c.args.w) r.sound low unnamed (length-set ws c.args.i c.args.w ∙ long)
          (page-changed old.fields old.flash c.args.page c.args.i c.args.w c.args.from ws c.requires.here (subst (λ (n : ℕ). c.args.i < n) (sym long) c.requires.word) w.words));
      home = c.in_ok-home.home;
      within = c.in_ok-home.ensures.within;
      homed = c.in_ok-home.ensures.home;
      held = ap (λ (o : Order). o.held) c.in-Some.ensures.newest;
    }

pub home_of-requires-clause-ready : goal.home_of-requires-clause-ready
home_of-requires-clause-ready g c = c.requires.ready

pub home_of-requires-clause-page : goal.home_of-requires-clause-page
home_of-requires-clause-page g c = c.requires.page

pub home_of-requires-clause-here : goal.home_of-requires-clause-here
home_of-requires-clause-here g c = c.requires.here

pub home_of-requires-clause-elsewhere : goal.home_of-requires-clause-elsewhere
home_of-requires-clause-elsewhere g c = c.requires.elsewhere

pub returns-in_err-home : goal.returns-in_err-home
returns-in_err-home g c = unpowered (g.B.Board.state c.args.board.now).on c.in_err-home.ensures.off c.requires.ready.on

pub read_words-requires : goal.read_words-requires
read_words-requires g c = record { range = in-range (g.B.Board.state c.args.board.now) c.args.page c.args.from (g.met.B.Board.lawful c.args.board.now) c.requires.ready.sound c.requires.here c.requires.elsewhere }

pub returns-in_err-read_words : goal.returns-in_err-read_words
returns-in_err-read_words g c = unpowered (g.B.Board.state c.args.board.now).on c.in_err-read_words.ensures.off c.requires.ready.on

pub bounds-words-i : goal.bounds-words-i
bounds-words-i g c = c.requires.word

pub unreachable-requires : goal.unreachable-requires
unreachable-requires g c = never-full _ _ c.requires.room (c.take.ensures.all.0 (ap is_some (none-some c.take.result c.in_default.not-Some)))

pub write_free_frame-requires-clause-sound : goal.write_free_frame-requires-clause-sound
write_free_frame-requires-clause-sound g c = c.requires.ready.sound

pub write_free_frame-requires-clause-frame : goal.write_free_frame-requires-clause-frame
write_free_frame-requires-clause-frame g c = subst (λ (n : ℕ). c.in-Some.frame < n) c.requires.ready.fits.frames c.in-Some.ensures.within

pub write_free_frame-requires-clause-unnamed : goal.write_free_frame-requires-clause-unnamed
write_free_frame-requires-clause-unnamed g c on p is = let old = (chart (g.B.Board.state c.args.board.now)) in unnamed-unheld old.shape old.fields.places c.args.parts.now.frames.held c.in-Some.frame p c.requires.ready.agrees.held c.in-Some.ensures.unheld is

pub returns-in_err-write_free_frame-clause-same : goal.returns-in_err-write_free_frame-clause-same
returns-in_err-write_free_frame-clause-same g c = c.write_free_frame.ensures.same

pub returns-in_err-write_free_frame-clause-fills : goal.returns-in_err-write_free_frame-clause-fills
returns-in_err-write_free_frame-clause-fills g c = none-if c.from_residual-in_err-write_free_frame.result _ _ c.from_residual-in_err-write_free_frame.ensures.1

pub returns-in_err-write_free_frame-clause-parts : goal.returns-in_err-write_free_frame-clause-parts
returns-in_err-write_free_frame-clause-parts g c = refl

pub returns-in_err-write_free_frame-clause-count : goal.returns-in_err-write_free_frame-clause-count
returns-in_err-write_free_frame-clause-count g c = ap (λ (o : Order). o.count) c.in-Some.ensures.newest

pub returns-in_err-write_free_frame-clause-power : goal.returns-in_err-write_free_frame-clause-power
returns-in_err-write_free_frame-clause-power g c = none-power c.from_residual-in_err-write_free_frame.result _ (g.B.Board.state c.write_free_frame.new.board).on c.in_err-write_free_frame.ensures.power c.from_residual-in_err-write_free_frame.ensures.1

pub returns-clause-same : goal.returns-clause-same
returns-clause-same g c = c.write_free_frame.ensures.same

pub returns-clause-parts : goal.returns-clause-parts
returns-clause-parts g c = refl

pub returns-clause-count : goal.returns-clause-count
returns-clause-count g c = ap (λ (o : Order). o.count) c.in-Some.ensures.newest

pub returns-clause-power : goal.returns-clause-power
returns-clause-power g c = c.in_ok-write_free_frame.ensures.power

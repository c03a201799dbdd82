use Rattle.std.proofs.Common.{◌∙◌, inl, Some, refl, ap}
use Rattle.envy_base.specs.declared.fields.Place.{Place}
use Rattle.envy_map.specs.Fields.{chart, place}
use Rattle.envy_engine.specs.declared.parts.Parts.{Parts}
use Rattle.envy_engine.proofs.FlushLemmas.{on-ok}
use Rattle.envy_engine.proofs.LookLemmas.{Stops-framed, Stops-elsewhere, Puts-fetched, Counting-looked, elsewhere-of}
use Rattle.envy_table.proofs.HitLemmas.{Accesses-then as Accesses-rests}
use Rattle.envy_reloc.proofs.Exits.{unpowered}
use Rattle.envy_engine.proofs.WordAnswers.{Ready-looked}
use Rattle.envy_engine.proofs.first_put.put_first.Goals as goal

pub returns-in_default : goal.returns-in_default
returns-in_default g c =
    let old = chart (g.B.Board.state c.args.board.now) in
    let new = chart (g.B.Board.state c.put_elsewhere.new.board) in
    let was = c.args.parts.now in
    let looked : Parts = record was { cache = c.translate.new.self } in
    let now = c.put_elsewhere.new.parts in
    let e = c.put_elsewhere.ensures in
    let here = c.in_ok-frame.ensures.place.1 in
    let from = c.in_ok-frame.field-0 in
    let elsewhere = elsewhere-of (place old.fields c.args.page) from here c.in_default.not-Frame in
    record {
      put = e.put;
      steady = e.leaves.steady;
      counting = Counting-looked old new was now c.translate.new.self e.leaves.counting;
      accesses = Accesses-rests c.args.page was.cache c.translate.new.self now.cache c.in_ok-frame.ensures.accesses e.leaves.rests;
      puts = Puts-fetched c.args.slot c.args.page old was looked new now c.put_elsewhere.result refl elsewhere e.makes;
      gives = e.gives;
      owners = e.owners;
      stops = λ is. let s = (e.stops is).0 in (Stops-elsewhere c.args.page from old was looked new now refl here elsewhere s.frames (s.oldest, s.first, s.stops), s.bads, (e.stops is).1);
      power = e.power;
    }

pub returns-in-Frame : goal.returns-in-Frame
returns-in-Frame g c =
    let old = chart (g.B.Board.state c.args.board.now) in
    let new = chart (g.B.Board.state c.put_framed.new.board) in
    let was = c.args.parts.now in
    let looked : Parts = record was { cache = c.translate.new.self } in
    let now = c.put_framed.new.parts in
    let e = c.put_framed.ensures in
    let k = c.in-Frame.frame in
    let here = c.in_ok-frame.ensures.place.1 ∙ ap (λ (x : Place). Some x) c.in-Frame.is in
    record {
      put = e.put;
      steady = e.leaves.steady;
      counting = Counting-looked old new was now c.translate.new.self e.leaves.counting;
      accesses = Accesses-rests c.args.page was.cache c.translate.new.self now.cache c.in_ok-frame.ensures.accesses e.leaves.rests;
      puts = on-ok c.put_framed.result _ _ (λ s. inl (record { frame = k; here = here; there = s.there; home = s.home; homed = s.homed; looked = looked; after_look = refl; row = s.row; gets = s.gets; shadow = s.shadow; frames = e.frames; flushes = s.flushes })) e.puts;
      gives = e.gives;
      owners = e.owners;
      stops = λ is. let s = (e.stops is).0 in (Stops-framed c.args.page k old was looked new now refl here e.frames (s.home, s.homed, s.stops), s.bads, (e.stops is).1);
      power = e.power;
    }

pub translate-requires-clause-page : goal.translate-requires-clause-page
translate-requires-clause-page g c = c.requires.may.page

pub translate-requires-clause-sound : goal.translate-requires-clause-sound
translate-requires-clause-sound g c on = c.requires.ready.sound

pub translate-requires-clause-agrees : goal.translate-requires-clause-agrees
translate-requires-clause-agrees g c on = c.requires.ready.agrees.current

pub returns-in_err-frame : goal.returns-in_err-frame
returns-in_err-frame g c = unpowered (g.B.Board.state c.args.board.now).on c.in_err-frame.ensures.place c.requires.ready.on

pub put_framed-requires : goal.put_framed-requires
put_framed-requires g c = record {
  ready = Ready-looked (chart (g.B.Board.state c.args.board.now)) c.args.parts.now c.translate.new.self c.requires.ready c.translate.ensures.size c.translate.ensures.agrees;
  may = c.requires.may;
  word = c.requires.word;
  here = c.in_ok-frame.ensures.place.1 ∙ ap (λ (x : Place). Some x) c.in-Frame.is;
}

pub put_elsewhere-requires : goal.put_elsewhere-requires
put_elsewhere-requires g c =
    let old = chart (g.B.Board.state c.args.board.now) in
    record {
      ready = Ready-looked old c.args.parts.now c.translate.new.self c.requires.ready c.translate.ensures.size c.translate.ensures.agrees;
      may = c.requires.may;
      word = c.requires.word;
      elsewhere = elsewhere-of (place old.fields c.args.page) c.in_ok-frame.field-0 c.in_ok-frame.ensures.place.1 c.in_default.not-Frame;
    }

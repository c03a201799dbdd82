use Rattle.std.proofs.Common.{◌∙◌, ◌+◌, ◌*◌, inl, Some, refl, ap}
use Rattle.envy_base.specs.declared.fields.Place.{Place}
use Rattle.envy_soundness.specs.Sound.{Sound, Places}
use Rattle.envy_map.specs.Fields.{chart, place}
use Rattle.envy_engine.specs.declared.parts.Parts.{Parts}
use Rattle.envy_engine.proofs.LookLemmas.{Stops-elsewhere, Stores-fetched, Counting-looked, elsewhere-of}
use Rattle.envy_table.proofs.HitLemmas.{Accesses-then as Accesses-rests}
use Rattle.envy_reloc.proofs.Exits.{unpowered, off-if, off-after, off-bad, ok-bad}
use Rattle.envy_engine.proofs.WordAnswers.{Ready-looked, Steady-written, Counting-written, StaysFramed-written, Wrote-word, Shaded-word, Wrote-lost, Shaded-lost}
use Rattle.envy_engine.proofs.store.store_word.Goals as goal

pub returns-in_default : goal.returns-in_default
returns-in_default g c =
    let old = chart (g.B.Board.state c.args.board.now) in
    let new = chart (g.B.Board.state c.store_elsewhere.new.board) in
    let was = c.args.parts.now in
    let looked : Parts = record was { cache = c.translate.new.self } in
    let now = c.store_elsewhere.new.parts in
    let e = c.store_elsewhere.ensures in
    let here = c.in_ok-frame.ensures.place.1 in
    let from = c.in_ok-frame.field-0 in
    let elsewhere = elsewhere-of (place old.fields c.args.page) from here c.in_default.not-Frame in
    record {
      free = e.free;
      owned = e.owned;
      steady = e.leaves.steady;
      counting = Counting-looked old new was now c.translate.new.self e.leaves.counting;
      accesses = Accesses-rests c.args.page was.cache c.translate.new.self now.cache c.in_ok-frame.ensures.accesses e.leaves.rests;
      stores = Stores-fetched c.args.page old was looked new now c.store_elsewhere.result refl elsewhere e.makes;
      stops = λ is. let s = e.stops is in (Stops-elsewhere c.args.page from old was looked new now refl here elsewhere s.frames (s.oldest, s.first, s.stops), s.bads);
      power = e.power;
    }

pub translate-requires-clause-page : goal.translate-requires-clause-page
translate-requires-clause-page g c = c.requires.page

pub translate-requires-clause-sound : goal.translate-requires-clause-sound
translate-requires-clause-sound g c on = c.requires.ready.sound

pub translate-requires-clause-agrees : goal.translate-requires-clause-agrees
translate-requires-clause-agrees g c on = c.requires.ready.agrees.current

pub returns-in_err-frame : goal.returns-in_err-frame
returns-in_err-frame g c = unpowered (g.B.Board.state c.args.board.now).on c.in_err-frame.ensures.place c.requires.ready.on

pub store_elsewhere-requires : goal.store_elsewhere-requires
store_elsewhere-requires g c =
    let old = chart (g.B.Board.state c.args.board.now) in
    record {
      ready = Ready-looked old c.args.parts.now c.translate.new.self c.requires.ready c.translate.ensures.size c.translate.ensures.agrees;
      page = c.requires.page;
      word = c.requires.word;
      elsewhere = elsewhere-of (place old.fields c.args.page) c.in_ok-frame.field-0 c.in_ok-frame.ensures.place.1 c.in_default.not-Frame;
    }

pub change_frame_word-requires : goal.change_frame_word-requires
change_frame_word-requires g c =
    let here = c.in_ok-frame.ensures.place.1 ∙ ap (λ (x : Place). Some x) c.in-Frame.is in
    record { sound = c.requires.ready.sound; frame = Places.frames (Sound.places c.requires.ready.sound) c.args.page c.in-Frame.frame here; place = c.requires.word; here = λ on. here }

pub returns-in_err-change_frame_word-in-Frame : goal.returns-in_err-change_frame_word-in-Frame
returns-in_err-change_frame_word-in-Frame g c =
    let old = chart (g.B.Board.state c.args.board.now) in
    let new = chart (g.B.Board.state c.change_frame_word.new.board) in
    let was = c.args.parts.now in
    let t = c.translate.new.self in
    let e = c.in_err-change_frame_word-in-Frame.ensures in
    let writes = c.change_frame_word.ensures.writes in
    let r = c.from_residual-in_err-change_frame_word-in-Frame.result in
    let is = c.from_residual-in_err-change_frame_word-in-Frame.ensures.1 in
    let k = 4 * old.shape.rows + 13 in
    let ready = Ready-looked old was t c.requires.ready c.translate.ensures.size c.translate.ensures.agrees in
    record {
      free = λ free. Wrote-lost k 6 old new (32 * c.args.page + c.args.i) c.args.w r (e.free (λ on. free)) is;
      owned = λ owned. Shaded-lost k 6 old new (32 * c.args.page + c.args.i) c.args.w r (e.owned (λ on. owned)) is;
      steady = Steady-written old new (record was { cache = t }) c.in-Frame.frame c.args.i c.args.w c.change_frame_word.result ready writes;
      counting = Counting-written old new was t c.in-Frame.frame c.args.i c.args.w c.change_frame_word.result writes;
      accesses = c.in_ok-frame.ensures.accesses;
      stores = off-if r _ is;
      stops = λ bad. off-bad r is bad;
      power = off-after r new.on e.power is;
    }

pub returns-in_ok-change_frame_word-in-Frame : goal.returns-in_ok-change_frame_word-in-Frame
returns-in_ok-change_frame_word-in-Frame g c =
    let old = chart (g.B.Board.state c.args.board.now) in
    let new = chart (g.B.Board.state c.change_frame_word.new.board) in
    let was = c.args.parts.now in
    let t = c.translate.new.self in
    let e = c.in_ok-change_frame_word-in-Frame.ensures in
    let writes = c.change_frame_word.ensures.writes in
    let here = c.in_ok-frame.ensures.place.1 ∙ ap (λ (x : Place). Some x) c.in-Frame.is in
    let k = 4 * old.shape.rows + 13 in
    let ready = Ready-looked old was t c.requires.ready c.translate.ensures.size c.translate.ensures.agrees in
    record {
      free = λ free. Wrote-word k 6 old new (32 * c.args.page + c.args.i) c.args.w (e.free (λ on. free));
      owned = λ owned. Shaded-word k 6 old new (32 * c.args.page + c.args.i) c.args.w (e.owned (λ on. owned));
      steady = Steady-written old new (record was { cache = t }) c.in-Frame.frame c.args.i c.args.w c.change_frame_word.result ready writes;
      counting = Counting-written old new was t c.in-Frame.frame c.args.i c.args.w c.change_frame_word.result writes;
      accesses = c.in_ok-frame.ensures.accesses;
      stores = inl (StaysFramed-written c.args.page c.in-Frame.frame c.args.i c.args.w old new was t here e.writes.1);
      stops = λ bad. ok-bad tt bad;
      power = e.power;
    }

use Rattle.std.proofs.Common.{◌≡◌, ℕ, ◌+◌, ◌<◌, List, [], ◌∷◌, ◌++◌, map, sym, subst, get_or, length, Some, None, ap, ◌∙◌, arith}
use Rattle.std.proofs.lemmas.List.{length-map, length-set, map-append}
use Rattle.envy_base.specs.declared.fields.Place.{Place}
use Rattle.envy_base.specs.declared.fields.Place.TheVariants.{Frame}
use Rattle.envy_base.specs.declared.shape.Shape.{Shape}
use Rattle.envy_frames.specs.Agreement.{default_home}
use Rattle.envy_frames.specs.declared.entry.Entry.{Entry}
use Rattle.envy_frames.specs.declared.held.Held.{Held}
use Rattle.envy_frames.specs.Entries.{unstamped}
use Rattle.envy_map.specs.Fields.{chart}
use Rattle.envy_frames.proofs.Defaults.{apart_before, held_before, held_before_same, held_before_next, room_before}
use Rattle.envy_frames.proofs.Live.{homes-joined}
use Rattle.envy_frames.proofs.Marks.{with_placed}
use Rattle.envy_frames.proofs.table.hold_named.Goals as goal
use Rattle.envy_frames.proofs.table.hold_named.Goals.{in-Frame, in_default}

pub loop-page-preserved : goal.loop-page-preserved
loop-page-preserved g c =
    let s = g.B.Board.state c.args.board.now in
    let n = c.loop-page.page in
    let places = (chart s).fields.places in
    let shape = (g.met.B.Board.lawful c.args.board.now).shape in
    let ok = c.requires.sound.places in
    let low : n < s.shape.pages = subst (λ (sh : Shape). n < sh.pages) c.shape-shape.ensures c.loop-page-test.true in
    let here : get_or places n None ≡ Some c.in_ok-frame.field-0 = c.in_ok-frame.ensures.value.1 in
    let inv = c.loop-page.invariant in
    elim c.match-branch-2.branch [
      | in-Frame w ↦
          let frame : get_or places n None ≡ Some (Frame w.in-Frame.frame) = here ∙ ap (λ (x : Place). Some x) w.in-Frame.is in
          let home : w.default_home-home.result ≡ default_home s.shape n = w.default_home-home.ensures.value ∙ ap (λ (sh : Shape). default_home sh n) c.shape-shape.ensures in
          let held : Held = record { frame = w.in-Frame.frame; page = n; home = w.default_home-home.result } in
          let next : held_before s.shape places (n + 1) ≡ held_before s.shape places n ++ held ∷ [] = held_before_next s.shape places n w.in-Frame.frame frame ∙ ap (λ (h : ℕ). held_before s.shape places n ++ (record { frame = w.in-Frame.frame; page = n; home = h }) ∷ []) (sym home) in
          let before : length c.loop-page.entries.items ≡ length (held_before s.shape places n) = ap length inv.items ∙ length-map (held_before s.shape places n) unstamped in
          let room : length c.loop-page.entries.items < c.loop-page.entries.capacity = omega (arith, before, inv.capacity, c.requires.room, room_before s.shape places shape ok n w.in-Frame.frame low frame) in
          let put = with_placed c.loop-page.entries w.try_push_back-room.new.self (unstamped held) w.try_push_back-room.result w.try_push_back-room.ensures.variant w.try_push_back-room.ensures.ok room in
          let low_frame : w.in-Frame.frame < length c.loop-page.homes.items = omega (arith, ok.frames n w.in-Frame.frame frame, inv.long, c.requires.homes) in
          rw (w.entries-is, w.homes-is, put) (record {
            items = ap (λ (xs : List Entry). xs ++ unstamped held ∷ []) inv.items ∙ sym (map-append unstamped (held_before s.shape places n) (held ∷ [])) ∙ ap (map unstamped) (sym next);
            capacity = inv.capacity;
            homes = rw next (homes-joined c.loop-page.homes.items (held_before s.shape places n) held inv.homes (apart_before s.shape places shape ok n w.in-Frame.frame low frame) low_frame);
            long = length-set c.loop-page.homes.items w.in-Frame.frame w.default_home-home.result ∙ inv.long;
          })
      | in_default w ↦
          let same = held_before_same s.shape places n (λ k e. w.in_default.not-Frame k (let eq : Some c.in_ok-frame.field-0 ≡ Some (Frame k) = sym here ∙ e in cc)) in
          rw (w.entries-is, w.homes-is) (record {
            items = inv.items ∙ ap (map unstamped) (sym same);
            capacity = inv.capacity;
            homes = rw same inv.homes;
            long = inv.long;
          })
    ]

use Rattle.std.proofs.Common.{◌≡◌, ◌<◌, ℕ, true, false, List, map, length, refl, sym, ◌∙◌, ap, subst, arith}
use Rattle.std.specs.List.{All}
use Rattle.std.proofs.lemmas.List.Elements.{All-map}
use Rattle.circular_buffer.specs.Buffer.{Buffer}
use Rattle.envy_map.specs.Fields.{chart}
use Rattle.envy_soundness.specs.Sound.{Sound}
use Rattle.envy_frames.specs.declared.entry.Entry.{Entry}
use Rattle.envy_frames.specs.declared.held.Held.{Held}
use Rattle.envy_frames.specs.Agreement.{AreHeld, held_by_default}
use Rattle.envy_frames.specs.Entries.{held_in, unstamped}
use Rattle.envy_frames.specs.Order.{IsOrder, Order, others_of}
use Rattle.envy_frames.proofs.Defaults.{AreHeld-default, order-default}
use Rattle.envy_frames.proofs.Live.{held_of}
use Rattle.envy_frames.proofs.Rings.{IsRing-rebuilt, held-of-unstamped, held-rebuilt, ring-room, zeros}
use Rattle.envy_frames.proofs.Stacks.{IsFrames-made}
use Rattle.envy_frames.proofs.frames.Frames.rebuild.Goals as goal

pub free_others-requires-clause-below : goal.free_others-requires-clause-below
free_others-requires-clause-below g c =
    let s = g.B.Board.state c.args.board.now in
    let places = (chart s).fields.places in
    let hs = held_by_default s.shape places in
    let stamps = c.fill.new.self.items in
    let entries = c.hold_named.new.entries in
    let count = ap (λ (o : Order). o.count) c.self.view_is in
    let long : length stamps ≡ length c.self.inside.stamps.items = omega (arith, c.fill.ensures.len, c.fill.new.self.ok, c.self.inside.stamps.ok) in
    let order = order-default s.shape places (g.met.B.Board.lawful c.args.board.now).shape (Sound.places (c.requires.sound (grind arith))) in
    let items : entries.items ≡ map unstamped hs = ap (λ (b : Buffer Entry). b.items) c.in_ok-hold_named.ensures.held in
    let below : All (λ h. h.frame < length c.self.inside.marks.items) hs = λ k d lt. let low = order.below k d lt in omega (arith, count, c.requires.count, c.self.invariant.0.marked) in
    subst (All (λ e. e.held.frame < length c.self.inside.marks.items)) (sym items) (All-map (λ e. e.held.frame < length c.self.inside.marks.items) unstamped hs below)

pub invariant_of-self-2 : goal.invariant_of-self-2
invariant_of-self-2 g c =
    let s = g.B.Board.state c.args.board.now in
    let places = (chart s).fields.places in
    let hs = held_by_default s.shape places in
    let stamps = c.fill.new.self.items in
    let entries = c.hold_named.new.entries in
    let count = ap (λ (o : Order). o.count) c.self.view_is in
    let long : length stamps ≡ length c.self.inside.stamps.items = omega (arith, c.fill.ensures.len, c.fill.new.self.ok, c.self.inside.stamps.ok) in
    let order = order-default s.shape places (g.met.B.Board.lawful c.args.board.now).shape (Sound.places (c.requires.sound (grind arith))) in
    let items : entries.items ≡ map unstamped hs = ap (λ (b : Buffer Entry). b.items) c.in_ok-hold_named.ensures.held in
    let zero = zeros stamps _ (c.fill.ensures.items (λ y is. is)) in
    let below : All (λ h. h.frame < length stamps) hs = λ k d lt. let low = order.below k d lt in omega (arith, long, count, c.requires.count) in
    let held : held_in stamps entries.items ≡ hs = ap (held_in stamps) items ∙ held-rebuilt stamps hs zero below in
    let placed : IsOrder (record { held = held_in stamps entries.items; count = length stamps }) = rw held (subst (λ (n : ℕ). IsOrder (record { held = hs; count = n })) (let e : s.shape.frames ≡ length stamps = omega (arith, long, count, c.requires.count) in e) order) in
    let free : c.free_others.new.free.items ≡ others_of (held_in stamps entries.items) (length c.self.inside.marks.items) =
    c.free_others.ensures.free ∙ ap (λ (xs : List Held). others_of xs (length c.self.inside.marks.items)) (ap (map held_of) items ∙ held-of-unstamped hs ∙ sym held) in (
      IsFrames-made (held_in stamps entries.items) (length stamps) (length c.self.inside.marks.items) _ _ _ placed free
          (omega (arith, c.self.invariant.0.marked, long))
          (omega (arith, c.self.invariant.0.fits, c.free_others.ensures.room, long))
          (omega (arith, c.free_others.ensures.marks, c.self.invariant.0.marked, long))
          (omega (arith, c.self.invariant.0.few, long)),
      IsRing-rebuilt stamps hs zero below entries c.hold_named.new.homes.items items
          (omega (arith, ap (λ (b : Buffer Entry). b.capacity) c.in_ok-hold_named.ensures.held, ap (λ (b : Buffer Entry). b.capacity) c.clear.ensures, c.self.invariant.1.twice, long))
          (omega (arith, order.few, long, count, c.requires.count)) c.in_ok-hold_named.ensures.homes
          (omega (arith, c.hold_named.ensures.long, c.self.invariant.1.long, long)),
    )

pub returns-clause-held : goal.returns-clause-held
returns-clause-held g c =
    let s = g.B.Board.state c.args.board.now in
    let places = (chart s).fields.places in
    let hs = held_by_default s.shape places in
    let stamps = c.fill.new.self.items in
    let entries = c.hold_named.new.entries in
    let count = ap (λ (o : Order). o.count) c.self.view_is in
    let long : length stamps ≡ length c.self.inside.stamps.items = omega (arith, c.fill.ensures.len, c.fill.new.self.ok, c.self.inside.stamps.ok) in
    let order = order-default s.shape places (g.met.B.Board.lawful c.args.board.now).shape (Sound.places (c.requires.sound (grind arith))) in
    let items : entries.items ≡ map unstamped hs = ap (λ (b : Buffer Entry). b.items) c.in_ok-hold_named.ensures.held in
    let zero = zeros stamps _ (c.fill.ensures.items (λ y is. is)) in
    let below : All (λ h. h.frame < length stamps) hs = λ k d lt. let low = order.below k d lt in omega (arith, long, count, c.requires.count) in
    let held : held_in stamps entries.items ≡ hs = ap (held_in stamps) items ∙ held-rebuilt stamps hs zero below in
    held

pub returns-clause-agrees : goal.returns-clause-agrees
returns-clause-agrees g c =
    let s = g.B.Board.state c.args.board.now in
    let agrees = AreHeld-default s.shape (chart s).fields.places (g.met.B.Board.lawful c.args.board.now).shape (Sound.places (c.requires.sound (grind arith))) in
    subst (AreHeld s.shape (chart s).fields.places) (sym (returns-clause-held g c)) agrees

pub returns-then-not-powered : goal.returns-then-not-powered
returns-then-not-powered g c = record { held = tt; agrees = tt; count = refl; off = (λ e. sym c.if-not-powered.ensures, λ x. refl); kept = refl }

pub hold_named-requires : goal.hold_named-requires
hold_named-requires g c =
    let count = ap (λ (o : Order). o.count) c.self.view_is in
    record {
      on = sym c.if-not-powered.ensures;
      sound = c.requires.sound (sym c.if-not-powered.ensures);
      room = ring-room c.clear.new.self.capacity c.self.inside.entries.capacity (length c.self.inside.stamps.items) (g.B.Board.state c.args.board.now).shape.frames (ap (λ (b : Buffer Entry). b.capacity) c.clear.ensures) c.self.invariant.1.twice (count ∙ c.requires.count);
      homes = c.self.invariant.1.long ∙ count ∙ c.requires.count;
      empty = ap (λ (b : Buffer Entry). b.items) c.clear.ensures;
    }

pub invariant_of-self : goal.invariant_of-self
invariant_of-self g c = absurd (let no : false ≡ true = c.in_err-hold_named.ensures.done in cc)

pub returns-in_err-hold_named : goal.returns-in_err-hold_named
returns-in_err-hold_named g c = absurd (let no : false ≡ true = c.in_err-hold_named.ensures.done in cc)

pub free_others-requires-clause-few : goal.free_others-requires-clause-few
free_others-requires-clause-few g c = rw c.self.invariant.0.marked c.self.invariant.0.few

pub free_others-requires-clause-room : goal.free_others-requires-clause-room
free_others-requires-clause-room g c = rw c.self.invariant.0.marked c.self.invariant.0.fits

pub returns-clause-off : goal.returns-clause-off
returns-clause-off g c = (λ e. absurd (let no : false ≡ true = e in cc), λ off. absurd (let no : true ≡ false = c.if-not-powered.ensures ∙ off in cc))

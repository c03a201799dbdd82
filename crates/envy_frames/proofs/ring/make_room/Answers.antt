use Rattle.std.proofs.Common.{◌≡◌, inr, length, ◌∙◌, ap, arith}
use Rattle.std.specs.List.{filter}
use Rattle.std.proofs.lemmas.List.{length-map}
use Rattle.circular_buffer.specs.Buffer.{Buffer}
use Rattle.envy_frames.specs.declared.entry.Entry.{Entry}
use Rattle.envy_frames.specs.Entries.{is_live}
use Rattle.envy_frames.proofs.Live.{kept-unheld}
use Rattle.envy_frames.proofs.ring.make_room.Goals as goal

pub returns-clause-kept : goal.returns-clause-kept
returns-clause-kept c = inr (ap (λ (b : Buffer Entry). b.items) c.pack.ensures ∙ kept-unheld c.args.stamps.now c.args.frame c.args.entries.now.items c.requires.unheld)

pub returns-clause-room : goal.returns-clause-room
returns-clause-room c =
    let is : c.pack.new.entries.items ≡ filter (is_live c.args.stamps.now) c.args.entries.now.items = ap (λ (b : Buffer Entry). b.items) c.pack.ensures ∙ kept-unheld c.args.stamps.now c.args.frame c.args.entries.now.items c.requires.unheld in
    omega (arith, ap length is, c.requires.few, length-map (filter (is_live c.args.stamps.now) c.args.entries.now.items) (λ (e : Entry). e.held), ap (λ (b : Buffer Entry). b.capacity) c.pack.ensures)

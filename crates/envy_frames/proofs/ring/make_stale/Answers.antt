use Rattle.std.proofs.Common.{◌≡◌, ℕ, List, sym, ◌∙◌, ap}
use Rattle.std.specs.List.{filter}
use Rattle.std.proofs.lemmas.List.{get_or_default}
use Rattle.circular_buffer.specs.Buffer.{buffer}
use Rattle.envy_frames.specs.Entries.{is_kept}
use Rattle.envy_frames.proofs.Live.{AreStamped-anew, AreStamped-next, anew-held, next-held}
use Rattle.envy_frames.proofs.ring.make_stale.Goals as goal

pub returns-then-stamp-clause-stamped : goal.returns-then-stamp-clause-stamped
returns-then-stamp-clause-stamped c =
    let stamps = c.args.stamps.now.items in
    let entries = c.args.entries.now in
    let packed : c.pack.new.entries ≡ buffer (filter (is_kept stamps c.args.frame) entries.items) entries.capacity = c.pack.ensures ∙ ap (λ (ss : List ℕ). buffer (filter (is_kept ss c.args.frame) entries.items) entries.capacity) c.deref.ensures.value in
    rw packed (AreStamped-anew entries.items stamps c.args.frame 0 entries.capacity c.requires.stamped)

pub returns-then-stamp-clause-held : goal.returns-then-stamp-clause-held
returns-then-stamp-clause-held c =
    let stamps = c.args.stamps.now.items in
    let entries = c.args.entries.now in
    let packed : c.pack.new.entries ≡ buffer (filter (is_kept stamps c.args.frame) entries.items) entries.capacity = c.pack.ensures ∙ ap (λ (ss : List ℕ). buffer (filter (is_kept ss c.args.frame) entries.items) entries.capacity) c.deref.ensures.value in
    rw packed (anew-held entries.items stamps c.args.frame 0)

pub returns-clause-stamped : goal.returns-clause-stamped
returns-clause-stamped c =
    let stamps = c.args.stamps.now.items in
    AreStamped-next c.args.entries.now stamps c.args.frame c.index-stamp.result.now c.requires.stamped (get_or_default stamps c.args.frame 0 c.index-stamp.result.now c.requires.frame ∙ sym c.index-stamp.ensures) c.requires.frame

pub returns-clause-held : goal.returns-clause-held
returns-clause-held c =
    let stamps = c.args.stamps.now.items in
    next-held c.args.entries.now stamps c.args.frame c.index-stamp.result.now c.requires.stamped (get_or_default stamps c.args.frame 0 c.index-stamp.result.now c.requires.frame ∙ sym c.index-stamp.ensures) c.requires.frame

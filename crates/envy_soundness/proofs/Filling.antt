-- A free frame that was filled with the words of a page, one of them changed.
use Rattle.std.proofs.Common.{◌≡◌, ℕ, ◌+◌, ◌*◌, ◌<◌, ◌≤◌, cond, List, length, get_or, sym, ◌∙◌, ap, arith}
use Rattle.std.specs.Prelude.{◌==◌}
use Rattle.std.proofs.lemmas.List.{places}
use Rattle.envy_base.specs.declared.fields.Place.TheVariants.{Frame}
use Rattle.envy_map.specs.Fields.{Chart, place}
use Rattle.envy_map.specs.Writes.{pasted, with_frame}
use Rattle.envy_soundness.specs.Words.{live_word}
use Rattle.envy_soundness.specs.Sound.{Sound, Numbers, IsSound}
use Rattle.envy_soundness.specs.May.{IsUnnamed, HasChanged}
use Rattle.envy_soundness.proofs.FrameLaw.{FrameOnly-pasted, word_at-frame_other}

pub get_or-pasted_in : (d : List ℕ) (at : ℕ) (s : List ℕ) (n j : ℕ) → at + n ≤ length d → n ≤ length s → j < n → get_or (pasted d at s n) (at + j) 0 ≡ get_or s j 0
get_or-pasted_in d at s n j room long lt = grind (arith, places)

-- the frame holds the page with that word changed, where the words that were written did
pub HasChanged-filled : (c : Chart) (p k i w : ℕ) (ws : List ℕ) → IsSound c → k < c.shape.frames → IsUnnamed c.fields k → length ws ≡ 32 → ((j : ℕ) → j < 32 → get_or ws j 0 ≡ cond (j == i) w (live_word c.fields c.flash p j)) → HasChanged (with_frame k ws 32 c.fields) c.flash p (Frame k) i w
HasChanged-filled c p k i w ws sound lt unnamed long words j low =
    let size = Numbers.frames_long (Sound.numbers sound) in
    get_or-pasted_in c.fields.frames (32 * k) ws 32 j (omega arith) (omega arith) low
    ∙ words j low
    ∙ ap (λ (x : ℕ). cond (j == i) w x) (sym (word_at-frame_other k c.fields.frames (pasted c.fields.frames (32 * k) ws 32) c.flash (place c.fields p) j low (FrameOnly-pasted c.fields.frames k ws 32 (omega arith) (omega arith) (omega arith)) (unnamed p)))

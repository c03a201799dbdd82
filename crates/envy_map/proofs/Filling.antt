-- The words of a frame, written one after another.
use Rattle.std.proofs.Common.{◌≡◌, ℕ, ◌+◌, ◌*◌, ◌<◌, ◌≤◌, List, length, get_or, refl, sym, ap, subst, arith}
use Rattle.std.specs.Prelude.{Result, Ok, Err}
use Rattle.envy_base.specs.declared.board.Off.{Off}
use Rattle.envy_base.specs.Map.{frames_at}
use Rattle.envy_base.specs.State.{State, Puts, IsBoard}
use Rattle.envy_map.specs.Fields.{Fields, Chart, chart}
use Rattle.envy_map.specs.Writes.{Stopped, Writes, Going, with_frame, with_frame_word}
use Rattle.envy_map.proofs.Sizes.{length-frames}
use Rattle.envy_map.proofs.Going.{Going-begins, Going-frame, Stops-frame, with_frame-none}
use Rattle.envy_map.proofs.OnePut.{SameBelowFrames, below_frames-more}

-- since a board so many words of a frame have been written, and the words below the frames stayed
pub record Filling (old now : State) (k : ℕ) (page : List ℕ) (n : ℕ) : Type 0 where
  pub going : Going (chart old) (chart now) (with_frame k page n (chart old).fields) n
  pub below : SameBelowFrames old now

pub Filling-begins : (s : State) (k : ℕ) (page : List ℕ) → Filling s s k page 0
Filling-begins s k page = record {
  going = subst (λ (f : Fields). Going (chart s) (chart s) f 0) (with_frame-none (chart s).fields k page) (Going-begins (chart s));
  below = λ w lt. refl;
}

pub Filling-shape : (old now : State) (k : ℕ) (page : List ℕ) (n : ℕ) → Filling old now k page n → now.shape ≡ old.shape
Filling-shape old now k page n filling = ap (λ (x : Chart). x.shape) filling.going.is

-- one word more
pub Filling-more : (old mid new : State) (k : ℕ) (page : List ℕ) (i next : ℕ) (done : Unit {0}) → IsBoard old → k < old.shape.frames → length page ≡ 32 → i < 32 → next ≡ i + 1 → Filling old mid k page i → Writes (with_frame_word k i (get_or page i 0)) (chart mid) (Ok done) (chart new) → Puts mid (frames_at mid.shape + (32 * k + i)) (get_or page i 0) (Ok done) new → Filling old new k page next
Filling-more old mid new k page i next done board lt long low e filling writes puts =
    let frames = length-frames old board in
    let going : Going (chart old) (chart new) (with_frame k page (i + 1) (chart old).fields) (i + 1) = Going-frame (chart old) (chart mid) (chart new) (chart old).fields k page i done (omega arith) (omega arith) filling.going writes in
    record {
      going = subst (λ (n : ℕ). Going (chart old) (chart new) (with_frame k page n (chart old).fields) n) (sym e) going;
      below = below_frames-more old mid (32 * k + i) (get_or page i 0) (Ok done) new (Filling-shape old mid k page i filling) filling.below puts;
    }

-- power is off at one word more
pub Filling-stops : (old mid new : State) (k : ℕ) (page : List ℕ) (i : ℕ) (off : Off) → IsBoard old → k < old.shape.frames → length page ≡ 32 → i < 32 → Filling old mid k page i → Writes (with_frame_word k i (get_or page i 0)) (chart mid) (Err off) (chart new) → Stopped (λ f. (n : ℕ) × (n ≤ 32) × (f ≡ with_frame k page n (chart old).fields)) (chart old) (chart new)
Filling-stops old mid new k page i off board lt long low filling writes =
    let frames = length-frames old board in
    Stops-frame (chart old) (chart mid) (chart new) (chart old).fields k page i off (omega arith) (omega arith) (omega arith) filling.going writes

pub Filling-below : (old mid new : State) (k : ℕ) (page : List ℕ) (i : ℕ) (r : Result Unit Off) → Filling old mid k page i → Puts mid (frames_at mid.shape + (32 * k + i)) (get_or page i 0) r new → SameBelowFrames old new
Filling-below old mid new k page i r filling puts =
    below_frames-more old mid (32 * k + i) (get_or page i 0) r new (Filling-shape old mid k page i filling) filling.below puts

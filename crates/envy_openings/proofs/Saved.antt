-- The image that was written to memory.
use Rattle.std.proofs.Common.{◌≡◌, ℕ, ◌≤◌, List, [], ◌++◌, length, drop, ◌∙◌, ap, arith}
use Rattle.std.specs.Prelude.{Some}
use Rattle.envy_base.specs.State.{State, IsBoard}
use Rattle.envy_base.specs.declared.shape.Shape.{Shape}
use Rattle.envy_image.specs.Image.{image_of}
use Rattle.envy_image.proofs.Backwards.{length-image}
use Rattle.envy_openings.specs.Image.{image_size}
use Rattle.envy_openings.proofs.Opened.{inside}

-- nothing was written before it
pub record IsWritten (s : State) (before written image : List ℕ) : Type 0 where
  pub none : before ≡ []
  pub all : Some written ≡ Some (before ++ image_of s)
  pub is : image ≡ written

the-image : (s : State) (before written image : List ℕ) → IsWritten s before written image → image ≡ image_of s
the-image s before written image w = w.is ∙ (inside written (before ++ image_of s) w.all ∙ ap (λ (xs : List ℕ). xs ++ image_of s) w.none)

its-length : (s : State) (before written image : List ℕ) → IsBoard s → IsWritten s before written image → length image ≡ image_size s.shape
its-length s before written image board w = ap length (the-image s before written image w) ∙ length-image s board

-- the image fits where its size does
pub image-fits : (s : State) (before written image into : List ℕ) (sh : Shape) (size : ℕ) → IsBoard s → IsWritten s before written image → sh ≡ s.shape → size ≡ image_size sh → size ≤ length into → length image ≤ length into
image-fits s before written image into sh size board w same is fits =
    let long : length image ≡ image_size s.shape = its-length s before written image board w in
    let room : size ≡ image_size s.shape = is ∙ ap image_size same in
    omega (arith, long, room, fits)

-- what is copied to the front is the image, and what lies behind it stays
pub image-over : (s : State) (before written image copied into : List ℕ) → IsBoard s → IsWritten s before written image → copied ≡ image → copied ++ drop (length image) into ≡ image_of s ++ drop (image_size s.shape) into
image-over s before written image copied into board w same =
    ap (λ (xs : List ℕ). xs ++ drop (length image) into) (same ∙ the-image s before written image w)
    ∙ ap (λ (n : ℕ). image_of s ++ drop n into) (its-length s before written image board w)

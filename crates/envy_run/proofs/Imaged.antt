-- Bytes that begin with an image are taken up, where nothing fails.
use Rattle.std.proofs.Common.{◌≡◌, inl, inr, ℕ, ◌+◌, ◌*◌, ◌-◌, Bool, true, false, List, [], ◌++◌, length, refl, sym, ◌∙◌, ap, subst, arith, length-append}
use Rattle.std.specs.Prelude.{Option, None, Some, Ok, nat_lt, not, ◌||◌, ◌==◌}
use Rattle.std.proofs.lemmas.Bool.Decides.{nat_tests}
use Rattle.std.proofs.lemmas.List.{append_assoc}
use Rattle.envy_base.specs.Shape.{IsShape, checked, checked_within}
use Rattle.envy_base.specs.State.{State, IsBoard}
use Rattle.envy_base.specs.declared.shape.Shape.{Shape}
use Rattle.envy_base.specs.declared.shape.ShapeFault.{ShapeFault}
use Rattle.envy_image.specs.Image.{mark_of, head_of, head_size, is_extended, body_of, image_of, FitNumbers}
use Rattle.envy_image.specs.Reading.{IsMisshapen}
use Rattle.envy_image.specs.Installing.{body_size}
use Rattle.envy_image.proofs.Backwards.{fit-numbers, head-whole, mark-first, never-bare, same-head, same-front, length-image, length-head}
use Rattle.envy_io.specs.Streams.{Feed, IsDry, with_front}
use Rattle.envy_map.specs.Fields.{Chart}
use Rattle.envy_serve.proofs.GoodTraces.{front-taken}
use Rattle.envy_run.specs.Loading.{StopsWithin}

-- a shape that has its sizes checks
pub shape-checks : (sh : Shape) → IsShape sh → checked sh ≡ Ok tt
unfolding checked_within
shape-checks sh s =
    let a = s.segments in
    let b = s.few_segments in
    let c = s.rows in
    let d = s.few_rows in
    let e = s.pages in
    let f = s.frames in
    let g = s.few_frames in
    let h = s.entries in
    let i = s.few_entries in
    let j = s.share in
    let k = s.few in
    let t1 : (nat_lt sh.segments 4 || nat_lt 4096 sh.segments) ≡ false = grind (arith, nat_tests) in
    let t2 : (nat_lt sh.rows 2 || nat_lt 65536 sh.rows) ≡ false = grind (arith, nat_tests) in
    let t3 : (sh.pages == 0) ≡ false = grind (arith, nat_tests) in
    let t4 : (nat_lt sh.frames 2 || nat_lt 65536 sh.frames) ≡ false = grind (arith, nat_tests) in
    let t5 : (sh.entries == 0 || nat_lt 65536 sh.entries) ≡ false = grind (arith, nat_tests) in
    let t6 : nat_lt ((sh.segments - 2 - sh.reserves) * sh.rows) (sh.pages + sh.shadows) ≡ false = grind (arith, nat_tests) in
    let t7 : nat_lt 16777216 (sh.segments * sh.rows) ≡ false = grind (arith, nat_tests) in
    let l = s.reserves in
    let t8 : nat_lt (sh.segments - 4) sh.reserves ≡ false = grind (arith, nat_tests) in
    let t9 : not (sh.sums == 0) ≡ false = rw (s.unsummed) refl in
    rw (t1, t8, t9, t2, t3, t4, t5, t6, t7) refl

module _ (b : State) (rest : List ℕ) (whole : IsBoard b) (bytes : List ℕ) (feed : Feed) (source : Some (image_of b ++ rest) ≡ with_front bytes feed.left) where
  -- the image behind its head
  pub parts : image_of b ++ rest ≡ head_of b.shape ++ (body_of b.flash b.sram ++ rest)
  unfolding image_of
  parts = append_assoc (head_of b.shape) (body_of b.flash b.sram) rest

  -- the source doesn't end within it
  pub never-early : IsDry feed.left → (board : Option Chart) → StopsWithin bytes board → ⊥
  never-early dry board stops =
      let (left, is, all) = front-taken (image_of b ++ rest) bytes feed.left source in
      let none : left ≡ [] = subst (λ (o : Option (List ℕ)). IsDry o) is dry in
      let same : image_of b ++ rest ≡ bytes ++ left = all in
      let long : length (image_of b) + length rest ≡ length bytes = sym (length-append (image_of b) rest) ∙ (ap length same ∙ (length-append bytes left ∙ (let zero = ap length none in omega arith))) in
      at left same long board stops
    where
      size : length (image_of b) ≡ head_size b.shape + body_size b.shape
      size = length-image b whole

      at : (left : List ℕ) → image_of b ++ rest ≡ bytes ++ left → length (image_of b) + length rest ≡ length bytes → (board : Option Chart) → StopsWithin bytes board → ⊥
      at left same long None (inl few) = omega (arith, size)
      at left same long None (inr (extended, more, is, few)) = head-whole extended b.shape bytes more left (body_of b.flash b.sram ++ rest) is few (sym same ∙ parts) (omega (arith, size, length-head b.shape))
      at left same long (Some now) (shape, (more, is, few), flawless) =
          let heads : head_of b.shape ++ (body_of b.flash b.sram ++ rest) ≡ head_of now.shape ++ (more ++ left) = sym parts ∙ (same ∙ (ap (λ (xs : List ℕ). xs ++ left) is ∙ append_assoc (head_of now.shape) more left)) in
          let one : b.shape ≡ now.shape = same-head b.shape now.shape _ _ (fit-numbers b.shape (IsBoard.shape whole)) (fit-numbers now.shape shape) heads in
          let even : body_size b.shape ≡ body_size now.shape = ap body_size one in
          omega (arith, size, ap head_size one, ap length is, length-append (head_of now.shape) more, length-head now.shape)

  -- its first bytes are the mark
  pub never-unmarked : length bytes ≡ 8 → ((extended : Bool) → bytes ≡ mark_of extended → ⊥) → ⊥
  never-unmarked eight other =
      let (left, is, all) = front-taken (image_of b ++ rest) bytes feed.left source in
      let marked = is_extended b.shape in
      other marked (same-front bytes (mark_of marked) left _ (eight ∙ sym (eight-long marked)) (sym all ∙ (parts ∙ mark-first b.shape (body_of b.flash b.sram ++ rest))))
    where
      eight-long : (b : Bool) → length (mark_of b) ≡ 8
      eight-long false = refl
      eight-long true = refl

  -- its shape is that of the head
  pub shape-told : (sh : Shape) → bytes ≡ head_of sh → FitNumbers sh → b.shape ≡ sh
  shape-told sh is fit =
      let (left, same, all) = front-taken (image_of b ++ rest) bytes feed.left source in
      let heads : head_of b.shape ++ (body_of b.flash b.sram ++ rest) ≡ head_of sh ++ left = sym parts ∙ (all ∙ ap (λ (xs : List ℕ). xs ++ left) is) in
      same-head b.shape sh _ _ (fit-numbers b.shape (IsBoard.shape whole)) fit heads

  -- its shape checks
  pub never-misshapen : (fault : ShapeFault) → IsMisshapen bytes fault → ⊥
  never-misshapen fault (sh, fit, inl (is, fails)) =
      let one : b.shape ≡ sh = shape-told sh is fit in
      let good : checked sh ≡ Ok tt = subst (λ (x : Shape). checked x ≡ Ok tt) one (shape-checks b.shape (IsBoard.shape whole)) in
      let never = sym good ∙ fails in
      cc
  never-misshapen fault (sh, fit, inr (is, two, told)) =
      let (left, same, all) = front-taken (image_of b ++ rest) bytes feed.left source in
      never-bare b.shape sh (body_of b.flash b.sram ++ rest) left (fit-numbers b.shape (IsBoard.shape whole)) fit two (sym parts ∙ (all ∙ ap (λ (xs : List ℕ). xs ++ left) is))

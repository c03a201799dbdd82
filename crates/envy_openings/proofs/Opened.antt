-- The bytes behind the head of an image that was read.
use Rattle.std.proofs.Common.{◌≡◌, ℕ, ◌+◌, ◌-◌, ◌^◌, List, [], ◌++◌, length, IsTrue, sym, ◌∙◌, ap, inr, arith, length-append}
use Rattle.std.specs.Prelude.{Some, Err}
use Rattle.std.proofs.lemmas.List.{append_assoc, append-nil}
use Rattle.envy_base.specs.State.{State}
use Rattle.envy_base.specs.declared.shape.Shape.{Shape}
use Rattle.envy_io.specs.Fetching.{Draws}
use Rattle.envy_io.specs.Taking.{Taking}
use Rattle.envy_image.specs.Image.{head_of, body_of, image_of}
use Rattle.envy_image.specs.Installing.{Installs, Installed}
use Rattle.envy_image.specs.Reading.{Consumes, Ends}
use Rattle.envy_image.specs.declared.installation.InFault.TheVariants.{Short}
use Rattle.envy_calls.specs.declared.code.Code.TheVariants.{ImageShort}
use Rattle.envy_openings.specs.Image.{HoldsImage, NoBoard}
use Rattle.envy_openings.specs.Reading.{feed_of, IsAt, IsOpened}

-- what stands in Some
pub inside : (a b : List ℕ) → Some a ≡ Some b → a ≡ b
inside a b e = cc

-- what was drawn stood in front of the rest
record Drew (bytes left rest got : List ℕ) (now : Taking) : Type 0 where
  split : left ≡ got ++ rest
  cap : now.cap ≡ 2 ^ 64 - 1
  taken : now.taken + length rest ≡ length bytes
  dry : IsTrue now.ended → rest ≡ []

drew : (bytes left rest got : List ℕ) (was now : Taking) → IsAt bytes left was → Draws was (feed_of left) got now (feed_of rest) → Drew bytes left rest got now
drew bytes left rest got was now at d =
    let split : left ≡ got ++ rest = inside left (got ++ rest) d.left in
    let long : length left ≡ length got + length rest = ap length split ∙ length-append got rest in
    record { split = split; cap = d.cap ∙ at.cap; taken = omega (arith, at.taken, d.taken, long); dry = λ ended. d.dry at.dry ended }

consumed : (bytes left rest front : List ℕ) (was now : Taking) → IsAt bytes left was → Consumes was (feed_of left) front now (feed_of rest) → left ≡ front ++ rest
consumed bytes left rest front was now at c =
    let d = drew bytes left rest c.got was now at c.draws in
    let none : now.held ≡ [] = c.nothing_over at.held in
    let got : c.got ≡ front = ap (λ (xs : List ℕ). xs ++ c.got) (sym at.held) ∙ (c.all ∙ (ap (λ (xs : List ℕ). front ++ xs) none ∙ append-nil front)) in
    d.split ∙ ap (λ (xs : List ℕ). xs ++ rest) got

-- where the end stopped the bytes, they were all that was left
all-used : (bytes left rest used : List ℕ) (was now : Taking) → IsAt bytes left was → Ends was (feed_of left) used now (feed_of rest) → IsTrue now.ended → left ≡ used
all-used bytes left rest used was now at e ended =
    let d = drew bytes left rest e.got was now at e.draws in
    let got : e.got ≡ used = ap (λ (xs : List ℕ). xs ++ e.got) (sym at.held) ∙ e.all in
    d.split ∙ (ap (λ (xs : List ℕ). e.got ++ xs) (d.dry ended) ∙ (append-nil e.got ∙ got))

-- a stream that ends within the image's body
pub body-short : (bytes left rest : List ℕ) (was now : Taking) (old new : State) → IsOpened bytes old.shape left was → Installs old was (feed_of left) (Err Short) new now (feed_of rest) → NoBoard bytes old.shape ImageShort
body-short bytes left rest was now old new o s =
    let all : left ≡ s.bytes = all-used bytes left rest s.bytes was now o.at s.ends s.stops in
    let few = s.few in
    inr (left, o.head, rw all few)

image-front : (s : State) (rest : List ℕ) → head_of s.shape ++ (body_of s.flash s.sram ++ rest) ≡ image_of s ++ rest
unfolding image_of
image-front s rest = sym (append_assoc (head_of s.shape) (body_of s.flash s.sram) rest)

-- a stream that holds a whole image
pub body-holds : (bytes left rest : List ℕ) (was now : Taking) (old new : State) → IsOpened bytes old.shape left was → Installed old was (feed_of left) new now (feed_of rest) → HoldsImage bytes old new
body-holds bytes left rest was now old new o i =
    let c = consumed bytes left rest (body_of new.flash new.sram) was now o.at i.bytes in
    let shape : new.shape ≡ old.shape = ap State.shape i.goes.same in
    record {
      rest = rest;
      is = o.head.head ∙ (ap (λ (xs : List ℕ). head_of old.shape ++ xs) c ∙ (ap (λ (s : Shape). head_of s ++ (body_of new.flash new.sram ++ rest)) (sym shape) ∙ image-front new rest));
      goes = i.goes;
      begun = i.begun;
      erases = i.erases;
    }

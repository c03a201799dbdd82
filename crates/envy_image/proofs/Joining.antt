-- Pieces that are written one after another.
use Rattle.std.proofs.Common.{◌≡◌, ℕ, ◌+◌, ◌*◌, ◌<◌, ◌≤◌, Bool, IsTrue, List, [], ◌∷◌, ◌++◌, length, take, drop, get_or, Option, Ok, Err, Result, refl, sym, ◌∙◌, ap, ap₂, subst, arith, length-append, flat_map}
use Rattle.std.proofs.lemmas.Slice.{take-put_mid}
use borrow.Rule.Slice.PartMut.{put_mid}
use Rattle.std.proofs.lemmas.Bool.{false≢true}
use Rattle.std.proofs.lemmas.List.{append-nil, take_more, drop_more, take_all, take-append-le, take-append-drop}
use Rattle.std.proofs.Math.Seq.{take-append-add}
use Rattle.std.proofs.lemmas.Grind.{flat_map-append}
use Rattle.envy_io.specs.declared.source.Failed.{Failed as NoWrite}
use Rattle.envy_io.specs.Streams.{Drain, WritesAll, with_end}
use Rattle.envy_io.proofs.WritesLemmas.{with_end-with_end, with_end-nil}
use Rattle.envy_io.proofs.Counts.{Rises-after}
use Rattle.envy_io.proofs.Pieces.{AfterPiece-append}
use Rattle.envy_image.specs.declared.writer.OutFault.{OutFault}
use Rattle.envy_image.specs.declared.writer.OutFault.TheVariants.{Off, Failed}
use Rattle.envy_base.specs.declared.shape.Shape.{Shape}
use Rattle.envy_base.specs.Map.{words_of}
use Rattle.envy_base.specs.State.{State}
use Rattle.envy_image.specs.Image.{head_of, body_of, image_of, word_bytes, words_bytes}
use Rattle.envy_image.specs.Writing.{WritesOut}

pub written-none : (d : Drain) → WritesAll d [] (Ok tt) d
written-none d = (sym (with_end-nil d.written), omega arith, refl)

-- two pieces that are written whole
pub written-more : (a b : List ℕ) (old mid new : Drain) → WritesAll old a (Ok tt) mid → WritesAll mid b (Ok tt) new → WritesAll old (a ++ b) (Ok tt) new
written-more a b old mid new (first, less, after) (second, less', after') = (
  second ∙ (ap (λ (w : Option (List ℕ)). with_end w b) first ∙ with_end-with_end old.written a b),
  omega (arith, less, less'),
  AfterPiece-append a b old mid new after after',
)

front-both : (a b rest : List ℕ) (n : ℕ) → n ≤ length b → a ++ take n b ≡ take (length a + n) (a ++ (b ++ rest))
front-both a b rest n fits = ap (λ (xs : List ℕ). a ++ xs) (sym (take-append-le n b rest fits)) ∙ sym (take-append-add a (b ++ rest) n)

-- a failure leaves a front of all that was to be written
pub written-failed : (a b rest : List ℕ) (failed : NoWrite) (old mid new : Drain) → WritesAll old a (Ok tt) mid → WritesAll mid b (Err failed) new → WritesAll old (a ++ (b ++ rest)) (Err failed) new
written-failed a b rest failed old mid new (first, less, after) (n, below, second, rises) = (
  length a + n,
  omega (arith, below, length-append a (b ++ rest), length-append b rest),
  second ∙ (ap (λ (w : Option (List ℕ)). with_end w (take n b)) first ∙ (with_end-with_end old.written a (take n b) ∙ ap (with_end old.written) (front-both a b rest n (omega (arith, below))))),
  Rises-after old.faults mid.faults new.faults less rises,
)

-- items that are written one by one
module _ {X : Type 0} (f : X → List ℕ) (xs : List X) (d : X) where
  -- one item more of a list
  pub split-more : (i : ℕ) → i < length xs → flat_map f (take (i + 1) xs) ≡ flat_map f (take i xs) ++ f (get_or xs i d)
  split-more i within = ap (flat_map f) (take_more xs i d within) ∙ (flat_map-append f (take i xs) (get_or xs i d ∷ []) ∙ ap (λ (r : List ℕ). flat_map f (take i xs) ++ r) (append-nil (f (get_or xs i d))))

  -- a list before an item, the item, and the rest
  pub split-at : (i : ℕ) → i < length xs → flat_map f xs ≡ flat_map f (take i xs) ++ (f (get_or xs i d) ++ flat_map f (drop (i + 1) xs))
  split-at i within = ap (flat_map f) (sym (take-append-drop i xs)) ∙ (flat_map-append f (take i xs) (drop i xs) ∙ ap (λ (r : List X). flat_map f (take i xs) ++ flat_map f r) (drop_more xs i d within))

  -- one item more is written
  pub items-more : (i : ℕ) (old mid new : Drain) → i < length xs → WritesAll old (flat_map f (take i xs)) (Ok tt) mid → WritesAll mid (f (get_or xs i d)) (Ok tt) new → WritesAll old (flat_map f (take (i + 1) xs)) (Ok tt) new
  items-more i old mid new within first second =
      subst (λ (bytes : List ℕ). WritesAll old bytes (Ok tt) new) (sym (split-more i within)) (written-more _ _ old mid new first second)

  -- an item that isn't written ends it
  pub items-failed : (i : ℕ) (failed : NoWrite) (old mid new : Drain) → i < length xs → WritesAll old (flat_map f (take i xs)) (Ok tt) mid → WritesAll mid (f (get_or xs i d)) (Err failed) new → WritesAll old (flat_map f xs) (Err failed) new
  items-failed i failed old mid new within first second =
      subst (λ (bytes : List ℕ). WritesAll old bytes (Err failed) new) (sym (split-at i within)) (written-failed _ _ (flat_map f (drop (i + 1) xs)) failed old mid new first second)

  pub items-all : (i : ℕ) (old new : Drain) → length xs ≤ i → WritesAll old (flat_map f (take i xs)) (Ok tt) new → WritesAll old (flat_map f xs) (Ok tt) new
  items-all i old new past written = subst (λ (ys : List X). WritesAll old (flat_map f ys) (Ok tt) new) (take_all i xs past) written

-- one of several parts failed
pub first-failed : (a b : List ℕ) (failed : NoWrite) (old new : Drain) → WritesAll old a (Err failed) new → WritesAll old (a ++ b) (Err failed) new
first-failed a b failed old new (n, below, written, rises) =
    (n, omega (arith, below, length-append a b), written ∙ ap (with_end old.written) (sym (take-append-le n a b (omega (arith, below)))), rises)

-- the second piece fails
pub second-failed : (a b : List ℕ) (failed : NoWrite) (old mid new : Drain) → WritesAll old a (Ok tt) mid → WritesAll mid b (Err failed) new → WritesAll old (a ++ b) (Err failed) new
second-failed a b failed old mid new first second =
    subst (λ (bytes : List ℕ). WritesAll old (a ++ bytes) (Err failed) new) (append-nil b) (written-failed a b [] failed old mid new first second)

-- however the second piece ends
pub second-any : (a b : List ℕ) (r : Result Unit NoWrite) (old mid new : Drain) → WritesAll old a (Ok tt) mid → WritesAll mid b r new → WritesAll old (a ++ b) r new
second-any a b (Ok done) old mid new first second = written-more a b old mid new first second
second-any a b (Err failed) old mid new first second = second-failed a b failed old mid new first second

-- also where power may be off
pub second-out : (on : Bool) (a b : List ℕ) (r : Result Unit OutFault) (old mid new : Drain) → IsTrue on → WritesAll old a (Ok tt) mid → WritesOut on mid b r new → WritesOut on old (a ++ b) r new
second-out on a b (Ok done) old mid new power first (_, second) = (power, written-more a b old mid new first second)
second-out on a b (Err Off) old mid new power first (dark, same) = absurd (false≢true (sym dark ∙ power))
second-out on a b (Err Failed) old mid new power first (_, failed, second) = (power, failed, second-failed a b failed old mid new first second)

-- an item of several failed
pub item-out : {X : Type 0} (f : X → List ℕ) (xs : List X) (d : X) (i : ℕ) (on : Bool) (fault : OutFault) (old mid new : Drain) → i < length xs → IsTrue on → WritesAll old (flat_map f (take i xs)) (Ok tt) mid → WritesOut on mid (f (get_or xs i d)) (Err fault) new → WritesOut on old (flat_map f xs) (Err fault) new
item-out f xs d i on Off old mid new within power first (dark, same) = absurd (false≢true (sym dark ∙ power))
item-out f xs d i on Failed old mid new within power first (_, failed, second) = (power, failed, items-failed f xs d i failed old mid new within first second)

-- an image whose head isn't written
pub head-failed : (s : State) (failed : NoWrite) (old new : Drain) → IsTrue s.on → WritesAll old (head_of s.shape) (Err failed) new → WritesOut s.on old (image_of s) (Err Failed) new
unfolding image_of
head-failed s failed old new power first = (power, failed, first-failed (head_of s.shape) (body_of s.flash s.sram) failed old new first)

-- an image whose head is written ends as its body
pub body-out : (s : State) (r : Result Unit OutFault) (old mid new : Drain) → IsTrue s.on → WritesAll old (head_of s.shape) (Ok tt) mid → WritesOut s.on mid (body_of s.flash s.sram) r new → WritesOut s.on old (image_of s) r new
unfolding image_of
body-out s r old mid new power first second = second-out s.on (head_of s.shape) (body_of s.flash s.sram) r old mid new power first second

pub words-are : (sh told : Shape) {n : ℕ} → told ≡ sh → n ≡ words_of told → n ≡ words_of sh
words-are sh told same is = is ∙ ap words_of same

-- one more word's bytes, behind those of the words before it
pub bytes-more : (out row ys : List ℕ) (i k w : ℕ) → take (8 * i) out ≡ words_bytes (take i row) → 8 * i ≤ length out → i < length row → w ≡ get_or row i 0 → ys ≡ word_bytes w → take (8 * (i + 1)) (put_mid (8 * i) k out ys) ≡ words_bytes (take (i + 1) row)
bytes-more out row ys i k w held fits within is spelt =
    let long : length ys ≡ 8 = rw spelt (length-word w) in
    take-put_mid (8 * i) k out ys (8 * (i + 1)) (omega (arith, long)) fits ∙ ap₂ (λ (a b : List ℕ). a ++ b) held (spelt ∙ ap word_bytes is) ∙ sym (split-more word_bytes row 0 i within)
  where
    length-word : (w : ℕ) → length (word_bytes w) ≡ 8
    length-word w = refl

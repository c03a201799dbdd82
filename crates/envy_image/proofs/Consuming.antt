-- Bytes that are read one piece after another.
use Rattle.std.proofs.Common.{◌≡◌, ℕ, ◌+◌, ◌<◌, ◌≤◌, Bool, true, false, List, [], ◌++◌, length, take, drop, Err, Option, None, Some, Ok, refl, sym, ◌∙◌, ap, subst, inl, inr, ◌⊎◌, ◌^◌, ◌==◌, true≢false, arith, length-append}
use Rattle.std.proofs.lemmas.List.{append_assoc, append-nil, take-append-drop, drop-drop, nil_from_length, length-drop}
use Rattle.envy_base.specs.declared.shape.Shape.{Shape}
use Rattle.envy_base.specs.declared.shape.ShapeFault.{ShapeFault}
use Rattle.envy_base.specs.declared.shape.ShapeFault.TheVariants.{Reserves}
use Rattle.envy_base.specs.Shape.{checked, version_of}
use Rattle.envy_base.proofs.Versions.{version-known, version-plain}
use Rattle.envy_image.specs.declared.reader.HeadFault.TheVariants.{Shape as BadShape}
use Rattle.envy_io.specs.Streams.{Feed, with_front}
use Rattle.envy_io.specs.Taking.{Taking}
use Rattle.envy_io.specs.Fetching.{Draws}
use Rattle.envy_io.proofs.Counts.{Rises-after}
use Rattle.envy_io.proofs.TakesLemmas.{with_front-with_front}
use Rattle.envy_image.specs.declared.reader.Stop.{Stop}
use Rattle.envy_image.specs.declared.reader.Stop.TheVariants.{Short, Failed, Spent}
use Rattle.envy_image.specs.Faults.{head_fault}
use Rattle.envy_image.specs.Image.{mark_of, head_of, head_with, is_extended, number_bytes, numbers_bytes, numbers_of, numbers_size, FitNumbers}
use Rattle.envy_image.specs.Installing.{IsWithin}
use Rattle.envy_image.specs.Reading.{Consumes, Ends, Stops, ReadsHead, ReadsShape, EndsInHead}

-- what is drawn twice is drawn as one
pub draws-both : (old mid new : Taking) (from feed to : Feed) (a b : List ℕ) → Draws old from a mid feed → Draws mid feed b new to → Draws old from (a ++ b) new to
draws-both old mid new from feed to a b first second = record {
  cap = second.cap ∙ first.cap;
  taken = omega (arith, first.taken, second.taken, length-append a b);
  within = second.within;
  left = first.left ∙ (ap (with_front a) second.left ∙ with_front-with_front a b to.left);
  faults = omega (arith, first.faults, second.faults);
  ended = λ was.
      let one = first.ended was in
      let two = second.ended one.0 in
      (two.0, rw (one.1, two.1) refl);
  dry = λ dry. second.dry (first.dry dry);
  below = second.below;
}

joined : (held a got piece b now : List ℕ) (mid : List ℕ) → held ++ got ≡ a ++ mid → mid ++ piece ≡ b ++ now → held ++ (got ++ piece) ≡ (a ++ b) ++ now
joined held a got piece b now mid first second =
    sym (append_assoc held got piece) ∙ (ap (λ (xs : List ℕ). xs ++ piece) first ∙ (append_assoc a mid piece ∙ (ap (λ (xs : List ℕ). a ++ xs) second ∙ sym (append_assoc a b now))))

-- what is read twice is read as one
pub consumes-both : (old mid new : Taking) (from feed to : Feed) (a b : List ℕ) → Consumes old from a mid feed → Consumes mid feed b new to → Consumes old from (a ++ b) new to
consumes-both old mid new from feed to a b first second = record {
  got = first.got ++ second.got;
  draws = draws-both old mid new from feed to first.got second.got first.draws second.draws;
  all = joined old.held a first.got second.got b new.held mid.held first.all second.all;
  nothing_over = λ none. second.nothing_over (first.nothing_over none);
}

with_front-nil : (left : Option (List ℕ)) → left ≡ with_front [] left
with_front-nil None = refl
with_front-nil (Some bytes) = refl

pub consumes-none : (t : Taking) (feed : Feed) → IsWithin t → Consumes t feed [] t feed
consumes-none t feed within = record {
  got = [];
  draws = record {
    cap = refl;
    taken = omega arith;
    within = within.within;
    left = with_front-nil feed.left;
    faults = omega arith;
    ended = λ was. (was, refl);
    dry = λ dry. dry;
    below = within.below;
  };
  all = append-nil t.held;
  nothing_over = λ none. none;
}

-- a stream that ends behind what was read
pub ends-later : (old mid new : Taking) (from feed to : Feed) (a b : List ℕ) → Consumes old from a mid feed → Ends mid feed b new to → Ends old from (a ++ b) new to
ends-later old mid new from feed to a b first second = record {
  got = first.got ++ second.got;
  draws = draws-both old mid new from feed to first.got second.got first.draws second.draws;
  all = joined old.held a first.got second.got b [] mid.held first.all (second.all ∙ sym (append-nil b)) ∙ append-nil (a ++ b);
  used = second.used;
}

-- a fault later on is a fault from the start
pub stops-later : (stop : Stop) (new : Taking) (from feed to : Feed) → from.faults ≤ feed.faults → Stops stop new feed to → Stops stop new from to
stops-later Short new from feed to less stops = stops
stops-later Failed new from feed to less (going, below, rises) = (going, below, Rises-after from.faults feed.faults to.faults less rises)
stops-later Spent new from feed to less stops = stops

-- a stream that ends within the head
pub head-ends : (stop : Stop) (old new : Taking) (from to : Feed) → EndsInHead stop old from new to → ReadsHead old from (Err (head_fault stop)) new to
head-ends Short old new from to ends = ends
head-ends Failed old new from to ends = ends
head-ends Spent old new from to ends = ends

module _ (extended : Bool) (old mid new : Taking) (from feed to : Feed) (first : Consumes old from (mark_of extended) mid feed) where
  -- one that ends within the numbers
  pub shape-ends : (stop : Stop) (bytes : List ℕ) → length bytes < numbers_size extended → Ends mid feed bytes new to → Stops stop new feed to → ReadsHead old from (Err (head_fault stop)) new to
  shape-ends stop bytes few ends stops =
      head-ends stop old new from to (mark_of extended ++ bytes, ends-later old mid new from feed to (mark_of extended) bytes first ends, stops-later stop new from feed to first.draws.faults stops, inr (extended, bytes, refl, few))

  -- mark and numbers are the head
  pub head-read : (sh : Shape) → Consumes mid feed (numbers_bytes (numbers_of extended sh)) new to → Consumes old from (head_with extended sh) new to
  unfolding head_with
  head-read sh second = consumes-both old mid new from feed to (mark_of extended) (numbers_bytes (numbers_of extended sh)) first second

-- four bytes of many
four : (bs : List ℕ) (n at next : ℕ) → next ≡ at + 4 → number_bytes n ≡ take 4 (drop at bs) → drop at bs ≡ number_bytes n ++ drop next bs
four bs n at next is taken =
    sym (take-append-drop 4 (drop at bs)) ∙ (ap (λ (xs : List ℕ). xs ++ drop 4 (drop at bs)) (sym taken) ∙ ap (λ (xs : List ℕ). number_bytes n ++ xs) (drop-drop 4 at bs ∙ ap (λ (k : ℕ). drop k bs) (omega (arith, is))))

-- sizes that are read before the two numbers of an extended image
module _ (old mid new : Taking) (from feed to : Feed) (sh : Shape) (first : Consumes old from (numbers_bytes (numbers_of false sh)) mid feed) where
  pub extras-end : (extended : Bool) → extended ≡ true → (stop : Stop) (bytes : List ℕ) → length bytes < 8 → Ends mid feed bytes new to → Stops stop new feed to → ReadsShape extended old from (Err stop) new to
  extras-end extended is stop bytes few ends stops = subst (λ (b : Bool). ReadsShape b old from (Err stop) new to) (sym is)
      (numbers_bytes (numbers_of false sh) ++ bytes, omega (arith, length-append (numbers_bytes (numbers_of false sh)) bytes), ends-later old mid new from feed to (numbers_bytes (numbers_of false sh)) bytes first ends, stops-later stop new from feed to first.draws.faults stops)

  pub extras-read : (extended : Bool) → extended ≡ true → FitNumbers sh → (reserves sums : ℕ) → reserves < 2 ^ 32 → sums < 2 ^ 32 → (bytes : List ℕ) → length bytes ≡ 8 → number_bytes reserves ≡ take 4 (drop 0 bytes) → number_bytes sums ≡ take 4 (drop 4 bytes) → Consumes mid feed bytes new to
      → ReadsShape extended old from (Ok (record sh { reserves = reserves; sums = sums })) new to
  extras-read extended is fit reserves sums few-reserves few-sums bytes long a b second =
      let rest : drop 8 bytes ≡ [] = nil_from_length (drop 8 bytes) (omega (arith, long, length-drop 8 bytes)) in
      let two : bytes ≡ number_bytes reserves ++ (number_bytes sums ++ []) =
      four bytes reserves 0 4 refl a ∙ ap (λ (xs : List ℕ). number_bytes reserves ++ xs) (four bytes sums 4 8 refl b ∙ ap (λ (xs : List ℕ). number_bytes sums ++ xs) rest) in
      subst (λ (b : Bool). ReadsShape b old from (Ok (record sh { reserves = reserves; sums = sums })) new to) (sym is) (
        consumes-both old mid new from feed to (numbers_bytes (numbers_of false sh)) (number_bytes reserves ++ (number_bytes sums ++ [])) first (subst (λ (bs : List ℕ). Consumes mid feed bs new to) two second),
        record { segments = fit.segments; rows = fit.rows; pages = fit.pages; shadows = fit.shadows; frames = fit.frames; entries = fit.entries; reserves = few-reserves; sums = few-sums },
        (λ (none : true ≡ false). absurd (true≢false none)),
      )

-- a head that was read, of an image that is extended if its shape has reserves or sums
module _ (extended : Bool) (old new : Taking) (from to : Feed) (sh : Shape) (fit : FitNumbers sh) (plain : extended ≡ false → (sh.reserves ≡ 0) × (sh.sums ≡ 0))
    (head : Consumes old from (head_with extended sh) new to) where
  -- without them in an extended one
  pub head-bare : extended ≡ true → version_of sh ≡ 2 → ReadsHead old from (Err (BadShape Reserves)) new to
  head-bare is two = (head_with extended sh, head, (sh, fit, inr (ap (λ (b : Bool). head_with b sh) is, two, refl)))

  extended-so : (extended ≡ true → version_of sh ≡ 2 → ⊥) → extended ≡ is_extended sh
  extended-so not_bare = by_mark extended refl
    where
      by_mark : (b : Bool) → extended ≡ b → extended ≡ is_extended sh
      by_mark false is = is ∙ sym (ap (λ (v : ℕ). v == 3) (version-plain sh (plain is).0 (plain is).1))
      by_mark true is = is ∙ sym (either (version-known sh))
        where
          either : (version_of sh ≡ 2) ⊎ (version_of sh ≡ 3) → is_extended sh ≡ true
          either (inl two) = absurd (not_bare is two)
          either (inr three) = ap (λ (v : ℕ). v == 3) three

  pub head-is : (extended ≡ true → version_of sh ≡ 2 → ⊥) → Consumes old from (head_of sh) new to
  head-is not_bare = subst (λ (b : Bool). Consumes old from (head_with b sh) new to) (extended-so not_bare) head

  pub head-misshapen : (fault : ShapeFault) → (extended ≡ true → version_of sh ≡ 2 → ⊥) → checked sh ≡ Err fault → ReadsHead old from (Err (BadShape fault)) new to
  head-misshapen fault not_bare fails = (head_of sh, head-is not_bare, (sh, fit, inl (refl, fails)))

-- six numbers are what the sizes are
pub six : (bs : List ℕ) (sh : Shape) → length bs ≡ 24 → number_bytes sh.segments ≡ take 4 (drop 0 bs) → number_bytes sh.rows ≡ take 4 (drop 4 bs) → number_bytes sh.pages ≡ take 4 (drop 8 bs)
    → number_bytes sh.shadows ≡ take 4 (drop 12 bs) → number_bytes sh.frames ≡ take 4 (drop 16 bs) → number_bytes sh.entries ≡ take 4 (drop 20 bs) → bs ≡ numbers_bytes (numbers_of false sh)
six bs sh long a b c d e f =
    let rest : drop 24 bs ≡ [] = nil_from_length (drop 24 bs) (omega (arith, long, length-drop 24 bs)) in
    four bs sh.segments 0 4 refl a ∙ ap (λ (xs : List ℕ). number_bytes sh.segments ++ xs) (
    four bs sh.rows 4 8 refl b ∙ ap (λ (xs : List ℕ). number_bytes sh.rows ++ xs) (
    four bs sh.pages 8 12 refl c ∙ ap (λ (xs : List ℕ). number_bytes sh.pages ++ xs) (
    four bs sh.shadows 12 16 refl d ∙ ap (λ (xs : List ℕ). number_bytes sh.shadows ++ xs) (
    four bs sh.frames 16 20 refl e ∙ ap (λ (xs : List ℕ). number_bytes sh.frames ++ xs) (
    four bs sh.entries 20 24 refl f ∙ ap (λ (xs : List ℕ). number_bytes sh.entries ++ xs) rest)))))

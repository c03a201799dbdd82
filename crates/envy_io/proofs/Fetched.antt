-- What several askings for the bytes of a slice take together.
use Rattle.std.proofs.Common.{◌≡◌, ◌≢◌, ◌⊎◌, ℕ, ◌+◌, ◌-◌, ◌<◌, ◌≤◌, ◌==◌, Bool, true, false, IsTrue, List, [], ◌++◌, length, take, drop, Ok, refl, ap, sym, ◌∙◌, inl, inr, arith, length-append, subst}
use Rattle.std.proofs.lemmas.Bool.{false≢true}
use Rattle.std.proofs.lemmas.Bool.Decides.{nat_tests}
use Rattle.std.proofs.lemmas.List.{append_assoc, append-nil, take-append-drop, take_at, length-take}
use Rattle.envy_io.specs.Streams.{Feed, Fills, IsDry, with_front}
use Rattle.envy_io.specs.Taking.{Taking}
use Rattle.envy_io.specs.Fetching.{Draws, IsIdle, MayPull, Pulls}
use Rattle.envy_io.proofs.TakesLemmas.{askings, fewer, with_front-nil, with_front-with_front}

-- the first bytes of the slice are those that came so far
pub record Fetched (old : Taking) (from : Feed) (into : List ℕ) (count : ℕ) (new : Taking) (to : Feed) : Type 0 where
  pub got : List ℕ
  pub draws : Draws old from got new to
  pub all : old.held ++ got ≡ take count into ++ new.held
  pub within : count ≤ length into
  -- bytes are held only where none was taken and the slice is full
  pub none : (count < length into) ⊎ (0 < length got) → new.held ≡ []

-- the slice after one asking
pub front-grown : (a m : ℕ) (xs ys rest : List ℕ) → a ≤ length xs → m ≤ length ys → take (a + m) (take a xs ++ (ys ++ rest)) ≡ take a xs ++ take m ys
front-grown a m xs ys rest within fits =
    let split : ys ++ rest ≡ take m ys ++ (drop m ys ++ rest) = ap (λ (zs : List ℕ). zs ++ rest) (sym (take-append-drop m ys)) ∙ append_assoc (take m ys) (drop m ys) rest in
    let whole : take a xs ++ (ys ++ rest) ≡ (take a xs ++ take m ys) ++ (drop m ys ++ rest) = ap (λ (zs : List ℕ). take a xs ++ zs) split ∙ sym (append_assoc (take a xs) (take m ys) (drop m ys ++ rest)) in
    ap (take (a + m)) whole ∙ take_at (take a xs ++ take m ys) (drop m ys ++ rest) (a + m) (omega (arith, length-append (take a xs) (take m ys), length-take a xs, length-take m ys))

pub pulls-fewer : (old new : Taking) (from to : Feed) (before after : List ℕ) (count more : ℕ) → old.ended ≡ false → old.taken ≢ old.cap → old.taken ≤ old.cap → Pulls old from before count (Ok more) after new to → askings new < askings old
unfolding askings
pulls-fewer old new from to before after count more going below within (piece, long, fits, front, none, draws, goes) =
    fewer old.cap new.cap old.taken new.taken more old.ended new.ended going (omega arith) draws.cap (omega (arith, draws.taken)) goes

module _ (old mid : Taking) (from feed : Feed) (before : List ℕ) (count : ℕ) (f : Fetched old from before count mid feed) (room : count < length before) (going : mid.ended ≡ false) where
  not_ended : IsTrue old.ended → ⊥
  not_ended ended = false≢true (sym going ∙ (f.draws.ended ended).0)

  -- the source is asked only where it may be
  pub idle-absurd : {P : Type 0} (n : ℕ) → n ≡ length before → mid.taken ≢ mid.cap → IsIdle old n → P
  idle-absurd n is below (inl full) = absurd (omega (arith, ap length f.all, length-append old.held f.got, length-append (take count before) mid.held, length-take count before, ap length (f.none (inl room))))
  idle-absurd n is below (inr (inl ended)) = absurd (not_ended ended)
  idle-absurd n is below (inr (inr capped)) = absurd (below (omega (arith, f.draws.taken, f.draws.cap, f.draws.within)))

  pub Fetched-more : (new : Taking) (to : Feed) (after : List ℕ) (more : ℕ) → length after ≡ length before → Pulls mid feed before count (Ok more) after new to → Fetched old from after (count + more) new to
  Fetched-more new to after more same (piece, long, fits, front, none, draws, goes) = record {
    got = f.got ++ piece;
    draws = record {
      cap = draws.cap ∙ f.draws.cap;
      taken = omega (arith, draws.taken, f.draws.taken, length-append f.got piece);
      within = draws.within;
      left = f.draws.left ∙ (ap (with_front f.got) draws.left ∙ with_front-with_front f.got piece to.left);
      faults = omega (arith, f.draws.faults, draws.faults);
      ended = λ ended. absurd (not_ended ended);
      dry = λ dry. draws.dry (λ ended. absurd (false≢true (sym going ∙ ended)));
      below = draws.below;
    };
    all = sym (append_assoc old.held f.got piece) ∙ (ap (λ (bytes : List ℕ). bytes ++ piece) (f.all ∙ rw (f.none (inl room)) (append-nil (take count before))) ∙ (sym front ∙ rw none (sym (append-nil (take (count + more) after)))));
    within = omega arith;
    none = λ some. none;
  }

is-zero : (n : ℕ) → IsTrue (n == 0) → n ≡ 0
is-zero n is = grind (arith, nat_tests)

not-zero : (n : ℕ) → (n == 0) ≡ false → 0 < n
not-zero n is = grind (arith, nat_tests)

dry-after : (from to : Feed) (slice : List ℕ) (n : ℕ) → from.left ≡ with_front (take n slice) to.left → (n ≡ 0 → IsDry from.left) → IsTrue (n == 0) → IsDry to.left
dry-after from to slice n left dry none =
    let zero : n ≡ 0 = is-zero n none in
    let same : from.left ≡ to.left = left ∙ (ap (λ (k : ℕ). with_front (take k slice) to.left) zero ∙ with_front-nil to.left) in
    subst IsDry same (dry zero)

-- What a call of the source says of the bytes taken. The old state is seen twice, as it was told and by its parts.
pub Pulls-ok : (old seen : Taking) (from to : Feed) (before slice rest : List ℕ) (count n : ℕ) → old ≡ seen → MayPull old → count ≤ length before → Fills from slice (Ok n) to → length slice ≤ seen.cap - seen.taken → count + length slice ≤ length before → Pulls old from before count (Ok n) (take count before ++ (slice ++ rest)) (record seen { taken = seen.taken + n; ended = n == 0 }) to
Pulls-ok old seen from to before slice rest count n is may within (fits, left, dry, faults) room inside =
    let long : length (take n slice) ≡ n = omega (arith, length-take n slice) in
    let taken : old.taken ≡ seen.taken = ap (λ (t : Taking). t.taken) is in
    let cap : old.cap ≡ seen.cap = ap (λ (t : Taking). t.cap) is in (
      take n slice,
      long,
      omega arith,
      front-grown count n before slice rest within fits,
      sym (ap (λ (t : Taking). t.held) is) ∙ may.none,
      record {
        cap = sym cap;
        taken = omega arith;
        within = omega (arith, may.below);
        left = left;
        faults = omega (arith, faults);
        ended = λ ended. absurd (false≢true (sym may.going ∙ ended));
        dry = λ _ none. dry-after from to slice n left dry none;
        below = λ none. omega (arith, is-zero n none, may.below);
      },
      either-bool (n == 0) refl,
    )
  where
    either-bool : (b : Bool) → (n == 0) ≡ b → IsTrue b ⊎ (0 < n)
    either-bool true is = inl refl
    either-bool false is = inr (not-zero n is)

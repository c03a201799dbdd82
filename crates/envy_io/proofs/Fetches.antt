-- What a call that fetches bytes answers, from what came so far.
use Rattle.std.proofs.Common.{◌≡◌, ◌≢◌, ◌⊎◌, ℕ, ◌+◌, ◌<◌, ◌≤◌, false, IsTrue, List, [], ◌∷◌, ◌++◌, length, take, drop, Err, refl, ap, ap₂, sym, ◌∙◌, inl, inr, arith, length-append, length-drop, subst}
use Rattle.std.proofs.lemmas.List.{append-nil, take-append-drop, take_all, length-take, nil_from_length}
use Rattle.envy_io.specs.declared.source.Failed.{Failed as NoBytes}
use Rattle.envy_io.specs.declared.lines.read_outcome.ReadOutcome.TheVariants.{Whole, Short, Failed, Spent}
use Rattle.envy_io.specs.Streams.{Feed, IsDry, with_front}
use Rattle.envy_io.specs.Taking.{Taking}
use Rattle.envy_io.specs.Fetching.{HasFront, NextBytes, Pulls}
use Rattle.envy_io.proofs.Counts.{Rises-after}
use Rattle.envy_io.proofs.TakesLemmas.{with_front-nil}
use Rattle.envy_io.proofs.Fetched.{Fetched}

-- before the source is asked
pub Fetched-none : (old new : Taking) (from : Feed) (into : List ℕ) (count : ℕ) → HasFront old into count new → Fetched old from into count new from
Fetched-none old new from into count h =
    let ended : new.ended ≡ old.ended = ap (λ (t : Taking). t.ended) h.same in
    let held : new.held ≡ drop count old.held = ap (λ (t : Taking). t.held) h.same in
    record {
      got = [];
      draws = record {
        cap = ap (λ (t : Taking). t.cap) h.same;
        taken = omega (arith, ap (λ (t : Taking). t.taken) h.same);
        within = h.within;
        left = sym (with_front-nil from.left);
        faults = omega arith;
        ended = λ is. (ended ∙ is, refl);
        dry = λ dry is. dry (sym ended ∙ is);
        below = h.below;
      };
      all = append-nil old.held ∙ (sym (take-append-drop count old.held) ∙ ap₂ ◌++◌ (sym h.front) (sym held));
      within = omega (arith, h.least);
      none = λ more. elim more [
        | inl room ↦ held ∙ nil_from_length (drop count old.held) (omega (arith, h.least, room, length-drop count old.held))
        | inr some ↦ absurd (omega (arith, some))
      ];
    }

module _ (old mid : Taking) (from feed : Feed) (into : List ℕ) (count : ℕ) (f : Fetched old from into count mid feed) where
  long : length (old.held ++ f.got) ≡ length (take count into) + length mid.held
  long = ap length f.all ∙ length-append (take count into) mid.held

  module _ (room : count < length into) where
    pub none-held : mid.held ≡ []
    none-held = f.none (inl room)

    few : length (old.held ++ f.got) < length into
    few = omega (arith, long, ap length none-held, length-take count into, room)

    pub Short-bytes : IsTrue mid.ended → NextBytes old from Short into mid feed
    Short-bytes ended = record { got = f.got; draws = f.draws; fetches = (record { few = few; used = none-held }, ended); no_more = inr (omega (arith, few)) }

    pub Spent-bytes : mid.ended ≡ false → mid.taken ≡ mid.cap → NextBytes old from Spent into mid feed
    Spent-bytes going full = record { got = f.got; draws = f.draws; fetches = (record { few = few; used = none-held }, going, full); no_more = inr (omega (arith, few)) }

    pub Failed-bytes : mid.ended ≡ false → mid.taken ≢ mid.cap → (after : List ℕ) → length after ≡ length into → (new : Taking) (to : Feed) (failed : NoBytes) → Pulls mid feed into count (Err failed) after new to → NextBytes old from Failed after new to
    Failed-bytes going below after same new to failed (stays, left, rises) =
        subst (λ (t : Taking). NextBytes old from Failed after t to) (sym stays) (record {
          got = f.got;
          draws = record {
            cap = f.draws.cap;
            taken = f.draws.taken;
            within = f.draws.within;
            left = f.draws.left ∙ ap (with_front f.got) (sym left);
            faults = omega (arith, f.draws.faults, rises.kept);
            ended = f.draws.ended;
            dry = λ dry is. subst IsDry (sym left) (f.draws.dry dry is);
            below = f.draws.below;
          };
          fetches = (record { few = omega (arith, few, same); used = none-held }, going, omega (arith, below, f.draws.within), Rises-after from.faults feed.faults to.faults f.draws.faults rises);
          no_more = inr (omega (arith, few, same));
        })

    pub Failed-held : (after : List ℕ) (new : Taking) (to : Feed) (failed : NoBytes) → Pulls mid feed into count (Err failed) after new to → new.held ≡ []
    Failed-held after new to failed (stays, left, rises) = ap (λ (t : Taking). t.held) stays ∙ none-held

  module _ (full : length into ≤ count) where
    all-into : old.held ++ f.got ≡ into ++ mid.held
    all-into = f.all ∙ ap (λ (bytes : List ℕ). bytes ++ mid.held) (take_all count into full)

    no-more : (got : List ℕ) → got ≡ f.got → (got ≡ []) ⊎ (length (old.held ++ f.got) ≤ length into)
    no-more [] is = inl refl
    no-more (b ∷ bytes) is = inr (omega (arith, long, length-take count into, ap length (f.none (inr (omega (arith, ap length is))))))

    pub Whole-bytes : NextBytes old from Whole into mid feed
    Whole-bytes = record { got = f.got; draws = f.draws; fetches = all-into; no_more = no-more f.got refl }

    none-over : (got : List ℕ) → got ≡ f.got → old.held ≡ [] → mid.held ≡ []
    none-over [] is none = nil_from_length mid.held (omega (arith, ap length none, ap length is, ap length all-into, length-append old.held f.got, length-append into mid.held))
    none-over (b ∷ bytes) is none = f.none (inr (omega (arith, ap length is)))

    pub Whole-held : old.held ≡ [] → mid.held ≡ []
    Whole-held = none-over f.got refl

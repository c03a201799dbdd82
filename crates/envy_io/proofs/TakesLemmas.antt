-- What several askings take together.
use Rattle.std.proofs.Common.{◌≡◌, ◌⊎◌, ℕ, ◌+◌, ◌-◌, ◌<◌, ◌≤◌, Bool, true, false, cond, IsTrue, List, [], ◌++◌, length, Option, Some, None, refl, ap, sym, ◌∙◌, inl, inr, arith, length-append, subst}
use Rattle.std.proofs.lemmas.Bool.{false≢true}
use Rattle.std.proofs.lemmas.List.{append_assoc, append-nil}
use Rattle.envy_io.specs.Streams.{Feed, IsDry, Rises, with_front}
use Rattle.envy_io.specs.Taking.{Taking, Wants, IsOpen}
use Rattle.envy_io.specs.Asking.{Asks, Gathers}

pub with_front-nil : (left : Option (List ℕ)) → with_front [] left ≡ left
with_front-nil None = refl
with_front-nil (Some bytes) = refl

pub with_front-with_front : (a b : List ℕ) (left : Option (List ℕ)) → with_front a (with_front b left) ≡ with_front (a ++ b) left
with_front-with_front a b None = refl
with_front-with_front a b (Some bytes) = ap Some (sym (append_assoc a b bytes))

-- a measure of how often the source may still be asked
unfoldable pub askings : Taking → ℕ
askings t = t.cap - t.taken + cond t.ended 0 1

-- one piece more is gathered
pub Gathers-more : (old mid new : Taking) (from feed to : Feed) (piece : List ℕ) → Gathers old from mid feed → Wants mid → Asks mid feed piece new to → Gathers old from new to
Gathers-more old mid new from feed to piece g wants asks =
    let not_ended : IsTrue old.ended → ⊥ = λ ended. false≢true (sym wants.going ∙ (g.takes.ended ended).0) in
    record {
      got = g.got ++ piece;
      takes = record {
        cap = asks.cap ∙ g.takes.cap;
        taken = omega (arith, asks.taken, g.takes.taken, length-append g.got piece);
        within = asks.within;
        left = g.takes.left ∙ (ap (with_front g.got) asks.left ∙ with_front-with_front g.got piece to.left);
        faults = omega (arith, g.takes.faults, asks.faults);
        ended = λ ended. absurd (not_ended ended);
        dry = λ dry. asks.dry;
        below = asks.below;
        needed = inr (g.got, piece, refl, subst IsOpen g.held wants.line, asks.few);
      };
      held = asks.held ∙ (ap (λ (bytes : List ℕ). bytes ++ piece) g.held ∙ append_assoc old.held g.got piece);
    }

nothing-gathered : (t : Taking) (feed : Feed) → t.taken ≤ t.cap → (IsTrue t.ended → t.taken < t.cap) → Gathers t feed t feed
nothing-gathered t feed within below = record {
  got = [];
  takes = record {
    cap = refl;
    taken = omega arith;
    within = within;
    left = sym (with_front-nil feed.left);
    faults = omega arith;
    ended = λ ended. (ended, refl);
    dry = λ dry. dry;
    below = below;
    needed = inl refl;
  };
  held = sym (append-nil t.held);
}

-- before the source is asked. The state is seen twice, by its parts and as it was told
pub Gathers-none : (seen old : Taking) (feed : Feed) → seen ≡ old → seen.taken ≤ seen.cap → (IsTrue seen.ended → seen.taken < seen.cap) → Gathers old feed old feed
Gathers-none seen old feed is within below = subst (λ (t : Taking). Gathers t feed t feed) is (nothing-gathered seen feed within below)

-- a source that fails gives nothing
pub Gathers-failed : (old mid new : Taking) (from feed to : Feed) → Gathers old from mid feed → new ≡ mid → to.left ≡ feed.left → Rises feed.faults to.faults → Gathers old from new to
Gathers-failed old mid new from feed to g same left rises = subst (λ (t : Taking). Gathers old from t to) (sym same) (record {
  got = g.got;
  takes = record {
    cap = g.takes.cap;
    taken = g.takes.taken;
    within = g.takes.within;
    left = g.takes.left ∙ ap (with_front g.got) (sym left);
    faults = omega (arith, g.takes.faults, rises.kept);
    ended = g.takes.ended;
    dry = λ dry is. subst IsDry (sym left) (g.takes.dry dry is);
    below = g.takes.below;
    needed = g.takes.needed;
  };
  held = g.held;
})

-- what can still be asked for gets less
pub fewer : (cap new_cap taken new_taken n : ℕ) (ended new_ended : Bool) → ended ≡ false → taken < cap → new_cap ≡ cap → new_taken ≡ taken + n → IsTrue new_ended ⊎ (0 < n) → new_cap - new_taken + cond new_ended 0 1 < cap - taken + cond ended 0 1
fewer cap new_cap taken new_taken n true new_ended going below caps more goes = absurd (false≢true (sym going))
fewer cap new_cap taken new_taken n false true going below caps more goes = omega arith
fewer cap new_cap taken new_taken n false false going below caps more (inl ended) = absurd (false≢true ended)
fewer cap new_cap taken new_taken n false false going below caps more (inr some) = omega arith

pub askings-fewer : (old new : Taking) (from to : Feed) (piece : List ℕ) → Wants old → Asks old from piece new to → askings new < askings old
unfolding askings
askings-fewer old new from to piece wants asks =
    fewer old.cap new.cap old.taken new.taken (length piece) old.ended new.ended wants.going wants.below asks.cap asks.taken asks.goes

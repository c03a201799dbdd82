-- Calls on a second file, during which the file stays as it is, and a last one that puts the second in its place.
use Rattle.std.proofs.Common.{◌≡◌, ◌⊎◌, ◌∙◌, inl, inr, ⊎_elim, refl, ℕ, Bool, List}
use Rattle.envy_device.specs.Device.{Elapses, LeavesOnly}
use Rattle.envy_journal.specs.Snapshot.{IsUntouched}
use Rattle.envy_journal.proofs.Moments.{started, goes_on, widened, joined}

module _ {D : Type 0} (seen : D → List ℕ) (may_leave : D → List ℕ → Type 0) (moment : D → ℕ) (left_since : D → ℕ → List ℕ → Type 0) (last : D → ℕ) (bytewise : D → Bool) where
  -- no call
  pub untouched_none : (old : D) → ((c : List ℕ) → left_since old (moment old) c → may_leave old c) → IsUntouched seen may_leave moment left_since last bytewise old old
  untouched_none old only_now = record { file = refl; last = refl; trusted = refl; fewer = λ c left. left; moments = started moment left_since old (may_leave old) only_now }

  -- one call
  pub untouched_call : (old new : D) → seen new ≡ seen old → last new ≡ last old → bytewise new ≡ bytewise old → ((c : List ℕ) → left_since old (moment old) c → may_leave old c) → ((c : List ℕ) → may_leave new c → may_leave old c)
      → Elapses (moment old) (moment new) (left_since old) (left_since new) (may_leave new) → IsUntouched seen may_leave moment left_since last bytewise old new
  untouched_call old new same was how only_now crash time = record {
    file = same;
    last = was;
    trusted = how;
    fewer = crash;
    moments = goes_on moment left_since old old new (may_leave old) (may_leave new) (started moment left_since old (may_leave old) only_now) time crash;
  }

  -- and more
  pub untouched_both : (old mid new : D) → IsUntouched seen may_leave moment left_since last bytewise old mid → IsUntouched seen may_leave moment left_since last bytewise mid new → IsUntouched seen may_leave moment left_since last bytewise old new
  untouched_both old mid new a b = record {
    file = b.file ∙ a.file;
    last = b.last ∙ a.last;
    trusted = b.trusted ∙ a.trusted;
    fewer = λ c left. a.fewer c (b.fewer c left);
    moments = joined moment left_since old mid new (may_leave old) a.moments (widened moment left_since mid new (may_leave mid) (may_leave old) b.moments a.fewer);
  }

  -- the second file takes the place
  pub replaced : (old new : D) (second : List ℕ) → ((c : List ℕ) → left_since old (moment old) c → may_leave old c) → ((c : List ℕ) → may_leave new c → may_leave old c ⊎ c ≡ second)
      → Elapses (moment old) (moment new) (left_since old) (left_since new) (may_leave new) → LeavesOnly moment left_since old new (λ c. may_leave old c ⊎ c ≡ second)
  replaced old new second only_now crash time =
      goes_on moment left_since old old new (λ c. may_leave old c ⊎ c ≡ second) (may_leave new) (started moment left_since old (λ c. may_leave old c ⊎ c ≡ second) (λ c left. inl (only_now c left))) time crash

  -- what was left before it, or what has Q
  pub then_replaced : (old mid new : D) (P Q : List ℕ → Type 0) → IsUntouched seen may_leave moment left_since last bytewise old mid → LeavesOnly moment left_since mid new (λ c. may_leave mid c ⊎ P c)
      → ((c : List ℕ) → P c → Q c) → LeavesOnly moment left_since old new (λ c. may_leave old c ⊎ Q c)
  then_replaced old mid new P Q a b goes =
      joined moment left_since old mid new (λ c. may_leave old c ⊎ Q c)
      (widened moment left_since old mid (may_leave old) (λ c. may_leave old c ⊎ Q c) a.moments (λ c left. inl left))
      (widened moment left_since mid new (λ c. may_leave mid c ⊎ P c) (λ c. may_leave old c ⊎ Q c) b (λ c left. ⊎_elim (λ was. inl (a.fewer c was)) (λ now. inr (goes c now)) left))

-- A log whose held bytes are dropped: its file is cut behind the closed gate, and synced.
use Rattle.std.proofs.Common.{◌≡◌, ⊎_elim, ℕ, ◌+◌, ◌-◌, ◌≤◌, Bool, List, [], ◌∷◌, ◌++◌, length, take, replicate, refl, sym, ◌∙◌, ap, subst, arith, length-append, length-take}
use Rattle.std.proofs.lemmas.List.{take-take, take_all, take_at, drop_all}
use Rattle.envy_device.specs.Device.{Cut, Elapses, Follows, LeavesOnly, Only}
use Rattle.envy_journal.specs.Condensed.{StaysKept}
use Rattle.envy_journal.specs.Held.{most_held}
use Rattle.envy_journal.specs.declared.log.Log.{Log}
use Rattle.envy_journal.specs.Log.{Begins, HasRuns, IsCounted, IsSound, kept_bytes, held_bytes}
use Rattle.envy_journal.proofs.Batches.{counted_none, none_held}
use Rattle.envy_journal.proofs.Moments.{goes_on, joined, started}
use Rattle.envy_journal.proofs.Spilled.{kept_length}

-- what a cut leaves of a file begins as the file does, if it is no longer than the cut one
cut_begins : (f d c : List ℕ) (n : ℕ) → length f ≡ n → Begins f d → Cut n d c → Begins f c
cut_begins f d c n is begins cut =
    let le : length f ≤ length d = omega (arith, ap length begins, length-take {A = ℕ}) in
    ap (λ (l : List ℕ). take (length f) l) (sym cut.front) ∙ take-take (length f) (length c) d (omega (arith, cut.no_shorter, is, le)) ∙ begins

module _ {D : Type 0} (seen : D → List ℕ) (may_leave : D → List ℕ → Type 0) (moment : D → ℕ) (left_since : D → ℕ → List ℕ → Type 0) (last : D → ℕ) where
  -- what was left since the last sync, and what one call more leaves
  tied_call : (old new : D) (f : List ℕ) → ((c : List ℕ) → left_since old (last old) c → Begins f c) → Elapses (moment old) (moment new) (left_since old) (left_since new) (may_leave new)
      → last new ≡ last old → last old ≤ moment old → ((c : List ℕ) → may_leave new c → Begins f c) → (c : List ℕ) → left_since new (last new) c → Begins f c
  tied_call old new f was time same le now c left = ⊎_elim (was c) (now c) (time.nothing_else (last old) c le (subst (λ (n : ℕ). left_since new n c) same left))

  -- no call
  pub stays_none : (log : Log D) → IsSound seen may_leave left_since last log → ((c : List ℕ) → left_since log.device (moment log.device) c → may_leave log.device c) → StaysKept seen moment left_since last log log
  stays_none log s only_now = record { kept = refl; tied = s.tied; moments = started moment left_since log.device (Begins (kept_bytes seen log ++ 0 ∷ [])) (λ c left. s.durable c (only_now c left)) }

  -- one after another
  pub stays_both : (a b c : Log D) → StaysKept seen moment left_since last a b → StaysKept seen moment left_since last b c → StaysKept seen moment left_since last a c
  stays_both a b c first second = record {
    kept = second.kept ∙ first.kept;
    tied = second.tied;
    moments = joined moment left_since a.device b.device c.device (Begins (kept_bytes seen a ++ 0 ∷ [])) first.moments
        (subst (λ (l : List ℕ). LeavesOnly moment left_since b.device c.device (Begins (l ++ 0 ∷ []))) first.kept second.moments);
  }

  module _ (log : Log D) (s : IsSound seen may_leave left_since last log) (only_now : (c : List ℕ) → left_since log.device (moment log.device) c → may_leave log.device c) (before : last log.device ≤ moment log.device) where
    abbrev f : List ℕ
    f = kept_bytes seen log ++ 0 ∷ []

    f_long : length f ≡ log.gate + 1
    f_long = omega (arith, length-append (kept_bytes seen log) (0 ∷ []), kept_length seen may_leave left_since last log s)

    front : take (log.gate + 1) (seen log.device) ≡ f
    front = ap (λ (n : ℕ). take n (seen log.device)) (sym f_long) ∙ s.closed

    file_front : (l : List ℕ) → Begins f l → take log.gate l ≡ kept_bytes seen log
    file_front l begins =
        sym (take-take log.gate (log.gate + 1) l (omega arith))
        ∙ ap (λ (m : List ℕ). take log.gate m) (ap (λ (n : ℕ). take n l) (sym f_long) ∙ begins)
        ∙ take_at (kept_bytes seen log) (0 ∷ []) log.gate (kept_length seen may_leave left_since last log s)

    stays_as : (new : Log D) → new.gate ≡ log.gate → Begins f (seen new.device) → ((c : List ℕ) → left_since new.device (last new.device) c → Begins f c) → LeavesOnly moment left_since log.device new.device (Begins f) → StaysKept seen moment left_since last log new
    stays_as new gate begins tied moments =
        let kept : kept_bytes seen new ≡ kept_bytes seen log = ap (λ (n : ℕ). take n (seen new.device)) gate ∙ file_front (seen new.device) begins in
        record {
          kept = kept;
          tied = subst (λ (l : List ℕ). (c : List ℕ) → left_since new.device (last new.device) c → Begins (l ++ 0 ∷ []) c) (sym kept) tied;
          moments = moments;
        }

    -- the file is cut, or it was to be
    module _ (device : D) (crash : Follows (Cut (log.gate + 1)) (may_leave log.device) (may_leave device)) (time : Elapses (moment log.device) (moment device) (left_since log.device) (left_since device) (may_leave device)) (same : last device ≡ last log.device) where
      cut_leaves : (c : List ℕ) → may_leave device c → Begins f c
      cut_leaves c left = let from = crash c left in cut_begins f from.0 c (log.gate + 1) f_long (s.durable from.0 from.1) from.2

      cut_moments : LeavesOnly moment left_since log.device device (Begins f)
      cut_moments = goes_on moment left_since log.device log.device device (Begins f) (may_leave device) (started moment left_since log.device (Begins f) (λ c left. s.durable c (only_now c left))) time cut_leaves

      cut_tied : (c : List ℕ) → left_since device (last device) c → Begins f c
      cut_tied = tied_call log.device device f s.tied time same before cut_leaves

      -- what is kept stays where the cut fails
      pub stays_cut : Cut (log.gate + 1) (seen log.device) (seen device) → (fits : log.used ≤ length log.buffer.items) (few : length log.buffer.items ≤ most_held) → StaysKept seen moment left_since last log (record log { device = device; fits = fits; few = few })
      stays_cut cut fits few = stays_as (record log { device = device; fits = fits; few = few }) refl (cut_begins f (seen log.device) (seen device) (log.gate + 1) f_long s.closed cut) cut_tied cut_moments

      -- behind it the file is synced, or it was to be
      module _ (next : D) (cut : seen device ≡ take (log.gate + 1) (seen log.device)) (file : seen next ≡ seen device) (fewer : (c : List ℕ) → may_leave next c → may_leave device c)
          (then_time : Elapses (moment device) (moment next) (left_since device) (left_since next) (may_leave next)) where
        now_is : seen next ≡ f
        now_is = file ∙ cut ∙ front

        begins : Begins f (seen next)
        begins = ap (λ (l : List ℕ). take (length f) l) now_is ∙ take_all (length f) f (omega arith)

        next_leaves : (c : List ℕ) → may_leave next c → Begins f c
        next_leaves c left = cut_leaves c (fewer c left)

        next_moments : LeavesOnly moment left_since log.device next (Begins f)
        next_moments = goes_on moment left_since log.device device next (Begins f) (may_leave next) cut_moments then_time next_leaves

        -- what is kept stays where the sync fails,
        pub stays_unsynced : last next ≡ last device → last device ≤ moment device → (fits : log.used ≤ length log.buffer.items) (few : length log.buffer.items ≤ most_held) → StaysKept seen moment left_since last log (record log { device = next; fits = fits; few = few })
        stays_unsynced still no_later fits few = stays_as (record log { device = next; fits = fits; few = few }) refl begins (tied_call device next f cut_tied then_time still no_later next_leaves) next_moments

        -- and where it is done nothing else is there
        module _ (only : Only (seen device) (may_leave next)) (synced : last next ≡ moment next) (next_now : (c : List ℕ) → left_since next (moment next) c → may_leave next c) (fits : 0 ≤ length log.buffer.items) (few : length log.buffer.items ≤ most_held) where
          abbrev new : Log D
          new = record log { device = next; end = log.gate + 1; size = log.gate + 1; used = 0; zeros = 0; fits = fits; few = few }

          pub stays_synced : StaysKept seen moment left_since last log new
          stays_synced = stays_as new refl begins (λ c left. next_leaves c (next_now c (subst (λ (n : ℕ). left_since next n c) synced left))) next_moments

          pub none_synced : held_bytes seen new ≡ []
          none_synced = none_held seen new refl refl

          pub sound_synced : IsSound seen may_leave left_since last new
          sound_synced =
              let stays = stays_synced in
              let here : (c : List ℕ) → Begins f c → Begins (kept_bytes seen new ++ 0 ∷ []) c = λ c is. subst (λ (l : List ℕ). Begins (l ++ 0 ∷ []) c) (sym stays.kept) is in
              record {
                gate = omega arith;
                end = omega arith;
                size = ap length now_is ∙ f_long;
                ahead = drop_all (log.gate + 1) (seen next) (omega (arith, ap length now_is, f_long)) ∙ ap (λ (n : ℕ). replicate n 0) {x = 0} {y = log.gate + 1 - (log.gate + 1)} (omega arith);
                closed = here (seen next) begins;
                durable = λ c left. here c (next_leaves c left);
                tied = stays.tied;
                room = omega (arith, s.room);
              }

          pub counted_synced : (bytewise : D → Bool) → IsCounted seen may_leave bytewise log → IsCounted seen may_leave bytewise new
          counted_synced bytewise k =
              counted_none seen may_leave bytewise new none_synced refl (λ c left. only c left ∙ sym file) refl
              (λ may. let stays = stays_synced in subst (λ (l : List ℕ). HasRuns l) (sym stays.kept) (k.runs may))

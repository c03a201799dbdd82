-- A log whose file is longer by zeros.
use Rattle.std.proofs.Common.{◌≡◌, ℕ, ◌+◌, ◌-◌, ◌≤◌, Bool, IsTrue, List, [], ◌∷◌, ◌++◌, length, take, drop, replicate, refl, sym, ◌∙◌, ap, subst, arith, length-append}
use Rattle.std.proofs.lemmas.List.{replicate-append-replicate, take-take, drop-append-le, get_or_past}
use Rattle.envy_device.specs.Device.{Holds, LeavesOnly, Mixed, Torn, Follows, Elapses}
use Rattle.envy_journal.specs.declared.log.Log.{Log}
use Rattle.envy_journal.specs.Log.{Begins, HasRuns, IsCounted, IsLonger, IsSound, IsTied, kept_bytes, held_bytes, log_bytes}
use Rattle.envy_journal.specs.Reading.{are_operations, zeros as zeros_of}
use Rattle.envy_journal.proofs.Bytes.{front_follows, front_same, written_behind}
use Rattle.envy_journal.proofs.Mixed.{left_mixed}
use Rattle.envy_journal.proofs.Moments.{goes_on, joined, started}
use Rattle.envy_journal.proofs.Spilled.{front_length, inside, kept_front, tied_on}

module _ {D : Type 0} (seen : D → List ℕ) (may_leave : D → List ℕ → Type 0) (moment : D → ℕ) (left_since : D → ℕ → List ℕ → Type 0) (last : D → ℕ) (bytewise : D → Bool) (syncs : D → ℕ) where
  -- what is kept stays
  pub kept_longer : (old new : Log D) → IsSound seen may_leave left_since last old → IsLonger seen moment left_since last bytewise syncs old new → kept_bytes seen new ≡ kept_bytes seen old
  kept_longer old new s is =
      let le : old.gate ≤ old.end = omega (arith, s.gate) in
      ap (λ (n : ℕ). take n (seen new.device)) is.gate
      ∙ sym (take-take old.gate old.end (seen new.device) le)
      ∙ ap (λ (n : ℕ). take old.gate (take n (seen new.device))) (sym is.end)
      ∙ ap (λ (l : List ℕ). take old.gate l) is.front
      ∙ take-take old.gate old.end (seen old.device) le

  -- and so does what is held
  pub held_longer : (old new : Log D) → IsLonger seen moment left_since last bytewise syncs old new → held_bytes seen new ≡ held_bytes seen old
  held_longer old new is =
      ap (λ (n : ℕ). drop (n + 1) (log_bytes seen new) ++ take new.used new.buffer.items) is.gate
      ∙ ap (λ (l : List ℕ). drop (old.gate + 1) l ++ take new.used new.buffer.items) is.front
      ∙ ap (λ (n : ℕ). drop (old.gate + 1) (log_bytes seen old) ++ take n new.buffer.items) is.used
      ∙ ap (λ (l : List ℕ). drop (old.gate + 1) (log_bytes seen old) ++ take old.used l) is.buffer

  -- no call
  pub longer_none : (log : Log D) → IsSound seen may_leave left_since last log → ((c : List ℕ) → left_since log.device (moment log.device) c → may_leave log.device c) → IsLonger seen moment left_since last bytewise syncs log log
  longer_none log s only_now = record {
    gate = refl;
    end = refl;
    used = refl;
    buffer = refl;
    zeros = refl;
    latest = refl;
    runs = refl;
    front = refl;
    within = inside seen may_leave left_since last log s;
    premise = refl;
    no_sync = refl;
    tied = s.tied;
    moments = started moment left_since log.device (Begins (kept_bytes seen log ++ 0 ∷ [])) (λ c left. s.durable c (only_now c left));
  }

  -- one time after another
  pub longer_both : (a b c : Log D) → IsSound seen may_leave left_since last a → IsLonger seen moment left_since last bytewise syncs a b → IsLonger seen moment left_since last bytewise syncs b c → IsLonger seen moment left_since last bytewise syncs a c
  longer_both a b c s first second = record {
    gate = second.gate ∙ first.gate;
    end = second.end ∙ first.end;
    used = second.used ∙ first.used;
    buffer = second.buffer ∙ first.buffer;
    zeros = second.zeros ∙ first.zeros;
    latest = second.latest ∙ first.latest;
    runs = second.runs ∙ first.runs;
    front = second.front ∙ first.front;
    within = omega (arith, second.within, first.end);
    premise = second.premise ∙ first.premise;
    no_sync = second.no_sync ∙ first.no_sync;
    tied = second.tied;
    moments = joined moment left_since a.device b.device c.device (Begins (kept_bytes seen a ++ 0 ∷ [])) first.moments
        (subst (λ (l : List ℕ). LeavesOnly moment left_since b.device c.device (Begins (l ++ 0 ∷ []))) (kept_longer a b s first) second.moments);
  }

  module _ (log : Log D) (s : IsSound seen may_leave left_since last log) where
    abbrev f : List ℕ
    f = kept_bytes seen log ++ 0 ∷ []

    f_long : length f ≤ log.size
    f_long = omega (arith, front_length seen may_leave left_since last log s, s.end)

    -- a write at the end of the file, done or torn
    module _ (new : Log D) (n : ℕ) (gate : new.gate ≡ log.gate) (end : new.end ≡ log.end) (used : new.used ≡ log.used) (buffer : new.buffer.items ≡ log.buffer.items) (zeros : new.zeros ≡ log.zeros) (latest : new.latest ≡ log.latest) (runs : new.runs ≡ log.runs)
        (torn : Torn log.size n (seen log.device) (seen new.device)) (crash : Follows (Torn log.size n) (may_leave log.device) (may_leave new.device))
        (time : Elapses (moment log.device) (moment new.device) (left_since log.device) (left_since new.device) (may_leave new.device)) (was : last new.device ≡ last log.device) (before : last log.device ≤ moment log.device)
        (only_now : (c : List ℕ) → left_since log.device (moment log.device) c → may_leave log.device c) (how : bytewise new.device ≡ bytewise log.device) (often : syncs new.device ≡ syncs log.device) where
      front_stays : log_bytes seen new ≡ log_bytes seen log
      front_stays =
          ap (λ (k : ℕ). take k (seen new.device)) end
          ∙ sym (take-take log.end log.size (seen new.device) s.end)
          ∙ ap (λ (l : List ℕ). take log.end l) torn.before
          ∙ take-take log.end log.size (seen log.device) s.end

      kept_stays : kept_bytes seen new ≡ kept_bytes seen log
      kept_stays =
          let le : log.gate ≤ log.end = omega (arith, s.gate) in
          ap (λ (k : ℕ). take k (seen new.device)) gate
          ∙ sym (take-take log.gate log.end (seen new.device) le)
          ∙ ap (λ (k : ℕ). take log.gate (take k (seen new.device))) (sym end)
          ∙ ap (λ (l : List ℕ). take log.gate l) front_stays
          ∙ sym (kept_front seen may_leave left_since last log s)

      durable : (c : List ℕ) → may_leave new.device c → Begins f c
      durable = front_follows f log.size n (may_leave log.device) (may_leave new.device) f_long s.durable crash

      tied : IsTied seen left_since last new
      tied = subst (λ (l : List ℕ). (c : List ℕ) → left_since new.device (last new.device) c → Begins (l ++ 0 ∷ []) c) (sym kept_stays) (tied_on seen may_leave left_since last log s new.device moment f s.tied time was before durable)

      -- the log stays
      pub longer_call : IsLonger seen moment left_since last bytewise syncs log new
      longer_call = record {
        gate = gate;
        end = end;
        used = used;
        buffer = buffer;
        zeros = zeros;
        latest = latest;
        runs = runs;
        front = front_stays;
        within = omega (arith, torn.no_shorter, inside seen may_leave left_since last log s);
        premise = how;
        no_sync = often;
        tied = tied;
        moments = goes_on moment left_since log.device log.device new.device (Begins f) (may_leave new.device) (started moment left_since log.device (Begins f) (λ c left. s.durable c (only_now c left))) time durable;
      }

      -- these zeros are at the end of the file
      module _ (bytes : List ℕ) (many : n ≡ length bytes) (blank : bytes ≡ replicate n 0) (size : new.size ≡ log.size + n) (holds : Holds (seen log.device) log.size bytes (seen new.device)) where
        now : seen new.device ≡ seen log.device ++ bytes
        now = written_behind (seen log.device) bytes (seen new.device) log.size s.size holds

        pub sound_longer : IsSound seen may_leave left_since last new
        sound_longer = record {
          gate = omega (arith, s.gate, gate, end);
          end = omega (arith, s.end, end, size);
          size = ap length now ∙ omega (arith, length-append (seen log.device) bytes, s.size, size, many);
          ahead =
              ap (λ (k : ℕ). drop k (seen new.device)) end
              ∙ ap (λ (l : List ℕ). drop log.end l) now
              ∙ drop-append-le log.end (seen log.device) bytes (inside seen may_leave left_since last log s)
              ∙ ap (λ (l : List ℕ). l ++ bytes) s.ahead
              ∙ ap (λ (l : List ℕ). replicate (log.size - log.end) 0 ++ l) blank
              ∙ replicate-append-replicate (log.size - log.end) n 0
              ∙ ap (λ (k : ℕ). replicate k 0) (let fits = s.end in omega (arith, size, end));
          closed = subst (λ (l : List ℕ). Begins (l ++ 0 ∷ []) (seen new.device)) (sym kept_stays) (front_same f (seen log.device) (seen new.device) log.size f_long torn.before s.closed);
          durable = subst (λ (l : List ℕ). (c : List ℕ) → may_leave new.device c → Begins (l ++ 0 ∷ []) c) (sym kept_stays) durable;
          tied = tied;
          room = omega (arith, s.room, used, ap length buffer);
        }

        pub counted_longer : IsCounted seen may_leave bytewise log → (IsTrue (bytewise log.device) → Follows (Mixed log.size bytes) (may_leave log.device) (may_leave new.device)) → IsCounted seen may_leave bytewise new
        counted_longer k mixed = record {
          whole = ap (λ (l : List ℕ). are_operations 0 l) (held_longer log new longer_call) ∙ k.whole;
          left = λ on c may.
              let on_before = sym how ∙ on in
              let from = mixed on_before c may in
              left_mixed (seen log.device) bytes (seen new.device) from.0 c log.size (omega (arith, s.size)) holds (λ j lt. get_or_past (seen log.device) (log.size + j) 0 (omega (arith, s.size))) (k.left on_before from.0 from.1) from.2;
          count = λ on.
              zeros
              ∙ k.count (sym how ∙ on)
              ∙ ap (λ (l : List ℕ). zeros_of (drop (log.gate + 1) l)) (sym front_stays)
              ∙ ap (λ (k : ℕ). zeros_of (drop (k + 1) (log_bytes seen new))) (sym gate);
          latest = λ lt.
              ap (λ (n : ℕ). are_operations 0 (drop (n + 1) (log_bytes seen new) ++ take new.latest new.buffer.items)) gate
              ∙ ap (λ (l : List ℕ). are_operations 0 (drop (log.gate + 1) l ++ take new.latest new.buffer.items)) front_stays
              ∙ ap (λ (n : ℕ). are_operations 0 (drop (log.gate + 1) (log_bytes seen log) ++ take n new.buffer.items)) latest
              ∙ ap (λ (l : List ℕ). are_operations 0 (drop (log.gate + 1) (log_bytes seen log) ++ take log.latest l)) buffer
              ∙ k.latest (omega (arith, lt, latest, used));
          runs = λ may. subst (λ (l : List ℕ). HasRuns l) (sym kept_stays) (k.runs (sym runs ∙ may));
        }

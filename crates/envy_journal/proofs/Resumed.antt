-- A log that goes on: its buffer was spilled, or it carried the bytes of a second file that failed.
use Rattle.std.proofs.Common.{◌≡◌, ◌⊎◌, inl, ⊎_elim, ℕ, ◌+◌, ◌-◌, ◌≤◌, Bool, true, false, List, [], ◌∷◌, ◌++◌, length, take, drop, replicate, Result, Ok, Err, OnOk, sym, ◌∙◌, ap, subst, arith}
use Rattle.envy_base.specs.declared.shape.Shape.{Shape}
use Rattle.envy_base.specs.State.{State}
use Rattle.envy_device.specs.Device.{LeavesOnly}
use Rattle.envy_journal.specs.declared.log.Log.{Log}
use Rattle.envy_journal.specs.declared.operation.Operation.{Operation}
use Rattle.envy_journal.specs.Content.{holds}
use Rattle.envy_journal.specs.Head.{HasHead, StandsFor}
use Rattle.envy_journal.specs.Journal.{IsAllKept, IsFileOf, IsLogged, done, held, kept}
use Rattle.envy_journal.specs.Log.{Begins, HasRuns, IsCounted, IsLeftOf, IsSound, kept_bytes, held_bytes, log_bytes}
use Rattle.envy_journal.specs.Reading.{are_operations, operations, reading, zeros, Leads}
use Rattle.envy_journal.specs.Snapshot.{IsAside, IsUntouched}
use Rattle.envy_journal.proofs.Logged.{crash_kept}
use Rattle.envy_journal.proofs.Moments.{joined, widened}
use Rattle.envy_journal.proofs.Spilled.{held_long}

module _ {D : Type 0} (seen : D → List ℕ) (may_leave : D → List ℕ → Type 0) (left_since : D → ℕ → List ℕ → Type 0) (last : D → ℕ) where
  -- as much is kept and held
  module _ (log new : Log D) (same : kept_bytes seen new ≡ kept_bytes seen log) (also : held_bytes seen new ≡ held_bytes seen log) where
    pub kept_same : kept seen new ≡ kept seen log
    kept_same = ap operations same

    pub held_same : held seen new ≡ held seen log
    held_same = ap (λ (l : List ℕ). reading true 0 l) also

    pub done_same : done seen new ≡ done seen log
    done_same = ap (λ (p : List Operation). p ++ held seen new) kept_same ∙ ap (λ (p : List Operation). kept seen log ++ p) held_same

    -- so the log is of the same board
    pub logged_same : (s : State) → IsLogged seen may_leave left_since last log s → IsSound seen may_leave left_since last new → length new.buffer.items ≡ length log.buffer.items → IsLogged seen may_leave left_since last new s
    logged_same s is sound room = record {
      sound = sound;
      head = subst (λ (l : List ℕ). HasHead s.shape l) (sym same) is.head;
      kept_whole = subst (λ (l : List ℕ). Leads false 33 l (operations l) false) (sym same) is.kept_whole;
      held_whole = subst (λ (l : List ℕ). Leads true 0 l (reading true 0 l) true) (sym also) is.held_whole;
      content = is.content ∙ ap (λ (p : List Operation). holds s.shape p) (sym done_same);
      room = omega (arith, is.room, room);
    }

  -- a log whose buffer was spilled, and carried other bytes
  module _ (log new : Log D) (s : IsSound seen may_leave left_since last log) (moment : D → ℕ) (bytewise : D → Bool) (aside : IsAside log new) (none : log.used ≡ 0) (empty : new.used ≡ 0)
      (quiet : IsUntouched seen may_leave moment left_since last bytewise log.device new.device) where
    log_same : log_bytes seen new ≡ log_bytes seen log
    log_same = ap (λ (n : ℕ). take n (seen new.device)) aside.end ∙ ap (λ (l : List ℕ). take log.end l) quiet.file

    pub aside_kept : kept_bytes seen new ≡ kept_bytes seen log
    aside_kept = ap (λ (n : ℕ). take n (seen new.device)) aside.gate ∙ ap (λ (l : List ℕ). take log.gate l) quiet.file

    pub aside_held : held_bytes seen new ≡ held_bytes seen log
    aside_held =
        ap (λ (n : ℕ). drop (new.gate + 1) (log_bytes seen new) ++ take n new.buffer.items) empty
        ∙ ap (λ (n : ℕ). drop (n + 1) (log_bytes seen new) ++ []) aside.gate
        ∙ ap (λ (l : List ℕ). drop (log.gate + 1) l ++ []) log_same
        ∙ ap (λ (n : ℕ). drop (log.gate + 1) (log_bytes seen log) ++ take n log.buffer.items) (sym none)

    pub aside_sound : last log.device ≤ moment log.device → 263 ≤ length log.buffer.items → IsSound seen may_leave left_since last new
    aside_sound le room =
        let f = kept_bytes seen log ++ 0 ∷ [] in
        let tied : (c : List ℕ) → left_since new.device (last new.device) c → Begins f c = λ c left.
        (let only = quiet.moments in ⊎_elim (s.tied c) (s.durable c) (only.before (last log.device) c le (subst (λ (n : ℕ). left_since new.device n c) quiet.last left))) in
        record {
          gate = omega (arith, s.gate, aside.gate, aside.end);
          end = omega (arith, s.end, aside.end, aside.size);
          size = ap length quiet.file ∙ s.size ∙ sym aside.size;
          ahead =
              ap (λ (n : ℕ). drop n (seen new.device)) aside.end
              ∙ ap (λ (l : List ℕ). drop log.end l) quiet.file
              ∙ s.ahead
              ∙ ap (λ (n : ℕ). replicate n 0) (omega (arith, aside.end, aside.size));
          closed = subst (λ (l : List ℕ). Begins (l ++ 0 ∷ []) (seen new.device)) (sym aside_kept) (subst (λ (l : List ℕ). Begins f l) (sym quiet.file) s.closed);
          durable = subst (λ (l : List ℕ). (c : List ℕ) → may_leave new.device c → Begins (l ++ 0 ∷ []) c) (sym aside_kept) (λ c may. s.durable c (quiet.fewer c may));
          tied = subst (λ (l : List ℕ). (c : List ℕ) → left_since new.device (last new.device) c → Begins (l ++ 0 ∷ []) c) (sym aside_kept) tied;
          room = omega (arith, empty, room, aside.room);
        }

    pub aside_counted : IsCounted seen may_leave bytewise log → IsCounted seen may_leave bytewise new
    aside_counted k = record {
      whole = ap (λ (l : List ℕ). are_operations 0 l) aside_held ∙ k.whole;
      left = λ on c may. subst (λ (l : List ℕ). IsLeftOf l c) (sym quiet.file) (k.left (sym quiet.trusted ∙ on) c (quiet.fewer c may));
      count = λ on.
          aside.zeros
          ∙ k.count (sym quiet.trusted ∙ on)
          ∙ ap (λ (l : List ℕ). zeros (drop (log.gate + 1) l)) (sym log_same)
          ∙ ap (λ (n : ℕ). zeros (drop (n + 1) (log_bytes seen new))) (sym aside.gate);
      latest = λ lt. absurd (omega (arith, lt, empty));
      runs = λ may. subst (λ (l : List ℕ). HasRuns l) (sym aside_kept) (k.runs (sym aside.runs ∙ may));
    }

  module _ (moment : D → ℕ) where
    -- what a crash leaves meanwhile stands for what is kept
    pub aside_moments : (log new : Log D) (s : State) → IsLogged seen may_leave left_since last log s → LeavesOnly moment left_since log.device new.device (may_leave log.device) → LeavesOnly moment left_since log.device new.device (StandsFor s.shape (kept seen log))
    aside_moments log new s is only =
        let sound = is.sound in
        widened moment left_since log.device new.device (may_leave log.device) (StandsFor s.shape (kept seen log)) only (λ c left. crash_kept seen may_leave left_since last log s is c (sound.durable c left))

-- what is kept now makes what was done before a log was spilled
pub all_kept_from : {D : Type 0} (seen : D → List ℕ) (sh t : Shape) → t ≡ sh → (log mid new : Log D) → done seen mid ≡ done seen log → (was_dead mid_dead dead : Bool) → was_dead ≡ false → IsAllKept seen t mid_dead dead mid new → IsAllKept seen sh was_dead dead log new
all_kept_from seen sh t e log mid new same was_dead mid_dead dead alive is = record {
  alive = alive;
  still_alive = is.still_alive;
  none_held = is.none_held;
  all = is.all;
  same =
      subst (λ (x : Shape). holds x (kept seen new) ≡ holds x (done seen mid)) e is.same
      ∙ ap (λ (p : List Operation). holds sh p) same;
}

-- what holds if a call succeeds
pub on_ok : {T E P : Type 0} → (result : Result T E) → P → OnOk result P
on_ok (Ok x) p = p
on_ok (Err e) p = tt

-- a log that holds nothing ends with its gate
pub ends_idle : {D : Type 0} (seen : D → List ℕ) (may_leave : D → List ℕ → Type 0) (left_since : D → ℕ → List ℕ → Type 0) (last : D → ℕ) (log : Log D) → IsSound seen may_leave left_since last log → held_bytes seen log ≡ [] → (log.end ≡ log.gate + 1) × (log.used ≡ 0)
ends_idle seen may_leave left_since last log s none =
    let few : log.end - (log.gate + 1) + log.used ≡ 0 = sym (held_long seen may_leave left_since last log s) ∙ ap length none in
    (omega (arith, few, s.gate), omega (arith, few))

-- what holds of two clauses at once
pub ok_two : {T E P Q R : Type 0} → (result : Result T E) → OnOk result P → OnOk result Q → (P → Q → R) → OnOk result R
ok_two (Ok x) p q goes = goes p q
ok_two (Err e) p q goes = tt

-- A log that was spilled, and then brought to the disk. Its board stays.
module _ {D : Type 0} (seen : D → List ℕ) (moment : D → ℕ) (left_since : D → ℕ → List ℕ → Type 0) (a b : State) (e : b ≡ a) (log mid new : Log D) (same : kept seen mid ≡ kept seen log)
    (first : LeavesOnly moment left_since log.device mid.device (StandsFor a.shape (kept seen log))) where
  -- what is kept stays,
  pub two_same : LeavesOnly moment left_since mid.device new.device (StandsFor b.shape (kept seen mid)) → LeavesOnly moment left_since log.device new.device (StandsFor a.shape (kept seen log))
  two_same second =
      joined moment left_since log.device mid.device new.device (StandsFor a.shape (kept seen log)) first
      (subst (λ (p : List Operation). LeavesOnly moment left_since mid.device new.device (StandsFor a.shape p)) same (subst (λ (x : State). LeavesOnly moment left_since mid.device new.device (StandsFor x.shape (kept seen mid))) e second))

  -- or is what is kept now,
  pub two_ok : LeavesOnly moment left_since mid.device new.device (λ c. StandsFor b.shape (kept seen mid) c ⊎ StandsFor b.shape (kept seen new) c)
      → LeavesOnly moment left_since log.device new.device (λ c. StandsFor a.shape (kept seen log) c ⊎ StandsFor a.shape (kept seen new) c)
  two_ok second =
      joined moment left_since log.device mid.device new.device (λ c. StandsFor a.shape (kept seen log) c ⊎ StandsFor a.shape (kept seen new) c)
      (widened moment left_since log.device mid.device (StandsFor a.shape (kept seen log)) (λ c. StandsFor a.shape (kept seen log) c ⊎ StandsFor a.shape (kept seen new) c) first (λ c is. inl is))
      (subst (λ (p : List Operation). LeavesOnly moment left_since mid.device new.device (λ c. StandsFor a.shape p c ⊎ StandsFor a.shape (kept seen new) c)) same
      (subst (λ (x : State). LeavesOnly moment left_since mid.device new.device (λ c. StandsFor x.shape (kept seen mid) c ⊎ StandsFor x.shape (kept seen new) c)) e second))

  -- or a file of what the board holds
  pub two_file : LeavesOnly moment left_since mid.device new.device (λ c. StandsFor b.shape (kept seen mid) c ⊎ IsFileOf b c)
      → LeavesOnly moment left_since log.device new.device (λ c. StandsFor a.shape (kept seen log) c ⊎ IsFileOf a c)
  two_file second =
      joined moment left_since log.device mid.device new.device (λ c. StandsFor a.shape (kept seen log) c ⊎ IsFileOf a c)
      (widened moment left_since log.device mid.device (StandsFor a.shape (kept seen log)) (λ c. StandsFor a.shape (kept seen log) c ⊎ IsFileOf a c) first (λ c is. inl is))
      (subst (λ (p : List Operation). LeavesOnly moment left_since mid.device new.device (λ c. StandsFor a.shape p c ⊎ IsFileOf a c)) same
      (subst (λ (x : State). LeavesOnly moment left_since mid.device new.device (λ c. StandsFor x.shape (kept seen mid) c ⊎ IsFileOf x c)) e second))

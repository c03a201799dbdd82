-- A log that is synced once, where its file is written byte by byte: a crash loses bytes of the batch to zeros at most,
-- and then the number behind it is wrong.
use Rattle.std.proofs.Common.{◌≡◌, ◌⊎◌, inl, inr, ℕ, ◌+◌, ◌^◌, ◌<◌, ◌≤◌, Bool, true, false, List, [], ◌∷◌, ◌++◌, length, get_or, take, drop, refl, sym, ◌∙◌, ap, subst, arith, append_assoc, length-append}
use Rattle.std.proofs.lemmas.Bool.{cases_Bool, cases_eq, cases_lt}
use Rattle.std.proofs.lemmas.List.{append-nil, get_or_at, get_or-drop, get_or_past}
use Rattle.std.proofs.lemmas.Nat.{from_le_bytes-to_le_bytes_8}
use Rattle.std.specs.Int.{w64, from_le_bytes}
use Rattle.std.specs.Prelude.{IsTrue}
use Rattle.envy_device.specs.Device.{Holds, Mixed, Torn, Follows}
use Rattle.envy_journal.specs.declared.log.Log.{Log}
use Rattle.envy_journal.specs.Log.{Begins, IsBatch, IsCounted, IsLeftOf, IsSound, kept_bytes, held_bytes, log_bytes}
use Rattle.envy_journal.specs.Reading.{reading, whole, word_bytes, zeros, Rests}
use Rattle.envy_journal.proofs.Batches.{begins_split, counted_batch, ends_at}
use Rattle.envy_journal.proofs.Broken.{rests_none, rests_shut}
use Rattle.envy_journal.proofs.Bytes.{front_follows, gate_written}
use Rattle.envy_journal.proofs.Counting.{fades_from, right, zeros_few}
use Rattle.envy_journal.proofs.Mixed.{behind_gate, either_gate, is_c, left_behind, left_mixed}
use Rattle.envy_journal.proofs.Parsed.{nothing, shut}
use Rattle.envy_journal.proofs.Spilled.{blank, front_length, inside}
use Rattle.envy_journal.proofs.Synced.{P, held_length, long, placed, rest_after}

-- a byte that was a zero is one after a crash
lost_zero : (file c : List ℕ) (i : ℕ) → IsLeftOf file c → get_or file i 0 ≡ 0 → get_or c i 0 ≡ 0
lost_zero file c i left zero = elim (cases_lt i (length c)) [
  | inl lt ↦ elim (cases_eq (get_or c i 0) 0) [
    | inl is ↦ is
    | inr ne ↦ left.each i lt ne ∙ zero
  ]
  | inr past ↦ get_or_past c i 0 past
]

-- nothing counts after a closed gate, nor where there is no byte
closed_first : (l : List ℕ) → get_or l 0 0 ≡ 0 → reading false 0 l ≡ []
closed_first [] is = nothing false
closed_first (x ∷ l) is = ap (λ (y : ℕ). reading false 0 (y ∷ l)) is ∙ shut 0 l refl

closed_rests : (l : List ℕ) → get_or l 0 0 ≡ 0 → Rests l
closed_rests [] is = rests_none
closed_rests (x ∷ l) is = subst (λ (y : ℕ). Rests (y ∷ l)) (sym is) (rests_shut 0 l refl)

module _ {D : Type 0} (seen : D → List ℕ) (may_leave : D → List ℕ → Type 0) (left_since : D → ℕ → List ℕ → Type 0) (last : D → ℕ) (log : Log D) (s : IsSound seen may_leave left_since last log)
    (bytewise : D → Bool) (k : IsCounted seen may_leave bytewise log) (on : IsTrue (bytewise log.device)) (spilled : log.used ≡ 0) (small : log.end < 2 ^ 60) where
  abbrev kept : List ℕ
  kept = kept_bytes seen log

  abbrev held : List ℕ
  held = held_bytes seen log

  abbrev behind : List ℕ
  behind = drop (log.gate + 1) (log_bytes seen log)

  abbrev count : List ℕ
  count = word_bytes log.zeros

  abbrev pub counted : List ℕ
  counted = 6 ∷ held ++ 7 ∷ count

  -- what follows the gate, with these bytes after the batch
  abbrev tail : List ℕ → List ℕ
  tail rest = held ++ 7 ∷ count ++ 0 ∷ rest

  held_is : held ≡ behind
  held_is = ap (λ (n : ℕ). behind ++ take n log.buffer.items) spilled ∙ append-nil behind

  all_zeros : log.zeros ≡ zeros held
  all_zeros = k.count on ∙ ap zeros (sym held_is)

  number : from_le_bytes w64 count ≡ zeros held
  number =
      let few = zeros_few held in
      from_le_bytes-to_le_bytes_8 log.zeros (omega (arith, all_zeros, few, held_length seen may_leave left_since last log s, spilled, small)) ∙ all_zeros

  eight : length count ≡ 8
  eight = refl

  gate_long : length kept ≡ log.gate
  gate_long = long seen may_leave left_since last log s

  -- the end of the batch is written
  module _ (device : D) (bytes : List ℕ) (is : bytes ≡ 7 ∷ count ++ 0 ∷ []) where
    pub ended_torn : Follows (Torn log.end (length bytes)) (may_leave log.device) (may_leave device) → (c : List ℕ) → may_leave device c → Begins (kept ++ 0 ∷ []) c
    ended_torn follows = front_follows (kept ++ 0 ∷ []) log.end (length bytes) (may_leave log.device) (may_leave device) (front_length seen may_leave left_since last log s) s.durable follows

    abbrev pub after_end : List ℕ
    after_end = rest_after seen may_leave left_since last log s (length bytes)

    pub ended : Holds (seen log.device) log.end bytes (seen device) → seen device ≡ kept ++ 0 ∷ tail after_end
    ended holds =
        placed seen may_leave left_since last log s device bytes holds
        ∙ ap (λ (l : List ℕ). kept ++ 0 ∷ (behind ++ (l ++ after_end))) is
        ∙ ap (λ (l : List ℕ). kept ++ 0 ∷ (behind ++ l)) (append_assoc (7 ∷ count) (0 ∷ []) after_end)
        ∙ ap (λ (l : List ℕ). kept ++ 0 ∷ (l ++ (7 ∷ count ++ 0 ∷ after_end))) (sym held_is)
        ∙ ap (λ (l : List ℕ). kept ++ 0 ∷ l) (sym (append_assoc held (7 ∷ count) (0 ∷ after_end)))

    -- and a crash leaves of it what it may lose to zeros
    pub ended_left : Holds (seen log.device) log.end bytes (seen device) → Follows (Mixed log.end bytes) (may_leave log.device) (may_leave device) → (c : List ℕ) → may_leave device c → IsLeftOf (kept ++ 0 ∷ tail after_end) c
    ended_left holds follows c may =
        let from = follows c may in
        subst (λ (l : List ℕ). IsLeftOf l c) (ended holds)
        (left_mixed (seen log.device) bytes (seen device) from.0 c log.end (inside seen may_leave left_since last log s) holds (λ j lt. blank seen may_leave left_since last log s j) (k.left on from.0 from.1) from.2)

  -- behind an open gate stands all of the batch, or its number is wrong
  found : (more r c : List ℕ) → c ≡ kept ++ 6 ∷ r → IsLeftOf (tail more) r → (whole 0 0 r ≡ true) ⊎ (whole 0 0 r ≡ false) → P seen may_leave left_since last log s c
  found more r c is left (inr torn) = inl (ends_at kept (6 ∷ r) c is (shut 6 r torn) (rests_shut 6 r torn))
  found more r c is left (inl all) =
      let front = held ++ 7 ∷ count in
      let begins = (right count (0 ∷ more) eight 0 held r 0 0 k.whole (fades_from (tail more) r left) all (omega arith) (number ∙ omega arith)).0 in
      let rest = drop (length front) r in
      let next : get_or (tail more) (length front) 0 ≡ 0 = get_or_at front 0 more 0 (length front) refl in
      let first : get_or rest 0 0 ≡ 0 = get_or-drop (length front) r 0 0 ∙ ap (λ (n : ℕ). get_or r n 0) (omega arith) ∙ lost_zero (tail more) r (length front) left next in
      inr (
        counted,
        counted_batch held count k.whole eight number,
        ends_at (kept ++ counted) rest c (is ∙ ap (λ (l : List ℕ). kept ++ 6 ∷ l) (begins_split front r begins) ∙ sym (append_assoc kept counted rest)) (closed_first rest first) (closed_rests rest first),
      )

  -- the gate is written
  pub opened_once : (more : List ℕ) (old new : List ℕ → Type 0) → ((d : List ℕ) → old d → Begins (kept ++ 0 ∷ []) d) → ((d : List ℕ) → old d → IsLeftOf (kept ++ 0 ∷ tail more) d) → Follows (Mixed log.gate (6 ∷ [])) old new
      → (c : List ℕ) → new c → P seen may_leave left_since last log s c
  opened_once more old new fronts lefts follows c may =
      let from = follows c may in
      let d = from.0 in
      let begins = fronts d from.1 in
      let left = lefts d from.1 in
      let r = behind_gate kept (tail more) d c log.gate 6 gate_long begins left from.2 in
      let is = is_c kept (tail more) d c log.gate 6 gate_long begins left from.2 in
      elim (either_gate kept (tail more) d c log.gate 6 gate_long begins left from.2) [
        | inl closed ↦ inl (ends_at kept (0 ∷ r) c (is ∙ ap (λ (x : ℕ). kept ++ x ∷ r) closed) (shut 0 r refl) (rests_shut 0 r refl))
        | inr led ↦ found more r c (is ∙ ap (λ (x : ℕ). kept ++ x ∷ r) led) (left_behind kept (tail more) d c log.gate 6 gate_long begins left from.2) (cases_Bool (whole 0 0 r))
      ]

  pub gate_in : (file more : List ℕ) → file ≡ kept ++ 0 ∷ tail more → log.gate ≤ length file
  gate_in file more is = omega (arith, ap length is, length-append kept (0 ∷ tail more), gate_long)

  -- the file behind it
  pub opened_file : (file new more : List ℕ) → file ≡ kept ++ 0 ∷ tail more → Holds file log.gate (6 ∷ []) new → new ≡ (kept ++ counted) ++ 0 ∷ more
  opened_file file new more is holds =
      gate_written kept (tail more) log.gate gate_long 0 6 new (subst (λ (l : List ℕ). Holds l log.gate (6 ∷ []) new) is holds)
      ∙ sym (append_assoc kept counted (0 ∷ more))

  pub once_length : log.end + 9 ≡ log.gate + length counted
  once_length = omega (arith, length-append (6 ∷ held) (7 ∷ count), eight, held_length seen may_leave left_since last log s, spilled, s.gate)

  pub once_batch : IsBatch held counted
  once_batch = counted_batch held count k.whole eight number

-- A batch between its gate and its end, and what ends behind kept bytes.
use Rattle.std.proofs.Common.{◌≡◌, ℕ, ◌+◌, ◌≤◌, Bool, true, false, IsTrue, List, [], ◌∷◌, ◌++◌, length, take, drop, refl, sym, ◌∙◌, ap, subst, arith, append_assoc, take-append-drop, length-append, length-take}
use Rattle.std.proofs.lemmas.List.{append-nil, take_at, drop_at, drop_all, take-take, nil_from_length}
use Rattle.std.specs.Int.{w64, from_le_bytes}
use Rattle.envy_device.specs.Device.{Only}
use Rattle.envy_journal.specs.declared.log.Log.{Log}
use Rattle.envy_journal.specs.declared.operation.Operation.{Operation}
use Rattle.envy_journal.specs.Journal.{IsAtRest}
use Rattle.envy_journal.specs.Log.{Begins, EndsAt, HasRuns, IsBatch, IsCounted, IsLeftOf, held_bytes, kept_bytes, log_bytes}
use Rattle.envy_journal.specs.Reading.{are_operations, reading, zeros, Leads, Rests}
use Rattle.envy_journal.proofs.Counting.{no_operations, whole_batch, no_zeros}
use Rattle.envy_journal.proofs.Mixed.{left_same}
use Rattle.envy_journal.proofs.Parsed.{breaks_into, leads_both, leads_close, leads_close_counted, leads_into, leads_open, shut}
use Rattle.envy_journal.proofs.Broken.{rests_shut}

-- behind an open gate the held operations follow
batch_leads : (bytes : List ℕ) (q : List Operation) → Leads true 0 bytes q true → Leads false 0 (4 ∷ bytes ++ 5 ∷ []) q false
batch_leads bytes q leads =
    subst (λ (l : List Operation). Leads false 0 (4 ∷ bytes ++ 5 ∷ []) l false) (append-nil q)
    (leads_both false true false 0 (4 ∷ bytes) (5 ∷ []) q [] (leads_both false true true 0 (4 ∷ []) bytes [] q leads_open leads) leads_close)

pub gated_batch : (held : List ℕ) → IsBatch held (4 ∷ held ++ 5 ∷ [])
gated_batch held = record { reads = λ q leads. batch_leads held q leads; size = omega (arith, length-append (4 ∷ held) (5 ∷ [])) }

-- and behind a counted one whose number is right
module _ (held count : List ℕ) (is : are_operations 0 held ≡ true) (eight : length count ≡ 8) (number : from_le_bytes w64 count ≡ zeros held) where
  ended : (q : List Operation) → Leads true 0 held q true → Leads true 0 (held ++ 7 ∷ count) q false
  ended q leads =
      subst (λ (l : List Operation). Leads true 0 (held ++ 7 ∷ count) l false) (append-nil q) (leads_both true true false 0 held (7 ∷ count) q [] leads (leads_close_counted count eight))

  counted_leads : (q : List Operation) → Leads true 0 held q true → Leads false 0 (6 ∷ held ++ 7 ∷ count) q false
  counted_leads q leads =
      let within = ended q leads in
      record {
        goes_on = λ rest. leads_into 6 (held ++ 7 ∷ count ++ rest) (whole_batch held count rest is eight number) ∙ within.goes_on rest;
        breaks_on = λ rest. breaks_into 6 (held ++ 7 ∷ count ++ rest) (whole_batch held count rest is eight number) ∙ within.breaks_on rest;
      }

  pub counted_batch : IsBatch held (6 ∷ held ++ 7 ∷ count)
  counted_batch = record { reads = counted_leads; size = omega (arith, length-append (6 ∷ held) (7 ∷ count), eight) }

-- what doesn't count behind the front
pub ends_at : (front rest c : List ℕ) → c ≡ front ++ rest → reading false 0 rest ≡ [] → Rests rest → EndsAt front c
ends_at front rest c is none rests = record {
  begins = ap (λ (l : List ℕ). take (length front) l) is ∙ take_at front rest (length front) refl;
  ends = ap (λ (l : List ℕ). reading false 0 (drop (length front) l)) is ∙ ap (λ (l : List ℕ). reading false 0 l) (drop_at front rest (length front) refl) ∙ none;
  rests = subst Rests (sym (ap (λ (l : List ℕ). drop (length front) l) is ∙ drop_at front rest (length front) refl)) rests;
}

pub begins_split : (front c : List ℕ) → Begins front c → c ≡ front ++ drop (length front) c
begins_split front c begins = sym (take-append-drop (length front) c) ∙ ap (λ (l : List ℕ). l ++ drop (length front) c) begins

-- a closed gate
pub closed_ends : (bytes c : List ℕ) → Begins (bytes ++ 0 ∷ []) c → EndsAt bytes c
closed_ends bytes c begins =
    let rest = drop (length (bytes ++ 0 ∷ [])) c in
    ends_at bytes (0 ∷ rest) c (begins_split (bytes ++ 0 ∷ []) c begins ∙ append_assoc bytes (0 ∷ []) rest) (shut 0 rest refl) (rests_shut 0 rest refl)

-- what begins with a front that begins so
pub begins_in : (h bytes c : List ℕ) → Begins h bytes → Begins bytes c → Begins h c
begins_in h bytes c head begins =
    let le : length h ≤ length bytes = omega (arith, ap length head, length-take {A = ℕ}) in
    sym (take-take (length h) (length bytes) c le) ∙ ap (λ (l : List ℕ). take (length h) l) begins ∙ head

-- a log that ends with its gate holds nothing
pub none_held : {D : Type 0} (seen : D → List ℕ) (log : Log D) → log.end ≡ log.gate + 1 → log.used ≡ 0 → held_bytes seen log ≡ []
none_held seen log end used =
    ap (λ (n : ℕ). drop (log.gate + 1) (log_bytes seen log) ++ take n log.buffer.items) used
    ∙ append-nil (drop (log.gate + 1) (log_bytes seen log))
    ∙ drop_all (log.gate + 1) (log_bytes seen log) (omega (arith, length-take {A = ℕ}, end))

-- a log that holds nothing, all of whose file is on the disk
pub counted_none : {D : Type 0} (seen : D → List ℕ) (may_leave : D → List ℕ → Type 0) (bytewise : D → Bool) (log : Log D) → held_bytes seen log ≡ [] → log.zeros ≡ 0 → Only (seen log.device) (may_leave log.device) → log.used ≡ 0 → (IsTrue log.runs → HasRuns (kept_bytes seen log)) → IsCounted seen may_leave bytewise log
counted_none seen may_leave bytewise log none zero only empty runs =
    let behind = drop (log.gate + 1) (log_bytes seen log) in
    let few : length behind ≡ 0 = omega (arith, ap length none, length-append behind (take log.used log.buffer.items)) in
    record {
      whole = ap (λ (l : List ℕ). are_operations 0 l) none ∙ no_operations;
      left = λ on c may. subst (λ (l : List ℕ). IsLeftOf (seen log.device) l) (sym (only c may)) (left_same (seen log.device));
      count = λ on. zero ∙ sym (no_zeros behind (nil_from_length behind few));
      latest = λ lt. absurd (omega (arith, lt, empty));
      runs = runs;
    }

-- as it is once a journal is opened, or put in a file's place
pub counted_rest : {D : Type 0} (seen : D → List ℕ) (may_leave : D → List ℕ → Type 0) (moment last : D → ℕ) (bytewise : D → Bool) (log : Log D) → IsAtRest seen may_leave moment last log.device log.gate → log.end ≡ log.gate + 1 → log.used ≡ 0 → log.zeros ≡ 0 → (IsTrue log.runs → HasRuns (kept_bytes seen log)) → IsCounted seen may_leave bytewise log
counted_rest seen may_leave moment last bytewise log rest end used zero runs = counted_none seen may_leave bytewise log (none_held seen log end used) zero rest.durable used runs

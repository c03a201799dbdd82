-- A log of which no operation was met yet.
use Rattle.std.proofs.Common.{◌≡◌, ◌≢◌, inl, inr, ℕ, ◌+◌, ◌≤◌, Bool, true, false, List, [], ◌++◌, length, take, drop, sym, ◌∙◌, ap, subst, arith, length-append, length-drop, take-append-drop}
use Rattle.std.proofs.lemmas.List.{take_all, drop-drop}
use Rattle.envy_journal.specs.declared.operation.Operation.{Operation}
use Rattle.envy_journal.specs.declared.replay.Item.TheVariants.{End}
use Rattle.envy_journal.specs.Found.{Finds, Opens}
use Rattle.envy_journal.specs.Reading.{operations, reading, whole, Leads}
use Rattle.envy_journal.proofs.Parsed.{leads_into, skipped}

-- all operations of a file stand behind so many bytes
pub record IsBehind (bytes : List ℕ) (at : ℕ) (within : Bool) : Type 0 where
  pub within_bytes : at ≤ length bytes
  pub reads : operations bytes ≡ reading within 0 (drop at bytes)

pub behind_head : (bytes : List ℕ) → 33 ≤ length bytes → IsBehind bytes 33 false
behind_head bytes long = record { within_bytes = long; reads = skipped false 33 bytes }

module _ (bytes : List ℕ) (at : ℕ) (within : Bool) (is : IsBehind bytes at within) where
  abbrev back : List ℕ
  back = drop at bytes

  apart : (size : ℕ) → back ≡ take size back ++ drop (at + size) bytes
  apart size = sym (take-append-drop size back) ∙ ap (λ (l : List ℕ). take size back ++ l) (drop-drop size at bytes)

  -- what is read behind some of the bytes
  over : (from to : Bool) (size : ℕ) (done : List Operation) → within ≡ from → Leads from 0 (take size back) done to → operations bytes ≡ done ++ reading to 0 (drop (at + size) bytes)
  over from to size done same leads =
      is.reads
      ∙ ap (λ (w : Bool). reading w 0 back) same
      ∙ ap (λ (l : List ℕ). reading from 0 l) (apart size)
      ∙ leads.goes_on (drop (at + size) bytes)

  into : within ≡ false → Opens back → operations bytes ≡ reading true 0 (drop (at + 1) bytes)
  into gate (inl leads) = over false true 1 [] gate leads
  into gate (inr (six, found)) =
      is.reads
      ∙ ap (λ (w : Bool). reading w 0 back) gate
      ∙ ap (λ (l : List ℕ). reading false 0 l) (apart 1 ∙ ap (λ (l : List ℕ). l ++ drop (at + 1) bytes) six)
      ∙ leads_into 6 (drop (at + 1) bytes) (ap (λ (l : List ℕ). whole 0 0 l) (sym (drop-drop 1 at bytes)) ∙ found)

  pub behind_gate : within ≡ false → 2 ≤ length back → Opens back → IsBehind bytes (at + 1) true
  behind_gate gate some opens = record { within_bytes = omega (arith, length-drop at bytes, some, is.within_bytes); reads = into gate opens }

  pub behind_batch : (size : ℕ) → within ≡ true → size ≤ length back → Leads true 0 (take size back) [] false → IsBehind bytes (at + size) false
  behind_batch size batch fits leads = record { within_bytes = omega (arith, length-drop at bytes, fits, is.within_bytes); reads = over true false size [] batch leads }

  pub some_done : (p : List Operation) (size : ℕ) → length p ≢ 0 → within ≡ true → Leads true 0 (take size back) p true → operations bytes ≢ []
  some_done p size some batch leads none =
      let all = sym (over true true size p batch leads) ∙ none in
      some (omega (arith, ap length all, length-append p (reading true 0 (drop (at + size) bytes))))

  pub none_done : Finds within back End → operations bytes ≡ []
  none_done ends = is.reads ∙ subst (λ (l : List ℕ). reading within 0 l ≡ []) (take_all (length back) back (omega arith)) (ends (length back))

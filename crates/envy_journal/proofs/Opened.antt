-- A file that was mended, as a journal begins with it.
use Rattle.std.proofs.Common.{◌≡◌, ℕ, ◌-◌, ◌≤◌, false, List, [], ◌∷◌, ◌++◌, length, get_or, take, drop, replicate, refl, sym, ◌∙◌, ap, subst, arith}
use Rattle.std.proofs.lemmas.List.{get_or-take, take-take, take_at, drop_at}
use Rattle.envy_base.specs.declared.shape.Shape.{Shape}
use Rattle.envy_device.specs.Device.{Only, LeavesOnly}
use Rattle.envy_journal.specs.declared.operation.Operation.{Operation}
use Rattle.envy_journal.specs.Found.{IsEnd, IsMended, ReadsAlike}
use Rattle.envy_journal.specs.Head.{HasHead, StandsFor, head_bytes}
use Rattle.envy_journal.specs.Log.{Begins, HasRuns}
use Rattle.envy_journal.specs.Reading.{operations, Leads}
use Rattle.envy_journal.specs.Version.{version}
use Rattle.envy_journal.proofs.Logged.{head_by, head_known, runs_by, runs_of}
use Rattle.envy_journal.proofs.Moments.{started, widened}
use Rattle.envy_journal.proofs.Parsed.{leads_to, leads_over, leads_end, shut, unbroken_on}
use Rattle.envy_journal.proofs.Broken.{rests_shut}
use Rattle.envy_journal.proofs.Settled.{head_alike}

module _ (end size : ℕ) (old new : List ℕ) (is : IsMended end size old new) (is_end : IsEnd end old) where
  here : Leads false 33 (take end new) (operations old) false
  here = subst (λ (l : List ℕ). Leads false 33 l (operations old) false) (sym is.front) is_end.leads

  -- a mended file is read as before
  pub mended_reads : operations (take end new) ≡ operations old
  mended_reads = leads_to false false 33 (take end new) (operations old) here

  -- to its end
  pub mended_leads : Leads false 33 (take end new) (operations (take end new)) false
  mended_leads = subst (λ (p : List Operation). Leads false 33 (take end new) p false) (sym mended_reads) here

  -- with its head
  pub mended_head : (sh : Shape) → HasHead sh old → HasHead sh (take end new)
  mended_head sh head = head_by sh new (take end new) (take-take 33 end new is_end.past_head) (head_alike sh end old new is_end.past_head head is.front)

  -- which says that runs may come if it said so
  pub mended_runs : get_or old 8 0 ≡ version → (sh : Shape) → HasHead sh old → HasRuns (take end new)
  mended_runs says sh head =
      let now : HasHead sh (take end new) = mended_head sh head in
      let first : take 33 (take end new) ≡ take 33 old = ap (λ (l : List ℕ). take 33 l) is.front ∙ take-take 33 end old is_end.past_head in
      runs_by sh (take end new) now (sym (get_or-take 33 (take end new) 8 0 (omega arith)) ∙ ap (λ (l : List ℕ). get_or l 8 0) first ∙ get_or-take 33 old 8 0 (omega arith) ∙ says)

-- a file with the same operations and head stands for the same
pub alike_stands : (sh : Shape) (end : ℕ) (old c : List ℕ) → 33 ≤ end → HasHead sh old → ReadsAlike end old c → StandsFor sh (operations old) c
alike_stands sh end old c le head alike = record { head = head_alike sh end old c le head alike.front; reads = alike.reads; ends = alike.ends }

module _ {D : Type 0} (moment : D → ℕ) (left_since : D → ℕ → List ℕ → Type 0) (old new : D) where
  -- before the first call of a device
  pub untouched : (may : List ℕ → Type 0) (file : List ℕ) (P : List ℕ → Type 0) → Only file may → ((c : List ℕ) → left_since old (moment old) c → may c) → P file → LeavesOnly moment left_since old old P
  untouched may file P only now_only has = started moment left_since old P (λ c left. subst P (sym (only c (now_only c left))) has)

  -- each crash while a file is mended leaves one that stands for the same
  pub settled_stands : (sh : Shape) (end : ℕ) (file bytes : List ℕ) → bytes ≡ file → 33 ≤ end → HasHead sh bytes → LeavesOnly moment left_since old new (ReadsAlike end file) → LeavesOnly moment left_since old new (StandsFor sh (operations bytes))
  settled_stands sh end file bytes is le head only =
      subst (λ (l : List ℕ). LeavesOnly moment left_since old new (StandsFor sh (operations l))) (sym is)
      (widened moment left_since old new (ReadsAlike end file) (StandsFor sh (operations file)) only (λ c alike. alike_stands sh end file c le (subst (λ (l : List ℕ). HasHead sh l) is head) alike))

-- a file that stands for its own operations
pub stands_self : (sh : Shape) (end : ℕ) (bytes file : List ℕ) → bytes ≡ file → HasHead sh bytes → IsEnd end bytes → StandsFor sh (operations bytes) file
stands_self sh end bytes file is head is_end = subst (λ (l : List ℕ). StandsFor sh (operations bytes) l) is (record { head = head; reads = refl; ends = is_end.unbroken })

-- a head and a closed gate are a journal without operations
pub made_new : (sh : Shape) → StandsFor sh [] (head_bytes version sh ++ 0 ∷ [])
made_new sh =
    let h = head_bytes version sh in
    record {
      head = head_known sh version (h ++ 0 ∷ []) refl (take_at h (0 ∷ []) (length h) refl);
      reads = leads_end false false 33 h (0 ∷ []) [] (leads_over false 33 h refl) (shut 0 [] refl);
      ends = unbroken_on h (0 ∷ []) (h ++ 0 ∷ []) [] refl (leads_over false 33 h refl) (rests_shut 0 [] refl);
    }

-- the same at rest
module _ (sh : Shape) (file : List ℕ) (is : file ≡ head_bytes version sh ++ 0 ∷ []) where
  -- a file that was made is a head
  pub made_front : take 33 file ≡ head_bytes version sh
  made_front = ap (λ (l : List ℕ). take 33 l) is ∙ take_at (head_bytes version sh) (0 ∷ []) 33 refl

  -- and a closed gate
  pub made_size : length file ≡ 34
  made_size = ap length is

  pub made_closed : drop 33 file ≡ replicate (length file - 33) 0
  made_closed = ap (λ (l : List ℕ). drop 33 l) is ∙ drop_at (head_bytes version sh) (0 ∷ []) 33 refl ∙ ap (λ (n : ℕ). replicate n 0) {x = 1} {y = length file - 33} (omega (arith, made_size))

  made_begins : Begins (head_bytes version sh) (take 33 file)
  made_begins = take-take 33 33 file (omega arith) ∙ made_front

  pub made_head : HasHead sh (take 33 file)
  made_head = head_known sh version (take 33 file) refl made_begins

  pub made_runs : HasRuns (take 33 file)
  made_runs = runs_of sh (take 33 file) made_begins

  none_leads : Leads false 33 (take 33 file) [] false
  none_leads = subst (λ (l : List ℕ). Leads false 33 l [] false) (sym made_front) (leads_over false 33 (head_bytes version sh) refl)

  -- nothing is read of it
  pub made_reads : operations (take 33 file) ≡ []
  made_reads = leads_to false false 33 (take 33 file) [] none_leads

  pub made_leads : Leads false 33 (take 33 file) (operations (take 33 file)) false
  made_leads = subst (λ (p : List Operation). Leads false 33 (take 33 file) p false) (sym made_reads) none_leads

-- The bytes of a second file, while the log's buffer carries them.
use Rattle.std.proofs.Common.{◌≡◌, ℕ, ◌+◌, ◌≤◌, true, false, Result, Ok, Err, OnOk, List, [], ◌∷◌, ◌++◌, ◌-◌, length, take, drop, replicate, refl, sym, ◌∙◌, ap, subst, arith, append_assoc, length-append, length-take}
use Rattle.std.proofs.lemmas.List.{append-nil, drop_at, take_at}
use Rattle.envy_base.specs.State.{State}
use Rattle.envy_base.specs.declared.shape.Shape.{Shape}
use Rattle.envy_journal.specs.declared.operation.Operation.{Operation}
use Rattle.envy_journal.specs.declared.log.Log.{Log}
use Rattle.envy_journal.specs.Held.{most_held}
use Rattle.envy_journal.specs.Content.{Content, blank, changed, content_of, holds}
use Rattle.envy_journal.specs.Head.{head_bytes}
use Rattle.envy_journal.specs.Journal.{IsFileOf}
use Rattle.envy_journal.specs.Log.{Begins, HasRuns}
use Rattle.envy_journal.specs.Reading.{operations, Leads}
use Rattle.envy_journal.specs.Snapshot.{Gathers, Makes, gathered}
use Rattle.envy_journal.specs.Version.{version}
use Rattle.envy_journal.proofs.Batches.{closed_ends}
use Rattle.envy_journal.proofs.Logged.{begins_front, ends_gate, head_known, runs_of}
use Rattle.envy_journal.proofs.Broken.{rests_shut}
use Rattle.envy_journal.proofs.Parsed.{leads_over, leads_open, leads_close, leads_both, leads_to, unbroken_at, unbroken_on}
use Rattle.envy_journal.proofs.Replayed.{after-append}

module _ {D : Type 0} (second : D → List ℕ) (log : Log D) (is : Gathers second log) where
  buffered : length (take log.used log.buffer.items) ≡ log.used
  buffered = omega (arith, length-take {A = ℕ}, is.fits)

  -- what is gathered is as long as the file and the buffer
  pub gathered_length : length (gathered second log) ≡ log.second + log.used
  gathered_length = omega (arith, length-append (second log.device) (take log.used log.buffer.items), buffered, is.end)

  -- the buffer is written behind the second file
  module _ (device : D) (bytes : List ℕ) (all : bytes ≡ take log.used log.buffer.items) (wrote : second device ≡ second log.device ++ bytes) where
    -- a buffer that was written out is the end of the file
    pub spilled_file : second device ≡ gathered second log
    spilled_file = wrote ∙ ap (λ (l : List ℕ). second log.device ++ l) all

    -- nothing is left to gather then
    pub spilled_gathered : second device ++ [] ≡ gathered second log
    spilled_gathered = append-nil (second device) ∙ spilled_file

    -- and gathering goes on with an empty buffer
    pub spilled_gathers : (fits : 0 ≤ length log.buffer.items) (few : length log.buffer.items ≤ most_held) → Gathers second (record log { device = device; second = log.second + log.used; used = 0; fits = fits; few = few })
    spilled_gathers fits few = record { fits = omega arith; room = is.room; end = ap length spilled_file ∙ gathered_length }

-- a head and an open gate
pub makes_front : (sh : Shape) (file : List ℕ) → file ≡ head_bytes version sh ++ 4 ∷ [] → Makes sh (blank sh) 34 file
makes_front sh file is =
    let h = head_bytes version sh in
    let leads : Leads false 33 file [] true = subst (λ (l : List ℕ). Leads false 33 l [] true) (sym is) (leads_both false false true 33 h (4 ∷ []) [] [] (leads_over false 33 h refl) leads_open) in
    let none : operations file ≡ [] = leads_to false true 33 file [] leads in
    record {
      head = ap (λ (l : List ℕ). take 33 l) is ∙ take_at h (4 ∷ []) 33 refl;
      whole = subst (λ (p : List Operation). Leads false 33 file p true) (sym none) leads;
      content = ap (λ (p : List Operation). holds sh p) none;
      size = let long : length file ≡ 34 = ap length is in omega arith;
    }

module _ (sh : Shape) (x : Content) (most : ℕ) (bytes : List ℕ) (is : Makes sh x most bytes) where
  -- the same, told otherwise
  pub makes_as : (y : Content) (more : ℕ) → x ≡ y → most ≤ more → Makes sh y more bytes
  makes_as y more same le = record { head = is.head; whole = is.whole; content = is.content ∙ same; size = omega (arith, is.size) }

  head_long : 33 ≤ length bytes
  head_long = let e : length (take 33 bytes) ≡ 33 = ap length is.head in omega (arith, e, length-take {A = ℕ})

  -- one operation more
  pub makes_more : (o : Operation) (piece : List ℕ) (y : Content) (more : ℕ) → Leads true 0 piece (o ∷ []) true → changed sh.rows o x ≡ y → most + length piece ≤ more → Makes sh y more (bytes ++ piece)
  makes_more o piece y more leads same le =
      let all : Leads false 33 (bytes ++ piece) (operations bytes ++ o ∷ []) true = leads_both false true true 33 bytes piece (operations bytes) (o ∷ []) is.whole leads in
      let reads : operations (bytes ++ piece) ≡ operations bytes ++ o ∷ [] = leads_to false true 33 (bytes ++ piece) (operations bytes ++ o ∷ []) all in
      record {
        head = begins_front (head_bytes version sh) bytes piece (bytes ++ piece) is.head (let e = take_at (bytes ++ piece) [] (length (bytes ++ piece)) refl in ap (λ (l : List ℕ). take (length (bytes ++ piece)) l) (sym (append-nil (bytes ++ piece))) ∙ e);
        whole = subst (λ (p : List Operation). Leads false 33 (bytes ++ piece) p true) (sym reads) all;
        content =
            ap (λ (p : List Operation). holds sh p) reads
            ∙ after-append sh.rows (operations bytes) (o ∷ []) (blank sh)
            ∙ ap (λ (z : Content). changed sh.rows o z) is.content
            ∙ same;
        size = omega (arith, length-append bytes piece, is.size);
      }

-- a second file in the place
module _ (s : State) (most : ℕ) (bytes file : List ℕ) (is : Makes s.shape (content_of s) most bytes) (whole : file ≡ bytes ++ 5 ∷ 0 ∷ []) where
  kept : List ℕ
  kept = bytes ++ 5 ∷ []

  closed : file ≡ kept ++ 0 ∷ []
  unfolding kept
  closed = whole ∙ sym (append_assoc bytes (5 ∷ []) (0 ∷ []))

  kept_length : length kept ≡ length bytes + 1
  unfolding kept
  kept_length = length-append bytes (5 ∷ [])

  front : take (length bytes + 1) file ≡ kept
  front = ap (λ (l : List ℕ). take (length bytes + 1) l) closed ∙ take_at kept (0 ∷ []) (length bytes + 1) kept_length

  kept_leads : Leads false 33 kept (operations bytes) false
  unfolding kept
  kept_leads =
      subst (λ (p : List Operation). Leads false 33 (bytes ++ 5 ∷ []) p false) (append-nil (operations bytes))
      (leads_both false true false 33 bytes (5 ∷ []) (operations bytes) [] is.whole leads_close)

  kept_reads : operations kept ≡ operations bytes
  kept_reads = leads_to false false 33 kept (operations bytes) kept_leads

  begins_self : (l : List ℕ) → Begins l l
  begins_self l = ap (λ (m : List ℕ). take (length l) m) (sym (append-nil l)) ∙ take_at l [] (length l) refl

  kept_head : Begins (head_bytes version s.shape) kept
  unfolding kept
  kept_head = begins_front (head_bytes version s.shape) bytes (5 ∷ []) (bytes ++ 5 ∷ []) is.head (begins_self (bytes ++ 5 ∷ []))

  -- it is a journal of the board
  pub replaced_file : IsFileOf s file
  replaced_file = record {
    head = head_known s.shape version file refl (begins_front (head_bytes version s.shape) bytes (5 ∷ 0 ∷ []) file is.head (subst (λ (l : List ℕ). Begins l file) whole (begins_self file)));
    content =
        sym is.content
        ∙ ap (λ (p : List Operation). holds s.shape p)
        (sym (ends_gate kept file (operations bytes) kept_leads (closed_ends kept file (subst (λ (l : List ℕ). Begins l file) closed (begins_self file)))));
    ends = unbroken_on kept (0 ∷ []) file (operations bytes) closed kept_leads (rests_shut 0 [] refl);
  }

  -- behind a replacement what lies before the gate is the new file,
  pub replaced_kept : IsFileOf s (take (length bytes + 1) file)
  replaced_kept = subst (λ (l : List ℕ). IsFileOf s l) (sym front) (record { head = head_known s.shape version kept refl kept_head; content = sym is.content ∙ ap (λ (p : List Operation). holds s.shape p) (sym kept_reads); ends = unbroken_at kept (operations bytes) kept_leads })

  -- may have runs,
  pub replaced_runs : HasRuns (take (length bytes + 1) file)
  replaced_runs = subst (λ (l : List ℕ). HasRuns l) (sym front) (runs_of s.shape kept kept_head)

  -- is read to its end,
  pub replaced_leads : Leads false 33 (take (length bytes + 1) file) (operations (take (length bytes + 1) file)) false
  replaced_leads = subst (λ (l : List ℕ). Leads false 33 l (operations l) false) (sym front) (subst (λ (p : List Operation). Leads false 33 kept p false) (sym kept_reads) kept_leads)

  -- with a closed gate behind it,
  pub replaced_end : file ≡ take (length bytes + 1) file ++ 0 ∷ []
  replaced_end = closed ∙ ap (λ (l : List ℕ). l ++ 0 ∷ []) (sym front)

  -- and nothing more
  pub replaced_closed : drop (length bytes + 1) file ≡ replicate (length file - (length bytes + 1)) 0
  replaced_closed =
      ap (λ (l : List ℕ). drop (length bytes + 1) l) closed
      ∙ drop_at kept (0 ∷ []) (length bytes + 1) kept_length
      ∙ ap (λ (n : ℕ). replicate n 0) {x = 1} {y = length file - (length bytes + 1)} (omega (arith, ap length whole, length-append bytes (5 ∷ 0 ∷ [])))

  pub replaced_size : length file ≡ length bytes + 2
  replaced_size = ap length whole ∙ length-append bytes (5 ∷ 0 ∷ [])

-- what holds at Ok
pub ok_goes : {T E P Q : Type 0} → (result : Result T E) → OnOk result P → (P → Q) → OnOk result Q
ok_goes (Ok x) is goes = goes is
ok_goes (Err e) is goes = tt

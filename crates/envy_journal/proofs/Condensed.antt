-- A board's content, made anew segment by segment, row by row and word by word.
use Rattle.std.proofs.Common.{◌≡◌, inl, inr, Result, Ok, Err, OnOk, ℕ, ◌+◌, ◌-◌, ◌*◌, ◌/◌, ◌^◌, ◌<◌, ◌≤◌, ◌==◌, if◌then◌else◌, Bool, true, false, List, [], ◌∷◌, ◌++◌, length, get_or, set, map, get_or-set_same, refl, sym, ◌∙◌, ap, subst, arith, length-append}
use Rattle.std.proofs.Math.Nat.{le-max_right, mul-le-mul_left, mul-le-mul_right}
use Rattle.std.proofs.lemmas.Bool.{cases_eq, cases_lt, cond-true, cond-false, eq-eqb, ne_eqb}
use Rattle.std.proofs.lemmas.List.{ext_get_or, get_or-set_other, length-set, length-replicate, append-nil}
use Rattle.std.proofs.lemmas.List.FromFn.{get_or-map-range_with_len, length-map-range_with_len}
use Rattle.std.specs.List.{range_with_len}
use Rattle.envy_base.proofs.Rows.{block_of}
use Rattle.envy_base.specs.declared.shape.Shape.{Shape}
use Rattle.envy_base.specs.Map.{words_of}
use Rattle.envy_base.specs.State.{State, IsBoard, ands, ones, row_of}
use Rattle.envy_journal.specs.Condensed.{IsPart, Remakes}
use Rattle.envy_journal.specs.Content.{Content, after, blank, changed, content_of, holds}
use Rattle.envy_journal.specs.Head.{HasHead}
use Rattle.envy_journal.specs.Journal.{IsLogged, done, held, kept}
use Rattle.envy_journal.specs.Log.{IsCounted, IsSound, kept_bytes, held_bytes}
use Rattle.envy_journal.specs.Reading.{operations, reading, Leads}
use Rattle.envy_journal.specs.Snapshot.{limit_of, most_of}
use Rattle.envy_journal.specs.declared.log.Log.{Log}
use Rattle.envy_journal.specs.declared.operation.Operation.{Operation}
use Rattle.envy_journal.specs.declared.operation.Operation.TheVariants.{Put, Program, Erase}
use Rattle.envy_journal.proofs.Idle.{no_bytes}
use Rattle.envy_journal.proofs.Logged.{logged_more}
use Rattle.envy_journal.proofs.Parsed.{leads_none, nothing}
use Rattle.envy_journal.proofs.Patched.{ands-ones}
use Rattle.envy_journal.proofs.Spilled.{held_long}

-- operations change no size
pub after_flash : (rows : ℕ) (operations : List Operation) (x : Content) → length (after rows operations x).flash ≡ length x.flash
after_flash rows [] x = refl
after_flash rows (Put w v ∷ more) x = after_flash rows more (changed rows (Put w v) x)
after_flash rows (Program q page ∷ more) x = after_flash rows more (changed rows (Program q page) x) ∙ length-set x.flash q (ands (get_or x.flash q []) page)
after_flash rows (Erase e ∷ more) x =
    after_flash rows more (changed rows (Erase e) x) ∙ length-map-range_with_len (λ q. if q / rows == e then ones else get_or x.flash q []) 0 (length x.flash)

pub after_sram : (rows : ℕ) (operations : List Operation) (x : Content) → length (after rows operations x).sram ≡ length x.sram
after_sram rows [] x = refl
after_sram rows (Put w v ∷ more) x = after_sram rows more (changed rows (Put w v) x) ∙ length-set x.sram w v
after_sram rows (Program q page ∷ more) x = after_sram rows more (changed rows (Program q page) x)
after_sram rows (Erase e ∷ more) x = after_sram rows more (changed rows (Erase e) x)

-- a board with other content
abbrev pub holding : State → Content → State
holding t x = record t { flash = x.flash; sram = x.sram }

-- what an operation makes of a board's content
abbrev pub did : Operation → State → State
did o t = holding t (changed t.shape.rows o (content_of t))

-- the rows of one segment more
rows_more : (e rows : ℕ) → (e + 1) * rows ≡ e * rows + rows
rows_more e rows = omega arith

module _ (s t : State) (board : IsBoard s) where
  same_rows : t.shape ≡ s.shape → t.shape.rows ≡ s.shape.rows
  same_rows same = ap (λ (sh : Shape). sh.rows) same

  -- one segment more is erased
  module _ (e : ℕ) (lt : e < s.shape.segments) (is : IsPart s (e * s.shape.rows) 0 0 t) where
    erased : ℕ → List ℕ
    erased q = if q / t.shape.rows == e then ones else get_or t.flash q []

    inside : (q : ℕ) → q < (e + 1) * s.shape.rows → q < length t.flash
    inside q few =
        let le : (e + 1) * s.shape.rows ≤ s.shape.segments * s.shape.rows = mul-le-mul_right s.shape.rows (omega (arith, lt)) in
        omega (arith, few, is.flash, board.rows, le)

    of_it : (q : ℕ) → q / t.shape.rows ≡ e → erased q ≡ ones
    unfolding erased
    of_it q here = cond-true (q / t.shape.rows == e) ones (get_or t.flash q []) (eq-eqb (q / t.shape.rows) e here)

    of_another : (q : ℕ) → (q / t.shape.rows ≡ e → ⊥) → q < (e + 1) * s.shape.rows → erased q ≡ ones
    unfolding erased
    of_another q other few =
        cond-false (q / t.shape.rows == e) ones (get_or t.flash q []) (ne_eqb (q / t.shape.rows) e other)
        ∙ elim (cases_lt q (e * s.shape.rows)) [
          | inl before ↦ is.blank q (omega arith) before
          | inr from ↦
              absurd (other (ap (λ (n : ℕ). q / n) (same_rows is.shape) ∙ block_of s.shape.rows e q from (omega (arith, few, rows_more e s.shape.rows))))
        ]

    at : (q : ℕ) → q < (e + 1) * s.shape.rows → get_or (map erased (range_with_len 0 (length t.flash))) q [] ≡ ones
    at q few = get_or-map-range_with_len erased 0 (length t.flash) q q [] (inside q few) (omega arith) ∙ elim (cases_eq (q / t.shape.rows) e) [
      | inl here ↦ of_it q here
      | inr other ↦ of_another q other few
    ]

    pub part_erased : IsPart s ((e + 1) * s.shape.rows) 0 0 (did (Erase e) t)
    unfolding erased
    part_erased = record {
      shape = is.shape;
      flash = length-map-range_with_len erased 0 (length t.flash) ∙ is.flash;
      sram = is.sram;
      programmed = λ q none. absurd (omega (arith, none));
      blank = λ q le few. at q few;
      put = λ w none. absurd (omega (arith, none));
    }

  -- one row more is programmed, or was blank
  module _ (q : ℕ) (lt : q < length s.flash) (is : IsPart s (length s.flash) q 0 t) where
    was_blank : row_of t q ≡ ones
    was_blank = is.blank q (omega arith) lt

    pub part_programmed : (page : List ℕ) → page ≡ row_of s q → IsPart s (length s.flash) (q + 1) 0 (did (Program q page) t)
    part_programmed page same =
        let row = ands (row_of t q) page in
        let made : row ≡ row_of s q = ap (λ (r : List ℕ). ands r page) was_blank ∙ ap (λ (p : List ℕ). ands ones p) same ∙ ands-ones (row_of s q) (board.pages q lt) in
        record {
          shape = is.shape;
          flash = length-set t.flash q row ∙ is.flash;
          sram = is.sram;
          programmed = λ i few. elim (cases_eq i q) [
            | inl here ↦
                ap (λ (n : ℕ). get_or (set t.flash q row) n []) here
                ∙ get_or-set_same t.flash q row [] (omega (arith, lt, is.flash))
                ∙ made
                ∙ ap (λ (n : ℕ). row_of s n) (sym here)
            | inr other ↦ get_or-set_other t.flash q i row [] other ∙ is.programmed i (omega (arith, few, other))
          ];
          blank = λ i le few. get_or-set_other t.flash q i row [] (λ here. omega (arith, le, here)) ∙ is.blank i (omega (arith, le)) few;
          put = is.put;
        }

    pub part_blank : row_of s q ≡ ones → IsPart s (length s.flash) (q + 1) 0 t
    part_blank same = record {
      shape = is.shape;
      flash = is.flash;
      sram = is.sram;
      programmed = λ i few. elim (cases_eq i q) [
        | inl here ↦ ap (λ (n : ℕ). row_of t n) here ∙ was_blank ∙ sym same ∙ ap (λ (n : ℕ). row_of s n) (sym here)
        | inr other ↦ is.programmed i (omega (arith, few, other))
      ];
      blank = λ i le few. is.blank i (omega (arith, le)) few;
      put = is.put;
    }

  -- one word more is put
  pub part_put : (w v : ℕ) → w < length s.sram → v ≡ get_or s.sram w 0 → IsPart s (length s.flash) (length s.flash) w t → IsPart s (length s.flash) (length s.flash) (w + 1) (did (Put w v) t)
  part_put w v lt same is = record {
    shape = is.shape;
    flash = is.flash;
    sram = length-set t.sram w v ∙ is.sram;
    programmed = is.programmed;
    blank = is.blank;
    put = λ i few. elim (cases_eq i w) [
      | inl here ↦
          ap (λ (n : ℕ). get_or (set t.sram w v) n 0) here ∙ get_or-set_same t.sram w v 0 (omega (arith, lt, is.sram)) ∙ same ∙ ap (λ (n : ℕ). get_or s.sram n 0) (sym here)
      | inr other ↦ get_or-set_other t.sram w i v 0 other ∙ is.put i (omega (arith, few, other))
    ];
  }

  -- with all rows and words it is the board's content
  pub part_all : IsPart s (length s.flash) (length s.flash) (length s.sram) t → content_of t ≡ content_of s
  part_all is =
      let flash : t.flash ≡ s.flash = ext_get_or [] t.flash s.flash is.flash (λ q lt. is.programmed q (omega (arith, lt, is.flash))) in
      let sram : t.sram ≡ s.sram = ext_get_or 0 t.sram s.sram is.sram (λ w lt. is.put w (omega (arith, lt, is.sram))) in
      λ i. let c : Content = record { flash = flash i; sram = sram i } in c

-- nothing of it is made yet
pub part_none : (s : State) (x : Content) → length x.flash ≡ length s.flash → length x.sram ≡ length s.sram → IsPart s 0 0 0 (holding s x)
part_none s x flash sram = record {
  shape = refl;
  flash = flash;
  sram = sram;
  programmed = λ q none. absurd (omega (arith, none));
  blank = λ q le none. absurd (omega (arith, none));
  put = λ w none. absurd (omega (arith, none));
}

module _ {D : Type 0} (seen : D → List ℕ) (may_leave : D → List ℕ → Type 0) (left_since : D → ℕ → List ℕ → Type 0) (last : D → ℕ) (bytewise : D → Bool) where
  -- a log that holds nothing more is of a board of what is kept
  pub remakes_none : (s : State) → IsBoard s → (log new : Log D) → IsLogged seen may_leave left_since last log s → IsSound seen may_leave left_since last new → IsCounted seen may_leave bytewise new → held_bytes seen new ≡ [] → kept_bytes seen new ≡ kept_bytes seen log
      → length new.buffer.items ≡ length log.buffer.items → Remakes seen may_leave left_since last bytewise s 0 0 0 0 new
  remakes_none s board log new is sound counted none same room =
      let x = holds s.shape (kept seen new) in
      let no_operation : held seen new ≡ [] = ap (λ (l : List ℕ). reading true 0 l) none ∙ nothing true in
      record {
        board = holding s x;
        part = part_none s x
            (after_flash s.shape.rows (kept seen new) (blank s.shape) ∙ length-replicate {A = List ℕ} (s.shape.segments * s.shape.rows) ones ∙ sym board.rows)
            (after_sram s.shape.rows (kept seen new) (blank s.shape) ∙ length-replicate {A = ℕ} (words_of s.shape) 0 ∙ sym board.sram);
        logged = record {
          sound = sound;
          head = subst (λ (l : List ℕ). HasHead s.shape l) (sym same) is.head;
          kept_whole = subst (λ (l : List ℕ). Leads false 33 l (operations l) false) (sym same) is.kept_whole;
          held_whole = subst (λ (p : List Operation). Leads true 0 (held_bytes seen new) p true) (sym no_operation) (subst (λ (l : List ℕ). Leads true 0 l [] true) (sym none) (leads_none true));
          content = sym (ap (λ (p : List Operation). holds s.shape (kept seen new ++ p)) no_operation ∙ ap (λ (p : List Operation). holds s.shape p) (append-nil (kept seen new)));
          room = omega (arith, is.room, room);
        };
        counted = counted;
        size = omega (arith, ap length none);
      }

  -- one operation more
  pub remakes_more : (s : State) (erased rows words most : ℕ) (log new : Log D) (is : Remakes seen may_leave left_since last bytewise s erased rows words most log) (o : Operation) (bytes : List ℕ) (erased' rows' words' more : ℕ)
      → Leads true 0 bytes (o ∷ []) true → IsPart s erased' rows' words' (did o is.board) → most + length bytes ≤ more
      → IsSound seen may_leave left_since last new → IsCounted seen may_leave bytewise new → kept_bytes seen new ≡ kept_bytes seen log → held_bytes seen new ≡ held_bytes seen log ++ bytes → length new.buffer.items ≡ length log.buffer.items
      → Remakes seen may_leave left_since last bytewise s erased' rows' words' more new
  remakes_more s erased rows words most log new is o bytes erased' rows' words' more leads part le sound counted same also room = record {
    board = did o is.board;
    part = part;
    logged = logged_more seen may_leave left_since last log is.board is.logged new room (did o is.board) o bytes sound same also leads refl refl;
    counted = counted;
    size = omega (arith, ap length also, length-append (held_bytes seen log) bytes, is.size, le);
  }

  -- told otherwise
  pub remakes_as : (s : State) (erased rows words most : ℕ) (log : Log D) (is : Remakes seen may_leave left_since last bytewise s erased rows words most log) (erased' rows' words' more : ℕ) → IsPart s erased' rows' words' is.board → most ≤ more
      → Remakes seen may_leave left_since last bytewise s erased' rows' words' more log
  remakes_as s erased rows words most log is erased' rows' words' more part le = record { board = is.board; part = part; logged = is.logged; counted = is.counted; size = omega (arith, is.size, le) }

  -- all of it
  pub remade : (s : State) → IsBoard s → (most : ℕ) (log : Log D) → Remakes seen may_leave left_since last bytewise s (length s.flash) (length s.flash) (length s.sram) most log → IsLogged seen may_leave left_since last log s
  remade s board most log is =
      let was = is.logged in
      let same : is.board.shape ≡ s.shape = is.part.shape in
      record {
        sound = was.sound;
        head = subst (λ (sh : Shape). HasHead sh (kept_bytes seen log)) same was.head;
        kept_whole = was.kept_whole;
        held_whole = was.held_whole;
        content = sym (part_all s is.board board is.part) ∙ was.content ∙ ap (λ (sh : Shape). holds sh (done seen log)) same;
        room = was.room;
      }

-- all of it takes no more than the limit
pub few_enough : (s : State) → IsBoard s → (n : ℕ) → n ≡ length s.sram → 5 * s.shape.segments + 261 * length s.flash + 13 * n ≤ limit_of s.shape
few_enough s board n all =
    let shape = board.shape in
    let rows : s.shape.segments * 2 ≤ s.shape.segments * s.shape.rows = mul-le-mul_left s.shape.segments shape.rows in
    let fits : most_of s.shape ≡ 36 + 13 * words_of s.shape + 261 * (s.shape.segments * s.shape.rows) = refl in
    let most : 2 * most_of s.shape ≤ limit_of s.shape = le-max_right (2 ^ 20) (2 * most_of s.shape) in
    omega (arith, all, board.sram, board.rows, rows, fits, most)

-- two things that hold at Ok
pub ok_both : {T E P Q R : Type 0} → (result : Result T E) → OnOk result P → OnOk result Q → (P → Q → R) → OnOk result R
ok_both (Ok x) p q goes = goes p q
ok_both (Err e) p q goes = tt

-- no more of it is in the file than is held
pub spilled_few : {D : Type 0} (seen : D → List ℕ) (may_leave : D → List ℕ → Type 0) (left_since : D → ℕ → List ℕ → Type 0) (last : D → ℕ) (log : Log D) → IsSound seen may_leave left_since last log → (most : ℕ) → length (held_bytes seen log) ≤ most → log.end - (log.gate + 1) ≤ most
spilled_few seen may_leave left_since last log s most le = omega (arith, le, held_long seen may_leave left_since last log s)

-- nor is any of it if no operation is held
pub none_spilled : {D : Type 0} (seen : D → List ℕ) (may_leave : D → List ℕ → Type 0) (left_since : D → ℕ → List ℕ → Type 0) (last : D → ℕ) (bytewise : D → Bool) (log : Log D) → IsSound seen may_leave left_since last log → IsCounted seen may_leave bytewise log → held seen log ≡ []
    → (most : ℕ) → log.end - (log.gate + 1) ≤ most
none_spilled seen may_leave left_since last bytewise log s counted none most =
    spilled_few seen may_leave left_since last log s most (omega (arith, ap length (no_bytes (held_bytes seen log) counted.whole none)))

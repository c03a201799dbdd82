-- Words that `clap` takes are those that give options of the parser, each once.
use Rattle.std.proofs.Common.{◌≡◌, ◌∙◌, inl, inr, Bool, true, false, refl, sym, ap, subst, List, [], ◌∷◌, ◌++◌, map, append_assoc, append-nil, Option, Some, None, is_some, codes, true≢false}
use Rattle.std.specs.Str.{bytes_eq}
use Rattle.clap.specs.Kinds.{or_else}
use Rattle.clap.specs.Walk.{Row, Text, Walk, has_row, idle, option, used}
use Rattle.envy_args.specs.Parser.{row_of}
use Rattle.envy_args.specs.Words.{Options, name_in, options_in, value_in, with_option}
use Rattle.envy_args.proofs.Finds.{rule, is_among}
use Rattle.envy_args.proofs.Forms.{Form, form_of, dashes, pair, single, other}
use Rattle.envy_args.proofs.Steps.{Pending, Pushes, at, both-none, faults, idle-dashes, idle-other, idle-pair, idle-single, idle-unknown, new-used, next, no-words, one-word, rows_at_end, settled-value, settled_with, trailing-fails, turn, unsettled, unsettled-none, unsettled-value, used-row, waiting-dashes, waiting-long, waiting-other}

pub none≢some : {A B : Type 0} (x : A) → None ≡ Some x → B
none≢some x e = absurd (true≢false (sym (ap is_some e)))

module _ (names : List Text) where
  -- each option is known, and none has a row
  abbrev pub IsNew : List Row → Options → Type 0
  IsNew rows [] = Unit {0}
  IsNew rows (o ∷ options) = (is_among o.0 names ≡ true) × (has_row o.0 rows ≡ false) × IsNew (rows ++ row_of o ∷ []) options

  -- the words are read as options, which come to the rows
  pub record Taken (rows : List Row) (read : Option Options) (after : List Row) : Type 0 where
    pub options : Options
    pub is_read : read ≡ Some options
    pub new : IsNew rows options
    pub rows_are : after ≡ rows ++ map row_of options

  none-taken : (rows : List Row) → Taken rows (Some []) rows
  none-taken rows = record { options = []; is_read = refl; new = tt; rows_are = sym (append-nil rows) }

  moved : (rows : List Row) (read given : Option Options) (after last : List Row) → read ≡ given → after ≡ last → Taken rows given last → Taken rows read after
  moved rows read given after last r a t = record { options = t.options; is_read = r ∙ t.is_read; new = t.new; rows_are = a ∙ t.rows_are }

  -- an option more
  one-taken : (rows : List Row) (name value : Text) (read : Option Options) (after : List Row) → is_among name names ≡ true → has_row name rows ≡ false
      → Taken (used (rule name) (value ∷ []) rows) read after → Taken rows (with_option name value read) after
  one-taken rows name value read after known fresh t =
      let at_end = used-row names rows name value fresh in
      record {
        options = (name, value) ∷ t.options;
        is_read = ap (with_option name value) t.is_read;
        new = (known, fresh, subst (λ (rs : List Row). IsNew rs t.options) at_end t.new);
        rows_are = t.rows_are ∙ ap (λ rs. rs ++ map row_of t.options) at_end ∙ append_assoc rows (row_of (name, value) ∷ []) (map row_of t.options);
      }

  abbrev WhereIdle : List Text → List Row → Pending → Type 0
  WhereIdle words rows p =
      (unsettled names rows p ≡ []) × Taken (settled_with names rows p) (options_in words None) (rows_at_end names (at rows p idle false) words)

  record Takes (words : List Text) : Type 0 where
    from_idle : (rows : List Row) (p : Pending) → faults names (at rows p idle false) words ≡ [] → WhereIdle words rows p
    from_waiting : (rows : List Row) (name : Text) → is_among name names ≡ true → faults names (at rows (Some (name, [])) (option name) false) words ≡ []
        → Taken rows (options_in words (Some name)) (rows_at_end names (at rows (Some (name, [])) (option name) false) words)

  -- after a word all is as it is where the next word stands
  pub goes-on : (w : Walk) (word : Text) (words : List Text) → turn names w word ≡ [] → faults names w (word ∷ words) ≡ faults names (next names w word) words
  goes-on w word words e = one-word names w word words ∙ ap (λ k. or_else k (faults names (next names w word) words)) e

  -- ---- where `--` stands

  ends : (rows : List Row) (p : Pending) (word : Text) (words : List Text) → bytes_eq word (codes "--") ≡ true
      → faults names (at rows p idle false) (word ∷ words) ≡ [] → WhereIdle (word ∷ words) rows p
  unfolding options_in
  ends rows p word [] e none =
      let step = idle-dashes names rows p word e in
      let here = goes-on (at rows p idle false) word [] step.0 ∙ ap (λ w. faults names w []) step.1 ∙ no-words names (at rows p idle true) in
      (sym here ∙ none, rw (e, step.1) (none-taken _))
  ends rows p word (more ∷ words) e none =
      let step = idle-dashes names rows p word e in
      let here = goes-on (at rows p idle false) word (more ∷ words) step.0 ∙ ap (λ w. faults names w (more ∷ words)) step.1 ∙ one-word names (at rows p idle true) more words in
      absurd (trailing-fails names rows p idle more (both-none _ _ (sym here ∙ none)).0)

  -- ---- one word more

  idle-more : (word : Text) (words : List Text) → Takes words → (rows : List Row) (p : Pending) → Form word
      → faults names (at rows p idle false) (word ∷ words) ≡ [] → WhereIdle (word ∷ words) rows p
  unfolding options_in
  idle-more word words ih rows p (dashes e) none = ends rows p word words e none
  idle-more word words ih rows p (pair no_dashes opt valued long) none = go (is_among (name_in word) names) refl
    where
      go : (b : Bool) → is_among (name_in word) names ≡ b → WhereIdle (word ∷ words) rows p
      go true known =
          let step = idle-pair names rows p word (name_in word) (value_in word) no_dashes long known in
          let parts = both-none _ _ (sym (one-word names (at rows p idle false) word words) ∙ none) in
          let here = both-none _ _ (sym step.0 ∙ parts.0) in
          let fresh = new-used names (settled_with names rows p) (name_in word) (value_in word) here.1 in
          let others = ih.from_idle _ None (ap (λ w. faults names w words) (sym step.1) ∙ parts.1) in
          let read = one-taken (settled_with names rows p) (name_in word) (value_in word) (options_in words None) _ known fresh others.1 in
          (here.0, moved _ _ _ _ _ (rw (no_dashes, opt, valued) refl) (ap (λ w. rows_at_end names w words) step.1) read)
      go false unknown =
          absurd (idle-unknown names rows p word (name_in word) (Some (value_in word)) no_dashes long unknown
          (both-none _ _ (sym (one-word names (at rows p idle false) word words) ∙ none)).0)
  idle-more word words ih rows p (single no_dashes opt valued long) none = go (is_among (name_in word) names) refl
    where
      go : (b : Bool) → is_among (name_in word) names ≡ b → WhereIdle (word ∷ words) rows p
      go true known =
          let step = idle-single names rows p word (name_in word) no_dashes long known in
          let parts = both-none _ _ (sym (one-word names (at rows p idle false) word words) ∙ none) in
          let read = ih.from_waiting (settled_with names rows p) (name_in word) known (ap (λ w. faults names w words) (sym step.1) ∙ parts.1) in
          (sym step.0 ∙ parts.0, moved _ _ _ _ _ (rw (no_dashes, opt, valued) refl) (ap (λ w. rows_at_end names w words) step.1) read)
      go false unknown =
          absurd (idle-unknown names rows p word (name_in word) None no_dashes long unknown
          (both-none _ _ (sym (one-word names (at rows p idle false) word words) ∙ none)).0)
  idle-more word words ih rows p (other no_dashes opt long) none =
      absurd (idle-other names rows p word no_dashes long (both-none _ _ (sym (one-word names (at rows p idle false) word words) ∙ none)).0)

  pushed : (rows : List Row) (name word : Text) (words : List Text) → is_among name names ≡ true → Takes words → Pushes names rows name word
      → faults names (next names (at rows (Some (name, [])) (option name) false) word) words ≡ []
      → Taken rows (options_in (word ∷ words) (Some name)) (rows_at_end names (at rows (Some (name, [])) (option name) false) (word ∷ words))
  unfolding options_in
  pushed rows name word words known ih push none =
      let others = ih.from_idle rows (Some (name, word ∷ [])) (ap (λ w. faults names w words) (sym push.1) ∙ none) in
      let fresh = new-used names rows name word (sym (unsettled-value names rows name word known) ∙ others.0) in
      let read = subst (λ (rs : List Row). Taken rs (options_in words None) (rows_at_end names (at rows (Some (name, word ∷ [])) idle false) words)) (settled-value names rows name word known) others.1 in
      moved _ _ _ _ _ refl (ap (λ w. rows_at_end names w words) push.1) (one-taken rows name word (options_in words None) _ known fresh read)

  waiting-more : (word : Text) (words : List Text) → Takes words → (rows : List Row) (name : Text) → is_among name names ≡ true → Form word
      → faults names (at rows (Some (name, [])) (option name) false) (word ∷ words) ≡ []
      → Taken rows (options_in (word ∷ words) (Some name)) (rows_at_end names (at rows (Some (name, [])) (option name) false) (word ∷ words))
  waiting-more word [] ih rows name known (dashes e) none =
      let step = waiting-dashes names rows (Some (name, [])) name word e in
      let here = goes-on (at rows (Some (name, [])) (option name) false) word [] step.0 ∙ ap (λ w. faults names w []) step.1 ∙ no-words names (at rows (Some (name, [])) (option name) true) in
      absurd (unsettled-none names rows name known (sym here ∙ none))
  waiting-more word (more ∷ words) ih rows name known (dashes e) none =
      let step = waiting-dashes names rows (Some (name, [])) name word e in
      let here = goes-on (at rows (Some (name, [])) (option name) false) word (more ∷ words) step.0 ∙ ap (λ w. faults names w (more ∷ words)) step.1
      ∙ one-word names (at rows (Some (name, [])) (option name) true) more words in
      absurd (trailing-fails names rows (Some (name, [])) (option name) more (both-none _ _ (sym here ∙ none)).0)
  waiting-more word words ih rows name known (pair no_dashes opt valued long) none =
      absurd (waiting-long names rows name word (name_in word) (Some (value_in word)) known no_dashes long
      (both-none _ _ (sym (one-word names (at rows (Some (name, [])) (option name) false) word words) ∙ none)).0)
  waiting-more word words ih rows name known (single no_dashes opt valued long) none =
      absurd (waiting-long names rows name word (name_in word) None known no_dashes long
      (both-none _ _ (sym (one-word names (at rows (Some (name, [])) (option name) false) word words) ∙ none)).0)
  waiting-more word words ih rows name known (other no_dashes opt long) none =
      let parts = both-none _ _ (sym (one-word names (at rows (Some (name, [])) (option name) false) word words) ∙ none) in
      elim (waiting-other names rows name word known no_dashes long) [
        | inl push ↦ pushed rows name word words known ih push parts.1
        | inr fails ↦ absurd (fails parts.0)
      ]

  takes : (words : List Text) → Takes words
  unfolding options_in
  takes [] = record {
    from_idle = λ rows p none. (sym (no-words names (at rows p idle false)) ∙ none, none-taken _);
    from_waiting = λ rows name known none. absurd (unsettled-none names rows name known (sym (no-words names (at rows (Some (name, [])) (option name) false)) ∙ none));
  }
  takes (word ∷ words) =
      let ih = takes words in
      record {
        from_idle = λ rows p none. idle-more word words ih rows p (form_of word) none;
        from_waiting = λ rows name known none. waiting-more word words ih rows name known (form_of word) none;
      }

  pub takes-words : (words : List Text) → faults names (at [] None idle false) words ≡ [] → Taken [] (options_in words None) (rows_at_end names (at [] None idle false) words)
  takes-words words none = ((takes words).from_idle [] None none).1

-- Words that give options of the parser, each once and with a value of its own, are words that `clap` takes.
use Rattle.std.proofs.Common.{◌≡◌, ◌∙◌, Bool, true, false, ◌==◌, nat_lt, refl, sym, ap, subst, List, [], ◌∷◌, length, Option, Some, None, codes, true≢false, eqb-true, unwrap_or}
use Rattle.std.specs.Str.{bytes_eq}
use Rattle.std.proofs.lemmas.Bool.{and_parts}
use Rattle.clap.specs.Lexer.{long_of, short_of}
use Rattle.clap.specs.Kinds.{or_else}
use Rattle.clap.specs.Faults.{use_fault}
use Rattle.clap.specs.Walk.{Row, Text, idle, option}
use Rattle.envy_args.specs.Words.{Options, bits_of, has, have_values, is_number, is_path, is_value, name_in, options_in, value_in, with_option}
use Rattle.envy_args.proofs.Finds.{rule, is_among}
use Rattle.envy_args.proofs.Forms.{Form, form_of, dashes, pair, single, other}
use Rattle.envy_args.proofs.Steps.{Pending, at, faults, idle-dashes, idle-pair, idle-single, no-words, settled-value, settled_with, unsettled, unsettled-value, use-new, used-row, waiting-plain}
use Rattle.envy_args.proofs.Taking.{IsNew, goes-on, none≢some}

-- ---- a value is no option

pub record IsPlain (word : Text) : Type 0 where
  no_dashes : bytes_eq word (codes "--") ≡ false
  no_long : long_of word ≡ None
  no_short : short_of word ≡ None

no-hyphen : (name word : Text) → is_value name (45 ∷ word) ≡ true → {A : Type 0} → A
no-hyphen name word e {A} = go (bytes_eq name (codes "policy")) refl (bytes_eq name (codes "file")) refl
  where
    go : (b : Bool) → bytes_eq name (codes "policy") ≡ b → (d : Bool) → bytes_eq name (codes "file") ≡ d → A
    go true is d also = absurd (true≢false (sym (rw is at e)))
    go false is true also =
        let path : is_path (45 ∷ word) ≡ true = rw (is, also) at e in
        absurd (true≢false (sym path))
    go false is false also =
        let number : is_number (bits_of name) (45 ∷ word) ≡ true = rw (is, also) at e in
        absurd (true≢false (sym (and_parts (nat_lt 0 (length (45 ∷ word))) _ number).1))

pub value-plain : (name word : Text) → is_value name word ≡ true → IsPlain word
value-plain name [] e = record { no_dashes = refl; no_long = refl; no_short = refl }
value-plain name (x ∷ word) e = go (x == 45) refl
  where
    go : (b : Bool) → (x == 45) ≡ b → IsPlain (x ∷ word)
    go true is = no-hyphen name word (ap (λ y. is_value name (y ∷ word)) (sym (eqb-true x 45 is)) ∙ e)
    go false is = record { no_dashes = rw is refl; no_long = rw is refl; no_short = rw is refl }

-- ---- what follows from a first option

record IsFirst (name value : Text) (read : Option Options) (options : Options) : Type 0 where
  others : Options
  read_is : read ≡ Some others
  options_are : (name, value) ∷ others ≡ options

some-same : {A : Type 0} (x y : A) → Some x ≡ Some y → x ≡ y
some-same x y e = ap (λ o. unwrap_or o x) e

first_of_options : (name value : Text) (read : Option Options) (options : Options) → with_option name value read ≡ Some options → IsFirst name value read options
first_of_options name value None options e = none≢some options e
first_of_options name value (Some others) options e = record { others = others; read_is = refl; options_are = some-same _ _ e }

module _ (names : List Text) where
  record Accepts (words : List Text) : Type 0 where
    from_idle : (rows : List Row) (p : Pending) (options : Options) → unsettled names rows p ≡ [] → options_in words None ≡ Some options
        → IsNew names (settled_with names rows p) options → have_values options ≡ true → faults names (at rows p idle false) words ≡ []
    from_waiting : (rows : List Row) (name : Text) (options : Options) → is_among name names ≡ true → options_in words (Some name) ≡ Some options
        → IsNew names rows options → have_values options ≡ true → faults names (at rows (Some (name, [])) (option name) false) words ≡ []

  ends : (rows : List Row) (p : Pending) (word : Text) (words : List Text) (options : Options) → bytes_eq word (codes "--") ≡ true
      → unsettled names rows p ≡ [] → options_in (word ∷ words) None ≡ Some options → faults names (at rows p idle false) (word ∷ words) ≡ []
  unfolding options_in
  ends rows p word [] options e none read =
      let step = idle-dashes names rows p word e in
      goes-on names (at rows p idle false) word [] step.0 ∙ ap (λ w. faults names w []) step.1 ∙ no-words names (at rows p idle true) ∙ none
  ends rows p word (more ∷ words) options e none read = none≢some options (rw e at read)

  -- an option with its value, where nothing is wrong before it
  pairs : (rows : List Row) (p : Pending) (word name value : Text) (words : List Text) (options : Options) → Accepts words → unsettled names rows p ≡ []
      → bytes_eq word (codes "--") ≡ false → long_of word ≡ Some (name, Some value) → with_option name value (options_in words None) ≡ Some options
      → IsNew names (settled_with names rows p) options → have_values options ≡ true → faults names (at rows p idle false) (word ∷ words) ≡ []
  pairs rows p word name value words options ih none no_dashes long read new valued =
      let f = first_of_options name value (options_in words None) options read in
      let first = subst (λ (os : Options). IsNew names (settled_with names rows p) os) (sym f.options_are) new in
      let values = and_parts _ _ (ap have_values f.options_are ∙ valued) in
      let step = idle-pair names rows p word name value no_dashes long first.0 in
      let here = step.0 ∙ ap (λ k. or_else k (use_fault false (rule name) (value ∷ []) (settled_with names rows p))) none ∙ use-new names (settled_with names rows p) name value first.1 in
      let after = subst (λ (rs : List Row). IsNew names rs f.others) (sym (used-row names (settled_with names rows p) name value first.1)) first.2 in
      goes-on names (at rows p idle false) word words here ∙ ap (λ w. faults names w words) step.1 ∙ ih.from_idle _ None f.others refl f.read_is after values.1

  -- the option that waits is the first
  first_known : (words : List Text) (name : Text) (options : Options) (rows : List Row) → options_in words (Some name) ≡ Some options → IsNew names rows options → is_among name names ≡ true
  unfolding options_in
  first_known [] name options rows read new = none≢some options read
  first_known (word ∷ words) name options rows read new =
      let f = first_of_options name word (options_in words None) options read in
      (subst (λ (os : Options). IsNew names rows os) (sym f.options_are) new).0

  -- an option whose value is the next word
  singles : (rows : List Row) (p : Pending) (word name : Text) (words : List Text) (options : Options) → Accepts words → unsettled names rows p ≡ []
      → bytes_eq word (codes "--") ≡ false → long_of word ≡ Some (name, None) → options_in words (Some name) ≡ Some options
      → IsNew names (settled_with names rows p) options → have_values options ≡ true → faults names (at rows p idle false) (word ∷ words) ≡ []
  singles rows p word name words options ih none no_dashes long read new valued = go (is_among name names) refl
    where
      go : (b : Bool) → is_among name names ≡ b → faults names (at rows p idle false) (word ∷ words) ≡ []
      go true known =
          let step = idle-single names rows p word name no_dashes long known in
          goes-on names (at rows p idle false) word words (step.0 ∙ none) ∙ ap (λ w. faults names w words) step.1
          ∙ ih.from_waiting (settled_with names rows p) name options known read new valued
      go false unknown = absurd (true≢false (sym (first_known words name options _ read new) ∙ unknown))

  idle-more : (word : Text) (words : List Text) → Accepts words → (rows : List Row) (p : Pending) (options : Options) → Form word → unsettled names rows p ≡ []
      → options_in (word ∷ words) None ≡ Some options → IsNew names (settled_with names rows p) options → have_values options ≡ true
      → faults names (at rows p idle false) (word ∷ words) ≡ []
  unfolding options_in
  idle-more word words ih rows p options (dashes e) none read new valued = ends rows p word words options e none read
  idle-more word words ih rows p options (pair no_dashes opt has long) none read new valued =
      pairs rows p word (name_in word) (value_in word) words options ih none no_dashes long (rw (no_dashes, opt, has) at read) new valued
  idle-more word words ih rows p options (single no_dashes opt has long) none read new valued =
      singles rows p word (name_in word) words options ih none no_dashes long (rw (no_dashes, opt, has) at read) new valued
  idle-more word words ih rows p options (other no_dashes opt long) none read new valued = none≢some options (rw (no_dashes, opt) at read)

  waiting-more : (word : Text) (words : List Text) → Accepts words → (rows : List Row) (name : Text) (options : Options) → is_among name names ≡ true
      → options_in (word ∷ words) (Some name) ≡ Some options → IsNew names rows options → have_values options ≡ true
      → faults names (at rows (Some (name, [])) (option name) false) (word ∷ words) ≡ []
  unfolding options_in
  waiting-more word words ih rows name options known read new valued =
      let f = first_of_options name word (options_in words None) options read in
      let first = subst (λ (os : Options). IsNew names rows os) (sym f.options_are) new in
      let values = and_parts (is_value name word) _ (ap have_values f.options_are ∙ valued) in
      let plain = value-plain name word values.0 in
      let push = waiting-plain names rows name word known plain.no_dashes plain.no_long plain.no_short in
      let none = unsettled-value names rows name word known ∙ use-new names rows name word first.1 in
      let settled = settled-value names rows name word known ∙ used-row names rows name word first.1 in
      let after = subst (λ (rs : List Row). IsNew names rs f.others) (sym settled) first.2 in
      goes-on names (at rows (Some (name, [])) (option name) false) word words push.0 ∙ ap (λ w. faults names w words) push.1
      ∙ ih.from_idle rows (Some (name, word ∷ [])) f.others none f.read_is after values.1

  accepts : (words : List Text) → Accepts words
  unfolding options_in
  accepts [] = record {
    from_idle = λ rows p options none read new valued. no-words names (at rows p idle false) ∙ none;
    from_waiting = λ rows name options known read new valued. none≢some options read;
  }
  accepts (word ∷ words) =
      let ih = accepts words in
      record {
        from_idle = λ rows p options none read new valued. idle-more word words ih rows p options (form_of word) none read new valued;
        from_waiting = λ rows name options known read new valued. waiting-more word words ih rows name options known read new valued;
      }

  pub accepts-words : (words : List Text) (options : Options) → options_in words None ≡ Some options → IsNew names [] options → have_values options ≡ true
      → faults names (at [] None idle false) words ≡ []
  accepts-words words options read new valued = (accepts words).from_idle [] None options refl read new valued

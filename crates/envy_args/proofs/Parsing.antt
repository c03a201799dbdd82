-- The parser takes the words that give its options.
use Rattle.std.proofs.Common.{◌≡◌, ◌∙◌, ◌⊎◌, inl, inr, option_and_then, if◌then◌else◌, Bool, true, false, ◌&&◌, refl, sym, ap, subst, List, [], ◌∷◌, map, ℕ, Option, Some, None, is_some, count_by}
use Rattle.std.specs.List.{list_any, list_all}
use Rattle.std.specs.Str.{bytes_eq}
use Rattle.std.proofs.lemmas.Bool.{and_parts, false_from_ne_true}
use Rattle.clap.specs.Kinds.{IsAmong, or_else}
use Rattle.clap.specs.Faults.{built_fault, check_fault, entered_fault, fault_of, is_simple_and_free, level_fault, settle_fault, walk_fault}
use Rattle.clap.specs.Simple.{App, built, entered, is_simple, matches_of}
use Rattle.clap.specs.Walk.{Row, Text, finished, first_of, idle, is_early_multiple, nothing_held, walk}
use Rattle.clap.specs.declared.error.kind.ErrorKind.{ErrorKind}
use Rattle.clap.specs.declared.error.kind.ErrorKind.TheVariants.{OutOfMemory}
use Rattle.envy_args.specs.declared.command.WordsFault.{WordsFault}
use Rattle.envy_args.specs.declared.command.WordsFault.TheVariants.{Form, Memory}
use Rattle.envy_args.specs.Parser.{app_of_names, fault_of_kind, option_of, row_of, rule_named}
use Rattle.envy_args.specs.Words.{Options, accepted, are_known, have_values, options_in, value_of}
use Rattle.envy_args.proofs.Finds.{all-free, all-simple, rules, rules-built, no-defaults, no-default-fault, none-required}
use Rattle.envy_args.proofs.Steps.{at, else-nil, end, faults, parser, rows_at_end}
use Rattle.envy_args.proofs.Taking.{takes-words}
use Rattle.envy_args.proofs.Accepting.{accepts-words}
use Rattle.envy_args.proofs.Known.{known-new, new-known}

module _ (names : List Text) where
  abbrev app : App
  app = record { top = parser names; subs = [] }

  app-built : built (app_of_names names) ≡ app
  app-built = ap (λ rs. record { top = record (parser names) { rules = rs }; subs = [] }) (rules-built names)

  -- ---- it is simple

  no-early : (n : ℕ) (ns : List Text) → list_any (is_early_multiple n) (rules ns) ≡ false
  no-early n [] = refl
  no-early n (x ∷ ns) = no-early n ns

  simple-rules : (ns : List Text) → list_all (λ a. a.is_simple) (map rule_named ns) ≡ true
  simple-rules [] = refl
  simple-rules (x ∷ ns) = simple-rules ns

  pub app-is_simple : is_simple (app_of_names names) ≡ true
  app-is_simple = rw (rules-built names, simple-rules names, all-simple names, no-early (count_by (λ a. is_some a.index) (rules names)) names) refl

  pub app-simple : is_simple_and_free (app_of_names names) ≡ true
  app-simple = rw (rules-built names, simple-rules names, all-simple names, all-free names, no-early (count_by (λ a. is_some a.index) (rules names)) names) refl

  -- ---- its faults

  none-entered : (stop : Option (Text × List Text)) → is_some (entered app stop) ≡ false
  none-entered None = refl
  none-entered (Some p) = refl

  none-below : (stop : Option (Text × List Text)) → entered_fault app stop ≡ []
  none-below None = refl
  none-below (Some p) = refl

  no-checks : (rows : List Row) → check_fault (parser names) rows false ≡ []
  no-checks rows = rw (none-required rows names) refl

  app-faults : (words : List Text) → fault_of (app_of_names names) words ≡ faults names (at [] None idle false) words
  app-faults words =
      let w = end names (at [] None idle false) words in
      let s = settle_fault (rules names) false w.held in
      ap (λ a. built_fault a nothing_held words) app-built
      ∙ ap (λ b. level_fault (parser names) [] nothing_held words b (entered_fault app w.stopped)) (none-entered w.stopped)
      ∙ ap (λ k. level_fault (parser names) [] nothing_held words false k) (none-below w.stopped)
      ∙ ap (λ k. or_else (walk_fault (parser names) [] (at [] None idle false) words) (or_else s (or_else k (check_fault (parser names) (finished (rules names) w.held) false)))) (no-default-fault _ names)
      ∙ ap (λ k. or_else (walk_fault (parser names) [] (at [] None idle false) words) (or_else s k)) (no-checks (finished (rules names) w.held))
      ∙ ap (λ k. or_else (walk_fault (parser names) [] (at [] None idle false) words) k) (else-nil s)

  app-rows : (words : List Text) → matches_of (app_of_names names) words ≡ rows_at_end names (at [] None idle false) words
  app-rows words = ap (λ rs. finished rs (walk rs [] nothing_held words).held) (rules-built names) ∙ no-defaults _ names

  -- ---- what it takes

  -- the words give options, and these are the rows
  pub record Gives (words : List Text) : Type 0 where
    pub options : Options
    pub read : options_in words None ≡ Some options
    pub known : are_known names options ≡ true
    pub rows_are : matches_of (app_of_names names) words ≡ map row_of options

  pub gives : (words : List Text) → fault_of (app_of_names names) words ≡ [] → Gives words
  gives words none =
      let t = takes-words names words (sym (app-faults words) ∙ none) in
      record { options = t.options; read = t.is_read; known = known-new names t.options [] t.new; rows_are = app-rows words ∙ t.rows_are }

  pub no-fault : (words : List Text) (options : Options) → options_in words None ≡ Some options → are_known names options ≡ true → have_values options ≡ true
      → fault_of (app_of_names names) words ≡ []
  no-fault words options read known valued = app-faults words ∙ accepts-words names words options read (new-known names options known) valued

  -- ---- what it refuses

  which : (kind : ErrorKind) → (fault_of_kind kind ≡ Memory) ⊎ (fault_of_kind kind ≡ Form)
  which OutOfMemory = inl refl
  which _ = inr refl

  not-accepted : (words : List Text) (kind : ErrorKind) → IsAmong kind (fault_of (app_of_names names) words) → accepted names words ≡ None
  not-accepted words kind among = go (options_in words None) refl
    where
      go : (read : Option Options) → options_in words None ≡ read → accepted names words ≡ None
      go None is = rw is refl
      go (Some options) is = ap (option_and_then (λ o. if are_known names o && have_values o then Some o else None)) is ∙ ap (λ b. if b then Some options else None) (false_from_ne_true _ refuted)
        where
          refuted : (are_known names options && have_values options) ≡ true → ⊥
          refuted e = let p = and_parts (are_known names options) _ e in subst (IsAmong kind) (no-fault words options is p.0 p.1) among

  pub refused : (words : List Text) (fault : WordsFault) (kind : ErrorKind) → fault ≡ fault_of_kind kind
      → (kind ≡ OutOfMemory) ⊎ IsAmong kind (fault_of (app_of_names names) words) → (fault ≡ Memory) ⊎ ((fault ≡ Form) × (accepted names words ≡ None))
  refused words fault kind is (inl memory) = inl (is ∙ ap fault_of_kind memory)
  refused words fault kind is (inr among) = elim (which kind) [ inl memory ↦ inl (is ∙ memory) | inr form ↦ inr (is ∙ form, not-accepted words kind among) ]

-- ---- the options of rows

pub options-of_rows : (options : Options) → map option_of (map row_of options) ≡ options
options-of_rows [] = refl
options-of_rows (o ∷ options) = ap (λ os. o ∷ os) (options-of_rows options)

-- the first value that the rows have is the value that the option is given
pub first-value_of : (name : Text) (options : Options) → first_of name (map row_of options) ≡ value_of options name
first-value_of name [] = refl
first-value_of name (o ∷ options) = go (bytes_eq o.0 name) refl (first-value_of name options)
  where
    go : (b : Bool) → bytes_eq o.0 name ≡ b → first_of name (map row_of options) ≡ value_of options name → first_of name (map row_of (o ∷ options)) ≡ value_of (o ∷ options) name
    go true e others = rw e refl
    go false e others = rw e others

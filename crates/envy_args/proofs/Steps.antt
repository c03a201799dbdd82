-- What `clap` makes of one more word, where the parser has only options.
use Rattle.std.proofs.Common.{◌≡◌, ◌∙◌, ◌⊎◌, inl, inr, ℕ, zero, suc, Bool, true, false, refl, ap, List, [], ◌∷◌, ◌++◌, append-nil, length, fold, Option, Some, None, codes, arith}
use Rattle.std.specs.Prelude.{slice_get}
use Rattle.std.specs.Str.{bytes_eq, chars}
use Rattle.clap.specs.Lexer.{long_of, short_of}
use Rattle.clap.specs.Kinds.{Kinds, or_else}
use Rattle.clap.specs.declared.error.kind.ErrorKind.{ErrorKind}
use Rattle.clap.specs.declared.error.kind.ErrorKind.TheVariants.{UnknownArgument}
use Rattle.clap.specs.declared.parser.matches.ValueSource.TheVariants.{CommandLine}
use Rattle.std.proofs.lemmas.Slice.Eq.{bytes_eq-Decides}
use Rattle.clap.specs.Faults.{flags_fault, settle_fault, step_fault, turn_fault, word_fault, use_fault, walk_fault}
use Rattle.clap.specs.Simple.{Shape, new_shape}
use Rattle.clap.specs.Walk.{Held, Row, Text, Waiting, Walk, bundle_met, has_row, idle, option, settled, used, walked, plain, refused, value as stray_value, word_met, short_or_plain, without, with_values, more_values, reading_by}
use Rattle.envy_args.specs.Parser.{row_of}
use Rattle.envy_args.proofs.Finds.{rule, rules, is_among, long-known, long-unknown, id-known, no-short, no-index, at-end}

pub no-kind : {A : Type 0} (k : ErrorKind) (ks : Kinds) → k ∷ ks ≡ [] → A
no-kind k ks e = let n : length (k ∷ ks) ≡ 0 = ap length e in absurd (omega arith)

pub both-none : (a b : Kinds) → or_else a b ≡ [] → (a ≡ []) × (b ≡ [])
both-none [] b e = (refl, e)
both-none (k ∷ ks) b e = no-kind k ks e

else-assoc : (a b d : Kinds) → or_else (or_else a b) d ≡ or_else a (or_else b d)
else-assoc [] b d = refl
else-assoc (k ∷ ks) b d = refl

pub else-nil : (a : Kinds) → or_else a [] ≡ a
else-nil [] = refl
else-nil (k ∷ ks) = refl

-- the parser, after building
abbrev pub parser : List Text → Shape
parser names = record (new_shape (codes "envy")) { rules = rules names; no_binary_name = true; disable_help_flag = true; disable_help_subcommand = true; is_built = true }

abbrev pub Pending : Type 0
Pending = Option (Text × List Text)

abbrev pub held : List Row → Pending → Held
held rows pending = record { rows = rows; pending = pending; skip = 0 }

-- between two words
abbrev pub at : List Row → Pending → Waiting → Bool → Walk
at rows pending waiting trailing = record { held = held rows pending; waiting = waiting; position = 1; is_trailing = trailing; stopped = None }

module _ (names : List Text) where
  -- what is wrong with a word, and with all from here on
  abbrev pub turn : Walk → Text → Kinds
  turn w word = turn_fault (parser names) [] w word

  abbrev pub next : Walk → Text → Walk
  next w word = walked (rules names) [] w word

  abbrev pub end : Walk → List Text → Walk
  end w words = fold (walked (rules names) []) w words

  abbrev pub unsettled : List Row → Pending → Kinds
  unsettled rows pending = settle_fault (rules names) false (held rows pending)

  abbrev pub settled_with : List Row → Pending → List Row
  settled_with rows pending = (settled (rules names) (held rows pending)).rows

  abbrev pub faults : Walk → List Text → Kinds
  faults w words = or_else (walk_fault (parser names) [] w words) (settle_fault (rules names) false (end w words).held)

  abbrev pub rows_at_end : Walk → List Text → List Row
  rows_at_end w words = (settled (rules names) (end w words).held).rows

  pub one-word : (w : Walk) (word : Text) (words : List Text) → faults w (word ∷ words) ≡ or_else (turn w word) (faults (next w word) words)
  unfolding walk_fault
  one-word w word words = else-assoc (turn w word) (walk_fault (parser names) [] (next w word) words) _

  pub no-words : (w : Walk) → faults w [] ≡ settle_fault (rules names) false w.held
  unfolding walk_fault
  no-words w = refl

  -- ---- `--`, and what follows it

  pub idle-dashes : (rows : List Row) (p : Pending) (word : Text) → bytes_eq word (codes "--") ≡ true
      → (turn (at rows p idle false) word ≡ []) × (next (at rows p idle false) word ≡ at rows p idle true)
  unfolding walked
  idle-dashes rows p word e = (rw e refl, rw e refl)

  pub waiting-dashes : (rows : List Row) (p : Pending) (name word : Text) → bytes_eq word (codes "--") ≡ true
      → (turn (at rows p (option name) false) word ≡ []) × (next (at rows p (option name) false) word ≡ at rows p (option name) true)
  unfolding walked
  waiting-dashes rows p name word e = (rw e refl, rw e refl)

  pub trailing-fails : (rows : List Row) (p : Pending) (waiting : Waiting) (word : Text) → turn (at rows p waiting true) word ≡ [] → ⊥
  trailing-fails rows p waiting word e = no-kind _ _ (rw (no-index names 1) at e)

  -- ---- an option, where nothing waits

  pub idle-pair : (rows : List Row) (p : Pending) (word name value : Text) → bytes_eq word (codes "--") ≡ false → long_of word ≡ Some (name, Some value)
      → is_among name names ≡ true
      → (turn (at rows p idle false) word ≡ or_else (unsettled rows p) (use_fault false (rule name) (value ∷ []) (settled_with rows p)))
      × (next (at rows p idle false) word ≡ at (used (rule name) (value ∷ []) (settled_with rows p)) None idle false)
  unfolding walked
  idle-pair rows p word name value dashes e known =
      (rw (dashes, e, long-known names name known) (else-nil _), rw (dashes, e, long-known names name known) refl)

  pub idle-single : (rows : List Row) (p : Pending) (word name : Text) → bytes_eq word (codes "--") ≡ false → long_of word ≡ Some (name, None)
      → is_among name names ≡ true
      → (turn (at rows p idle false) word ≡ unsettled rows p)
      × (next (at rows p idle false) word ≡ at (settled_with rows p) (Some (name, [])) (option name) false)
  unfolding walked
  idle-single rows p word name dashes e known =
      (rw (dashes, e, long-known names name known) (else-nil _), rw (dashes, e, long-known names name known) refl)

  pub idle-unknown : (rows : List Row) (p : Pending) (word name : Text) (value : Option Text) → bytes_eq word (codes "--") ≡ false → long_of word ≡ Some (name, value)
      → is_among name names ≡ false → turn (at rows p idle false) word ≡ [] → ⊥
  idle-unknown rows p word name value dashes e unknown none = no-kind _ _ (rw (dashes, e, long-unknown names name unknown) at none)

  -- ---- a word that is no option, where nothing waits

  no-bundle : (k : ℕ) (flags : Text) (h : Held) → (bundle_met (rules names) k flags 0 plain h ≡ (h, plain)) ⊎ (bundle_met (rules names) k flags 0 plain h ≡ (h, refused))
  unfolding bundle_met
  no-bundle zero flags h = inl refl
  no-bundle (suc k) flags h = go (slice_get (chars flags) 0) refl
    where
      go : (first : Option ℕ) → slice_get (chars flags) 0 ≡ first
          → (bundle_met (rules names) (suc k) flags 0 plain h ≡ (h, plain)) ⊎ (bundle_met (rules names) (suc k) flags 0 plain h ≡ (h, refused))
      go None e = inl (rw e refl)
      go (Some x) e = inr (rw (e, no-short names x) refl)

  -- the word is given to a positional, of which there is none
  stray : (rows : List Row) (p : Pending) (word : Text) → bytes_eq word (codes "--") ≡ false → long_of word ≡ None
      → word_met (rules names) [] false idle 1 word (held rows p) ≡ (held rows p, stray_value)
  stray rows p word dashes e = rw (dashes, e) (go (short_of word) refl)
    where
      go : (flags : Option Text) → short_of word ≡ flags → short_or_plain (rules names) idle word flags (held rows p) ≡ (held rows p, stray_value)
      go None is = refl
      go (Some flags) is = elim (no-bundle (length flags) flags (held rows p)) [ inl b ↦ rw b refl | inr b ↦ rw b refl ]

  pub idle-other : (rows : List Row) (p : Pending) (word : Text) → bytes_eq word (codes "--") ≡ false → long_of word ≡ None → turn (at rows p idle false) word ≡ [] → ⊥
  idle-other rows p word dashes e none =
      let met = word_met (rules names) [] false idle 1 word (held rows p) in
      let second = (both-none (word_fault (parser names) [] false idle word (held rows p)) (step_fault (parser names) 1 met.0 met.1) none).1 in
      no-kind _ _ (rw (stray rows p word dashes e, no-index names 1) at second)

  -- ---- a word, where an option waits for its value

  itself : (name : Text) → bytes_eq name name ≡ true
  itself name = (bytes_eq-Decides name name).1 refl

  pub waiting-long : (rows : List Row) (name word other : Text) (value : Option Text) → is_among name names ≡ true
      → bytes_eq word (codes "--") ≡ false → long_of word ≡ Some (other, value) → turn (at rows (Some (name, [])) (option name) false) word ≡ [] → ⊥
  waiting-long rows name word other value known dashes e none = go (is_among other names) refl value e
    where
      go : (b : Bool) → is_among other names ≡ b → (v : Option Text) → long_of word ≡ Some (other, v) → ⊥
      go true is (Some v) e = no-kind _ _ (rw (dashes, e, long-known names other is, id-known names name known) at none)
      go true is None e = no-kind _ _ (rw (dashes, e, long-known names other is, id-known names name known) at none)
      go false is v e = no-kind _ _ (rw (dashes, e, long-unknown names other is) at none)

  -- the word is the value of the option that waits
  abbrev pub Pushes : List Row → Text → Text → Type 0
  Pushes rows name word =
      (turn (at rows (Some (name, [])) (option name) false) word ≡ [])
      × (next (at rows (Some (name, [])) (option name) false) word ≡ at rows (Some (name, word ∷ [])) idle false)

  read-bundle : (k : ℕ) (flags : Text) (h : Held)
      → ((flags_fault (rules names) false k flags 0 h ≡ []) × (bundle_met (rules names) k flags 0 plain h ≡ (h, plain)))
      ⊎ ((flags_fault (rules names) false k flags 0 h) ≡ UnknownArgument ∷ [])
  unfolding flags_fault bundle_met
  read-bundle zero flags h = inl (refl, refl)
  read-bundle (suc k) flags h = go (slice_get (chars flags) 0) refl
    where
      go : (first : Option ℕ) → slice_get (chars flags) 0 ≡ first
          → ((flags_fault (rules names) false (suc k) flags 0 h ≡ []) × (bundle_met (rules names) (suc k) flags 0 plain h ≡ (h, plain)))
          ⊎ ((flags_fault (rules names) false (suc k) flags 0 h) ≡ UnknownArgument ∷ [])
      go None e = inl (rw e refl, rw e refl)
      go (Some x) e = inr (rw (e, no-short names x) refl)

  pub waiting-plain : (rows : List Row) (name word : Text) → is_among name names ≡ true → bytes_eq word (codes "--") ≡ false → long_of word ≡ None
      → short_of word ≡ None → Pushes rows name word
  unfolding walked
  waiting-plain rows name word known dashes e is = (rw (dashes, e, is) refl, rw (dashes, e, is, id-known names name known, itself name) refl)

  pub waiting-other : (rows : List Row) (name word : Text) → is_among name names ≡ true → bytes_eq word (codes "--") ≡ false → long_of word ≡ None
      → Pushes rows name word ⊎ (turn (at rows (Some (name, [])) (option name) false) word ≡ [] → ⊥)
  unfolding walked
  waiting-other rows name word known dashes e = go (short_of word) refl
    where
      go : (flags : Option Text) → short_of word ≡ flags → Pushes rows name word ⊎ (turn (at rows (Some (name, [])) (option name) false) word ≡ [] → ⊥)
      go None is = inl (waiting-plain rows name word known dashes e is)
      go (Some flags) is = elim (read-bundle (length flags) flags (held rows (Some (name, [])))) [
        | inl b ↦ inl (rw (dashes, e, is, b.0, b.1) refl, rw (dashes, e, is, b.1, id-known names name known, itself name) refl)
        | inr b ↦ inr (λ none. no-kind _ _ (rw (dashes, e, is, b) at none))
      ]

  -- ---- values

  pub use-new : (rows : List Row) (name value : Text) → has_row name rows ≡ false → use_fault false (rule name) (value ∷ []) rows ≡ []
  use-new rows name value e = rw e refl

  pub new-used : (rows : List Row) (name value : Text) → use_fault false (rule name) (value ∷ []) rows ≡ [] → has_row name rows ≡ false
  new-used rows name value none = go (has_row name rows) refl
    where
      go : (b : Bool) → has_row name rows ≡ b → has_row name rows ≡ false
      go false e = e
      go true e = no-kind _ _ (rw e at none)

  pub used-row : (rows : List Row) (name value : Text) → has_row name rows ≡ false → used (rule name) (value ∷ []) rows ≡ rows ++ row_of (name, value) ∷ []
  used-row rows name value e =
      let out : without name rows ≡ rows = at-end name (λ _. []) [] rows e ∙ append-nil rows in
      ap (with_values name (reading_by (rule name)) CommandLine (value ∷ [])) out ∙ at-end name (more_values CommandLine (value ∷ [])) _ rows e

  -- what waits to be used at the end
  pub unsettled-value : (rows : List Row) (name value : Text) → is_among name names ≡ true → unsettled rows (Some (name, value ∷ [])) ≡ use_fault false (rule name) (value ∷ []) rows
  unsettled-value rows name value known = rw (id-known names name known) refl

  pub settled-value : (rows : List Row) (name value : Text) → is_among name names ≡ true → settled_with rows (Some (name, value ∷ [])) ≡ used (rule name) (value ∷ []) rows
  settled-value rows name value known = rw (id-known names name known) refl

  pub unsettled-none : (rows : List Row) (name : Text) → is_among name names ≡ true → unsettled rows (Some (name, [])) ≡ [] → ⊥
  unsettled-none rows name known none = no-kind _ _ (rw (id-known names name known) at none)

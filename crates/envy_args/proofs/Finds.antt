-- What `clap` finds among the options of a parser.
use Rattle.std.proofs.Common.{◌≡◌, ◌∙◌, ℕ, Bool, true, false, not, ◌&&◌, ◌||◌, cond, refl, sym, ap, List, [], ◌∷◌, ◌++◌, map, Some, None, true≢false, fold}
use Rattle.std.specs.List.{list_any, list_all}
use Rattle.std.specs.Str.{bytes_eq}
use Rattle.std.proofs.lemmas.Bool.{or_parts}
use Rattle.std.proofs.lemmas.Slice.Eq.{bytes_eq-Decides}
use Rattle.std.proofs.Math.Bool.{or-false}
use Rattle.clap.specs.Walk.{Row, Rule, Text, arg_by_id, arg_by_index, arg_by_long, arg_by_short, at_row, has_row, with_default}
use Rattle.clap.specs.Takes.{is_given}
use Rattle.clap.specs.Simple.{filled, filled_from}
use Rattle.clap.specs.Faults.{defaults_fault}
use Rattle.envy_args.specs.Parser.{rule_named}

-- the rule of an option, after building
abbrev pub rule : Text → Rule
rule name = filled (rule_named name)

abbrev pub rules : List Text → List Rule
rules names = map rule names

abbrev pub is_among : Text → List Text → Bool
is_among name names = list_any (λ known. bytes_eq known name) names

pub rules-built : (names : List Text) → filled_from 1 (map rule_named names) ≡ rules names
rules-built [] = refl
rules-built (n ∷ names) = ap (λ rs. rule n ∷ rs) (rules-built names)

-- texts with the same bytes are one
pub same : (n name : Text) → bytes_eq n name ≡ true → n ≡ name
same n name e = (bytes_eq-Decides n name).0 e

-- ---- by a long name

pub long-known : (names : List Text) (name : Text) → is_among name names ≡ true → arg_by_long (rules names) name ≡ Some (rule name)
long-known [] name e = absurd (true≢false (sym e))
long-known (n ∷ names) name e = go (bytes_eq n name) refl (long-known names name)
  where
    go : (b : Bool) → bytes_eq n name ≡ b → (is_among name names ≡ true → arg_by_long (rules names) name ≡ Some (rule name))
        → arg_by_long (rules (n ∷ names)) name ≡ Some (rule name)
    go true is others = rw (or-false (bytes_eq n name), is) (ap (λ t. Some (rule t)) (same n name is))
    go false is others = rw (or-false (bytes_eq n name), is) (others (sym (ap (λ b. b || is_among name names) is) ∙ e))

pub long-unknown : (names : List Text) (name : Text) → is_among name names ≡ false → arg_by_long (rules names) name ≡ None
long-unknown [] name e = refl
long-unknown (n ∷ names) name e =
    let parts = or_parts (bytes_eq n name) _ e in
    rw (or-false (bytes_eq n name), parts.0) (long-unknown names name parts.1)

-- ---- by its id

pub id-known : (names : List Text) (name : Text) → is_among name names ≡ true → arg_by_id (rules names) name ≡ Some (rule name)
id-known [] name e = absurd (true≢false (sym e))
id-known (n ∷ names) name e = go (bytes_eq n name) refl (id-known names name)
  where
    go : (b : Bool) → bytes_eq n name ≡ b → (is_among name names ≡ true → arg_by_id (rules names) name ≡ Some (rule name))
        → arg_by_id (rules (n ∷ names)) name ≡ Some (rule name)
    go true is others = rw is (ap (λ t. Some (rule t)) (same n name is))
    go false is others = rw is (others (sym (ap (λ b. b || is_among name names) is) ∙ e))

-- ---- there is no short name, and no positional

pub no-short : (names : List Text) (x : ℕ) → arg_by_short (rules names) x ≡ None
no-short [] x = refl
no-short (n ∷ names) x = no-short names x

pub no-index : (names : List Text) (i : ℕ) → arg_by_index (rules names) i ≡ None
no-index [] i = refl
no-index (n ∷ names) i = no-index names i

-- ---- there is no default, and nothing is required

defaulted : (rows : List Row) (name : Text) → with_default rows (rule name) ≡ rows
defaulted rows name = go (has_row name rows)
  where
    go : (b : Bool) → cond b rows rows ≡ rows
    go true = refl
    go false = refl

pub no-defaults : (rows : List Row) (names : List Text) → fold with_default rows (rules names) ≡ rows
no-defaults rows [] = refl
no-defaults rows (n ∷ names) = ap (λ rs. fold with_default rs (rules names)) (defaulted rows n) ∙ no-defaults rows names

pub no-default-fault : (rows : List Row) (names : List Text) → defaults_fault rows (rules names) ≡ []
unfolding defaults_fault
no-default-fault rows [] = refl
no-default-fault rows (n ∷ names) = go (has_row n rows) refl (no-default-fault rows names)
  where
    go : (b : Bool) → has_row n rows ≡ b → defaults_fault rows (rules names) ≡ [] → defaults_fault rows (rules (n ∷ names)) ≡ []
    go true is others = rw is others
    go false is others = rw is others

pub none-required : (rows : List Row) (names : List Text) → list_any (λ a. a.required && not (is_given a.id rows)) (rules names) ≡ false
none-required rows [] = refl
none-required rows (n ∷ names) = none-required rows names

pub all-simple : (names : List Text) → list_all (λ a. a.is_simple) (rules names) ≡ true
all-simple [] = refl
all-simple (n ∷ names) = all-simple names

pub all-free : (names : List Text) → list_all (λ a. a.is_free) (rules names) ≡ true
all-free [] = refl
all-free (n ∷ names) = all-free names

-- ---- rows

-- a row that isn't there is put at the end
pub at-end : (id : Text) (change : Row → List Row) (missing rows : List Row) → has_row id rows ≡ false → at_row id change missing rows ≡ rows ++ missing
at-end id change missing [] e = refl
at-end id change missing (r ∷ rows) e =
    let parts = or_parts (bytes_eq r.id id) _ e in
    rw parts.0 (ap (λ rs. r ∷ rs) (at-end id change missing rows parts.1))

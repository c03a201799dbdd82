-- The words behind `keep`, and what they name.
use Rattle.std.proofs.Common.{◌≡◌, ◌∙◌, Bool, true, false, ◌&&◌, ap, sym, refl, List, [], ◌∷◌, Option, Some, None, Ok, Err, codes, option_and_then, if◌then◌else◌, true≢false}
use Rattle.std.specs.Option.{option_map_or}
use Rattle.std.proofs.lemmas.Bool.{and_from, and_left, and_right, false_from_ne_true}
use Rattle.envy_args.specs.declared.command.WordsFault.TheVariants.{Form}
use Rattle.envy_args.specs.declared.keep.KeepOptions.{KeepOptions}
use Rattle.envy_args.specs.Words.{Options, Text, accepted, are_known, have_values, is_path, is_value, options_in, plain_options, value_of}
use Rattle.envy_args.specs.Reading.{are_readable, is_readable}
use Rattle.envy_args.specs.Keep.{at_path, beside_file, bytewise_of, keep_names, keep_of, keep_options_of, keeping}
use Rattle.envy_args.proofs.Valued.{all-readable, have-values}

-- an option of `plain` that can't be read
pub beside : (o : Options) → are_readable plain_options o ≡ false → are_readable beside_file o ≡ false
beside o e = and_right (is_readable o (codes "compact")) _ e

pub beside-compact : (o : Options) → is_readable o (codes "compact") ≡ false → are_readable beside_file o ≡ false
beside-compact o e = and_left _ _ e

pub beside-all : (o : Options) → is_readable o (codes "compact") ≡ true → are_readable plain_options o ≡ true → are_readable beside_file o ≡ true
beside-all o compact plain = and_from (is_readable o (codes "compact")) _ compact plain

pub unread : (words : List Text) → accepted keep_names words ≡ None → keep_of words ≡ Err Form
unfolding keep_of
unread words none = ap (λ o. option_map_or keeping o (Err Form)) none

module _ (words : List Text) (o : Options) (read : options_in words None ≡ Some o) (known : are_known keep_names o ≡ true) where
  abbrev file : Option Text
  file = value_of o (codes "file")

  by-values : (b : Bool) → have_values o ≡ b → keep_of words ≡ (if b then keeping o else Err Form)
  unfolding keep_of
  by-values b is =
      ap (λ r. option_map_or keeping (option_and_then (λ os. if are_known keep_names os && have_values os then Some os else None) r) (Err Form)) read
      ∙ ap (λ k. option_map_or keeping (if k && have_values o then Some o else None) (Err Form)) known
      ∙ go b is
    where
      go : (d : Bool) → have_values o ≡ d → option_map_or keeping (if have_values o then Some o else None) (Err Form) ≡ (if d then keeping o else Err Form)
      go true e = rw e refl
      go false e = rw e refl

  unvalued : have_values o ≡ false → keep_of words ≡ Err Form
  unvalued e = by-values false e

  pub no-options : are_readable beside_file o ≡ false → keep_of words ≡ Err Form
  no-options e = unvalued (false_from_ne_true (have_values o) (λ valued. true≢false (sym (all-readable beside_file o valued) ∙ e)))

  pub no-trust : is_readable o (codes "bytewise") ≡ false → keep_of words ≡ Err Form
  no-trust e = unvalued (false_from_ne_true (have_values o) (λ valued. true≢false (sym (all-readable (codes "bytewise" ∷ []) o valued) ∙ ap (λ b. b && true) e)))

  pub no-path : option_map_or is_path (value_of o (codes "file")) false ≡ false → keep_of words ≡ Err Form
  no-path e = go file refl e
    where
      none : (b : Bool) → file ≡ None → keep_of words ≡ (if b then keeping o else Err Form) → keep_of words ≡ Err Form
      none true is all = all ∙ ap (λ (p : Option Text). at_path p (bytewise_of o) (keep_options_of o)) is
      none false is all = all

      go : (v : Option Text) → file ≡ v → option_map_or is_path v false ≡ false → keep_of words ≡ Err Form
      go None is bad = none (have_values o) is (by-values (have_values o) refl)
      go (Some text) is bad =
          let unread : is_readable o (codes "file") ≡ false = ap (λ (v : Option Text). option_map_or (is_value (codes "file")) v true) is ∙ bad in
          unvalued (false_from_ne_true (have_values o) (λ valued. true≢false (sym (all-readable keep_names o valued) ∙ ap (λ b. b && are_readable (codes "bytewise" ∷ beside_file) o) unread)))

  named : (path : Text) → value_of o (codes "file") ≡ Some path → is_path path ≡ true → is_readable o (codes "bytewise") ≡ true → are_readable beside_file o ≡ true
      → keep_of words ≡ Ok (path, bytewise_of o, keep_options_of o)
  named path is good told plain =
      let readable : is_readable o (codes "file") ≡ true = ap (λ (v : Option Text). option_map_or (is_value (codes "file")) v true) is ∙ good in
      by-values true (have-values keep_names o known (and_from (is_readable o (codes "file")) _ readable (and_from (is_readable o (codes "bytewise")) _ told plain)))
      ∙ ap (λ (p : Option Text). at_path p (bytewise_of o) (keep_options_of o)) is

  -- the same of what was read
  pub named-as : (path : Text) (bytewise : Bool) (options : KeepOptions) → value_of o (codes "file") ≡ Some path → is_path path ≡ true
      → is_readable o (codes "bytewise") ≡ true → are_readable beside_file o ≡ true → bytewise ≡ bytewise_of o → options ≡ keep_options_of o
      → keep_of words ≡ Ok (path, bytewise, options)
  named-as path bytewise options is good told plain trusted asked =
      named path is good told plain
      ∙ ap (λ (b : Bool). Ok (path, b, keep_options_of o)) (sym trusted)
      ∙ ap (λ (k : KeepOptions). Ok (path, bytewise, k)) (sym asked)

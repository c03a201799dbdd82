-- The table of commands.
use Rattle.std.proofs.Common.{◌≡◌, ◌∙◌, String, Global, string_bytes, length, arith, Bool, true, false, ◌&&◌, ap, sym, refl, List, [], ◌∷◌, find, Option, Some, None, Result, Err, option_and_then, if◌then◌else◌, true≢false, map}
use Rattle.std.specs.Option.{option_map_or}
use Rattle.std.specs.Str.{bytes_eq}
use Rattle.std.proofs.lemmas.Bool.{false_from_ne_true}
use Rattle.envy_args.specs.declared.command.Command.{Command}
use Rattle.envy_args.specs.declared.command.WordsFault.{WordsFault}
use Rattle.envy_args.specs.declared.command.WordsFault.TheVariants.{Form}
use Rattle.envy_args.specs.declared.word.Word.{Word}
use Rattle.envy_args.specs.Words.{Entry, Options, Text, accepted, are_known, command_of, commands, have_values, look_up, options_in}
use Rattle.envy_args.specs.Reading.{all, are_readable, made, make_of, options_of, word_of}
use Rattle.envy_args.proofs.Valued.{all-readable, have-values}

abbrev entry_of : Word → Entry
entry_of word = record { name = word_of word; options = options_of word; make = make_of word }

-- what comes of the first of these words that has the text
abbrev by_word : Option Word → List Text → Result Command WordsFault
by_word None words = Err Form
by_word (Some word) words = option_map_or (make_of word) (accepted (options_of word) words) (Err Form)

found : (table : List Word) (name : Text) (words : List Text) → look_up (map entry_of table) name words ≡ by_word (find (λ word. bytes_eq (word_of word) name) table) words
found [] name words = refl
found (word ∷ table) name words = go (bytes_eq (word_of word) name) refl (found table name words)
  where
    go : (b : Bool) → bytes_eq (word_of word) name ≡ b → look_up (map entry_of table) name words ≡ by_word (find (λ word. bytes_eq (word_of word) name) table) words
        → look_up (map entry_of (word ∷ table)) name words ≡ by_word (find (λ word. bytes_eq (word_of word) name) (word ∷ table)) words
    go true e others = rw e refl
    go false e others = rw e others

pub looked-up : (name : Text) (words : List Text) (word : Option Word) → word ≡ find (λ word. bytes_eq (word_of word) name) all → look_up commands name words ≡ by_word word words
looked-up name words word e = found all name words ∙ ap (λ w. by_word w words) (sym e)

-- words that give known options make what these make
pub accepted-made : (names words : List Text) (make : Options → Result Command WordsFault) (o : Options) → options_in words None ≡ Some o → are_known names o ≡ true
    → option_map_or make (accepted names words) (Err Form) ≡ made names make o
accepted-made names words make o read known =
    ap (λ r. option_map_or make (option_and_then (λ os. if are_known names os && have_values os then Some os else None) r) (Err Form)) read
    ∙ ap (λ b. option_map_or make (if b && have_values o then Some o else None) (Err Form)) known
    ∙ go (are_readable names o) refl
  where
    go : (b : Bool) → are_readable names o ≡ b → option_map_or make (if have_values o then Some o else None) (Err Form) ≡ made names make o
    go true e = rw (have-values names o known e, e) refl
    go false e = rw (false_from_ne_true (have_values o) (λ valued. true≢false (sym (all-readable names o valued) ∙ e)), e) refl

-- ---- words, by their bytes

abbrev pub bytes : List (String Global) → List Text
bytes = map (λ word. string_bytes word)

pub no-words : (words : List (String Global)) → length words ≡ 0 → command_of (bytes words) ≡ Err Form
unfolding command_of
no-words [] e = refl
no-words (w ∷ words) e = absurd (omega arith)

module _ (words others : List (String Global)) (first : String Global) (split : words ≡ first ∷ others) (text : Text) (text_is : text ≡ string_bytes first)
    (word : Option Word) (found_is : word ≡ find (λ word. bytes_eq (word_of word) text) all) where
  commanded : command_of (bytes words) ≡ by_word word (bytes others)
  unfolding command_of
  commanded = ap (λ ws. command_of (bytes ws)) split ∙ ap (λ t. look_up commands t (bytes others)) (sym text_is) ∙ looked-up text (bytes others) word found_is

  pub no-command : word ≡ None → command_of (bytes words) ≡ Err Form
  no-command e = commanded ∙ ap (λ w. by_word w (bytes others)) e

  module _ (named : Word) (word_is : word ≡ Some named) (names : List Text) (names_are : names ≡ options_of named) where
    pub no-options : accepted names (bytes others) ≡ None → command_of (bytes words) ≡ Err Form
    no-options e =
        commanded ∙ ap (λ w. by_word w (bytes others)) word_is
        ∙ ap (λ o. option_map_or (make_of named) o (Err Form)) (ap (λ ns. accepted ns (bytes others)) (sym names_are) ∙ e)

    pub command-made : (o : Options) → options_in (bytes others) None ≡ Some o → are_known names o ≡ true → made (options_of named) (make_of named) o ≡ command_of (bytes words)
    command-made o read known =
        let known_of = ap (λ ns. are_known ns o) (sym names_are) ∙ known in
        sym (commanded ∙ ap (λ w. by_word w (bytes others)) word_is ∙ accepted-made (options_of named) (bytes others) (make_of named) o read known_of)

-- Which words are understood, and which command they name.
use Rattle.std.specs.Prelude.{ℕ, ◌+◌, ◌*◌, ◌^◌, ◌==◌, nat_lt, nat_le, Bool, true, false, ◌&&◌, ◌||◌, not, if◌then◌else◌, List, [], ◌∷◌, ◌++◌, length, drop, find, codes, Option, None, Some, is_some, unwrap_or, Result, Ok, Err}
use Rattle.std.specs.List.{list_any, list_all, starts_with, before_first, after_first}
use Rattle.std.specs.Option.{option_map, option_map_or, option_and_then}
use Rattle.std.specs.Str.{bytes_eq, all_ascii_digits}
use Rattle.std.specs.Str.Parse.{digits_value}
use Rattle.envy_array.specs.declared.area.Area.{Area}
use Rattle.envy_base.specs.declared.shape.Shape.{Shape}
use Rattle.envy_array.specs.Area.{history_at}
use Rattle.envy_policy.specs.declared.setup.Policy.{Policy}
use Rattle.envy_gen.specs.declared.mix.Mix.{Mix}
use Rattle.envy_gen.specs.declared.mix.Skew.{Skew}
use Rattle.envy_policy.specs.declared.setup.Policy.TheVariants.{Greedy, Fifo, Locality, Hybrid, Lifetime}
use Rattle.envy_policy.specs.declared.setup.Setup.{Setup}
use Rattle.envy_policy.specs.declared.setup.SetupFault.{SetupFault}
use Rattle.envy_policy.specs.Setup.{checked_within, rule_of}
use Rattle.envy_args.specs.declared.command.Command.{Command}
use Rattle.envy_args.specs.declared.command.Command.TheVariants.{Run, Plain, Tpca, Gen, Save, Resume, Audit, Map, Index, Mirror}
use Rattle.envy_args.specs.declared.read.TheConstants.{USUAL_ROWS}
use Rattle.envy_args.specs.declared.command.WordsFault.{WordsFault}
use Rattle.envy_args.specs.declared.command.WordsFault.TheVariants.{Form, Setup as Rule}
use Rattle.envy_base.specs.declared.page.TheConstants.{PAGE_WORDS}
use Rattle.envy_base.specs.declared.shape.TheConstants.{MOST_ROWS}

-- a word, a name or a value, as bytes
abbrev pub Text : Type 0
Text = List ℕ

-- Options

-- options with their values, in the order of the words
abbrev pub Options : Type 0
Options = List (Text × Text)

abbrev pub is_equals : ℕ → Bool
is_equals byte = byte == 61

-- `--name` or `--name=value`
abbrev pub is_option : Text → Bool
is_option word = starts_with ◌==◌ word (codes "--")

abbrev pub has_value : Text → Bool
has_value word = list_any is_equals (drop 2 word)

abbrev pub name_in : Text → Text
name_in word = before_first is_equals (drop 2 word)

abbrev pub value_in : Text → Text
value_in word = after_first is_equals (drop 2 word)

abbrev pub with_option : Text → Text → Option Options → Option Options
with_option name value = option_map (λ others. (name, value) ∷ others)

-- behind `--` no word stands
abbrev pub no_more : List Text → Option Options
no_more [] = Some []
no_more (word ∷ words) = None

-- the options of the words; where an option waits, the first word is its value
unfoldable pub options_in : List Text → Option Text → Option Options
options_in [] None = Some []
options_in [] (Some name) = None
options_in (word ∷ words) (Some name) = with_option name word (options_in words None)
options_in (word ∷ words) None =
    if bytes_eq word (codes "--") then no_more words
    else (if not (is_option word) then None
    else (if has_value word then with_option (name_in word) (value_in word) (options_in words None)
    else options_in words (Some (name_in word))))

-- Values

-- one decimal digit or more, of a value within so many bits
abbrev pub is_number : ℕ → Text → Bool
is_number bits text = nat_lt 0 (length text) && (all_ascii_digits text && nat_lt (digits_value 10 text) (2 ^ bits))

-- the policy of this name; partitions of so many positions are those of hybrid alone
abbrev pub policy_named : ℕ → Text → Option Policy
policy_named part text =
    if bytes_eq text (codes "greedy") then Some Greedy
    else (if bytes_eq text (codes "fifo") then Some Fifo
    else (if bytes_eq text (codes "locality") then Some Locality
    else (if bytes_eq text (codes "hybrid") then Some (Hybrid part)
    else (if bytes_eq text (codes "lifetime") then Some Lifetime else None))))

abbrev pub bits_of : Text → ℕ
bits_of name =
    if bytes_eq name (codes "limit") || bytes_eq name (codes "start") then 64
    else (if bytes_eq name (codes "compact") || (bytes_eq name (codes "bytewise") || bytes_eq name (codes "large")) then 1 else 32)

-- a path: it isn't empty, and doesn't begin with `-`
abbrev pub is_path : Text → Bool
is_path [] = false
is_path (byte ∷ rest) = not (byte == 45)

-- the text is a value of the option of this name
abbrev pub is_value : Text → Text → Bool
is_value name text =
    if bytes_eq name (codes "policy") then is_some (policy_named 0 text)
    else (if bytes_eq name (codes "file") then is_path text else is_number (bits_of name) text)

abbrev pub has : Text → Options → Bool
has name = list_any (λ option. bytes_eq name option.0)

-- each is one of these, and is given once
unfoldable pub are_known : List Text → Options → Bool
are_known names [] = true
are_known names (option ∷ others) =
    list_any (λ name. bytes_eq name option.0) names && (not (has option.0 others) && are_known names others)

abbrev pub have_values : Options → Bool
have_values = list_all (λ option. is_value option.0 option.1)

-- the options of the words, where they are in the form
abbrev pub accepted : List Text → List Text → Option Options
accepted names words =
    option_and_then (λ options. if are_known names options && have_values options then Some options else None)
    (options_in words None)

-- the value that an option is given
abbrev pub value_of : Options → Text → Option Text
value_of options name = option_map (λ option. option.1) (find (λ option. bytes_eq option.0 name) options)

-- a number that isn't given has its default
abbrev pub number_of : Options → Text → ℕ → ℕ
number_of options name default = option_map_or (digits_value 10) (value_of options name) default

-- a number that isn't given is none
abbrev pub given_number : Options → Text → Option ℕ
given_number options name = option_map (digits_value 10) (value_of options name)

abbrev pub policy_of : Options → Policy
policy_of options =
    unwrap_or (option_and_then (policy_named (number_of options (codes "part") 2)) (value_of options (codes "policy"))) Greedy

-- Setups

abbrev pub usual : Shape
usual = record { segments = 8; rows = 16; pages = 64; shadows = 16; frames = 8; entries = 4; reserves = 0; sums = 0 }

abbrev pub usual_of_load : Shape
usual_of_load = record { segments = 16; rows = 32; pages = 384; shadows = 16; frames = 16; entries = 16; reserves = 0; sums = 0 }

-- the shape of an index: that of a load, with shadows for all pages that one operation puts
abbrev pub usual_of_index : Shape
usual_of_index = record usual_of_load { shadows = 32 }

abbrev pub shape_of : Shape → Options → Shape
shape_of default options = record {
  segments = number_of options (codes "segments") default.segments;
  rows = number_of options (codes "rows") default.rows;
  pages = number_of options (codes "pages") default.pages;
  shadows = number_of options (codes "shadows") default.shadows;
  frames = number_of options (codes "frames") default.frames;
  entries = number_of options (codes "entries") default.entries;
  reserves = default.reserves;
  sums = default.sums;
}

-- a shape with the positions in reserve that the options name
abbrev pub reserved : Shape → Options → Shape
reserved sh options = record sh { reserves = number_of options (codes "reserves") 0 }

-- writing back begins, by default, where every frame is held
abbrev pub setup_of : Shape → Options → Setup
setup_of default options = record {
  shape = shape_of default options;
  policy = policy_of options;
  limit = number_of options (codes "limit") 100;
  mark = number_of options (codes "mark") (shape_of default options).frames;
}

abbrev pub lives_of : Options → ℕ
lives_of options = number_of options (codes "lives") 4294967295

abbrev pub start_of : Options → ℕ
start_of options = number_of options (codes "start") 1

abbrev pub area_of : Options → Area
area_of options = record {
  branches = number_of options (codes "branches") 1;
  accounts = number_of options (codes "accounts") 8000;
  transfers = number_of options (codes "transfers") 1000;
}

-- Rules

-- the most rows of a board: more, where the words ask for a large one
abbrev pub most_rows : Options → ℕ
most_rows options = if number_of options (codes "large") 0 == 1 then MOST_ROWS else USUAL_ROWS

-- a rule's number; of a board with too many rows it says how many there may be
abbrev pub rule_within : ℕ → SetupFault → ℕ
rule_within most fault = if rule_of fault == 7 && most == MOST_ROWS then 17 else rule_of fault

abbrev pub numbered : ℕ → Result Unit SetupFault → Result Unit WordsFault
numbered most (Ok done) = Ok tt
numbered most (Err fault) = Err (Rule (rule_within most fault))

-- the first rule that a setup breaks, where a board has so many rows at most
abbrev pub rules_within : ℕ → Setup → Result Unit WordsFault
rules_within most setup = numbered most (checked_within most setup)

-- the first rule that fails, or else what follows
abbrev pub after_check : Result Unit WordsFault → Result Command WordsFault → Result Command WordsFault
after_check (Ok done) next = next
after_check (Err fault) next = Err fault

abbrev pub of_setup : ℕ → Setup → Result Command WordsFault → Result Command WordsFault
of_setup most setup = after_check (rules_within most setup)

-- the records of the load fit
abbrev pub fits : Area → ℕ → Bool
fits area pages = nat_le 1 area.branches && (nat_le 1 area.accounts
    && nat_le (history_at area.branches area.accounts + 4 * area.transfers) (PAGE_WORDS * pages))

-- Commands

abbrev pub run_of : Options → Result Command WordsFault
run_of options = let setup = setup_of (reserved usual options) options in
    of_setup (most_rows options) setup (Ok (Run setup (lives_of options)))

abbrev pub plain_of : Options → Result Command WordsFault
plain_of options = let setup = setup_of usual options in
    of_setup USUAL_ROWS setup (Ok (Plain setup))

abbrev pub load_of : Setup → Options → Result Command WordsFault
load_of setup options =
    if not (fits (area_of options) setup.shape.pages) then Err (Rule 11)
    else (if nat_lt setup.shape.shadows 5 then Err (Rule 12)
    else Ok (Tpca setup (lives_of options) (start_of options) (area_of options) (number_of options (codes "every") 0)))

abbrev pub tpca_of : Options → Result Command WordsFault
tpca_of options = let setup = setup_of (reserved usual_of_load options) options in
    of_setup (most_rows options) setup (load_of setup options)

-- a number of per cent, where it is given
abbrev pub is_per_cent : Option ℕ → Bool
is_per_cent None = true
is_per_cent (Some n) = nat_lt 0 n && nat_lt n 100

-- hot pages and the share of accesses that they get are given together, or neither is
abbrev pub skew_of : Option ℕ → Option ℕ → Result (Option Skew) WordsFault
skew_of None None = Ok None
skew_of None (Some share) = Err (Rule 16)
skew_of (Some hot) None = Err (Rule 16)
skew_of (Some hot) (Some share) = Ok (Some (record { hot = hot; share = share }))

abbrev pub mixed : ℕ → Option ℕ → Result (Option Skew) WordsFault → Result Mix WordsFault
mixed pages stores (Ok skew) = Ok (record { pages = pages; skew = skew; stores = stores })
mixed pages stores (Err fault) = Err fault

-- what lines are drawn, of pages, hot pages, their share and the share of stores; or the first rule that fails
abbrev pub mix_of : ℕ → Option ℕ → Option ℕ → Option ℕ → Result Mix WordsFault
mix_of pages hot share stores =
    if pages == 0 then Err (Rule 3)
    else (if nat_lt USUAL_ROWS pages then Err (Rule 7)
    else (if not (is_per_cent hot && (is_per_cent share && is_per_cent stores)) then Err (Rule 15)
    else mixed pages stores (skew_of hot share)))

abbrev pub generating : ℕ → ℕ → Result Mix WordsFault → Result Command WordsFault
generating start lines (Ok mix) = Ok (Gen start lines mix)
generating start lines (Err fault) = Err fault

abbrev pub gen_of : Options → Result Command WordsFault
gen_of options = generating (start_of options) (number_of options (codes "lines") 1000)
    (mix_of (number_of options (codes "pages") 64) (given_number options (codes "hot")) (given_number options (codes "share"))
    (given_number options (codes "stores")))

abbrev pub save_of : Options → Result Command WordsFault
save_of options = let setup = setup_of (reserved usual options) options in
    of_setup (most_rows options) setup (Ok (Save setup (lives_of options)))

-- a mark that isn't given stands open; no rule is asked before the image is read
abbrev pub resume_of : Options → Result Command WordsFault
resume_of options = Ok (Resume (policy_of options) (number_of options (codes "limit") 100)
    (given_number options (codes "mark")) (lives_of options) (most_rows options))

abbrev pub audit_of : Options → Result Command WordsFault
audit_of options = Ok (Audit (most_rows options))

abbrev pub segments_of : Options → Result Command WordsFault
segments_of options = Ok (Map (most_rows options))

abbrev pub tree_of : Setup → Options → Result Command WordsFault
tree_of setup options =
    if nat_lt setup.shape.shadows 32 then Err (Rule 13)
    else (if nat_lt setup.shape.pages 20 then Err (Rule 14)
    else Ok (Index setup (lives_of options)))

abbrev pub index_of : Options → Result Command WordsFault
index_of options = let setup = setup_of (reserved usual_of_index options) options in
    of_setup USUAL_ROWS setup (tree_of setup options)

abbrev pub mirror_of : Options → Result Command WordsFault
mirror_of options = let setup = setup_of (reserved usual options) options in
    of_setup (most_rows options) setup (Ok (Mirror setup (lives_of options)))

-- an entry of the table: a command word, its options, and what they make of it
pub record Entry : Type 0 where
  pub name : Text
  pub options : List Text
  pub make : Options → Result Command WordsFault

abbrev pub plain_options : List Text
plain_options = codes "segments" ∷ codes "rows" ∷ codes "pages" ∷ codes "shadows" ∷ codes "frames" ∷ codes "entries"
    ∷ codes "part" ∷ codes "policy" ∷ codes "limit" ∷ codes "mark" ∷ []

-- a board may have reserves; that of a tree isn't large
abbrev pub index_options : List Text
index_options = codes "reserves" ∷ plain_options ++ codes "lives" ∷ []

abbrev pub run_options : List Text
run_options = index_options ++ codes "large" ∷ []

abbrev pub tpca_options : List Text
tpca_options = run_options
    ++ codes "start" ∷ codes "branches" ∷ codes "accounts" ∷ codes "transfers" ∷ codes "every" ∷ []

abbrev pub gen_options : List Text
gen_options = codes "start" ∷ codes "lines" ∷ codes "pages" ∷ codes "hot" ∷ codes "share" ∷ codes "stores" ∷ []

abbrev pub resume_options : List Text
resume_options = codes "part" ∷ codes "policy" ∷ codes "limit" ∷ codes "mark" ∷ codes "lives" ∷ codes "large" ∷ []

abbrev pub audit_options : List Text
audit_options = codes "large" ∷ []

abbrev pub commands : List Entry
commands =
    record { name = codes "run"; options = run_options; make = run_of }
    ∷ record { name = codes "plain"; options = plain_options; make = plain_of }
    ∷ record { name = codes "tpca"; options = tpca_options; make = tpca_of }
    ∷ record { name = codes "gen"; options = gen_options; make = gen_of }
    ∷ record { name = codes "save"; options = run_options; make = save_of }
    ∷ record { name = codes "resume"; options = resume_options; make = resume_of }
    ∷ record { name = codes "audit"; options = audit_options; make = audit_of }
    ∷ record { name = codes "map"; options = audit_options; make = segments_of }
    ∷ record { name = codes "index"; options = index_options; make = index_of }
    ∷ record { name = codes "mirror"; options = run_options; make = mirror_of }
    ∷ []

-- Words

-- the entry of the command word makes a command of the words after it
abbrev pub look_up : List Entry → Text → List Text → Result Command WordsFault
look_up [] name words = Err Form
look_up (entry ∷ table) name words =
    if bytes_eq entry.name name then option_map_or entry.make (accepted entry.options words) (Err Form)
    else look_up table name words

-- the command that the words name, or why they are refused
unfoldable pub command_of : List Text → Result Command WordsFault
command_of [] = Err Form
command_of (name ∷ words) = look_up commands name words

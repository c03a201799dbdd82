-- The parser of options, and what it finds, in the words of `clap`.
use Rattle.std.specs.Prelude.{true, List, [], ◌∷◌, map, codes, None, Some, unwrap_or, slice_get}
use Rattle.clap.specs.Words.{App, Row, Rule, new_rule, new_app}
use Rattle.clap.specs.Walk.{reading_by}
use Rattle.clap.specs.declared.parser.matches.ValueSource.TheVariants.{CommandLine}
use Rattle.clap.specs.declared.error.kind.ErrorKind.{ErrorKind}
use Rattle.clap.specs.declared.error.kind.ErrorKind.TheVariants.{OutOfMemory}
use Rattle.envy_args.specs.declared.command.WordsFault.{WordsFault}
use Rattle.envy_args.specs.declared.command.WordsFault.TheVariants.{Form, Memory}
use Rattle.envy_args.specs.Words.{Text}

-- an option `--name` that takes a value
abbrev pub rule_named : Text → Rule
rule_named name = record (new_rule name) { long = Some name }

-- a command that has these options and nothing else
abbrev pub app_of_names : List Text → App
app_of_names names = record {
  top = record (new_app (codes "envy")).top { rules = map rule_named names; no_binary_name = true; disable_help_flag = true };
  subs = [];
}

-- the row of an option with its value
abbrev pub row_of : Text × Text → Row
row_of option = record { id = option.0; values = option.1 ∷ []; count = None; source = Some CommandLine; reading = reading_by (rule_named option.0) }

-- the option of a row
abbrev pub option_of : Row → Text × Text
option_of row = (row.id, unwrap_or (slice_get row.values 0) [])

-- out of memory, or else the words are refused
abbrev pub fault_of_kind : ErrorKind → WordsFault
fault_of_kind OutOfMemory = Memory
fault_of_kind _ = Form

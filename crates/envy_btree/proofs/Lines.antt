-- A line of the index by its length and its command word.
use Rattle.std.proofs.Common.{◌≡◌, ℕ, ◌<◌, ◌≤◌, List, length, find, None, Some, Err, refl}
use Rattle.std.specs.List.{AllByRecursion}
use Rattle.std.specs.Str.{bytes_eq}
use Rattle.envy_btree.specs.declared.command.Command.{Command}
use Rattle.envy_trace.specs.declared.fault.LineFault.TheVariants.{Long, Word}
use Rattle.envy_btree.specs.declared.line.IndexLine.TheVariants.{Empty}
use Rattle.envy_btree.specs.Commands.{name_of, all}
use Rattle.envy_trace.specs.Grammar.{fields_of, command_in, says, look_up}
use Rattle.envy_trace.proofs.Faults.{no_numbers, one_number, two_numbers}
use Rattle.envy_trace.proofs.Tables.{ReadsShort, by-long, by-short, by-long-only, by-none, by-some}
use Rattle.envy_btree.specs.Grammar.{index_line_of, index_commands}

pub line-long : (bs : List ℕ) → 120 < length bs → index_line_of bs ≡ Err Long
unfolding index_line_of
line-long = by-long Empty index_commands

pub line-short : (bs : List ℕ) → length bs ≤ 120 → index_line_of bs ≡ says Empty index_commands (command_in (fields_of bs))
unfolding index_line_of
line-short = by-short Empty index_commands

entries : AllByRecursion ReadsShort index_commands
entries = (one_number _ _, (two_numbers _ _ _, (one_number _ _, (no_numbers _, (two_numbers _ _ _, (two_numbers _ _ _, tt))))))

pub long-only : (bs : List ℕ) → index_line_of bs ≡ Err Long → 120 < length bs
unfolding index_line_of
long-only = by-long-only Empty index_commands entries

-- a word that names no command stands in no row of the table
pub named-none : (name : List ℕ) (others : List (List ℕ)) → find (λ k. bytes_eq (name_of k) name) all ≡ None → look_up index_commands name others ≡ Err Word
named-none name others none = by-none name_of name others index_commands all (refl, (refl, (refl, (refl, (refl, (refl, tt)))))) none

-- a word that names a command is its word
pub named-some : (name : List ℕ) (known : List Command) (k : Command) → find (λ j. bytes_eq (name_of j) name) known ≡ Some k → name ≡ name_of k
named-some = by-some name_of

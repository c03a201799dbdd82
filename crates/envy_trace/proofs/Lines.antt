-- A line by its length and its command word.
use Rattle.std.proofs.Common.{◌≡◌, ℕ, ◌<◌, ◌≤◌, List, length, find, None, Some, Err, refl}
use Rattle.std.specs.List.{AllByRecursion}
use Rattle.std.specs.Str.{bytes_eq}
use Rattle.envy_trace.specs.declared.command.Command.{Command}
use Rattle.envy_trace.specs.declared.fault.LineFault.TheVariants.{Long, Word}
use Rattle.envy_trace.specs.declared.line.Line.TheVariants.{Empty}
use Rattle.envy_trace.specs.Commands.{name_of, all}
use Rattle.envy_trace.specs.Grammar.{line_of, fields_of, command_in, says, look_up, commands}
use Rattle.envy_trace.proofs.Faults.{no_numbers, one_number, two_numbers, three_numbers}
use Rattle.envy_trace.proofs.Tables.{ReadsShort, by-long, by-short, by-long-only, by-none, by-some}

pub line-long : (bs : List ℕ) → 120 < length bs → line_of bs ≡ Err Long
unfolding line_of
line-long = by-long Empty commands

pub line-short : (bs : List ℕ) → length bs ≤ 120 → line_of bs ≡ says Empty commands (command_in (fields_of bs))
unfolding line_of
line-short = by-short Empty commands

entries : AllByRecursion ReadsShort commands
entries = (
  one_number _ _,
  (
    one_number _ _,
    (
      two_numbers _ _ _,
      (
        no_numbers _,
        (
          three_numbers _ _ _ _,
          (
            one_number _ _,
            (
              one_number _ _,
              (
                no_numbers _,
                (
                  no_numbers _,
                  (
                    two_numbers _ _ _,
                    (
                      two_numbers _ _ _,
                      (
                        no_numbers _,
                        tt,
                      ),
                    ),
                  ),
                ),
              ),
            ),
          ),
        ),
      ),
    ),
  ),
)

pub long-only : (bs : List ℕ) → line_of bs ≡ Err Long → 120 < length bs
unfolding line_of
long-only = by-long-only Empty commands entries

-- a word that names no command stands in no row of the table
pub named-none : (name : List ℕ) (others : List (List ℕ)) → find (λ k. bytes_eq (name_of k) name) all ≡ None → look_up commands name others ≡ Err Word
named-none name others none = by-none name_of name others commands all (refl, (refl, (refl, (refl, (refl, (refl, (refl, (refl, (refl, (refl, (refl, (refl, tt)))))))))))) none

-- a word that names a command is its word
pub named-some : (name : List ℕ) (known : List Command) (k : Command) → find (λ j. bytes_eq (name_of j) name) known ≡ Some k → name ≡ name_of k
named-some = by-some name_of

-- A line of the index is read exactly from its spellings.
use Rattle.std.proofs.Common.{◌≡◌, ℕ, List, codes, Ok, refl, ap, ◌∙◌, arith}
use Rattle.std.specs.List.{AllByRecursion}
use Rattle.envy_btree.specs.declared.line.IndexLine.{IndexLine}
use Rattle.envy_btree.specs.declared.line.IndexLine.TheVariants.{Empty, Get, Insert, Remove, Power, Cut, Bad}
use Rattle.envy_trace.specs.Grammar.{fields_of, command_in, says, word, place}
use Rattle.envy_btree.specs.Grammar.{index_line_of, index_commands}
use Rattle.envy_trace.specs.Spelling.{Spells}
use Rattle.envy_btree.specs.Spelling.{parts, IsIndexLine, ReadsIndex}
use Rattle.envy_btree.proofs.Lines.{line-short}
use Rattle.envy_trace.proofs.Numerals.{none_read, one_read, two_read}
use Rattle.envy_trace.proofs.Tables.{SaysSo, by-read, fits, row_none, row_one, row_two}

-- From the line to its spellings

spelled : (line : IndexLine) → IsIndexLine line → (fs : List (List ℕ)) → Spells fs (parts line) → says Empty index_commands (command_in fs) ≡ Ok line
spelled Empty is fs s = ap (says Empty index_commands) s
spelled (Get k) is fs (ds, e, z) = rw e (one_read word Get ds k (fits word k (omega arith) (omega arith)) z)
spelled (Insert k v) is fs (ds, e, z) = rw e (two_read word word Insert ds k v (fits word k (omega arith) (omega arith)) (fits word v (omega arith) (omega arith)) z)
spelled (Remove k) is fs (ds, e, z) = rw e (one_read word Remove ds k (fits word k (omega arith) (omega arith)) z)
spelled Power is fs (ds, e, z) = rw e (none_read Power ds z)
spelled (Cut k g) is fs (ds, e, z) = rw e (two_read place word Cut ds k g (fits place k (omega arith) (omega arith)) (fits word g (omega arith) (omega arith)) z)
spelled (Bad k g) is fs (ds, e, z) = rw e (two_read place word Bad ds k g (fits place k (omega arith) (omega arith)) (fits word g (omega arith) (omega arith)) z)

pub line-spelled : (bs : List ℕ) (line : IndexLine) → ReadsIndex bs line → index_line_of bs ≡ Ok line
line-spelled bs line r = line-short bs r.short ∙ spelled line r.ranges (fields_of bs) r.fields

-- From what was read to its spelling

rows : AllByRecursion (SaysSo parts IsIndexLine) index_commands
rows = (
  row_one parts IsIndexLine (codes "get") word Get (λ k f. (refl, omega arith)),
  (
    row_two parts IsIndexLine (codes "insert") word word Insert (λ k v f g. (refl, (omega arith, omega arith))),
    (
      row_one parts IsIndexLine (codes "remove") word Remove (λ k f. (refl, omega arith)),
      (
        row_none parts IsIndexLine (codes "power") Power (refl, tt),
        (
          row_two parts IsIndexLine (codes "cut") place word Cut (λ k g p q. (refl, (omega arith, omega arith, omega arith))),
          (
            row_two parts IsIndexLine (codes "bad") place word Bad (λ k g p q. (refl, (omega arith, omega arith, omega arith))),
            tt,
          ),
        ),
      ),
    ),
  ),
)

pub line-read : (bs : List ℕ) (line : IndexLine) → index_line_of bs ≡ Ok line → ReadsIndex bs line
unfolding index_line_of
line-read bs line e = let h = by-read parts IsIndexLine Empty index_commands rows refl tt bs line e in record { short = h.0; fields = h.1; ranges = h.2 }

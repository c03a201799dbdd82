-- A line is read exactly from its spellings.
use Rattle.std.proofs.Common.{◌≡◌, ℕ, List, codes, Ok, refl, ap, ◌∙◌, arith}
use Rattle.std.specs.List.{AllByRecursion}
use Rattle.envy_trace.specs.declared.line.Line.{Line}
use Rattle.envy_trace.specs.declared.line.Line.TheVariants.{Empty, Load, Look, Store, Begin, Put, Commit, Abort, Tick, Power, Cut, Bad, Stat}
use Rattle.envy_trace.specs.Grammar.{line_of, fields_of, command_in, says, commands, slot, address, word, place}
use Rattle.envy_trace.specs.Spelling.{parts, IsLine, Spells, Reads}
use Rattle.envy_trace.proofs.Lines.{line-short}
use Rattle.envy_trace.proofs.Numerals.{none_read, one_read, two_read, three_read}
use Rattle.envy_trace.proofs.Tables.{SaysSo, by-read, fits, row_none, row_one, row_two, row_three}

-- From the line to its spellings

spelled : (line : Line) → IsLine line → (fs : List (List ℕ)) → Spells fs (parts line) → says Empty commands (command_in fs) ≡ Ok line
spelled Empty is fs s = ap (says Empty commands) s
spelled (Load a) is fs (ds, e, z) = rw e (one_read address Load ds a (fits address a (omega arith) (omega arith)) z)
spelled (Look a) is fs (ds, e, z) = rw e (one_read address Look ds a (fits address a (omega arith) (omega arith)) z)
spelled (Store a w) is fs (ds, e, z) = rw e (two_read address word Store ds a w (fits address a (omega arith) (omega arith)) (fits word w (omega arith) (omega arith)) z)
spelled Begin is fs (ds, e, z) = rw e (none_read Begin ds z)
spelled (Put t a w) is fs (ds, e, z) = rw e (three_read slot address word Put ds t a w (fits slot t (omega arith) (omega arith)) (fits address a (omega arith) (omega arith)) (fits word w (omega arith) (omega arith)) z)
spelled (Commit t) is fs (ds, e, z) = rw e (one_read slot Commit ds t (fits slot t (omega arith) (omega arith)) z)
spelled (Abort t) is fs (ds, e, z) = rw e (one_read slot Abort ds t (fits slot t (omega arith) (omega arith)) z)
spelled Tick is fs (ds, e, z) = rw e (none_read Tick ds z)
spelled Power is fs (ds, e, z) = rw e (none_read Power ds z)
spelled (Cut k g) is fs (ds, e, z) = rw e (two_read place word Cut ds k g (fits place k (omega arith) (omega arith)) (fits word g (omega arith) (omega arith)) z)
spelled (Bad k g) is fs (ds, e, z) = rw e (two_read place word Bad ds k g (fits place k (omega arith) (omega arith)) (fits word g (omega arith) (omega arith)) z)
spelled Stat is fs (ds, e, z) = rw e (none_read Stat ds z)

pub line-spelled : (bs : List ℕ) (line : Line) → Reads bs line → line_of bs ≡ Ok line
line-spelled bs line r = line-short bs r.short ∙ spelled line r.ranges (fields_of bs) r.fields

-- From what was read to its spelling

rows : AllByRecursion (SaysSo parts IsLine) commands
rows = (
  row_one parts IsLine (codes "load") address Load (λ a f. (refl, omega arith)),
  (
    row_one parts IsLine (codes "look") address Look (λ a f. (refl, omega arith)),
    (
      row_two parts IsLine (codes "store") address word Store (λ a w f g. (refl, (omega arith, omega arith))),
      (
        row_none parts IsLine (codes "begin") Begin (refl, tt),
        (
          row_three parts IsLine (codes "put") slot address word Put (λ t a w f g h. (refl, (omega arith, omega arith, omega arith))),
          (
            row_one parts IsLine (codes "commit") slot Commit (λ t f. (refl, omega arith)),
            (
              row_one parts IsLine (codes "abort") slot Abort (λ t f. (refl, omega arith)),
              (
                row_none parts IsLine (codes "tick") Tick (refl, tt),
                (
                  row_none parts IsLine (codes "power") Power (refl, tt),
                  (
                    row_two parts IsLine (codes "cut") place word Cut (λ k g p q. (refl, (omega arith, omega arith, omega arith))),
                    (
                      row_two parts IsLine (codes "bad") place word Bad (λ k g p q. (refl, (omega arith, omega arith, omega arith))),
                      (
                        row_none parts IsLine (codes "stat") Stat (refl, tt),
                        tt,
                      ),
                    ),
                  ),
                ),
              ),
            ),
          ),
        ),
      ),
    ),
  ),
)

pub line-read : (bs : List ℕ) (line : Line) → line_of bs ≡ Ok line → Reads bs line
unfolding line_of
line-read bs line e = let h = by-read parts IsLine Empty commands rows refl tt bs line e in record { short = h.0; fields = h.1; ranges = h.2 }

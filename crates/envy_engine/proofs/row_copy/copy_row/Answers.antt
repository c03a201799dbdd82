use Rattle.std.proofs.Common.{◌≡◌, refl, ap, ◌∙◌, List, ℕ, get_or}
use Rattle.envy_map.specs.Fields.{Fields, chart}
use Rattle.envy_soundness.specs.Same.{Same, Stays, Framed, Counted}
use Rattle.envy_table.proofs.HitLemmas.{Rests-refl}
use Rattle.envy_engine.proofs.AgreeLemmas.{Agrees-programmed, Fits-moved}
use Rattle.envy_engine.proofs.CountLemmas.{Counting-flushed, Grows-none}
use Rattle.envy_reloc.proofs.Exits.{unpowered}
use Rattle.envy_engine.proofs.FlushAnswers.{may-program}
use Rattle.envy_engine.proofs.FlushLemmas.{on-ok}
use Rattle.envy_engine.proofs.row_copy.copy_row.Goals as goal

pub returns-clause-leaves : goal.returns-clause-leaves
returns-clause-leaves g c =
    let old = chart (g.B.Board.state c.args.board.now) in
    let new = chart (g.B.Board.state c.program_counted.new.board) in
    let x = c.args.parts.now in
    let r = c.requires.ready in
    let e = c.program_counted.ensures in
    let shape : new.shape ≡ old.shape = Framed.shape (Stays.framed (Same.stays e.same)) in
    record {
      steady = record {
        fits = Fits-moved old.shape new.shape x _ shape r.fits refl refl refl refl refl;
        agrees = λ on. Agrees-programmed old new x _ c.args.page c.args.row r.sound r.agrees c.requires.fresh.granted shape e.fields e.others refl refl refl refl;
      };
      counting = Counting-flushed _ _ _ _ (Stays.counted (Same.stays e.same)) e.counts.1 refl refl (λ on. ap (λ (f : Fields). f.wears) e.fields);
      rests = Rests-refl x.cache;
    }

pub returns-clause-only : goal.returns-clause-only
returns-clause-only g c =
    let e = c.program_counted.ensures in
    record { fields = e.fields; others = e.others; erases = Grows-none _ _ (Counted.erases (Stays.counted (Same.stays e.same))) }

pub read_words-requires : goal.read_words-requires
read_words-requires g c = record { range = c.requires.frame }

pub returns-in_err-read_words : goal.returns-in_err-read_words
returns-in_err-read_words g c = unpowered (g.B.Board.state c.args.board.now).on c.in_err-read_words.ensures.off c.requires.ready.on

pub program_counted-requires-clause-sound : goal.program_counted-requires-clause-sound
program_counted-requires-clause-sound g c = c.requires.ready.sound

pub program_counted-requires-clause-on : goal.program_counted-requires-clause-on
program_counted-requires-clause-on g c = c.requires.ready.on

pub program_counted-requires-clause-row : goal.program_counted-requires-clause-row
program_counted-requires-clause-row g c = c.requires.fresh.granted.range

pub program_counted-requires-clause-may : goal.program_counted-requires-clause-may
program_counted-requires-clause-may g c = let old = (chart (g.B.Board.state c.args.board.now)) in may-program old.shape old.fields c.args.page c.args.row c.requires.fresh.granted

pub program_counted-requires-clause-erased : goal.program_counted-requires-clause-erased
program_counted-requires-clause-erased g c = c.requires.fresh.erased

pub returns-clause-same : goal.returns-clause-same
returns-clause-same g c = c.program_counted.ensures.same

pub returns-clause-copy : goal.returns-clause-copy
returns-clause-copy g c = on-ok c.program_counted.result _ _ (λ written j low. ap (λ (xs : List ℕ). get_or xs j 0) written ∙ c.in_ok-read_words.ensures.words j low) c.program_counted.ensures.written

pub returns-clause-parts : goal.returns-clause-parts
returns-clause-parts g c = ap (λ (n : ℕ). record c.args.parts.now { flushes = n }) c.program_counted.ensures.counts.0

pub returns-clause-power : goal.returns-clause-power
returns-clause-power g c = c.program_counted.ensures.power

pub returns-clause-bad : goal.returns-clause-bad
returns-clause-bad g c = c.program_counted.ensures.bad

use Rattle.std.proofs.Common.{◌≡◌, ◌∙◌, ℕ, List, get_or, sym, ap, subst}
use Rattle.envy_map.specs.Fields.{Chart, chart}
use Rattle.envy_soundness.specs.Same.{Same, Stays}
use Rattle.envy_soundness.specs.Sound.{IsSpare}
use Rattle.envy_soundness.proofs.JobLaw.{AreHome-freed}
use Rattle.envy_space.specs.Pool.{IsPoolOf, Replaces}
use Rattle.envy_soundness.proofs.Sames.{same_then}
use Rattle.envy_reloc.proofs.job_end.place_spare.Goals as goal

pub begin_erase-requires-clause-home : goal.begin_erase-requires-clause-home
begin_erase-requires-clause-home g c on =
    let old = chart (g.B.Board.state c.args.board.now) in
    let new = chart (g.B.Board.state c.replace.new.board) in
    let made = c.in_ok-replace.ensures.replaces in
    let here : get_or old.fields.positions c.position_of-position.result 0 ≡ c.args.segment = ap (λ (xs : List ℕ). get_or xs c.position_of-position.result 0) (sym (IsPoolOf.positions c.requires.pool)) ∙ c.position_of-position.ensures.stands in
    AreHome-freed new.shape new.fields new.flash c.args.segment (Stays.sound (Same.stays (c.replace.ensures.same c.requires.sound)))
    (ap (λ (x : Chart). x.fields.job) (Replaces.fields made.1) ∙ c.requires.switching)
    (subst (λ (s : ℕ). IsSpare new.shape new.fields.positions s) here (Replaces.freed made.1))

pub returns-in_err-replace-clause-same : goal.returns-in_err-replace-clause-same
returns-in_err-replace-clause-same g c =
    c.replace.ensures.same c.requires.sound

pub returns-clause-same : goal.returns-clause-same
returns-clause-same g c =
    let old = chart (g.B.Board.state c.args.board.now) in
    let mid = chart (g.B.Board.state c.replace.new.board) in
    let new = chart (g.B.Board.state c.begin_erase.new.board) in
    same_then 0 0 old mid new (c.replace.ensures.same c.requires.sound) c.begin_erase.ensures.same

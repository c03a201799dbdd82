use Rattle.std.proofs.Common.{◌≡◌, ◌+◌, ◌*◌, ◌∷◌, [], true, length, List, ℕ, sym, ap, subst, ◌∙◌, arith, rules}
use Rattle.envy_journal.specs.declared.operation.Operation.TheVariants.{Put}
use Rattle.envy_journal.specs.Reading.{Leads}
use Rattle.envy_journal.specs.Snapshot.{Makes, gathered, with_words}
use Rattle.envy_journal.proofs.Copied.{word_put, word_zero}
use Rattle.envy_journal.proofs.Gathered.{makes_as, makes_more, ok_goes}
use Rattle.envy_journal.proofs.Written.{put_read}
use Rattle.envy_journal.proofs.snapshots.copy_word.Goals as goal

pub returns-then-v-eq0-clause-makes : goal.returns-then-v-eq0-clause-makes
returns-then-v-eq0-clause-makes g c =
    let s = g.B.Board.state c.args.board.now in
    let board = g.met.B.Board.lawful c.args.board.now in
    let w = c.args.w in
    makes_as s.shape (with_words s w) (34 + 13 * w) (gathered g.D.Replaceable.second c.args.log.now) c.requires.makes (with_words s (w + 1)) (34 + 13 * (w + 1))
    (word_zero s board w c.requires.word (sym c.word_of-v.ensures ∙ c.if-v-eq0.true)) (omega arith)

pub returns-clause-makes : goal.returns-clause-makes
returns-clause-makes g c =
    let s = g.B.Board.state c.args.board.now in
    let board = g.met.B.Board.lawful c.args.board.now in
    let w = c.args.w in
    let v = c.word_of-v.result in
    let bytes = gathered g.D.Replaceable.second c.args.log.now in
    let leads = subst (λ (l : List ℕ). Leads true 0 l (Put w v ∷ []) true) (sym c.put_bytes.ensures) (put_read w v (search rules) (search rules)) in
    let long : length c.put_bytes.result ≡ 13 = ap length c.put_bytes.ensures in
    ok_goes c.append_second.result c.append_second.ensures.gathered (λ now.
    subst (λ (l : List ℕ). Makes s.shape (with_words s (w + 1)) (34 + 13 * (w + 1)) l) (sym now)
    (makes_more s.shape (with_words s w) (34 + 13 * w) bytes c.requires.makes (Put w v) c.put_bytes.result (with_words s (w + 1)) (34 + 13 * (w + 1)) leads (word_put s board w c.requires.word v c.word_of-v.ensures) (omega (arith, long))))

use Rattle.std.proofs.Common.{◌≡◌, ℕ, length, sym, subst, ◌∙◌, ap}
use Rattle.std.specs.Prelude.{Err}
use Rattle.envy_base.specs.Shape.{IsVersionOf}
use Rattle.envy_base.specs.declared.shape.Shape.{Shape}
use Rattle.envy_map.specs.Fields.{Chart, chart, with_fields}
use Rattle.envy_map.specs.Codes.{the_magic}
use Rattle.envy_map.specs.Writes.{with_magic}
use Rattle.envy_soundness.specs.Formatting.{Reached, Spoils, aside}
use Rattle.envy_soundness.proofs.Formed.{Counts-first, Counts-middle, Formats-fails, Formats-done, Formats-cut, Completed}
use Rattle.envy_soundness.proofs.format.format_as.Goals as goal

-- the first put changes neither the shape nor the count
spoils-of : (old a b : Chart) → a ≡ with_fields old (with_magic 0 old.fields) → b.shape ≡ a.shape → Spoils (length (aside a.shape b.fields.fills)) a.bads b.bads → Spoils (length (aside b.shape b.fields.fills)) old.bads b.bads
spoils-of old a b first shape spoils =
    subst (λ (sh : Shape). Spoils (length (aside sh b.fields.fills)) old.bads b.bads) (sym shape) (subst (λ (n : ℕ). Spoils (length (aside a.shape b.fields.fills)) n b.bads) (ap (λ (x : Chart). x.bads) first) spoils)

pub returns-in_err-set_magic-clause-counts : goal.returns-in_err-set_magic-clause-counts
returns-in_err-set_magic-clause-counts g c = Counts-first _ (chart (g.B.Board.state c.args.board.now)) (chart (g.B.Board.state c.set_magic.new.board)) (with_magic 0) (Err c.in_err-set_magic.field-0.0) c.in_err-set_magic.ensures.writes

pub returns-in-Err-clause-formats : goal.returns-in-Err-clause-formats
returns-in-Err-clause-formats g c =
    let zero = c.in_ok-set_magic.ensures.writes.1 in
    Formats-fails c.args.version _ (g.B.Board.state c.args.board.now) (g.B.Board.state c.set_magic.new.board) (g.B.Board.state c.lay_map.new.board) c.in-Err.trouble (ap (λ (x : Chart). x.fields.magic) zero) zero c.in-Err.ensures.stopped c.in-Err.ensures.spoilt

pub returns-in_err-set_magic-2-clause-formats : goal.returns-in_err-set_magic-2-clause-formats
returns-in_err-set_magic-2-clause-formats g c =
    let zero = c.in_ok-set_magic.ensures.writes.1 in
    let reached = c.in-Ok.ensures.done in
    let empty = Completed c.args.version (g.B.Board.state c.set_magic.new.board) (g.B.Board.state c.lay_map.new.board) (g.met.B.Board.lawful c.lay_map.new.board) (subst (λ (x : Chart). IsVersionOf x.shape c.args.version) (sym zero) c.requires.version) (Reached.shape reached) c.in-Ok.ensures.laid in
    Formats-cut c.args.version (g.B.Board.state c.args.board.now) (g.B.Board.state c.lay_map.new.board) (g.B.Board.state c.set_magic-2.new.board) c.from_residual-in_err-set_magic-2.result c.in_err-set_magic-2.field-0.0 c.from_residual-in_err-set_magic-2.ensures.1 (Reached.on reached) (Reached.magic reached ∙ ap (λ (x : Chart). x.fields.magic) zero) empty c.in_err-set_magic-2.ensures.writes

pub returns-in_err-set_magic-2-clause-counts : goal.returns-in_err-set_magic-2-clause-counts
returns-in_err-set_magic-2-clause-counts g c =
    let zero = c.in_ok-set_magic.ensures.writes in
    let reached = c.in-Ok.ensures.done in
    Counts-middle (chart (g.B.Board.state c.args.board.now)) (chart (g.B.Board.state c.set_magic.new.board)) (chart (g.B.Board.state c.lay_map.new.board)) (chart (g.B.Board.state c.set_magic-2.new.board)) (with_magic the_magic) (Err c.in_err-set_magic-2.field-0.0) zero (Reached.counted reached) c.in_err-set_magic-2.ensures.writes

pub returns-clause-formats : goal.returns-clause-formats
returns-clause-formats g c =
    let zero = c.in_ok-set_magic.ensures.writes.1 in
    let reached = c.in-Ok.ensures.done in
    let empty = Completed c.args.version (g.B.Board.state c.set_magic.new.board) (g.B.Board.state c.lay_map.new.board) (g.met.B.Board.lawful c.lay_map.new.board) (subst (λ (x : Chart). IsVersionOf x.shape c.args.version) (sym zero) c.requires.version) (Reached.shape reached) c.in-Ok.ensures.laid in
    Formats-done c.args.version (g.B.Board.state c.args.board.now) (g.B.Board.state c.lay_map.new.board) (g.B.Board.state c.set_magic-2.new.board) empty (spoils-of (chart (g.B.Board.state c.args.board.now)) (chart (g.B.Board.state c.set_magic.new.board)) (chart (g.B.Board.state c.lay_map.new.board)) zero (Reached.shape reached) c.in-Ok.ensures.spoils) c.in_ok-set_magic-2.ensures.writes

use Rattle.std.proofs.Common.{◌≡◌, ◌≤◌, ap}
use Rattle.envy_base.specs.Counting.{up}
use Rattle.envy_counted.proofs.Telling.{up-mono}
use Rattle.envy_counted.proofs.strict_board.StrictBoardBench.cut_now.Goals as goal

pub invariant_of-self-clause-cuts_told : goal.invariant_of-self-clause-cuts_told
invariant_of-self-clause-cuts_told g c =
    let s = c.args.self.now in
    let le : up s.cuts ≤ up (g.B.LooseBoard.state s.board).cuts = up-mono s.cuts (g.B.LooseBoard.state s.board).cuts s.cuts_told in
    let own : (g.B.LooseBoard.state c.cut_now.new.self).cuts ≡ up (g.B.LooseBoard.state s.board).cuts = ap (λ t. t.cuts) c.cut_now.ensures in
    rw (c.more-self.ensures, own) le

pub invariant_of-self-clause-bads_told : goal.invariant_of-self-clause-bads_told
invariant_of-self-clause-bads_told g c =
    let own : (g.B.LooseBoard.state c.cut_now.new.self).bads ≡ (g.B.LooseBoard.state c.args.self.now.board).bads = ap (λ t. t.bads) c.cut_now.ensures in
    rw own c.args.self.now.bads_told

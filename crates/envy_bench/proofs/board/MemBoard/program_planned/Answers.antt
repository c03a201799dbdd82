use Rattle.std.proofs.Common.{sym}
use Rattle.envy_bench.proofs.Boards.{program_is_cut, program_is_bad}
use Rattle.envy_bench.proofs.board.MemBoard.program_planned.Goals as goal

pub returns-in-Cut-clause-state : goal.returns-in-Cut-clause-state
returns-in-Cut-clause-state c =
    let s = c.args.self.now in
    program_is_cut s.shape s.flash c.tear_row.new.self s.sram s.supply c.flash_event.new.self s.begun c.more-self.result s.pulled s.plans s.given c.args.row c.in-Cut.g c.args.page.now
    (sym c.if-not-powered.ensures) c.requires c.tear_row.ensures.row c.tear_row.ensures.whole c.more-self.ensures c.in-Cut.ensures.state

pub returns-in-Bad-clause-state : goal.returns-in-Bad-clause-state
returns-in-Bad-clause-state c =
    let s = c.args.self.now in
    program_is_bad s.shape s.flash c.tear_row-in-Bad.new.self s.sram s.supply c.flash_event.new.self s.begun c.more-self.result s.pulled s.plans s.given c.args.row c.in-Bad.g c.args.page.now
    (sym c.if-not-powered.ensures) c.requires c.tear_row-in-Bad.ensures.row c.tear_row-in-Bad.ensures.whole c.more-self.ensures c.in-Bad.ensures.state

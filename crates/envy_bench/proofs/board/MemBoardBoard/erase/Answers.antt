use Rattle.std.proofs.Common.{sym}
use Rattle.envy_bench.proofs.Boards.{EraseEnds, erase_passes, erase_is_cut, erase_is_bad}
use Rattle.envy_bench.proofs.board.MemBoardBoard.erase.Goals as goal

pub returns-in-Pass-clause-state : goal.returns-in-Pass-clause-state
returns-in-Pass-clause-state c =
    let s = c.args.self.now in
    EraseEnds.state (erase_passes s.shape s.flash c.erase.new.self c.erase.new.self s.sram s.supply c.flash_event-event.new.self s.begun s.pulled s.plans s.given c.args.segment 0
    (sym c.if-not-powered.ensures) s.same_rows c.erase.ensures.erased c.in-Pass.ensures.event c.in-Pass.ensures.state)

pub returns-in-Pass-clause-exact : goal.returns-in-Pass-clause-exact
returns-in-Pass-clause-exact c = λ on.
    let s = c.args.self.now in
    EraseEnds.exact (erase_passes s.shape s.flash c.erase.new.self c.erase.new.self s.sram s.supply c.flash_event-event.new.self s.begun s.pulled s.plans s.given c.args.segment 0
    on s.same_rows c.erase.ensures.erased c.in-Pass.ensures.event c.in-Pass.ensures.state)

pub returns-in-Cut-clause-state : goal.returns-in-Cut-clause-state
returns-in-Cut-clause-state c =
    let s = c.args.self.now in
    EraseEnds.state (erase_is_cut s.shape s.flash c.erase.new.self c.tear_segment.new.self s.sram s.supply c.flash_event-event.new.self s.begun s.pulled s.plans s.given c.args.segment c.in-Cut.g
    (sym c.if-not-powered.ensures) s.same_rows c.erase.ensures.erased c.tear_segment.ensures.flash c.tear_segment.ensures.same c.tear_segment.ensures.whole c.in-Cut.ensures.event c.in-Cut.ensures.state)

pub returns-in-Cut-clause-exact : goal.returns-in-Cut-clause-exact
returns-in-Cut-clause-exact c = λ on.
    let s = c.args.self.now in
    EraseEnds.exact (erase_is_cut s.shape s.flash c.erase.new.self c.tear_segment.new.self s.sram s.supply c.flash_event-event.new.self s.begun s.pulled s.plans s.given c.args.segment c.in-Cut.g
    on s.same_rows c.erase.ensures.erased c.tear_segment.ensures.flash c.tear_segment.ensures.same c.tear_segment.ensures.whole c.in-Cut.ensures.event c.in-Cut.ensures.state)

pub returns-in-Bad-clause-state : goal.returns-in-Bad-clause-state
returns-in-Bad-clause-state c =
    let s = c.args.self.now in
    EraseEnds.state (erase_is_bad s.shape s.flash c.erase.new.self c.tear_segment-in-Bad.new.self s.sram s.supply c.flash_event-event.new.self s.begun s.pulled s.plans s.given c.args.segment c.in-Bad.g
    (sym c.if-not-powered.ensures) s.same_rows c.erase.ensures.erased c.tear_segment-in-Bad.ensures.flash c.tear_segment-in-Bad.ensures.same c.tear_segment-in-Bad.ensures.whole c.in-Bad.ensures.event c.in-Bad.ensures.state)

pub returns-in-Bad-clause-exact : goal.returns-in-Bad-clause-exact
returns-in-Bad-clause-exact c = λ on.
    let s = c.args.self.now in
    EraseEnds.exact (erase_is_bad s.shape s.flash c.erase.new.self c.tear_segment-in-Bad.new.self s.sram s.supply c.flash_event-event.new.self s.begun s.pulled s.plans s.given c.args.segment c.in-Bad.g
    on s.same_rows c.erase.ensures.erased c.tear_segment-in-Bad.ensures.flash c.tear_segment-in-Bad.ensures.same c.tear_segment-in-Bad.ensures.whole c.in-Bad.ensures.event c.in-Bad.ensures.state)

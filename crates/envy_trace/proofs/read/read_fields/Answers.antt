use Rattle.envy_trace.specs.declared.command.Command.TheVariants.{Load as CLoad, Look as CLook, Store as CStore, Begin as CBegin, Put as CPut, Commit as CCommit, Abort as CAbort, Tick as CTick, Power as CPower, Cut as CCut, Bad as CBad, Stat as CStat}
use Rattle.envy_trace.specs.declared.line.Line.TheVariants.{Load, Look, Store, Begin, Put, Commit, Abort, Tick, Power, Cut, Bad, Stat}
use Rattle.envy_trace.specs.Grammar.{pieces, slot, address, word, place}
use Rattle.envy_trace.proofs.Counts.{handed-on}
use Rattle.envy_trace.proofs.Made.{none-read, one-read, two-read, three-read, by-command}
use Rattle.envy_trace.proofs.read.read_fields.Goals as goal

pub returns-in_err-address-in-Load : goal.returns-in_err-address-in-Load
returns-in_err-address-in-Load c = by-command c.args.command CLoad (pieces c.args.rest.now) _ c.in-Load.is (handed-on c.from_residual.result _ _ c.from_residual.ensures.1 (one-read address Load (pieces c.args.rest.now) _ c.in_err-address-in-Load.ensures))

pub returns-in_ok-address-in-Load : goal.returns-in_ok-address-in-Load
returns-in_ok-address-in-Load c = by-command c.args.command CLoad (pieces c.args.rest.now) _ c.in-Load.is (one-read address Load (pieces c.args.rest.now) _ c.in_ok-address-in-Load.ensures)

pub returns-in_err-address-in-Look : goal.returns-in_err-address-in-Look
returns-in_err-address-in-Look c = by-command c.args.command CLook (pieces c.args.rest.now) _ c.in-Look.is (handed-on c.from_residual-in_err-address-in-Look.result _ _ c.from_residual-in_err-address-in-Look.ensures.1 (one-read address Look (pieces c.args.rest.now) _ c.in_err-address-in-Look.ensures))

pub returns-in_ok-address-in-Look : goal.returns-in_ok-address-in-Look
returns-in_ok-address-in-Look c = by-command c.args.command CLook (pieces c.args.rest.now) _ c.in-Look.is (one-read address Look (pieces c.args.rest.now) _ c.in_ok-address-in-Look.ensures)

pub returns-in_err-address-in-Store : goal.returns-in_err-address-in-Store
returns-in_err-address-in-Store c = by-command c.args.command CStore (pieces c.args.rest.now) _ c.in-Store.is (handed-on c.from_residual-in_err-address-in-Store.result _ _ c.from_residual-in_err-address-in-Store.ensures.1 (two-read address word Store (pieces c.args.rest.now) _ c.in_err-address-in-Store.ensures))

pub returns-in_ok-address-in-Store : goal.returns-in_ok-address-in-Store
returns-in_ok-address-in-Store c = by-command c.args.command CStore (pieces c.args.rest.now) _ c.in-Store.is (two-read address word Store (pieces c.args.rest.now) _ c.in_ok-address-in-Store.ensures)

pub returns-in_err-no_number-in-Begin : goal.returns-in_err-no_number-in-Begin
returns-in_err-no_number-in-Begin c = by-command c.args.command CBegin (pieces c.args.rest.now) _ c.in-Begin.is (handed-on c.from_residual-in_err-no_number-in-Begin.result _ _ c.from_residual-in_err-no_number-in-Begin.ensures.1 (none-read Begin (pieces c.args.rest.now) _ c.in_err-no_number-in-Begin.ensures))

pub returns-in_ok-no_number-in-Begin : goal.returns-in_ok-no_number-in-Begin
returns-in_ok-no_number-in-Begin c = by-command c.args.command CBegin (pieces c.args.rest.now) _ c.in-Begin.is (none-read Begin (pieces c.args.rest.now) _ c.in_ok-no_number-in-Begin.ensures)

pub returns-in_err-slot-in-Put : goal.returns-in_err-slot-in-Put
returns-in_err-slot-in-Put c = by-command c.args.command CPut (pieces c.args.rest.now) _ c.in-Put.is (handed-on c.from_residual-in_err-slot-in-Put.result _ _ c.from_residual-in_err-slot-in-Put.ensures.1 (three-read slot address word Put (pieces c.args.rest.now) _ c.in_err-slot-in-Put.ensures))

pub returns-in_ok-slot-in-Put : goal.returns-in_ok-slot-in-Put
returns-in_ok-slot-in-Put c = by-command c.args.command CPut (pieces c.args.rest.now) _ c.in-Put.is (three-read slot address word Put (pieces c.args.rest.now) _ c.in_ok-slot-in-Put.ensures)

pub returns-in_err-slot-in-Commit : goal.returns-in_err-slot-in-Commit
returns-in_err-slot-in-Commit c = by-command c.args.command CCommit (pieces c.args.rest.now) _ c.in-Commit.is (handed-on c.from_residual-in_err-slot-in-Commit.result _ _ c.from_residual-in_err-slot-in-Commit.ensures.1 (one-read slot Commit (pieces c.args.rest.now) _ c.in_err-slot-in-Commit.ensures))

pub returns-in_ok-slot-in-Commit : goal.returns-in_ok-slot-in-Commit
returns-in_ok-slot-in-Commit c = by-command c.args.command CCommit (pieces c.args.rest.now) _ c.in-Commit.is (one-read slot Commit (pieces c.args.rest.now) _ c.in_ok-slot-in-Commit.ensures)

pub returns-in_err-slot-in-Abort : goal.returns-in_err-slot-in-Abort
returns-in_err-slot-in-Abort c = by-command c.args.command CAbort (pieces c.args.rest.now) _ c.in-Abort.is (handed-on c.from_residual-in_err-slot-in-Abort.result _ _ c.from_residual-in_err-slot-in-Abort.ensures.1 (one-read slot Abort (pieces c.args.rest.now) _ c.in_err-slot-in-Abort.ensures))

pub returns-in_ok-slot-in-Abort : goal.returns-in_ok-slot-in-Abort
returns-in_ok-slot-in-Abort c = by-command c.args.command CAbort (pieces c.args.rest.now) _ c.in-Abort.is (one-read slot Abort (pieces c.args.rest.now) _ c.in_ok-slot-in-Abort.ensures)

pub returns-in_err-no_number-in-Tick : goal.returns-in_err-no_number-in-Tick
returns-in_err-no_number-in-Tick c = by-command c.args.command CTick (pieces c.args.rest.now) _ c.in-Tick.is (handed-on c.from_residual-in_err-no_number-in-Tick.result _ _ c.from_residual-in_err-no_number-in-Tick.ensures.1 (none-read Tick (pieces c.args.rest.now) _ c.in_err-no_number-in-Tick.ensures))

pub returns-in_ok-no_number-in-Tick : goal.returns-in_ok-no_number-in-Tick
returns-in_ok-no_number-in-Tick c = by-command c.args.command CTick (pieces c.args.rest.now) _ c.in-Tick.is (none-read Tick (pieces c.args.rest.now) _ c.in_ok-no_number-in-Tick.ensures)

pub returns-in_err-no_number-in-Power : goal.returns-in_err-no_number-in-Power
returns-in_err-no_number-in-Power c = by-command c.args.command CPower (pieces c.args.rest.now) _ c.in-Power.is (handed-on c.from_residual-in_err-no_number-in-Power.result _ _ c.from_residual-in_err-no_number-in-Power.ensures.1 (none-read Power (pieces c.args.rest.now) _ c.in_err-no_number-in-Power.ensures))

pub returns-in_ok-no_number-in-Power : goal.returns-in_ok-no_number-in-Power
returns-in_ok-no_number-in-Power c = by-command c.args.command CPower (pieces c.args.rest.now) _ c.in-Power.is (none-read Power (pieces c.args.rest.now) _ c.in_ok-no_number-in-Power.ensures)

pub returns-in_err-k-in-Cut : goal.returns-in_err-k-in-Cut
returns-in_err-k-in-Cut c = by-command c.args.command CCut (pieces c.args.rest.now) _ c.in-Cut.is (handed-on c.from_residual-in_err-k-in-Cut.result _ _ c.from_residual-in_err-k-in-Cut.ensures.1 (two-read place word Cut (pieces c.args.rest.now) _ c.in_err-k-in-Cut.ensures))

pub returns-in_ok-k-in-Cut : goal.returns-in_ok-k-in-Cut
returns-in_ok-k-in-Cut c = by-command c.args.command CCut (pieces c.args.rest.now) _ c.in-Cut.is (two-read place word Cut (pieces c.args.rest.now) _ c.in_ok-k-in-Cut.ensures)

pub returns-in_err-k-in-Bad : goal.returns-in_err-k-in-Bad
returns-in_err-k-in-Bad c = by-command c.args.command CBad (pieces c.args.rest.now) _ c.in-Bad.is (handed-on c.from_residual-in_err-k-in-Bad.result _ _ c.from_residual-in_err-k-in-Bad.ensures.1 (two-read place word Bad (pieces c.args.rest.now) _ c.in_err-k-in-Bad.ensures))

pub returns-in_ok-k-in-Bad : goal.returns-in_ok-k-in-Bad
returns-in_ok-k-in-Bad c = by-command c.args.command CBad (pieces c.args.rest.now) _ c.in-Bad.is (two-read place word Bad (pieces c.args.rest.now) _ c.in_ok-k-in-Bad.ensures)

pub returns-in_err-no_number-in-Stat : goal.returns-in_err-no_number-in-Stat
returns-in_err-no_number-in-Stat c = by-command c.args.command CStat (pieces c.args.rest.now) _ c.in-Stat.is (handed-on c.from_residual-in_err-no_number-in-Stat.result _ _ c.from_residual-in_err-no_number-in-Stat.ensures.1 (none-read Stat (pieces c.args.rest.now) _ c.in_err-no_number-in-Stat.ensures))

pub returns-in_ok-no_number-in-Stat : goal.returns-in_ok-no_number-in-Stat
returns-in_ok-no_number-in-Stat c = by-command c.args.command CStat (pieces c.args.rest.now) _ c.in-Stat.is (none-read Stat (pieces c.args.rest.now) _ c.in_ok-no_number-in-Stat.ensures)

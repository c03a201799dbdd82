use Rattle.std.proofs.Common.{◌≡◌, sym, ap, ◌∙◌}
use Rattle.std.proofs.lemmas.Result.{err_from_is_err_and}
use Rattle.envy_trace.specs.declared.fault.LineFault.TheVariants.{Word}
use Rattle.envy_btree.specs.declared.line.IndexLine.TheVariants.{Empty}
use Rattle.envy_btree.specs.Commands.{all}
use Rattle.envy_trace.specs.Grammar.{says, look_up, pieces}
use Rattle.envy_btree.specs.Grammar.{index_commands}
use Rattle.envy_btree.proofs.Lines.{line-long, line-short, named-none, named-some}
use Rattle.envy_btree.proofs.line_fields.read_index_line.Goals as goal

pub returns-in_err-name : goal.returns-in_err-name
returns-in_err-name c =
    let p = err_from_is_err_and c.from_residual.result c.from_residual.ensures.1 in
    let fault = c.in_err-name.ensures in
    rw (p.1, p.2, fault.0) (sym (line-long c.args.bytes.now fault.1))

pub returns-in_default : goal.returns-in_default
returns-in_default c =
    let found = c.in_ok-name.ensures in
    sym (line-short c.args.bytes.now found.0 ∙ ap (says Empty index_commands) (rw c.in_default.is at found.1))

pub returns-in_err-command : goal.returns-in_err-command
returns-in_err-command c =
    let p = err_from_is_err_and c.from_residual-in_err-command.result c.from_residual-in_err-command.ensures.1 in
    let found = c.in_ok-name.ensures in
    let none = c.in_err-command.ensures in
    let name = c.in-Some.name.now in
    let others = pieces c.in-Some.rest.now in
    let line = line-short c.args.bytes.now found.0 ∙ ap (says Empty index_commands) (rw c.in-Some.is at found.1) in
    let refused = rw none.ok_part at none.value in
    let fault : c.in_err-command.field-0.0 ≡ Word = cc in
    rw (p.1, p.2, fault) (sym (line ∙ named-none name others (sym c.named.ensures ∙ none.ok_part)))

pub returns : goal.returns
returns c =
    let found = c.in_ok-name.ensures in
    let some = c.in_ok-command.ensures.ok_part in
    let others = pieces c.in-Some.rest.now in
    let line = line-short c.args.bytes.now found.0 ∙ ap (says Empty index_commands) (rw c.in-Some.is at found.1) in
    let name = named-some c.in-Some.name.now all c.in_ok-command.command (sym c.named.ensures ∙ some) in
    c.read_fields.ensures ∙ sym (line ∙ ap (λ w. look_up index_commands w others) name)

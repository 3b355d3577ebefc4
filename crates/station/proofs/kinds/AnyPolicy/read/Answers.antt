use Rattle.std.proofs.Common.{◌∙◌, ap, sym, Err}
use Rattle.std.proofs.lemmas.Result.{err_from_is_err_and}
use Rattle.station.proofs.Held.{holds_rules, holds_table, refused_rules, refused_table}
use Rattle.station.proofs.kinds.AnyPolicy.read.Goals as goal

pub returns-in_err-read-in-Rules-clause-refused : goal.returns-in_err-read-in-Rules-clause-refused
returns-in_err-read-in-Rules-clause-refused c =
    let f = c.args.file.now in
    let x = err_from_is_err_and c.from_residual-in_err-read-in-Rules.result c.from_residual-in_err-read-in-Rules.ensures.1 in
    rw x.1 (refused_rules f _ (sym c.in_err-read-in-Rules.ensures.refused) (rw c.in-Rules.is at c.in_ok-policy_kind.ensures.read) ∙ ap Err (sym x.2))

pub returns-in_err-read-in-Table-clause-refused : goal.returns-in_err-read-in-Table-clause-refused
returns-in_err-read-in-Table-clause-refused c =
    let f = c.args.file.now in
    let x = err_from_is_err_and c.from_residual-in_err-read-in-Table.result c.from_residual-in_err-read-in-Table.ensures.1 in
    rw x.1 (refused_table f _ (sym c.in_err-read-in-Table.ensures.refused) (rw c.in-Table.is at c.in_ok-policy_kind.ensures.read) ∙ ap Err (sym x.2))

pub returns-in_ok-read-in-Rules-clause-read : goal.returns-in_ok-read-in-Rules-clause-read
returns-in_ok-read-in-Rules-clause-read c =
    rw c.in_ok-read-in-Rules.ensures.file (holds_rules c.args.file.now (sym c.in_ok-read-in-Rules.ensures.read) (rw c.in-Rules.is at c.in_ok-policy_kind.ensures.read))

pub returns-in_ok-read-in-Table-clause-read : goal.returns-in_ok-read-in-Table-clause-read
returns-in_ok-read-in-Table-clause-read c =
    rw c.in_ok-read-in-Table.ensures.file (holds_table c.args.file.now (sym c.in_ok-read-in-Table.ensures.read) (rw c.in-Table.is at c.in_ok-policy_kind.ensures.read))

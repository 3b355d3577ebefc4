use Rattle.std.proofs.Common.{arith}
use Rattle.std.proofs.lemmas.List.{get_or_past}
use Rattle.model.proofs.PolicyKinds.{read_neither}
use Rattle.policy.proofs.kind.policy_kind.Goals as goal

pub returns-in_default-clause-read : goal.returns-in_default-clause-read
returns-in_default-clause-read c =
    let z = get_or_past c.args.file.now 0 0 (omega arith) in
    read_neither c.args.file.now (λ e. omega arith) (λ e. omega arith)

pub returns-in_default-2-clause-read : goal.returns-in_default-2-clause-read
returns-in_default-2-clause-read c = read_neither c.args.file.now (λ e. omega arith) (λ e. omega arith)

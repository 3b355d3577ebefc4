use Rattle.std.proofs.Common.{rules}
use Rattle.std.proofs.lemmas.Int.{wraps}
use Rattle.machine.proofs.threads.Thread.run.Goals as goal

pub returns-in-Add-clause-after : goal.returns-in-Add-clause-after
returns-in-Add-clause-after c = search (rules, wraps)

pub returns-in-Sub-clause-after : goal.returns-in-Sub-clause-after
returns-in-Sub-clause-after c = search (rules, wraps)

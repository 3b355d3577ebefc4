use Rattle.rules.proofs.Refusing.{refuses_calls}
use Rattle.rules.proofs.borrowed.Rules.new.Goals as goal

pub returns-clause-refusing : goal.returns-clause-refusing
returns-clause-refusing c = refuses_calls

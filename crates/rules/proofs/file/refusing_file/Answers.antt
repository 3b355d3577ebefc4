use Rattle.std.proofs.Common.{refl}
use Rattle.model.specs.Fields.{field}
use Rattle.model.specs.Rules.{refusing_rules}
use Rattle.rules.proofs.file.refusing_file.Goals as goal

pub returns : goal.returns
unfolding field refusing_rules
returns c = refl

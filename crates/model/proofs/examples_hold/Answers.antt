use Rattle.std.proofs.Common.{refl}
use Rattle.model.proofs.Examples.{worked}
use Rattle.model.proofs.RefusedFiles.{refused, listed}
use Rattle.model.proofs.examples_hold.Goals as goal

pub returns : goal.returns
returns c = record { worked = worked; refused = refused; listed = listed; groups = refl }

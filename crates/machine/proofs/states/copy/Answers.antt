use Rattle.std.proofs.Common.{List, ◌++◌, drop, ℤ, ap}
use Rattle.machine.proofs.states.copy.Goals as goal

pub returns : goal.returns
returns c = ap (λ (r : List ℤ). r ++ drop 4 c.args.args.now) c.copy_from_slice.ensures.after

use Rattle.std.proofs.Common.{min, sym, ◌∙◌}
use Rattle.machine.proofs.Calling.{length_callers}
use Rattle.machine.proofs.frames.Callers.len.Goals as goal

pub returns : goal.returns
returns c = record { count = c.min.ensures ∙ sym (length_callers (min c.args.self.now.depth 15) c.args.self.now.frames); stored = c.min.ensures }

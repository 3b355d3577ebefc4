use Rattle.std.proofs.Common.{◌+◌, length, Err, ap, ◌∙◌, arith}
use Rattle.model.specs.declared.Refusal.TheVariants.{NotPlain}
use Rattle.applet.specs.Applets.{meant}
use Rattle.weaver.proofs.Passes.{filled_cells, no_cells}
use Rattle.weaver.proofs.methods.plain_applet.Goals as goal

pub returns-then-starts-gt0 : goal.returns-then-starts-gt0
returns-then-starts-gt0 c = ap (λ xs. Err (NotPlain (8 + length xs))) c.entries.ensures ∙ filled_cells (meant c.args.applet.now) (omega arith)

pub returns : goal.returns
returns c = c.plain_methods.ensures ∙ no_cells (meant c.args.applet.now) (omega arith)

use Rattle.std.proofs.Common.{sym, ap, subst, Some, ◌∙◌}
use Rattle.model.specs.Words.{quad_at}
use Rattle.applet.specs.Applets.{or_end}
use Rattle.weaver.specs.Pieces.{own_of, Called}
use Rattle.weaver.proofs.Opcodes.{decoded_called}
use Rattle.weaver.proofs.code.own_in.Goals as goal

pub returns-in-Some-Own-clause-known : goal.returns-in-Some-Own-clause-known
returns-in-Some-Own-clause-known c =
    subst (λ o. Called (own_of (or_end o))) (sym c.decode.ensures.value ∙ c.in-Some-Own.is ∙ ap Some c.in-Some-Own.field-0-is)
    (decoded_called c.args.methods (quad_at c.args.bytes 0))

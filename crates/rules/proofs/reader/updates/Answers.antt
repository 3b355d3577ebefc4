use Rattle.std.proofs.Common.{None, drop, ◌∙◌, rules}
use Rattle.model.specs.Rules.{update_field}
use Rattle.rules.specs.Reader.{bad_update}
use Rattle.rules.proofs.Reading.{found, places_alone}
use Rattle.rules.proofs.reader.updates.Goals as goal

pub returns : goal.returns
returns c =
    let n = c.args.scope.cells in
    let a = c.args.scope.arguments in
    c.each.ensures (found 69 (update_field n) (bad_update n a)) (λ h p r e. search rules) ∙ places_alone 69 (update_field n) (bad_update n a) 8 c.args.from (drop c.args.from c.args.holder.now) None

use Rattle.std.proofs.Common.{None, drop, ◌∙◌, rules}
use Rattle.model.specs.Rules.{rule_field}
use Rattle.rules.specs.Reader.{bad_rule}
use Rattle.rules.proofs.Reading.{found, places_alone}
use Rattle.rules.proofs.reader.rules.Goals as goal

pub returns : goal.returns
returns c =
    let n = c.args.cells in
    c.each.ensures (found 67 (rule_field n) (bad_rule n)) (λ h p r e. search rules) ∙ places_alone 67 (rule_field n) (bad_rule n) 64 c.args.from (drop c.args.from c.args.file.now) None

use Rattle.std.proofs.Common.{arith}
use Rattle.model.proofs.RuleFiles.{rules_laid, rules_valid_in}
use Rattle.rules.proofs.file.RulesFile.width.Goals as goal

pub bounds-self-4 : goal.bounds-self-4
bounds-self-4 c = let l = (rules_laid c.args.self.now.bytes.now c.args.self.now.reads).long in omega arith

pub returns : goal.returns
returns c =
    let l = (rules_laid c.args.self.now.bytes.now c.args.self.now.reads).cells in
    let v = (rules_valid_in c.args.self.now.bytes.now c.args.self.now.reads).cells in
    record { value = l; few = omega arith }

use Rattle.std.proofs.Common.{◌<◌, length, ◌∙◌}
use Rattle.model.specs.Fields.{Bytes}
use Rattle.std.proofs.ByRecursion.{All-from_get_or}
use Rattle.model.specs.Rules.{rules_in}
use Rattle.rules.specs.Index.{rules_place}
use Rattle.rules.proofs.Indexing.{any_placed, file_end}
use Rattle.rules.proofs.borrowed.Rules.has_rule.Goals as goal

pub returns : goal.returns
returns c =
    let f = c.args.self.now.file.bytes.now in
    let b : Bytes f = All-from_get_or (λ b. b < 256) f 0 c.args.self.now.file.fits in
    c.has_rule.ensures ∙ any_placed c.args.self.now.index (rules_in f).rules c.args.call (rules_place f) (length f) c.args.self.now.firsts c.requires (file_end f c.args.self.now.file.reads b)

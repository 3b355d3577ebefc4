use Rattle.std.proofs.Common.{is_ok, Err, sym, refl, ap, ◌∙◌}
use Rattle.model.specs.Rules.{reads_rules, rules_in}
use Rattle.model.proofs.RuleFiles.{refusing_rules_read, refusing_rules_in, rules_refused_in}
use Rattle.rules.proofs.Checking.{refused_read}
use Rattle.rules.proofs.file.RulesFile.new.Goals as goal

pub over-requires : goal.over-requires
over-requires c = ap reads_rules c.refusing_file.ensures ∙ ap is_ok refusing_rules_read

pub returns-in-Err : goal.returns-in-Err
returns-in-Err c =
    ap rules_in (c.over.ensures ∙ c.refusing_file.ensures) ∙ refusing_rules_in
    ∙ sym (rules_refused_in c.args.bytes.now (refused_read c.args.bytes.now (Err c.in-Err.field-0) (sym c.in-Err.ensures.refused) refl))

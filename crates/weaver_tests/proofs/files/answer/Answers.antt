use Rattle.std.proofs.Common.{◌∙◌, ap, replicate}
use Rattle.model.specs.Rules.{rules_automaton, rules_block}
use Rattle.model.specs.Areas.{weave_answer}
use Rattle.weaver_tests.specs.Files.{told}
use Rattle.weaver_tests.proofs.files.answer.Goals as goal

pub returns : goal.returns
returns c =
    c.told.ensures
    ∙ ap told (c.weave.ensures.answer
    ∙ ap (λ r. weave_answer (rules_automaton r) (rules_block r) c.args.file.now (replicate 65536 0)) c.new.ensures.value)

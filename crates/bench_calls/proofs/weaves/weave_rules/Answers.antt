use Rattle.std.proofs.Common.{ap, ◌∙◌}
use Rattle.model.specs.Areas.{weave_answer, weave_area}
use Rattle.model.specs.Rules.{rules_automaton, rules_block}
use Rattle.bench_calls.proofs.weaves.weave_rules.Goals as goal

pub returns : goal.returns
returns c =
    let f = c.args.plain.now in
    let xs = c.args.area.now in
    record {
      answer = c.weave.ensures.answer ∙ ap (λ p. weave_answer (rules_automaton p) (rules_block p) f xs) c.new.ensures.value;
      area = c.weave.ensures.area ∙ ap (λ p. weave_area (rules_automaton p) (rules_block p) f xs) c.new.ensures.value;
    }

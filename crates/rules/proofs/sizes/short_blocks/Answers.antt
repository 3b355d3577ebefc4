use Rattle.std.proofs.Common.{leb, length, ◌∙◌, ap₂, rules}
use Rattle.model.specs.Rules.{rules_of, block_of}
use Rattle.rules.proofs.Walks.{all_rules}
use Rattle.rules.proofs.sizes.short_blocks.Goals as goal

pub returns : goal.returns
returns c n rs v =
    all_rules n (λ r. leb (length (block_of 0 (rules_of rs r.call r.moment))) 1000) _ _ c.all.new.self (record { 0 = c.args.rules }) rs v c.all.ensures.ran
    (λ x b q r k t e. (search rules, search (rules, e) ∙ ap₂ (λ k t. leb (length (block_of 0 (rules_of rs k t))) 1000) k t))

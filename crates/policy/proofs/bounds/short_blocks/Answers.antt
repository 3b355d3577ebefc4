use Rattle.std.proofs.Common.{leb, length, [], ◌∷◌, ◌∙◌, rules}
use borrow.Author.Tests.{tests}
use Rattle.std.proofs.lemmas.Iterator.{YieldsList-from_slice}
use Rattle.std.proofs.lemmas.Iterator.Search.{all_from_yields_List}
use Rattle.model.specs.declared.Moment.{Moment}
use Rattle.policy.proofs.WithinLimits.{each_is, told_short}
use Rattle.policy.proofs.bounds.short_blocks.Goals as goal

pub returns : goal.returns
returns g c =
    all_from_yields_List (λ t. leb (length (g.P.Policy.blocks c.args.p.now c.args.call t 0)) 1000) c.all.new.self _ _ c.all.ensures.ran
    (YieldsList-from_slice (Moment.Before ∷ Moment.After ∷ Moment.Raised ∷ []) c.iter.ensures.rest) (λ x b q k. search (rules, tests, told_short)) ∙
    each_is (λ t. leb (length (g.P.Policy.blocks c.args.p.now c.args.call t 0)) 1000)

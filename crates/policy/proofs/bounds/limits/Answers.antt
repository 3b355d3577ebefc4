use Rattle.std.proofs.Common.{ℕ, false, true, leb, length, refl, sym, ◌∙◌, arith, rules}
use borrow.Author.Tests.{tests}
use Rattle.std.proofs.lemmas.Iterator.{YieldsList-from_range}
use Rattle.std.proofs.lemmas.Iterator.Search.{all_from_yields_List}
use Rattle.model.specs.Moments.{each_moment}
use Rattle.policy.proofs.WithinLimits.{limits_wide, limits_by}
use Rattle.policy.proofs.bounds.limits.Goals as goal

pub returns-then-width-gt32 : goal.returns-then-width-gt32
returns-then-width-gt32 g c = limits_wide (g.P.Policy.meaning c.args.p.now) (g.P.Policy.blocks c.args.p.now) (omega arith)

pub returns-then-not-all : goal.returns-then-not-all
returns-then-not-all g c =
    let short = λ (k : ℕ). each_moment (λ t. leb (length (g.P.Policy.blocks c.args.p.now k t 0)) 1000) in
    limits_by (g.P.Policy.meaning c.args.p.now) (g.P.Policy.blocks c.args.p.now) (omega arith) false
    (sym c.if-not-all.true ∙ all_from_yields_List short c.all.new.self _ _ c.all.ensures.ran (YieldsList-from_range 0 64 64 refl refl) (λ x b q k. search (rules, tests)))

pub returns : goal.returns
returns g c =
    let short = λ (k : ℕ). each_moment (λ t. leb (length (g.P.Policy.blocks c.args.p.now k t 0)) 1000) in
    limits_by (g.P.Policy.meaning c.args.p.now) (g.P.Policy.blocks c.args.p.now) (omega arith) true
    (sym c.if-not-all.false ∙ all_from_yields_List short c.all.new.self _ _ c.all.ensures.ran (YieldsList-from_range 0 64 64 refl refl) (λ x b q k. search (rules, tests)))

use Rattle.std.proofs.Common.{◌&&◌, eqb, sym, ap, ◌∙◌, ap₂, arith}
use Rattle.model.specs.Moments.{same_moment}
use Rattle.model.specs.Policy.{arguments}
use Rattle.model.specs.Rules.{rules_of}
use Rattle.rules.proofs.Shown.{next_rule, no_rules}
use Rattle.rules.proofs.Lengths.{rules_size, expr_size, size_for, size_other, block_size_none, block_size_some}
use Rattle.rules.proofs.sizes.block_len.Goals as goal

pub loop-r-preserved-then-is_for : goal.loop-r-preserved-then-is_for
loop-r-preserved-then-is_for c =
    let k = c.in-Some.ensures.steps.less.1 in
    let h = c.loop-r.invariant.0 in
    let s = c.updates_len.ensures.small in (
      omega arith,
      λ n rs v.
          let i = c.loop-r.invariant.1 n rs v in
          let x = next_rule n _ i.0 c.in-Some.r _ i.1 c.in-Some.ensures.steps in
          let e = expr_size 0 _ x.first.guard x.guard in
          let u = c.updates_len.ensures.value n (arguments x.first.moment) x.first.updates x.updates in
          let m = ap₂ (λ a b. eqb a c.args.call && same_moment b c.args.moment) (sym x.call) (sym x.moment) ∙ sym c.if-is_for.ensures in
          let l = ap (λ vs. rules_size (rules_of vs c.args.call c.args.moment)) x.all ∙ size_for c.args.call c.args.moment x.first x.more m in
          let q = i.2 in
          (x.more, x.written, omega arith),
    )

pub loop-r-preserved : goal.loop-r-preserved
loop-r-preserved c =
    let k = c.in-Some.ensures.steps.less.1 in
    let h = c.loop-r.invariant.0 in (
      omega arith,
      λ n rs v.
          let i = c.loop-r.invariant.1 n rs v in
          let x = next_rule n _ i.0 c.in-Some.r _ i.1 c.in-Some.ensures.steps in
          let m = ap₂ (λ a b. eqb a c.args.call && same_moment b c.args.moment) (sym x.call) (sym x.moment) ∙ sym c.if-is_for.ensures in
          let l = ap (λ vs. rules_size (rules_of vs c.args.call c.args.moment)) x.all ∙ size_other c.args.call c.args.moment x.first x.more m in
          let q = i.2 in
          (x.more, x.written, omega arith),
    )

pub returns-then-len-eq0 : goal.returns-then-len-eq0
returns-then-len-eq0 c n rs v =
    let i = c.loop-r.invariant.1 n rs v in
    let z = ap (λ vs. rules_size (rules_of vs c.args.call c.args.moment)) (no_rules n _ i.0 _ i.1 c.in-None.ensures.steps) in
    let q = i.2 in
    sym (block_size_none (rules_of rs c.args.call c.args.moment) (omega arith))

pub returns-else-len-eq0 : goal.returns-else-len-eq0
returns-else-len-eq0 c n rs v =
    let i = c.loop-r.invariant.1 n rs v in
    let z = ap (λ vs. rules_size (rules_of vs c.args.call c.args.moment)) (no_rules n _ i.0 _ i.1 c.in-None.ensures.steps) in
    let q = i.2 in
    let l = block_size_some (rules_of rs c.args.call c.args.moment) (λ e. omega arith) in
    omega arith

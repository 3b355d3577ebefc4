use Rattle.std.proofs.Common.{◌≡◌, ◌+◌, ◌&&◌, eqb, [], ◌∷◌, ◌++◌, length, sym, ap, ◌∙◌, subst, subst₂, ap₂, arith}
use Rattle.std.proofs.lemmas.Bool.{and_parts}
use Rattle.model.specs.declared.Test.TheVariants.{Viol}
use Rattle.model.specs.Moments.{same_moment}
use Rattle.model.specs.Policy.{arguments}
use Rattle.model.specs.Calls.{block_bytes}
use Rattle.model.specs.Rules.{rules_of, block_of, emit_rules, ValidExpr}
use Rattle.model.proofs.Moments.{same_moment_true}
use Rattle.policy.specs.Calls.{put_at}
use Rattle.rules.specs.Views.{WrittenUpdates}
use Rattle.rules.specs.Writer.{Cells, Fitting, rule_code}
use Rattle.rules.specs.declared.tokens.Scope.{Scope}
use Rattle.rules.specs.declared.views.RuleViews.{RuleViews}
use Rattle.rules.proofs.Shown.{next_rule, no_rules}
use Rattle.rules.proofs.Acts.{for_it, for_other}
use Rattle.rules.proofs.Lengths.{rules_size, expr_size, updates_placed, length_rules, block_some, block_as_long, rule_first}
use Rattle.rules.proofs.Wrote.{Wrote, wrote_none, wrote_more, wrote_all, puts}
use Rattle.rules.proofs.writer.write_rules.Goals as goal

pub loop-r-init : goal.loop-r-init
loop-r-init c rs v h g e =
    let i = ap (λ (v : RuleViews). v.0.now) c.into_iter-r-iterator.ensures.into_iter_gives in
    let P = rules_of rs c.args.call c.args.moment in
    let l = length_rules c.args.first P in
    let g0 = g.0 in
    let g1 = g.1 in
    (rs, (i ∙ v.0, v.1), e, omega arith, wrote_none c.args.area.now 0 (emit_rules c.args.first P) (omega arith))

pub loop-r-preserved-then-is_for : goal.loop-r-preserved-then-is_for
loop-r-preserved-then-is_for c rs v h g e =
    let k = c.args.call in
    let t = c.args.moment in
    let f = c.args.first in
    let area = c.args.area.now in
    let whole = emit_rules f (rules_of rs k t) in
    let i = c.loop-r.invariant rs v h g e in
    let x = next_rule c.args.width _ i.0 c.in-Some.r c.next.new.self.0.now i.1 c.in-Some.ensures.steps in
    let P = rules_of x.more k t in
    let m = ap₂ (λ a b. eqb a k && same_moment b t) (sym x.call) (sym x.moment) ∙ sym c.if-is_for.ensures in
    let sc = sym (ap (λ (s : Scope). s.cells) c.at-scope.ensures) in
    let sa = ap arguments (same_moment_true x.first.moment t (and_parts _ _ m).1) ∙ sym (ap (λ (s : Scope). s.arguments) c.at-scope.ensures) in
    let q = ap (λ vs. rules_of vs k t) x.all ∙ for_it k t x.first x.more m in
    let s = ap rules_size q in
    let ge = expr_size 0 _ x.first.guard x.guard in
    let us = subst₂ (λ n a. WrittenUpdates n a c.in-Some.r.updates.now x.first.updates) sc sa x.updates in
    let gv = subst₂ (λ n a. ValidExpr n a x.first.guard) sc sa x.valid.guard in
    let hs = subst (λ n. Cells n f) sc h in
    let ul = c.updates_len.ensures.value c.at-scope.result.cells c.at-scope.result.arguments x.first.updates us in
    let up = updates_placed f x.first.updates in
    let i2 = i.2 in
    let i3 = i.3 in
    let left' = c.saturating_sub-left.result in
    let le = c.saturating_sub-left.ensures in
    let left : left' ≡ rules_size P + 1 = omega arith in
    let lp = length_rules f P in
    let here : left' ≡ length (emit_rules f P) = omega arith in
    let code : emit_rules f (rules_of i.0 k t) ≡ rule_code f x.first.guard x.first.updates left' ++ emit_rules f P =
    ap (emit_rules f) q ∙ rule_first f x.first P ∙ ap (λ n. rule_code f x.first.guard x.first.updates n ++ emit_rules f P) (sym here) in
    let one = wrote_more area 0 whole (rule_code f x.first.guard x.first.updates left') (emit_rules f P) c.loop-r.to c.loop-r.area
    (subst (λ b. Wrote area 0 whole b c.loop-r.to c.loop-r.area) code i.4) c.put_rule-to.result c.put_rule-to.new.area
    (c.put_rule-to.ensures x.first.guard x.first.updates x.guard gv us hs (omega arith) (omega arith)) in
    (x.more, x.written, left, omega arith, one)

pub loop-r-preserved : goal.loop-r-preserved
loop-r-preserved c rs v h g e =
    let k = c.args.call in
    let t = c.args.moment in
    let i = c.loop-r.invariant rs v h g e in
    let x = next_rule c.args.width _ i.0 c.in-Some.r c.next.new.self.0.now i.1 c.in-Some.ensures.steps in
    let m = ap₂ (λ a b. eqb a k && same_moment b t) (sym x.call) (sym x.moment) ∙ sym c.if-is_for.ensures in
    let q = ap (λ vs. rules_of vs k t) x.all ∙ for_other k t x.first x.more m in
    (x.more, x.written, i.2 ∙ ap (λ R. rules_size R + 1) q, rw (← q) i.3, rw (← q) i.4)

pub returns : goal.returns
returns c rs v h g =
    let P = rules_of rs c.args.call c.args.moment in
    let f = c.args.first in
    let b = c.block_len-left.ensures c.args.width rs v in
    let some : length (block_of 0 P) ≡ 0 → ⊥ = (λ z. c.if-left-eq0.false (b ∙ z)) in
    let z = block_some f P some in
    let i = c.loop-r.invariant rs v h (subst (Fitting c.args.area.now) z g) (b ∙ block_as_long P some) in
    let n = ap (λ vs. emit_rules f (rules_of vs c.args.call c.args.moment)) (no_rules c.args.width _ i.0 _ i.1 c.in-None.ensures.steps) in
    let last = wrote_more c.args.area.now 0 (emit_rules f P) (Viol ∷ []) [] c.loop-r.to c.loop-r.area
    (subst (λ r. Wrote c.args.area.now 0 (emit_rules f P) r c.loop-r.to c.loop-r.area) n i.4) _ _ (puts _ _ Viol _ _ c.put.ensures.behind c.put.ensures.area) in
    (wrote_all c.args.area.now 0 (emit_rules f P) _ _ last).1 ∙ ap (λ r. put_at c.args.area.now 0 (block_bytes r)) (sym z)

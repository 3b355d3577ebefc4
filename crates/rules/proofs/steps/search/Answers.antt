use Rattle.std.proofs.Common.{[], ◌∷◌, ◌++◌, ◌&&◌, eqb, pos, sym, refl, ap, ◌∙◌, subst, ap₂, w32, to_z, of_z, SFits, rules}
use Rattle.std.proofs.lemmas.Int.{to_z-of_z}
use Rattle.std.proofs.lemmas.Bool.{and_parts}
use Rattle.rules.specs.declared.views.RuleViews.{RuleViews}
use Rattle.model.specs.Moments.{same_moment}
use Rattle.model.specs.Policy.{arguments, eqZ}
use Rattle.model.specs.Rules.{rules_of, ValidExpr}
use Rattle.model.proofs.Moments.{same_moment_true}
use Rattle.rules.specs.Views.{WrittenUpdates}
use Rattle.rules.proofs.Shown.{next_rule, no_rules}
use Rattle.rules.proofs.Acts.{going, sought, for_it, for_other, going_on, acts, ne_eqZ}
use Rattle.rules.proofs.steps.search.Goals as goal

pub loop-r-init : goal.loop-r-init
loop-r-init c = (tt, λ rs v. (rs, (ap (λ (v : RuleViews). v.0.now) c.into_iter-r-iterator.ensures.into_iter_gives ∙ v.0, v.1), refl))

pub returns-then-evaluate-ne0 : goal.returns-then-evaluate-ne0
returns-then-evaluate-ne0 c rs v =
    let n = c.args.scope.cells in
    let a = c.args.event.now.args ++ (c.args.event.now.answer ∷ []) in
    let call = c.args.event.now.call in
    let moment = c.args.event.now.moment in
    let i = c.loop-r.invariant.1 rs v in
    let x = next_rule n _ i.0 c.in-Some.r c.next.new.self.0.now i.1 c.in-Some.ensures.steps in
    let m = ap₂ (λ a b. eqb a call && same_moment b moment) (sym x.call) (sym x.moment) ∙ sym c.if-is_for.ensures in
    let k = ap arguments (same_moment_true x.first.moment moment (and_parts _ _ m).1) ∙ sym c.requires in
    let u = c.evaluate.ensures x.first.guard x.guard (subst (λ j. ValidExpr n j x.first.guard) k x.valid.guard) in
    let z = ap (λ y. eqZ y (pos 0)) (sym u) ∙ ne_eqZ c.evaluate.result (λ q. c.if-evaluate-ne0.true (ap (of_z w32) q)) in (
      x.first.updates,
      subst (λ j. WrittenUpdates n j c.in-Some.r.updates.now x.first.updates) k x.updates,
      i.2 ∙ ap (λ vs. going c.loop-r.found a c.args.cells.now (rules_of vs call moment)) x.all
          ∙ ap (going c.loop-r.found a c.args.cells.now) (for_it call moment x.first x.more m)
          ∙ acts a c.args.cells.now x.first (rules_of x.more call moment) c.loop-r.found z,
    )

pub loop-r-preserved-then-is_for : goal.loop-r-preserved-then-is_for
loop-r-preserved-then-is_for c = (
  tt,
  λ rs v.
      let g : SFits w32 c.evaluate.result = search rules in
      let n = c.args.scope.cells in
      let a = c.args.event.now.args ++ (c.args.event.now.answer ∷ []) in
      let call = c.args.event.now.call in
      let moment = c.args.event.now.moment in
      let i = c.loop-r.invariant.1 rs v in
      let x = next_rule n _ i.0 c.in-Some.r c.next.new.self.0.now i.1 c.in-Some.ensures.steps in
      let m = ap₂ (λ a b. eqb a call && same_moment b moment) (sym x.call) (sym x.moment) ∙ sym c.if-is_for.ensures in
      let k = ap arguments (same_moment_true x.first.moment moment (and_parts _ _ m).1) ∙ sym c.requires in
      let u = c.evaluate.ensures x.first.guard x.guard (subst (λ j. ValidExpr n j x.first.guard) k x.valid.guard) in
      let z = ap (λ y. eqZ y (pos 0)) (sym u ∙ sym (to_z-of_z w32 c.evaluate.result g) ∙ ap (to_z w32) c.if-evaluate-ne0.false) in (
        x.more,
        x.written,
        i.2 ∙ ap (λ vs. going c.loop-r.found a c.args.cells.now (rules_of vs call moment)) x.all
            ∙ ap (going c.loop-r.found a c.args.cells.now) (for_it call moment x.first x.more m)
            ∙ going_on a c.args.cells.now x.first (rules_of x.more call moment) c.loop-r.found z,
      ),
)

pub loop-r-preserved : goal.loop-r-preserved
loop-r-preserved c = (
  c.loop-r.invariant.0,
  λ rs v.
      let n = c.args.scope.cells in
      let a = c.args.event.now.args ++ (c.args.event.now.answer ∷ []) in
      let call = c.args.event.now.call in
      let moment = c.args.event.now.moment in
      let i = c.loop-r.invariant.1 rs v in
      let x = next_rule n _ i.0 c.in-Some.r c.next.new.self.0.now i.1 c.in-Some.ensures.steps in
      let m = ap₂ (λ a b. eqb a call && same_moment b moment) (sym x.call) (sym x.moment) ∙ sym c.if-is_for.ensures in (
        x.more,
        x.written,
        i.2 ∙ ap (λ vs. going c.loop-r.found a c.args.cells.now (rules_of vs call moment)) x.all
            ∙ ap (going c.loop-r.found a c.args.cells.now) (for_other call moment x.first x.more m),
      ),
)

pub returns : goal.returns
returns c rs v =
    let a = c.args.event.now.args ++ (c.args.event.now.answer ∷ []) in
    let i = c.loop-r.invariant.1 rs v in
    let z = ap (λ vs. rules_of vs c.args.event.now.call c.args.event.now.moment) (no_rules c.args.scope.cells _ i.0 _ i.1 c.in-None.ensures.steps) in
    sought c.args.scope.cells c.args.scope.arguments a c.args.cells.now (rules_of rs c.args.event.now.call c.args.event.now.moment) c.loop-r.found c.loop-r.invariant.0
    (i.2 ∙ ap (going c.loop-r.found a c.args.cells.now) z)

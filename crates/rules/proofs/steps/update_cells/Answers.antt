use Rattle.std.proofs.Common.{[], ◌∷◌, ◌++◌, set, sym, refl, ap, ◌∙◌, ap₂, w32, SFits, rules}
use Rattle.std.proofs.lemmas.Int.{to_z-of_z}
use Rattle.rules.specs.declared.views.UpdateViews.{UpdateViews}
use Rattle.model.specs.Rules.{updated}
use Rattle.rules.proofs.Shown.{next_update, no_updates}
use Rattle.rules.proofs.steps.update_cells.Goals as goal

pub loop-u-init : goal.loop-u-init
loop-u-init c us w = (us, (ap (λ (v : UpdateViews). v.0.now) c.into_iter-u-iterator.ensures.into_iter_gives ∙ w.0, w.1), refl)

pub loop-u-preserved : goal.loop-u-preserved
loop-u-preserved c us w =
    let i = c.loop-u.invariant us w in
    let x = next_update c.args.scope.cells c.args.scope.arguments _ i.0 c.in-Some.u _ i.1 c.in-Some.ensures.steps in
    let g : SFits w32 c.evaluate-v.result = search rules in
    let v = to_z-of_z w32 c.evaluate-v.result g ∙ c.evaluate-v.ensures x.first.value x.value x.valid.1 in (
      x.more,
      x.written,
      ap (updated (c.args.event.now.args ++ (c.args.event.now.answer ∷ [])) x.more) (c.store.ensures ∙ ap₂ (set c.loop-u.cells) x.cell v)
          ∙ sym (ap (λ vs. updated (c.args.event.now.args ++ (c.args.event.now.answer ∷ [])) vs c.loop-u.cells) x.all) ∙ i.2,
    )

pub returns : goal.returns
returns c us w =
    let i = c.loop-u.invariant us w in
    sym (ap (λ vs. updated (c.args.event.now.args ++ (c.args.event.now.answer ∷ [])) vs c.loop-u.cells) (no_updates c.args.scope.cells c.args.scope.arguments _ i.0 _ i.1 c.in-None.ensures.steps)) ∙ i.2

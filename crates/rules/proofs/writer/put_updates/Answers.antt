use Rattle.std.proofs.Common.{◌≡◌, ◌+◌, [], ◌∷◌, ◌++◌, sym, ap, ◌∙◌, subst, arith}
use Rattle.model.specs.declared.Test.TheVariants.{Store}
use Rattle.rules.specs.declared.views.UpdateViews.{UpdateViews}
use Rattle.model.specs.Rules.{emit, emit_updates}
use Rattle.rules.proofs.Shown.{next_update, no_updates}
use Rattle.rules.proofs.Wrote.{Wrote, wrote_none, wrote_more, wrote_all, puts}
use Rattle.rules.proofs.writer.put_updates.Goals as goal

pub loop-u-init : goal.loop-u-init
loop-u-init c us w h r = (us, (ap (λ (v : UpdateViews). v.0.now) c.into_iter-u-iterator.ensures.into_iter_gives ∙ w.0, w.1), wrote_none c.args.area.now c.args.at (emit_updates c.args.first us) r)

pub loop-u-preserved : goal.loop-u-preserved
loop-u-preserved c us w h r =
    let i = c.loop-u.invariant us w h r in
    let x = next_update c.args.scope.cells c.args.scope.arguments _ i.0 c.in-Some.u _ i.1 c.in-Some.ensures.steps in
    let f = c.args.first in
    let whole = emit_updates f us in
    let m = h x.first.cell x.valid.0 in
    let n = x.cell in
    let k : c.saturating_add.result ≡ f + x.first.cell = (let e = c.saturating_add.ensures in omega arith) in
    let e : emit_updates f i.0 ≡ emit f 0 x.first.value ++ (Store 0 c.saturating_add.result ∷ emit_updates f x.more) =
    ap (emit_updates f) x.all ∙ ap (λ j. emit f 0 x.first.value ++ (Store 0 j ∷ emit_updates f x.more)) (sym k) in
    let one = wrote_more c.args.area.now c.args.at whole (emit f 0 x.first.value) (Store 0 c.saturating_add.result ∷ emit_updates f x.more) c.loop-u.to c.loop-u.area
    (subst (λ b. Wrote c.args.area.now c.args.at whole b c.loop-u.to c.loop-u.area) e i.2) _ _ (c.put_expr-end.ensures x.first.value x.value x.valid.1 h) in (
      x.more,
      x.written,
      wrote_more c.args.area.now c.args.at whole (Store 0 c.saturating_add.result ∷ []) (emit_updates f x.more) c.put_expr-end.result c.put_expr-end.new.area one _ _ (puts _ _ (Store 0 c.saturating_add.result) _ _ c.put-to.ensures.behind c.put-to.ensures.area),
    )

pub returns : goal.returns
returns c us w h r =
    let i = c.loop-u.invariant us w h r in
    let z = ap (emit_updates c.args.first) (no_updates c.args.scope.cells c.args.scope.arguments _ i.0 _ i.1 c.in-None.ensures.steps) in
    wrote_all c.args.area.now c.args.at (emit_updates c.args.first us) c.loop-u.to c.loop-u.area
    (subst (λ b. Wrote c.args.area.now c.args.at (emit_updates c.args.first us) b c.loop-u.to c.loop-u.area) z i.2)

use Rattle.std.proofs.Common.{◌≡◌, ◌+◌, [], ◌∷◌, ◌++◌, length, sym, ◌∙◌, subst, ap₂, arith}
use Rattle.model.specs.declared.Test.TheVariants.{Skz, Skip}
use Rattle.model.specs.Rules.{emit, emit_updates}
use Rattle.rules.specs.Writer.{rule_code}
use Rattle.rules.proofs.Lengths.{updates_placed}
use Rattle.rules.proofs.Wrote.{Wrote, wrote_none, wrote_more, wrote_all, puts}
use Rattle.rules.proofs.writer.put_rule.Goals as goal

pub returns : goal.returns
returns c ts us e w v h l k r =
    let f = c.args.first in
    let area = c.args.area.now in
    let at = c.args.at in
    let whole = rule_code f ts us c.args.behind in
    let g = emit f 0 ts in
    let u = emit_updates f us in
    let n = c.updates_len-n.ensures.value c.args.scope.cells c.args.scope.arguments us v in
    let p = updates_placed f us in
    let a : c.count.result ≡ length u + 1 = c.count.ensures (omega arith) ∙ omega arith in
    let b = c.count-2.ensures k in
    let s = Skz 0 c.count.result in
    let t = Skip c.count-2.result in
    let q : whole ≡ g ++ (s ∷ u ++ (t ∷ [])) = sym (ap₂ (λ i j. g ++ (Skz 0 i ∷ u ++ (Skip j ∷ []))) a b) in
    let one = wrote_more area at whole g (s ∷ u ++ (t ∷ [])) at area (subst (λ z. Wrote area at whole z at area) q (wrote_none area at whole r)) _ _ (c.put_expr-a.ensures ts e w h) in
    let two = wrote_more area at whole (s ∷ []) (u ++ (t ∷ [])) _ _ one _ _ (puts _ _ s _ _ c.put-b.ensures.behind c.put-b.ensures.area) in
    let three = wrote_more area at whole u (t ∷ []) _ _ two _ _ (c.put_updates-c.ensures us v h) in
    let four = wrote_more area at whole (t ∷ []) [] _ _ three _ _ (puts _ _ t _ _ c.put.ensures.behind c.put.ensures.area) in
    wrote_all area at whole _ _ four

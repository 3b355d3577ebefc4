use Rattle.std.proofs.Common.{[], ◌∷◌, Some, refl, sym, ap, ◌∙◌, subst}
use Rattle.std.specs.Slice.Iter.{chunks_rest, chunks_size}
use Rattle.model.specs.Rules.{emit}
use Rattle.rules.specs.Tokens.{meant, room, after}
use Rattle.rules.proofs.Expressions.{given_by, Unread, by_chunk, unread_start, unread_more}
use Rattle.rules.proofs.Stack.{emit_first}
use Rattle.rules.proofs.Wrote.{Wrote, wrote_none, wrote_more, puts}
use Rattle.rules.proofs.writer.put_expr.Goals as goal

pub loop-bytes-init : goal.loop-bytes-init
loop-bytes-init c =
    let i = c.into_iter-bytes-iterator.ensures.into_iter_gives in (
      ap chunks_size i ∙ c.chunks-bytes-items.ensures.size,
      λ ts e w h r. (
        unread_start c.args.scope.cells c.args.scope.arguments _ 0 ts (ap chunks_rest i ∙ c.chunks-bytes-items.ensures.rest ∙ e) refl w,
        wrote_none c.args.area.now c.args.at (emit c.args.first 0 ts) r,
      ),
    )

pub loop-bytes-preserved : goal.loop-bytes-preserved
loop-bytes-preserved c =
    let n = c.args.scope.cells in
    let a = c.args.scope.arguments in
    let f = c.args.first in
    let area = c.args.area.now in
    let d = c.loop-bytes.d in
    let t = meant c.in-Some-read.t in
    let z = chunks_rest c.next.new.self in
    let g = given_by (room d t) (after d t) c.in-Some-held.e c.in-Some-held.ensures in (
      c.in-Some.ensures.steps.0 ∙ c.loop-bytes.invariant.0,
      λ ts e w h r.
          let whole = emit f 0 ts in
          let i = c.loop-bytes.invariant.1 ts e w h r in
          let o = unread_more n a _ _ i.0 t z (by_chunk n a _ _ _ _ (Some t) c.loop-bytes.invariant.0 c.in-Some.ensures.steps.1 c.in-Some-read.ensures) in
          let k = ap (emit f d) o.all ∙ emit_first n a f d t o.more.rest c.code.result o.valid (c.code.ensures n h) in
          subst (λ j. (u : Unread n a z j) × Wrote area c.args.at whole (emit f j u.rest) c.put-to.result c.put-to.new.area) (sym g.1) (
            o.more,
            wrote_more area c.args.at whole (c.code.result ∷ []) (emit f (after d t) o.more.rest) c.loop-bytes.to c.loop-bytes.area
                (subst (λ b. Wrote area c.args.at whole b c.loop-bytes.to c.loop-bytes.area) k i.1) _ _ (puts _ _ c.code.result _ _ c.put-to.ensures.behind c.put-to.ensures.area),
          ),
    )

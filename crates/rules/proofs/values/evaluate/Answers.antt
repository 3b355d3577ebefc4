use Rattle.std.proofs.Common.{◌≡◌, [], ◌∷◌, ◌++◌, length, get_or, pos, Some, sym, ap, ◌∙◌, subst₂}
use Rattle.std.specs.Slice.Iter.{chunks_rest, chunks_size}
use Rattle.model.specs.Rules.{values, value}
use Rattle.rules.specs.Tokens.{meant}
use Rattle.rules.specs.Values.{held}
use Rattle.rules.proofs.Expressions.{Unread, by_chunk, unread_start, unread_more}
use Rattle.rules.proofs.Stack.{taken_long}
use Rattle.rules.proofs.values.evaluate.Goals as goal

pub loop-bytes-init : goal.loop-bytes-init
loop-bytes-init c =
    let i = c.into_iter-bytes-iterator.ensures.into_iter_gives in
    let args = c.args.event.now.args ++ (c.args.event.now.answer ∷ []) in (
      ap chunks_size i ∙ c.chunks-bytes-items.ensures.size,
      λ ts e w. (
        unread_start c.args.scope.cells c.args.scope.arguments _ _ ts (ap chunks_rest i ∙ c.chunks-bytes-items.ensures.rest ∙ e) (ap length c.new-stack.ensures) w,
        ap (λ vs. get_or (values args c.args.cells.now ts vs) 0 (pos 0)) c.new-stack.ensures,
      ),
    )

pub loop-bytes-preserved : goal.loop-bytes-preserved
loop-bytes-preserved c = (
  c.in-Some.ensures.steps.0 ∙ c.loop-bytes.invariant.0,
  λ ts e w.
      let n = c.args.scope.cells in
      let a = c.args.scope.arguments in
      let args = c.args.event.now.args ++ (c.args.event.now.answer ∷ []) in
      let cells = c.args.cells.now in
      let z = chunks_rest c.next.new.self in
      let i = c.loop-bytes.invariant.1 ts e w in
      let t = meant c.in-Some-read.t in
      let vs = held c.loop-bytes.stack.values c.loop-bytes.stack.depth in
      let o = unread_more n a _ _ i.0 t z (by_chunk n a _ _ _ _ (Some t) c.loop-bytes.invariant.0 c.in-Some.ensures.steps.1 c.in-Some-read.ensures) in
      let k = (c.carry_out.ensures o.roomy).1 in
      let l = taken_long args cells t vs o.roomy in
      subst₂ (λ d ws. (u : Unread n a z d) × (get_or (values args cells u.rest ws) 0 (pos 0) ≡ value args cells ts)) (sym (ap length k ∙ l)) (sym k)
      (o.more, sym (ap (λ r. get_or (values args cells r vs) 0 (pos 0)) o.all) ∙ i.1),
)

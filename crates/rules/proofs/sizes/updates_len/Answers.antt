use Rattle.std.proofs.Common.{length, ap, ◌∙◌, arith}
use Rattle.model.specs.Rules.{emit_updates}
use Rattle.rules.proofs.Shown.{next_update, no_updates}
use Rattle.rules.proofs.Lengths.{expr_size, length_updates}
use Rattle.rules.proofs.sizes.updates_len.Goals as goal

pub loop-u-preserved : goal.loop-u-preserved
loop-u-preserved c =
    let k = c.in-Some.ensures.steps.less in
    let h = c.loop-u.invariant.0 in (
      omega arith,
      λ n a us w.
          let i = c.loop-u.invariant.1 n a us w in
          let x = next_update n a _ i.0 c.in-Some.u _ i.1 c.in-Some.ensures.steps in
          let e = expr_size 0 _ x.first.value x.value in
          let l = ap (λ vs. length (emit_updates 0 vs)) x.all ∙ length_updates 0 x.first x.more in
          let q = i.2 in
          (x.more, x.written, omega arith),
    )

pub returns : goal.returns
returns c =
    record {
      value = λ n a us w.
          let i = c.loop-u.invariant.1 n a us w in
          let z = ap (λ vs. length (emit_updates 0 vs)) (no_updates n a _ i.0 _ i.1 c.in-None.ensures.steps) in
          let q = i.2 in
          omega arith;
      small = let h = c.loop-u.invariant.0 in omega arith;
    }

use Rattle.std.proofs.Common.{ap, ◌+◌, ◌∙◌, arith}
use Rattle.bench_calls.proofs.Counting.{byte, small, rows_more, takes_more}
use Rattle.bench_calls.proofs.steps.taken.Goals as goal

pub loop-preserved : goal.loop-preserved
loop-preserved g c =
    let A = g.P.Policy.meaning c.args.p.now in
    let h = c.loop.invariant in
    let b = c.takes.result in
    let one = small b in (
      omega arith,
      ap (λ k. c.loop.n + k) (c.from-n.ensures ∙ byte b) ∙ takes_more A _ _ c.loop.row c.loop.counter c.loop.n b h.2 h.1 c.takes.ensures.value,
      rows_more A _ _ c.loop.row c.loop.counter c.takes.new.row h.2 c.takes.ensures.row,
    )

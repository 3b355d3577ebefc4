use Rattle.std.proofs.Common.{[], sym, ◌∙◌, arith}
use Rattle.applet.proofs.Loops.{failed, code_more, code_stops, code_ends, code_whole}
use Rattle.applet.proofs.reader.judge_code.Goals as goal

pub returns-in_err-judge : goal.returns-in_err-judge
returns-in_err-judge c =
    failed c.from_residual.result _ c.from_residual.ensures.1 ∙
    code_stops c.args.glances.now.methods _ c.args.place c.as_chunks.result.0.now c.loop-index.index _ _ c.loop-index-test.true (sym c.judge.ensures ∙ c.in_err-judge.was) c.loop-index.invariant ∙
    code_whole c.args.glances.now.methods c.args.place c.args.code.now c.as_chunks.result.0.now c.as_chunks.ensures.front

pub loop-index-preserved-then-passes : goal.loop-index-preserved-then-passes
loop-index-preserved-then-passes c =
    code_more c.args.glances.now.methods _ c.args.place c.as_chunks.result.0.now c.loop-index.index _ c.loop-index-test.true (c.passes.ensures c.if-passes.true) c.loop-index.invariant

pub loop-index-preserved : goal.loop-index-preserved
loop-index-preserved c =
    code_more c.args.glances.now.methods _ c.args.place c.as_chunks.result.0.now c.loop-index.index _ c.loop-index-test.true (sym c.judge.ensures ∙ c.in_ok-judge.was) c.loop-index.invariant

pub returns : goal.returns
returns c =
    code_ends c.args.glances.now.methods _ c.args.place c.as_chunks.result.0.now c.loop-index.index [] (omega arith) c.loop-index.invariant ∙
    code_whole c.args.glances.now.methods c.args.place c.args.code.now c.as_chunks.result.0.now c.as_chunks.ensures.front

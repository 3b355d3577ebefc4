use Rattle.std.proofs.Common.{◌+◌, ◌≤◌, length, ◌∙◌, arith}
use Rattle.std.proofs.lemmas.Bool.{le-leb}
use Rattle.policy.proofs.Writes.{put_more}
use Rattle.tables.proofs.blocks.put_all.Goals as goal

pub loop-test-preserved : goal.loop-test-preserved
loop-test-preserved c =
    let h = c.loop-test.invariant in
    let to = c.loop-test.to in
    let area = c.loop-test.area in
    let room : to + 4 ≤ length area = omega arith in
    let behind = rw (le-leb (to + 4) (length area) room) at c.put-to.ensures.behind in
    (omega arith, rw (h.0, h.1) at (c.put-to.ensures.room room) ∙ put_more c.args.area.now c.args.at c.args.tests.now c.loop-test.test-index _ c.loop-test-test.true (omega arith))

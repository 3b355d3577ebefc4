use Rattle.std.proofs.Common.{◌≡◌, ◌+◌, ◌*◌, take}
use Rattle.model.specs.Calls.{block_bytes}
use Rattle.policy.specs.Calls.{put_at}
use Rattle.tables.proofs.blocks.put_all.Given as goal

abbrev pub invariant-loop-test : goal.invariant-loop-test
invariant-loop-test l = (l.to ≡ l.at + 4 * l.test-index) × (l.area ≡ put_at l.initial.area l.at (block_bytes (take l.test-index l.tests)))

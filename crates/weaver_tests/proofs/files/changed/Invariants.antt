use Rattle.std.proofs.Common.{◌≡◌, take}
use Rattle.model.specs.Examples.{plain_file}
use Rattle.weaver_tests.specs.Files.{changed_file}
use Rattle.weaver_tests.proofs.files.changed.Given as goal

abbrev pub invariant-loop-at : goal.invariant-loop-at
invariant-loop-at l = l.file ≡ changed_file (plain_file 7) (take l.at-index l.changes)

use Rattle.std.proofs.Common.{arith}
use Rattle.rules.proofs.Indexing.{file_short}
use Rattle.rules.proofs.borrowed.Rules.over.Goals as goal

pub of-index-requires : goal.of-index-requires
of-index-requires c =
    let s = c.rules.ensures.size in
    let l = file_short c.args.file.bytes.now c.args.file.reads in
    record { inside = omega arith; short = omega arith }

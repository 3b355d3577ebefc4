use Rattle.std.proofs.Common.{◌≡◌, [], length, take, drop}
use Rattle.tables.specs.Reading.{apart_from}
use Rattle.tables.specs.Rows.{rows_of}
use Rattle.tables.proofs.reader.check_apart.Given as goal

abbrev pub invariant-loop-i : goal.invariant-loop-i
invariant-loop-i l =
    apart_from l.states (length l.yielded) (take (length l.yielded) (rows_of l.states l.file)) (drop (length l.yielded) (rows_of l.states l.file)) ≡
    apart_from l.states 0 [] (rows_of l.states l.file)

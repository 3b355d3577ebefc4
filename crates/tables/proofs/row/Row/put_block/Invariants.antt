use Rattle.std.proofs.Common.{◌≡◌, ◌+◌, ◌*◌, ◌≤◌}
use Rattle.tables.proofs.TableRows.{row_size, Written}
use Rattle.tables.proofs.row.Row.put_block.Given as goal

abbrev pub invariant-loop-state : goal.invariant-loop-state
invariant-loop-state l =
    (l.behind ≤ 113) × (l.at + 4 * l.behind ≡ 4 * row_size l.self.nexts.now) ×
    Written l.self.nexts.now l.cell l.state l.at l.behind l.initial.area l.area

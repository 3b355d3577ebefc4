use Rattle.std.proofs.Common.{◌≡◌, ◌+◌, ◌*◌, ◌≤◌, length}
use Rattle.std.specs.Slice.Iter.{chunks_rest, chunks_size}
use Rattle.model.specs.Rules.{Expr, emit, expr_bytes, ValidExpr}
use Rattle.rules.specs.Writer.{Cells}
use Rattle.rules.proofs.Expressions.{Unread}
use Rattle.rules.proofs.Wrote.{Wrote}
use Rattle.rules.proofs.writer.put_expr.Given as goal

-- the code of what is left to read is left to write
abbrev pub invariant-loop-bytes : goal.invariant-loop-bytes
invariant-loop-bytes l =
    (chunks_size l.bytes-iterator ≡ 3)
    × ((ts : Expr) → l.c ≡ expr_bytes ts → ValidExpr l.scope.cells l.scope.arguments ts → Cells l.scope.cells l.first → l.at + 4 * length (emit l.first 0 ts) ≤ length l.initial.area →
    (u : Unread l.scope.cells l.scope.arguments (chunks_rest l.bytes-iterator) l.d) × Wrote l.initial.area l.at (emit l.first 0 ts) (emit l.first l.d u.rest) l.to l.area)

use Rattle.std.proofs.Common.{◌≡◌, [], ◌∷◌, ◌++◌, length, get_or, pos}
use Rattle.std.specs.Slice.Iter.{chunks_rest, chunks_size}
use Rattle.model.specs.Rules.{Expr, values, value, expr_bytes, ValidExpr}
use Rattle.rules.specs.Values.{held}
use Rattle.rules.proofs.Expressions.{Unread}
use Rattle.rules.proofs.values.evaluate.Given as goal

-- what is left comes to the value of the whole
abbrev pub invariant-loop-bytes : goal.invariant-loop-bytes
invariant-loop-bytes l =
    (chunks_size l.bytes-iterator ≡ 3)
    × ((ts : Expr) → l.c ≡ expr_bytes ts → ValidExpr l.scope.cells l.scope.arguments ts →
    (u : Unread l.scope.cells l.scope.arguments (chunks_rest l.bytes-iterator) (length (held l.stack.values l.stack.depth)))
    × (get_or (values (l.event.args ++ (l.event.answer ∷ [])) l.cells u.rest (held l.stack.values l.stack.depth)) 0 (pos 0) ≡ value (l.event.args ++ (l.event.answer ∷ [])) l.cells ts))

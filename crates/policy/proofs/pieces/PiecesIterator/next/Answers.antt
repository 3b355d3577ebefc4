use Rattle.std.proofs.Common.{◌<◌, arith, rules}
use Rattle.policy.proofs.Places.{piece_next}
use Rattle.policy.proofs.pieces.PiecesIterator.next.Goals as goal
use Rattle.policy.proofs.pieces.PiecesIterator.next.Goals.{in-Ok, in-Err}

pub returns-clause-goes : goal.returns-clause-goes
returns-clause-goes c =
    let s = c.args.self.now in
    let further : s.at < c.match-piece.self =
    elim c.match-piece.branch [
      | in-Ok w ↦ omega (arith, w.self-is, piece_next s.holder.now s.tag s.at _ _ w.in-Ok.ensures)
      | in-Err w ↦ omega (arith, w.self-is)
    ] in
    search rules

use Rattle.std.proofs.Common.{replicate, pos}
use Rattle.weaver.proofs.Bytes.{starts_read}
use Rattle.weaver.proofs.weaving.Weaving.start_row.Goals as goal

pub returns : goal.returns
returns g c =
    let p = c.args.self.now.policy.now in
    let n = c.args.self.now.limited.cells in
    starts_read (g.P.Policy.meaning p) (replicate 32 (pos 0)) c.starts.new.row (g.P.Policy.shows p).starts n n c.starts.ensures.row

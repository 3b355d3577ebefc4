use Rattle.std.proofs.Common.{length, refl, ap, ◌∙◌, arith}
use Rattle.policy.proofs.Writes.{bytes_length}
use Rattle.weaver.proofs.SiteBytes.{block_put}
use Rattle.weaver.proofs.Bytes.{put_length}
use Rattle.weaver.proofs.weaving.Weaving.put_block.Goals as goal

pub returns : goal.returns
returns g c =
    let A = g.P.Policy.meaning c.args.self.now.policy.now in
    let B = g.P.Policy.blocks c.args.self.now.policy.now in
    let p = c.args.pen.now in
    let short = c.args.self.now.limited.blocks c.args.call c.args.moment c.requires.call in
    let n = bytes_length (B c.args.call c.args.moment 0) in
    let room = c.requires.room in
    let told = c.block_len.ensures in
    let e = block_put A B c.args.call c.args.moment c.requires.call c.args.self.now.limited.cells short p.area.now c.write_block.new.area p.at room c.write_block.ensures.area in
    record { same_area = refl; area = e; at = omega arith; long = ap length e ∙ put_length p.area.now _ p.at (omega arith) }

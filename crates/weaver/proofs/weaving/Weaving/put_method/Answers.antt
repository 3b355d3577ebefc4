use Rattle.std.proofs.Common.{◌*◌, arith}
use Rattle.model.specs.Reading.{write_code}
use Rattle.applet.specs.Applets.{meant}
use Rattle.weaver.specs.Pieces.{woven_code}
use Rattle.weaver.proofs.Starts.{within_some}
use Rattle.weaver.proofs.Bytes.{field_more, write_length}
use Rattle.weaver.proofs.weaving.Weaving.put_method.Goals as goal

pub returns : goal.returns
returns g c =
    let w = c.args.self.now in
    let code = woven_code (g.P.Policy.meaning w.policy.now) (g.P.Policy.blocks w.policy.now) (meant w.applet.now) c.args.code.now in
    let l = write_length code in
    let e = within_some _ _ c.in-Some.ensures.size in
    let h = c.put_head.ensures in
    let room = c.requires.room in
    field_more 4 (4 * c.in-Some.size) (write_code code) h c.put_code.ensures (omega arith) (omega arith)

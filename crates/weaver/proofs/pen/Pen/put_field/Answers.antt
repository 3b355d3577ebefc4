use Rattle.std.proofs.Common.{refl, arith}
use Rattle.weaver.proofs.Bytes.{field_more}
use Rattle.weaver.proofs.pen.Pen.put_field.Goals as goal

pub returns : goal.returns
returns c = field_more c.args.tag _ c.args.contents.now c.put_head.ensures c.put.ensures refl (let a = c.put_head.ensures.at in let r = c.requires.room in omega arith)

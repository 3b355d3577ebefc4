use Rattle.std.proofs.Common.{◌∙◌, arith}
use Rattle.applet.proofs.Loops.{field_contents}
use Rattle.applet.proofs.reader.contents_of.Goals as goal

pub returns-in-len3-up-clause-value : goal.returns-in-len3-up-clause-value
returns-in-len3-up-clause-value c =
    c.front_of.ensures ∙ field_contents c.args.file.now c.args.place c.rest_of.result.now c.from.result c.rest_of.ensures (omega arith)

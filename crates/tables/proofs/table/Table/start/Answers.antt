use Rattle.std.proofs.Common.{sym, arith}
use Rattle.model.proofs.TableFiles.{file_in}
use Rattle.tables.proofs.table.Table.start.Goals as goal

pub bounds-self-5 : goal.bounds-self-5
bounds-self-5 c = omega (arith, (file_in c.args.self.now.file.now c.args.self.now.ok).head)

pub returns : goal.returns
returns c = sym (file_in c.args.self.now.file.now c.args.self.now.ok).start

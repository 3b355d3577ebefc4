use Rattle.std.proofs.Common.{sym, arith}
use Rattle.model.proofs.TableFiles.{file_in, valid_in}
use Rattle.tables.proofs.table.Table.states.Goals as goal

pub bounds-self-4 : goal.bounds-self-4
bounds-self-4 c = omega (arith, (file_in c.args.self.now.file.now c.args.self.now.ok).head)

pub returns : goal.returns
returns c =
    let e = (file_in c.args.self.now.file.now c.args.self.now.ok).states in
    record { value = sym e; few = omega (arith, e, (valid_in c.args.self.now.file.now c.args.self.now.ok).states.1) }

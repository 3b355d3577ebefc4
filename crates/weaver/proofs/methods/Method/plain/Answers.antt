use Rattle.std.proofs.Common.{◌+◌, ◌*◌, Some, None}
use Rattle.weaver.proofs.Passes.{plain_by}
use Rattle.weaver.proofs.methods.Method.plain.Goals as goal

pub returns-in-Some : goal.returns-in-Some
returns-in-Some c = plain_by (λ i. c.args.self.now.place + 3 + 4 * i) c.args.methods c.args.self.now.code.now (Some c.in-Some.index) c.in-Some.ensures

pub returns-in-None : goal.returns-in-None
returns-in-None c = plain_by (λ i. c.args.self.now.place + 3 + 4 * i) c.args.methods c.args.self.now.code.now None c.in-None.ensures

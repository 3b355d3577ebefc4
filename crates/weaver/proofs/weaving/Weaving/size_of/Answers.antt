use Rattle.std.proofs.Common.{length, ap, ◌∙◌, get_or, arith}
use Rattle.model.specs.Words.{quad_at}
use Rattle.applet.specs.Applets.{meant}
use Rattle.weaver.proofs.Opcodes.{host_sized, one_else}
use Rattle.weaver.proofs.weaving.Weaving.size_of.Goals as goal

pub returns-in-13 : goal.returns-in-13
returns-in-13 g c =
    let w = c.args.self.now in
    let q = quad_at c.args.bytes.now 0 in
    ap (λ k. get_or w.sizes k 0) c.from.ensures ∙ w.sized q.b c.if-call-lt64.true ∙
    host_sized (g.P.Policy.meaning w.policy.now) (g.P.Policy.blocks w.policy.now) (length (meant w.applet.now).methods) q (omega arith) c.if-call-lt64.true (c.fits-bytes 2) (c.fits-bytes 3)

pub returns-in_default : goal.returns-in_default
returns-in_default g c =
    let w = c.args.self.now in
    one_else (g.P.Policy.meaning w.policy.now) (g.P.Policy.blocks w.policy.now) (length (meant w.applet.now).methods) (quad_at c.args.bytes.now 0) (λ a b. omega arith)

pub returns-in_default-2 : goal.returns-in_default-2
returns-in_default-2 g c =
    let w = c.args.self.now in
    one_else (g.P.Policy.meaning w.policy.now) (g.P.Policy.blocks w.policy.now) (length (meant w.applet.now).methods) (quad_at c.args.bytes.now 0) (λ a b. omega arith)

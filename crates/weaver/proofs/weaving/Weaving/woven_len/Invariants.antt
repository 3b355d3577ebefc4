use Rattle.std.proofs.Common.{◌≡◌}
use Rattle.applet.specs.Applets.{meant}
use Rattle.weaver.proofs.WovenFile.{Measured}
use Rattle.weaver.proofs.weaving.Weaving.woven_len.Given as goal

abbrev pub invariant-loop-method : goal.invariant-loop-method
invariant-loop-method g l =
    (l.method-iterator.applet.now ≡ l.self.applet.now) ×
    Measured (g.P.Policy.meaning l.self.policy.now) (g.P.Policy.blocks l.self.policy.now) (meant l.self.applet.now) l.method-iterator.next l.len

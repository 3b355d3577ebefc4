use Rattle.std.proofs.Common.{length}
use Rattle.applet.specs.Applets.{meant}
use Rattle.weaver.specs.Pieces.{owns}
use Rattle.weaver.proofs.WovenMethod.{Laid}
use Rattle.weaver.proofs.weaving.Weaving.put_code.Given as goal

-- the pieces of the instructions up to here are written
abbrev pub invariant-loop-index : goal.invariant-loop-index
invariant-loop-index g l =
    Laid (g.P.Policy.meaning l.self.policy.now).watched (λ k t. g.P.Policy.blocks l.self.policy.now k t 0) (owns (length (meant l.self.applet.now).methods) l.code) l.initial.pen l.pen l.index

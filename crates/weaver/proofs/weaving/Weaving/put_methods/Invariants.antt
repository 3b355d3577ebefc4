use Rattle.std.proofs.Common.{◌≡◌, ◌≤◌, length, take}
use Rattle.model.specs.Reading.{write_codes}
use Rattle.applet.specs.Applets.{meant}
use Rattle.weaver.specs.Weaves.{woven_of}
use Rattle.weaver.specs.Pens.{Wrote}
use Rattle.weaver.proofs.weaving.Weaving.put_methods.Given as goal

-- the methods up to here are written
abbrev pub invariant-loop-method : goal.invariant-loop-method
invariant-loop-method g l =
    (l.method-iterator.applet.now ≡ l.self.applet.now) × (l.method-iterator.next ≤ length (meant l.self.applet.now).methods) ×
    Wrote l.initial.pen (write_codes (take l.method-iterator.next (woven_of (g.P.Policy.meaning l.self.policy.now) (g.P.Policy.blocks l.self.policy.now) (meant l.self.applet.now)).methods)) l.pen

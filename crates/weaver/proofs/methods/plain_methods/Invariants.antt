use Rattle.std.proofs.Common.{◌≡◌, ◌≤◌, length, drop}
use Rattle.model.specs.Reading.{instr_place}
use Rattle.model.specs.Files.{plain_codes}
use Rattle.applet.specs.Applets.{meant}
use Rattle.weaver.specs.Weaves.{forget}
use Rattle.weaver.proofs.methods.plain_methods.Given as goal

-- what is still to be looked at decides
abbrev pub invariant-loop-method : goal.invariant-loop-method
invariant-loop-method l =
    let a = meant l.applet in
    (l.method-iterator.applet.now ≡ l.applet) × (l.method-iterator.next ≤ length a.methods) ×
    (forget (plain_codes (instr_place a) l.method-iterator.next (drop l.method-iterator.next a.methods)) ≡ forget (plain_codes (instr_place a) 0 a.methods))

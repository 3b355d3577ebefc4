-- Methods, one after the other.
use Rattle.std.specs.Prelude.{◌≡◌, ◌+◌, ◌≤◌, length, Option, MatchOption}
use Rattle.applet.specs.Applets.{meant}
use Rattle.weaver.specs.declared.methods.Method.{Method}
use Rattle.weaver.specs.declared.methods.Methods.{Methods}
use Rattle.weaver.specs.Weaves.{MethodAt}

-- method s.next of an applet, where there is one, and the methods t behind it
pub record GivesMethod (s : Methods) (x : Option Method) (t : Methods) : Type 0 where
  pub same_applet : t.applet.now ≡ s.applet.now
  pub method : MatchOption x (length (meant s.applet.now).methods ≤ s.next) (λ x. MethodAt (meant s.applet.now) s.next x.place x.code.now × (t.next ≡ s.next + 1))

use Rattle.std.proofs.Common.{◌≡◌, ◌<◌, [], length, get_or, Ok, Err, sym, ap, ◌∙◌, arith}
use Rattle.model.specs.declared.Refusal.TheVariants.{MethodTooLong}
use Rattle.model.specs.Machine as machine
use Rattle.model.specs.Policy.{Automaton, Blocks}
use Rattle.model.specs.Reading.{write_applet}
use Rattle.applet.specs.Applets.{meant}
use Rattle.weaver.specs.Pieces.{within_limit}
use Rattle.weaver.specs.Weaves.{woven_of}
use Rattle.weaver.proofs.Starts.{within_some, within_none}
use Rattle.weaver.proofs.Passes.{Given, given, given_all}
use Rattle.weaver.proofs.WovenFile.{count, woven_at, measured_more, measured_stops, measured_all}
use Rattle.weaver.proofs.weaving.Weaving.woven_len.Goals as goal
use Rattle.weaver.proofs.weaving.Weaving.woven_len.Goals.{After-fill}

module _ (g : _) (c : After-fill g) where
  abbrev A : Automaton
  A = g.P.Policy.meaning c.args.self.now.policy.now

  abbrev B : Blocks
  B = g.P.Policy.blocks c.args.self.now.policy.now

  abbrev a : machine.Applet
  a = meant c.args.self.now.applet.now

  x : Given a c.loop-method.method-iterator c.in-Some.method c.next.new.self
  x = given c.args.self.now.applet.now c.loop-method.method-iterator c.in-Some.method c.next.new.self c.loop-method.invariant.0 c.in-Some.ensures.steps

  there : c.loop-method.method-iterator.next < length (woven_of A B a).methods
  there = let n = count A B a in let h = x.method.there in omega arith

  -- the size that was found is that of the woven method
  size : c.fill.result ≡ within_limit (length (get_or (woven_of A B a).methods c.loop-method.method-iterator.next []))
  size = c.fill.ensures.size ∙ sym (ap (λ d. within_limit (length d)) (woven_at A B a c.loop-method.method-iterator.next c.in-Some.method.place c.in-Some.method.code.now x.method))

pub returns-in_default : goal.returns-in_default
returns-in_default g c =
    let b = (goal.at.returns-in_default g c).After-fill in
    let m = c.loop-method.method-iterator.next in
    ap (λ p. Err (MethodTooLong p)) (x g b).method.placed ∙
    measured_stops (A g b) (B g b) (a g b) m c.loop-method.len c.loop-method.invariant.1 (there g b) (Ok (length (write_applet (woven_of (A g b) (B g b) (a g b)))))
    (within_none _ (sym c.in_default.is ∙ size g b))

pub loop-method-preserved : goal.loop-method-preserved
loop-method-preserved g c =
    let b = (goal.at.loop-method-preserved g c).After-fill in
    let m = c.loop-method.method-iterator.next in
    let e = within_some _ _ (sym c.in-Some-fill.is ∙ size g b) in (
      c.in-Some.ensures.steps.same_applet ∙ c.loop-method.invariant.0,
      measured_more (A g b) (B g b) (a g b) m c.loop-method.len c.loop-method.invariant.1 (there g b) c.in-Some-fill.size e.0 e.1 _ (x g b).next,
    )

pub returns : goal.returns
returns g c =
    let w = c.args.self.now in
    let m = c.loop-method.method-iterator in
    measured_all (g.P.Policy.meaning w.policy.now) (g.P.Policy.blocks w.policy.now) (meant w.applet.now) m.next c.loop-method.len c.loop-method.invariant.1
    (given_all w.applet.now m c.next.new.self c.loop-method.invariant.0 c.in-None.ensures.steps)

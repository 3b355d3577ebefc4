use Rattle.std.proofs.Common.{◌≡◌, ◌+◌, ◌*◌, ◌<◌, ◌≤◌, List, [], length, take, get_or, sym, ap, ◌∙◌, subst, arith}
use Rattle.model.specs.declared.Instr.{Instr}
use Rattle.model.specs.Machine as machine
use Rattle.model.specs.Policy.{Automaton, Blocks}
use Rattle.model.specs.Fields.{field}
use Rattle.model.specs.Reading.{write_code, write_codes}
use Rattle.applet.specs.Applets.{meant}
use Rattle.weaver.specs.Pieces.{woven_code}
use Rattle.weaver.specs.Weaves.{woven_of}
use Rattle.weaver.specs.Pens.{Room, Wrote}
use Rattle.weaver.proofs.Bytes.{wrote_none}
use Rattle.weaver.proofs.Passes.{all_at, Given, given}
use Rattle.weaver.proofs.WovenFile.{count, woven_at, method_room, method_more}
use Rattle.weaver.proofs.weaving.Weaving.put_methods.Goals as goal
use Rattle.weaver.proofs.weaving.Weaving.put_methods.Goals.{In-Some}

module _ (g : _) (c : In-Some g) where
  abbrev A : Automaton
  A = g.P.Policy.meaning c.args.self.now.policy.now

  abbrev B : Blocks
  B = g.P.Policy.blocks c.args.self.now.policy.now

  abbrev a : machine.Applet
  a = meant c.args.self.now.applet.now

  abbrev ws : List (List Instr)
  ws = (woven_of A B a).methods

  x : Given a c.loop-method.method-iterator c.in-Some.method c.next.new.self
  x = given c.args.self.now.applet.now c.loop-method.method-iterator c.in-Some.method c.next.new.self c.loop-method.invariant.0 c.in-Some.ensures.steps

  there : c.loop-method.method-iterator.next < length ws
  there = let n = count A B a in let h = x.method.there in omega arith

  -- the method that is written
  this : get_or ws c.loop-method.method-iterator.next [] ≡ woven_code A B a c.in-Some.method.code.now
  this = woven_at A B a c.loop-method.method-iterator.next c.in-Some.method.place c.in-Some.method.code.now x.method

  room : Room c.loop-method.pen (3 + 4 * length (get_or ws c.loop-method.method-iterator.next []))
  room = method_room A B a c.args.pen.now c.loop-method.pen c.loop-method.method-iterator.next c.loop-method.invariant.2 there c.requires.room

pub loop-method-init : goal.loop-method-init
loop-method-init g c =
    let w = c.args.self.now in
    let e = c.into_iter-method-iterator.ensures.into_iter_gives in
    let n : c.into_iter-method-iterator.result.next ≡ 0 = ap (λ m. m.next) e ∙ c.of-method-items.ensures.next in (
      ap (λ m. m.applet.now) e ∙ c.of-method-items.ensures.applet,
      omega arith,
      subst (λ n. Wrote c.args.pen.now (write_codes (take n (woven_of (g.P.Policy.meaning w.policy.now) (g.P.Policy.blocks w.policy.now) (meant w.applet.now)).methods)) c.args.pen.now)
          (sym n) (wrote_none c.args.pen.now),
    )

pub put_method-requires-clause-short : goal.put_method-requires-clause-short
put_method-requires-clause-short g c =
    let b = (goal.at.put_method-requires-clause-short g c).In-Some in
    let e = ap length (this g b) in
    let s = all_at (λ c. length c ≤ 4096) (ws g b) c.loop-method.method-iterator.next [] c.requires.short (there g b) in
    omega arith

pub put_method-requires-clause-room : goal.put_method-requires-clause-room
put_method-requires-clause-room g c =
    let b = (goal.at.put_method-requires-clause-room g c).In-Some in
    let e = ap length (this g b) in
    let r = room g b in
    omega arith

pub loop-method-preserved : goal.loop-method-preserved
loop-method-preserved g c =
    let b = (goal.at.loop-method-preserved g c).In-Some in
    let h = (x g b).method.there in
    let n = (x g b).next in (
      c.in-Some.ensures.steps.same_applet ∙ c.loop-method.invariant.0,
      omega arith,
      method_more (A g b) (B g b) (a g b) c.args.pen.now c.loop-method.pen c.loop-method.method-iterator.next c.loop-method.invariant.2 (there g b) c.requires.room c.put_method.new.pen
          (subst (λ d. Wrote c.loop-method.pen (field 4 (write_code d)) c.put_method.new.pen) (sym (this g b)) c.put_method.ensures) _ n,
    )

use Rattle.std.proofs.Common.{◌≡◌, ◌+◌, ◌*◌, [], get_or, Err, sym, ap, ◌∙◌, arith}
use Rattle.std.proofs.lemmas.Result.{err_from_is_err_and}
use Rattle.model.specs.Machine as machine
use Rattle.model.specs.Reading.{instr_place}
use Rattle.model.specs.Files.{plain_code}
use Rattle.applet.specs.Applets.{meant}
use Rattle.weaver.specs.Pieces.{instrs}
use Rattle.weaver.specs.Weaves.{forget}
use Rattle.weaver.proofs.Passes.{Given, given, codes_more, codes_stop}
use Rattle.weaver.proofs.methods.plain_methods.Goals as goal
use Rattle.weaver.proofs.methods.plain_methods.Goals.{After-plain}

module _ (c : After-plain) where
  abbrev a : machine.Applet
  a = meant c.args.applet.now

  x : Given a c.loop-method.method-iterator c.in-Some.method c.next.new.self
  x = given c.args.applet.now c.loop-method.method-iterator c.in-Some.method c.next.new.self c.loop-method.invariant.0 c.in-Some.ensures.steps

  this : forget (plain_code (instr_place a c.loop-method.method-iterator.next) 0 (get_or a.methods c.loop-method.method-iterator.next [])) ≡ c.plain.result
  this =
      let m = c.loop-method.method-iterator.next in
      let code = c.in-Some.method.code.now in
      let at = x.method in
      sym (c.plain.ensures ∙ ap (λ p. forget (plain_code (λ i. p + 3 + 4 * i) 0 (instrs c.methods.result code))) at.placed ∙
      ap (λ n. forget (plain_code (instr_place a m) 0 (instrs n code))) c.methods.ensures ∙ ap (λ cs. forget (plain_code (instr_place a m) 0 cs)) at.decoded)

pub returns-in_err-plain : goal.returns-in_err-plain
returns-in_err-plain c =
    let p = err_from_is_err_and c.from_residual.result c.from_residual.ensures.1 in
    let b = (goal.at.returns-in_err-plain c).After-plain in
    p.1 ∙ ap Err p.2 ∙ codes_stop (instr_place (a b)) (a b).methods c.loop-method.method-iterator.next (x b).method.there _ (this b ∙ c.in_err-plain.was) c.loop-method.invariant.2

pub loop-method-preserved : goal.loop-method-preserved
loop-method-preserved c =
    let b = (goal.at.loop-method-preserved c).After-plain in
    let h = (x b).method.there in
    let n = (x b).next in
    (c.in-Some.ensures.steps.same_applet ∙ c.loop-method.invariant.0, omega arith, codes_more (instr_place (a b)) (a b).methods c.loop-method.method-iterator.next h (this b ∙ c.in_ok-plain.was) c.loop-method.invariant.2 _ n)

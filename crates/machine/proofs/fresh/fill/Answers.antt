use Rattle.std.proofs.Common.{◌∙◌, arith, length-set, w32, SFits, rules}
use Rattle.std.proofs.lemmas.Int.{to_z-of_z}
use Rattle.applet.specs.Applets.{meant}
use Rattle.machine.proofs.Started.{filled}
use Rattle.machine.proofs.fresh.fill.Goals as goal

pub loop-i-preserved : goal.loop-i-preserved
loop-i-preserved c =
    let f : SFits w32 c.start_of.result = search rules in
    let e = to_z-of_z w32 c.start_of.result f ∙ c.start_of.ensures in (
      simp length-set c.loop-i.invariant.0,
      filled (meant c.args.applet.now).starts c.args.cells.now c.loop-i.cells c.loop-i.i _ c.loop-i.invariant.1 e (omega arith) (omega arith),
    )

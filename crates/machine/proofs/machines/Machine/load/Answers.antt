use Rattle.std.proofs.lemmas.Result.{err_from_is_err_and}
use Rattle.applet.specs.Applets.{meant}
use Rattle.machine.proofs.Started.{load_ok, load_err}
use Rattle.machine.proofs.machines.Machine.load.Goals as goal

pub returns-in_err-applet : goal.returns-in_err-applet
returns-in_err-applet c =
    let p = err_from_is_err_and c.from_residual.result c.from_residual.ensures.1 in
    rw (p.1, p.2) (load_err c.args.file.now c.in_err-applet.field-0.0 c.in_err-applet.ensures.value)

pub returns : goal.returns
returns c = load_ok c.args.file.now (meant c.in_ok-applet.applet) _ c.in_ok-applet.ensures.value c.loaded-state.ensures

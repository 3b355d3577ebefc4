use Rattle.std.proofs.Common.{◌∙◌, ap, pos, w32, SFits, rules}
use Rattle.std.proofs.lemmas.Int.{to_z-of_z}
use Rattle.std.specs.Option.{unwrap_or}
use Rattle.applet.specs.Applets.{meant}
use Rattle.machine.proofs.Started.{nth_or}
use Rattle.machine.proofs.fresh.start_of.Goals as goal

pub returns : goal.returns
returns c =
    let f : SFits w32 c.unwrap_or.result = search rules in
    to_z-of_z w32 c.unwrap_or.result f ∙ c.unwrap_or.ensures ∙ ap (λ o. unwrap_or o (pos 0)) c.start.ensures ∙ nth_or (meant c.args.applet.now).starts c.args.cell

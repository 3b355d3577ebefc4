use Rattle.std.proofs.Common.{◌<◌, length, refl, rules}
use Rattle.model.specs.Machine.{local}
use Rattle.model.specs.declared.Own.{Own}
use Rattle.machine.proofs.Rows.{ran_own}
use Rattle.machine.proofs.states.State.end.Goals as goal

pub returns : goal.returns
returns c =
    let m = c.args.self.now in
    let t = c.args.t in
    let r : t < length m.threads = search rules in
    record { value = c.finish.ensures.says; after = ran_own m t c.requires.there r _ _ (λ u. local Own.End u m.shared) c.finish.ensures.after refl }

use Rattle.std.proofs.Common.{◌<◌, length, sym, ap, ◌∙◌, rules}
use Rattle.model.specs.Machine as model
use Rattle.model.specs.Machine.{local}
use Rattle.machine.proofs.Rows.{at, ran_own}
use Rattle.machine.proofs.states.State.run_own.Goals as goal

pub returns : goal.returns
returns c =
    let m = c.args.self.now in
    let t = c.args.t in
    let r : t < length m.threads = search rules in
    record {
      value = c.run.ensures.says ∙ sym (ap (λ (u : model.Thread). (local c.args.i u m.shared).says) (at m t c.requires.steps.there r));
      after = ran_own m t c.requires.steps.there r _ _ (λ u. local c.args.i u m.shared) c.run.ensures.after c.run.ensures.shared;
    }

use Rattle.std.proofs.Common.{false, List, ◌++◌, map, length, ℤ, pos, None, ap, ◌∙◌}
use Rattle.std.proofs.lemmas.List.{drop-replicate}
use Rattle.model.specs.Machine.{zeros, new_thread}
use Rattle.applet.specs.Applets.{meant}
use Rattle.machine.proofs.states.State.loaded.Goals as goal

pub returns : goal.returns
returns c =
    let s = (meant c.args.applet.now).starts in
    let t = c.start_in.ensures ∙ ap (map new_thread) c.entries-entries.ensures in
    let k = c.fill.ensures ∙ ap (λ (z : List ℤ). s ++ z) (drop-replicate (length s) 32 (pos 0)) in
    λ i. record { threads = t i; shared = zeros 64; cells = k i; scratch = zeros 8; args = zeros 5; holder = None; halted = false }

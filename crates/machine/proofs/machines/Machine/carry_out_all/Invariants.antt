use Rattle.std.proofs.Common.{◌≡◌, ◌≤◌, ◌++◌, map, take, drop}
use Rattle.model.specs.Runs as model
use Rattle.machine.specs.Machines.{program, holds_now}
use Rattle.machine.specs.Acts.{act_of, seen_of}
use Rattle.machine.proofs.machines.Machine.carry_out_all.Given as goal

-- what is still to be carried out and seen is what was, behind what is written so far
abbrev pub invariant-loop-x : goal.invariant-loop-x
invariant-loop-x l =
    (l.n ≤ l.x-index) ×
    (program l.self ≡ program l.initial.self) ×
    (model.run (program l.initial.self) (holds_now l.self) (map act_of (drop l.x-index l.acts)) ≡ model.run (program l.initial.self) (holds_now l.initial.self) (map act_of l.acts)) ×
    (take l.n (map seen_of l.seen) ++ model.trace (program l.initial.self) (holds_now l.self) (map act_of (drop l.x-index l.acts)) ≡
    model.trace (program l.initial.self) (holds_now l.initial.self) (map act_of l.acts)) ×
    (drop l.n (map seen_of l.seen) ≡ drop l.n (map seen_of l.initial.seen))

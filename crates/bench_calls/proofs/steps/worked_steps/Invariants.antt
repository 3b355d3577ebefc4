use Rattle.std.proofs.Common.{◌≡◌, ◌≤◌}
use Rattle.machine.specs.Machines.{program, holds_now}
use Rattle.bench_calls.specs.Counts.{turn_of, turned, works}
use Rattle.bench_calls.proofs.steps.worked_steps.Given as goal

abbrev pub invariant-loop : goal.invariant-loop
invariant-loop l =
    let p = program l.initial.m in
    let m = holds_now l.initial.m in
    (l.n ≤ l.counter) × (l.thread ≡ turn_of l.last l.counter) × (program l.m ≡ p) × (holds_now l.m ≡ turned p m l.last l.counter) × (l.n ≡ works p m l.last l.counter)

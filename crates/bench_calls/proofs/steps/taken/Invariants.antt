use Rattle.std.proofs.Common.{◌≡◌, ◌≤◌}
use Rattle.bench_calls.specs.Counts.{before_call, rows, takes}
use Rattle.bench_calls.proofs.steps.taken.Given as goal

abbrev pub invariant-loop : goal.invariant-loop
invariant-loop g l =
    let A = g.P.Policy.meaning l.p in
    (l.n ≤ l.counter) × (l.n ≡ takes A (before_call l.call l.a0) l.initial.row l.counter) × (l.row ≡ rows A (before_call l.call l.a0) l.initial.row l.counter)

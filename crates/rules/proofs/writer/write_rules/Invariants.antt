use Rattle.std.proofs.Common.{◌≡◌, ◌+◌, ◌≤◌, List}
use Rattle.model.specs.Rules.{Rule, rules_of, emit_rules}
use Rattle.rules.specs.Views.{Written}
use Rattle.rules.specs.Writer.{Cells, Fitting}
use Rattle.rules.proofs.Lengths.{rules_size}
use Rattle.rules.proofs.Wrote.{Wrote}
use Rattle.rules.proofs.writer.write_rules.Given as goal

-- the code of the rules left is left to write
abbrev pub invariant-loop-r : goal.invariant-loop-r
invariant-loop-r l =
    (rs : List Rule) → Written l.width l.rules rs → Cells l.width l.first → Fitting l.initial.area (emit_rules l.first (rules_of rs l.call l.moment)) →
    l.initial.left ≡ rules_size (rules_of rs l.call l.moment) + 1 →
    (vs : List Rule) × Written l.width l.r-iterator.0.now vs × (l.left ≡ rules_size (rules_of vs l.call l.moment) + 1) × (rules_size (rules_of vs l.call l.moment) ≤ 1000)
    × Wrote l.initial.area 0 (emit_rules l.first (rules_of rs l.call l.moment)) (emit_rules l.first (rules_of vs l.call l.moment)) l.to l.area

use Rattle.std.proofs.Common.{◌≡◌, ℕ, ◌+◌, ◌*◌, ◌≤◌, List, length}
use Rattle.model.specs.Rules.{Rule, rules_of}
use Rattle.rules.specs.Views.{Written}
use Rattle.rules.proofs.Lengths.{rules_size}
use Rattle.rules.proofs.sizes.block_len.Given as goal

-- what was counted and what the rest makes is what all rules make
abbrev pub invariant-loop-r : goal.invariant-loop-r
invariant-loop-r l =
    (l.len + 2 * length l.r-iterator.0.now ≤ 2 * length l.rules)
    × ((n : ℕ) (rs : List Rule) → Written n l.rules rs →
    (vs : List Rule) × Written n l.r-iterator.0.now vs × (l.len + rules_size (rules_of vs l.call l.moment) ≡ rules_size (rules_of rs l.call l.moment)))

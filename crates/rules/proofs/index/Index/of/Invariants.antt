use Rattle.std.proofs.Common.{◌≡◌, ℕ, ◌+◌, ◌-◌, ◌<◌, List, length}
use Rattle.model.specs.declared.Moment.{Moment}
use Rattle.model.specs.Rules.{Rule}
use Rattle.rules.specs.Views.{Written}
use Rattle.rules.specs.Index.{span_of, kept_first, first_place, last_place}
use Rattle.rules.proofs.index.Index.of.Given as goal

-- the spans met, with those of the rest, are those of all rules
abbrev pub invariant-loop-r : goal.invariant-loop-r
invariant-loop-r l =
    (l.from + length l.r-iterator.0.now ≡ l.end)
    × ((n : ℕ) (rs : List Rule) → Written n l.rules rs →
    (vs : List Rule) × Written n l.r-iterator.0.now vs
    × ((k : ℕ) (t : Moment) → k < 64 →
    (kept_first l.end (first_place vs k t l.from) (span_of l.index k t).from ≡ first_place rs k t (l.end - length l.rules))
    × (last_place vs k t l.from (span_of l.index k t).to ≡ last_place rs k t (l.end - length l.rules) l.end)))

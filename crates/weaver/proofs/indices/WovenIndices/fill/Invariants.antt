use Rattle.std.proofs.Common.{◌≡◌, ℕ, List, ◌≤◌, length}
use Rattle.model.specs.declared.Moment.{Moment}
use Rattle.model.specs.declared.Test.{Test}
use Rattle.model.specs.Weave.{start}
use Rattle.applet.specs.Applets.{meant}
use Rattle.weaver.specs.Pieces.{owns}
use Rattle.weaver.proofs.Starts.{UpTo}
use Rattle.weaver.proofs.indices.WovenIndices.fill.Given as goal

-- the indices up to here are filled in
abbrev pub invariant-loop-index : goal.invariant-loop-index
invariant-loop-index g l =
    let w = (g.P.Policy.meaning l.weaving.policy.now).watched in
    let block : ℕ → Moment → List Test = λ k t. g.P.Policy.blocks l.weaving.policy.now k t 0 in
    let cs = owns (length (meant l.weaving.applet.now).methods) l.code in
    (l.end ≡ start w block cs l.index) × (l.end ≤ 4096) × (length l.self.all ≡ 4097) × (l.self.count ≡ length l.code) × UpTo w block cs l.index l.self.all

use Rattle.std.proofs.Common.{◌≡◌, ℕ, ◌+◌, Bool, List, length, sym, refl, ap, ◌∙◌, arith, length-set}
use Rattle.model.specs.declared.Own.{Own}
use Rattle.model.specs.declared.Test.{Test}
use Rattle.model.specs.declared.Moment.{Moment}
use Rattle.model.specs.Weave.{start, size}
use Rattle.applet.specs.Applets.{meant}
use Rattle.weaver.specs.Pieces.{owns}
use Rattle.weaver.proofs.Starts.{start_first, start_next, start_below, woven_length, length_owns, own_item, up_to_first, up_to_more, filled_all, within, over}
use Rattle.weaver.proofs.indices.WovenIndices.fill.Goals as goal
use Rattle.weaver.proofs.indices.WovenIndices.fill.Goals.{After-from-end}

module _ (g : _) (c : After-from-end g) where
  abbrev w : ℕ → Bool
  w = (g.P.Policy.meaning c.args.weaving.now.policy.now).watched

  abbrev block : ℕ → Moment → List Test
  block k t = g.P.Policy.blocks c.args.weaving.now.policy.now k t 0

  abbrev n : ℕ
  n = length (meant c.args.weaving.now.applet.now).methods

  -- one instruction more
  more : c.loop-index.end + c.from-end.result ≡ start w block (owns n c.args.code.now) (c.loop-index.index + 1)
  more =
      let cs = owns n c.args.code.now in
      let i = c.loop-index.index in
      let z = c.from-end.ensures ∙ c.size_of.ensures ∙ ap (size w block) (sym (own_item n c.args.code.now i c.loop-index-test.true)) in
      let l = length_owns n c.args.code.now in
      let m = start_next w block cs i Own.End (omega arith) in
      let a = c.loop-index.invariant.0 in
      omega arith

pub loop-index-init : goal.loop-index-init
loop-index-init g c =
    let w = c.args.weaving.now in
    let watched = (g.P.Policy.meaning w.policy.now).watched in
    let block : ℕ → Moment → List Test = λ k t. g.P.Policy.blocks w.policy.now k t 0 in
    let cs = owns (length (meant w.applet.now).methods) c.args.code.now in
    (sym (start_first watched block cs), omega arith, length-set c.args.self.now.all 0 0 ∙ omega arith, refl, up_to_first watched block cs c.args.self.now.all (omega arith))

pub loop-index-preserved : goal.loop-index-preserved
loop-index-preserved g c =
    let w = c.args.weaving.now in
    let watched = (g.P.Policy.meaning w.policy.now).watched in
    let block : ℕ → Moment → List Test = λ k t. g.P.Policy.blocks w.policy.now k t 0 in
    let n = length (meant w.applet.now).methods in
    let cs = owns n c.args.code.now in
    let i = c.loop-index.index in
    let s = c.loop-index.invariant in
    let k = s.2 in
    let e = more g (goal.at.loop-index-preserved g c).After-from-end in
    (e, c.if-end-gt4096.false, length-set _ _ _ ∙ k, s.3, up_to_more watched block cs i _ c.loop-index.self.all (omega arith) e s.4)

pub returns-then-end-gt4096-clause-size : goal.returns-then-end-gt4096-clause-size
returns-then-end-gt4096-clause-size g c =
    let w = c.args.weaving.now in
    let e = more g (goal.at.returns-then-end-gt4096-clause-size g c).After-from-end in
    let b = start_below (g.P.Policy.meaning w.policy.now).watched (λ k t. g.P.Policy.blocks w.policy.now k t 0) (owns (length (meant w.applet.now).methods) c.args.code.now) (c.loop-index.index + 1) in
    over _ (omega arith)

pub returns-clause-size : goal.returns-clause-size
returns-clause-size g c =
    let w = c.args.weaving.now in
    let watched = (g.P.Policy.meaning w.policy.now).watched in
    let block : ℕ → Moment → List Test = λ k t. g.P.Policy.blocks w.policy.now k t 0 in
    let n = length (meant w.applet.now).methods in
    let cs = owns n c.args.code.now in
    let l = length_owns n c.args.code.now in
    within _ c.loop-index.end (c.loop-index.invariant.0 ∙ ap (start watched block cs) (omega arith) ∙ sym (woven_length watched block cs)) c.loop-index.invariant.1

pub returns-clause-filled : goal.returns-clause-filled
returns-clause-filled g c =
    let w = c.args.weaving.now in
    let A = g.P.Policy.meaning w.policy.now in
    let B = g.P.Policy.blocks w.policy.now in
    let n = length (meant w.applet.now).methods in
    let cs = owns n c.args.code.now in
    let l = length_owns n c.args.code.now in
    let s = c.loop-index.invariant in
    filled_all A B cs c.loop-index.self (s.3 ∙ sym l) (λ j h. s.4 j (omega arith))

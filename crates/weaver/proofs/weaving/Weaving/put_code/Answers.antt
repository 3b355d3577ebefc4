use Rattle.std.proofs.Common.{◌≡◌, ℕ, ◌<◌, List, [], length, get_or, sym, ap, ◌∙◌, arith}
use Rattle.model.specs.declared.Own.{Own}
use Rattle.model.specs.declared.Test.{Test}
use Rattle.model.specs.declared.Moment.{Moment}
use Rattle.model.specs.Policy.{Automaton, Blocks}
use Rattle.model.specs.Weave.{retarget, start}
use Rattle.applet.specs.Applets.{meant}
use Rattle.weaver.specs.Pieces.{own_in, owns}
use Rattle.weaver.proofs.Starts.{length_owns, own_item, retargeted}
use Rattle.weaver.proofs.WovenMethod.{laid_none, laid_more, piece_room}
use Rattle.weaver.proofs.weaving.Weaving.put_code.Goals as goal
use Rattle.weaver.proofs.weaving.Weaving.put_code.Goals.{After-retarget-c}

module _ (g : _) (c : After-retarget-c g) where
  abbrev A : Automaton
  A = g.P.Policy.meaning c.args.self.now.policy.now

  abbrev B : Blocks
  B = g.P.Policy.blocks c.args.self.now.policy.now

  abbrev block : ℕ → Moment → List Test
  block k t = B k t 0

  abbrev n : ℕ
  n = length (meant c.args.self.now.applet.now).methods

  abbrev cs : List Own
  cs = owns n c.args.code.now

  there : c.loop-index.index < length cs
  there = let l = length_owns n c.args.code.now in let h = c.loop-index-test.true in omega arith

  -- the instruction that is written is the one at the index, with its target by the woven indices
  this : c.retarget-c.result ≡ retarget (start A.watched block cs) (get_or cs c.loop-index.index Own.End)
  this =
      c.retarget-c.ensures.value ∙ retargeted A B cs c.args.indices.now c.requires.filled c.own_in.result ∙ ap (retarget (start A.watched block cs))
      (c.own_in.ensures.value ∙ ap (λ n. own_in n (get_or c.args.code.now c.loop-index.index [])) c.methods-methods.ensures ∙ sym (own_item n c.args.code.now c.loop-index.index c.loop-index-test.true))

pub loop-index-init : goal.loop-index-init
loop-index-init g c =
    let w = c.args.self.now in
    laid_none (g.P.Policy.meaning w.policy.now).watched (λ k t. g.P.Policy.blocks w.policy.now k t 0) (owns (length (meant w.applet.now).methods) c.args.code.now) c.args.pen.now

pub put_piece-requires-clause-room : goal.put_piece-requires-clause-room
put_piece-requires-clause-room g c =
    let b = (goal.at.put_piece-requires-clause-room g c).After-retarget-c in
    piece_room (A g b).watched (block g b) (cs g b) c.args.pen.now c.loop-index.pen c.loop-index.index c.loop-index.invariant (there g b) c.requires.room c.retarget-c.result (this g b)

pub loop-index-preserved : goal.loop-index-preserved
loop-index-preserved g c =
    let b = (goal.at.loop-index-preserved g c).After-retarget-c in
    laid_more (A g b).watched (block g b) (cs g b) c.args.pen.now c.loop-index.pen c.loop-index.index c.loop-index.invariant (there g b) c.requires.room c.retarget-c.result (this g b)
    c.put_piece.new.pen c.of.result (c.of.ensures ∙ c.requires.filled c.loop-index.index) c.put_piece.ensures

use Rattle.applet.proofs.Loops.{Deciding}
use Rattle.applet.proofs.reader.judge_code.Given as goal

-- what is still to be judged decides
abbrev pub invariant-loop-index : goal.invariant-loop-index
invariant-loop-index l = Deciding l.glances.methods l.size l.place l.instructions l.index

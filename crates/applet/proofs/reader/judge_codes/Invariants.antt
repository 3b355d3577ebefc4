use Rattle.std.proofs.Common.{◌≡◌, drop}
use Rattle.applet.specs.Stages.{codes_judged}
use Rattle.applet.proofs.reader.judge_codes.Given as goal

-- what is still to be judged decides
abbrev pub invariant-loop-place : goal.invariant-loop-place
invariant-loop-place l = codes_judged l.methods l.file (drop l.place-index l.places) ≡ codes_judged l.methods l.file l.places

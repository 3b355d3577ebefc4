use Rattle.std.proofs.Common.{◌≡◌, ◌++◌, length, take, drop}
use Rattle.applet.specs.Applets.{meant}
use Rattle.machine.proofs.fresh.fill.Given as goal

-- the start values so far, and the cells behind them
abbrev pub invariant-loop-i : goal.invariant-loop-i
invariant-loop-i l = (length l.cells ≡ 32) × (l.cells ≡ take l.i (meant l.applet).starts ++ drop l.i l.initial.cells)

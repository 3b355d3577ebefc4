-- Where a thread stands.
use Rattle.std.specs.Prelude.{length}
use Rattle.model.specs.Machine as model
use Rattle.machine.specs.declared.looks.Position.{Position}

-- status, method and index, how many frames lie below the topmost one, and its registers
abbrev pub position_of : model.Thread → Position
position_of u = record { status = u.status; method = u.top.method; index = u.top.index; depth = length u.callers; registers = u.top.regs }

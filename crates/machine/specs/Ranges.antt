-- Operands that name a register, a shared number, a cell, a scratch number or an argument that there is.
use Rattle.std.specs.Prelude.{◌<◌}
use Rattle.model.specs.declared.Own.{Own}
use Rattle.model.specs.declared.Own.TheVariants.{Set, Mov, Add, Sub, Lt, Eq, Get, Put, Jump, Brz, Call, Ret, Host, End}
use Rattle.model.specs.declared.Test.{Test}
use Rattle.model.specs.declared.Test.TheVariants.{Skip, Skz, Viol, Mset, Mcell, Marg, Store, Op}
use Rattle.model.specs.declared.Instr.{Instr}

abbrev pub OwnValid : Own → Type 0
OwnValid (Set x y) = x < 8
OwnValid (Mov x y) = (x < 8) × (y < 8)
OwnValid (Add x y) = (x < 8) × (y < 8)
OwnValid (Sub x y) = (x < 8) × (y < 8)
OwnValid (Lt x y) = (x < 8) × (y < 8)
OwnValid (Eq x y) = (x < 8) × (y < 8)
OwnValid (Get x y) = (x < 8) × (y < 64)
OwnValid (Put x y) = (x < 8) × (y < 64)
OwnValid (Jump n) = Unit {0}
OwnValid (Brz x n) = x < 8
OwnValid (Call n) = Unit {0}
OwnValid Ret = Unit {0}
OwnValid (Host k n) = Unit {0}
OwnValid End = Unit {0}

abbrev pub TestValid : Test → Type 0
TestValid (Skip n) = Unit {0}
TestValid (Skz x n) = x < 8
TestValid Viol = Unit {0}
TestValid (Mset x y) = x < 8
TestValid (Mcell x y) = (x < 8) × (y < 32)
TestValid (Marg x y) = (x < 8) × (y < 5)
TestValid (Store x y) = (x < 8) × (y < 32)
TestValid (Op x o) = x < 7

abbrev pub Valid : Instr → Type 0
Valid (Instr.Own i) = OwnValid i
Valid (Instr.Lock k) = Unit {0}
Valid Instr.Unlock = Unit {0}
Valid (Instr.Test i) = TestValid i

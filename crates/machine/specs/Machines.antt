-- The machine as its host sees it.
use Rattle.std.specs.Prelude.{Ok, Err, Result}
use Rattle.model.specs.Machine as model
use Rattle.model.specs.Fields.{Read}
use Rattle.model.specs.Files.{Loaded}
use Rattle.model.specs.declared.Refusal.{Refusal}
use Rattle.applet.specs.Applets.{meant}
use Rattle.machine.specs.declared.machines.Machine.{Machine}
use Rattle.machine.specs.Views.{machine_of}

-- the applet that a machine runs
abbrev pub program : Machine → model.Applet
program m = meant m.applet

-- what a machine holds now
abbrev pub holds_now : Machine → model.Machine
holds_now m = machine_of m.state

-- a machine that was loaded, or a refusal
abbrev pub load_seen : Result Machine Refusal → Read Loaded
load_seen (Ok m) = Ok (record { applet = program m; machine = holds_now m })
load_seen (Err e) = Err e

-- whether an answer worked
abbrev pub replied : model.Stepped → Result (Unit {0}) Refusal
replied (model.Stepped.done n o) = Ok tt
replied (model.Stepped.refused r) = Err r

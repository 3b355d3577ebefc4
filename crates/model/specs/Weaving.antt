-- When weave writes, and what.
use Rattle.std.specs.Prelude.{◌≡◌, ℕ, ◌<◌, ◌≤◌, List, length, Ok}
use Rattle.std.specs.List.{AllByRecursion}
use Rattle.model.specs.declared.Moment.{Moment}
use Rattle.model.specs.Policy.{Automaton, Blocks}
use Rattle.model.specs.Weave.{Plain, plain_applet, woven_applet}
use Rattle.model.specs.Reading.{read_applet, write_applet}

-- a policy within its limits
pub record Limited (A : Automaton) (B : Blocks) : Type 0 where
  -- it has at most 32 cells
  pub cells : A.width ≤ 32
  -- the block of each call at each moment has at most 1,000 instructions
  pub blocks : (k : ℕ) (t : Moment) → k < 64 → length (B k t 0) ≤ 1000

-- the woven file of a plain applet
abbrev pub woven_bytes : Automaton → Blocks → Plain → List ℕ
woven_bytes A B p = write_applet (woven_applet A B p)

-- a file that can be woven, into an area of so many bytes, p being the plain applet in it
pub record Weavable (A : Automaton) (B : Blocks) (f : List ℕ) (area : ℕ) (p : Plain) : Type 0 where
  -- the policy is within its limits
  pub limits : Limited A B
  -- the file reads as an applet that has no cells and no opcode from 20 up
  pub reads : read_applet f ≡ Ok (plain_applet p)
  -- each woven method has at most 4,096 instructions
  pub methods : AllByRecursion (λ c. length c ≤ 4096) (woven_applet A B p).methods
  -- the woven file has at most 65,535 bytes, and no more than the area
  pub short : length (woven_bytes A B p) ≤ 65535
  pub room : length (woven_bytes A B p) ≤ area

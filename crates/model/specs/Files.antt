-- Load, weave and check of files, with the place of each refusal.
use Rattle.std.specs.Prelude.{ℕ, zero, suc, ◌+◌, max, Bool, true, false, ◌&&◌, leb, List, [], ◌∷◌, length, ℤ, Some, None, Ok, Option, ◌==◌, nat_le}
use Rattle.model.specs.declared.Own.{Own}
use Rattle.model.specs.declared.Instr.{Instr}
use Rattle.model.specs.Policy.{Automaton, Blocks, eqZ}
use Rattle.model.specs.Moments.{each_moment}
use Rattle.model.specs.Machine.{Applet, Machine, fresh}
use Rattle.model.specs.Weave.{Plain, woven_applet}
use Rattle.model.specs.Check.{Fault, method_fault}
use Rattle.model.specs.Fields.{Read, refuse, need, ◌>>=◌, ◌>>◌}
use Rattle.model.specs.Reading.{read_applet, write_applet, cells_place, method_place, instr_place}
use Rattle.model.specs.declared.Refusal.TheVariants.{AreaTooShort, NotPlain, MethodTooLong, FileTooLong, BlockTooLong, TooManyCells, OtherStarts}

-- a machine, with the applet that it runs
pub record Loaded : Type 0 where
  pub applet : Applet
  pub machine : Machine

-- the new machine of an applet
abbrev pub loaded : Applet → Loaded
loaded a = record { applet = a; machine = fresh a }

-- load is reading
abbrev pub load_file : List ℕ → Read Loaded
load_file f = do
  a ← read_applet f
  Ok (loaded a)

-- a test holds of every number below n
abbrev pub all_below : ℕ → (ℕ → Bool) → Bool
all_below zero p = true
all_below (suc n) p = p n && all_below n p

-- what weave and check ask of a policy first: at most 32 cells, and blocks of at most 1,000 instructions
abbrev pub policy_limits : Automaton → Blocks → Read (Unit {0})
policy_limits A B =
    need (nat_le A.width 32) TooManyCells >>
    need (all_below 64 (λ k. each_moment (λ t. leb (length (B k t 0)) 1000))) BlockTooLong

-- code without opcodes from 20 up, from index i of a method whose instructions have their places by `at`
abbrev pub plain_code : (ℕ → ℕ) → ℕ → List Instr → Read (List Own)
plain_code at i [] = Ok []
plain_code at i (Instr.Own c ∷ cs) = do
  ds ← plain_code at (i + 1) cs
  Ok (c ∷ ds)
plain_code at i (Instr.Lock k ∷ cs) = refuse (NotPlain (at i))
plain_code at i (Instr.Unlock ∷ cs) = refuse (NotPlain (at i))
plain_code at i (Instr.Test c ∷ cs) = refuse (NotPlain (at i))

-- the same of all methods from m on
abbrev pub plain_codes : (ℕ → ℕ → ℕ) → ℕ → List (List Instr) → Read (List (List Own))
plain_codes at m [] = Ok []
plain_codes at m (c ∷ cs) = do
  d ← plain_code (at m) 0 c
  ds ← plain_codes at (m + 1) cs
  Ok (d ∷ ds)

-- an applet as a plain one: without cells, and without opcodes from 20 up
abbrev pub plain_of : Applet → Read Plain
plain_of a = do
  need (length a.starts == 0) (NotPlain (cells_place a))
  cs ← plain_codes (instr_place a) 0 a.methods
  Ok (record { entries = a.entries; code = cs })

-- woven methods within the limit, at the places of the plain ones
abbrev pub sized : (ℕ → ℕ) → ℕ → List (List Instr) → Read (Unit {0})
sized at m [] = Ok tt
sized at m (c ∷ cs) = need (nat_le (length c) 4096) (MethodTooLong (at m)) >> sized at (m + 1) cs

-- weave: the woven file of a plain file, into an area of so many bytes
abbrev pub weave_file : Automaton → Blocks → List ℕ → ℕ → Read (List ℕ)
weave_file A B f area = do
  policy_limits A B
  a ← read_applet f
  p ← plain_of a
  let w = woven_applet A B p
  sized (method_place a) 0 w.methods
  need (nat_le (length (write_applet w)) 65535) FileTooLong
  need (nat_le (length (write_applet w)) area) AreaTooShort
  Ok (write_applet w)

-- two rows of cells are equal
abbrev pub same_cells : List ℤ → List ℤ → Bool
same_cells [] [] = true
same_cells [] (y ∷ ys) = false
same_cells (x ∷ xs) [] = false
same_cells (x ∷ xs) (y ∷ ys) = eqZ x y && same_cells xs ys

-- a fault of a method whose instructions have their places by `at`
abbrev pub fault_at : (ℕ → ℕ) → Option Fault → Read (Unit {0})
fault_at at None = Ok tt
fault_at at (Some e) = refuse (e.refusal (at e.index))

-- method by method the method's fault, from method m on
abbrev pub check_codes : Automaton → Blocks → (ℕ → ℕ → ℕ) → ℕ → List (List Instr) → Read (Unit {0})
check_codes A B at m [] = Ok tt
check_codes A B at m (c ∷ cs) = fault_at (at m) (method_fault A.watched (λ k t. B k t 0) c) >> check_codes A B at (m + 1) cs

-- the cells are the policy's starts, and every method is woven
abbrev pub check_applet : Automaton → Blocks → Applet → Read (Unit {0})
check_applet A B a =
    need (same_cells a.starts A.starts) (OtherStarts (cells_place a)) >>
    check_codes A B (instr_place a) 0 a.methods

-- how many instructions the longest method has
abbrev pub longest : List (List Instr) → ℕ
longest [] = 0
longest (c ∷ cs) = max (length c) (longest cs)

-- check: a file against a policy, with a work area of so many bytes
abbrev pub check_file : Automaton → Blocks → List ℕ → ℕ → Read (Unit {0})
check_file A B f area = do
  policy_limits A B
  a ← read_applet f
  need (nat_le (longest a.methods) area) AreaTooShort
  check_applet A B a

-- A method's instructions, and how many stand for each in the woven code.
use Rattle.std.specs.Prelude.{◌≡◌, ℕ, suc, ◌<◌, cond, List, map, length, Some, None, Option, nat_le, slice_index}
use Rattle.model.specs.declared.Instr.{Instr}
use Rattle.model.specs.declared.Own.{Own}
use Rattle.model.specs.Policy.{Automaton, Blocks}
use Rattle.model.specs.Machine.{Applet}
use Rattle.model.specs.Words.{quad_at, decode}
use Rattle.model.specs.Weave.{behind, woven}
use Rattle.applet.specs.Applets.{or_end}

-- an instruction of the applet's own; END for any other
abbrev pub own_of : Instr → Own
own_of (Instr.Own c) = c
own_of _ = Own.End

-- the instruction in four bytes, in an applet of n methods; END where there is none
abbrev pub instr_in : ℕ → List ℕ → Instr
instr_in n bytes = or_end (decode n (quad_at bytes 0))

-- the same, as the applet's own
abbrev pub own_in : ℕ → List ℕ → Own
own_in n bytes = own_of (instr_in n bytes)

-- the instructions of a method, by the four bytes of each
abbrev pub instrs : ℕ → List (List ℕ) → List Instr
instrs n code = map (instr_in n) code

-- the same, as the applet's own
abbrev pub owns : ℕ → List (List ℕ) → List Own
owns n code = map own_of (instrs n code)

-- calls go up to 63
abbrev pub Called : Own → Type 0
Called (Own.Host k n) = k < 64
Called _ = Unit {0}

-- how many instructions stand for a HOST of call k
abbrev pub host_size : Automaton → Blocks → ℕ → ℕ
host_size A B k = cond (A.watched k) (suc (behind (λ k t. B k t 0) k)) 1

-- the sizes are those of the calls
abbrev pub HostSizes : Automaton → Blocks → List ℕ → Type 0
HostSizes A B sizes = (k : ℕ) → k < 64 → slice_index sizes k ≡ host_size A B k

-- a method's instructions in an applet, as its own
abbrev pub own_code : Applet → List (List ℕ) → List Own
own_code a code = owns (length a.methods) code

-- its woven code
abbrev pub woven_code : Automaton → Blocks → Applet → List (List ℕ) → List Instr
woven_code A B a code = woven A.watched (λ k t. B k t 0) (own_code a code)

-- a size, if it is within the limit of a method's
abbrev pub within_limit : ℕ → Option ℕ
within_limit n = cond (nat_le n 4096) (Some n) None

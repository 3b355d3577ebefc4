-- The weaving of an applet that was read.
use Rattle.std.specs.Prelude.{◌≡◌, ℕ, ◌+◌, ◌*◌, ◌<◌, ◌≤◌, Bool, true, false, List, [], map, length, Ok, Err, nat_le, slice_index_or}
use Rattle.model.specs.declared.Instr.{Instr}
use Rattle.model.specs.Machine as machine
use Rattle.model.specs.Policy.{Automaton, Blocks}
use Rattle.model.specs.Weave.{Plain, woven_applet}
use Rattle.model.specs.Fields.{Read, need, ◌>>=◌, ◌>>◌}
use Rattle.model.specs.Reading.{write_applet, method_place}
use Rattle.model.specs.Files.{plain_of, sized}
use Rattle.model.specs.Areas.{area_after}
use Rattle.model.specs.declared.Refusal.TheVariants.{AreaTooShort, FileTooLong}
use Rattle.applet.specs.declared.reader.Applet.{Applet}
use Rattle.applet.specs.Applets.{meant, Placed}
use Rattle.weaver.specs.Pieces.{own_of, instrs}

-- an instruction is one of the applet's own
abbrev pub is_own : Instr → Bool
is_own (Instr.Own c) = true
is_own _ = false

-- what was read, forgotten
abbrev pub forget : {X : Type 0} → Read X → Read (Unit {0})
forget (Ok x) = Ok tt
forget (Err e) = Err e

-- an applet's code, as its own
abbrev pub plain_part : machine.Applet → Plain
plain_part a = record { entries = a.entries; code = map (map own_of) a.methods }

-- the woven applet of an applet whose code is its own
abbrev pub woven_of : Automaton → Blocks → machine.Applet → machine.Applet
woven_of A B a = woven_applet A B (plain_part a)

-- weave, of an applet that was read and into an area of so many bytes
abbrev pub woven_file : Automaton → Blocks → machine.Applet → ℕ → Read (List ℕ)
woven_file A B a area = do
  p ← plain_of a
  let w = woven_applet A B p
  sized (method_place a) 0 w.methods
  need (nat_le (length (write_applet w)) 65535) FileTooLong
  need (nat_le (length (write_applet w)) area) AreaTooShort
  Ok (write_applet w)

-- how many bytes that writes
abbrev pub woven_answer : Automaton → Blocks → machine.Applet → List ℕ → Read ℕ
woven_answer A B a area = woven_file A B a (length area) >>= (λ g. Ok (length g))

-- the area after it
abbrev pub woven_area : Automaton → Blocks → machine.Applet → List ℕ → List ℕ
woven_area A B a area = area_after area (woven_file A B a (length area))

-- the length of the woven file, if each of its methods is within the limit
abbrev pub woven_length : Automaton → Blocks → machine.Applet → Read ℕ
woven_length A B a = sized (method_place a) 0 (woven_of A B a).methods >> Ok (length (write_applet (woven_of A B a)))

-- an applet that was read: its methods stand where the model has them, and it is within its limits
pub record Sound (a : Applet) : Type 0 where
  pub placed : Placed a
  pub methods : length (meant a).methods ≤ 32
  pub threads : length (meant a).entries ≤ 8
  pub sizes : (m : ℕ) → m < length (meant a).methods → length (slice_index_or (meant a).methods m []) ≤ 4096
  pub short : length (write_applet (meant a)) ≤ 65535

-- method m of an applet, with its place in the file and the four bytes of each of its instructions
pub record MethodAt (a : machine.Applet) (m place : ℕ) (code : List (List ℕ)) : Type 0 where
  pub there : m < length a.methods
  pub placed : place ≡ method_place a m
  pub decoded : instrs (length a.methods) code ≡ slice_index_or a.methods m []
  pub small : length code ≤ 4096
  pub inside : place + 3 + 4 * length code ≤ 65535

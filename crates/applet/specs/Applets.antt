-- An applet that was read, as the model has it.
use Rattle.std.specs.Prelude.{◌≡◌, ℕ, zero, suc, ◌+◌, ◌*◌, ◌<◌, cond, List, [], ◌∷◌, map, length, take, drop, Some, None, Ok, Err, Option, Result, nat_le, slice_index}
use Rattle.std.specs.Borrow.{Bor}
use Rattle.model.specs.declared.Instr.{Instr}
use Rattle.model.specs.declared.Own.{Own}
use Rattle.model.specs.declared.Refusal.{Refusal}
use Rattle.model.specs.Machine as machine
use Rattle.model.specs.Words.{quads, signed_of, decode}
use Rattle.model.specs.Fields.{Read, contents_at}
use Rattle.model.specs.Reading.{Valid, write_applet, method_place}
use Rattle.applet.specs.declared.reader.Layout.{Layout}
use Rattle.applet.specs.declared.reader.Applet.{Applet}
use Rattle.applet.specs.Stages.{Found, listed}

-- what the fields of a file were found to be
abbrev pub found : Layout → Found
found l = record { threads = l.threads; cells = l.cells; places = listed l.places }

-- what was found, or a refusal
abbrev pub found_in : Result Layout Refusal → Read Found
found_in (Ok l) = Ok (found l)
found_in (Err e) = Err e

-- an instruction that was decoded; END where there is none
abbrev pub or_end : Option Instr → Instr
or_end (Some c) = c
or_end None = Instr.Own Own.End

-- the code in the field at place p, in an applet of n methods
abbrev pub code_in : List ℕ → ℕ → ℕ → List Instr
code_in f n p = map (λ q. or_end (decode n q)) (quads (contents_at f p))

-- the applet of a file in which that was found
abbrev pub laid_out : List ℕ → Found → machine.Applet
laid_out f l = record {
  entries = take l.threads (drop 8 f);
  starts = map signed_of (quads (take (4 * l.cells) (drop (11 + l.threads) f)));
  methods = map (code_in f (length l.places)) l.places;
}

-- the applet that a value stands for
abbrev pub meant : Applet → machine.Applet
meant a = laid_out a.file.now (found a.layout)

-- the applet that was read, or a refusal
abbrev pub read_seen : Result Applet Refusal → Read machine.Applet
read_seen (Ok a) = Ok (meant a)
read_seen (Err e) = Err e

-- a part of the file that was handed out
abbrev pub shown : Option (Bor (List ℕ)) → Option (List ℕ)
shown None = None
shown (Some s) = Some s.now

-- the item at an index, if there is one
abbrev pub nth : {X : Type 0} → List X → ℕ → Option X
nth [] i = None
nth (x ∷ xs) zero = Some x
nth (x ∷ xs) (suc i) = nth xs i

-- the places of the methods
abbrev pub places_of : Applet → List ℕ
places_of a = (found a.layout).places

-- each method stands where the model has it
abbrev pub Placed : Applet → Type 0
Placed a = (m : ℕ) → m < length (meant a).methods → nth (places_of a) m ≡ Some (method_place (meant a) m)

-- an applet is within all limits, and written again it is the file
pub record Kept (f : List ℕ) (a : machine.Applet) : Type 0 where
  pub valid : Valid a
  pub written : write_applet a ≡ f

-- the four bytes at index i of a method's code, if there is one and it is so long
abbrev pub quad_in : Option (List ℕ) → ℕ → Option (List ℕ)
quad_in None i = None
quad_in (Some c) i = cond (nat_le (4 * i + 4) (length c)) (Some (slice_index c (4 * i) ∷ slice_index c (4 * i + 1) ∷ slice_index c (4 * i + 2) ∷ slice_index c (4 * i + 3) ∷ [])) None

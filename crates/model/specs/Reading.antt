-- The file of an applet: its bytes, and the reading of them.
use Rattle.std.specs.Prelude.{◌≡◌, ℕ, zero, suc, ◌+◌, ◌*◌, ◌<◌, ◌≤◌, true, cond, ◌&&◌, List, [], ◌∷◌, ◌++◌, map, length, take, Some, None, Ok, Option, FitsSigned, ◌==◌, nat_le, nat_lt, slice_index}
use Rattle.std.specs.Int.{w32}
use Rattle.std.specs.List.{AllByRecursion}
use Rattle.model.specs.declared.Instr.{Instr}
use Rattle.model.specs.Machine.{Applet}
use Rattle.model.specs.Words.{Quad, quads, flat, signed_of, quad_of, encode, decode, lands, Ranged}
use Rattle.model.specs.Fields.{Read, Field, refuse, need, ◌>>=◌, ◌>>◌, within, Within, every, items, next, expect, over, field}
use Rattle.model.specs.declared.Refusal.TheVariants.{BadField, BadSize, BadInstruction, BadLanding}

-- what was decoded at index i and place p, in a method of that size: 12, then 13
abbrev pub landed : ℕ → ℕ → ℕ → Option Instr → Read Instr
landed size i p None = refuse (BadInstruction p)
landed size i p (Some c) = cond (lands size i c) (Ok c) (refuse (BadLanding p))

-- the code of a method of that size in an applet of n methods, from index i and place p on
abbrev pub read_code : ℕ → ℕ → ℕ → ℕ → List Quad → Read (List Instr)
read_code n size i p [] = Ok []
read_code n size i p (q ∷ qs) = do
  c ← landed size i p (decode n q)
  cs ← read_code n size (i + 1) (p + 4) qs
  Ok (c ∷ cs)

-- method by method
abbrev pub read_codes : ℕ → List Field → Read (List (List Instr))
read_codes n [] = Ok []
read_codes n (m ∷ ms) = do
  c ← read_code n (length (quads m.contents)) 0 (m.place + 3) (quads m.contents)
  cs ← read_codes n ms
  Ok (c ∷ cs)

-- n fields with code, and nothing behind them
abbrev pub code_fields : ℕ → ℕ → List ℕ → Read (List Field)
code_fields zero p r = over BadField p r >> Ok []
code_fields (suc n) p r = do
  m ← expect BadField 4 p r
  need (items 1 4096 m.contents) (BadSize p)
  ms ← code_fields n (next m) m.rest
  Ok (record { place = p; contents = m.contents } ∷ ms)

-- the reading of an applet: 10 and 11 in file order, then 12 and 13
abbrev pub read_applet : List ℕ → Read Applet
read_applet f = do
  need (nat_le (length f) 65535) (BadField 0)
  h ← expect BadField 1 0 f
  let n = slice_index h.contents 1
  need (length h.contents == 2 && slice_index h.contents 0 == 1 && within 1 32 n) (BadSize 0)
  t ← expect BadField 2 (next h) h.rest
  need (within 1 8 (length t.contents) && every (λ e. nat_lt e n) t.contents) (BadSize t.place)
  s ← expect BadField 3 (next t) t.rest
  need (items 0 32 s.contents) (BadSize s.place)
  ms ← code_fields n (next s) s.rest
  cs ← read_codes n ms
  Ok (record { entries = t.contents; starts = map signed_of (quads s.contents); methods = cs })

-- the bytes of a method
abbrev pub write_code : List Instr → List ℕ
write_code c = flat (map encode c)

-- the fields of the methods
abbrev pub write_codes : List (List Instr) → List ℕ
write_codes [] = []
write_codes (c ∷ cs) = field 4 (write_code c) ++ write_codes cs

-- the file of an applet
abbrev pub write_applet : Applet → List ℕ
write_applet a =
    field 1 (1 ∷ length a.methods ∷ []) ++
    (field 2 a.entries ++
    (field 3 (flat (map quad_of a.starts)) ++
    write_codes a.methods))

-- the place of tag 3
abbrev pub cells_place : Applet → ℕ
cells_place a = 8 + length a.entries

-- where the field of method m stands, from the first one on
abbrev pub code_place : List (List Instr) → ℕ → ℕ
code_place cs m = length (write_codes (take m cs))

-- the place of method m
abbrev pub method_place : Applet → ℕ → ℕ
method_place a m = 11 + length a.entries + 4 * length a.starts + code_place a.methods m

-- the place of instruction i of method m
abbrev pub instr_place : Applet → ℕ → ℕ → ℕ
instr_place a m i = method_place a m + 3 + 4 * i

-- code from index i on of a method of that size, among n methods: operands in their ranges, landings inside
abbrev pub Sound : ℕ → ℕ → ℕ → List Instr → Type 0
Sound n size i [] = Unit {0}
Sound n size i (c ∷ cs) = (Ranged n c × (lands size i c ≡ true)) × Sound n size (i + 1) cs

-- an applet within all limits
pub record Valid (a : Applet) : Type 0 where
  pub methods : Within 1 32 (length a.methods)
  pub threads : Within 1 8 (length a.entries)
  pub entered : AllByRecursion (λ e. e < length a.methods) a.entries
  pub cells : length a.starts ≤ 32
  pub signed : AllByRecursion (FitsSigned w32) a.starts
  pub sizes : AllByRecursion (λ c. Within 1 4096 (length c)) a.methods
  pub sound : AllByRecursion (λ c. Sound (length a.methods) (length c) 0 c) a.methods

-- Fields as parts of the file that they are read from.
use Rattle.std.specs.Prelude.{◌≡◌, ℕ, ◌+◌, ◌*◌, ◌<◌, ◌≤◌, List, [], ◌∷◌, map, length, get_or, take, drop, Some, Ok, slice_index_or}
use Rattle.model.specs.declared.Instr.{Instr}
use Rattle.model.specs.declared.Refusal.{Refusal}
use Rattle.model.specs.Machine.{Applet}
use Rattle.model.specs.Words.{quads, flat, quad_at, signed_of, quad_of, decode}
use Rattle.model.specs.Fields.{Bytes, announced, contents_at, Part, next, expect}
use Rattle.model.specs.Reading.{read_applet, write_code, cells_place, method_place, instr_place}

-- a field of that tag stands at place p of a file, inside the holder with the bytes h
pub record Stands (f h : List ℕ) (tag p : ℕ) : Type 0 where
  pub tagged : get_or f p 0 ≡ tag
  pub sized : length (contents_at f p) ≡ announced f p
  pub ends : p + (3 + announced f p) ≤ length h

-- a field that was handed out at place p of a file, inside the holder with the bytes h, is a part of the file
pub record Handed (f h : List ℕ) (tag p : ℕ) (m : Part) : Type 0 where
  pub place : m.place ≡ p
  pub stands : Stands f h tag p
  pub contents : m.contents ≡ contents_at f p
  -- and what is left of its holder stands behind it
  pub rest : m.rest ≡ drop (next m) h

-- the fields of an applet are parts of the file that it was read from
pub record AppletParts (f : List ℕ) (a : Applet) : Type 0 where
  -- the head, with the number of methods
  pub head : Stands f f 1 0
  pub counted : 1 ∷ length a.methods ∷ [] ≡ contents_at f 0
  -- the methods in which the threads start
  pub entries : Stands f f 2 5
  pub entered : a.entries ≡ contents_at f 5
  -- the start values of the cells, four bytes each
  pub cells : Stands f f 3 (cells_place a)
  pub starts : a.starts ≡ map signed_of (quads (contents_at f (cells_place a)))
  -- the code of each method, four bytes for an instruction, which is decoded from them
  pub methods : (m : ℕ) → m < length a.methods → Stands f f 4 (method_place a m)
  pub sizes : (m : ℕ) → m < length a.methods → announced f (method_place a m) ≡ 4 * length (slice_index_or a.methods m [])
  pub fetched : (m i : ℕ) (d : Instr) → m < length a.methods → i < length (slice_index_or a.methods m []) →
      decode (length a.methods) (quad_at f (instr_place a m i)) ≡ Some (slice_index_or (slice_index_or a.methods m []) i d)
  -- of a file of bytes, start values and code in bytes are those parts
  pub start_bytes : Bytes f → flat (map quad_of a.starts) ≡ contents_at f (cells_place a)
  pub code_bytes : Bytes f → (m : ℕ) → m < length a.methods → write_code (slice_index_or a.methods m []) ≡ contents_at f (method_place a m)

-- whatever a reader hands out is a part of the file
pub record PartsOfFiles : Type 0 where
  -- a field at place p of a file
  pub in_file : (f : List ℕ) (why : ℕ → Refusal) (tag p : ℕ) (m : Part) → expect why tag p (drop p f) ≡ Ok m → Handed f f tag p m
  -- a field at place p of a holder that ends at place e of a file
  pub in_holder : (f : List ℕ) (e : ℕ) (why : ℕ → Refusal) (tag p : ℕ) (m : Part) → expect why tag p (drop p (take e f)) ≡ Ok m →
      Handed f (take e f) tag p m
  -- the fields of an applet
  pub in_applet : (f : List ℕ) (a : Applet) → read_applet f ≡ Ok a → AppletParts f a

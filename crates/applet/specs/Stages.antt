-- The reading of an applet as the code goes about it: field by field from place to place, then instruction by instruction.
use Rattle.std.specs.Prelude.{ℕ, zero, suc, ◌+◌, ◌*◌, ◌/◌, cond, ◌&&◌, List, [], ◌∷◌, ◌++◌, length, take, Ok, Err, Result, ◌==◌, nat_le, nat_lt, slice_index}
use Rattle.model.specs.declared.Refusal.{Refusal}
use Rattle.model.specs.declared.Refusal.TheVariants.{BadField, BadSize}
use Rattle.model.specs.Words.{Quad, quads, decode}
use Rattle.model.specs.Fields.{Read, refuse, within, every, items, contents_at, standing, behind}
use Rattle.model.specs.Reading.{landed}
use Rattle.tlv.specs.Parts.{Due, contents, missing, due}
use Rattle.opcodes.specs.Judging.{passed}
use Rattle.applet.specs.declared.places.Places.{Places}

-- how many methods the head tells
abbrev pub head_of : ℕ → Due → Read ℕ
head_of p (contents c) = cond (length c == 2 && slice_index c 0 == 1 && within 1 32 (slice_index c 1)) (Ok (slice_index c 1)) (refuse (BadSize p))
head_of p (missing q) = refuse (BadField q)

-- how many threads there are, each of which starts in one of n methods
abbrev pub entries_of : ℕ → ℕ → Due → Read ℕ
entries_of n p (contents c) = cond (within 1 8 (length c) && every (λ e. nat_lt e n) c) (Ok (length c)) (refuse (BadSize p))
entries_of n p (missing q) = refuse (BadField q)

-- how many cells have start values
abbrev pub cells_of : ℕ → Due → Read ℕ
cells_of p (contents c) = cond (items 0 32 c) (Ok (length c / 4)) (refuse (BadSize p))
cells_of p (missing q) = refuse (BadField q)

-- a method's code has a size within the limits
abbrev pub method_of : ℕ → Due → Read (Unit {0})
method_of p (contents c) = cond (items 1 4096 c) (Ok tt) (refuse (BadSize p))
method_of p (missing q) = refuse (BadField q)

-- the field of that tag at place p
abbrev pub due_at : ℕ → List ℕ → ℕ → Due
due_at tag f p = due tag p (standing f p)

-- nothing is left over
abbrev pub ended : List ℕ → ℕ → Read (List ℕ)
ended f p = cond (nat_le (length f) p) (Ok []) (refuse (BadField p))

-- one place more, unless the field there or one behind it is refused
abbrev pub one_more : ℕ → Read (Unit {0}) → Read (List ℕ) → Read (List ℕ)
one_more p (Ok u) (Ok ps) = Ok (p ∷ ps)
one_more p (Ok u) (Err e) = Err e
one_more p (Err e) r = Err e

-- the places of n methods from place p on, and nothing behind them
abbrev pub places_from : ℕ → List ℕ → ℕ → Read (List ℕ)
places_from zero f p = ended f p
places_from (suc n) f p = one_more p (method_of p (due_at 4 f p)) (places_from n f (behind p (standing f p)))

-- the places that were found
abbrev pub listed : Places → List ℕ
listed ps = take ps.count ps.all

-- the places, or a refusal
abbrev pub places_in : Result Places Refusal → Read (List ℕ)
places_in (Ok ps) = Ok (listed ps)
places_in (Err e) = Err e

-- the places that were gathered, then those still to come
abbrev pub gathered : List ℕ → Read (List ℕ) → Read (List ℕ)
gathered ps (Ok qs) = Ok (ps ++ qs)
gathered ps (Err e) = Err e

-- the instructions of a method of that size in an applet of n methods, from index i and place p on
abbrev pub judged : ℕ → ℕ → ℕ → ℕ → List Quad → Read (Unit {0})
judged n size i p [] = Ok tt
judged n size i p (q ∷ qs) = passed (landed size i p (decode n q)) (judged n size (i + 1) (p + 4) qs)

-- the code of one method, whose field stands at place p
abbrev pub code_judged : ℕ → List ℕ → ℕ → Read (Unit {0})
code_judged n f p = judged n (length (quads (contents_at f p))) 0 (p + 3) (quads (contents_at f p))

-- one after the other
abbrev pub both_pass : Read (Unit {0}) → Read (Unit {0}) → Read (Unit {0})
both_pass (Ok u) r = r
both_pass (Err e) r = Err e

-- the code of all methods
abbrev pub codes_judged : ℕ → List ℕ → List ℕ → Read (Unit {0})
codes_judged n f [] = Ok tt
codes_judged n f (p ∷ ps) = both_pass (code_judged n f p) (codes_judged n f ps)

-- what a reading of the fields finds: how many threads and cells there are, and where the methods stand
pub record Found : Type 0 where
  pub threads : ℕ
  pub cells : ℕ
  pub places : List ℕ

-- the stages, one after the other
abbrev pub from_codes : ℕ → ℕ → List ℕ → Read (Unit {0}) → Read Found
from_codes t s ps (Ok u) = Ok (record { threads = t; cells = s; places = ps })
from_codes t s ps (Err e) = Err e

abbrev pub from_places : List ℕ → ℕ → ℕ → ℕ → Read (List ℕ) → Read Found
from_places f n t s (Ok ps) = from_codes t s ps (codes_judged n f ps)
from_places f n t s (Err e) = Err e

abbrev pub from_cells : List ℕ → ℕ → ℕ → Read ℕ → Read Found
from_cells f n t (Ok s) = from_places f n t s (places_from n f (11 + t + 4 * s))
from_cells f n t (Err e) = Err e

abbrev pub from_entries : List ℕ → ℕ → Read ℕ → Read Found
from_entries f n (Ok t) = from_cells f n t (cells_of (8 + t) (due_at 3 f (8 + t)))
from_entries f n (Err e) = Err e

abbrev pub from_head : List ℕ → Read ℕ → Read Found
from_head f (Ok n) = from_entries f n (entries_of n 5 (due_at 2 f 5))
from_head f (Err e) = Err e

-- the reading of a file
abbrev pub staged : List ℕ → Read Found
staged f = cond (nat_le (length f) 65535) (from_head f (head_of 0 (due_at 1 f 0))) (refuse (BadField 0))

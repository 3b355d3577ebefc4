-- Fields of a policy file, as the code has them.
use Rattle.std.specs.Prelude.{ℕ, cond, List, drop, Ok, Err, Result}
use Rattle.model.specs.declared.Refusal.{Refusal}
use Rattle.model.specs.declared.Refusal.TheVariants.{BadPolicyField}
use Rattle.model.specs.Fields.{Read, Part, a_tag, expect, next}
use Rattle.policy.specs.declared.pieces.Piece.{Piece}

-- the contents of a field, and the place behind it
pub record Found : Type 0 where
  pub contents : List ℕ
  pub next : ℕ

-- what the code found
abbrev pub seen : Result Piece Refusal → Read Found
seen (Ok p) = Ok (record { contents = p.contents.now; next = p.next })
seen (Err e) = Err e

-- a field without the bytes behind it
abbrev pub found : Part → Found
found m = record { contents = m.contents; next = next m }

-- what is to be found
abbrev pub piece_of : Read Part → Read Found
piece_of (Ok m) = Ok (found m)
piece_of (Err e) = Err e

-- what is due at place p of the holder f; a tag that no field has is never there
abbrev pub due_piece : ℕ → ℕ → List ℕ → Read Found
due_piece tag p f = cond (a_tag tag) (piece_of (expect BadPolicyField tag p (drop p f))) (Err (BadPolicyField p))

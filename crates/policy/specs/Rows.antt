-- Fields of one tag, one behind the other.
use Rattle.std.specs.Prelude.{◌≡◌, ℕ, ◌<◌, ◌≤◌, length, Ok, Err, Option, Result}
use Rattle.std.specs.Option.{MatchOption}
use Rattle.model.specs.declared.Refusal.{Refusal}
use Rattle.policy.specs.declared.pieces.Piece.{Piece}
use Rattle.policy.specs.declared.pieces.Pieces.{Pieces}
use Rattle.policy.specs.Pieces.{seen, due_piece}

-- where the next field is due, behind one that was read; behind one that was refused, the holder's end
abbrev pub goes_to : ℕ → Result Piece Refusal → ℕ
goes_to end (Ok p) = p.next
goes_to end (Err r) = end

-- the next field is the one that is due, with its place; none at the holder's end
abbrev pub GivesDue : Pieces → Option (ℕ × Result Piece Refusal) → Pieces → Type 0
GivesDue s r t =
    (t.holder.now ≡ s.holder.now) × (t.tag ≡ s.tag) × MatchOption r ((length s.holder.now ≤ s.at) × (t.at ≡ s.at))
    (λ x. (s.at < length s.holder.now) × (x.0 ≡ s.at) × (seen x.1 ≡ due_piece s.tag s.at s.holder.now) × (t.at ≡ goes_to (length s.holder.now) x.1))

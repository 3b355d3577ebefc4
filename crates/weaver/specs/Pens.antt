-- What a pen writes.
use Rattle.std.specs.Prelude.{◌≡◌, ℕ, ◌+◌, ◌≤◌, List, length}
use Rattle.policy.specs.Calls.{put_at}
use Rattle.weaver.specs.declared.pen.Pen.{Pen}

-- so many bytes have room in the area
abbrev pub Room : Pen → ℕ → Type 0
Room p n = p.at + n ≤ length p.area.now

-- the pen p wrote bytes, behind which q stands
pub record Wrote (p : Pen) (bytes : List ℕ) (q : Pen) : Type 0 where
  pub same_area : q.area.ghost_name ≡ p.area.ghost_name
  pub area : q.area.now ≡ put_at p.area.now p.at bytes
  pub at : q.at ≡ p.at + length bytes
  pub long : length q.area.now ≡ length p.area.now

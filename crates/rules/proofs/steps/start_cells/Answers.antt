use Rattle.std.proofs.Common.{◌≡◌, ◌+◌, ◌*◌, ◌<◌, length, ◌∙◌, arith, w32, SFits, rules}
use Rattle.std.proofs.lemmas.Int.{to_z-of_z}
use Rattle.std.specs.Iterator.Adapters.{enumerate_source, enumerate_count}
use Rattle.std.specs.Slice.Iter.{chunks_exact_rest}
use Rattle.rules.proofs.Starts.{room_for, started_more}
use Rattle.rules.proofs.steps.start_cells.Goals as goal
use Rattle.rules.proofs.steps.start_cells.Goals.{In-Some}

-- there is a cell for the value
room : (c : In-Some) → (c.in-Some.i < length c.args.cells.now)
    × (4 * enumerate_count c.next.new.self + length (chunks_exact_rest (enumerate_source c.next.new.self)) ≡ length c.args.bytes.now)
room c =
    let s = c.in-Some.ensures.steps in
    room_for _ c.in-Some.b.now _ _ _ _ _ _ s.0.1.0 (s.0.1.1 ∙ c.loop-i.invariant.0) c.loop-i.invariant.1 c.requires s.1 s.2

pub loop-i-preserved : goal.loop-i-preserved
loop-i-preserved c =
    let s = c.in-Some.ensures.steps in
    let b = c.in-Some.b.now in
    let g : SFits w32 c.number.result = search rules in
    let r = room (goal.at.loop-i-preserved c).In-Some in
    let r0 = r.0 in
    let i = s.1 in
    let v = to_z-of_z w32 c.number.result g ∙ c.number.ensures in (
      s.0.0 ∙ c.loop-i.invariant.0,
      r.1,
      started_more c.args.bytes.now c.args.cells.now _ b _ _ _ _ c.loop-i.cells _ c.loop-i.invariant.2 s.0.1.0 (s.0.1.1 ∙ c.loop-i.invariant.0) v s.1 s.2 (omega arith),
    )

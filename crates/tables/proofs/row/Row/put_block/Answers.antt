use Rattle.std.proofs.Common.{◌≡◌, ◌+◌, ◌*◌, ◌-◌, length, sym, ap, ◌∙◌, arith}
use Rattle.model.specs.Calls.{block_bytes}
use Rattle.policy.specs.Calls.{put_at}
use Rattle.tables.specs.States.{state_tests}
use Rattle.tables.proofs.TableRows.{row_size, states_size, size_end, start, without, with_next, finish, seven, none_told, some_told}
use Rattle.tables.proofs.row.Row.put_block.Goals as goal
use Rattle.tables.proofs.row.Row.put_block.Goals.{in-Some, in_default}

pub loop-state-init : goal.loop-state-init
loop-state-init c =
    let ns = c.args.self.now.nexts.now in
    let e : row_size ns ≡ c.block_len-behind.result = sym (states_size 0 0 ns) ∙ c.block_len-behind.ensures.value 0 0 in
    (c.block_len-behind.ensures.few, omega arith, rw (← e) (start ns c.args.cell c.args.area.now))

pub put_all-at-requires : goal.put_all-at-requires
put_all-at-requires c =
    let ns = c.args.self.now.nexts.now in
    let s = seven ns c.loop-state.state c.loop-state.behind c.loop-state-test.true (some_told _ _ c.in-Some.ensures).1 c.loop-state.invariant.2.count in
    omega (arith, ap length c.state_tests.ensures, states_size c.args.cell 0 ns)

pub loop-state-preserved : goal.loop-state-preserved
loop-state-preserved c =
    let ns = c.args.self.now.nexts.now in
    let q = c.loop-state.state in
    let f = c.args.cell in
    let old = c.loop-state in
    elim c.match-state_of.branch [
      | in-Some w ↦
          let t = some_told _ _ w.in-Some.ensures in
          let s = seven ns q old.behind c.loop-state-test.true t.1 old.invariant.2.count in
          let k = states_size f 0 ns in
          let b : w.put_all-at.result ≡ old.at + 28 = w.put_all-at.ensures.behind ∙ ap (λ x. old.at + 4 * length x) w.state_tests.ensures in
          let p : w.put_all-at.new.area ≡ put_at old.area old.at (block_bytes (state_tests f q _ (old.behind - 7))) =
          (rw w.state_tests.ensures at w.put_all-at.ensures.area) ∙ ap (λ n. put_at old.area old.at (block_bytes (state_tests f q n (old.behind - 7)))) (sym t.0) in (
            omega (arith, w.behind-is),
            omega (arith, w.behind-is, w.at-is),
            rw (w.behind-is, w.at-is, w.area-is, b)
                (with_next ns f q old.at old.behind (old.behind - 7) c.args.area.now old.area w.put_all-at.new.area
                c.loop-state-test.true t.1 (omega (arith, k, c.requires)) (omega arith) p old.invariant.2 (omega arith)),
          )
      | in_default w ↦ (
        omega (arith, w.behind-is),
        omega (arith, w.behind-is, w.at-is),
        rw (w.behind-is, w.at-is, w.area-is)
            (without ns f q old.at old.behind c.args.area.now old.area c.loop-state-test.true (none_told _ w.in_default.ensures) old.invariant.2),
      )
    ]

pub returns : goal.returns
returns c =
    let ns = c.args.self.now.nexts.now in
    let l = c.loop-state in
    let k = states_size c.args.cell 0 ns in
    let e = size_end ns l.state c.loop-state-test.false in
    finish ns c.args.cell l.state l.at l.behind c.args.area.now l.area c.put.new.area c.loop-state-test.false
    (c.put.ensures.room (omega (arith, k, e, l.invariant.2.count, c.requires))) (omega (arith, k, c.requires)) l.invariant.2

use Rattle.std.proofs.Common.{◌≡◌, ◌+◌, ◌-◌, ◌<◌, ◌∙◌, map, get_or, Some, sym, ap, arith}
use Rattle.std.specs.Option.{option_map}
use Rattle.model.specs.Words.{find, table}
use Rattle.opcodes.specs.Table.{row, listed, ranges, no_row}
use Rattle.opcodes.proofs.Opcodes.{rule_low, rule_high, rule_none, row_in}
use Rattle.opcodes.proofs.table.look_up.Goals as goal
use Rattle.opcodes.proofs.table.look_up.Goals.{in-1-to-14, in-32-to-41}

pub returns-in_default : goal.returns-in_default
returns-in_default c = sym (rule_none c.args.op (omega arith) (λ a b. omega arith) (λ a b. omega arith))

pub returns-in_default-2 : goal.returns-in_default-2
returns-in_default-2 c = sym (rule_none c.args.op (omega arith) (λ a b. omega arith) (λ a b. omega arith))

pub returns-in_default-3 : goal.returns-in_default-3
returns-in_default-3 c = sym (rule_none c.args.op (omega arith) (λ a b. omega arith) (λ a b. omega arith))

pub returns : goal.returns
returns c =
    let i = c.from.result in
    let p : (i < 24) × (option_map ranges (find c.args.op table) ≡ Some (get_or (map ranges table) i no_row)) =
    elim c.if-op-lt15.branch [
      | in-1-to-14 w ↦ (omega arith, let e : i ≡ c.args.op - 1 = omega arith in rw e (rule_low c.args.op (omega arith) (omega arith)))
      | in-32-to-41 w ↦ (omega arith, let e : i ≡ c.args.op - 32 + 14 = omega arith in rw e (rule_high c.args.op (omega arith) (omega arith)))
    ] in
    ap Some (row_in (λ r. row (listed r)) c.rows.result.now i _ p.0 c.rows.ensures) ∙ sym p.1

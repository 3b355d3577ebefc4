use Rattle.std.proofs.Common.{◌+◌, ◌-◌, length, take, drop, Ok, sym, ap, ◌∙◌}
use Rattle.std.proofs.lemmas.List.{take_rest}
use Rattle.rules.specs.Reader.{bad_expr, updating}
use Rattle.rules.proofs.Reading.{update_bad, update_good}
use Rattle.rules.proofs.reader.update.Goals as goal

pub returns-then-not-updating : goal.returns-then-not-updating
returns-then-not-updating c =
    sym (update_bad c.args.scope.cells c.args.scope.arguments c.args.at (drop (c.args.at + 3) c.args.holder.now)
    (ap (updating c.args.scope.cells) (sym (take_rest c.args.holder.now (c.args.at + 3))) ∙ sym c.if-not-updating.ensures))

pub returns : goal.returns
returns c =
    let n = c.args.scope.cells in
    let a = c.args.scope.arguments in
    let h = c.args.holder.now in
    let t = take_rest h (c.args.at + 3) in
    ap Ok (c.fault.ensures ∙ ap (bad_expr n a c.args.at) (take_rest (take (length h - (c.args.at + 3)) (drop (c.args.at + 3) h)) 1 ∙ ap (drop 1) t))
    ∙ sym (update_good n a c.args.at (drop (c.args.at + 3) c.args.holder.now) (ap (updating n) (sym t) ∙ sym c.if-not-updating.ensures))

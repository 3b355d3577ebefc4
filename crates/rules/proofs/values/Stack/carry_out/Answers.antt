use Rattle.std.proofs.Common.{◌∙◌, ap₂, arith, w32, SFits, rules}
use Rattle.std.proofs.lemmas.Int.{to_z-of_z}
use Rattle.model.specs.Policy.{operate}
use Rattle.rules.proofs.Stack.{length_held, pushed_over}
use Rattle.rules.proofs.values.Stack.carry_out.Goals as goal

pub returns-in_ok-a-in-Operator : goal.returns-in_ok-a-in-Operator
returns-in_ok-a-in-Operator c =
    let s = c.args.self.now in
    let f = s.few in
    let l = length_held s.values s.depth in
    let g : SFits w32 c.apply.result = search rules in
    let x : SFits w32 c.in_ok-a-in-Operator.a = search rules in
    let y : SFits w32 c.in_ok-b-in-Operator.b = search rules in
    rw c.in-Operator.is
    (λ r. pushed_over c.in-Operator.o _ _ _ _ _ _ _ _ c.in_ok-b-in-Operator.ensures c.in_ok-a-in-Operator.ensures (to_z-of_z w32 c.apply.result g ∙ c.apply.ensures ∙ ap₂ (operate c.in-Operator.o) (to_z-of_z w32 _ x) (to_z-of_z w32 _ y)) (omega arith)
    c.push-in-Operator.ensures)

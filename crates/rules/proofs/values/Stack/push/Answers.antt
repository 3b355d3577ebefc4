use Rattle.std.proofs.Common.{◌≡◌, length, refl, arith, w32, rules}
use Rattle.std.proofs.lemmas.Int.{to_z-of_z}
use Rattle.rules.proofs.Stack.{held_more}
use Rattle.rules.proofs.values.Stack.push.Goals as goal

pub returns : goal.returns
returns c =
    let s = c.args.self.now in
    let f = s.few in
    let l : length s.values ≡ 8 = search rules in
    rw (to_z-of_z w32 c.args.v c.ranges.v) (held_more s.values s.depth _ c.args.v refl (let n = c.if-self-eq8.false in omega arith))

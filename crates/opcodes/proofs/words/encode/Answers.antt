use Rattle.std.proofs.Common.{◌≡◌, [], ◌∷◌, get_or, ap, ◌∙◌, rules}
use Rattle.model.specs.Words.{quad_at, flat, encode, decode}
use Rattle.model.proofs.Words.{encoded}
use Rattle.opcodes.proofs.words.encode.Goals as goal

pub returns : goal.returns
returns c =
    let w = c.of-w.result in
    let y = c.to_be_bytes.result in
    let e : w.op ∷ w.x ∷ get_or y 0 0 ∷ get_or y 1 0 ∷ [] ≡ flat (encode c.args.i ∷ []) = search rules in
    record { value = e; back = λ n r. ap (λ bs. decode n (quad_at bs 0)) e ∙ encoded n c.args.i r }

use Rattle.std.proofs.Common.{ℕ, ◌+◌, List, [], ◌∷◌, ◌++◌, map, get_or, ap, subst, arith}
use Rattle.model.specs.declared.Instr.{Instr}
use Rattle.model.specs.declared.Own.{Own}
use Rattle.model.specs.declared.Test.{Test}
use Rattle.model.specs.declared.Moment.{Moment}
use Rattle.model.specs.Reading.{write_code}
use Rattle.policy.proofs.Writes.{bytes_length}
use Rattle.weaver.specs.Pens.{Wrote}
use Rattle.weaver.proofs.Bytes.{code_more}
use Rattle.weaver.proofs.SiteBytes.{site_is}
use Rattle.weaver.proofs.weaving.Weaving.put_site.Goals as goal

pub returns : goal.returns
returns g c =
    let k = c.args.call in
    let block : ℕ → Moment → List Test = λ k t. g.P.Policy.blocks c.args.self.now.policy.now k t 0 in
    let tests : Moment → List Instr = λ t. map Instr.Test (block k t) in
    let short = c.args.self.now.limited.blocks k in
    let b = short Moment.Before c.requires.call in
    let a = short Moment.After c.requires.call in
    let r = short Moment.Raised c.requires.call in
    let l = c.block_lens.ensures in
    let lb = bytes_length (block k Moment.Before) in
    let la = bytes_length (block k Moment.After) in
    let lr = bytes_length (block k Moment.Raised) in
    let room = c.requires.room in
    let x1 = c.put_instr.ensures in
    let x2 = c.put_block.ensures in
    let x3 = c.put_instr-2.ensures in
    let x4 = c.put_block-2.ensures in
    let x5 = c.put_instr-3.ensures in
    let x6 = c.put_instr-4.ensures in
    let x7 = c.put_block-3.ensures in
    let x8 = c.put_instr-5.ensures in
    let at = c.args.index + get_or c.block_lens.result 0 0 + get_or c.block_lens.result 1 0 + 4 in
    let past = get_or c.block_lens.result 2 0 + 2 in
    let c1 : List Instr = Instr.Lock k ∷ [] in
    let c2 : List Instr = c1 ++ tests Moment.Before in
    let c3 : List Instr = c2 ++ (Instr.Own (Own.Host k at) ∷ []) in
    let c4 : List Instr = c3 ++ tests Moment.After in
    let c5 : List Instr = c4 ++ (Instr.Unlock ∷ []) in
    let c6 : List Instr = c5 ++ (Instr.Test (Test.Skip past) ∷ []) in
    let c7 : List Instr = c6 ++ tests Moment.Raised in
    let c8 : List Instr = c7 ++ (Instr.Unlock ∷ []) in
    let w2 = code_more c1 _ x1 x2 (omega arith) in
    let w3 = code_more c2 (Instr.Own (Own.Host k at) ∷ []) w2 x3 (omega arith) in
    let w4 = code_more c3 (tests Moment.After) w3 x4 (omega arith) in
    let w5 = code_more c4 (Instr.Unlock ∷ []) w4 x5 (omega arith) in
    let w6 = code_more c5 (Instr.Test (Test.Skip past) ∷ []) w5 x6 (omega arith) in
    let w7 = code_more c6 (tests Moment.Raised) w6 x7 (omega arith) in
    let w8 = code_more c7 (Instr.Unlock ∷ []) w7 x8 (omega arith) in
    let w9 = code_more c8 (Instr.Own (Own.Jump c.args.raised) ∷ []) w8 c.put_instr-6.ensures (omega arith) in
    let s = site_is block c.args.index k c.args.raised at past
    (let p = ap (λ (ls : List ℕ). get_or ls 0 0) l in let q = ap (λ (ls : List ℕ). get_or ls 1 0) l in omega arith)
    (let p = ap (λ (ls : List ℕ). get_or ls 2 0) l in omega arith) in
    subst (λ d. Wrote c.args.pen.now (write_code d) c.put_instr-6.new.self) s w9

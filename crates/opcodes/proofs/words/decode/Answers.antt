use Rattle.std.proofs.Common.{◌≡◌, ℕ, ◌<◌, IfSome, Some, None, Option, sym, ap, ◌∙◌, arith}
use Rattle.model.specs.declared.Instr.{Instr}
use Rattle.model.specs.Words.{Quad, word, quad_at, encode, decode}
use Rattle.model.proofs.Words.{decoded}
use Rattle.opcodes.specs.Table.{row, row_fits}
use Rattle.opcodes.proofs.Decoding.{decode_none, decode_outside, decode_inside}
use Rattle.opcodes.proofs.words.decode.Goals as goal
use Rattle.opcodes.proofs.words.decode.Goals.{After-fits}

-- what was read has these bytes
back : (n : ℕ) (q : Quad) (o : Option Instr) → q.d < 256 → o ≡ decode n q → IfSome o (λ i. encode i ≡ q)
back n q None h e = tt
back n q (Some i) h e = (decoded n q i (sym e)).0 h

-- whether the operands fit, by the bytes
fitting : (c : After-fits) → row_fits c.args.methods (row c.in_ok-look_up.field-0) (quad_at c.args.bytes 0).b (word (quad_at c.args.bytes 0).c (quad_at c.args.bytes 0).d) ≡ c.fits.result
fitting c =
    let q = quad_at c.args.bytes 0 in
    let y : word q.c q.d ≡ c.from_be_bytes.result = omega arith in
    ap (row_fits c.args.methods (row c.in_ok-look_up.field-0) q.b) y ∙ sym c.fits.ensures

pub returns-in_err-look_up-clause-value : goal.returns-in_err-look_up-clause-value
returns-in_err-look_up-clause-value c = c.from_residual.ensures ∙ decode_none c.args.methods (quad_at c.args.bytes 0) c.in_err-look_up.ensures

pub returns-then-not-fits-clause-value : goal.returns-then-not-fits-clause-value
returns-then-not-fits-clause-value c =
    decode_outside c.args.methods (quad_at c.args.bytes 0) (row c.in_ok-look_up.field-0) c.in_ok-look_up.ensures
    (fitting (goal.at.returns-then-not-fits-clause-value c).After-fits ∙ c.if-not-fits.true)

pub returns : goal.returns
returns c =
    let q = quad_at c.args.bytes 0 in
    let v : c.build.result ≡ decode c.args.methods q =
    c.build.ensures ∙
    decode_inside c.args.methods q (row c.in_ok-look_up.field-0) (omega arith) c.in_ok-look_up.ensures
    (fitting (goal.at.returns c).After-fits ∙ c.if-not-fits.false) in
    record { value = v; back = back c.args.methods q c.build.result (omega arith) v }

use Rattle.std.proofs.Common.{◌≡◌, ℕ, length, ap, ◌∙◌}
use lib.ListN.{length-map}
use Rattle.model.specs.Words.{quad_at, decode}
use Rattle.applet.specs.Applets.{places_of, code_in, or_end}
use Rattle.machine.proofs.Fetching.{quad_some, quad_none, valid_low}
use Rattle.machine.proofs.code.fetch.Goals as goal

pub returns-in_err-bytes-clause-value : goal.returns-in_err-bytes-clause-value
returns-in_err-bytes-clause-value c =
    let a = c.args.applet.now in
    let ps = places_of a in
    rw c.from_residual.ensures (quad_none a.file.now ps (length ps) c.args.at.method c.args.at.index c.in_err-bytes.ensures.value)

pub returns : goal.returns
returns c =
    let a = c.args.applet.now in
    let f = a.file.now in
    let ps = places_of a in
    let s = c.args.at in
    let b = c.in_ok-bytes.bytes in
    let n : c.methods.result ≡ length ps = c.methods.ensures ∙ length-map ps (code_in f (length ps)) in
    record {
      value =
          ap or_end c.decode.ensures.value
          ∙ ap (λ (k : ℕ). or_end (decode k (quad_at b 0))) n
          ∙ quad_some f ps (length ps) s.method s.index b c.in_ok-bytes.ensures.value;
      valid = valid_low c.methods.result s.index (quad_at b 0) c.decode.result c.decode.ensures.value c.in_ok-bytes.ensures.low;
    }

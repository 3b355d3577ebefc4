use Rattle.std.proofs.Common.{take, drop, Some, ap, ◌∙◌, ap₂, arith}
use Rattle.std.proofs.lemmas.Grind.{common_steps}
use Rattle.std.proofs.lemmas.List.{drop-drop}
use Rattle.rules.proofs.Shown.{size_of, size_by, parts_of, no_front}
use Rattle.rules.proofs.views.split.Goals as goal

pub returns-in_err-high : goal.returns-in_err-high
returns-in_err-high c = record { parts = λ tag d z l e. absurd (no_front c.args.bytes.now c.in_err-high.ensures.cases tag d z e); less = grind (arith, common_steps) }

pub returns-in_err-contents : goal.returns-in_err-contents
returns-in_err-contents c =
    let h = c.in_ok-high.ensures.cases in
    let k = c.in_err-contents.ensures.cases in
    let m = c.from.ensures in
    let n = size_by c.args.bytes.now _ c.from_be_bytes-size.result h.0 c.from_be_bytes-size.ensures in
    let h2 = h.2 in
    record { parts = λ tag d z l e. absurd (let s = size_of c.args.bytes.now tag d z e in omega arith); less = grind (arith, common_steps) }

pub returns : goal.returns
returns c =
    let b = c.args.bytes.now in
    let h = c.in_ok-high.ensures.cases in
    let k = c.in_ok-contents.ensures.cases in
    let m = c.from.ensures in
    let n = size_by b _ c.from_be_bytes-size.result h.0 c.from_be_bytes-size.ensures in
    let h2 = h.2 in
    let k3 = k.3 in
    let k4 = k.4 in
    record {
      parts = λ tag d z l e.
          let s = size_of b tag d z e in
          let p = parts_of b tag d z c.from.result e (omega arith) in
          ap₂ (λ x y. Some (x, y)) (k.1 ∙ ap (take c.from.result) h.1 ∙ p.0) (k.2 ∙ ap (drop c.from.result) h.1 ∙ drop-drop c.from.result 3 b ∙ p.1);
      less = omega arith;
    }

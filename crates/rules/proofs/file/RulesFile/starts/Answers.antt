use Rattle.std.proofs.Common.{◌≡◌, ◌+◌, ◌-◌, ◌*◌, map, length, take, drop, ap, ◌∙◌, arith, length-drop, length-take}
use Rattle.model.specs.Words.{quads, signed_of}
use Rattle.model.specs.Rules.{rules_in}
use Rattle.model.proofs.RuleFiles.{rules_laid}
use Rattle.rules.proofs.file.RulesFile.starts.Goals as goal

pub slice_bounds-result-end : goal.slice_bounds-result-end
slice_bounds-result-end c = let l = (rules_laid c.args.self.now.bytes.now c.args.self.now.reads).long in let v = c.width.ensures.value in omega arith

pub returns : goal.returns
returns c =
    let f = c.args.self.now.bytes.now in
    let l = rules_laid f c.args.self.now.reads in
    let g = l.long in
    let v = c.width.ensures.value in
    let e : 8 + 4 * c.from-n.result - 8 ≡ 4 * length (rules_in f).starts = omega arith in
    record { value = ap (λ k. map signed_of (quads (take k (drop 8 f)))) e ∙ l.starts; size = simp (length-take, length-drop) (omega arith) }

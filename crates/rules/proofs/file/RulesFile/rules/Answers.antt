use Rattle.std.proofs.Common.{◌≡◌, ℕ, ◌+◌, ◌*◌, ◌<◌, length, drop, ap, ◌∙◌, arith, length-drop}
use Rattle.std.proofs.lemmas.List.{take_rest}
use Rattle.std.proofs.ByRecursion.{All-from_get_or}
use Rattle.model.specs.Rules.{rules_in}
use Rattle.model.proofs.RuleFiles.{rules_laid, rules_valid_in}
use Rattle.rules.proofs.file.RulesFile.rules.Goals as goal

pub slice_bounds-result-count : goal.slice_bounds-result-count
slice_bounds-result-count c = let l = (rules_laid c.args.self.now.bytes.now c.args.self.now.reads).long in let v = c.width.ensures.value in omega arith

pub slice_bounds-result-start : goal.slice_bounds-result-start
slice_bounds-result-start c = let l = (rules_laid c.args.self.now.bytes.now c.args.self.now.reads).long in let v = c.width.ensures.value in omega arith

pub returns : goal.returns
returns c =
    let f = c.args.self.now.bytes.now in
    let l = rules_laid f c.args.self.now.reads in
    let g = l.long in
    let e : 8 + 4 * c.from-n.result ≡ 8 + 4 * length (rules_in f).starts = ap (λ (k : ℕ). 8 + 4 * k) (c.from-n.ensures ∙ c.width.ensures.value) in
    let d = take_rest f (8 + 4 * c.from-n.result) ∙ ap (λ k. drop k f) e in
    let s = ap length d ∙ length-drop (8 + 4 * length (rules_in f).starts) f in
    record {
      value = (d ∙ l.rules (All-from_get_or (λ b. b < 256) f 0 c.args.self.now.fits), (rules_valid_in f c.args.self.now.reads).rules);
      size = omega arith;
    }

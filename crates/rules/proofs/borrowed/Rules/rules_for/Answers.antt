use Rattle.std.proofs.Common.{◌<◌, [], length, sym, refl, arith}
use Rattle.std.proofs.ByRecursion.{All-from_get_or}
use Rattle.model.specs.Rules.{rules_in}
use Rattle.model.proofs.RuleFiles.{rules_valid_in}
use Rattle.rules.proofs.Indexing.{InSpan, none_past, file_span}
use Rattle.rules.proofs.borrowed.Rules.rules_for.Goals as goal
use Rattle.rules.proofs.borrowed.Rules.rules_for.Goals.{After-from-2}

pub returns-then-call-gt63 : goal.returns-then-call-gt63
returns-then-call-gt63 c =
    let f = c.args.self.now.file.bytes.now in
    ([], (refl, tt), sym (none_past (length (rules_in f).starts) (rules_in f).rules c.args.call c.args.moment (rules_valid_in f c.args.self.now.file.reads).rules c.if-call-gt63.true))

-- what stands in the span
stands : (c : After-from-2) → InSpan (length (rules_in c.args.self.now.file.bytes.now).starts) c.args.self.now.file.bytes.now c.args.call c.args.moment
    (rules_in c.args.self.now.file.bytes.now).rules c.from.result c.from-2.result
stands c =
    let s = c.args.self.now in
    let f = s.file.bytes.now in
    let l : c.args.call < 64 = (let g = c.if-call-gt63.false in omega arith) in
    file_span f s.file.reads (All-from_get_or (λ b. b < 256) f 0 s.file.fits) s.index c.args.call c.args.moment _ _ _ s.firsts s.lasts l c.span-span.ensures c.from.ensures c.from-2.ensures

pub slice_bounds-result-count : goal.slice_bounds-result-count
slice_bounds-result-count c = (stands (goal.at.slice_bounds-result-count c).After-from-2).order

pub slice_bounds-result-start : goal.slice_bounds-result-start
slice_bounds-result-start c = (stands (goal.at.slice_bounds-result-start c).After-from-2).order

pub slice_bounds-result-end-2 : goal.slice_bounds-result-end-2
slice_bounds-result-end-2 c = (stands (goal.at.slice_bounds-result-end-2 c).After-from-2).inside

pub returns : goal.returns
returns c = (stands (goal.at.returns c).After-from-2).written

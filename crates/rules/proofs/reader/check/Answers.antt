use Rattle.std.proofs.Common.{◌≡◌, ◌<◌, List, drop, Ok, sym, ap, ◌∙◌}
use Rattle.std.proofs.lemmas.List.{take_rest}
use Rattle.std.proofs.lemmas.Result.{err_from_is_err_and}
use Rattle.std.proofs.ByRecursion.{All-from_get_or, All-drop}
use Rattle.rules.proofs.Checking.{read_as, opening_read, opening_refused, opened_within, rules_refused, rules_bad, rules_good, left_refused, left_long, left_good}
use Rattle.model.specs.Rules.{Rule}
use Rattle.rules.specs.Reader.{rules_from}
use Rattle.rules.specs.Views.{Written}
use Rattle.rules.proofs.reader.check.Goals as goal
use Rattle.rules.proofs.reader.check.Goals.{In_default}

pub returns-in_err-o : goal.returns-in_err-o
returns-in_err-o c =
    let p = err_from_is_err_and c.from_residual.result c.from_residual.ensures.1 in
    rw (p.1, p.2) (sym (read_as c.args.file.now ∙ opening_refused c.args.file.now c.in_err-o.field-0.0 _ (sym c.in_err-o.ensures)))

pub returns-in_err-bad : goal.returns-in_err-bad
returns-in_err-bad c =
    let p = err_from_is_err_and c.from_residual-in_err-bad.result c.from_residual-in_err-bad.ensures.1 in
    let o = c.in_ok-o.o in
    rw (p.1, p.2)
    (sym (read_as c.args.file.now ∙ opening_read c.args.file.now o _ (sym c.in_ok-o.ensures) ∙ left_refused c.args.file.now o c.in_err-bad.field-0.0
    (rules_refused o.cells o.rules (drop o.rules c.args.file.now) c.in_err-bad.field-0.0 c.in_err-bad.ensures)))

pub returns-in-Some : goal.returns-in-Some
returns-in-Some c =
    let o = c.in_ok-o.o in
    sym (read_as c.args.file.now ∙ opening_read c.args.file.now o _ (sym c.in_ok-o.ensures) ∙ left_refused c.args.file.now o _
    (rules_bad o.cells o.rules (drop o.rules c.args.file.now) c.in-Some.p (ap Ok (sym c.in-Some.is) ∙ c.in_ok-bad.ensures)))

pub slice_bounds-short_blocks-count : goal.slice_bounds-short_blocks-count
slice_bounds-short_blocks-count c = opened_within c.args.file.now c.in_ok-o.o (sym c.in_ok-o.ensures)

pub slice_bounds-short_blocks-start : goal.slice_bounds-short_blocks-start
slice_bounds-short_blocks-start c = opened_within c.args.file.now c.in_ok-o.o (sym c.in_ok-o.ensures)

-- the rules that are there
there : (c : In_default) → (rs : List Rule) × (rules_from c.in_ok-o.o.cells c.in_ok-o.o.rules (drop c.in_ok-o.o.rules c.args.file.now) ≡ Ok rs)
    × Written c.in_ok-o.o.cells (drop c.in_ok-o.o.rules c.args.file.now) rs
there c =
    let o = c.in_ok-o.o in
    rules_good o.cells o.rules (drop o.rules c.args.file.now)
    (All-drop (λ b. b < 256) o.rules c.args.file.now (All-from_get_or (λ b. b < 256) c.args.file.now 0 (λ i l. (c.type_inv.file i).fits)))
    (ap Ok (sym c.in_default.is) ∙ c.in_ok-bad.ensures)

pub returns-then-not-short_blocks : goal.returns-then-not-short_blocks
returns-then-not-short_blocks c =
    let o = c.in_ok-o.o in
    let w = there (goal.at.returns-then-not-short_blocks c).In_default in
    let t = c.if-not-short_blocks.ensures o.cells w.0 (take_rest c.args.file.now o.rules ∙ w.2.0, w.2.1) in
    sym (read_as c.args.file.now ∙ opening_read c.args.file.now o _ (sym c.in_ok-o.ensures) ∙ left_long c.args.file.now o w.0 w.1 (sym t))

pub returns : goal.returns
returns c =
    let o = c.in_ok-o.o in
    let w = there (goal.at.returns c).In_default in
    let t = c.if-not-short_blocks.ensures o.cells w.0 (take_rest c.args.file.now o.rules ∙ w.2.0, w.2.1) in
    sym (read_as c.args.file.now ∙ opening_read c.args.file.now o _ (sym c.in_ok-o.ensures) ∙ left_good c.args.file.now o w.0 w.1 (sym t))

use Rattle.std.proofs.Common.{◌≡◌, length, Ok, Err, sym, ap, ◌∙◌, subst, ap₂, arith}
use Rattle.std.proofs.lemmas.Result.{err_from_is_err_and}
use Rattle.model.specs.Calls.{told_width, block_bytes}
use Rattle.model.specs.Rules.{rules_in, rules_automaton, rules_block, block_of}
use Rattle.model.proofs.RuleFiles.{rules_shown}
use Rattle.policy.specs.Calls.{may_write, put_at}
use Rattle.policy.proofs.Asked.{block_refused, block_allowed}
use Rattle.policy.proofs.Writes.{put_front}
use Rattle.rules.specs.Views.{Written}
use Rattle.rules.specs.Writer.{Cells, Fitting}
use Rattle.rules.proofs.borrowed.RulesPolicy.write_block.Goals as goal

pub returns-in_err-may_write : goal.returns-in_err-may_write
returns-in_err-may_write c =
    let p = err_from_is_err_and c.from_residual.result c.from_residual.ensures.1 in
    let f = c.args.self.now.file.bytes.now in
    let A = rules_automaton (rules_in f) in
    let v = c.width-width.ensures.value in
    let w : c.width-width.result ≡ told_width A = (let u = c.width-width.ensures.few in omega arith) in
    let h = block_refused A (rules_block (rules_in f)) (rules_shown f c.args.self.now.file.reads) c.args.call c.args.moment c.args.first c.args.area.now
    c.in_err-may_write.field-0.0
    (c.in_err-may_write.ensures ∙ ap₂ (λ n l. may_write c.args.call n c.args.first l (length c.args.area.now)) w c.block_len-n.ensures) in
    record { answer = p.1 ∙ ap Err p.2 ∙ h.0; area = h.1 }

pub returns : goal.returns
returns c =
    let f = c.args.self.now.file.bytes.now in
    let q = rules_in f in
    let A = rules_automaton q in
    let v = c.width-width.ensures.value in
    let w : c.width-width.result ≡ told_width A = (let u = c.width-width.ensures.few in omega arith) in
    let h = block_allowed A (rules_block q) (rules_shown f c.args.self.now.file.reads) c.args.call c.args.moment c.args.first c.args.area.now
    (c.in_ok-may_write.ensures ∙ ap₂ (λ n l. may_write c.args.call n c.args.first l (length c.args.area.now)) w c.block_len-n.ensures) in
    let cs : Cells c.width-width.result c.args.first = (λ i l. let k = h.wide (λ z. omega arith) in omega arith) in
    let r = c.rules_for-rules.ensures in
    let wr = subst (λ n. Written n c.rules_for-rules.result.now r.0) (sym v) r.1 in
    let fit = subst (λ R. Fitting c.args.area.now (block_of c.args.first R)) (sym r.2) (h.short, h.room) in
    record {
      answer = ap Ok (c.from.ensures ∙ c.block_len-n.ensures ∙ h.told) ∙ h.answer;
      area = c.write_rules.ensures r.0 wr cs fit ∙ ap (λ R. put_at c.args.area.now 0 (block_bytes (block_of c.args.first R))) r.2 ∙ put_front c.args.area.now _ ∙ h.after;
    }

use Rattle.std.proofs.Common.{Ok, ap, ◌∙◌}
use Rattle.model.specs.Areas.{over_area}
use Rattle.model.specs.Calls.{block_bytes}
use Rattle.model.specs.Tables.{table_in, table_automaton, table_block, row_block}
use Rattle.model.proofs.TableFiles.{table_shown}
use Rattle.policy.proofs.Writes.{put_front}
use Rattle.policy.proofs.Asked.{passed, block_refused, block_allowed}
use Rattle.tables.proofs.table.TablePolicy.write_block.Goals as goal
use Rattle.tables.proofs.table.TablePolicy.write_block.Goals.{in-Some, in_default}

pub returns-in_err-may_write : goal.returns-in_err-may_write
returns-in_err-may_write c =
    let f = c.args.self.now.file.now in
    let h = block_refused (table_automaton (table_in f)) (table_block (table_in f)) (table_shown f c.args.self.now.ok) c.args.call c.args.moment c.args.first
    c.args.area.now c.in_err-may_write.field-0.0 (rw c.block_len-n.ensures at c.in_err-may_write.ensures) in
    record { answer = passed _ c.from_residual.ensures.1 ∙ h.0; area = h.1 }

pub put_block-requires : goal.put_block-requires
put_block-requires c =
    let f = c.args.self.now.file.now in
    let h = block_allowed (table_automaton (table_in f)) (table_block (table_in f)) (table_shown f c.args.self.now.ok) c.args.call c.args.moment c.args.first
    c.args.area.now (rw c.block_len-n.ensures at c.in_ok-may_write.ensures) in
    let b = ap (row_block c.args.first) c.in-Some.ensures in
    rw b h.room

pub returns : goal.returns
returns c =
    let f = c.args.self.now.file.now in
    let h = block_allowed (table_automaton (table_in f)) (table_block (table_in f)) (table_shown f c.args.self.now.ok) c.args.call c.args.moment c.args.first
    c.args.area.now (rw c.block_len-n.ensures at c.in_ok-may_write.ensures) in
    record {
      answer = ap Ok (c.from.ensures ∙ c.block_len-n.ensures ∙ h.told) ∙ h.answer;
      area = elim c.match-row.branch [
        | in-Some w ↦ w.area-is ∙ w.put_block.ensures ∙ put_front c.args.area.now _ ∙
            ap (λ b. over_area (block_bytes (row_block c.args.first b)) c.args.area.now) w.in-Some.ensures ∙ h.after
        | in_default w ↦ w.area-is ∙ ap (λ b. over_area (block_bytes (row_block c.args.first b)) c.args.area.now) w.in_default.ensures ∙ h.after
      ];
    }

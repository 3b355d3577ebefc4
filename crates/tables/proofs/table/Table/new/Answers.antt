use Rattle.std.proofs.Common.{Err, sym, refl, ap, ◌∙◌}
use Rattle.model.specs.Tables.{reads_table, table_in}
use Rattle.model.proofs.TableFiles.{refused_if, refusing_reads, refusing_in, refuses_calls}
use Rattle.tables.proofs.table.Table.new.Goals as goal

pub invariant_of-result : goal.invariant_of-result
invariant_of-result c = record { ok = ap reads_table c.refusing_file.ensures ∙ refusing_reads }

pub returns-in-Ok-clause-refusing : goal.returns-in-Ok-clause-refusing
returns-in-Ok-clause-refusing c = refuses_calls

pub returns-in-Err-clause-value : goal.returns-in-Err-clause-value
returns-in-Err-clause-value c =
    ap table_in c.refusing_file.ensures ∙ refusing_in ∙ sym (refused_if c.args.file.now (Err c.in-Err.field-0) (sym c.in-Err.ensures.refused) refl)

pub returns-in-Err-clause-refusing : goal.returns-in-Err-clause-refusing
returns-in-Err-clause-refusing c = refuses_calls

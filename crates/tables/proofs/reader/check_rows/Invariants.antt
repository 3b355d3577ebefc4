use Rattle.std.proofs.Common.{◌≡◌, ◌-◌, ◌≤◌}
use Rattle.std.specs.Iterator.Adapters.{enumerate_source, enumerate_count}
use Rattle.tables.specs.Reading.{rows_answer}
use Rattle.tables.proofs.reader.check_rows.Given as goal

abbrev pub invariant-loop-i : goal.invariant-loop-i
invariant-loop-i l =
    let it = enumerate_source l.i-iterator in
    let k = enumerate_count l.i-iterator in
    record {
      few : k ≤ 64;
      held : it.holder.now ≡ l.file;
      row : it.tag ≡ 98;
      same : rows_answer (64 - k) l.states it.at l.file ≡ rows_answer 64 l.states 6 l.file;
    }

use Rattle.std.proofs.Common.{◌+◌, ◌*◌, length, take, Err, inl, sym, ap, ap₂, ◌∙◌, arith}
use Rattle.std.proofs.lemmas.List.{length_push}
use Rattle.std.specs.Iterator.Adapters.{enumerate_source, enumerate_count}
use Rattle.std.specs.List.{list_any}
use Rattle.model.specs.declared.Refusal.TheVariants.{SecondRow}
use Rattle.model.specs.Tables.{row_for}
use Rattle.tables.specs.Rows.{shown, rows_of, rows_left}
use Rattle.tables.proofs.TableReading.{numbered_turn, numbered_end, rows_few, row_room, apart_end, apart_more, apart_second}
use Rattle.tables.proofs.reader.check_apart.Goals as goal

pub loop-i-init-derived : goal.loop-i-init-derived
loop-i-init-derived c =
    let e = ap enumerate_source c.into_iter-i-iterator.ensures.into_iter_gives ∙ c.enumerate-i-items.ensures.source in
    let z = ap enumerate_count c.into_iter-i-iterator.ensures.into_iter_gives ∙ c.enumerate-i-items.ensures.count in
    ((tt, tt, inl (omega (arith, z, ap length (ap rows_left e ∙ c.new.ensures), rows_few c.args.states c.args.file.now))), tt)

pub overflow_mul-result : goal.overflow_mul-result
overflow_mul-result c =
    let e = ap rows_left (ap enumerate_source c.into_iter-i-iterator.ensures.into_iter_gives ∙ c.enumerate-i-items.ensures.source) ∙ c.new.ensures in
    let z = ap enumerate_count c.into_iter-i-iterator.ensures.into_iter_gives ∙ c.enumerate-i-items.ensures.count in
    let t = numbered_turn c.into_iter-i-iterator.result (rows_of c.args.states c.args.file.now) e z c.loop-i.yielded _ c.loop-i.yielded_by c.next.result c.next.new.self c.in-Some.i c.in-Some.row
    c.in-Some.is c.next.ensures.steps in
    let r = row_room c.args.states (length c.loop-i.yielded) c.args.file.now c.requires.head t.0 in
    record { fits = omega (arith, ap₂ (λ m i. (5 + m) * i) c.from.ensures t.1) }

pub overflow_add-result-then-is_taken : goal.overflow_add-result-then-is_taken
overflow_add-result-then-is_taken c =
    let e = ap rows_left (ap enumerate_source c.into_iter-i-iterator.ensures.into_iter_gives ∙ c.enumerate-i-items.ensures.source) ∙ c.new.ensures in
    let z = ap enumerate_count c.into_iter-i-iterator.ensures.into_iter_gives ∙ c.enumerate-i-items.ensures.count in
    let t = numbered_turn c.into_iter-i-iterator.result (rows_of c.args.states c.args.file.now) e z c.loop-i.yielded _ c.loop-i.yielded_by c.next.result c.next.new.self c.in-Some.i c.in-Some.row
    c.in-Some.is c.next.ensures.steps in
    let r = row_room c.args.states (length c.loop-i.yielded) c.args.file.now c.requires.head t.0 in
    record { fits = omega (arith, ap₂ (λ m i. (5 + m) * i) c.from.ensures t.1) }

pub returns-then-is_taken : goal.returns-then-is_taken
returns-then-is_taken c =
    let rows = rows_of c.args.states c.args.file.now in
    let e = ap rows_left (ap enumerate_source c.into_iter-i-iterator.ensures.into_iter_gives ∙ c.enumerate-i-items.ensures.source) ∙ c.new.ensures in
    let z = ap enumerate_count c.into_iter-i-iterator.ensures.into_iter_gives ∙ c.enumerate-i-items.ensures.count in
    let t = numbered_turn c.into_iter-i-iterator.result rows e z c.loop-i.yielded _ c.loop-i.yielded_by c.next.result c.next.new.self c.in-Some.i c.in-Some.row c.in-Some.is c.next.ensures.steps in
    let y = c.if-is_taken.ensures ∙ ap (λ m. list_any (row_for c.in-Some.row.call m) (take c.in-Some.i (rows_left c.new-in-loop-i.result))) c.moment.ensures ∙ ap₂ (λ i rs. list_any (row_for c.in-Some.row.call (shown c.in-Some.row).moment) (take i rs)) t.1 c.new-in-loop-i.ensures in
    ap₂ (λ m i. Err (SecondRow (6 + (5 + m) * i))) c.from.ensures t.1 ∙
    apart_second c.args.states (length c.loop-i.yielded) rows (shown c.in-Some.row) t.0 t.2 y ∙ c.loop-i.invariant

pub loop-i-preserved : goal.loop-i-preserved
loop-i-preserved c =
    let rows = rows_of c.args.states c.args.file.now in
    let e = ap rows_left (ap enumerate_source c.into_iter-i-iterator.ensures.into_iter_gives ∙ c.enumerate-i-items.ensures.source) ∙ c.new.ensures in
    let z = ap enumerate_count c.into_iter-i-iterator.ensures.into_iter_gives ∙ c.enumerate-i-items.ensures.count in
    let t = numbered_turn c.into_iter-i-iterator.result rows e z c.loop-i.yielded _ c.loop-i.yielded_by c.next.result c.next.new.self c.in-Some.i c.in-Some.row c.in-Some.is c.next.ensures.steps in
    let y = c.if-is_taken.ensures ∙ ap (λ m. list_any (row_for c.in-Some.row.call m) (take c.in-Some.i (rows_left c.new-in-loop-i.result))) c.moment.ensures ∙ ap₂ (λ i rs. list_any (row_for c.in-Some.row.call (shown c.in-Some.row).moment) (take i rs)) t.1 c.new-in-loop-i.ensures in
    rw (length_push c.loop-i.yielded (c.in-Some.i, c.in-Some.row))
    (sym (apart_more c.args.states (length c.loop-i.yielded) rows (shown c.in-Some.row) t.0 t.2 y) ∙ c.loop-i.invariant)

pub returns : goal.returns
returns c =
    let rows = rows_of c.args.states c.args.file.now in
    let e = ap rows_left (ap enumerate_source c.into_iter-i-iterator.ensures.into_iter_gives ∙ c.enumerate-i-items.ensures.source) ∙ c.new.ensures in
    let z = ap enumerate_count c.into_iter-i-iterator.ensures.into_iter_gives ∙ c.enumerate-i-items.ensures.count in
    let l = numbered_end c.into_iter-i-iterator.result rows e z c.loop-i.yielded _ c.loop-i.yielded_by c.next.result c.next.new.self c.in-None.is c.next.ensures.steps in
    apart_end c.args.states (length c.loop-i.yielded) rows l ∙ c.loop-i.invariant

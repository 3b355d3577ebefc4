use Rattle.std.proofs.Common.{◌∙◌}
use Rattle.policy.proofs.Places.{piece_found, piece_missing}
use Rattle.policy.proofs.fields.due.Goals as goal

pub returns-in-Ok : goal.returns-in-Ok
returns-in-Ok c =
    piece_found c.args.holder.now _ c.args.tag c.args.at _ c.new-fields.ensures.holder c.new-fields.ensures.at c.in-Ok.contents.now
    c.place.result c.in-Ok.ensures.value (c.place.ensures ∙ c.due.ensures.at)

pub returns-in-Err : goal.returns-in-Err
returns-in-Err c =
    piece_missing c.args.holder.now _ c.args.tag c.args.at _ c.new-fields.ensures.holder c.new-fields.ensures.at _
    c.in-Err.ensures.value
